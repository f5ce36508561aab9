use Rattle.std.proofs.Common.{◌≡◌, ◌*◌}
use Rattle.std.specs.String.{string_bytes}
use Rattle.make_instance.specs.Draws.{state_at}
use Rattle.make_instance.proofs.Growth.{text_to}
use Rattle.make_instance.proofs.made.make.Given as goal

abbrev pub invariant-loop-number : goal.invariant-loop-number
invariant-loop-number l = record {
  drawn : l.draws.state ≡ state_at l.seed (5 * l.number);
  written : string_bytes l.text ≡ text_to l.seed l.count l.number;
}
