use Rattle.std.proofs.Common.{◌≡◌, ◌++◌}
use Rattle.std.specs.List.{flat_map}
use Rattle.dsa_terms.specs.Parts.{numbers}
use Rattle.layout_picture.specs.Texts.{moment_text}
use Rattle.layout_picture.proofs.frame.put_moments.Given as goal

abbrev pub invariant-loop-k : goal.invariant-loop-k
invariant-loop-k l = l.text.items ≡ l.fn.text.items ++ flat_map (moment_text l.scale l.moments) (numbers l.k)
