use Rattle.std.proofs.Common.{◌≡◌, ◌<◌, ℕ, false}
use Rattle.dsa_terms.specs.Buffers.{buffer}
use Rattle.size_classes.specs.Plain.{is_rough}
use Rattle.size_classes.proofs.plain.first_rough.Given as goal

abbrev pub invariant-loop-b : goal.invariant-loop-b
invariant-loop-b l = (c : ℕ) → c < l.b → is_rough (buffer l.instance c) ≡ false
