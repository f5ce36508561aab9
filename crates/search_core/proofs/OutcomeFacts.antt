-- Facts that hold unless the budget is spent.
use Rattle.std.proofs.Common.{ℕ}
use Rattle.std.specs.Global.{Vec}
use Rattle.search_core.proofs.Words.{Log}
use Rattle.refute_log.specs.declared.decided.Decided.TheVariants.{Layout, Refuted, Spent}
use Rattle.search_core.specs.Outcomes.{UnlessSpent}

holds_with_offsets : (offsets : Vec ℕ) → UnlessSpent ⊥ (Layout offsets) → ⊥
holds_with_offsets offsets h = h

holds_with_log : (log : Log) → UnlessSpent ⊥ (Refuted log) → ⊥
holds_with_log log h = h

nothing_once_spent : UnlessSpent ⊥ Spent
nothing_once_spent = tt
