-- A right answer settles the capacity.
use Rattle.std.proofs.Common.{ℕ, subst}
use Rattle.dsa_terms.specs.Buffers.{Instance, IsInstance}
use Rattle.dsa_terms.specs.Layouts.{IsInfeasible}
use Rattle.dsa_search_laws.proofs.Logs.{accepted_is_infeasible}
use Rattle.refute_log.specs.Decided.{IsRight, Settles}
use Rattle.refute_log.specs.declared.decided.Decided.{Decided}
use Rattle.refute_log.specs.declared.decided.Decided.TheVariants.{Layout, Refuted, Spent}

pub right_settles : (I : Instance) (C : ℕ) (d : Decided) → IsInstance I → IsRight I C d → Settles I C d
right_settles I C (Layout offsets) s h = (offsets.items, h)
right_settles I C (Refuted log) s h =
    let P : ℕ → Type 0 = IsInfeasible I in subst P h.1 (accepted_is_infeasible I log s h.0)
right_settles I C Spent s h = tt
