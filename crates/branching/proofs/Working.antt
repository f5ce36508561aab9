-- The work of a claim, and what is left of it.
use Rattle.std.proofs.Common.{◌≡◌, ◌≢◌, ℕ, ◌+◌, ◌≤◌, cond, List, [], ◌∷◌, None, is_some, refl, ◌∙◌}
use Rattle.branching.proofs.Words.{Instance, Claim, Entry, IsClaim, child, choices, first, is_tall, not_excluded, work, least_buffer}
use Rattle.dsa_search_laws.proofs.Search.{work_bounds, work_equation}
use Rattle.branching.specs.Trying.{through}
use Rattle.branching.proofs.Least.{none_least}

pub through_next : (I : Instance) (C : ℕ) (l : Claim) (e : Entry) (es : List Entry) →
    through I C l (e ∷ es) ≡ work I C (child I l e) + cond (is_some (first I C (child I l e))) 0 (through I C l es)
unfolding through
through_next I C l e es = refl

pub work_is : (I : Instance) (C : ℕ) (l : Claim) → IsClaim I l → l ≢ [] → None ≡ least_buffer (is_tall I C) l →
    work I C l ≡ 1 + through I C l (choices I (not_excluded I) l)
unfolding through
work_is I C l c ne none = work_equation I C l c ne ∙ (rw (none_least (is_tall I C) l none) refl)

pub some_work : (I : Instance) (C : ℕ) (l : Claim) → IsClaim I l → 1 ≤ work I C l
some_work I C l c = (work_bounds I C l c).0
