-- The moments of the bounds of small instances: where the bound is reached first, and where more is live later.
use Rattle.std.proofs.Common.{◌≡◌, ℕ, zero, suc, ◌<◌, ◌≤◌, true, false, [], ◌∷◌, refl, arith}
use Rattle.std.proofs.lemmas.Bool.Decides.{nat_tests}
use Rattle.dsa_terms.specs.Bounds.{bound_modulus, counted, heights, highest_at, highest_stack, least_of, lower_bound, moduli, moments, stack}
use Rattle.dsa_terms.specs.Buffers.{Instance, IsLive, buffer, floor, is_live}
use Rattle.dsa_terms.proofs.Examples.{five, low, plain, small_below, two_of_four}
use Rattle.dsa_terms.specs.Logs.{is_stacked, rounded, rounding}
use Rattle.dsa_terms.specs.Claims.{up}
use Rattle.lower_bounds.specs.BoundMoment.{Gathers, HasAllOf, IsBoundMoment}
use Rattle.lower_bounds.proofs.FirstSection.{all_at_zero, at_zero}

-- ---- all buffers are live at 0
pub two_moment : IsBoundMoment two_of_four 0
unfolding bound_modulus least_of lower_bound highest_stack highest_at heights floor stack counted is_stacked rounded
    rounding up moduli moments is_live buffer
two_moment = all_at_zero two_of_four refl all
  where
    all : (b : ℕ) → b < 2 → IsLive (buffer two_of_four b) 0
    all zero lt = refl
    all (suc zero) lt = refl
    all (suc (suc b)) lt = absurd (omega arith)

pub below_moment : IsBoundMoment small_below 0
unfolding bound_modulus least_of lower_bound highest_stack highest_at heights floor stack counted is_stacked rounded
    rounding up moduli moments is_live buffer
below_moment = all_at_zero small_below refl all
  where
    all : (b : ℕ) → b < 2 → IsLive (buffer small_below b) 0
    all zero lt = refl
    all (suc zero) lt = refl
    all (suc (suc b)) lt = absurd (omega arith)

pub low_moment : IsBoundMoment low 0
unfolding bound_modulus least_of lower_bound highest_stack highest_at heights floor stack counted is_stacked rounded
    rounding up moduli moments is_live buffer
low_moment = all_at_zero low refl all
  where
    all : (b : ℕ) → b < 2 → IsLive (buffer low b) 0
    all zero lt = refl
    all (suc zero) lt = refl
    all (suc (suc b)) lt = absurd (omega arith)

-- ---- while the first of five is live, no other joins
from_nine : (u : ℕ) → is_live (plain 0 3 4 1) u ≡ true → is_live (plain 9 21 4 1) u ≡ true → ⊥
unfolding is_live
from_nine u p q = grind (arith, nat_tests)

from_three : (u : ℕ) → is_live (plain 0 3 4 1) u ≡ true → is_live (plain 3 9 4 1) u ≡ true → ⊥
unfolding is_live
from_three u p q = grind (arith, nat_tests)

five_at_zero : (u : ℕ) → HasAllOf five u 0 → HasAllOf five 0 u
unfolding is_live buffer
five_at_zero u h zero lt l = refl
five_at_zero u h (suc zero) lt l = absurd (from_three u (h 0 (omega arith) refl) l)
five_at_zero u h (suc (suc zero)) lt l = refl
five_at_zero u h (suc (suc (suc zero))) lt l = absurd (from_nine u (h 0 (omega arith) refl) l)
five_at_zero u h (suc (suc (suc (suc zero)))) lt l = refl
five_at_zero u h (suc (suc (suc (suc (suc b))))) lt l = absurd (omega arith)

pub five_moment : IsBoundMoment five 0
unfolding bound_modulus least_of lower_bound highest_stack highest_at heights floor stack counted is_stacked rounded
    rounding up moduli moments is_live buffer
five_moment = at_zero five refl five_at_zero

-- ---- two of size 5 aligned to eight come to 13 from 0 on, and at 1 a small one joins them, which starts their section
abbrev joined : Instance
joined = plain 0 2 5 8 ∷ plain 0 2 5 8 ∷ plain 1 2 1 1 ∷ []

all_at_one : (b : ℕ) → b < 3 → is_live (buffer joined b) 1 ≡ true
unfolding is_live buffer
all_at_one zero lt = refl
all_at_one (suc zero) lt = refl
all_at_one (suc (suc zero)) lt = refl
all_at_one (suc (suc (suc b))) lt = absurd (omega arith)

joined_moment : IsBoundMoment joined 1
unfolding bound_modulus least_of lower_bound highest_stack highest_at heights floor stack counted is_stacked rounded
    rounding up moduli moments is_live buffer
joined_moment = record {
  first = 0;
  reached = refl;
  none_before = λ u lt. absurd (omega arith);
  gathers = (omega arith, λ u a b c lt l. all_at_one c lt);
  most = λ u g b lt l. all_at_one b lt;
  less_before = less;
}
  where
    less : (u : ℕ) → 0 ≤ u → u < 1 → HasAllOf joined u 1 → ⊥
    less zero a lt h = let k : false ≡ true = h 2 (omega arith) refl in cc
    less (suc u) a lt h = absurd (omega arith)

not_the_first : IsBoundMoment joined 0 → ⊥
unfolding is_live buffer
not_the_first h = none h.first h.gathers.0 h.most
  where
    none : (t : ℕ) → t ≤ 0 → ((u : ℕ) → Gathers joined t u → HasAllOf joined 0 u) → ⊥
    none zero le most =
        let k : false ≡ true = most 1 (omega arith, λ u a b c lt l. all_at_one c lt) 2 (omega arith) refl in cc
    none (suc t) le most = absurd (omega arith)
