-- The decider of the tests, and a buffer of size 12 that it could be of.
use Rattle.std.proofs.Common.{◌≡◌, ℕ, ◌+◌, ◌<◌, ◌≤◌, ◌≢◌, zero, suc, [], ◌∷◌, slice_index, take, slice_get, inl, inr, Some, None, refl, ap, subst, lit<, lit≤, arith}
use Rattle.dsa_terms.specs.Buffers.{Instance, IsLive, buffer, floor, is_live}
use Rattle.dsa_terms.specs.Claims.{Claim, Entry, IsClaim, IsIn, up}
use Rattle.dsa_terms.specs.Layouts.{IsApart, IsLayout, IsMultiple}
use Rattle.dsa_terms.specs.Logs.{is_stacked, IsAccepted, IsLegal, IsOver, Line, Log, Over, rounded, rounding}
use Rattle.dsa_terms.specs.Plans.{layout_height}
use Rattle.search_tests.specs.Prepared.{AreRight, IsOfTwelve, PreparedValue, twelve_from_twelve}

at_12 : twelve_from_twelve 12 ≡ Some 12
at_12 = refl

at_13 : twelve_from_twelve 13 ≡ Some 12
at_13 = refl

at_11 : twelve_from_twelve 11 ≡ None
at_11 = refl

abbrev twelve : Instance
twelve = record { lower = 0; upper = 1; size = 12; alignment = 1; gaps = []; lowest = 0 } ∷ []

unspent : PreparedValue
unspent = record { subject = twelve; spends = 0 }

-- ---- a layout of height 12
twelve_high : layout_height twelve (0 ∷ []) ≡ 12
unfolding layout_height buffer
twelve_high = refl

laid_at_12 : IsLayout twelve 12 (0 ∷ [])
unfolding buffer
laid_at_12 = record { count = refl; aligned = aligned; above = above; within = within; apart = apart }
  where
    above : (b : ℕ) → b < 1 → (buffer twelve b).lowest ≤ slice_index (0 ∷ []) b
    above zero lt = lit≤ tt
    above (suc b) lt = absurd (omega arith)

    aligned : (b : ℕ) → b < 1 → IsMultiple (slice_index (0 ∷ []) b) (buffer twelve b).alignment
    aligned zero lt = refl
    aligned (suc b) lt = absurd (omega arith)

    within : (b : ℕ) → b < 1 → slice_index (0 ∷ []) b + (buffer twelve b).size ≤ 12
    within zero lt = lit≤ tt
    within (suc b) lt = absurd (omega arith)

    apart : (b c t : ℕ) → b < 1 → c < 1 → b ≢ c → IsLive (buffer twelve b) t → IsLive (buffer twelve c) t →
        IsApart (buffer twelve b) (slice_index (0 ∷ []) b) (buffer twelve c) (slice_index (0 ∷ []) c)
    apart b c t lt less other i j = absurd (other (omega arith))

of_twelve : IsOfTwelve twelve (0 ∷ [])
of_twelve = record { layout = laid_at_12; height = twelve_high }

-- one byte higher
not_of_thirteen : IsOfTwelve twelve (1 ∷ []) → ⊥
unfolding layout_height buffer
not_of_thirteen h = let k = h.height in omega (arith, k)

-- ---- the log at 11
abbrev it : Claim
it = (0, 0) ∷ []

abbrev eleven : Log
eleven = record { count = 1; capacity = 11; lines = Over it 0 0 1 ∷ []; final = 0 }

over_eleven : IsOver twelve 11 0 0 1 it
unfolding is_stacked is_live up buffer rounded rounding
over_eleven = record { modulus = lit≤ tt; from_multiple = refl; some_stacked = λ e. cc; too_high = lit< tt }

it_is_claim : IsClaim twelve it
it_is_claim = record { rises = (above, tt); in_range = ranges }
  where
    above : (y : ℕ) → IsIn y [] → 0 < y
    above y e = absurd e

    ranges : (e : Entry) → IsIn e it → e.0 < 1
    ranges e (inl h) = let k = ap (λ (f : Entry). f.0) h in omega arith
    ranges e (inr h) = absurd h

eleven_accepted : IsAccepted twelve eleven
eleven_accepted = record { same_count = refl; legal = legal; whole = (Over it 0 0 1, refl, zeros) }
  where
    line_legal : IsLegal twelve 11 [] (Over it 0 0 1)
    line_legal = record { claim = it_is_claim; not_empty = λ e. cc; reason = over_eleven }

    legal : (k : ℕ) (line : Line) → slice_get eleven.lines k ≡ Some line → IsLegal twelve 11 (take k eleven.lines) line
    legal zero line e = let s : Over it 0 0 1 ≡ line = cc in subst (IsLegal twelve 11 []) s line_legal
    legal (suc k) line e = absurd cc

    zeros : (e : Entry) → IsIn e it → e.1 ≤ floor (buffer twelve e.0)
    zeros e (inl h) = let z : e.1 ≡ 0 = ap (λ (f : Entry). f.1) h in omega (arith, z)
    zeros e (inr h) = absurd h

both_right : AreRight twelve (0 ∷ []) eleven
both_right = record { of_twelve = of_twelve; accepted = eleven_accepted; its_capacity = refl }

-- a log at another capacity
not_at_ten : AreRight twelve (0 ∷ []) (record eleven { capacity = 10 }) → ⊥
not_at_ten h = let k = h.its_capacity in omega (arith, k)
