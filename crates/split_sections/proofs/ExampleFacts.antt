-- The definitions at small instances.
use Rattle.std.proofs.Common.{◌≡◌, ℕ, zero, suc, ◌<◌, ◌≤◌, inl, inr, [], ◌∷◌, List, refl, lit<, lit≤, arith}
use Rattle.dsa_terms.specs.Buffers.{Buffer, Instance, buffer}
use Rattle.dsa_terms.specs.Claims.{IsIn}
use Rattle.dsa_terms.specs.Parts.{is_cut, part_of, parts, is_leader, are_parted, are_uncut}
use Rattle.dsa_model.specs.Lists.{pair_at}
use Rattle.dsa_search_laws.specs.PartsByTime.{last_cut, start_of}
use Rattle.split_sections.specs.PartList.{AreInRange, IsPart}
use Rattle.split_sections.specs.Sweep.{BeginsAt, IsRun, lower_entry}
use Rattle.split_sections.proofs.Kept.{in_range_at}

abbrev pub lives : ℕ → ℕ → Buffer
lives lower upper = record { lower = lower; upper = upper; size = 1; alignment = 1; gaps = []; lowest = 0 }

-- the second and the third touch, the first comes last
abbrev pub three : Instance
three = lives 5 7 ∷ lives 0 3 ∷ lives 3 5 ∷ []

three_parts : parts three ≡ (1 ∷ []) ∷ (2 ∷ []) ∷ (0 ∷ []) ∷ []
unfolding parts part_of is_leader are_uncut are_parted is_cut buffer
three_parts = refl

entry_of_first : lower_entry three 0 ≡ (5, 0)
unfolding buffer
entry_of_first = refl

abbrev pub order : List (ℕ × ℕ)
order = (0, 1) ∷ (3, 2) ∷ (5, 0) ∷ []

-- the second of the order begins where the first ends
second_begins : BeginsAt three order 1
unfolding buffer
second_begins zero lt = omega arith
second_begins (suc k) lt = absurd (omega arith)

-- the first holds on at 2, where the second begins
holds_on : BeginsAt (lives 0 3 ∷ lives 2 5 ∷ []) ((0, 0) ∷ (2, 1) ∷ []) 1 → ⊥
unfolding buffer
holds_on h = let k = h 0 (lit< tt) in omega (arith, k)

first_is_run : IsRun three order 0 1
unfolding start_of last_cut is_cut buffer
first_is_run = record { some = omega arith; within = omega arith; same = same; ended = λ _. second_begins }
  where
    same : (k : ℕ) → 0 ≤ k → k < 1 → start_of three (pair_at order k).1 ≡ (pair_at order 0).0
    same zero le lt = refl
    same (suc k) le lt = absurd (omega arith)

-- the second is of another part
two_parts_are_no_run : IsRun three order 0 2 → ⊥
unfolding start_of last_cut is_cut buffer
two_parts_are_no_run h = let k = h.same 1 (lit≤ tt) (lit< tt) in omega (arith, k)

-- ---- parts
pub rising_part : IsPart (0 ∷ 2 ∷ [])
rising_part = record { rises = (above, ((λ y i. absurd i), tt)); not_empty = λ e. cc }
  where
    above : (y : ℕ) → IsIn y (2 ∷ []) → 0 < y
    above y (inl e) = omega arith
    above y (inr i) = absurd i

not_falling : IsPart (2 ∷ 0 ∷ []) → ⊥
not_falling p = let k = p.rises.0 0 (inl refl) in omega arith

not_twice : IsPart (1 ∷ 1 ∷ []) → ⊥
not_twice p = let k = p.rises.0 1 (inl refl) in omega arith

pub not_empty : IsPart [] → ⊥
not_empty p = p.not_empty refl

-- the last part is that of buffer 0, and there is no buffer 3
last_in_range : AreInRange (parts three) (0 ∷ [])
last_in_range I e = in_range_at (parts three) 2 (0 ∷ []) (rw three_parts (omega arith)) (rw three_parts refl) I e

none_out_of_range : AreInRange (parts three) (3 ∷ []) → ⊥
none_out_of_range h = let k = h three refl 0 0 (omega arith) in omega arith
