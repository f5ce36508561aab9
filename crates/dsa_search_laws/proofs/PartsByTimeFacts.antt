-- Where parts begin, what lies between buffers, and what is so of a buffer without a lifetime.
use Rattle.std.proofs.Common.{◌≡◌, ℕ, ◌≤◌, [], ◌∷◌, true, map, sym, refl, ap, ◌∙◌, arith}
use Rattle.dsa_terms.specs.Buffers.{Instance, buffer}
use Rattle.dsa_terms.specs.Parts.{is_cut, are_parted, are_uncut, part_of, is_leader, parts}
use Rattle.dsa_terms.proofs.Examples.{plain, five, two_parts}
use Rattle.dsa_search_laws.specs.PartsByTime.{last_cut, start_of, members, parts_by_time, Separates, IsUncut}

-- ---- the last cuts, and where the parts begin
last_cuts : map (last_cut two_parts) (0 ∷ 1 ∷ 2 ∷ 3 ∷ 9 ∷ []) ≡ 0 ∷ 0 ∷ 2 ∷ 3 ∷ 9 ∷ []
unfolding last_cut is_cut
last_cuts = refl

starts : map (start_of two_parts) (0 ∷ 1 ∷ 2 ∷ 3 ∷ []) ≡ 0 ∷ 2 ∷ 2 ∷ 2 ∷ []
unfolding start_of last_cut is_cut buffer
starts = refl

members_at : map (members two_parts) (0 ∷ 1 ∷ 2 ∷ []) ≡ (0 ∷ []) ∷ [] ∷ (1 ∷ 2 ∷ 3 ∷ []) ∷ []
unfolding start_of last_cut is_cut buffer
members_at = refl

both_parts : parts_by_time two_parts ≡ (0 ∷ []) ∷ (1 ∷ 2 ∷ 3 ∷ []) ∷ []
unfolding parts_by_time start_of last_cut is_cut buffer
both_parts = refl

-- ---- a cut at 2 separates a buffer of 0..2 from one of 2..3, and not the other way round; one at 1 does not
cut_at_2 : Separates 2 (plain 0 2 1 1) (plain 2 3 1 2)
cut_at_2 = (omega arith, omega arith)

cut_backwards : Separates 2 (plain 2 3 1 2) (plain 0 2 1 1) → ⊥
cut_backwards s = let h = s.0 in omega arith

cut_at_1 : Separates 1 (plain 0 2 1 1) (plain 2 3 1 2) → ⊥
cut_at_1 s = let h = s.0 in omega arith

cut_at_3 : Separates 3 (plain 0 2 1 1) (plain 2 3 1 2) → ⊥
cut_at_3 s = let h = s.1 in omega arith

-- 0..3 is followed by 3..9, and a third one is live before 3 and at 3, so that 3 is no cut
followed_uncut : IsUncut five 0 1
unfolding is_cut buffer
followed_uncut = record { forth = λ t c s. forth t c s.0 s.1; back = λ t c s. back t s.0 s.1 }
  where
    at : (t : ℕ) → 3 ≤ t → t ≤ 3 → t ≡ 3
    at t a b = omega arith

    forth : (t : ℕ) → is_cut five t ≡ true → 3 ≤ t → t ≤ 3 → ⊥
    forth t c a b = let h : is_cut five 3 ≡ true = ap (is_cut five) (sym (at t a b)) ∙ c in cc

    back : (t : ℕ) → 9 ≤ t → t ≤ 0 → ⊥
    back t a b = omega arith

-- 2 is a cut between the first buffer and the second of two parts
cut_between : IsUncut two_parts 0 1 → ⊥
unfolding is_cut buffer
cut_between u = u.forth 2 refl (omega arith, omega arith)

cut_before : IsUncut two_parts 3 0 → ⊥
unfolding is_cut buffer
cut_before u = u.back 2 refl (omega arith, omega arith)

-- ---- a buffer that ends where it begins, which is no instance, has a part all the same
abbrev nowhere : Instance
nowhere = plain 0 0 1 1 ∷ []

own_part : parts nowhere ≡ (0 ∷ []) ∷ []
unfolding parts part_of is_leader are_uncut are_parted is_cut buffer
own_part = refl

one_at_0 : parts_by_time nowhere ≡ (0 ∷ []) ∷ []
unfolding parts_by_time start_of last_cut is_cut buffer
one_at_0 = refl
