-- Searches of small claims without exclusions, heights, the most work, buffers of one part, and entries in order.
use Rattle.std.proofs.Common.{◌≡◌, ℕ, inl, inr, true, List, [], ◌∷◌, map, Some, None, subst, refl}
use Rattle.dsa_terms.specs.Buffers.{is_live, buffer, do_share, some_before}
use Rattle.dsa_terms.specs.Claims.{Claim, Entry, IsIn, up, step, child}
use Rattle.dsa_terms.specs.Sorts.{IsOrdered}
use Rattle.dsa_terms.specs.Search.{is_tall, comes_before, first_of}
use Rattle.dsa_terms.specs.Parts.{is_cut, part_of, parts, is_leader, are_parted, are_uncut}
use Rattle.dsa_terms.proofs.Examples.{evens, two_parts}
use Rattle.dsa_search_laws.specs.Searches.{all_taken, plain_first, height, most_work}
use Rattle.dsa_search_laws.specs.Together.{AreTogether}

-- two of size 1 at even offsets and one of size 2, all with the bound 0
abbrev all_three : Claim
all_three = (0, 0) ∷ (1, 0) ∷ (2, 0) ∷ []

-- ---- which are taken: 1 has the twin 0
taken_by_all : map (all_taken all_three) all_three ≡ true ∷ true ∷ true ∷ []
taken_by_all = refl

-- ---- answers and work: no buffers have the empty answer, and one claim is looked at
first_of_none : first_of all_taken 0 evens 0 [] ≡ Some []
first_of_none = refl

evens_plain : plain_first evens 5 ((0, 0) ∷ (1, 0) ∷ (2, 0) ∷ []) ≡ Some ((0, 0) ∷ (1, 4) ∷ (2, 1) ∷ [])
unfolding plain_first is_tall comes_before child up step do_share some_before is_live buffer
evens_plain = refl

evens_plain_none : plain_first evens 4 ((0, 0) ∷ (1, 0) ∷ (2, 0) ∷ []) ≡ None
unfolding plain_first is_tall comes_before child up step do_share some_before is_live buffer
evens_plain_none = refl

seats_height : height evens ((0, 2) ∷ (1, 4) ∷ (2, 0) ∷ []) ≡ 5
unfolding buffer
seats_height = refl

most_works : map most_work (0 ∷ 1 ∷ 2 ∷ 3 ∷ []) ≡ 1 ∷ 2 ∷ 5 ∷ 16 ∷ []
most_works = refl

-- the second and the last are in one part, the first and the second in two
one_part : AreTogether two_parts 3 1
unfolding parts part_of is_leader are_uncut are_parted is_cut buffer
one_part = record {
  part = 1 ∷ 2 ∷ 3 ∷ [];
  is_part = inr (inl refl);
  has_first = inr (inr (inl refl));
  has_second = inl refl;
}

other_parts : AreTogether two_parts 0 1 → ⊥
unfolding parts part_of is_leader are_uncut are_parted is_cut buffer
other_parts t = close t.part t.is_part t.has_first t.has_second
  where
    not_in_first : IsIn {X = ℕ} 1 (0 ∷ []) → ⊥
    not_in_first (inl q) = cc
    not_in_first (inr i) = i

    not_in_second : IsIn {X = ℕ} 0 (1 ∷ 2 ∷ 3 ∷ []) → ⊥
    not_in_second (inl q) = cc
    not_in_second (inr (inl q)) = cc
    not_in_second (inr (inr (inl q))) = cc
    not_in_second (inr (inr (inr i))) = i

    close : (p : List ℕ) → IsIn p ((0 ∷ []) ∷ (1 ∷ 2 ∷ 3 ∷ []) ∷ []) → IsIn {X = ℕ} 0 p → IsIn {X = ℕ} 1 p → ⊥
    close p (inl q) h k = not_in_first (subst (λ (r : List ℕ). IsIn 1 r) q k)
    close p (inr (inl q)) h k = not_in_second (subst (λ (r : List ℕ). IsIn 0 r) q h)
    close p (inr (inr i)) h k = i

-- ---- in order: by the ups 1 and 2, and by the numbers of equal ups
up_first : IsOrdered (comes_before evens) ((2, 1) ∷ (0, 1) ∷ (1, 2) ∷ [])
unfolding comes_before up buffer
up_first = (from_two, (from_zero, ((λ f i. absurd i), tt)))
  where
    from_two : (f : Entry) → IsIn f ((0, 1) ∷ (1, 2) ∷ []) → comes_before evens (2, 1) f ≡ true
    from_two f (inl q) = rw q refl
    from_two f (inr (inl q)) = rw q refl
    from_two f (inr (inr i)) = absurd i

    from_zero : (f : Entry) → IsIn f ((1, 2) ∷ []) → comes_before evens (0, 1) f ≡ true
    from_zero f (inl q) = rw q refl
    from_zero f (inr i) = absurd i

number_last : IsOrdered (comes_before evens) ((1, 2) ∷ (0, 1) ∷ []) → ⊥
unfolding comes_before up buffer
number_last o = let h = o.0 (0, 1) (inl refl) in cc
