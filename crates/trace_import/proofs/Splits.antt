-- Bytes split at a mark.
use Rattle.std.proofs.Common.{◌≡◌, ◌∙◌, ◌+◌, ◌-◌, ◌∷◌, [], ℕ, Bool, true, false, cond, inl, inr, List, None, Some, drop, length, length-drop, nat_lt, position, refl, subst, sym, ap, take, arith}
use Rattle.std.proofs.Math.Seq.{take-length}
use Rattle.std.proofs.lemmas.List.{length-take-le}
use Rattle.std.proofs.lemmas.Bool.{cases_Bool}
use Rattle.std.proofs.lemmas.Iterator.Adapters.{position_from-zero}
use Rattle.std.proofs.lemmas.List.Splits.{slice_split_first}
use Rattle.std.specs.List.{list_all, onto_first, position_from, position_or_len, slice_split}
use Rattle.dsa_terms.proofs.NumberTests.{less}

module _ (p : ℕ → Bool) where
  -- at the first mark
  pub split_here : (xs : List ℕ) (place : ℕ) → position p xs ≡ Some place →
      slice_split p xs ≡ take place xs ∷ slice_split p (drop (place + 1) xs)
  split_here xs place e = go (nat_lt (position_or_len p xs) (length xs)) refl e
    where
      go : (b : Bool) → nat_lt (position_or_len p xs) (length xs) ≡ b →
          cond b (Some (position_or_len p xs)) None ≡ Some place →
          slice_split p xs ≡ take place xs ∷ slice_split p (drop (place + 1) xs)
      go true lt q =
          let at : position_or_len p xs ≡ place = cc in
          subst (λ n. slice_split p xs ≡ take n xs ∷ slice_split p (drop (n + 1) xs)) at
          (slice_split_first p xs 0 (less (position_or_len p xs) (length xs) lt))
      go false lt q = absurd cc

  none_from : (i : ℕ) (xs : List ℕ) → position_from p i xs ≡ None → slice_split p xs ≡ xs ∷ []
  none_from i [] e = refl
  none_from i (x ∷ xs) e = elim (cases_Bool (p x)) [
    | inl marked ↦ absurd (let k = rw marked at e in cc)
    | inr plain ↦ rw plain (ap (onto_first x) (none_from (i + 1) xs (rw plain at e)))
  ]

  -- without a mark
  pub split_none : (xs : List ℕ) → position p xs ≡ None → slice_split p xs ≡ xs ∷ []
  split_none xs e = none_from 0 xs (sym (position_from-zero p xs) ∙ e)

  -- there is a first piece
  pub first_piece : (xs : List ℕ) → (first : List ℕ) × ((rest : List (List ℕ)) × (slice_split p xs ≡ first ∷ rest))
  first_piece [] = ([], ([], refl))
  first_piece (x ∷ xs) = elim (cases_Bool (p x)) [
    | inl marked ↦ ([], (slice_split p xs, rw marked refl))
    | inr plain ↦ (let r = first_piece xs in (x ∷ r.0, (r.1.0, rw plain (ap (onto_first x) r.1.1))))
  ]

  -- a piece that is alone is the whole
  pub one_piece : (xs piece : List ℕ) → slice_split p xs ≡ piece ∷ [] → piece ≡ xs
  one_piece [] piece e = cc
  one_piece (x ∷ xs) piece e = go (p x) refl (first_piece xs) (one_piece xs) e
    where
      rest : (first : List ℕ) (others : List (List ℕ)) → slice_split p xs ≡ first ∷ others →
          ((other : List ℕ) → slice_split p xs ≡ other ∷ [] → other ≡ xs) →
          onto_first x (slice_split p xs) ≡ piece ∷ [] → piece ≡ x ∷ xs
      rest first [] s ih k =
          let same : first ≡ xs = ih first s in
          let q : (x ∷ first) ∷ [] ≡ piece ∷ [] = sym (ap (onto_first x) s) ∙ k in cc
      rest first (other ∷ others) s ih k =
          let q : (x ∷ first) ∷ other ∷ others ≡ piece ∷ [] = sym (ap (onto_first x) s) ∙ k in absurd cc

      go : (b : Bool) → p x ≡ b → (first : List ℕ) × ((others : List (List ℕ)) × (slice_split p xs ≡ first ∷ others)) →
          ((other : List ℕ) → slice_split p xs ≡ other ∷ [] → other ≡ xs) →
          cond b ([] ∷ slice_split p xs) (onto_first x (slice_split p xs)) ≡ piece ∷ [] → piece ≡ x ∷ xs
      go true m r ih k = let s = r.1.1 in absurd cc
      go false m r ih k = rest r.0 r.1.0 r.1.1 ih k

  -- bytes that all pass a test that no mark passes are one piece
  pub unmarked : (q : ℕ → Bool) → ((c : ℕ) → q c ≡ true → p c ≡ false) → (xs : List ℕ) → list_all q xs ≡ true →
      slice_split p xs ≡ xs ∷ []
  unmarked q h [] e = refl
  unmarked q h (x ∷ xs) e = elim (cases_Bool (q x)) [
    | inl passes ↦ rw (h x passes) (ap (onto_first x) (unmarked q h xs (rw passes at e)))
    | inr fails ↦ absurd (let k = rw fails at e in cc)
  ]

  -- what stands round the mark is shorter
  pub split_shorter : (xs : List ℕ) (place : ℕ) → position p xs ≡ Some place →
      length xs ≡ length (take place xs) + 1 + length (drop (place + 1) xs)
  split_shorter xs place e = go (nat_lt (position_or_len p xs) (length xs)) refl e
    where
      go : (b : Bool) → nat_lt (position_or_len p xs) (length xs) ≡ b →
          cond b (Some (position_or_len p xs)) None ≡ Some place →
          length xs ≡ length (take place xs) + 1 + length (drop (place + 1) xs)
      go true lt q =
          let at : position_or_len p xs ≡ place = cc in
          let within = less (position_or_len p xs) (length xs) lt in
          let a : length (take place xs) ≡ place = length-take-le place xs (omega arith) in
          let b = length-drop (place + 1) xs in
          omega arith
      go false lt q = absurd cc

-- all that is left
pub rest_whole : (n : ℕ) (xs : List ℕ) → take (length xs - n) (drop n xs) ≡ drop n xs
rest_whole n xs = rw (← length-drop n xs) (take-length (drop n xs))
