-- The core of the members of a core, as an instance of their own, is all of them.
use Rattle.std.proofs.Common.{◌≡◌, ◌≢◌, ℕ, ◌<◌, inl, inr, not, ◌==◌, List, [], ◌∷◌, ◌++◌, length, map, slice_index, refl, sym, ◌∙◌, subst, arith}
use Rattle.std.proofs.lemmas.List.{append-nil, length-map}
use Rattle.dsa_terms.specs.Buffers.{Instance, buffer}
use Rattle.dsa_terms.specs.Claims.{IsIn, Rises}
use Rattle.dsa_terms.specs.Layouts.{IsFeasible}
use Rattle.dsa_terms.specs.Parts.{numbers}
use Rattle.dsa_terms.proofs.Lists.{from_map, into_filter, right_append}
use Rattle.dsa_terms.proofs.NumberTests.{apart}
use Rattle.dsa_terms.proofs.Places.{in_at}
use Rattle.dsa_terms.proofs.Ranges.{below, rises-range}
use Rattle.dsa_model.specs.Chosen.{some_of}
use Rattle.core_find.specs.Cores.{AreAmong, IsCore, IsLeft, without}
use Rattle.core_find.proofs.Left.{core_does_not_fit, core_members, core_rest_fits, moved, rises_without, to_middle}
use Rattle.core_find.proofs.Some.{fewer_fit, rises_apart, rises_at, some_at}

-- ---- some of some
some_of_some : (I : Instance) (ms ks : List ℕ) → ((k : ℕ) → IsIn k ks → k < length ms) →
    some_of (some_of I ms) ks ≡ some_of I (map (slice_index ms) ks)
some_of_some I ms [] h = refl
some_of_some I ms (k ∷ ks) h = rw (some_at I ms k (h k (inl refl)), some_of_some I ms ks (λ j i. h j (inr i))) refl

chosen_rise : (ms ks : List ℕ) → Rises ms → Rises ks → ((k : ℕ) → IsIn k ks → k < length ms) →
    Rises (map (slice_index ms) ks)
chosen_rise ms [] r s h = tt
chosen_rise ms (k ∷ ks) r s h = (first, chosen_rise ms ks r s.1 (λ j i. h j (inr i)))
  where
    first : (y : ℕ) → IsIn y (map (slice_index ms) ks) → slice_index ms k < y
    first y i =
        let j = from_map (slice_index ms) ks y i in
        subst (λ n. slice_index ms k < n) (sym j.2) (rises_at ms k j.0 r (s.0 j.0 j.1) (h j.0 (inr j.1)))

-- each number of a rising list is apart from the others
apart_from : (xs ys : List ℕ) (x y : ℕ) → Rises (xs ++ x ∷ ys) → IsIn y (xs ++ ys) → y ≢ x
apart_from [] ys x y r i e = let lt = r.0 y i in omega arith
apart_from (z ∷ zs) ys x y r (inl q) e =
    let lt = r.0 x (right_append zs (x ∷ ys) x (inl refl)) in omega arith
apart_from (z ∷ zs) ys x y r (inr i) e = apart_from zs ys x y r.1 i e

-- ---- all are kept where the others fit without any one of them
all_kept : (K : Instance) (C : ℕ) (following kept : List ℕ) →
    ((xs ys : List ℕ) (x : ℕ) → kept ++ following ≡ xs ++ x ∷ ys → IsFeasible (some_of K (xs ++ ys)) C) →
    IsLeft K C kept following (kept ++ following)
all_kept K C [] kept h = append-nil kept
all_kept K C (x ∷ xs) kept h = inr (
  h kept xs x refl,
  subst (λ (ms : List ℕ). IsLeft K C (kept ++ x ∷ []) xs ms) (sym (moved kept xs x))
      (all_kept K C xs (kept ++ x ∷ []) (λ zs ys b e. h zs ys b (moved kept xs x ∙ e))),
)

rest_of_members : (I : Instance) (C : ℕ) (ms xs ys : List ℕ) (x : ℕ) → IsCore I C ms →
    numbers (length ms) ≡ xs ++ x ∷ ys → IsFeasible (some_of (some_of I ms) (xs ++ ys)) C
rest_of_members I C ms xs ys x core e =
    subst (λ (K : Instance). IsFeasible K C) (sym (some_of_some I ms (xs ++ ys) others))
    (fewer_fit I C (map (slice_index ms) (xs ++ ys)) (without (slice_index ms x) ms)
    (chosen_rise ms (xs ++ ys) rise (rises_without xs ys x rising) others) among
    (core_rest_fits I C (slice_index ms x) ms core (in_at ms x 0 here)))
  where
    rise : Rises ms
    rise = (core_members I C ms core).0

    rising : Rises (xs ++ x ∷ ys)
    rising = subst Rises e (rises-range (length ms) 0)

    within : (k : ℕ) → IsIn k (xs ++ x ∷ ys) → k < length ms
    within k i = below (length ms) k (subst (λ (ks : List ℕ). IsIn k ks) (sym e) i)

    here : x < length ms
    here = within x (right_append xs (x ∷ ys) x (inl refl))

    others : (k : ℕ) → IsIn k (xs ++ ys) → k < length ms
    others k i = within k (to_middle xs ys x k i)

    among : AreAmong (map (slice_index ms) (xs ++ ys)) (without (slice_index ms x) ms)
    among b i =
        let k = from_map (slice_index ms) (xs ++ ys) b i in
        let ne = rises_apart ms k.0 x rise (others k.0 k.1) here (apart_from xs ys x k.0 rising k.1) in
        subst (λ c. IsIn c (without (slice_index ms x) ms)) (sym k.2)
        (into_filter (λ c. not (c == slice_index ms x)) ms (slice_index ms k.0) (in_at ms k.0 0 (others k.0 k.1))
        (rw (apart (slice_index ms k.0) (slice_index ms x) ne) refl))

pub core_of_members : (I K : Instance) (C : ℕ) (ms : List ℕ) → IsCore I C ms → K ≡ some_of I ms →
    IsCore K C (numbers (length K))
core_of_members I K C ms core is = rw (is, length-map ms (buffer I)) record {
  infeasible = core_does_not_fit I C ms core;
  left = left;
}
  where
    left : IsLeft (some_of I ms) C [] (numbers (length (some_of I ms))) (numbers (length ms))
    left = rw (length-map ms (buffer I)) (all_kept (some_of I ms) C (numbers (length ms)) []
        (λ xs ys x e. rest_of_members I C ms xs ys x core e))
