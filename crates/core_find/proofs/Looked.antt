-- The members that are looked at in order, one after another.
use Rattle.std.proofs.Common.{◌≡◌, ℕ, suc, ◌+◌, ◌-◌, ◌<◌, ◌≤◌, ◌⊎◌, inl, inr, List, [], ◌∷◌, ◌++◌, length, length-append, map, take, drop, slice_index_or, All, refl, sym, ap, ◌∙◌, subst, arith, add-one}
use Rattle.std.proofs.Math.Seq.{drop-length, get_or-append_seam, take-length}
use Rattle.std.proofs.lemmas.List.{drop_more, get_or-map, get_or_append_left, length-map, take_more}
use Rattle.std.proofs.lemmas.List.Edits.{length-remove}
use Rattle.std.specs.List.{remove}
use Rattle.dsa_terms.specs.Buffers.{Instance, buffer}
use Rattle.dsa_terms.specs.Layouts.{IsFeasible, IsInfeasible, IsLayout}
use Rattle.dsa_terms.specs.Parts.{numbers}
use Rattle.dsa_terms.proofs.NumberTests.{below_or_last}
use Rattle.dsa_terms.proofs.Places.{all_from_in, any_default}
use Rattle.dsa_terms.proofs.Ranges.{below, rises-range}
use Rattle.dsa_model.specs.Chosen.{some_of}
use Rattle.core_find.specs.Cores.{IsCore, IsLeft}
use Rattle.core_find.specs.Found.{AreRests}
use Rattle.core_find.specs.Looking.{IsLooked}
use Rattle.core_find.proofs.Removed.{after_removed, all_removed, before_removed, removed_layout, removed_twice, rises_removed, some_removed}

-- ---- at the start no member is looked at
pub none_looked : (I : Instance) (C : ℕ) (members : List ℕ) (rests : List (List ℕ)) →
    members ≡ numbers (length I) → rests ≡ [] → IsLooked I C members rests (length rests)
none_looked I C members rests all none = rw (all, none) record {
  rises = rises-range (length I) 0;
  in_range = all_from_in (λ b. b < length I) (numbers (length I)) (λ b i. below (length I) b i);
  within = omega arith;
  rests = record { count = refl; each = λ k lt. absurd (omega arith) };
  left = λ ms l. l;
}

-- ---- one more is kept
pub kept_next : (I : Instance) (C : ℕ) (members : List ℕ) (rests more : List (List ℕ)) (rest : List ℕ) (place : ℕ) →
    place < length members → IsLayout (some_of I (remove members place)) C rest →
    more ≡ rests ++ rest ∷ [] → IsLooked I C members rests place → IsLooked I C members more (place + 1)
kept_next I C members rests more rest place lt layout is h = rw is record {
  rises = h.rises;
  in_range = h.in_range;
  within = omega arith;
  rests = record { count = counted; each = λ k lk. each k (below_or_last k place lk) };
  left = λ ms l. h.left ms (left ms l);
}
  where
    counted : length (rests ++ rest ∷ []) ≡ place + 1
    counted = let a = length-append rests (rest ∷ []) in let b = h.rests.count in omega arith

    each : (k : ℕ) → (k < place) ⊎ (k ≡ place) →
        IsLayout (some_of I (remove members k)) C (slice_index_or (rests ++ rest ∷ []) k [])
    each k (inl l) =
        let within : k < length rests = rw h.rests.count l in
        rw (get_or_append_left rests (rest ∷ []) [] k within) (h.rests.each k l)
    each k (inr q) = rw (q, last) layout
      where
        last : slice_index_or (rests ++ rest ∷ []) place [] ≡ rest
        last = subst (λ n. slice_index_or (rests ++ rest ∷ []) n [] ≡ rest) h.rests.count
            (get_or-append_seam rests rest [] [])

    left : (ms : List ℕ) → IsLeft I C (take (place + 1) members) (drop (place + 1) members) ms →
        IsLeft I C (take place members) (drop place members) ms
    left ms l =
        let fits : IsFeasible (some_of I (take place members ++ drop (place + 1) members)) C =
        rw add-one (rest, layout) in
        rw (drop_more members place 0 lt) (inr (fits, rw (← take_more members place 0 lt) l))

-- ---- one is dropped
pub drop_next : (I : Instance) (C : ℕ) (members fewer : List ℕ) (rests less : List (List ℕ)) (place : ℕ) →
    place < length members → fewer ≡ remove members place → IsInfeasible (some_of I fewer) C →
    less ≡ map (λ (rest : List ℕ). remove rest (place - 1)) rests → IsLooked I C members rests place →
    IsLooked I C fewer less place
drop_next I C members fewer rests less place lt few none is h = rw is record {
  rises = rw few (rises_removed members place lt h.rises);
  in_range = rw few (all_removed (λ b. b < length I) members place lt h.in_range);
  within = rw few (let a = long in omega arith);
  rests = record { count = length-map rests _ ∙ h.rests.count; each = each };
  left = λ ms l. h.left ms (left ms l);
}
  where
    long : length (remove members place) + 1 ≡ length members
    long = length-remove members place lt

    each : (k : ℕ) → k < place → IsLayout (some_of I (remove fewer k)) C
        (slice_index_or (map (λ (rest : List ℕ). remove rest (place - 1)) rests) k [])
    each k lk =
        let there : k < length rests = rw h.rests.count lk in
        let one = length-remove members k (omega (arith, lt, lk)) in
        let earlier : place - 1 < length (remove members k) = omega (arith, one, lt, lk) in
        let within : place - 1 < length (some_of I (remove members k)) =
        rw (length-map (remove members k) (buffer I)) earlier in
        rw (
          few,
          removed_twice members k place lk lt,
          some_removed I (remove members k) (place - 1) earlier,
          get_or-map (λ (rest : List ℕ). remove rest (place - 1)) rests k [] [] there,
        )
        (removed_layout (some_of I (remove members k)) C (place - 1) (slice_index_or rests k []) within
        (h.rests.each k lk))

    rest : (ms : List ℕ) → IsLeft I C (take place fewer) (drop place fewer) ms →
        IsLeft I C (take place members) (drop (place + 1) members) ms
    rest ms l =
        let next : suc place ≡ place + 1 = omega arith in
        subst (λ (xs : List ℕ). IsLeft I C xs (drop (place + 1) members) ms) (before_removed members place lt)
        (subst (λ (xs : List ℕ). IsLeft I C (take place (remove members place)) xs ms)
        (after_removed members place lt ∙ ap (λ n. drop n members) next)
        (subst (λ (xs : List ℕ). IsLeft I C (take place xs) (drop place xs) ms) few l))

    left : (ms : List ℕ) → IsLeft I C (take place fewer) (drop place fewer) ms →
        IsLeft I C (take place members) (drop place members) ms
    left ms l =
        let others : IsInfeasible (some_of I (take place members ++ drop (place + 1) members)) C =
        rw add-one (subst (λ (xs : List ℕ). IsInfeasible (some_of I xs) C) few none) in
        rw (drop_more members place 0 lt) (inl (others, rest ms l))

-- each layout of the others has an offset at the place of the member that is dropped
pub has_place : (I : Instance) (C : ℕ) (members : List ℕ) (rests : List (List ℕ)) (place : ℕ) →
    place < length members → IsLooked I C members rests place →
    All (λ (rest : List ℕ). place ≤ length rest) rests
has_place I C members rests place lt h k d lk =
    let within : k < place = rw (← h.rests.count) lk in
    let one = length-remove members k (omega (arith, lt, within)) in
    let count = (h.rests.each k within).count in
    let all = length-map (remove members k) (buffer I) in
    let same : length (slice_index_or rests k d) ≡ length (slice_index_or rests k []) =
    ap length (any_default rests k d [] lk) in
    omega (arith, one, count, all, same, lt)

-- as many are looked at as there are layouts
pub by_layouts : (I : Instance) (C : ℕ) (members : List ℕ) (rests : List (List ℕ)) (place : ℕ) →
    IsLooked I C members rests place → IsLooked I C members rests (length rests)
by_layouts I C members rests place h = subst (λ n. IsLooked I C members rests n) (sym h.rests.count) h

-- ---- at the end all are looked at
pub all_looked : (I : Instance) (C : ℕ) (members : List ℕ) (rests : List (List ℕ)) (place : ℕ) →
    length members ≤ place → IsInfeasible I C → IsLooked I C members rests place →
    IsCore I C members × AreRests I C members rests (length members)
all_looked I C members rests place end none h = (
  record { infeasible = none; left = h.left members last },
  subst (λ n. AreRests I C members rests n) all h.rests,
)
  where
    all : place ≡ length members
    all = let w = h.within in omega (arith, w, end)

    last : IsLeft I C (take place members) (drop place members) members
    last = rw (all, take-length members, drop-length members) refl
