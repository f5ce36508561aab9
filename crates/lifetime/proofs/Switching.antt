-- Putting numbers into rising lists and taking them out.
use Rattle.std.proofs.Common.{◌≡◌, ◌≢◌, ◌↔◌, ℕ, zero, suc, ◌<◌, ◌≤◌, ◌⊎◌, inl, inr, Bool, true, false, IsTrue, not, List, [], ◌∷◌, ◌++◌, length, filter, take, drop, slice_index_or, Ok, Err, refl, sym, ap, ◌∙◌, subst, arith}
use Rattle.std.proofs.lemmas.Bool.Decides.{nat_tests}
use Rattle.std.proofs.lemmas.Cmp.{ranked}
use Rattle.std.proofs.lemmas.List.Sorted.{IsNonDecreasingBy-from_default}
use Rattle.std.specs.List.{insert, remove}
use Rattle.std.specs.List.Sorted.{IsBinarySearchResult, IsNonDecreasingBy, IsSearchInRange}
use Rattle.std.specs.Ordering.{nat_cmp, ordering_index}
use Rattle.dsa_terms.specs.Claims.{IsIn, Rises}
use Rattle.dsa_terms.specs.Parts.{has, numbers}
use Rattle.dsa_terms.proofs.Lists.{from_filter, has_in, in_has, into_filter, true_or_false}
use Rattle.dsa_terms.proofs.Places.{in_at, place_of}
use Rattle.dsa_terms.proofs.NumberTests.{below_or_from}
use Rattle.dsa_terms.proofs.Ranges.{below, among}
use Rattle.lifetime.specs.Switching.{IsSwitched}
use Rattle.lifetime.proofs.Among.{same_members}
use Rattle.lifetime.proofs.Lists.{rises-numbers, rises_at}

-- ---- tests of membership
pub has_is : (xs : List ℕ) (b : ℕ) (p : Bool) → (IsIn b xs → p ≡ true) → (p ≡ true → IsIn b xs) → has b xs ≡ p
has_is xs b p forth back = go (true_or_false (has b xs)) (true_or_false p)
  where
    go : (has b xs ≡ true) ⊎ (has b xs ≡ false) → (p ≡ true) ⊎ (p ≡ false) → has b xs ≡ p
    go (inl x) (inl y) = x ∙ sym y
    go (inr x) (inr y) = x ∙ sym y
    go (inl x) (inr y) = let k = forth (has_in b xs x) in absurd cc
    go (inr x) (inl y) = let k = in_has b xs (back y) in absurd cc

-- a test of the numbers below n
pub has_filter : (f : ℕ → Bool) (n b : ℕ) → b < n → has b (filter f (numbers n)) ≡ f b
has_filter f n b lt = has_is (filter f (numbers n)) b (f b) (λ i. (from_filter f (numbers n) b i).1)
    (λ h. into_filter f (numbers n) b (among n b lt) h)

pub filter_is : (f : ℕ → Bool) (n : ℕ) (xs : List ℕ) → Rises xs → ((b : ℕ) → IsIn b xs → b < n) →
    ((b : ℕ) → b < n → has b xs ≡ f b) → xs ≡ filter f (numbers n)
filter_is f n xs r small h = same_members xs (filter f (numbers n)) r (rises-numbers f n)
    (λ b i. into_filter f (numbers n) b (among n b (small b i)) (sym (h b (small b i)) ∙ in_has b xs i))
    (λ b i. let q = from_filter f (numbers n) b i in has_in b xs (h b (below n b q.0) ∙ q.1))

-- ---- a number more
in_insert : (xs : List ℕ) (place b c : ℕ) → IsIn c (take place xs ++ b ∷ drop place xs) → (c ≡ b) ⊎ IsIn c xs
in_insert xs zero b c i = i
in_insert [] (suc place) b c i = i
in_insert (x ∷ xs) (suc place) b c (inl e) = inr (inl e)
in_insert (x ∷ xs) (suc place) b c (inr i) = elim (in_insert xs place b c i) [ inl e ↦ inl e | inr j ↦ inr (inr j) ]

into_insert : (xs : List ℕ) (place b c : ℕ) → (c ≡ b) ⊎ IsIn c xs → IsIn c (take place xs ++ b ∷ drop place xs)
into_insert xs zero b c h = h
into_insert [] (suc place) b c h = h
into_insert (x ∷ xs) (suc place) b c (inl e) = inr (into_insert xs place b c (inl e))
into_insert (x ∷ xs) (suc place) b c (inr (inl e)) = inl e
into_insert (x ∷ xs) (suc place) b c (inr (inr i)) = inr (into_insert xs place b c (inr i))

rises_insert : (xs : List ℕ) (place b : ℕ) → Rises xs →
    ((k : ℕ) → k < length xs → k < place → slice_index_or xs k 0 < b) →
    ((k : ℕ) → k < length xs → place ≤ k → b < slice_index_or xs k 0) → Rises (take place xs ++ b ∷ drop place xs)
rises_insert xs zero b r low high = (
  (λ y i. let q = place_of xs y 0 i in let k = high q.0 q.1 (omega arith) in let e = q.2 in omega arith),
  r,
)
rises_insert [] (suc place) b r low high = ((λ y i. absurd i), tt)
rises_insert (x ∷ xs) (suc place) b r low high = (
  (λ y i. elim (in_insert xs place b y i) [
    | inl e ↦ (let k = low 0 (omega arith) (omega arith) in omega arith)
    | inr j ↦ r.0 y j
  ]),
  rises_insert xs place b r.1 (λ k lt p. low (suc k) (omega arith) (omega arith))
      (λ k lt p. high (suc k) (omega arith) (omega arith)),
)

-- ---- a number fewer
in_remove : (xs : List ℕ) (place c : ℕ) → IsIn c (take place xs ++ drop (suc place) xs) → IsIn c xs
in_remove [] zero c i = i
in_remove [] (suc place) c i = i
in_remove (x ∷ xs) zero c i = inr i
in_remove (x ∷ xs) (suc place) c (inl e) = inl e
in_remove (x ∷ xs) (suc place) c (inr i) = inr (in_remove xs place c i)

not_in_remove : (xs : List ℕ) (place : ℕ) → Rises xs → place < length xs →
    IsIn (slice_index_or xs place 0) (take place xs ++ drop (suc place) xs) → ⊥
not_in_remove [] place r lt i = absurd (omega arith)
not_in_remove (x ∷ xs) zero r lt i = let k = r.0 x i in absurd (omega arith)
not_in_remove (x ∷ xs) (suc place) r lt (inl e) =
    let k = r.0 (slice_index_or xs place 0) (in_at xs place 0 (omega arith)) in absurd (omega arith)
not_in_remove (x ∷ xs) (suc place) r lt (inr i) = not_in_remove xs place r.1 (omega arith) i

into_remove : (xs : List ℕ) (place c : ℕ) → c ≢ slice_index_or xs place 0 → IsIn c xs →
    IsIn c (take place xs ++ drop (suc place) xs)
into_remove [] place c n i = absurd i
into_remove (x ∷ xs) zero c n (inl e) = absurd (n e)
into_remove (x ∷ xs) zero c n (inr i) = i
into_remove (x ∷ xs) (suc place) c n (inl e) = inl e
into_remove (x ∷ xs) (suc place) c n (inr i) = inr (into_remove xs place c n i)

rises_remove : (xs : List ℕ) (place : ℕ) → Rises xs → Rises (take place xs ++ drop (suc place) xs)
rises_remove [] zero r = tt
rises_remove [] (suc place) r = tt
rises_remove (x ∷ xs) zero r = r.1
rises_remove (x ∷ xs) (suc place) r = ((λ y i. r.0 y (in_remove xs place y i)), rises_remove xs place r.1)

-- ---- what a binary search tells
comparisons_rise : (xs : List ℕ) (b : ℕ) → Rises xs → IsNonDecreasingBy (λ x. ordering_index (nat_cmp x b)) xs
comparisons_rise xs b r = IsNonDecreasingBy-from_default (λ x. ordering_index (nat_cmp x b)) xs 0
    (λ i j le within. ordered (slice_index_or xs i 0) (slice_index_or xs j 0) i j le
    (λ (lt : i < j). rises_at xs i j 0 r lt within) (λ (q : i ≡ j). ap (λ k. slice_index_or xs k 0) q))
  where
    ordered : (m n i j : ℕ) → i ≤ j → (i < j → m < n) → (i ≡ j → m ≡ n) →
        ordering_index (nat_cmp m b) ≤ ordering_index (nat_cmp n b)
    ordered m n i j le lt eq = let k : m ≤ n = grind (arith, lt, eq) in grind (arith, nat_tests)

-- the number stands at the place
pub found_at : (xs : List ℕ) (b place : ℕ) → IsSearchInRange (Ok place) (length xs) →
    IsBinarySearchResult (λ x. nat_cmp x b) xs (Ok place) → (place < length xs) × (slice_index_or xs place 0 ≡ b)
found_at xs b place within equal = (within, ranked _ b _ (sym (equal 0)))

-- or those before the place are less, and the others are greater
pub parted_at : (xs : List ℕ) (b place : ℕ) → Rises xs → IsBinarySearchResult (λ x. nat_cmp x b) xs (Err place) →
    ((k : ℕ) → k < length xs → k < place → slice_index_or xs k 0 < b) ×
    ((k : ℕ) → k < length xs → place ≤ k → b < slice_index_or xs k 0)
parted_at xs b place r parted = (
  (λ k kn lt. ranked _ b _ (sym ((parted (comparisons_rise xs b r)).0 k 0 (omega arith) lt))),
  (λ k kn le. ranked _ b _ (sym ((parted (comparisons_rise xs b r)).1 k 0 le kn))),
)

-- ---- what a switch does
-- the list has the number
pub record StandsAt (xs : List ℕ) (b place : ℕ) : Type 0 where
  pub rises : Rises xs
  pub within : place < length xs
  pub here : slice_index_or xs place 0 ≡ b

-- the list has it not, and this would be its place
pub record WouldStandAt (xs : List ℕ) (b place : ℕ) : Type 0 where
  pub rises : Rises xs
  pub less : (k : ℕ) → k < length xs → k < place → slice_index_or xs k 0 < b
  pub greater : (k : ℕ) → k < length xs → place ≤ k → b < slice_index_or xs k 0

has_found : (xs : List ℕ) (b place : ℕ) → StandsAt xs b place → has b xs ≡ true
has_found xs b place s = in_has b xs (subst (λ (c : ℕ). IsIn c xs) s.here (in_at xs place 0 s.within))

has_none : (xs : List ℕ) (b place : ℕ) → WouldStandAt xs b place → has b xs ≡ false
has_none xs b place s = has_is xs b false (λ i. absurd (not_in i)) (λ h. absurd cc)
  where
    not_in : IsIn b xs → ⊥
    not_in i =
        let q = place_of xs b 0 i in
        let e = q.2 in
        elim (below_or_from q.0 place) [
          | inl lt ↦ (let k = s.less q.0 q.1 lt in absurd (omega arith))
          | inr le ↦ (let k = s.greater q.0 q.1 le in absurd (omega arith))
        ]

pub kept_in : (xs : List ℕ) (b place : ℕ) → StandsAt xs b place → IsSwitched xs b true xs
kept_in xs b place s = record { rises = s.rises; own = has_found xs b place s; others = λ c n. refl }

pub kept_out : (xs : List ℕ) (b place : ℕ) → WouldStandAt xs b place → IsSwitched xs b false xs
kept_out xs b place s = record { rises = s.rises; own = has_none xs b place s; others = λ c n. refl }

pub taken_out : (xs : List ℕ) (b place : ℕ) → StandsAt xs b place → IsSwitched xs b false (remove xs place)
taken_out xs b place s = record {
  rises = rises_remove xs place s.rises;
  own = has_is (remove xs place) b false (λ i. absurd (not_in_remove xs place s.rises s.within (rw s.here i)))
      (λ h. absurd cc);
  others = λ c n. has_is (remove xs place) c (has c xs) (λ i. in_has c xs (in_remove xs place c i))
      (λ h. into_remove xs place c (λ e. n (e ∙ s.here)) (has_in c xs h));
}

pub put_in : (xs : List ℕ) (b place : ℕ) → WouldStandAt xs b place → IsSwitched xs b true (insert xs place b)
put_in xs b place s = record {
  rises = rises_insert xs place b s.rises s.less s.greater;
  own = in_has b (insert xs place b) (into_insert xs place b b (inl refl));
  others = λ c n. has_is (insert xs place b) c (has c xs)
      (λ i. elim (in_insert xs place b c i) [ inl e ↦ absurd (n e) | inr j ↦ in_has c xs j ])
      (λ h. into_insert xs place b c (inr (has_in c xs h)));
}

-- whether it changed
pub changed_found : (xs : List ℕ) (b place : ℕ) (wanted : Bool) → StandsAt xs b place →
    IsTrue (not wanted) ↔ (has b xs ≢ wanted)
changed_found xs b place true s = (λ h. absurd cc, λ n. absurd (n (has_found xs b place s)))
changed_found xs b place false s = (λ h e. (let k = has_found xs b place s in absurd cc), λ n. refl)

pub changed_none : (xs : List ℕ) (b place : ℕ) (wanted : Bool) → WouldStandAt xs b place →
    IsTrue wanted ↔ (has b xs ≢ wanted)
changed_none xs b place true s = (λ h e. (let k = has_none xs b place s in absurd cc), λ n. refl)
changed_none xs b place false s = (λ h. absurd cc, λ n. absurd (n (has_none xs b place s)))

-- what a binary search of the list that was lent tells
pub stands_at : (xs lent : List ℕ) (b place : ℕ) → Rises xs → lent ≡ xs → IsSearchInRange (Ok place) (length lent) →
    IsBinarySearchResult (λ x. nat_cmp x b) lent (Ok place) → StandsAt xs b place
stands_at xs lent b place r e within found =
    let f = rw e at (found_at lent b place within found) in record { rises = r; within = f.0; here = f.1 }

pub would_stand_at : (xs lent : List ℕ) (b place : ℕ) → Rises xs → lent ≡ xs →
    IsBinarySearchResult (λ x. nat_cmp x b) lent (Err place) → WouldStandAt xs b place
would_stand_at xs lent b place r e parted =
    let f = parted_at xs b place r (rw e at parted) in record { rises = r; less = f.0; greater = f.1 }
