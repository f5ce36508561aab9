-- The starts: their orders, their heights, and the best of them.
use Rattle.std.proofs.Common.{◌≡◌, ◌^◌, ℕ, zero, suc, ◌+◌, ◌<◌, ◌≤◌, inl, inr, Bool, true, false, not, cond, nat_le, nat_lt, List, [], ◌∷◌, ◌++◌, length, map, take, slice_index, slice_get, slice_index_or, Option, None, Some, option_map, refl, sym, ap, ap₂, ◌∙◌, arith}
use Rattle.std.specs.List.{All, find, list_all, position, position_or_len}
use Rattle.std.proofs.lemmas.List.{length-map, map-append, take_all, take_more}
use Rattle.std.proofs.lemmas.List.Folds.{find_at}
use Rattle.std.proofs.lemmas.List.FromFn.{length-range_with_len}
use Rattle.std.proofs.lemmas.List.Sums.{position_or_len_is}
use Rattle.std.proofs.lemmas.Option.{slice_get-get_or, slice_get_past}
use Rattle.dsa_terms.specs.Buffers.{Instance}
use Rattle.dsa_terms.specs.Claims.{IsIn}
use Rattle.dsa_terms.specs.Fits.{best_fit, first_fit}
use Rattle.dsa_terms.specs.Layouts.{IsLayout}
use Rattle.dsa_terms.specs.Sorts.{put_by, ordered_by}
use Rattle.dsa_terms.specs.Orders.{orders}
use Rattle.dsa_terms.specs.Parts.{numbers}
use Rattle.dsa_terms.specs.Plans.{layout_height}
use Rattle.dsa_terms.specs.Starts.{lowest_place, starts}
use Rattle.dsa_terms.proofs.Lists.{all_at, all_from, from_append, true_or_false, into_ordered_by, from_ordered_by, length-ordered_by}
use Rattle.dsa_terms.proofs.Places.{all_from_in, in_at, in_from_all, place_of}
use Rattle.dsa_terms.proofs.NumberTests.{at_most, below_or_last, is_at_most, less, not_less}
use Rattle.dsa_terms.proofs.Ranges.{from_range, into_range}
use Rattle.first_fit.specs.Orders.{before_by, numbers_in_order}
use Rattle.first_fit.specs.Rules.{IsOrderOf}
use Rattle.first_fit.specs.Starts.{IsStart, height_in, offsets_at, offsets_by, offsets_in}
use Rattle.first_fit.specs.declared.fits.Fit.{Fit}
use Rattle.first_fit.specs.declared.fits.Fit.TheVariants.{Best, First}
use Rattle.first_fit.specs.declared.orders.Order.{Order}
use Rattle.first_fit.specs.declared.orders.Order.TheVariants.{AreaFalling, LowerRising, SizeFalling}
use Rattle.first_fit.specs.declared.start_list.Start.{Start}

-- ---- an order has each buffer once
pub has_each_once : (I : Instance) (order : Order) (bs : List ℕ) → bs ≡ numbers_in_order order I → IsOrderOf I bs
has_each_once I order bs e = rw e (record {
  count = length-ordered_by (before_by order I) (numbers (length I)) ∙ length-range_with_len 0 (length I);
  in_range = all_from_in (λ b. b < length I) (numbers_in_order order I) (λ b i.
      let z = (from_range (length I) 0 b (from_ordered_by (before_by order I) (numbers (length I)) b i)).1 in
      omega arith);
  each = λ b lt. into_ordered_by (before_by order I) (numbers (length I)) b
      (into_range (length I) 0 b (omega arith) (omega arith));
})

-- ---- one start
pub offsets_low : (I : Instance) (offsets : List ℕ) → IsLayout I (layout_height I offsets) offsets →
    layout_height I offsets < 2 ^ 54 →
    All (λ x. x ≤ 2 ^ 60) offsets
offsets_low I offsets h lt = all_from_in (λ x. x ≤ 2 ^ 60) offsets low
  where
    at : (k : ℕ) (d : ℕ) → k < length offsets → slice_index_or offsets k d ≤ 2 ^ 60
    at k d kn = let z = h.within k (let e = h.count in omega arith) in
        let q : slice_index_or offsets k d ≡ slice_index offsets k = same offsets k d kn in omega arith
      where
        same : (xs : List ℕ) (k d : ℕ) → k < length xs → slice_index_or xs k d ≡ slice_index xs k
        same [] k d lt = absurd (omega arith)
        same (x ∷ xs) zero d lt = refl
        same (x ∷ xs) (suc k) d lt = same xs k d (omega arith)

    low : (x : ℕ) → IsIn x offsets → x ≤ 2 ^ 60
    low x i = in_from_all (λ x. x ≤ 2 ^ 60) offsets at x i

pub is_start : (I : Instance) (s : Start) → s.height ≡ layout_height I (offsets_in s) →
    IsLayout I (layout_height I (offsets_in s)) (offsets_in s) → layout_height I (offsets_in s) < 2 ^ 54 → IsStart I s
is_start I s e layout limit = record { height = e; limit = (omega arith); layout = rw e layout }

-- ---- all six
abbrev pub ways : List (Fit × Order)
ways = (First, SizeFalling) ∷ (First, LowerRising) ∷ (First, AreaFalling) ∷ (Best, SizeFalling) ∷ (Best, LowerRising)
    ∷ (Best, AreaFalling) ∷ []

pub starts_by_ways : (I : Instance) → map (offsets_by I) ways ≡ starts I
unfolding starts orders first_fit best_fit
starts_by_ways I = refl

pub record AreMade (I : Instance) (done : List (Fit × Order)) (made : List Start) : Type 0 where
  pub value : map offsets_in made ≡ map (offsets_by I) done
  pub each : (s : Start) → IsIn s made → IsStart I s

pub made_none : (I : Instance) (done : List (Fit × Order)) → AreMade I (take 0 done) []
made_none I done = record { value = refl; each = λ s i. absurd i }

pub made_more : (I : Instance) (all : List (Fit × Order)) (k : ℕ) (d : Fit × Order) (made more : List Start)
    (s : Start) →
    k < length all → offsets_in s ≡ offsets_by I (slice_index_or all k d) → IsStart I s → more ≡ made ++ s ∷ [] →
    AreMade I (take k all) made → AreMade I (take (k + 1) all) more
made_more I all k d made more s lt e start grown h = rw grown (record {
  value = map-append offsets_in made (s ∷ []) ∙ (rw (h.value, e) (sym (ap (map (offsets_by I)) (take_more all k d lt)
      ∙ map-append (offsets_by I) (take k all) (slice_index_or all k d ∷ []))));
  each = λ r i. elim (from_append made (s ∷ []) r i) [
    | inl j ↦ h.each r j
    | inr j ↦ last r j
  ];
})
  where
    last : (r : Start) → IsIn r (s ∷ []) → IsStart I r
    last r (inl q) = rw q start
    last r (inr j) = absurd j

pub made_value : (I : Instance) (all : List (Fit × Order)) (k : ℕ) (made : List Start) → all ≡ ways → length all ≤ k →
    AreMade I (take k all) made → map offsets_in made ≡ starts I
made_value I all k made e le h = h.value ∙ (ap (map (offsets_by I)) (take_all k all le ∙ e) ∙ starts_by_ways I)

pub made_each : (I : Instance) (done : List (Fit × Order)) (made : List Start) → AreMade I done made →
    All (IsStart I) made
made_each I done made h = all_from_in (IsStart I) made h.each

heights_of : (I : Instance) (made : List Start) → ((s : Start) → IsIn s made → IsStart I s) →
    map height_in made ≡ map (layout_height I) (map offsets_in made)
heights_of I [] h = refl
heights_of I (s ∷ ss) h = ap₂ (λ (x : ℕ) (xs : List ℕ). x ∷ xs) (h s (inl refl)).height
    (heights_of I ss (λ r i. h r (inr i)))

pub made_heights : (I : Instance) (done : List (Fit × Order)) (made : List Start) → AreMade I done made →
    map offsets_in made ≡ starts I → map height_in made ≡ map (layout_height I) (starts I)
made_heights I done made h e = heights_of I made h.each ∙ ap (map (layout_height I)) e

-- ---- the first of least height
pub record IsLowest (heights : List ℕ) (n best : ℕ) : Type 0 where
  pub within : best < n
  pub lowest : (k : ℕ) → k < n → slice_index_or heights best 0 ≤ slice_index_or heights k 0
  pub first : (k : ℕ) → k < best → slice_index_or heights best 0 < slice_index_or heights k 0

pub lowest_none : (heights : List ℕ) → IsLowest heights 1 0
lowest_none heights = record {
  within = omega arith;
  lowest = λ k lt. let e : k ≡ 0 = omega arith in rw e (omega arith);
  first = λ k lt. absurd (omega arith);
}

pub lowest_stays : (heights : List ℕ) (n best : ℕ) → slice_index_or heights best 0 ≤ slice_index_or heights n 0 →
    IsLowest heights n best → IsLowest heights (n + 1) best
lowest_stays heights n best le h = record {
  within = (let z = h.within in omega arith);
  lowest = λ k lt. elim (below_or_last k n lt) [ inl q ↦ h.lowest k q | inr q ↦ rw q le ];
  first = h.first;
}

pub lowest_moves : (heights : List ℕ) (n best : ℕ) → slice_index_or heights n 0 < slice_index_or heights best 0 →
    IsLowest heights n best → IsLowest heights (n + 1) n
lowest_moves heights n best less h = record {
  within = omega arith;
  lowest = λ k lt. elim (below_or_last k n lt)
      [ inl q ↦ (let z = h.lowest k q in omega arith) | inr q ↦ rw q (omega arith) ];
  first = λ k lt. let z = h.lowest k lt in omega arith;
}

pub height_at : (made : List Start) (k : ℕ) (d : Start) → k < length made →
    (slice_index_or made k d).height ≡ slice_index_or (map height_in made) k 0
height_at [] k d lt = absurd (omega arith)
height_at (s ∷ ss) zero d lt = refl
height_at (s ∷ ss) (suc k) d lt = height_at ss k d (omega arith)

pub lowest_found : (made : List Start) (n best : ℕ) → length made ≤ n → n ≤ length made →
    IsLowest (map height_in made) n best →
    best ≡ lowest_place (map height_in made)
unfolding lowest_place
lowest_found made n best low high h = sym (position_or_len_is (λ h. list_all (nat_le h) heights) heights best 0
    (let z = h.within in let w = long in omega arith) (λ k lt. not_all k lt) (λ lt. all_pass))
  where
    heights : List ℕ
    heights = map height_in made

    long : length (map height_in made) ≡ length made
    long = length-map made height_in

    all_pass : list_all (nat_le (slice_index_or (map height_in made) best 0)) (map height_in made) ≡ true
    all_pass = all_from (nat_le (slice_index_or (map height_in made) best 0)) (map height_in made) (λ x i.
        let r = place_of (map height_in made) x 0 i in
        let k = h.lowest r.0 (let z = r.1 in let w = long in omega arith) in let e = r.2 in
        is_at_most (slice_index_or (map height_in made) best 0) x (omega arith))

    not_all : (k : ℕ) → k < best → list_all (nat_le (slice_index_or (map height_in made) k 0)) (map height_in made)
        ≡ false
    not_all k lt = elim (true_or_false (list_all (nat_le (slice_index_or (map height_in made) k 0))
        (map height_in made))) [
          | inl t ↦ absurd (
              let i = in_at (map height_in made) best 0 (let z = h.within in let w = long in omega arith) in
              let q = at_most (slice_index_or (map height_in made) k 0) (slice_index_or (map height_in made) best 0)
              (all_at (nat_le (slice_index_or (map height_in made) k 0)) (map height_in made)
              (slice_index_or (map height_in made) best 0) t i) in
              let r = h.first k lt in omega arith)
          | inr f ↦ f
        ]

-- ---- the first within a capacity
same_place : (I : Instance) (C : ℕ) (made : List Start) → ((s : Start) → IsIn s made → IsStart I s) →
    position_or_len (λ offsets. nat_le (layout_height I offsets) C) (map offsets_in made)
    ≡ position_or_len (λ (s : Start). nat_le s.height C) made
same_place I C [] h = refl
same_place I C (s ∷ ss) h = go (same_place I C ss (λ r i. h r (inr i))) (nat_le s.height C) refl
    (nat_le (layout_height I (offsets_in s)) C) (ap (λ (x : ℕ). nat_le x C) (sym (h s (inl refl)).height))
  where
    go : position_or_len (λ offsets. nat_le (layout_height I offsets) C) (map offsets_in ss)
        ≡ position_or_len (λ (s : Start). nat_le s.height C) ss → (a : Bool) → nat_le s.height C ≡ a → (b : Bool) →
        b ≡ nat_le s.height C →
        cond (not b) (1 + position_or_len (λ offsets. nat_le (layout_height I offsets) C) (map offsets_in ss)) 0
        ≡ cond (not a) (1 + position_or_len (λ (s : Start). nat_le s.height C) ss) 0
    go ih true e true f = refl
    go ih true e false f = absurd cc
    go ih false e true f = absurd cc
    go ih false e false f = ap (λ n. 1 + n) ih

pub found_within : (I : Instance) (C : ℕ) (made : List Start) (o : Option ℕ) →
    o ≡ position (λ (s : Start). nat_le s.height C) made →
    All (IsStart I) made →
    option_map (offsets_at made) o ≡ find (λ offsets. nat_le (layout_height I offsets) C) (map offsets_in made)
found_within I C made o e h = rw e (at (nat_lt place (length made)) refl
    ∙ sym (find_at (λ offsets. nat_le (layout_height I offsets) C) (map offsets_in made)
    ∙ ap (slice_get (map offsets_in made)) (same_place I C made (λ s i. in_from_all (IsStart I) made h s i))))
  where
    place : ℕ
    place = position_or_len (λ (s : Start). nat_le s.height C) made

    long : length (map offsets_in made) ≡ length made
    long = length-map made offsets_in

    at : (c : Bool) → nat_lt place (length made) ≡ c →
        option_map (offsets_at made) (cond c (Some place) None) ≡ slice_get (map offsets_in made) place
    at true q = sym (slice_get-get_or (map offsets_in made) place []
        (let z = less place (length made) q in let w = long in omega arith))
    at false q = sym (slice_get_past (map offsets_in made) place
        (let z = not_less place (length made) q in let w = long in omega arith))
