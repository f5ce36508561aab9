-- First-fit and best-fit of an order are layouts, and so is each start.
use Rattle.std.proofs.Common.{◌≡◌, ℕ, ◌≢◌, ◌≤◌, ◌⊎◌, inl, inr, Bool, true, false, cond, ◌==◌, List, [], ◌∷◌, map, length, sym, refl, ◌∙◌, subst, arith}
use Rattle.std.proofs.lemmas.Bool.Decides.{nat_tests}
use Rattle.std.proofs.lemmas.List.FromFn.{length-map-range_with_len}
use Rattle.dsa_terms.specs.Buffers.{Buffer, Instance, buffer, IsLive, do_share, IsInstance}
use Rattle.dsa_terms.specs.Layouts.{IsMultiple, IsApart, IsLayout}
use Rattle.dsa_terms.specs.Claims.{Entry, IsIn, buffers_of, number_of}
use Rattle.dsa_terms.specs.Parts.{numbers, offsets_of}
use Rattle.dsa_terms.specs.Plans.{layout_height}
use Rattle.dsa_terms.specs.Fits.{neighbours, FitRule, first_place, best_place, fitted, first_fit, best_fit}
use Rattle.dsa_terms.specs.Sorts.{ordered_by}
use Rattle.dsa_terms.specs.Orders.{falls_by, rises_by, area, orders}
use Rattle.dsa_terms.specs.Starts.{starts}
use Rattle.dsa_terms.proofs.Lists.{from_append, from_map, into_filter, into_ordered_by, true_or_false}
use Rattle.dsa_terms.proofs.Moments.{do_share-false}
use Rattle.dsa_terms.proofs.NumberTests.{equal}
use Rattle.dsa_terms.proofs.Ranges.{into_range}
use Rattle.dsa_start_laws.specs.Fitting.{IsClear, HasEach}
use Rattle.dsa_search_laws.proofs.Parts.{offset_at}
use Rattle.dsa_search_laws.proofs.Plans.{under_layout_height}
use Rattle.dsa_search_laws.proofs.Search.{has_seat}
use Rattle.dsa_start_laws.proofs.Places.{IsClearRule, first_is_clear, best_is_clear}

-- ---- placed one after another
-- each is aligned, and apart from those placed before it with which it shares a moment
abbrev pub IsStacked : Instance → List Entry → Type 0
IsStacked I [] = Unit {0}
IsStacked I (e ∷ es) = IsClear I e.0 (neighbours I e.0 es) e.1 × IsStacked I es

pub fitted_is_stacked : (I : Instance) (rule : FitRule) → IsClearRule I rule → (order : List ℕ) (placed : List Entry) →
    IsStacked I placed → IsStacked I (fitted rule I order placed)
fitted_is_stacked I rule clear [] placed h = h
fitted_is_stacked I rule clear (b ∷ bs) placed h =
    fitted_is_stacked I rule clear bs ((b, rule I b (neighbours I b placed)) ∷ placed) (
      clear b (neighbours I b placed),
      h,
    )

pub fitted_has_placed : (I : Instance) (rule : FitRule) (order : List ℕ) (placed : List Entry) (b : ℕ) →
    IsIn b (buffers_of placed) → IsIn b (buffers_of (fitted rule I order placed))
fitted_has_placed I rule [] placed b i = i
fitted_has_placed I rule (c ∷ cs) placed b i =
    fitted_has_placed I rule cs ((c, rule I c (neighbours I c placed)) ∷ placed) b (inr i)

pub fitted_has : (I : Instance) (rule : FitRule) (order : List ℕ) (placed : List Entry) (b : ℕ) → IsIn b order →
    IsIn b (buffers_of (fitted rule I order placed))
fitted_has I rule [] placed b i = absurd i
fitted_has I rule (c ∷ cs) placed b (inl q) =
    fitted_has_placed I rule cs ((c, rule I c (neighbours I c placed)) ∷ placed) b (inl q)
fitted_has I rule (c ∷ cs) placed b (inr i) = fitted_has I rule cs ((c, rule I c (neighbours I c placed)) ∷ placed) b i

aligned_at : (I : Instance) (es : List Entry) (e : Entry) → IsStacked I es → IsIn e es →
    IsMultiple e.1 (buffer I e.0).alignment
aligned_at I [] e h i = absurd i
aligned_at I (x ∷ xs) e h (inl q) = rw q h.0.aligned
aligned_at I (x ∷ xs) e h (inr i) = aligned_at I xs e h.1 i

above_at : (I : Instance) (es : List Entry) (e : Entry) → IsStacked I es → IsIn e es → (buffer I e.0).lowest ≤ e.1
above_at I [] e h i = absurd i
above_at I (x ∷ xs) e h (inl q) = rw q h.0.above
above_at I (x ∷ xs) e h (inr i) = above_at I xs e h.1 i

beside : (I : Instance) (es : List Entry) (b x c y t : ℕ) → IsClear I b (neighbours I b es) x → IsIn (c, y) es →
    IsLive (buffer I b) t → IsLive (buffer I c) t → IsApart (buffer I b) x (buffer I c) y
unfolding neighbours
beside I es b x c y t h i p q = h.apart (c, y)
    (into_filter (λ (e : Entry). do_share (buffer I b) (buffer I e.0)) es (c, y) i
    (shares (true_or_false (do_share (buffer I b) (buffer I c)))))
  where
    shares : (do_share (buffer I b) (buffer I c) ≡ true) ⊎ (do_share (buffer I b) (buffer I c) ≡ false) →
        do_share (buffer I b) (buffer I c) ≡ true
    shares (inl k) = k
    shares (inr k) = absurd (do_share-false (buffer I b) (buffer I c) t k p q)

other_way : (b c : Buffer) (x y : ℕ) → IsApart b x c y → IsApart c y b x
other_way b c x y (inl q) = inr q
other_way b c x y (inr q) = inl q

stacked_apart : (I : Instance) (es : List Entry) (b c t : ℕ) → IsStacked I es → b ≢ c → IsIn b (buffers_of es) →
    IsIn c (buffers_of es) → IsLive (buffer I b) t → IsLive (buffer I c) t →
    IsApart (buffer I b) (number_of es b) (buffer I c) (number_of es c)
stacked_apart I [] b c t h ne i j p q = absurd i
stacked_apart I (e ∷ es) b c t h ne i j p q =
    go (λ i j. stacked_apart I es b c t h.1 ne i j p q) (e.0 == b) refl (e.0 == c) refl i j
  where
    not_eq : (m n : ℕ) → (m == n) ≡ false → n ≢ m
    not_eq m n h k = grind (arith, nat_tests)

    go : (IsIn b (buffers_of es) → IsIn c (buffers_of es) →
        IsApart (buffer I b) (number_of es b) (buffer I c) (number_of es c)) →
        (u : Bool) → (e.0 == b) ≡ u → (v : Bool) → (e.0 == c) ≡ v → IsIn b (e.0 ∷ buffers_of es) →
        IsIn c (e.0 ∷ buffers_of es) →
        IsApart (buffer I b) (cond u e.1 (number_of es b)) (buffer I c) (cond v e.1 (number_of es c))
    go ih true k true m i j = absurd (ne (sym (equal e.0 b k) ∙ equal e.0 c m))
    go ih true k false m i (inl j) = absurd (not_eq e.0 c m j)
    go ih true k false m i (inr j) =
        let g = equal e.0 b k in
        beside I es b e.1 c (number_of es c) t (subst (λ (b : ℕ). IsClear I b (neighbours I b es) e.1) g h.0)
        (has_seat es c j) p q
    go ih false k true m (inl i) j = absurd (not_eq e.0 b k i)
    go ih false k true m (inr i) j =
        let g = equal e.0 c m in
        other_way (buffer I c) (buffer I b) e.1 (number_of es b)
        (beside I es c e.1 b (number_of es b) t (subst (λ (c : ℕ). IsClear I c (neighbours I c es) e.1) g h.0)
        (has_seat es b i) q p)
    go ih false k false m (inl i) j = absurd (not_eq e.0 b k i)
    go ih false k false m (inr i) (inl j) = absurd (not_eq e.0 c m j)
    go ih false k false m (inr i) (inr j) = ih i j

pub stacked_is_layout : (I : Instance) (es : List Entry) → IsStacked I es → HasEach I (buffers_of es) →
    IsLayout I (layout_height I (offsets_of I es)) (offsets_of I es)
stacked_is_layout I es h each = record {
  count = length-map-range_with_len (number_of es) 0 (length I);
  aligned = λ b lt. rw (offset_at I es b lt) (aligned_at I es (b, number_of es b) h (has_seat es b (each b lt)));
  above = λ b lt. rw (offset_at I es b lt) (above_at I es (b, number_of es b) h (has_seat es b (each b lt)));
  within = λ b lt. under_layout_height I (offsets_of I es) b lt;
  apart = λ b c t lb lc ne p q. rw (offset_at I es b lb, offset_at I es c lc)
      (stacked_apart I es b c t h ne (each b lb) (each c lc) p q);
}

pub first_fit_is_layout : (I : Instance) (order : List ℕ) → IsInstance I → HasEach I order →
    IsLayout I (layout_height I (first_fit I order)) (first_fit I order)
unfolding first_fit
first_fit_is_layout I order s each =
    stacked_is_layout I (fitted first_place I order [])
    (fitted_is_stacked I first_place (first_is_clear I s) order [] tt)
    (λ b lt. fitted_has I first_place order [] b (each b lt))

pub best_fit_is_layout : (I : Instance) (order : List ℕ) → IsInstance I → HasEach I order →
    IsLayout I (layout_height I (best_fit I order)) (best_fit I order)
unfolding best_fit
best_fit_is_layout I order s each =
    stacked_is_layout I (fitted best_place I order []) (fitted_is_stacked I best_place (best_is_clear I s) order [] tt)
    (λ b lt. fitted_has I best_place order [] b (each b lt))

-- ---- the orders
ordered_has_each : (I : Instance) (before : ℕ → ℕ → Bool) → HasEach I (ordered_by before (numbers (length I)))
ordered_has_each I before b lt = into_ordered_by before (numbers (length I)) b
    (into_range (length I) 0 b (omega arith) (omega arith))

pub orders_have_each : (I : Instance) (order : List ℕ) → IsIn order (orders I) → HasEach I order
unfolding orders
orders_have_each I order (inl q) = rw q (ordered_has_each I (falls_by (λ (b : Buffer). b.size) I))
orders_have_each I order (inr (inl q)) = rw q (ordered_has_each I (rises_by (λ (b : Buffer). b.lower) I))
orders_have_each I order (inr (inr (inl q))) = rw q (ordered_has_each I (falls_by area I))
orders_have_each I order (inr (inr (inr i))) = absurd i

-- ---- each start is a layout at its height
pub start_is_layout : (I : Instance) (offsets : List ℕ) → IsInstance I → IsIn offsets (starts I) →
    IsLayout I (layout_height I offsets) offsets
unfolding starts
start_is_layout I offsets s i = elim (from_append (map (first_fit I) (orders I))
    (map (best_fit I) (orders I)) offsets i) [
      | inl j ↦ (let r = from_map (first_fit I) (orders I) offsets j in
          rw r.2 (first_fit_is_layout I r.0 s (orders_have_each I r.0 r.1)))
      | inr j ↦ (let r = from_map (best_fit I) (orders I) offsets j in
          rw r.2 (best_fit_is_layout I r.0 s (orders_have_each I r.0 r.1)))
    ]
