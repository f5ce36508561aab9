-- A pool of slots and the slots that buffers hold by definition.
use Rattle.std.proofs.Common.{◌≡◌, ◌≢◌, ℕ, ◌<◌, ◌≤◌, ◌⊎◌, inl, inr, List, [], ◌∷◌, ◌++◌, filter, nat_lt, refl, sym, subst, ◌∙◌, arith}
use Rattle.dsa_terms.specs.Buffers.{Instance, buffer}
use Rattle.dsa_terms.specs.Claims.{Entry, IsIn}
use Rattle.dsa_terms.proofs.Lists.{from_append, into_filter, into_map, left_append, right_append}
use Rattle.dsa_terms.proofs.NumberTests.{below_or_from, is_below, same_or_not}
use Rattle.size_classes.specs.Pools.{IsFree, IsReleased, IsTaken, no_slots, Pool}
use Rattle.size_classes.specs.Slots.{held, least_free}
use Rattle.size_classes.proofs.SlotLemmas.{free_is_free, less_are_held}
use Rattle.size_classes.proofs.SlotsAreLeast.{held_by}

-- the pool has the slots of these buffers at m and later: those of the buffers that last longer are in use up to their
-- uppers, and a slot that can be taken is of none that does
pub record IsHolding (I : Instance) (es : List Entry) (m : ℕ) (p : Pool) : Type 0 where
  kept : (e : Entry) → IsIn e es → m < (buffer I e.0).upper → IsIn ((buffer I e.0).upper, e.1) p.busy
  each : (x : ℕ × ℕ) → IsIn x p.busy → (e : Entry) × IsIn e es × ((buffer I e.0).upper ≡ x.0) × (e.1 ≡ x.1)
  latest : (x : ℕ × ℕ) (e : Entry) → IsIn x p.busy → IsIn e es → e.1 ≡ x.1 → (buffer I e.0).upper ≤ x.0
  free : (s : ℕ) (e : Entry) → IsFree p s → IsIn e es → e.1 ≡ s → (buffer I e.0).upper ≤ m
  all : (s : ℕ) → IsFree p s ⊎ ((x : ℕ × ℕ) × IsIn x p.busy × (x.1 ≡ s))

pub holding_none : (I : Instance) (m : ℕ) → IsHolding I [] m no_slots
holding_none I m = record {
  kept = λ e i. absurd i;
  each = λ x i. absurd i;
  latest = λ x e i. absurd i;
  free = λ s e f i. absurd i;
  all = λ s. inl (inr (omega arith));
}

pub holding_later : (I : Instance) (es : List Entry) (m n : ℕ) (p : Pool) → m ≤ n → IsHolding I es m p →
    IsHolding I es n p
holding_later I es m n p le h = record {
  kept = λ e i lt. h.kept e i (omega arith);
  each = h.each;
  latest = h.latest;
  free = λ s e f i q. let k = h.free s e f i q in omega arith;
  all = h.all;
}

pub holding_released : (I : Instance) (es : List Entry) (m : ℕ) (old now : Pool) → IsReleased m old now →
    IsHolding I es m old → IsHolding I es m now
holding_released I es m old now r h = record {
  kept = λ e i lt. (r.busy ((buffer I e.0).upper, e.1)).1 (h.kept e i lt, lt);
  each = λ x i. h.each x ((r.busy x).0 i).0;
  latest = λ x e i. h.latest x e ((r.busy x).0 i).0;
  free = λ s e f i q. elim ((r.free s).0 f) [
    | inl g ↦ h.free s e g i q
    | inr w ↦ (let k = h.latest w.0 e w.1 i (q ∙ sym w.2.slot) in let l = w.2.ended in omega arith)
  ];
  all = λ s. each s (h.all s);
}
  where
    some : (s : ℕ) (x : ℕ × ℕ) → IsIn x old.busy → x.1 ≡ s → (m < x.0) ⊎ (x.0 ≤ m) →
        IsFree now s ⊎ ((x : ℕ × ℕ) × IsIn x now.busy × (x.1 ≡ s))
    some s x i q (inl lt) = inr (x, (r.busy x).1 (i, lt), q)
    some s x i q (inr le) = inl ((r.free s).1 (inr (x, i, record { slot = q; ended = le })))

    each : (s : ℕ) → IsFree old s ⊎ ((x : ℕ × ℕ) × IsIn x old.busy × (x.1 ≡ s)) →
        IsFree now s ⊎ ((x : ℕ × ℕ) × IsIn x now.busy × (x.1 ≡ s))
    each s (inl f) = inl ((r.free s).1 (inl f))
    each s (inr w) = some s w.0 w.1 w.2 (below_or_from m w.0.0)

-- ---- the least free slot is told by what is held
free_is_one : (xs : List ℕ) (s : ℕ) → (IsIn s xs → ⊥) → ((k : ℕ) → k < s → IsIn k xs) → s ≡ least_free xs
free_is_one xs s free less = close (below_or_from s (least_free xs)) (below_or_from (least_free xs) s)
  where
    close : (s < least_free xs) ⊎ (least_free xs ≤ s) → (least_free xs < s) ⊎ (s ≤ least_free xs) → s ≡ least_free xs
    close (inl lt) q = absurd (free (less_are_held xs s lt))
    close (inr le) (inl lt) = absurd (free_is_free xs (less (least_free xs) lt))
    close (inr le) (inr ge) = omega arith

into_held : (I : Instance) (b : ℕ) (es : List Entry) (e : Entry) → IsIn e es →
    (buffer I b).lower < (buffer I e.0).upper → IsIn e.1 (held I b es)
unfolding held
into_held I b es e i lt =
    into_map (λ (e : Entry). e.1) (filter (λ e. nat_lt (buffer I b).lower (buffer I e.0).upper) es) e
    (into_filter (λ e. nat_lt (buffer I b).lower (buffer I e.0).upper) es e i
    (is_below (buffer I b).lower (buffer I e.0).upper lt))

pub slot_is_least : (I : Instance) (es : List Entry) (b s : ℕ) (p now : Pool) →
    ((x : ℕ × ℕ) → IsIn x p.busy → (buffer I b).lower < x.0) → IsHolding I es (buffer I b).lower p →
    IsTaken (buffer I b).upper s p now → s ≡ least_free (held I b es)
slot_is_least I es b s p now late h t = free_is_one (held I b es) s free (λ k lt. less k lt (h.all k))
  where
    free : IsIn s (held I b es) → ⊥
    free i =
        let w = held_by I b s es i in
        let k = h.free s w.0 t.out.least.free w.1 w.3 in
        let l = w.2 in omega arith

    less : (k : ℕ) → k < s → IsFree p k ⊎ ((x : ℕ × ℕ) × IsIn x p.busy × (x.1 ≡ k)) → IsIn k (held I b es)
    less k lt (inl f) = let z = t.out.least.least k f in absurd (omega arith)
    less k lt (inr w) =
        let e = h.each w.0 w.1 in
        let l = late w.0 w.1 in
        subst (λ (j : ℕ). IsIn j (held I b es)) (e.3 ∙ w.2)
        (into_held I b es e.0 e.1 (let q = e.2 in omega arith))

-- ---- one more buffer
pub holding_taken : (I : Instance) (es : List Entry) (b s : ℕ) (p now : Pool) →
    (buffer I b).lower < (buffer I b).upper → ((x : ℕ × ℕ) → IsIn x p.busy → (buffer I b).lower < x.0) →
    IsHolding I es (buffer I b).lower p → IsTaken (buffer I b).upper s p now →
    IsHolding I (es ++ (b, s) ∷ []) (buffer I b).lower now
holding_taken I es b s p now lasts late h t = record {
  kept = λ e i lt. kept e lt (more e i);
  each = λ x i. each x ((t.busy x).0 i);
  latest = λ x e i j q. latest x e ((t.busy x).0 i) (more e j) q;
  free = λ k e f i q. free k e ((t.out.free k).0 f) (more e i) q;
  all = λ k. all k (h.all k);
}
  where
    more : (e : Entry) → IsIn e (es ++ (b, s) ∷ []) → IsIn e es ⊎ (e ≡ (b, s))
    more e i = elim (from_append es ((b, s) ∷ []) e i) [
      | inl j ↦ inl j
      | inr j ↦ elim j [ inl q ↦ inr q | inr z ↦ absurd z ]
    ]

    old : (e : Entry) → IsIn e es → IsIn e (es ++ (b, s) ∷ [])
    old e i = left_append es ((b, s) ∷ []) e i

    own : IsIn (b, s) (es ++ (b, s) ∷ [])
    own = right_append es ((b, s) ∷ []) (b, s) (inl refl)

    -- none that holds the slot lasts longer than b's lower
    ended : (e : Entry) → IsIn e es → e.1 ≡ s → (buffer I e.0).upper ≤ (buffer I b).lower
    ended e i q = h.free s e t.out.least.free i q

    kept : (e : Entry) → (buffer I b).lower < (buffer I e.0).upper → IsIn e es ⊎ (e ≡ (b, s)) →
        IsIn ((buffer I e.0).upper, e.1) now.busy
    kept e lt (inl i) = (t.busy ((buffer I e.0).upper, e.1)).1 (inl (h.kept e i lt))
    kept e lt (inr q) = rw q ((t.busy ((buffer I b).upper, s)).1 (inr refl))

    each : (x : ℕ × ℕ) → IsIn x p.busy ⊎ (x ≡ ((buffer I b).upper, s)) →
        (e : Entry) × IsIn e (es ++ (b, s) ∷ []) × ((buffer I e.0).upper ≡ x.0) × (e.1 ≡ x.1)
    each x (inl i) = let w = h.each x i in (w.0, old w.0 w.1, w.2, w.3)
    each x (inr q) = ((b, s), own, rw q refl, rw q refl)

    latest : (x : ℕ × ℕ) (e : Entry) → IsIn x p.busy ⊎ (x ≡ ((buffer I b).upper, s)) → IsIn e es ⊎ (e ≡ (b, s)) →
        e.1 ≡ x.1 → (buffer I e.0).upper ≤ x.0
    latest x e (inl i) (inl j) q = h.latest x e i j q
    latest x e (inl i) (inr r) q =
        let w = h.each x i in
        let g : s ≡ x.1 = rw r at q in
        let k = ended w.0 w.1 (w.3 ∙ sym g) in
        let l = late x i in let m = w.2 in absurd (omega arith)
    latest x e (inr r) (inl j) q =
        let g : e.1 ≡ s = rw r at q in
        let k = ended e j g in rw r (omega arith)
    latest x e (inr r) (inr u) q = rw (r, u) (omega arith)

    free : (k : ℕ) (e : Entry) → IsFree p k × (k ≢ s) → IsIn e es ⊎ (e ≡ (b, s)) → e.1 ≡ k →
        (buffer I e.0).upper ≤ (buffer I b).lower
    free k e w (inl i) q = h.free k e w.0 i q
    free k e w (inr r) q = let g : s ≡ k = rw r at q in absurd (w.1 (sym g))

    some : (k : ℕ) → IsFree p k → (k ≡ s) ⊎ (k ≢ s) → IsFree now k ⊎ ((x : ℕ × ℕ) × IsIn x now.busy × (x.1 ≡ k))
    some k f (inl q) = inr (((buffer I b).upper, s), (t.busy ((buffer I b).upper, s)).1 (inr refl), sym q)
    some k f (inr ne) = inl ((t.out.free k).1 (f, ne))

    all : (k : ℕ) → IsFree p k ⊎ ((x : ℕ × ℕ) × IsIn x p.busy × (x.1 ≡ k)) →
        IsFree now k ⊎ ((x : ℕ × ℕ) × IsIn x now.busy × (x.1 ≡ k))
    all k (inl f) = some k f (same_or_not k s)
    all k (inr w) = inr (w.0, (t.busy w.0).1 (inl w.1), w.2)
