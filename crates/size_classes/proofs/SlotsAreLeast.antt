-- Each member has the least slot that none before it holds.
use Rattle.std.proofs.Common.{◌≡◌, ◌≢◌, ℕ, ◌<◌, ◌⊎◌, inl, inr, List, [], ◌∷◌, ◌++◌, filter, nat_lt, refl, sym, ap, ◌∙◌, subst, arith, append_assoc}
use Rattle.std.proofs.lemmas.List.{append-nil, map-append}
use Rattle.dsa_terms.specs.Buffers.{Buffer, Instance, buffer}
use Rattle.dsa_terms.specs.Claims.{buffers_of, Entry, IsIn, number_of, Rises}
use Rattle.dsa_terms.specs.Sorts.{IsOrdered}
use Rattle.dsa_terms.specs.Orders.{rises_by}
use Rattle.dsa_terms.proofs.Lists.{from_append, from_filter, from_map, into_map, left_append, into_ordered_by, from_ordered_by}
use Rattle.dsa_terms.proofs.NumberTests.{less, same}
use Rattle.dsa_search_laws.proofs.Parts.{number_of-left, number_of-right}
use Rattle.size_classes.specs.Slots.{held, in_turn, IsSlotting, IsTakenBefore, least_free, slot_of, slotted, with_slot}
use Rattle.size_classes.proofs.SlotLemmas.{free_is_free, held_has, less_are_held}
use Rattle.size_classes.proofs.TurnLemmas.{before_of, is_another, ordered_is_ordered, turn_is_order}

-- one that is taken before b, lasts longer than b's lower, and has this slot
abbrev Holds : Instance → List Entry → ℕ → ℕ → Type 0
Holds I es b s = (c : ℕ) × IsIn c (buffers_of es) × IsTakenBefore I c b × ((buffer I b).lower < (buffer I c).upper)
    × (number_of es c ≡ s)

-- the slots so far
record IsExact (I : Instance) (es : List Entry) : Type 0 where
  own : (e : Entry) → IsIn e es → number_of es e.0 ≡ e.1
  free : (b c : ℕ) → IsIn b (buffers_of es) → IsIn c (buffers_of es) → IsTakenBefore I c b →
      (buffer I b).lower < (buffer I c).upper → number_of es c ≢ number_of es b
  least : (b s : ℕ) → IsIn b (buffers_of es) → s < number_of es b → Holds I es b s

abbrev IsInTurn : Instance → List ℕ → Type 0
IsInTurn I order = IsOrdered (rises_by (λ (b : Buffer). b.lower) I) order

pub held_by : (I : Instance) (b s : ℕ) (es : List Entry) → IsIn s (held I b es) →
    (e : Entry) × IsIn e es × ((buffer I b).lower < (buffer I e.0).upper) × (e.1 ≡ s)
unfolding held
held_by I b s es i =
    let r = from_map (λ (e : Entry). e.1) (filter (λ e. nat_lt (buffer I b).lower (buffer I e.0).upper) es) s i in
    let q = from_filter (λ e. nat_lt (buffer I b).lower (buffer I e.0).upper) es r.0 r.1 in
    (r.0, q.0, less (buffer I b).lower (buffer I r.0.0).upper q.1, sym r.2)

exact_one : (I : Instance) (es : List Entry) (b : ℕ) (following : List ℕ) →
    IsInTurn I (buffers_of es ++ b ∷ following) →
    IsExact I es → IsExact I (with_slot I es b)
exact_one I es b following r h = record {
  own = λ e i. own e (from_append es ((b, slot) ∷ []) e i);
  free = λ c d i j before lasts e. free c d (either c i) (either d j) before lasts e;
  least = λ c s i lt. least c s (either c i) lt;
}
  where
    slot : ℕ
    slot = least_free (held I b es)

    earlier : (c : ℕ) → IsIn c (buffers_of es) → IsTakenBefore I c b
    earlier c i = before_of (rises_by (λ (b : Buffer). b.lower) I) (buffers_of es) following b c r i

    fresh : IsIn b (buffers_of es) → ⊥
    fresh i = is_another I b b (earlier b i) refl

    either : (c : ℕ) → IsIn c (buffers_of (with_slot I es b)) → IsIn c (buffers_of es) ⊎ (c ≡ b)
    either c i =
        let j : IsIn c (buffers_of es ++ b ∷ []) = subst (λ (xs : List ℕ). IsIn c xs)
        (map-append (λ (e : Entry). e.0) es ((b, slot) ∷ [])) i in
        elim (from_append (buffers_of es) (b ∷ []) c j) [
          | inl k ↦ inl k
          | inr k ↦ elim k [ inl e ↦ inr e | inr z ↦ absurd z ]
        ]

    known : (c : ℕ) → IsIn c (buffers_of es) → IsIn c (buffers_of (with_slot I es b))
    known c i = subst (λ (xs : List ℕ). IsIn c xs) (sym (map-append (λ (e : Entry). e.0) es ((b, slot) ∷ [])))
        (left_append (buffers_of es) (b ∷ []) c i)

    old : (c : ℕ) → IsIn c (buffers_of es) → number_of (with_slot I es b) c ≡ number_of es c
    old c i = number_of-left es ((b, slot) ∷ []) c i

    new : number_of (with_slot I es b) b ≡ slot
    new = number_of-right es ((b, slot) ∷ []) b fresh ∙ rw (same b b refl) refl

    own : (e : Entry) → IsIn e es ⊎ IsIn e ((b, slot) ∷ []) → number_of (with_slot I es b) e.0 ≡ e.1
    own e (inl i) = old e.0 (into_map (λ (e : Entry). e.0) es e i) ∙ h.own e i
    own e (inr (inl q)) = ap (λ (e : Entry). number_of (with_slot I es b) e.0) q ∙ new ∙ sym (ap (λ (e : Entry). e.1) q)
    own e (inr (inr z)) = absurd z

    -- none that is taken before b and lasts has b's slot
    not_held : (c : ℕ) → IsIn c (buffers_of es) → (buffer I b).lower < (buffer I c).upper → number_of es c ≢ slot
    not_held c i lt e =
        free_is_free (held I b es) (subst (λ (s : ℕ). IsIn s (held I b es)) e (held_has I b c es i lt))

    free : (c d : ℕ) → IsIn c (buffers_of es) ⊎ (c ≡ b) → IsIn d (buffers_of es) ⊎ (d ≡ b) → IsTakenBefore I d c →
        (buffer I c).lower < (buffer I d).upper →
        number_of (with_slot I es b) d ≡ number_of (with_slot I es b) c → ⊥
    free c d (inl i) (inl j) before lt e = h.free c d i j before lt (sym (old d j) ∙ e ∙ old c i)
    free c d (inr p) (inl j) before lt e =
        not_held d j (subst (λ (x : ℕ). (buffer I x).lower < (buffer I d).upper) p lt)
        (sym (old d j) ∙ e ∙ ap (number_of (with_slot I es b)) p ∙ new)
    free c d (inl i) (inr q) before lt e =
        (turn_is_order I).one_way b c (subst (λ (x : ℕ). IsTakenBefore I x c) q before) (earlier c i)
    free c d (inr p) (inr q) before lt e = is_another I d c before (q ∙ sym p)

    lifted : (c s : ℕ) → Holds I es c s → Holds I (with_slot I es b) c s
    lifted c s w = (w.0, known w.0 w.1, w.2, w.3, old w.0 w.1 ∙ w.4)

    least : (c s : ℕ) → IsIn c (buffers_of es) ⊎ (c ≡ b) → s < number_of (with_slot I es b) c →
        Holds I (with_slot I es b) c s
    least c s (inl i) lt = lifted c s (h.least c s i (let e = old c i in omega arith))
    least c s (inr p) lt = subst (λ (x : ℕ). Holds I (with_slot I es b) x s) (sym p) (of_new below)
      where
        below : s < slot
        below = let e = ap (number_of (with_slot I es b)) p in let f = new in omega arith

        of_new : s < slot → Holds I (with_slot I es b) b s
        of_new less =
            let w = held_by I b s es (less_are_held (held I b es) s less) in
            let at = into_map (λ (e : Entry). e.0) es w.0 w.1 in
            lifted b s (w.0.0, at, earlier w.0.0 at, w.2, h.own w.0 w.1 ∙ w.3)

all_exact : (I : Instance) (order following : List ℕ) (es : List Entry) → order ≡ buffers_of es ++ following →
    IsInTurn I order → IsExact I es →
    IsExact I (slotted I following es) × (buffers_of (slotted I following es) ≡ order)
all_exact I order [] es e r h = (h, sym (e ∙ append-nil (buffers_of es)))
all_exact I order (b ∷ bs) es e r h =
    all_exact I order bs (with_slot I es b) (e ∙ grown) r
    (exact_one I es b bs (subst (λ (xs : List ℕ). IsInTurn I xs) e r) h)
  where
    grown : buffers_of es ++ b ∷ bs ≡ buffers_of (with_slot I es b) ++ bs
    grown =
        sym (append_assoc (buffers_of es) (b ∷ []) bs)
        ∙ ap (λ xs. xs ++ bs) (sym (map-append (λ (e : Entry). e.0) es ((b, least_free (held I b es)) ∷ [])))

no_slots : (I : Instance) → IsExact I []
no_slots I = record { own = λ e i. absurd i; free = λ b c i. absurd i; least = λ b s i. absurd i }

exact : (I : Instance) (members : List ℕ) → Rises members →
    IsExact I (slotted I (in_turn I members) []) × (buffers_of (slotted I (in_turn I members) []) ≡ in_turn I members)
exact I members r =
    all_exact I (in_turn I members) (in_turn I members) [] refl
    (ordered_is_ordered (rises_by (λ (b : Buffer). b.lower) I) members (turn_is_order I) r) (no_slots I)

pub slots_are_exact : (I : Instance) (members : List ℕ) → Rises members → IsSlotting I members (slot_of I members)
unfolding slot_of
slots_are_exact I members r =
    let x = exact I members r in
    let into : (b : ℕ) → IsIn b members → IsIn b (buffers_of (slotted I (in_turn I members) [])) = (λ b i.
    subst (λ (xs : List ℕ). IsIn b xs) (sym x.1)
    (into_ordered_by (rises_by (λ (b : Buffer). b.lower) I) members b i)) in
    let back : (b : ℕ) → IsIn b (buffers_of (slotted I (in_turn I members) [])) → IsIn b members = (λ b i.
    from_ordered_by (rises_by (λ (b : Buffer). b.lower) I) members b (subst (λ (xs : List ℕ). IsIn b xs) x.1 i)) in
    record {
      free = λ b c i j. x.0.free b c (into b i) (into c j);
      least = λ b s i lt. let w = x.0.least b s (into b i) lt in (w.0, back w.0 w.1, w.2, w.3, w.4);
    }
