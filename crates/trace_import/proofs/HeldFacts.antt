-- Worked facts of what a trace holds, and of what its faults say.
use Rattle.std.proofs.Common.{◌≡◌, ◌∙◌, ℕ, List, [], ◌∷◌, codes, length, map, option_map, slice_get, take, Some, inl, inr, refl, sym, true, slice_index, ap, arith, lit<, lit≤}
use Rattle.std.proofs.lemmas.Option.{slice_get-map}
use Rattle.dsa_terms.specs.Buffers.{Buffer, Instance, is_live}
use Rattle.dsa_terms.specs.Claims.{IsIn}
use Rattle.dsa_terms.proofs.Examples.{plain}
use Rattle.trace_import.specs.Faults.{pieces_of}
use Rattle.trace_import.specs.Laws.{HoldsAfter, IsNotLive, IsStillLive, Reaches}
use Rattle.trace_import.specs.Lines.{event_in}
use Rattle.trace_import.specs.Traces.{Alloc, Event, Free, HasLive, IsHeld, IsTraced, Trace, imported}
use Rattle.trace_import.proofs.ExampleFacts.{allocated_twice, freed_twice, twice}
use Rattle.trace_import.proofs.Imported.{imported_traced}
use Rattle.trace_import.proofs.Refusals.{not_live_unheld, still_live_holds}

-- a is not b
two_letters : codes "a" ≡ codes "b" → ⊥
two_letters e = let k : 97 ≡ 98 = ap (λ (xs : List ℕ). slice_index xs 0) e in omega (arith, k)

-- ---- after all four lines
the_later_holds : HoldsAfter twice 3 (codes "a")
the_later_holds = record {
  size = 2;
  alignment = 1;
  held = record {
    id = codes "a";
    allocates = refl;
    started = omega arith;
    unfreed = λ f lt le e. absurd (omega arith);
  };
  its_id = refl;
}

the_earlier_does_not : HoldsAfter twice 0 (codes "a") → ⊥
the_earlier_does_not h = h.held.unfreed 2 (lit< tt) (lit≤ tt) (ap (λ i. Some (Free i)) (sym h.its_id))

-- line 1 holds b
not_a_by_the_second : HoldsAfter twice 1 (codes "a") → ⊥
not_a_by_the_second h = let e = h.held.allocates in let k : codes "b" ≡ h.held.id = cc in
    two_letters (sym (k ∙ h.its_id))

-- ---- buffers
abbrev buffers : Instance
buffers = plain 0 2 4 1 ∷ plain 1 4 8 4 ∷ plain 3 4 2 1 ∷ []

second_at_2 : HasLive buffers 2 1 8 4
unfolding is_live
second_at_2 = record {
  buffer = plain 1 4 8 4;
  among = inr (inl refl);
  its_line = refl;
  its_size = refl;
  its_alignment = refl;
  live = refl;
}

-- line 2 frees what line 0 held
not_first_at_2 : HasLive buffers 2 0 4 1 → ⊥
unfolding is_live
not_first_at_2 h = go h.buffer h.among h.its_line h.live
  where
    go : (b : Buffer) → IsIn b buffers → b.lower ≡ 0 → is_live b 2 ≡ true → ⊥
    go b (inl q) e l = absurd (let k = rw q at l in cc)
    go b (inr (inl q)) e l = absurd (let k : 1 ≡ 0 = rw q at e in omega arith)
    go b (inr (inr (inl q))) e l = absurd (let k : 3 ≡ 0 = rw q at e in omega arith)
    go b (inr (inr (inr z))) e l = z

are_traced : IsTraced twice buffers
unfolding imported
are_traced = imported_traced twice

-- the first buffer may not be live at the line that frees it
not_a_line_longer : IsTraced twice (plain 0 3 4 1 ∷ plain 1 4 8 4 ∷ plain 3 4 2 1 ∷ []) → ⊥
unfolding is_live
not_a_line_longer h = go ((h.held 2 0 4 1 (lit< tt)).1 (record {
  buffer = plain 0 3 4 1;
  among = inl refl;
  its_line = refl;
  its_size = refl;
  its_alignment = refl;
  live = refl;
}))
  where
    go : IsHeld twice 2 0 4 1 → ⊥
    go w = w.unfreed 2 (lit< tt) (lit≤ tt) (let k = w.allocates in cc)

not_without_the_second : IsTraced twice (plain 0 2 4 1 ∷ plain 3 4 2 1 ∷ []) → ⊥
unfolding is_live
not_without_the_second h = go ((h.held 1 1 8 4 (lit< tt)).0 (record {
  id = codes "b";
  allocates = refl;
  started = lit≤ tt;
  unfreed = λ f lt le e. absurd (omega arith);
}))
  where
    go : HasLive (plain 0 2 4 1 ∷ plain 3 4 2 1 ∷ []) 1 1 8 4 → ⊥
    go w = elim w.among [
      | inl q ↦ omega (arith, w.its_line, ap (λ (b : Buffer). b.lower) q)
      | inr (inl q) ↦ omega (arith, w.its_line, ap (λ (b : Buffer). b.lower) q)
      | inr (inr z) ↦ z
    ]

-- ---- faults
-- a is allocated twice, and b between
abbrev again : List ℕ
again = codes "alloc a 4 1\nalloc b 8 4\nalloc a 2 1\n"

first_holds_it : IsStillLive again 2 0
first_holds_it = still_live_holds again 2 0 allocated_twice

-- the line that the bytes come to, and those before it
at_line : (bytes : List ℕ) (before : Trace) (event : Event) (n : ℕ) → Reaches bytes before event → length before ≡ n →
    (map event_in (take n (pieces_of bytes)) ≡ map Some before)
    × (option_map event_in (slice_get (pieces_of bytes) n) ≡ Some (Some event))
at_line bytes before event n r count = rw (← count) (r.lines, ap (option_map event_in) r.next ∙ ap Some r.writes)

-- the third line has not the identifier of the second
second_does_not : IsStillLive again 2 1 → ⊥
second_does_not h = go (at_line again h.before (Alloc h.id h.size h.alignment) 2 h.reaches h.count)
  where
    go : (map event_in (take 2 (pieces_of again)) ≡ map Some h.before)
        × (option_map event_in (slice_get (pieces_of again) 2) ≡ Some (Some (Alloc h.id h.size h.alignment))) → ⊥
    go r =
        let its_own : codes "a" ≡ h.id = cc in
        let second : Some (Some (Alloc (codes "b") 8 4)) ≡ option_map Some (slice_get h.before 1) =
        ap (λ es. slice_get es 1) r.0 ∙ slice_get-map Some h.before 1 in
        let held : slice_get h.before 1 ≡ Some (Alloc h.id h.holds.size h.holds.alignment) =
        h.holds.held.allocates ∙ ap (λ i. Some (Alloc i h.holds.size h.holds.alignment)) h.holds.its_id in
        let its_id : codes "b" ≡ h.id = cc in
        two_letters (its_own ∙ sym its_id)

abbrev freed : List ℕ
freed = codes "alloc a 4 1\nfree a\nfree a\n"

nobody_holds_it : IsNotLive freed 2
nobody_holds_it = not_live_unheld freed 2 freed_twice

-- the first line holds what the second one frees
somebody_holds_it : IsNotLive freed 1 → ⊥
somebody_holds_it h = go (at_line freed h.before (Free h.id) 1 h.reaches h.count)
  where
    one_line : (e : Event) (es : List Event) → Some e ∷ [] ≡ map Some es → es ≡ e ∷ []
    one_line e [] q = absurd cc
    one_line e (x ∷ []) q = cc
    one_line e (x ∷ y ∷ es) q = absurd cc

    first : HoldsAfter (Alloc (codes "a") 4 1 ∷ []) 0 (codes "a")
    first = record {
      size = 4;
      alignment = 1;
      held = record {
        id = codes "a";
        allocates = refl;
        started = omega arith;
        unfreed = λ f lt le e. absurd (omega arith);
      };
      its_id = refl;
    }

    go : (map event_in (take 1 (pieces_of freed)) ≡ map Some h.before)
        × (option_map event_in (slice_get (pieces_of freed) 1) ≡ Some (Some (Free h.id))) → ⊥
    go r =
        let its_own : codes "a" ≡ h.id = cc in
        let before = one_line (Alloc (codes "a") 4 1) h.before r.0 in
        h.none 0 (rw (before, ← its_own) first)
