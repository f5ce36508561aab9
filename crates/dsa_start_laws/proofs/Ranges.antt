-- Best-fit's free ranges are the greatest that meet no placed buffer.
use Rattle.std.proofs.Common.{◌≡◌, ℕ, ◌+◌, ◌-◌, ◌<◌, ◌≤◌, ◌⊎◌, ◌↔◌, inl, inr, true, false, ◌&&◌, ◌==◌, List, ◌∷◌, map, nat_lt, sym, refl, ap, ap₂, ◌∙◌, subst, arith}
use Rattle.std.specs.List.{list_any}
use Rattle.dsa_terms.specs.Buffers.{Instance, IsInstance}
use Rattle.dsa_terms.specs.Claims.{Entry, IsIn}
use Rattle.dsa_terms.specs.Logs.{greatest}
use Rattle.dsa_terms.specs.Fits.{top, highest, is_free, Range, stretches, free_ranges}
use Rattle.dsa_terms.proofs.Lists.{into_map, from_map, into_filter, from_filter, any_gives, none_passes, true_or_false, into_flat, from_flat}
use Rattle.dsa_terms.proofs.Moments.{and_true, both_true, sound}
use Rattle.dsa_terms.proofs.NumberTests.{differ, equal, is_below, less}
use Rattle.dsa_start_laws.specs.Fitting.{IsOpen, IsFreeRange}
use Rattle.dsa_start_laws.proofs.Stacks.{greatest_is}
use Rattle.dsa_start_laws.proofs.Places.{free_at, free_from, under_highest}

-- ---- ranges
pub range : ℕ → ℕ → Range
range x y = record { start = x; stop = y }

same_range : (r s : Range) → r.start ≡ s.start → r.stop ≡ s.stop → r ≡ s
same_range r s p q = ap₂ (λ (x y : ℕ). let r : Range = record { start = x; stop = y } in r) p q

top_past : (I : Instance) (e : Entry) → IsInstance I → e.1 < top I e
unfolding top
top_past I e s = let k = (sound I e.0 s).0 in omega arith

-- what the lists say of a free range: it begins at 0 or a top, and ends at a start
record IsBetween (I : Instance) (placed : List Entry) (r : Range) : Type 0 where
  begins : (r.start ≡ 0) ⊎ ((e : Entry) × IsIn e placed × (top I e ≡ r.start))
  ends : (e : Entry) × IsIn e placed × (e.1 ≡ r.stop)

of_stretches : (I : Instance) (placed : List Entry) (r : Range) → IsIn r (stretches I placed) → IsBetween I placed r
unfolding stretches
of_stretches I placed r i =
    let x = from_flat (λ x. map (λ (e : Entry). let r : Range = record { start = x; stop = e.1 } in r) placed)
    (0 ∷ map (top I) placed) r i in
    let e = from_map (λ (e : Entry). let r : Range = record { start = x.0; stop = e.1 } in r) placed r x.2 in
    record {
      begins = begins x.0 x.1 (ap (λ (r : Range). r.start) e.2);
      ends = (e.0, e.1, sym (ap (λ (r : Range). r.stop) e.2));
    }
  where
    begins : (x : ℕ) → IsIn x (0 ∷ map (top I) placed) → r.start ≡ x →
        (r.start ≡ 0) ⊎ ((e : Entry) × IsIn e placed × (top I e ≡ r.start))
    begins x (inl q) h = inl (h ∙ q)
    begins x (inr j) h = let f = from_map (top I) placed x j in inr (f.0, f.1, sym (h ∙ f.2))

into_stretches : (I : Instance) (placed : List Entry) (r : Range) → IsBetween I placed r → IsIn r (stretches I placed)
unfolding stretches range
into_stretches I placed r b =
    into_flat (λ x. map (λ (e : Entry). let r : Range = record { start = x; stop = e.1 } in r) placed)
    (0 ∷ map (top I) placed) r.start r (begins b.begins)
    (subst (λ (s : Range). IsIn s (map (λ (e : Entry). let s : Range = record { start = r.start; stop = e.1 } in
    s) placed)) (same_range (range r.start b.ends.0.1) r refl b.ends.2)
    (into_map (λ (e : Entry). let s : Range = record { start = r.start; stop = e.1 } in s) placed b.ends.0 b.ends.1))
  where
    begins : (r.start ≡ 0) ⊎ ((e : Entry) × IsIn e placed × (top I e ≡ r.start)) → IsIn r.start (0 ∷ map (top I) placed)
    begins (inl q) = inl q
    begins (inr e) = inr (subst (λ (x : ℕ). IsIn x (map (top I) placed)) e.2 (into_map (top I) placed e.0 e.1))

free_to : (I : Instance) (placed : List Entry) (r : Range) → is_free I placed r.start r.stop ≡ true → (e : Entry) →
    IsIn e placed → (r.stop ≤ e.1) ⊎ (top I e ≤ r.start)
unfolding top
free_to I placed r h e i = free_at I placed r.start r.stop e h i

to_free : (I : Instance) (placed : List Entry) (r : Range) →
    ((e : Entry) → IsIn e placed → (r.stop ≤ e.1) ⊎ (top I e ≤ r.start)) → is_free I placed r.start r.stop ≡ true
unfolding top
to_free I placed r h = free_from I placed r.start r.stop h

top_under : (I : Instance) (placed : List Entry) (e : Entry) → IsIn e placed → top I e ≤ highest I placed
unfolding top
top_under I placed e i = under_highest I placed e i

-- ---- a listed range is a greatest open one
listed_is_free : (I : Instance) (placed : List Entry) (r : Range) → IsInstance I → r.start < r.stop →
    is_free I placed r.start r.stop ≡ true → IsBetween I placed r → IsFreeRange I placed r
listed_is_free I placed r s lt free b = record {
  is_open = record {
    not_empty = lt;
    under = (let e = b.ends in let k = top_under I placed e.0 e.1 in let z = top_past I e.0 s in let q = e.2 in
        omega arith);
    free = free_to I placed r free;
  };
  greatest = λ o clear low high. same_range o r (start_stays o clear low high b.begins) (stop_stays o clear low high);
}
  where
    start_stays : (o : Range) → IsOpen I placed o → o.start ≤ r.start → r.stop ≤ o.stop →
        (r.start ≡ 0) ⊎ ((e : Entry) × IsIn e placed × (top I e ≡ r.start)) → o.start ≡ r.start
    start_stays o clear low high (inl q) = omega arith
    start_stays o clear low high (inr e) = go (clear.free e.0 e.1)
      where
        go : (o.stop ≤ e.0.1) ⊎ (top I e.0 ≤ o.start) → o.start ≡ r.start
        go (inl q) = absurd (let z = top_past I e.0 s in let k = e.2 in omega arith)
        go (inr q) = let k = e.2 in omega arith

    stop_stays : (o : Range) → IsOpen I placed o → o.start ≤ r.start → r.stop ≤ o.stop → o.stop ≡ r.stop
    stop_stays o clear low high = go (clear.free b.ends.0 b.ends.1)
      where
        go : (o.stop ≤ b.ends.0.1) ⊎ (top I b.ends.0 ≤ o.start) → o.stop ≡ r.stop
        go (inl q) = let k = b.ends.2 in omega arith
        go (inr q) = absurd (let z = top_past I b.ends.0 s in let k = b.ends.2 in omega arith)

-- ---- a greatest open range is listed
longer_down : (I : Instance) (placed : List Entry) (r : Range) → 1 ≤ r.start → IsOpen I placed r →
    list_any (λ e. top I e == r.start) placed ≡ false → IsOpen I placed (range (r.start - 1) r.stop)
unfolding range
longer_down I placed r pos o t = record {
  not_empty = (let k = o.not_empty in omega arith);
  under = o.under;
  free = λ e i. elim (o.free e i) [
    | inl q ↦ inl q
    | inr q ↦ inr (let n = differ (top I e) r.start (none_passes (λ e. top I e == r.start) placed e t i) in omega arith)
  ];
}

room_above : (I : Instance) (placed : List Entry) (r : Range) → IsInstance I → IsOpen I placed r →
    r.stop < highest I placed
unfolding highest
room_above I placed r s o = go (greatest_is (map (top I) placed)) (cases r.stop (greatest (map (top I) placed)) under)
  where
    under : r.stop ≤ greatest (map (top I) placed)
    under = o.under

    cases : (m n : ℕ) → m ≤ n → (m < n) ⊎ (m ≡ n)
    cases m n h = grind arith

    go : (greatest (map (top I) placed) ≡ 0) ⊎ IsIn (greatest (map (top I) placed)) (map (top I) placed) →
        (r.stop < greatest (map (top I) placed)) ⊎ (r.stop ≡ greatest (map (top I) placed)) →
        r.stop < greatest (map (top I) placed)
    go x (inl lt) = lt
    go (inl z) (inr e) = absurd (let k = o.not_empty in omega arith)
    go (inr i) (inr e) = let f = from_map (top I) placed (greatest (map (top I) placed)) i in absurd (clash f.0 f.1 f.2)
      where
        clash : (f : Entry) → IsIn f placed → greatest (map (top I) placed) ≡ top I f → ⊥
        clash f j q = elim (o.free f j) [
          | inl h ↦ (let z = top_past I f s in omega arith)
          | inr h ↦ (let k = o.not_empty in omega arith)
        ]

longer_up : (I : Instance) (placed : List Entry) (r : Range) → IsInstance I → IsOpen I placed r →
    list_any (λ (e : Entry). e.1 == r.stop) placed ≡ false → IsOpen I placed (range r.start (r.stop + 1))
unfolding range
longer_up I placed r s o t = record {
  not_empty = (let k = o.not_empty in omega arith);
  under = (let k = room_above I placed r s o in omega arith);
  free = λ e i. elim (o.free e i) [
    | inl q ↦ inl (let n = differ e.1 r.stop (none_passes (λ (e : Entry). e.1 == r.stop) placed e t i) in omega arith)
    | inr q ↦ inr q
  ];
}

begins_well : (I : Instance) (placed : List Entry) (r : Range) → IsFreeRange I placed r →
    (r.start ≡ 0) ⊎ ((e : Entry) × IsIn e placed × (top I e ≡ r.start))
unfolding range
begins_well I placed r f = go (zero_or_more r.start) (true_or_false (list_any (λ e. top I e == r.start) placed))
  where
    zero_or_more : (n : ℕ) → (n ≡ 0) ⊎ (1 ≤ n)
    zero_or_more n = grind arith

    go : (r.start ≡ 0) ⊎ (1 ≤ r.start) → (list_any (λ e. top I e == r.start) placed ≡ true)
        ⊎ (list_any (λ e. top I e == r.start) placed ≡ false) →
        (r.start ≡ 0) ⊎ ((e : Entry) × IsIn e placed × (top I e ≡ r.start))
    go (inl z) t = inl z
    go (inr pos) (inl t) = let e = any_gives (λ e. top I e == r.start) placed t in
        inr (e.0, e.1, equal (top I e.0) r.start e.2)
    go (inr pos) (inr t) = absurd (
        let o = f.is_open in
        let longer : IsOpen I placed (range (r.start - 1) r.stop) = longer_down I placed r pos o t in
        let same = f.greatest (range (r.start - 1) r.stop) longer (down r.start) (same_le r.stop) in
        fewer r.start (r.start - 1) (ap (λ (r : Range). r.start) same) pos refl)
      where
        down : (n : ℕ) → n - 1 ≤ n
        down n = omega arith

        same_le : (n : ℕ) → n ≤ n
        same_le n = omega arith

        fewer : (n m : ℕ) → m ≡ n → 1 ≤ n → m ≡ n - 1 → ⊥
        fewer n m p q z = omega arith

ends_well : (I : Instance) (placed : List Entry) (r : Range) → IsInstance I → IsFreeRange I placed r →
    (e : Entry) × IsIn e placed × (e.1 ≡ r.stop)
unfolding range
ends_well I placed r s f = go (true_or_false (list_any (λ (e : Entry). e.1 == r.stop) placed))
  where
    go : (list_any (λ (e : Entry). e.1 == r.stop) placed ≡ true)
        ⊎ (list_any (λ (e : Entry). e.1 == r.stop) placed ≡ false) → (e : Entry) × IsIn e placed × (e.1 ≡ r.stop)
    go (inl t) = let e = any_gives (λ (e : Entry). e.1 == r.stop) placed t in (e.0, e.1, equal e.0.1 r.stop e.2)
    go (inr t) = absurd (
        let o = f.is_open in
        let longer : IsOpen I placed (range r.start (r.stop + 1)) = longer_up I placed r s o t in
        let same = f.greatest (range r.start (r.stop + 1)) longer (same_le r.start) (more r.stop) in
        less r.stop (r.stop + 1) (ap (λ (r : Range). r.stop) same) refl)
      where
        more : (n : ℕ) → n ≤ n + 1
        more n = omega arith

        same_le : (n : ℕ) → n ≤ n
        same_le n = omega arith

        less : (n m : ℕ) → m ≡ n → m ≡ n + 1 → ⊥
        less n m p z = omega arith

pub free_ranges_exactly : (I : Instance) (placed : List Entry) (r : Range) → IsInstance I →
    IsIn r (free_ranges I placed) ↔ IsFreeRange I placed r
unfolding free_ranges
free_ranges_exactly I placed r s = (
  λ i. let x = from_filter (λ (r : Range). nat_lt r.start r.stop && is_free I placed r.start r.stop)
      (stretches I placed) r i in
      let q = and_true (nat_lt r.start r.stop) (is_free I placed r.start r.stop) x.1 in
      listed_is_free I placed r s (less r.start r.stop q.0) q.1 (of_stretches I placed r x.0),
  λ f. into_filter (λ (r : Range). nat_lt r.start r.stop && is_free I placed r.start r.stop) (stretches I placed) r
      (into_stretches I placed r (record { begins = begins_well I placed r f; ends = ends_well I placed r s f }))
      (both_true (nat_lt r.start r.stop) (is_free I placed r.start r.stop) (is_below r.start r.stop f.is_open.not_empty)
      (to_free I placed r f.is_open.free)),
)
