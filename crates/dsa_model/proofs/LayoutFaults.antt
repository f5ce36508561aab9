-- Offsets have no fault exactly where they are a layout.
use Rattle.std.proofs.Common.{◌≡◌, ℕ, ◌+◌, ◌-◌, ◌%◌, ◌<◌, ◌≤◌, ◌≢◌, ◌⊎◌, ◌↔◌, inl, inr, Bool, true, false, not, ◌||◌, ◌==◌, List, [], ◌∷◌, length, find, slice_index, nat_le, Option, Some, None, option_map, if◌then◌else◌, refl, ap, sym, ◌∙◌, arith}
use Rattle.std.specs.List.{range_with_len}
use Rattle.std.proofs.lemmas.Bool.Decides.{nat_tests}
use Rattle.dsa_terms.specs.Buffers.{Buffer, Instance, buffer, IsLive}
use Rattle.dsa_terms.specs.Firsts.{when, first_fault}
use Rattle.dsa_terms.specs.Layouts.{IsApart, IsLayout}
use Rattle.dsa_terms.specs.Parts.{numbers}
use Rattle.dsa_terms.specs.Search.{first_some}
use Rattle.dsa_terms.proofs.Lists.{all_none, some_answer, true_or_false, none_found}
use Rattle.dsa_terms.proofs.Moments.{and_true, both_true, live_before}
use Rattle.dsa_terms.proofs.NumberTests.{not_below, not_less}
use Rattle.dsa_terms.proofs.Ranges.{from_range, into_range, below, among}
use Rattle.dsa_model.specs.Moments.{IsLeastFrom, are_live, first_common}
use Rattle.dsa_model.specs.LayoutFaults.{IsOverlap, is_unaligned, is_too_low, is_above, are_apart, overlap, overlap_after, first_overlap, first_unaligned, first_too_low, first_above, layout_fault}
use Rattle.dsa_model.specs.declared.layout.LayoutFault.{LayoutFault}
use Rattle.dsa_model.specs.declared.layout.LayoutFault.TheVariants as fault
use Rattle.dsa_model.proofs.Faults.{map_none}
use Rattle.dsa_model.proofs.Ranges.{least_is_found, found_is_least, find_none, some_none}

-- a test of what was shown is one of the buffer that it is
pub tested : (p : Buffer → Bool) (x y : Buffer) (r v : Bool) → r ≡ p x → x ≡ y → r ≡ v → p y ≡ v
tested p x y r v h e q = cc

-- ---- the first common moment
pub common_found : (b c : Buffer) (t : ℕ) → IsLeastFrom (are_live b c) 0 t → first_common b c ≡ Some t
unfolding first_common
common_found b c t h = least_is_found (are_live b c) b.upper t h (live_before b t (and_true _ _ h.holds).0)

pub none_common : (b c : Buffer) → ((t : ℕ) → are_live b c t ≡ false) → first_common b c ≡ None
unfolding first_common
none_common b c h = find_none (are_live b c) (numbers b.upper) (λ t i. h t)

-- ---- one pair: b and c are the buffers that were shown
pub no_overlap_of_apart : (I : Instance) (offsets : List ℕ) (i j : ℕ) (b c : Buffer) (r : Bool) →
    r ≡ are_apart b (slice_index offsets i) c (slice_index offsets j) → b ≡ buffer I i → c ≡ buffer I j → r ≡ true →
    overlap I offsets i j ≡ None
unfolding overlap
no_overlap_of_apart I offsets i j b c r h e f t =
    let k : are_apart (buffer I i) (slice_index offsets i) (buffer I j) (slice_index offsets j) ≡ true =
    rw (← e, ← f) (sym h ∙ t) in rw k refl

pub overlap_at : (I : Instance) (offsets : List ℕ) (i j t : ℕ) (b c : Buffer) (r : Bool) →
    r ≡ are_apart b (slice_index offsets i) c (slice_index offsets j) → b ≡ buffer I i → c ≡ buffer I j → r ≡ false →
    IsLeastFrom (are_live b c) 0 t → overlap I offsets i j ≡ Some (fault.Overlap i j t)
unfolding overlap
overlap_at I offsets i j t b c r h e f q m =
    let k : are_apart (buffer I i) (slice_index offsets i) (buffer I j) (slice_index offsets j) ≡ false =
    rw (← e, ← f) (sym h ∙ q) in
    let n : first_common (buffer I i) (buffer I j) ≡ Some t = rw (← e, ← f) (common_found b c t m) in
    rw (k, n) refl

pub no_overlap_of_none : (I : Instance) (offsets : List ℕ) (i j : ℕ) (b c : Buffer) →
    b ≡ buffer I i → c ≡ buffer I j → ((t : ℕ) → are_live b c t ≡ false) → overlap I offsets i j ≡ None
unfolding overlap
no_overlap_of_none I offsets i j b c e f h =
    let n : first_common (buffer I i) (buffer I j) ≡ None = rw (← e, ← f) (none_common b c h) in
    go (are_apart (buffer I i) (slice_index offsets i) (buffer I j) (slice_index offsets j)) n
  where
    go : (x : Bool) → first_common (buffer I i) (buffer I j) ≡ None →
        (if x then None else option_map (fault.Overlap i j) (first_common (buffer I i) (buffer I j))) ≡ None
    go true n = refl
    go false n = rw n refl

-- ---- no fault
equal : (m n : ℕ) → not (m == n) ≡ false → m ≡ n
equal m n h = grind (arith, nat_tests)

of_equal : (m n : ℕ) → m ≡ n → not (m == n) ≡ false
of_equal m n h = grind (arith, nat_tests)

aligned_where_none : (I : Instance) (offsets : List ℕ) (b : ℕ) → first_unaligned I offsets ≡ None → b < length I →
    slice_index offsets b % (buffer I b).alignment ≡ 0
unfolding first_unaligned
aligned_where_none I offsets b h lt =
    equal _ _ (none_found (λ b. is_unaligned (buffer I b) (slice_index offsets b)) (numbers (length I)) b h
    (among _ b lt))

none_where_aligned : (I : Instance) (offsets : List ℕ) →
    ((b : ℕ) → b < length I → slice_index offsets b % (buffer I b).alignment ≡ 0) →
    first_unaligned I offsets ≡ None
unfolding first_unaligned
none_where_aligned I offsets h =
    find_none (λ b. is_unaligned (buffer I b) (slice_index offsets b)) (numbers (length I))
    (λ b i. of_equal _ _ (h b (below _ b i)))

above_where_none : (I : Instance) (offsets : List ℕ) (b : ℕ) → first_too_low I offsets ≡ None → b < length I →
    (buffer I b).lowest ≤ slice_index offsets b
unfolding first_too_low
above_where_none I offsets b h lt =
    not_less _ _ (none_found (λ b. is_too_low (buffer I b) (slice_index offsets b)) (numbers (length I)) b h
    (among _ b lt))

none_where_above : (I : Instance) (offsets : List ℕ) →
    ((b : ℕ) → b < length I → (buffer I b).lowest ≤ slice_index offsets b) →
    first_too_low I offsets ≡ None
unfolding first_too_low
none_where_above I offsets h =
    find_none (λ b. is_too_low (buffer I b) (slice_index offsets b)) (numbers (length I))
    (λ b i. not_below _ _ (h b (below _ b i)))

within_where_none : (I : Instance) (C : ℕ) (offsets : List ℕ) (b : ℕ) → first_above I C offsets ≡ None → b < length I →
    slice_index offsets b + (buffer I b).size ≤ C
unfolding first_above
within_where_none I C offsets b h lt =
    not_less _ _ (none_found (λ b. is_above C (buffer I b) (slice_index offsets b)) (numbers (length I)) b h
    (among _ b lt))

none_where_within : (I : Instance) (C : ℕ) (offsets : List ℕ) →
    ((b : ℕ) → b < length I → slice_index offsets b + (buffer I b).size ≤ C) →
    first_above I C offsets ≡ None
unfolding first_above
none_where_within I C offsets h =
    find_none (λ b. is_above C (buffer I b) (slice_index offsets b)) (numbers (length I))
    (λ b i. not_below _ _ (h b (below _ b i)))

-- ---- no overlap
apart_of : (b c : Buffer) (x y : ℕ) → are_apart b x c y ≡ true → IsApart b x c y
apart_of b c x y h = close (x + b.size) y (y + c.size) x h
  where
    close : (m n p q : ℕ) → (nat_le m n || nat_le p q) ≡ true → (m ≤ n) ⊎ (p ≤ q)
    close m n p q h = grind (arith, nat_tests)

of_apart : (b c : Buffer) (x y : ℕ) → IsApart b x c y → are_apart b x c y ≡ true
of_apart b c x y h = close (x + b.size) y (y + c.size) x h
  where
    close : (m n p q : ℕ) → (m ≤ n) ⊎ (p ≤ q) → (nat_le m n || nat_le p q) ≡ true
    close m n p q (inl h) = grind (arith, nat_tests)
    close m n p q (inr h) = grind (arith, nat_tests)

no_common : (b c : Buffer) (t : ℕ) → first_common b c ≡ None → IsLive b t → IsLive c t → ⊥
unfolding first_common
no_common b c t h p q =
    let f : are_live b c t ≡ false =
    none_found (are_live b c) (numbers b.upper) t h (among b.upper t (live_before b t p)) in
    let g : are_live b c t ≡ true = both_true _ _ p q in
    absurd (cc (f, g))

apart_where_none : (I : Instance) (offsets : List ℕ) (b c t : ℕ) → overlap I offsets b c ≡ None →
    IsLive (buffer I b) t → IsLive (buffer I c) t →
    IsApart (buffer I b) (slice_index offsets b) (buffer I c) (slice_index offsets c)
unfolding overlap
apart_where_none I offsets b c t h p q =
    go (are_apart (buffer I b) (slice_index offsets b) (buffer I c) (slice_index offsets c)) refl h
  where
    go : (x : Bool) → are_apart (buffer I b) (slice_index offsets b) (buffer I c) (slice_index offsets c) ≡ x →
        (if x then None else option_map (fault.Overlap b c) (first_common (buffer I b) (buffer I c))) ≡ None →
        IsApart (buffer I b) (slice_index offsets b) (buffer I c) (slice_index offsets c)
    go true e k = apart_of (buffer I b) (buffer I c) (slice_index offsets b) (slice_index offsets c) e
    go false e k =
        absurd (no_common (buffer I b) (buffer I c) t
        (map_none (fault.Overlap b c) (first_common (buffer I b) (buffer I c)) k) p q)

none_where_apart : (I : Instance) (offsets : List ℕ) (b c : ℕ) →
    ((t : ℕ) → IsLive (buffer I b) t → IsLive (buffer I c) t → IsApart (buffer I b) (slice_index offsets b) (buffer I c)
    (slice_index offsets c)) →
    overlap I offsets b c ≡ None
unfolding overlap
none_where_apart I offsets b c h =
    go (are_apart (buffer I b) (slice_index offsets b) (buffer I c) (slice_index offsets c)) refl
  where
    never : are_apart (buffer I b) (slice_index offsets b) (buffer I c) (slice_index offsets c) ≡ false → (t : ℕ) →
        are_live (buffer I b) (buffer I c) t ≡ false
    never e t = elim (true_or_false (are_live (buffer I b) (buffer I c) t)) [
      | inl k ↦ (
          let r = and_true _ _ k in
          let f = of_apart (buffer I b) (buffer I c) (slice_index offsets b) (slice_index offsets c) (h t r.0 r.1) in
          absurd (cc (e, f)))
      | inr k ↦ k
    ]

    go : (x : Bool) → are_apart (buffer I b) (slice_index offsets b) (buffer I c) (slice_index offsets c) ≡ x →
        (if x then None else option_map (fault.Overlap b c) (first_common (buffer I b) (buffer I c))) ≡ None
    go true e = refl
    go false e = rw (none_common (buffer I b) (buffer I c) (never e)) refl

other_way : (b c : Buffer) (x y : ℕ) → IsApart b x c y → IsApart c y b x
other_way b c x y (inl q) = inr q
other_way b c x y (inr q) = inl q

no_overlap_of_pair : (I : Instance) (offsets : List ℕ) (b c : ℕ) → first_overlap I offsets ≡ None → b < c →
    c < length I → overlap I offsets b c ≡ None
unfolding first_overlap overlap_after
no_overlap_of_pair I offsets b c h less lt =
    all_none (overlap I offsets b) (range_with_len (b + 1) (length I - (b + 1))) c
    (all_none (overlap_after I offsets) (numbers (length I)) b h (among _ b (omega arith)))
    (into_range (length I - (b + 1)) (b + 1) c (omega arith) (omega arith))

apart_of_no_overlap : (I : Instance) (offsets : List ℕ) (b c t : ℕ) → first_overlap I offsets ≡ None → b < length I →
    c < length I → b ≢ c →
    IsLive (buffer I b) t → IsLive (buffer I c) t →
    IsApart (buffer I b) (slice_index offsets b) (buffer I c) (slice_index offsets c)
apart_of_no_overlap I offsets b c t h lb lc ne p q = elim (order b c ne) [
  | inl less ↦ apart_where_none I offsets b c t (no_overlap_of_pair I offsets b c h less lc) p q
  | inr less ↦ other_way (buffer I c) (buffer I b) (slice_index offsets c) (slice_index offsets b)
      (apart_where_none I offsets c b t (no_overlap_of_pair I offsets c b h less lb) q p)
]
  where
    order : (m n : ℕ) → m ≢ n → (m < n) ⊎ (n < m)
    order m n h = grind arith

no_overlap_of_layout : (I : Instance) (C : ℕ) (offsets : List ℕ) → IsLayout I C offsets → first_overlap I offsets ≡ None
unfolding first_overlap overlap_after
no_overlap_of_layout I C offsets h =
    some_none (overlap_after I offsets) (numbers (length I)) (λ b i. after b (below _ b i))
  where
    after : (b : ℕ) → b < length I →
        first_some (overlap I offsets b) (range_with_len (b + 1) (length I - (b + 1))) ≡ None
    after b lt = some_none (overlap I offsets b) (range_with_len (b + 1) (length I - (b + 1))) (λ c j.
        let k = from_range (length I - (b + 1)) (b + 1) c j in
        none_where_apart I offsets b c (λ t p q. h.apart b c t lt (let x = k.0 in let y = k.1 in omega arith)
        (λ e. let x = k.0 in omega arith) p q))

-- ---- a layout
-- none of five is a fault
none_of_five : (w : Bool) (u l a : Option ℕ) (o : Option LayoutFault) →
    first_fault (when w fault.WrongCount ∷ option_map fault.Unaligned u ∷ option_map fault.TooLow l
    ∷ option_map fault.Above a ∷ o ∷ []) ≡ None →
    (w ≡ false) × (u ≡ None) × (l ≡ None) × (a ≡ None) × (o ≡ None)
none_of_five true u l a o h = absurd cc
none_of_five false (Some x) l a o h = absurd cc
none_of_five false None (Some x) a o h = absurd cc
none_of_five false None None (Some x) o h = absurd cc
none_of_five false None None None (Some f) h = absurd cc
none_of_five false None None None None h = (refl, refl, refl, refl, refl)

layout_of_no_fault : (I : Instance) (C : ℕ) (offsets : List ℕ) → layout_fault I C offsets ≡ None → IsLayout I C offsets
layout_of_no_fault I C offsets h =
    let none = none_of_five (not (length offsets == length I)) (first_unaligned I offsets) (first_too_low I offsets)
    (first_above I C offsets) (first_overlap I offsets) h in
    record {
      count = equal _ _ none.0;
      aligned = λ b lt. aligned_where_none I offsets b none.1 lt;
      above = λ b lt. above_where_none I offsets b none.2 lt;
      within = λ b lt. within_where_none I C offsets b none.3 lt;
      apart = λ b c t lb lc ne p q. apart_of_no_overlap I offsets b c t none.4 lb lc ne p q;
    }

no_fault_of_layout : (I : Instance) (C : ℕ) (offsets : List ℕ) → IsLayout I C offsets → layout_fault I C offsets ≡ None
no_fault_of_layout I C offsets h =
    rw (
      of_equal _ _ h.count,
      none_where_aligned I offsets h.aligned,
      none_where_above I offsets h.above,
      none_where_within I C offsets h.within,
      no_overlap_of_layout I C offsets h,
    ) refl

pub layout_exactly : (I : Instance) (C : ℕ) (offsets : List ℕ) →
    (layout_fault I C offsets ≡ None) ↔ IsLayout I C offsets
layout_exactly I C offsets = (layout_of_no_fault I C offsets, no_fault_of_layout I C offsets)

-- ---- an overlap
-- the first fault is an overlap only as the first overlap
only_overlaps : (w : Bool) (u l a : Option ℕ) (o : Option LayoutFault) (b c t : ℕ) →
    first_fault (when w fault.WrongCount ∷ option_map fault.Unaligned u ∷ option_map fault.TooLow l ∷
    option_map fault.Above a ∷ o ∷ []) ≡ Some
    (fault.Overlap b c t) →
    o ≡ Some (fault.Overlap b c t)
only_overlaps true u l a o b c t h = absurd cc
only_overlaps false (Some x) l a o b c t h = absurd cc
only_overlaps false None (Some x) a o b c t h = absurd cc
only_overlaps false None None (Some x) o b c t h = absurd cc
only_overlaps false None None None None b c t h = absurd cc
only_overlaps false None None None (Some f) b c t h = h

-- an overlap that was answered is of the pair that was asked
pair_answers : (I : Instance) (offsets : List ℕ) (i j b c t : ℕ) → i < j → j < length I →
    overlap I offsets i j ≡ Some (fault.Overlap b c t) →
    IsOverlap I offsets b c t
unfolding overlap first_common
pair_answers I offsets i j b c t less lt h =
    go (are_apart (buffer I i) (slice_index offsets i) (buffer I j) (slice_index offsets j)) refl h
  where
    same : (o : Option ℕ) → option_map (fault.Overlap i j) o ≡ Some (fault.Overlap b c t) →
        (i ≡ b) × (j ≡ c) × (o ≡ Some t)
    same None k = absurd cc
    same (Some x) k = (cc, cc, (let q : x ≡ t = cc in ap Some q))

    crossing : are_apart (buffer I i) (slice_index offsets i) (buffer I j) (slice_index offsets j) ≡ false →
        IsApart (buffer I i) (slice_index offsets i) (buffer I j) (slice_index offsets j) → ⊥
    crossing e a =
        let f = of_apart (buffer I i) (buffer I j) (slice_index offsets i) (slice_index offsets j) a in absurd
        (cc (e, f))

    go : (x : Bool) → are_apart (buffer I i) (slice_index offsets i) (buffer I j) (slice_index offsets j) ≡ x →
        (if x then None else option_map (fault.Overlap i j)
        (find (are_live (buffer I i) (buffer I j)) (numbers (buffer I i).upper))) ≡ Some (fault.Overlap b c t) →
        IsOverlap I offsets b c t
    go true e k = absurd cc
    go false e k =
        let r = same (find (are_live (buffer I i) (buffer I j)) (numbers (buffer I i).upper)) k in
        rw (← r.0, ← r.1) (record {
          in_order = less;
          in_range = lt;
          not_apart = crossing e;
          first_moment = found_is_least (are_live (buffer I i) (buffer I j)) (buffer I i).upper t r.2;
        })

pub overlap_is : (I : Instance) (C : ℕ) (offsets : List ℕ) (b c t : ℕ) →
    layout_fault I C offsets ≡ Some (fault.Overlap b c t) → IsOverlap I offsets b c t
unfolding first_overlap overlap_after
overlap_is I C offsets b c t h =
    let r =
    some_answer (overlap_after I offsets) (numbers (length I)) _ (only_overlaps (not (length offsets == length I))
    (first_unaligned I offsets) (first_too_low I offsets) (first_above I C offsets)
    (first_some (overlap_after I offsets) (numbers (length I))) b c t h) in
    let s = some_answer (overlap I offsets r.0) (range_with_len (r.0 + 1) (length I - (r.0 + 1))) _ r.2 in
    let k = from_range (length I - (r.0 + 1)) (r.0 + 1) s.0 s.1 in
    let l = below (length I) r.0 r.1 in
    pair_answers I offsets r.0 s.0 b c t (let x = k.0 in omega arith) (let x = k.0 in let y = k.1 in omega arith) s.2
