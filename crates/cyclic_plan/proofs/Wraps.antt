-- The rows that wrap, and what rows say after these changes.
use Rattle.std.proofs.Common.{◌≡◌, ◌≤◌, ◌<◌, ◌+◌, ◌^◌, ◌∷◌, ◌++◌, ◌∙◌, ◌==◌, ℕ, List, [], true, false, Some, None, Ok, drop, length, map, nat_lt, refl, ap, arith, inl, inr}
use Rattle.std.proofs.lemmas.Bool.Decides.{nat_tests}
use Rattle.std.proofs.lemmas.List.{drop_more, length-map}
use Rattle.std.specs.List.{All}
use Rattle.dsa_terms.specs.Buffers.{Buffer, buffer, no_buffer}
use Rattle.dsa_terms.specs.Claims.{IsIn, Rises}
use Rattle.dsa_terms.proofs.Lists.{true_or_false}
use Rattle.dsa_terms.proofs.NumberTests.{apart}
use Rattle.dsa_terms.proofs.Places.{all_from_in}
use Rattle.dsa_model.specs.Buffer.{buffer_of}
use Rattle.dsa_model.specs.Limits.{time_limit}
use Rattle.csv_instance.specs.Changed.{AreFrom, AreMoments, Change, change_of, changed_from, changed_numbers, changed_value, changed_values}
use Rattle.csv_instance.specs.Parse.{row_buffer}
use Rattle.csv_instance.specs.Records.{Record}
use Rattle.csv_instance.specs.Rows.{parse_rows, values_of}
use Rattle.csv_instance.proofs.ChangedLemmas.{none_before}
use Rattle.cyclic_plan.specs.Cycles.{IsInPeriod, does_wrap, unrolled}
use Rattle.cyclic_plan.specs.Unrolled.{cycle_row_fault, cycle_rows_fault, wraps_from}
use Rattle.cyclic_plan.specs.declared.fault.CycleFault.{CycleFault}

-- ---- one row
-- a row that does not wrap stays
pub unrolled_stays : (P : ℕ) (b : Buffer) → does_wrap b ≡ false → unrolled P b ≡ b
unfolding unrolled
unrolled_stays P b e = rw e refl

-- one that wraps has the whole period, and a gap more
pub unrolled_wraps : (P : ℕ) (b : Buffer) → does_wrap b ≡ true →
    unrolled P b ≡ buffer_of 0 P b.size b.alignment (b.gaps ++ (b.upper, b.lower) ∷ []) b.lowest
unfolding unrolled
unrolled_wraps P b e = rw e refl

-- the same of numbers that are those of the row
pub stays_of : (P lower upper size alignment : ℕ) (gaps : List (ℕ × ℕ)) (lowest : ℕ) (b : Buffer) → lower ≡ b.lower →
    upper ≡ b.upper →
    size ≡ b.size → alignment ≡ b.alignment → gaps ≡ b.gaps → lowest ≡ b.lowest → lower ≤ upper →
    buffer_of lower upper size alignment gaps lowest ≡ unrolled P b
stays_of P lower upper size alignment gaps lowest b l u s a g f le =
    let not : does_wrap b ≡ false = not_wrapped b.lower b.upper (rw (l, u) at le) in
    rw (unrolled_stays P b not, l, u, s, a, g, f) refl
  where
    not_wrapped : (l u : ℕ) → l ≤ u → nat_lt u l ≡ false
    not_wrapped l u le = grind (arith, nat_tests)

pub wraps_of : (P lower upper size alignment : ℕ) (gaps : List (ℕ × ℕ)) (lowest : ℕ) (b : Buffer) → lower ≡ b.lower →
    upper ≡ b.upper →
    size ≡ b.size → alignment ≡ b.alignment → gaps ≡ b.gaps → lowest ≡ b.lowest → upper < lower →
    buffer_of 0 P size alignment (gaps ++ (upper, lower) ∷ []) lowest ≡ unrolled P b
wraps_of P lower upper size alignment gaps lowest b l u s a g f lt =
    let is : does_wrap b ≡ true = wrapped b.lower b.upper (rw (l, u) at lt) in
    rw (unrolled_wraps P b is, l, u, s, a, g, f) refl
  where
    wrapped : (l u : ℕ) → u < l → nat_lt u l ≡ true
    wrapped l u lt = grind (arith, nat_tests)

-- ---- the changes
-- they are of rows from the first on, and rise
pub wraps_rise : (P n : ℕ) (bs : List Buffer) → AreFrom n (wraps_from P n bs)
wraps_rise P n [] = tt
wraps_rise P n (b ∷ bs) = elim (true_or_false (does_wrap b)) [
  | inl e ↦ rw e (omega arith, wraps_rise P (n + 1) bs)
  | inr e ↦ rw e (from_later n (wraps_from P (n + 1) bs) (wraps_rise P (n + 1) bs))
]
  where
    from_later : (n : ℕ) (cs : List Change) → AreFrom (n + 1) cs → AreFrom n cs
    from_later n [] h = tt
    from_later n (c ∷ cs) h = (let k = h.0 in omega arith, h.1)

rises_of : (n : ℕ) (cs : List Change) → AreFrom n cs →
    Rises (changed_numbers cs) × ((y : ℕ) → IsIn y (changed_numbers cs) → n ≤ y)
rises_of n [] h = (tt, λ y i. absurd i)
rises_of n (c ∷ cs) h =
    let rest = rises_of (c.0 + 1) cs h.1 in
    let least = h.0 in (
      (λ y i. let k = rest.1 y i in omega arith, rest.0),
      λ y i. elim i [
        | inl e ↦ omega arith
        | inr j ↦ let k = rest.1 y j in omega arith
      ],
    )

pub wraps_ready : (P : ℕ) (bs : List Buffer) → Rises (changed_numbers (wraps_from P 0 bs))
wraps_ready P bs = (rises_of 0 (wraps_from P 0 bs) (wraps_rise P 0 bs)).0

in_range : (P n : ℕ) (bs : List Buffer) (c : Change) → IsIn c (wraps_from P n bs) → c.0 < n + length bs
in_range P n [] c i = absurd i
in_range P n (b ∷ bs) c i = elim (true_or_false (does_wrap b)) [
  | inl e ↦ elim (rw e at i) [
    | inl same ↦ let z = ap (λ (x : Change). x.0) same in omega arith
    | inr j ↦ let k = in_range P (n + 1) bs c j in omega arith
  ]
  | inr e ↦ let k = in_range P (n + 1) bs c (rw e at i) in omega arith
]

pub wraps_in_range : (P count : ℕ) (bs : List Buffer) → count ≡ length bs + 1 →
    All (λ (c : Change). c.0 + 1 < count) (wraps_from P 0 bs)
wraps_in_range P count bs e =
    all_from_in (λ (c : Change). c.0 + 1 < count) (wraps_from P 0 bs)
    (λ c i. let k = in_range P 0 bs c i in omega arith)

-- the moments that they write are within the period
moments_in : (P n : ℕ) (bs : List Buffer) (c : Change) → P ≤ time_limit →
    ((b : Buffer) → IsIn b bs → IsInPeriod P b) → IsIn c (wraps_from P n bs) →
    (c.1 ≤ time_limit) × (c.2 ≤ time_limit) × (c.3 ≤ time_limit) × (c.4 ≤ time_limit)
moments_in P n [] c le h i = absurd i
moments_in P n (b ∷ bs) c le h i = elim (true_or_false (does_wrap b)) [
  | inl e ↦ elim (rw e at i) [
    | inl same ↦
        let within = h b (inl refl) in
        let a1 = ap (λ (x : Change). x.1) same in
        let a2 = ap (λ (x : Change). x.2) same in
        let a3 = ap (λ (x : Change). x.3) same in
        let a4 = ap (λ (x : Change). x.4) same in
        (omega arith, omega arith, omega (arith, within.1), omega (arith, within.0))
    | inr j ↦ moments_in P (n + 1) bs c le (λ x k. h x (inr k)) j
  ]
  | inr e ↦ moments_in P (n + 1) bs c le (λ x k. h x (inr k)) (rw e at i)
]

pub wraps_are_moments : (P : ℕ) (bs : List Buffer) → P ≤ 2 ^ 60 → ((b : Buffer) → IsIn b bs → IsInPeriod P b) →
    AreMoments (wraps_from P 0 bs)
wraps_are_moments P bs le h =
    all_from_in (λ (c : Change). (c.1 ≤ time_limit) × (c.2 ≤ time_limit) × (c.3 ≤ time_limit) × (c.4 ≤ time_limit))
    (wraps_from P 0 bs) (λ c i. moments_in P 0 bs c (omega arith) h i)

-- ---- what rows say after them
later_values : (c : Change) (cs : List Change) (n : ℕ) (bs : List Buffer) → c.0 < n →
    changed_from (c ∷ cs) n bs ≡ changed_from cs n bs
later_values c cs n [] lt = refl
later_values c cs n (b ∷ bs) lt =
    let later = later_values c cs (n + 1) bs (omega arith) in
    rw (apart c.0 n (λ e. omega arith)) (ap (λ (xs : List Buffer). changed_value (change_of cs n) b ∷ xs) later)

same_number : (n : ℕ) → (n == n) ≡ true
same_number n = grind (arith, nat_tests)

values_from : (P n : ℕ) (bs : List Buffer) → changed_from (wraps_from P n bs) n bs ≡ map (unrolled P) bs
values_from P n [] = refl
values_from P n (b ∷ bs) = elim (true_or_false (does_wrap b)) [
  | inl e ↦
      let more = wraps_from P (n + 1) bs in
      let head : wraps_from P n (b ∷ bs) ≡ (n, 0, P, b.upper, b.lower) ∷ more = rw e refl in
      let later = later_values (n, 0, P, b.upper, b.lower) more (n + 1) bs (omega arith) in
      ap (λ (cs : List Change). changed_from cs n (b ∷ bs)) head
      ∙ rw (same_number n, later, values_from P (n + 1) bs, unrolled_wraps P b e) refl
  | inr e ↦
      let more = wraps_from P (n + 1) bs in
      let head : wraps_from P n (b ∷ bs) ≡ more = rw e refl in
      let none = none_before n (n + 1) more (omega arith) (wraps_rise P (n + 1) bs) in
      ap (λ (cs : List Change). changed_from cs n (b ∷ bs)) head
      ∙ rw (none, values_from P (n + 1) bs, unrolled_stays P b e) refl
]

pub wrapped_values : (P : ℕ) (bs : List Buffer) → changed_values (wraps_from P 0 bs) bs ≡ map (unrolled P) bs
wrapped_values P bs = values_from P 0 bs

-- ---- row by row
-- the rows from a place on
rows_at : (bs : List Buffer) (r : ℕ) → r < length bs → drop r bs ≡ buffer bs r ∷ drop (r + 1) bs
unfolding buffer
rows_at bs r lt = drop_more bs r no_buffer lt

-- there is a row less than records
pub values_count : (table : List Record) → parse_rows table ≡ Ok (values_of table) →
    length table ≡ length (values_of table) + 1
values_count [] e = cc e
values_count (header ∷ rows) e = let n = length-map rows (row_buffer header) in omega arith

pub fault_here : (P r : ℕ) (bs : List Buffer) (f : CycleFault) → r < length bs →
    cycle_row_fault P r (buffer bs r) ≡ Some f → cycle_rows_fault P r (drop r bs) ≡ Some f
fault_here P r bs f lt e = ap (cycle_rows_fault P r) (rows_at bs r lt) ∙ rw e refl

pub no_fault_here : (P r : ℕ) (bs : List Buffer) → r < length bs → cycle_row_fault P r (buffer bs r) ≡ None →
    cycle_rows_fault P r (drop r bs) ≡ cycle_rows_fault P (r + 1) (drop (r + 1) bs)
no_fault_here P r bs lt e = ap (cycle_rows_fault P r) (rows_at bs r lt) ∙ rw e refl

pub wraps_here : (P r lower upper : ℕ) (bs : List Buffer) → r < length bs → lower ≡ (buffer bs r).lower →
    upper ≡ (buffer bs r).upper → upper < lower →
    wraps_from P r (drop r bs) ≡ (r, 0, P, upper, lower) ∷ wraps_from P (r + 1) (drop (r + 1) bs)
wraps_here P r lower upper bs lt l u less =
    let is : does_wrap (buffer bs r) ≡ true = wrapped (buffer bs r).lower (buffer bs r).upper (rw (l, u) at less) in
    ap (wraps_from P r) (rows_at bs r lt) ∙ rw (is, l, u) refl
  where
    wrapped : (l u : ℕ) → u < l → nat_lt u l ≡ true
    wrapped l u lt = grind (arith, nat_tests)

pub stays_here : (P r lower upper : ℕ) (bs : List Buffer) → r < length bs → lower ≡ (buffer bs r).lower →
    upper ≡ (buffer bs r).upper → lower ≤ upper →
    wraps_from P r (drop r bs) ≡ wraps_from P (r + 1) (drop (r + 1) bs)
stays_here P r lower upper bs lt l u le =
    let not : does_wrap (buffer bs r) ≡ false = not_wrapped (buffer bs r).lower (buffer bs r).upper (rw (l, u) at le) in
    ap (wraps_from P r) (rows_at bs r lt) ∙ rw not refl
  where
    not_wrapped : (l u : ℕ) → l ≤ u → nat_lt u l ≡ false
    not_wrapped l u le = grind (arith, nat_tests)

-- two pairs whose halves are equal
pub same_pair : (x y : ℕ × ℕ) → (y.0 ≡ x.0) × (y.1 ≡ x.1) → y ≡ x
same_pair x y h =
    ap (λ (a : ℕ). let z : ℕ × ℕ = (a, y.1) in z) h.0 ∙ ap (λ (b : ℕ). let z : ℕ × ℕ = (x.0, b) in z) h.1
