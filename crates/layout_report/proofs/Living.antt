-- The rows of live buffers, one after another and then put into order.
use Rattle.std.proofs.Common.{◌≡◌, ◌≢◌, ℕ, suc, ◌+◌, ◌<◌, ◌≤◌, inl, inr, Bool, true, false, cond, ◌==◌, List, [], ◌∷◌, ◌++◌, length, map, filter, slice_index, Some, refl, sym, ap, ◌∙◌, arith, append-nil}
use Rattle.std.proofs.lemmas.Bool.Decides.{nat_tests}
use Rattle.std.specs.List.{All, AllByRecursion, IsDistinct}
use Rattle.std.specs.List.Sorted.{IsNonDecreasingBy, IsPermutation}
use Rattle.std.proofs.lemmas.List.Sorted.{IsPermutation-map, IsPermutation-sym}
use Rattle.std.proofs.lemmas.Map.Keys.{IsDistinct-IsPermutation}
use Rattle.std.proofs.lemmas.List.{map-append}
use Rattle.dsa_terms.specs.Buffers.{Buffer, Instance, IsInstance, IsLive, buffer, is_live}
use Rattle.dsa_terms.specs.Claims.{IsIn, Rises}
use Rattle.dsa_terms.specs.Layouts.{IsApart, IsLayout}
use Rattle.dsa_terms.specs.Logs.{greatest}
use Rattle.dsa_terms.specs.Parts.{numbers}
use Rattle.dsa_terms.specs.Plans.{layout_height}
use Rattle.dsa_terms.proofs.Lists.{from_filter, from_map, into_filter, into_map}
use Rattle.dsa_terms.proofs.Moments.{sound}
use Rattle.dsa_terms.proofs.Places.{all_from_in, place_of, in_permutation}
use Rattle.dsa_terms.proofs.NumberTests.{apart, differ}
use Rattle.dsa_terms.proofs.Ranges.{below, among}
use Rattle.lifetime.proofs.Lists.{filter_more, rises-numbers}
use Rattle.layout_report.specs.Rows.{AreLiveRows, AreStacked, buffer_row}
use Rattle.layout_report.specs.declared.row.Row.{Row}

-- the live ones of the first n buffers
abbrev pub live_before : Instance → ℕ → ℕ → List ℕ
live_before I t n = filter (λ b. is_live (buffer I b) t) (numbers n)

-- their rows
abbrev pub rows_before : Instance → List ℕ → ℕ → ℕ → List Row
rows_before I offsets t n = map (buffer_row I offsets) (live_before I t n)

-- ---- one buffer after another
more : (I : Instance) (offsets : List ℕ) (t b : ℕ) → rows_before I offsets t (b + 1)
    ≡ rows_before I offsets t b ++ map (buffer_row I offsets) (cond (is_live (buffer I b) t) (b ∷ []) [])
more I offsets t b =
    ap (map (buffer_row I offsets)) (filter_more (λ b. is_live (buffer I b) t) b)
    ∙ map-append (buffer_row I offsets) (live_before I t b) (cond (is_live (buffer I b) t) (b ∷ []) [])

pub one_more : (I : Instance) (offsets : List ℕ) (t b : ℕ) (x : Buffer) (row : Row) (rows now : List Row) →
    x ≡ buffer I b → is_live x t ≡ true → row ≡ buffer_row I offsets b → rows ≡ rows_before I offsets t b →
    now ≡ rows ++ row ∷ [] →
    now ≡ rows_before I offsets t (b + 1)
one_more I offsets t b x row rows now e live r h n =
    let l : is_live (buffer I b) t ≡ true = rw (← e) live in
    n ∙ rw (h, r) (sym (more I offsets t b
    ∙ ap (λ (c : Bool). rows_before I offsets t b ++ map (buffer_row I offsets) (cond c (b ∷ []) [])) l))

pub no_more : (I : Instance) (offsets : List ℕ) (t b : ℕ) (x : Buffer) (rows : List Row) → x ≡ buffer I b →
    is_live x t ≡ false → rows ≡ rows_before I offsets t b → rows ≡ rows_before I offsets t (b + 1)
no_more I offsets t b x rows e live h =
    let l : is_live (buffer I b) t ≡ false = rw (← e) live in
    h ∙ sym (more I offsets t b
    ∙ (ap (λ (c : Bool). rows_before I offsets t b ++ map (buffer_row I offsets) (cond c (b ∷ []) [])) l
    ∙ append-nil (rows_before I offsets t b)))

pub is_row : (I : Instance) (offsets : List ℕ) (b size : ℕ) (x : Buffer) → x ≡ buffer I b → size ≡ x.size →
    (let row : Row = record { place = slice_index offsets b; size = size; buffer = Some b } in row)
    ≡ buffer_row I offsets b
is_row I offsets b size x e h =
    ap (λ (n : ℕ). let row : Row = record { place = slice_index offsets b; size = n; buffer = Some b } in row)
    (h ∙ ap (λ (x : Buffer). x.size) e)

-- ---- which rows these are
abbrev IsRowOf : Instance → List ℕ → ℕ → Row → Type 0
IsRowOf I offsets t row = (b : ℕ) × (b < length I) × IsLive (buffer I b) t × (row ≡ buffer_row I offsets b)

row_of : (I : Instance) (offsets : List ℕ) (t n : ℕ) (row : Row) → n ≡ length I → IsIn row (rows_before I offsets t n) →
    IsRowOf I offsets t row
row_of I offsets t n row e i =
    let r = from_map (buffer_row I offsets) (live_before I t n) row i in
    let q = from_filter (λ b. is_live (buffer I b) t) (numbers n) r.0 r.1 in
    let k = below n r.0 q.0 in (r.0, omega arith, q.1, r.2)

into_rows : (I : Instance) (offsets : List ℕ) (t n b : ℕ) → n ≡ length I → b < length I → IsLive (buffer I b) t →
    IsIn (buffer_row I offsets b) (rows_before I offsets t n)
into_rows I offsets t n b e lt l = into_map (buffer_row I offsets) (live_before I t n) b
    (into_filter (λ b. is_live (buffer I b) t) (numbers n) b (among n b (omega arith)) l)

-- ---- no two at one place
all_by_recursion : {X : Type 0} (P : X → Type 0) (xs : List X) → ((x : X) → IsIn x xs → P x) → AllByRecursion P xs
all_by_recursion P [] h = tt
all_by_recursion P (x ∷ xs) h = (h x (inl refl), all_by_recursion P xs (λ y i. h y (inr i)))

all_at : {X : Type 0} (P : X → Type 0) (xs : List X) (x : X) → AllByRecursion P xs → IsIn x xs → P x
all_at P [] x h i = absurd i
all_at P (y ∷ ys) x h (inl e) = rw e h.0
all_at P (y ∷ ys) x h (inr i) = all_at P ys x h.1 i

-- two live buffers are at different places
apart_places : (I : Instance) (C : ℕ) (offsets : List ℕ) (t b c : ℕ) → IsInstance I → IsLayout I C offsets →
    b < length I → c < length I → b ≢ c → IsLive (buffer I b) t → IsLive (buffer I c) t →
    slice_index offsets b ≢ slice_index offsets c
apart_places I C offsets t b c s l bl cl ne p q e = go (l.apart b c t bl cl ne p q)
  where
    go : IsApart (buffer I b) (slice_index offsets b) (buffer I c) (slice_index offsets c) → ⊥
    go (inl k) = let z = (sound I b s).0 in omega arith
    go (inr k) = let z = (sound I c s).0 in omega arith

distinct : (I : Instance) (C : ℕ) (offsets : List ℕ) (t : ℕ) (bs : List ℕ) → IsInstance I → IsLayout I C offsets →
    Rises bs → ((b : ℕ) → IsIn b bs → (b < length I) × IsLive (buffer I b) t) →
    IsDistinct (λ (m n : ℕ). m == n) (map (λ (row : Row). row.place) (map (buffer_row I offsets) bs))
unfolding IsDistinct
distinct I C offsets t [] s l r h = tt
distinct I C offsets t (b ∷ bs) s l r h = (
  all_by_recursion (λ y. (slice_index offsets b == y) ≡ false)
      (map (λ (row : Row). row.place) (map (buffer_row I offsets) bs)) first,
  distinct I C offsets t bs s l r.1 (λ c i. h c (inr i)),
)
  where
    first : (y : ℕ) → IsIn y (map (λ (row : Row). row.place) (map (buffer_row I offsets) bs)) →
        (slice_index offsets b == y) ≡ false
    first y i =
        let p = from_map (λ (row : Row). row.place) (map (buffer_row I offsets) bs) y i in
        let q = from_map (buffer_row I offsets) bs p.0 p.1 in
        let k = h b (inl refl) in
        let m = h q.0 (inr q.1) in
        let ne : b ≢ q.0 = λ e. (let z = r.0 q.0 q.1 in omega arith) in
        let e : y ≡ slice_index offsets q.0 = p.2 ∙ ap (λ (row : Row). row.place) q.2 in
        apart (slice_index offsets b) y (λ f. apart_places I C offsets t b q.0 s l k.0 m.0 ne k.1 m.1 (f ∙ e))

-- ---- in order, each above the one before it
rise : (rows : List Row) → IsNonDecreasingBy (λ (row : Row). row.place) rows →
    IsDistinct (λ (m n : ℕ). m == n) (map (λ (row : Row). row.place) rows) → Rises (map (λ (row : Row). row.place) rows)
unfolding IsDistinct
rise [] up d = tt
rise (q ∷ qs) up d = (
  first,
  rise qs (λ i j e le lt. up (suc i) (suc j) e (omega arith) (omega arith)) d.1,
)
  where
    less : (m n : ℕ) → m ≤ n → m ≢ n → m < n
    less m n p h = grind arith

    first : (y : ℕ) → IsIn y (map (λ (row : Row). row.place) qs) → q.place < y
    first y i =
        let r = from_map (λ (row : Row). row.place) qs y i in
        let p = place_of qs r.0 q r.1 in
        let le : q.place ≤ r.0.place = rw p.2 at (up 0 (suc p.0) q (omega arith) (let k = p.1 in omega arith)) in
        less q.place y (rw r.2 le)
        (differ q.place y (all_at (λ y. (q.place == y) ≡ false) (map (λ (row : Row). row.place) qs) y d.0 i))

stack : (I : Instance) (C : ℕ) (offsets : List ℕ) (t x : ℕ) (rows : List Row) → IsInstance I → IsLayout I C offsets →
    ((row : Row) → IsIn row rows → IsRowOf I offsets t row) → Rises (map (λ (row : Row). row.place) rows) →
    ((row : Row) → IsIn row rows → x ≤ row.place) → AreStacked x rows
stack I C offsets t x [] s l h r k = tt
stack I C offsets t x (q ∷ qs) s l h r k = (
  k q (inl refl),
  let b = h q (inl refl) in let z = (sound I b.0 s).0 in rw b.3 (omega arith),
  stack I C offsets t (q.place + q.size) qs s l (λ row i. h row (inr i)) r.1 above,
)
  where
    above : (row : Row) → IsIn row qs → q.place + q.size ≤ row.place
    above row i = go (h q (inl refl)) (h row (inr i))
      where
        lt : q.place < row.place
        lt = r.0 row.place (into_map (λ (row : Row). row.place) qs row i)

        go : ((b : ℕ) × (b < length I) × IsLive (buffer I b) t × (q ≡ buffer_row I offsets b)) →
            ((b : ℕ) × (b < length I) × IsLive (buffer I b) t × (row ≡ buffer_row I offsets b)) →
            q.place + q.size ≤ row.place
        go (b, bl, p, e) (c, cl, o, f) = low (l.apart b c t bl cl ne p o)
          where
            ep : q.place ≡ slice_index offsets b
            ep = ap (λ (row : Row). row.place) e

            es : q.size ≡ (buffer I b).size
            es = ap (λ (row : Row). row.size) e

            fp : row.place ≡ slice_index offsets c
            fp = ap (λ (row : Row). row.place) f

            ne : b ≢ c
            ne g = let z = ap (slice_index offsets) g in omega (arith, ep, fp, lt)

            low : IsApart (buffer I b) (slice_index offsets b) (buffer I c) (slice_index offsets c) →
                q.place + q.size ≤ row.place
            low (inl k) = omega (arith, ep, es, fp)
            low (inr k) = absurd (omega (arith, ep, fp, lt))

pub are_live : (I : Instance) (C : ℕ) (offsets : List ℕ) (t n : ℕ) (rows now : List Row) → IsInstance I →
    IsLayout I C offsets → n ≡ length I → rows ≡ rows_before I offsets t n → IsPermutation rows now →
    IsNonDecreasingBy (λ (row : Row). row.place) now → AreLiveRows I offsets t now
are_live I C offsets t n rows now s l e is moved up = record {
  stacked = stack I C offsets t 0 now s l each
      (rise now up (IsDistinct-IsPermutation (λ (m n : ℕ). m == n) flips
      (map (λ (row : Row). row.place) rows) (map (λ (row : Row). row.place) now)
      (IsPermutation-map (λ (row : Row). row.place) rows now moved)
      (rw is (distinct I C offsets t (live_before I t n) s l (rises-numbers (λ b. is_live (buffer I b) t) n) live))))
      (λ row i. omega arith);
  each = each;
  all = λ b lt p. in_permutation rows now (buffer_row I offsets b) moved (rw is (into_rows I offsets t n b e lt p));
}
  where
    flips : (m n : ℕ) → (m == n) ≡ (n == m)
    flips m n = grind (arith, nat_tests)

    each : (row : Row) → IsIn row now → IsRowOf I offsets t row
    each row i = row_of I offsets t n row e
        (rw is at (in_permutation now rows row (IsPermutation-sym rows now moved) i))

    live : (b : ℕ) → IsIn b (live_before I t n) → (b < length I) × IsLive (buffer I b) t
    live b i =
        let q = from_filter (λ b. is_live (buffer I b) t) (numbers n) b i in
        let k = below n b q.0 in (omega arith, q.1)

-- ---- below the layout's height
in_greatest : (xs : List ℕ) (x : ℕ) → IsIn x xs → x ≤ greatest xs
in_greatest [] x i = absurd i
in_greatest (y ∷ ys) x (inl e) = omega arith
in_greatest (y ∷ ys) x (inr i) = let k = in_greatest ys x i in omega arith

under_height : (I : Instance) (offsets : List ℕ) (b : ℕ) → b < length I →
    slice_index offsets b + (buffer I b).size ≤ layout_height I offsets
unfolding layout_height
under_height I offsets b lt = in_greatest (map (λ b. slice_index offsets b + (buffer I b).size) (numbers (length I)))
    (slice_index offsets b + (buffer I b).size)
    (into_map (λ b. slice_index offsets b + (buffer I b).size) (numbers (length I)) b (among (length I) b lt))

pub are_within : (I : Instance) (offsets : List ℕ) (t : ℕ) (rows : List Row) → AreLiveRows I offsets t rows →
    All (λ (row : Row). row.place + row.size ≤ layout_height I offsets) rows
are_within I offsets t rows a = all_from_in (λ (row : Row). row.place + row.size ≤ layout_height I offsets) rows
    (λ row i. let k = a.each row i in rw k.3 (under_height I offsets k.0 k.1))
