-- Rows with the free addresses between them.
use Rattle.std.proofs.Common.{◌≡◌, ℕ, ◌+◌, ◌<◌, ◌≤◌, ◌⊎◌, inl, inr, Bool, true, false, cond, nat_lt, List, [], ◌∷◌, ◌++◌, length, map, drop, refl, sym, ap, ap₂, ◌∙◌, arith}
use Rattle.std.proofs.lemmas.Bool.Decides.{nat_tests}
use Rattle.std.proofs.lemmas.List.{drop_all}
use Rattle.dsa_terms.specs.Buffers.{Instance, buffer, IsLive}
use Rattle.dsa_terms.specs.Claims.{IsIn, Rises}
use Rattle.dsa_terms.specs.Fits.{Range}
use Rattle.dsa_terms.proofs.Lists.{from_append, from_map, left_append, right_append}
use Rattle.layout_report.specs.Rows.{AreLiveRows, AreRowsAt, AreStacked, IsFreeAt, IsUnused, buffer_row, free_row, rows_between}
use Rattle.layout_report.specs.declared.row.Row.{Row}

-- the range from x up to y
abbrev pub range : ℕ → ℕ → Range
range x y = record { start = x; stop = y }

-- the rows from x up to the height, with the free addresses between them
abbrev pub filled : ℕ → ℕ → List Row → List Row
filled height x [] = rows_between x height
filled height x (row ∷ rows) = rows_between x row.place ++ row ∷ filled height (row.place + row.size) rows

-- from x up to the height, the range has addresses and meets none of the rows
pub record IsClear (height x : ℕ) (rows : List Row) (r : Range) : Type 0 where
  pub from : x ≤ r.start
  pub not_empty : r.start < r.stop
  pub under : r.stop ≤ height
  pub free : (row : Row) → IsIn row rows → (r.stop ≤ row.place) ⊎ (row.place + row.size ≤ r.start)

-- no greater one is
pub record IsGap (height x : ℕ) (rows : List Row) (r : Range) : Type 0 where
  pub clear : IsClear height x rows r
  pub greatest : (s : Range) → IsClear height x rows s → s.start ≤ r.start → r.stop ≤ s.stop → s ≡ r

-- all rows end at or below the height
abbrev pub AreWithin : ℕ → List Row → Type 0
AreWithin height rows = (row : Row) → IsIn row rows → row.place + row.size ≤ height

-- ---- what lies between two addresses
between : (x y : ℕ) → x < y → rows_between x y ≡ free_row (range x y) ∷ []
between x y lt = let t : nat_lt x y ≡ true = grind (arith, nat_tests) in rw t refl

from_between : (x y : ℕ) (row : Row) → IsIn row (rows_between x y) → (x < y) × (row ≡ free_row (range x y))
from_between x y row i = go (nat_lt x y) refl i
  where
    less : nat_lt x y ≡ true → x < y
    less t = grind (arith, nat_tests)

    go : (b : Bool) → nat_lt x y ≡ b → IsIn row (cond b (free_row (range x y) ∷ []) []) →
        (x < y) × (row ≡ free_row (range x y))
    go true t (inl e) = (less t, e)
    go true t (inr i) = absurd i
    go false t i = absurd i

same_range : (r s : Range) → r.start ≡ s.start → r.stop ≡ s.stop → r ≡ s
same_range r s e f = ap₂ range e f

-- ---- the rows stand above x
above : (x : ℕ) (rows : List Row) (row : Row) → AreStacked x rows → IsIn row rows → (x ≤ row.place) × (0 < row.size)
above x [] row s i = absurd i
above x (q ∷ qs) row s (inl e) = rw e (s.0, s.1)
above x (q ∷ qs) row s (inr i) =
    let k = above (q.place + q.size) qs row s.2 i in
    let a = k.0 in let b = s.0 in (omega arith, k.1)

-- the addresses below the first row
first_clear : (height x : ℕ) (q : Row) (qs : List Row) → AreStacked x (q ∷ qs) → AreWithin height (q ∷ qs) →
    x < q.place → IsClear height x (q ∷ qs) (range x q.place)
first_clear height x q qs s w lt = record {
  from = omega arith;
  not_empty = lt;
  under = let k = w q (inl refl) in omega arith;
  free = λ row i. inl (low row i);
}
  where
    low : (row : Row) → IsIn row (q ∷ qs) → q.place ≤ row.place
    low row (inl e) = rw e (omega arith)
    low row (inr i) = let k = (above (q.place + q.size) qs row s.2 i).0 in omega arith

-- what is clear of the later rows, above the first, is clear of all
clear_more : (height x : ℕ) (q : Row) (qs : List Row) (r : Range) → AreStacked x (q ∷ qs) →
    IsClear height (q.place + q.size) qs r → IsClear height x (q ∷ qs) r
clear_more height x q qs r s c = record {
  from = let a = c.from in let b = s.0 in omega arith;
  not_empty = c.not_empty;
  under = c.under;
  free = free;
}
  where
    free : (row : Row) → IsIn row (q ∷ qs) → (r.stop ≤ row.place) ⊎ (row.place + row.size ≤ r.start)
    free row (inl e) = inr (rw e c.from)
    free row (inr i) = c.free row i

-- and the other way round, where it ends above the first row's place
clear_less : (height x : ℕ) (q : Row) (qs : List Row) (r : Range) → q.place + q.size ≤ r.start →
    IsClear height x (q ∷ qs) r → IsClear height (q.place + q.size) qs r
clear_less height x q qs r le c = record {
  from = le;
  not_empty = c.not_empty;
  under = c.under;
  free = λ row i. c.free row (inr i);
}

-- ---- each free range is there
pub gap_is_there : (height x : ℕ) (rows : List Row) (r : Range) → AreStacked x rows → AreWithin height rows →
    IsGap height x rows r → IsIn (free_row r) (filled height x rows)
gap_is_there height x [] r s w g =
    let a = g.clear.from in let b = g.clear.not_empty in let c = g.clear.under in
    let lt : x < height = omega arith in
    let e : range x height ≡ r = g.greatest (range x height) (record {
      from = omega arith;
      not_empty = lt;
      under = omega arith;
      free = λ row i. absurd i;
    }) a c in
    rw (between x height lt) (inl (ap free_row (sym e)))
gap_is_there height x (q ∷ qs) r s w g =
    go (gap_is_there height (q.place + q.size) qs r s.2 (λ row i. w row (inr i))) (g.clear.free q (inl refl))
  where
    go : (IsGap height (q.place + q.size) qs r → IsIn (free_row r) (filled height (q.place + q.size) qs)) →
        (r.stop ≤ q.place) ⊎ (q.place + q.size ≤ r.start) →
        IsIn (free_row r) (rows_between x q.place ++ q ∷ filled height (q.place + q.size) qs)
    go ih (inl le) =
        let a = g.clear.from in let b = g.clear.not_empty in
        let lt : x < q.place = omega arith in
        let e : range x q.place ≡ r = g.greatest (range x q.place) (first_clear height x q qs s w lt) a le in
        left_append (rows_between x q.place) (q ∷ filled height (q.place + q.size) qs) (free_row r)
        (rw (between x q.place lt) (inl (ap free_row (sym e))))
    go ih (inr le) = right_append (rows_between x q.place) (q ∷ filled height (q.place + q.size) qs) (free_row r)
        (inr (ih (record {
          clear = clear_less height x q qs r le g.clear;
          greatest = λ o c. g.greatest o (clear_more height x q qs o s c);
        })))

-- ---- and nothing else but the rows
first_gap : (height x : ℕ) (q : Row) (qs : List Row) → AreStacked x (q ∷ qs) → AreWithin height (q ∷ qs) → x < q.place →
    IsGap height x (q ∷ qs) (range x q.place)
first_gap height x q qs s w lt = record { clear = first_clear height x q qs s w lt; greatest = greatest }
  where
    greatest : (o : Range) → IsClear height x (q ∷ qs) o → o.start ≤ x → q.place ≤ o.stop → o ≡ range x q.place
    greatest o c le up = go (c.free q (inl refl))
      where
        go : (o.stop ≤ q.place) ⊎ (q.place + q.size ≤ o.start) → o ≡ range x q.place
        go (inl k) = let a = c.from in same_range o (range x q.place) (omega arith) (omega arith)
        go (inr k) = let a = s.0 in let b = s.1 in absurd (omega arith)

last_gap : (height x : ℕ) → x < height → IsGap height x [] (range x height)
last_gap height x lt = record {
  clear = record { from = omega arith; not_empty = lt; under = omega arith; free = λ row i. absurd i };
  greatest = λ o c le up. let a = c.from in let b = c.under in
      same_range o (range x height) (omega arith) (omega arith);
}

gap_more : (height x : ℕ) (q : Row) (qs : List Row) (r : Range) → AreStacked x (q ∷ qs) →
    IsGap height (q.place + q.size) qs r → IsGap height x (q ∷ qs) r
gap_more height x q qs r s g = record { clear = clear_more height x q qs r s g.clear; greatest = greatest }
  where
    greatest : (o : Range) → IsClear height x (q ∷ qs) o → o.start ≤ r.start → r.stop ≤ o.stop → o ≡ r
    greatest o c le up = go (c.free q (inl refl))
      where
        go : (o.stop ≤ q.place) ⊎ (q.place + q.size ≤ o.start) → o ≡ r
        go (inl k) = let a = g.clear.from in let b = g.clear.not_empty in let d = s.1 in absurd (omega arith)
        go (inr k) = g.greatest o (clear_less height x q qs o k c) le up

pub row_or_gap : (height x : ℕ) (rows : List Row) (row : Row) → AreStacked x rows → AreWithin height rows →
    IsIn row (filled height x rows) → IsIn row rows ⊎ ((r : Range) × IsGap height x rows r × (row ≡ free_row r))
row_or_gap height x [] row s w i =
    let k = from_between x height row i in inr (range x height, last_gap height x k.0, k.1)
row_or_gap height x (q ∷ qs) row s w i =
    go (row_or_gap height (q.place + q.size) qs row s.2 (λ p k. w p (inr k)))
    (from_append (rows_between x q.place) (q ∷ filled height (q.place + q.size) qs) row i)
  where
    on : IsIn row qs ⊎ ((r : Range) × IsGap height (q.place + q.size) qs r × (row ≡ free_row r)) →
        IsIn row (q ∷ qs) ⊎ ((r : Range) × IsGap height x (q ∷ qs) r × (row ≡ free_row r))
    on (inl j) = inl (inr j)
    on (inr g) = inr (g.0, gap_more height x q qs g.0 s g.1, g.2)

    go : (IsIn row (filled height (q.place + q.size) qs) →
        IsIn row qs ⊎ ((r : Range) × IsGap height (q.place + q.size) qs r × (row ≡ free_row r))) →
        IsIn row (rows_between x q.place) ⊎ IsIn row (q ∷ filled height (q.place + q.size) qs) →
        IsIn row (q ∷ qs) ⊎ ((r : Range) × IsGap height x (q ∷ qs) r × (row ≡ free_row r))
    go ih (inl j) = let k = from_between x q.place row j in inr (range x q.place, first_gap height x q qs s w k.0, k.1)
    go ih (inr (inl e)) = inl (inl e)
    go ih (inr (inr j)) = on (ih j)

row_is_there : (height x : ℕ) (rows : List Row) (row : Row) → IsIn row rows → IsIn row (filled height x rows)
row_is_there height x [] row i = absurd i
row_is_there height x (q ∷ qs) row (inl e) =
    right_append (rows_between x q.place) (q ∷ filled height (q.place + q.size) qs) row (inl e)
row_is_there height x (q ∷ qs) row (inr i) =
    right_append (rows_between x q.place) (q ∷ filled height (q.place + q.size) qs) row
    (inr (row_is_there height (q.place + q.size) qs row i))

-- ---- in order of place
pub filled_above : (height x : ℕ) (rows : List Row) (row : Row) → AreStacked x rows → AreWithin height rows →
    IsIn row (filled height x rows) → x ≤ row.place
filled_above height x rows row s w i = go (row_or_gap height x rows row s w i)
  where
    go : IsIn row rows ⊎ ((r : Range) × IsGap height x rows r × (row ≡ free_row r)) → x ≤ row.place
    go (inl j) = (above x rows row s j).0
    go (inr g) = rw g.2 g.1.clear.from

-- the place of a row
abbrev pub place_in : Row → ℕ
place_in row = row.place

pub filled_rise : (height x : ℕ) (rows : List Row) → AreStacked x rows → AreWithin height rows →
    Rises (map place_in (filled height x rows))
filled_rise height x [] s w = go (nat_lt x height)
  where
    go : (b : Bool) → Rises (map place_in (cond b (free_row (range x height) ∷ []) []))
    go true = (λ y i. absurd i, tt)
    go false = tt
filled_rise height x (q ∷ qs) s w =
    go (filled_rise height (q.place + q.size) qs s.2 (λ p j. w p (inr j))) (nat_lt x q.place) refl
  where
    rest : List Row
    rest = filled height (q.place + q.size) qs

    later : (y : ℕ) → IsIn y (map place_in rest) → q.place < y
    later y i =
        let r = from_map place_in rest y i in
        let k = filled_above height (q.place + q.size) qs r.0 s.2 (λ p j. w p (inr j)) r.1 in
        let b = s.1 in let e = r.2 in omega arith

    less : nat_lt x q.place ≡ true → x < q.place
    less t = grind (arith, nat_tests)

    first : x < q.place → (y : ℕ) → IsIn y (q.place ∷ map place_in rest) → x < y
    first lt y (inl e) = rw e lt
    first lt y (inr i) = let k = later y i in omega arith

    go : Rises (map place_in rest) → (b : Bool) → nat_lt x q.place ≡ b →
        Rises (map place_in (cond b (free_row (range x q.place) ∷ []) [] ++ q ∷ rest))
    go ih true t = (first (less t), (later, ih))
    go ih false t = (later, ih)

-- ---- of live buffers
pub filled_are_rows : (I : Instance) (offsets : List ℕ) (t height : ℕ) (live : List Row) →
    AreLiveRows I offsets t live → AreWithin height live → AreRowsAt I offsets t height (filled height 0 live)
filled_are_rows I offsets t height live a w = record {
  rise = filled_rise height 0 live a.stacked w;
  each = λ row i. each row (row_or_gap height 0 live row a.stacked w i);
  buffers = λ b lt l. row_is_there height 0 live (buffer_row I offsets b) (a.all b lt l);
  ranges = λ r f. gap_is_there height 0 live r a.stacked w (record {
    clear = to_clear r f.unused;
    greatest = λ s c. f.greatest s (to_unused s c);
  });
}
  where
    to_unused : (r : Range) → IsClear height 0 live r → IsUnused I offsets t height r
    to_unused r c = record {
      not_empty = c.not_empty;
      under = c.under;
      free = λ b lt l. c.free (buffer_row I offsets b) (a.all b lt l);
    }

    to_clear : (r : Range) → IsUnused I offsets t height r → IsClear height 0 live r
    to_clear r u = record {
      from = omega arith;
      not_empty = u.not_empty;
      under = u.under;
      free = λ row i. let k = a.each row i in rw k.3 (u.free k.0 k.1 k.2);
    }

    each : (row : Row) → IsIn row live ⊎ ((r : Range) × IsGap height 0 live r × (row ≡ free_row r)) →
        ((b : ℕ) × (b < length I) × IsLive (buffer I b) t × (row ≡ buffer_row I offsets b))
        ⊎ ((r : Range) × IsFreeAt I offsets t height r × (row ≡ free_row r))
    each row (inl j) = inl (a.each row j)
    each row (inr g) = inr (
      g.0,
      record {
        unused = to_unused g.0 g.1.clear;
        greatest = λ s u. g.1.greatest s (to_clear s u);
      },
      g.2,
    )

-- ---- the loop
-- so far, with what is left
abbrev pub IsFilling : ℕ → List Row → ℕ → ℕ → List Row → Type 0
IsFilling height live k top rows = filled height 0 live ≡ rows ++ filled height top (drop k live)

pub filling_done : (height : ℕ) (live : List Row) (k top : ℕ) (old now : List Row) → length live ≤ k →
    IsFilling height live k top old → now ≡ old ++ rows_between top height → now ≡ filled height 0 live
filling_done height live k top old now le h n =
    let e : drop k live ≡ [] = drop_all k live le in n ∙ sym (rw e at h)
