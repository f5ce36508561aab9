-- Small layouts, and what the report says of them.
use Rattle.std.proofs.Common.{◌≡◌, ℕ, zero, suc, ◌+◌, ◌<◌, ◌≤◌, ◌⊎◌, inl, inr, List, [], ◌∷◌, ◌++◌, slice_index, Some, None, codes, refl, ap, ap₂, sym, arith, lit<, lit≤}
use Rattle.std.specs.Fmt.{digits}
use Rattle.csv.specs.Writing.{escaped, fields_text, is_blank}
use Rattle.csv_instance.specs.Offsets.{ids_of}
use Rattle.csv_instance.specs.Records.{Record}
use Rattle.dsa_terms.specs.Buffers.{IsLive, buffer, is_live}
use Rattle.dsa_terms.specs.Claims.{IsIn}
use Rattle.dsa_terms.specs.Fits.{Range}
use Rattle.dsa_terms.specs.Plans.{layout_height, load}
use Rattle.dsa_terms.proofs.Examples.{evens, plain}
use Rattle.dsa_model.proofs.Live.{not_live_after}
use Rattle.load_profile.specs.LoadProfile.{IsPeakOf}
use Rattle.layout_report.specs.Report.{AreRowsOf, IsReportOf, id_of, moment_line, peak_line, row_fields, rows_text}
use Rattle.layout_report.specs.Rows.{AreLiveRows, AreRowsAt, AreStacked, IsFreeAt, IsRowAt, IsUnused, buffer_row, free_row, rows_between}
use Rattle.layout_report.specs.declared.row.Row.{Row}
use Rattle.layout_report.proofs.Filling.{filled_are_rows, range}

-- ---- texts

a_moment : moment_line (codes "2") (codes "65") 66 ≡ codes "moment 2 load 65 height 66\n"
unfolding digits
a_moment = refl

no_peak : peak_line None 0 ≡ codes "moment none load 0 height 0\n"
unfolding digits
no_peak = refl

-- the ids of three buffers
abbrev three_ids : List (List ℕ)
three_ids = codes "A" ∷ codes "B" ∷ codes "C" ∷ []

-- a row of a buffer, and one without
abbrev row : ℕ → ℕ → ℕ → Row
row place size b = record { place = place; size = size; buffer = Some b }

abbrev free : ℕ → ℕ → Row
free place size = record { place = place; size = size; buffer = None }

fields_of_a_buffer : row_fields three_ids (row 4 10 1) ≡ codes "4" ∷ codes "10" ∷ codes "B" ∷ []
unfolding digits
fields_of_a_buffer = refl

fields_of_a_free_range : row_fields three_ids (free 3 1) ≡ codes "3" ∷ codes "1" ∷ [] ∷ []
unfolding digits
fields_of_a_free_range = refl

no_rows : rows_text three_ids [] ≡ codes "place,size,id\n"
unfolding fields_text is_blank
no_rows = refl

an_id_with_a_comma : rows_text (codes "x,y" ∷ []) (row 0 2 0 ∷ []) ≡ codes "place,size,id\n0,2,\"x,y\"\n"
unfolding digits escaped fields_text is_blank
an_id_with_a_comma = refl

-- ---- two buffers of size 1 at even offsets, and one of size 2 below them

abbrev offsets : List ℕ
offsets = 2 ∷ 4 ∷ 0 ∷ []

abbrev shown : List Row
shown = row 0 2 2 ∷ row 2 1 0 ∷ free 3 1 ∷ row 4 1 1 ∷ []

row_of_the_third : buffer_row evens offsets 2 ≡ row 0 2 2
unfolding buffer
row_of_the_third = refl

one_address : rows_between 3 4 ≡ free 3 1 ∷ []
one_address = refl

no_address : rows_between 4 4 ≡ []
no_address = refl

height_of_evens : layout_height evens offsets ≡ 5
unfolding layout_height buffer
height_of_evens = refl

evens_live : AreLiveRows evens offsets 0 (row 0 2 2 ∷ row 2 1 0 ∷ row 4 1 1 ∷ [])
unfolding buffer is_live
evens_live = record {
  stacked = (lit≤ tt, lit< tt, (lit≤ tt, lit< tt, (lit≤ tt, lit< tt, tt)));
  each = each;
  all = all;
}
  where
    each : (q : Row) → IsIn q (row 0 2 2 ∷ row 2 1 0 ∷ row 4 1 1 ∷ []) →
        (b : ℕ) × (b < 3) × IsLive (buffer evens b) 0 × (q ≡ buffer_row evens offsets b)
    each q (inl e) = (2, lit< tt, refl, e)
    each q (inr (inl e)) = (0, lit< tt, refl, e)
    each q (inr (inr (inl e))) = (1, lit< tt, refl, e)
    each q (inr (inr (inr i))) = absurd i

    all : (b : ℕ) → b < 3 → IsLive (buffer evens b) 0 →
        IsIn (buffer_row evens offsets b) (row 0 2 2 ∷ row 2 1 0 ∷ row 4 1 1 ∷ [])
    all zero lt l = inr (inl refl)
    all (suc zero) lt l = inr (inr (inl refl))
    all (suc (suc zero)) lt l = inl refl
    all (suc (suc (suc b))) lt l = absurd (omega arith)

evens_rows : AreRowsAt evens offsets 0 5 shown
evens_rows = filled_are_rows evens offsets 0 5 (row 0 2 2 ∷ row 2 1 0 ∷ row 4 1 1 ∷ []) evens_live within
  where
    within : (q : Row) → IsIn q (row 0 2 2 ∷ row 2 1 0 ∷ row 4 1 1 ∷ []) → q.place + q.size ≤ 5
    within q (inl e) = rw e (lit≤ tt)
    within q (inr (inl e)) = rw e (lit≤ tt)
    within q (inr (inr (inl e))) = rw e (lit≤ tt)
    within q (inr (inr (inr i))) = absurd i

-- what ends above the height is not free
past_the_height : IsUnused evens offsets 0 5 (range 5 6) → ⊥
past_the_height u = let k = u.under in omega arith

-- nor is what meets a buffer
over_a_buffer : IsUnused evens offsets 0 5 (range 3 5) → ⊥
unfolding buffer is_live
over_a_buffer u = go (u.free 1 (lit< tt) refl)
  where
    go : (5 ≤ 4) ⊎ (4 + 1 ≤ 3) → ⊥
    go (inl k) = omega arith
    go (inr k) = omega arith

-- between the first and the second one address is free
free_at_3 : IsFreeAt evens offsets 0 5 (range 3 4)
unfolding buffer is_live
free_at_3 = record { unused = record { not_empty = lit< tt; under = lit≤ tt; free = free_of }; greatest = greatest }
  where
    free_of : (b : ℕ) → b < 3 → IsLive (buffer evens b) 0 →
        (4 ≤ slice_index offsets b) ⊎ (slice_index offsets b + (buffer evens b).size ≤ 3)
    free_of zero lt l = inr (lit≤ tt)
    free_of (suc zero) lt l = inl (lit≤ tt)
    free_of (suc (suc zero)) lt l = inr (lit≤ tt)
    free_of (suc (suc (suc b))) lt l = absurd (omega arith)

    above : (x y : ℕ) → 4 ≤ y → (y ≤ 2) ⊎ (3 ≤ x) → x ≤ 3 → x ≡ 3
    above x y k (inl h) l = absurd (omega arith)
    above x y k (inr h) l = omega arith

    below : (x y : ℕ) → x ≤ 3 → (y ≤ 4) ⊎ (5 ≤ x) → 4 ≤ y → y ≡ 4
    below x y k (inl h) l = omega arith
    below x y k (inr h) l = absurd (omega arith)

    greatest : (s : Range) → IsUnused evens offsets 0 5 s → s.start ≤ 3 → 4 ≤ s.stop → s ≡ range 3 4
    greatest s u from to = ap₂ range
        (above s.start s.stop to (u.free 0 (lit< tt) refl) from)
        (below s.start s.stop from (u.free 1 (lit< tt) refl) to)

not_free : IsFreeAt evens offsets 0 5 (range 3 5) → ⊥
not_free f = over_a_buffer f.unused

-- a part of a free range is none: 5..7 is free below the height 7
part_is_not_free : IsFreeAt evens offsets 0 7 (range 5 6) → ⊥
unfolding buffer is_live
part_is_not_free f =
    let e = ap stop_of (f.greatest (range 5 7) whole (lit≤ tt) (lit≤ tt)) in omega (arith, e)
  where
    stop_of : Range → ℕ
    stop_of r = r.stop

    free_of : (b : ℕ) → b < 3 → IsLive (buffer evens b) 0 →
        (7 ≤ slice_index offsets b) ⊎ (slice_index offsets b + (buffer evens b).size ≤ 5)
    free_of zero lt l = inr (lit≤ tt)
    free_of (suc zero) lt l = inr (lit≤ tt)
    free_of (suc (suc zero)) lt l = inr (lit≤ tt)
    free_of (suc (suc (suc b))) lt l = absurd (omega arith)

    whole : IsUnused evens offsets 0 7 (range 5 7)
    whole = record { not_empty = lit< tt; under = lit≤ tt; free = free_of }

row_of_a_range : IsRowAt evens offsets 0 5 (free 3 1)
row_of_a_range = inr (range 3 4, free_at_3, refl)

row_of_a_buffer : IsRowAt evens offsets 0 5 (row 4 1 1)
unfolding buffer is_live
row_of_a_buffer = inl (1, lit< tt, refl, refl)

size_of_a_range : free_row (range 3 7) ≡ free 3 4
size_of_a_range = refl

id_of_none : id_of three_ids None ≡ []
id_of_none = refl

id_of_the_second : id_of three_ids (Some 1) ≡ codes "B"
id_of_the_second = refl

no_peak_no_rows : AreRowsOf evens offsets None []
no_peak_no_rows = refl

a_row_without_a_peak : AreRowsOf evens offsets None (row 0 2 2 ∷ []) → ⊥
a_row_without_a_peak e = cc

rows_above_each_other : AreStacked 1 (row 1 2 0 ∷ row 4 1 1 ∷ [])
rows_above_each_other = (lit≤ tt, lit< tt, (lit≤ tt, lit< tt, tt))

into_the_first : AreStacked 1 (row 1 2 0 ∷ row 2 1 1 ∷ []) → ⊥
into_the_first s = let k : 3 ≤ 2 = s.2.0 in omega arith

-- nothing is live after the first moment
later_load : (s : ℕ) → load evens (suc s) ≡ 0
unfolding load
later_load s = rw (
  not_live_after (plain 0 1 1 2) (suc s) (omega arith),
  not_live_after (plain 0 1 2 1) (suc s) (omega arith),
) refl

first_load : load evens 0 ≡ 4
unfolding load is_live
first_load = refl

evens_peak : IsPeakOf evens (Some (0, 4))
evens_peak = (
  record { not_empty = λ e. absurd cc; most = most; earliest = λ s lt. absurd (omega arith) },
  sym first_load,
)
  where
    most : (s : ℕ) → load evens s ≤ load evens 0
    most zero = omega arith
    most (suc s) = omega (arith, later_load s)

evens_text : codes "moment 0 load 4 height 5\nplace,size,id\n0,2,C\n2,1,A\n3,1,\n4,1,B\n"
    ≡ peak_line (Some (0, 4)) 5 ++ rows_text three_ids shown
unfolding digits fields_text is_blank
evens_text = refl

-- the whole report, of any table with these ids
evens_report : (table : List Record) → ids_of table ≡ three_ids → IsReportOf table evens offsets
    (codes "moment 0 load 4 height 5\nplace,size,id\n0,2,C\n2,1,A\n3,1,\n4,1,B\n")
evens_report table ids = record {
  peak = Some (0, 4);
  rows = shown;
  is_peak = evens_peak;
  are_rows = rw height_of_evens evens_rows;
  is_text = rw (height_of_evens, ids) evens_text;
}
