-- Rows without a fault have none after their changes, and say what they are to say.
use Rattle.std.proofs.Common.{◌≡◌, ◌≤◌, ◌+◌, ◌++◌, ◌∷◌, ◌∙◌, ◌==◌, ℕ, List, [], false, not, Option, Some, None, is_some, length, map, position, unwrap_or, nat_lt, refl, sym, ap, arith, inl, inr, eq-eqb}
use Rattle.std.proofs.lemmas.Bool.{cases_Bool, eqb-true}
use Rattle.std.proofs.lemmas.List.{length-map, map-append}
use Rattle.std.specs.Str.{bytes_eq}
use Rattle.dsa_terms.specs.Buffers.{Buffer}
use Rattle.dsa_terms.specs.Claims.{IsIn}
use Rattle.dsa_terms.proofs.Places.{in_from_all}
use Rattle.dsa_model.specs.Buffer.{buffer_limit}
use Rattle.dsa_model.proofs.Faults.{map_none, neither, not_so}
use Rattle.dsa_model.specs.Limits.{time_limit}
use Rattle.csv_instance.specs.Changed.{AreMoments, Change, change_of, changed_from, changed_header, changed_row, changed_rows, changed_value}
use Rattle.csv_instance.specs.Columns.{field_of}
use Rattle.csv_instance.specs.Gaps.{gaps_of}
use Rattle.csv_instance.specs.Parse.{header_fault, id_limit, number_under, row_buffer}
use Rattle.csv_instance.specs.Records.{Record}
use Rattle.csv_instance.specs.RowSteps.{form_fault, form_faults, id_fault, id_faults}
use Rattle.csv_instance.specs.Rows.{row_form_fault, rows_form_fault}
use Rattle.csv_instance.specs.declared.columns.Column.{Column}
use Rattle.csv_instance.specs.declared.columns.Column.TheVariants.{Id, Lower, Upper, Size, Alignment, Gaps, Lowest}
use Rattle.csv_instance.specs.declared.fault.InstanceFault.TheVariants as fault
use Rattle.csv_instance.proofs.Basics.{find_none, not_false}
use Rattle.csv_instance.proofs.ChangedFields.{HasFields, row_carried, row_changed}
use Rattle.csv_instance.proofs.GapTexts.{gap_added-read}
use Rattle.csv_instance.proofs.IdLemmas.{all_none, new_id, position-map}
use Rattle.csv_instance.proofs.OffsetLemmas.{number-decimal}
use Rattle.csv_instance.proofs.RowStepLemmas.{form-content, form_parts}
use Rattle.csv_instance.proofs.ChangedHeader.{moments_there}

-- ---- what a row says
-- these are the numbers and the gaps that a row writes
record Says (header row : Record) (b : Buffer) : Type 0 where
  pub lower : number_under header row Lower ≡ Some b.lower
  pub upper : number_under header row Upper ≡ Some b.upper
  pub size : number_under header row Size ≡ Some b.size
  pub alignment : number_under header row Alignment ≡ Some b.alignment
  pub gaps : gaps_of (field_of header row Gaps) ≡ Some b.gaps
  pub lowest : number_under header row Lowest ≡ Some b.lowest

there_is : {A : Type 0} (o : Option A) (d : A) → not (is_some o) ≡ false → o ≡ Some (unwrap_or o d)
there_is None d e = cc e
there_is (Some x) d e = refl

-- a row without a fault of form says what its buffer is
says_its_own : (header : Record) (n : ℕ) (row : Record) → form_fault header n row ≡ None →
    Says header row (row_buffer header row)
says_its_own header n row e =
    let all = all_none (form_faults header n row) e in
    let missing = λ (c : Column). not (is_some (number_under header row c)) in
    let m1 = find_none missing Lower (Upper ∷ Size ∷ Alignment ∷ Lowest ∷ []) (map_none (fault.BadNumber n) _ all.0) in
    let m2 = find_none missing Upper (Size ∷ Alignment ∷ Lowest ∷ []) m1.1 in
    let m3 = find_none missing Size (Alignment ∷ Lowest ∷ []) m2.1 in
    let m4 = find_none missing Alignment (Lowest ∷ []) m3.1 in
    let m5 = find_none missing Lowest [] m4.1 in
    record {
      lower = there_is (number_under header row Lower) 0 m1.0;
      upper = there_is (number_under header row Upper) 0 m2.0;
      size = there_is (number_under header row Size) 0 m3.0;
      alignment = there_is (number_under header row Alignment) 0 m4.0;
      gaps = there_is (gaps_of (field_of header row Gaps)) [] (not_so _ (fault.BadGap n) all.1.0);
      lowest = there_is (number_under header row Lowest) 0 m5.0;
    }

-- and what says something has no such fault
says_well : (header : Record) (n : ℕ) (row : Record) (b : Buffer) → Says header row b →
    (form_fault header n row ≡ None) × (row_buffer header row ≡ b)
says_well header n row b s = (
  rw (s.lower, s.upper, s.size, s.alignment, s.gaps, s.lowest) refl,
  rw (s.lower, s.upper, s.size, s.alignment, s.gaps, s.lowest) refl,
)

-- the moments of a change are within their limit
abbrev IsMoments : Change → Type 0
IsMoments c = (c.1 ≤ time_limit) × (c.2 ≤ time_limit) × (c.3 ≤ time_limit) × (c.4 ≤ time_limit)

abbrev IfMoments : Option Change → Type 0
IfMoments None = Unit {0}
IfMoments (Some c) = IsMoments c

-- the fields of a row
pub own_fields : (header row : Record) → length row ≡ length header →
    HasFields header row (field_of header row Id) (field_of header row Lower) (field_of header row Upper)
    (field_of header row Size) (field_of header row Alignment) (field_of header row Gaps) (field_of header row Lowest)
own_fields header row even = record {
  even = even;
  id_is = refl;
  lower_is = refl;
  upper_is = refl;
  size_is = refl;
  alignment_is = refl;
  gaps_is = refl;
  lowest_is = refl;
}

-- what a row says after its change, how many fields it has and what its id is
row_after : (header row : Record) (o : Option Change) (b : Buffer) → header_fault header ≡ None →
    length row ≡ length header → Says header row b → IfMoments o →
    (length (changed_row header o row) ≡ length (changed_header header))
    × (field_of (changed_header header) (changed_row header o row) Id ≡ field_of header row Id)
    × Says (changed_header header) (changed_row header o row) (changed_value o b)
row_after header row None b good even s m =
    let f = row_carried header row (field_of header row Id) (field_of header row Lower) (field_of header row Upper)
    (field_of header row Size) (field_of header row Alignment) (field_of header row Gaps) (field_of header row Lowest)
    (own_fields header row even) in (
      f.even,
      f.id_is,
      record {
        lower = rw f.lower_is s.lower;
        upper = rw f.upper_is s.upper;
        size = rw f.size_is s.size;
        alignment = rw f.alignment_is s.alignment;
        gaps = rw f.gaps_is s.gaps;
        lowest = rw f.lowest_is s.lowest;
      },
    )
row_after header row (Some c) b good even s m =
    let there = moments_there header good in
    let f = row_changed header row (field_of header row Id) (field_of header row Lower) (field_of header row Upper)
    (field_of header row Size) (field_of header row Alignment) (field_of header row Gaps)
    (field_of header row Lowest) there.0.0 there.1.0 c there.0.1
    there.1.1 (own_fields header row even) in (
      f.even,
      f.id_is,
      record {
        lower = rw f.lower_is (number-decimal time_limit c.1 m.0 (omega (arith, m.0)));
        upper = rw f.upper_is (number-decimal time_limit c.2 m.1 (omega (arith, m.1)));
        size = rw f.size_is s.size;
        alignment = rw f.alignment_is s.alignment;
        gaps = rw f.gaps_is (gap_added-read (field_of header row Gaps) b.gaps c.3 c.4 s.gaps m.2 m.3);
        lowest = rw f.lowest_is s.lowest;
      },
    )

-- ---- rows
found_moments : (cs : List Change) (n : ℕ) → AreMoments cs → IfMoments (change_of cs n)
found_moments cs n all = go cs (λ c i. in_from_all IsMoments cs all c i)
  where
    go : (ds : List Change) → ((c : Change) → IsIn c ds → IsMoments c) → IfMoments (change_of ds n)
    go [] h = tt
    go (d ∷ ds) h = elim (cases_Bool (d.0 == n)) [
      | inl same ↦ rw same (h d (inl refl))
      | inr other ↦ rw other (go ds (λ c i. h c (inr i)))
    ]

-- a row's id is still new, and its length right
id_still : (header : Record) (before before2 : List Record) (row row2 : Record) →
    map (λ e. field_of (changed_header header) e Id) before2 ≡ map (λ e. field_of header e Id) before →
    length row2 ≡ length (changed_header header) →
    field_of (changed_header header) row2 Id ≡ field_of header row Id → id_fault header before row ≡ None →
    id_fault (changed_header header) before2 row2 ≡ None
id_still header before before2 row row2 same even id_is e =
    let n = all_none (id_faults header before row) e in
    let count : length before2 ≡ length before =
    (let a = length-map before2 (λ e. field_of (changed_header header) e Id) in
    let b = length-map before (λ e. field_of header e Id) in let q = ap length same in omega arith) in
    let room : (length before2 == buffer_limit) ≡ false =
    ap (λ k. k == buffer_limit) count ∙ not_so _ fault.TooManyBuffers n.0 in
    let some : (length (field_of header row Id) == 0) ≡ false = not_so _ (fault.EmptyId (length before)) n.1.1.0 in
    let short : nat_lt id_limit (length (field_of header row Id)) ≡ false =
    not_so _ (fault.IdTooLong (length before)) n.1.1.1.0 in
    let fresh : position (λ e. bytes_eq (field_of header row Id) (field_of (changed_header header) e Id)) before2
    ≡ None =
    position-map (bytes_eq (field_of header row Id)) (λ e. field_of (changed_header header) e Id) before2
    ∙ ap (position (bytes_eq (field_of header row Id))) same
    ∙ sym (position-map (bytes_eq (field_of header row Id)) (λ e. field_of header e Id) before)
    ∙ new_id header before row e in
    rw (room, eq-eqb (length row2) (length (changed_header header)) even, id_is, some, short, fresh) refl

-- the ids of rows before one, and after their changes
same_more : (header : Record) (before before2 : List Record) (row row2 : Record) →
    map (λ e. field_of (changed_header header) e Id) before2 ≡ map (λ e. field_of header e Id) before →
    field_of (changed_header header) row2 Id ≡ field_of header row Id →
    map (λ e. field_of (changed_header header) e Id) (before2 ++ row2 ∷ [])
    ≡ map (λ e. field_of header e Id) (before ++ row ∷ [])
same_more header before before2 row row2 e h =
    map-append (λ e. field_of (changed_header header) e Id) before2 (row2 ∷ [])
    ∙ ap (λ t. t ++ field_of (changed_header header) row2 Id ∷ []) e
    ∙ ap (λ t. map (λ e. field_of header e Id) before ++ t ∷ []) h
    ∙ sym (map-append (λ e. field_of header e Id) before (row ∷ []))

pub even_row : (header : Record) (before : List Record) (row : Record) → id_fault header before row ≡ None →
    length row ≡ length header
even_row header before row e =
    eqb-true _ _ (not_false _ (not_so _ (fault.FieldCount (length before))
    (all_none (id_faults header before row) e).1.0))

-- rows without a fault have none after their changes
pub rows_after : (header : Record) (cs : List Change) (n : ℕ) (before before2 rows : List Record) →
    header_fault header ≡ None → AreMoments cs →
    map (λ e. field_of (changed_header header) e Id) before2 ≡ map (λ e. field_of header e Id) before →
    rows_form_fault header before rows ≡ None →
    (rows_form_fault (changed_header header) before2 (changed_rows header cs n rows) ≡ None)
    × (map (row_buffer (changed_header header)) (changed_rows header cs n rows)
    ≡ changed_from cs n (map (row_buffer header) rows))
rows_after header cs n before before2 [] good m same e = (refl, refl)
rows_after header cs n before before2 (row ∷ rows) good m same e =
    let (here, later) = neither (row_form_fault header before row)
    (rows_form_fault header (before ++ row ∷ []) rows) e in
    let (id_good, form_good) = form_parts header before row here in
    let o = change_of cs n in
    let row2 = changed_row header o row in
    let (even, id_is, says) = row_after header row o (row_buffer header row) good (even_row header before row id_good)
    (says_its_own header (length before) row form_good) (found_moments cs n m) in
    let (form, is) = says_well (changed_header header) (length before2) row2
    (changed_value o (row_buffer header row)) says in
    let id = id_still header before before2 row row2 same even id_is id_good in
    let (rest, values) = rows_after header cs (n + 1) (before ++ row ∷ []) (before2 ++ row2 ∷ []) rows good m
    (same_more header before before2 row row2 same id_is) later in
    (rw (form-content (changed_header header) before2 row2 None id form) rest, rw (is, values) refl)
