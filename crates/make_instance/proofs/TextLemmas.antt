-- A made text is what the `csv` writer writes of its records, and it is short.
use Rattle.std.proofs.Common.{◌≡◌, ◌<◌, ◌≤◌, ◌+◌, ◌*◌, ◌++◌, ◌∷◌, ◌∙◌, ℕ, zero, suc, List, [], Option, Some, None, codes, length, map, refl, ap, arith, length-append}
use Rattle.std.proofs.lemmas.Fmt.{length-decimal-le}
use Rattle.std.specs.Fmt.{decimal}
use Rattle.std.specs.List.{flat_map, join_with_byte, range_with_len}
use Rattle.dsa_model.specs.Buffer.{buffer_limit}
use Rattle.csv.specs.Reading.{default_config, records}
use Rattle.csv.specs.Writing.{default_writer, row_text}
use Rattle.csv_instance.specs.Layout.{text_of}
use Rattle.csv_instance.specs.Records.{table_of}
use Rattle.csv_instance.proofs.Mark.{no_mark}
use Rattle.csv_instance.proofs.ReadBack.{AllReadBack, text-read}
use Rattle.make_instance.specs.Made.{gap_text, header, record_line, made_record, made_table, made_text, record_of}
use Rattle.make_instance.specs.Rows.{made_row}
use Rattle.make_instance.specs.declared.row.Row.{Row}
use Rattle.make_instance.proofs.LineLemmas.{ArePlain, IsPlain, line-row, plain_number, plain_pair}
use Rattle.make_instance.proofs.MadeRows.{IsGapIn, IsMade, made}

plain_gap : (lower upper : ℕ) (gap : Option (ℕ × ℕ)) → upper < 16384 → IsGapIn lower upper gap → IsPlain (gap_text gap)
plain_gap lower upper None soon inside = refl
plain_gap lower upper (Some (a, b)) soon inside =
    let (after, some, before) = inside in plain_pair a b (omega arith) (omega arith)

row_plain : (i : ℕ) (row : Row) → i < buffer_limit → IsMade row → ArePlain (record_of i row)
row_plain i row few h = (
  plain_number i (omega arith),
  (
    plain_number row.lower (omega (arith, h.lasts, h.soon)),
    (
      plain_number row.upper (omega (arith, h.soon)),
      (
        plain_number row.size (omega (arith, h.small)),
        (
          plain_number row.alignment (omega (arith, h.narrow)),
          (plain_gap row.lower row.upper row.gap h.soon h.gap, tt),
        ),
      ),
    ),
  ),
)

-- the line of a row
row_line : (i : ℕ) (row : Row) → i < buffer_limit → IsMade row
    → record_line (record_of i row) ≡ row_text default_writer (record_of i row)
row_line i row few h = line-row (codes "b" ++ decimal i) (decimal row.lower)
    (decimal row.upper ∷ decimal row.size ∷ decimal row.alignment ∷ gap_text row.gap ∷ []) (row_plain i row few h)

-- the lines from buffer a on, n of them
lines_same : (seed count a n : ℕ) → a + n ≤ count → count ≤ buffer_limit
    → flat_map record_line (map (made_record seed count) (range_with_len a n))
    ≡ text_of (map (made_record seed count) (range_with_len a n))
lines_same seed count a zero within few = refl
lines_same seed count a (suc n) within few =
    let row = made seed count a (omega arith) few in
    let here = row_line a (made_row seed count a) (omega arith) row in
    let rest = lines_same seed count (a + 1) n (omega arith) few in
    ap (λ (t : List ℕ). t ++ flat_map record_line (map (made_record seed count) (range_with_len (a + 1) n))) here
    ∙ ap (λ (t : List ℕ). row_text default_writer (made_record seed count a) ++ t) rest

header_same : record_line header ≡ row_text default_writer header
header_same = line-row (codes "id") (codes "lower")
    (codes "upper" ∷ codes "size" ∷ codes "alignment" ∷ codes "gaps" ∷ [])
    (refl, (refl, (refl, (refl, (refl, (refl, tt))))))

text_same : (seed count : ℕ) → count ≤ buffer_limit → made_text seed count ≡ text_of (made_table seed count)
unfolding made_text
text_same seed count few =
    ap (λ (t : List ℕ). t ++ flat_map record_line (map (made_record seed count) (range_with_len 0 count))) header_same
    ∙ ap (λ (t : List ℕ). row_text default_writer header ++ t)
    (lines_same seed count 0 count (omega arith) few)

rows_read : (seed count a n : ℕ) → AllReadBack (map (made_record seed count) (range_with_len a n))
rows_read seed count a zero = tt
rows_read seed count a (suc n) = (refl, rows_read seed count (a + 1) n)

-- a made text reads as its records
pub table-read : (seed count : ℕ) → count ≤ buffer_limit → table_of (made_text seed count) ≡ made_table seed count
table-read seed count few =
    ap table_of (text_same seed count few)
    ∙ ap (records default_config) (no_mark (codes "id") (codes "lower") _ _ refl)
    ∙ text-read (made_table seed count) (refl, rows_read seed count 0 count)

-- ---- its length

gap_short : (lower upper : ℕ) (gap : Option (ℕ × ℕ)) → upper < 16384 → IsGapIn lower upper gap
    → length (gap_text gap) ≤ 11
gap_short lower upper None soon inside = omega arith
gap_short lower upper (Some (a, b)) soon inside =
    let (after, some, before) = inside in
    omega (
      arith,
      length-append (decimal a ++ 45 ∷ []) (decimal b),
      length-append (decimal a) (45 ∷ []),
      length-decimal-le 5 a (omega arith) (omega arith) (omega arith),
      length-decimal-le 5 b (omega arith) (omega arith) (omega arith),
    )

-- a line of six fields
line_length : (a b c d e f : List ℕ)
    → length (record_line (a ∷ b ∷ c ∷ d ∷ e ∷ f ∷ []))
    ≡ length a + length b + length c + length d + length e + length f + 6
line_length a b c d e f = omega (
  arith,
  length-append (join_with_byte 44 (a ∷ b ∷ c ∷ d ∷ e ∷ f ∷ [])) (10 ∷ []),
  length-append a (44 ∷ join_with_byte 44 (b ∷ c ∷ d ∷ e ∷ f ∷ [])),
  length-append b (44 ∷ join_with_byte 44 (c ∷ d ∷ e ∷ f ∷ [])),
  length-append c (44 ∷ join_with_byte 44 (d ∷ e ∷ f ∷ [])),
  length-append d (44 ∷ join_with_byte 44 (e ∷ f ∷ [])),
  length-append e (44 ∷ f),
)

line_short : (i : ℕ) (row : Row) → i < buffer_limit → IsMade row → length (record_line (record_of i row)) ≤ 60
line_short i row few h = omega (
  arith,
  line_length (98 ∷ decimal i) (decimal row.lower) (decimal row.upper) (decimal row.size) (decimal row.alignment)
      (gap_text row.gap),
  gap_short row.lower row.upper row.gap h.soon h.gap,
  length-decimal-le 4 i (omega arith) (omega arith) (omega arith),
  length-decimal-le 5 row.lower (omega arith) (omega (arith, h.lasts, h.soon)) (omega (arith, h.lasts, h.soon)),
  length-decimal-le 5 row.upper (omega arith) (omega (arith, h.soon)) (omega (arith, h.soon)),
  length-decimal-le 4 row.size (omega arith) (omega (arith, h.small)) (omega (arith, h.small)),
  length-decimal-le 4 row.alignment (omega arith) (omega (arith, h.narrow)) (omega (arith, h.narrow)),
)

lines_short : (seed count a n : ℕ) → a + n ≤ count → count ≤ buffer_limit
    → length (flat_map record_line (map (made_record seed count) (range_with_len a n))) ≤ 60 * n
lines_short seed count a zero within few = omega arith
lines_short seed count a (suc n) within few =
    let here = line_short a (made_row seed count a) (omega arith) (made seed count a (omega arith) few) in
    let rest = lines_short seed count (a + 1) n (omega arith) few in
    omega (
      arith,
      length-append (record_line (made_record seed count a))
          (flat_map record_line (map (made_record seed count) (range_with_len (a + 1) n))),
      here,
      rest,
    )

-- a made text is no longer than a file may be
pub text_short : (seed count : ℕ) → count ≤ buffer_limit → length (made_text seed count) ≤ 67108864
unfolding made_text
text_short seed count few =
    omega (
      arith,
      length-append (record_line header) (flat_map record_line (map (made_record seed count) (range_with_len 0 count))),
      lines_short seed count 0 count (omega arith) few,
    )
