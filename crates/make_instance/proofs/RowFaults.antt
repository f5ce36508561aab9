-- A row that is drawn has no fault.
use Rattle.std.proofs.Common.{◌≡◌, ◌<◌, ◌≤◌, ◌^◌, ◌∷◌, ◌∙◌, ◌==◌, ℕ, List, [], true, false, not, Option, Some, None, length, nat_le, nat_lt, is_some, refl, ap, arith}
use Rattle.std.proofs.lemmas.Bool.Decides.{nat_tests}
use Rattle.std.proofs.lemmas.Fmt.{decimal_nonempty}
use Rattle.std.specs.Fmt.{decimal}
use Rattle.std.specs.List.{list_any}
use Rattle.std.specs.Option.{option_to_list}
use Rattle.dsa_terms.specs.Buffers.{Buffer, is_within}
use Rattle.dsa_model.specs.Buffer.{buffer_fault, buffer_of, gap_fault, is_ever_live, number_fault}
use Rattle.dsa_model.specs.Numbers.{written_number}
use Rattle.dsa_model.proofs.Live.{is_ever, live_from}
use Rattle.dsa_model.specs.Limits.{time_limit}
use Rattle.csv_instance.specs.Gaps.{gaps_of}
use Rattle.csv_instance.specs.Parse.{number_or, bad_column, row_buffer}
use Rattle.csv_instance.specs.RowSteps.{content_fault}
use Rattle.csv_instance.specs.declared.fault.InstanceFault.TheVariants as fault
use Rattle.csv_instance.proofs.IdLemmas.{none_first, none_mapped, none_when}
use Rattle.csv_instance.proofs.OffsetLemmas.{number-decimal}
use Rattle.csv_instance.proofs.RowStepLemmas.{content-none}
use Rattle.make_instance.specs.Made.{gap_text, header, record_of}
use Rattle.make_instance.specs.declared.row.Row.{Row}
use Rattle.csv_instance.proofs.GapTexts.{gaps-read}
use Rattle.make_instance.proofs.MadeRows.{IsGapIn, IsMade}

-- ---- the buffer

no_number_fault : (lower upper size alignment : ℕ) (gaps : List (ℕ × ℕ)) → lower < upper → 0 < size → size ≤ 64
    → 0 < alignment → alignment ≤ 4 → number_fault (buffer_of lower upper size alignment gaps 0) ≡ None
no_number_fault lower upper size alignment gaps lasts some small some2 narrow =
    let one : nat_le upper lower ≡ false = grind (arith, nat_tests) in
    let two : (size == 0) ≡ false = grind (arith, nat_tests) in
    let three : nat_lt (2 ^ 40) size ≡ false = grind (arith, nat_tests) in
    let four : (alignment == 0) ≡ false = grind (arith, nat_tests) in
    let five : nat_lt (2 ^ 32) alignment ≡ false = grind (arith, nat_tests) in
    rw (one, two, three, four, five) refl

live_first : (lower upper size alignment : ℕ) (gap : Option (ℕ × ℕ)) → lower < upper → IsGapIn lower upper gap
    → is_ever_live (buffer_of lower upper size alignment (option_to_list gap) 0) ≡ true
live_first lower upper size alignment gap lasts inside =
    is_ever _ lower (live_from _ lower (omega arith) lasts (outside gap inside))
  where
    outside : (gap : Option (ℕ × ℕ)) → IsGapIn lower upper gap → list_any (is_within lower) (option_to_list gap) ≡ false
    outside None inside = refl
    outside (Some (a, b)) inside =
        let before : nat_le a lower ≡ false = let h = inside.0 in grind (arith, nat_tests) in
        rw before refl

no_gap_fault : (lower upper size alignment : ℕ) (gap : Option (ℕ × ℕ)) → lower < upper → IsGapIn lower upper gap
    → gap_fault (buffer_of lower upper size alignment (option_to_list gap) 0) ≡ None
no_gap_fault lower upper size alignment None lasts inside =
    rw (live_first lower upper size alignment None lasts inside) refl
no_gap_fault lower upper size alignment (Some (a, b)) lasts inside =
    let (after, some, before) = inside in
    let one : nat_le b a ≡ false = grind (arith, nat_tests) in
    let two : nat_lt a lower ≡ false = grind (arith, nat_tests) in
    let three : nat_lt upper b ≡ false = grind (arith, nat_tests) in
    rw (one, two, three, live_first lower upper size alignment (Some (a, b)) lasts inside) refl

abbrev buffer_by : Row → Buffer
buffer_by row = buffer_of row.lower row.upper row.size row.alignment (option_to_list row.gap) 0

no_fault : (row : Row) → IsMade row → buffer_fault (buffer_by row) ≡ None
no_fault row h =
    rw (
      no_number_fault row.lower row.upper row.size row.alignment (option_to_list row.gap) h.lasts h.some_size h.small
          h.some_alignment h.narrow,
      no_gap_fault row.lower row.upper row.size row.alignment row.gap h.lasts h.gap,
    ) refl

-- ---- what the row says of it

pub gaps_are : (lower upper : ℕ) (gap : Option (ℕ × ℕ)) → upper < 16384 → IsGapIn lower upper gap
    → gaps_of (gap_text gap) ≡ Some (option_to_list gap)
gaps_are lower upper None soon inside = refl
gaps_are lower upper (Some (a, b)) soon inside =
    let (after, some, before) = inside in gaps-read a b (omega arith) (omega arith)

number : (n : ℕ) → n < 16384 → written_number time_limit (decimal n) ≡ Some n
number n small = number-decimal time_limit n (omega arith) (omega arith)

alignment : (n : ℕ) → n < 16384 → number_or 1 (decimal n) ≡ Some n
alignment n small =
    let some : (length (decimal n) == 0) ≡ false = long _ (decimal_nonempty n (omega arith)) in
    rw some (number n small)
  where
    long : (n : ℕ) → 0 < n → (n == 0) ≡ false
    long n h = grind (arith, nat_tests)

buffer_is : (i : ℕ) (row : Row) → IsMade row → row_buffer header (record_of i row) ≡ buffer_by row
buffer_is i row h = rw (
  number row.lower (omega (arith, h.lasts, h.soon)),
  number row.upper h.soon,
  number row.size (omega (arith, h.small)),
  alignment row.alignment (omega (arith, h.narrow)),
  gaps_are row.lower row.upper row.gap h.soon h.gap,
) refl

pub content_good : (i k : ℕ) (row : Row) → IsMade row → content_fault header k (record_of i row) ≡ None
content_good i k row h =
    let bad : bad_column header (record_of i row) ≡ None = rw (
      number row.lower (omega (arith, h.lasts, h.soon)),
      number row.upper h.soon,
      number row.size (omega (arith, h.small)),
      alignment row.alignment (omega (arith, h.narrow)),
    ) refl in
    let fine : buffer_fault (row_buffer header (record_of i row)) ≡ None =
    ap buffer_fault (buffer_is i row h) ∙ no_fault row h in
    content-none header k (record_of i row) (none_first (_ ∷ _ ∷ []) (
      none_mapped (fault.BadNumber k) _ bad,
      (
        none_when (fault.BadGap k) _
            (ap (λ (o : Option (List (ℕ × ℕ))). not (is_some o)) (gaps_are row.lower row.upper row.gap h.soon h.gap)),
        tt,
      ),
    )) fine
