-- Ids that are a letter and a number.
use Rattle.std.proofs.Common.{◌≡◌, ◌<◌, ◌≤◌, ◌^◌, ◌∷◌, ◌∙◌, ◌==◌, ℕ, List, Bool, true, false, not, None, length, nat_lt, position, refl, sym, ap, arith}
use Rattle.std.proofs.lemmas.Bool.Decides.{nat_tests}
use Rattle.std.proofs.lemmas.Fmt.{digits_value-decimal, length-decimal-le}
use Rattle.std.proofs.lemmas.Slice.Eq.{bytes_eq-Decides}
use Rattle.std.specs.Fmt.{decimal}
use Rattle.std.specs.Str.{bytes_eq}
use Rattle.std.specs.Str.Parse.{digits_value}
use Rattle.dsa_model.specs.Buffer.{buffer_limit}
use Rattle.dsa_model.proofs.NumberLemmas.{own}
use Rattle.csv_instance.specs.Columns.{field_of}
use Rattle.csv_instance.specs.Records.{Record}
use Rattle.csv_instance.specs.RowSteps.{id_fault, id_faults}
use Rattle.csv_instance.specs.declared.columns.Column.TheVariants.{Id}
use Rattle.csv_instance.specs.declared.fault.InstanceFault.TheVariants as fault
use Rattle.csv_instance.proofs.IdLemmas.{none_first, none_mapped, none_when}

-- ids of other numbers differ
pub ids_differ : (letter i j : ℕ) → i < 2 ^ 64 → j < i → bytes_eq (letter ∷ decimal i) (letter ∷ decimal j) ≡ false
ids_differ letter i j word less = differ _ (λ e. no (second (bytes_same e)))
  where
    differ : (b : Bool) → (b ≡ true → ⊥) → b ≡ false
    differ true h = absurd (h refl)
    differ false h = refl

    bytes_same : bytes_eq (letter ∷ decimal i) (letter ∷ decimal j) ≡ true → (letter ∷ decimal i) ≡ (letter ∷ decimal j)
    bytes_same e = (bytes_eq-Decides (letter ∷ decimal i) (letter ∷ decimal j)).0 e

    second : (letter ∷ decimal i) ≡ (letter ∷ decimal j) → decimal i ≡ decimal j
    second e = cc

    no : decimal i ≡ decimal j → ⊥
    no e =
        let same : i ≡ j = sym (digits_value-decimal own i word) ∙ ap (digits_value 10) e
        ∙ digits_value-decimal own j (omega arith) in
        omega arith

-- a row of as many fields as the header, of such an id that no row before it has, has no fault of its id
pub numbered_good : (header : Record) (before : List Record) (row : Record) (letter n : ℕ) →
    field_of header row Id ≡ letter ∷ decimal n → not (length row == length header) ≡ false → n ≤ 2 ^ 60 →
    length before < buffer_limit →
    position (λ earlier. bytes_eq (letter ∷ decimal n) (field_of header earlier Id)) before ≡ None →
    id_fault header before row ≡ None
numbered_good header before row letter n id even small few fresh =
    let own_id = letter ∷ decimal n in
    let room : (length before == buffer_limit) ≡ false = not_limit (length before) few in
    let long : length (decimal n) ≤ 20 = length-decimal-le 20 n (omega arith) (omega arith) (omega arith) in
    let some : (length own_id == 0) ≡ false = not_zero (length own_id) (omega arith) in
    let short : nat_lt 255 (length own_id) ≡ false = not_above (length own_id) (omega arith) in
    none_first (id_faults header before row) (
      none_when fault.TooManyBuffers _ room,
      (
        none_when (fault.FieldCount (length before)) _ even,
        (
          none_when (fault.EmptyId (length before)) _ (rw id some),
          (
            none_when (fault.IdTooLong (length before)) _ (rw id short),
            (none_mapped (fault.DuplicateId (length before)) _ (rw id fresh), tt),
          ),
        ),
      ),
    )
  where
    not_limit : (n : ℕ) → n < buffer_limit → (n == buffer_limit) ≡ false
    not_limit n h = grind (arith, nat_tests)

    not_zero : (n : ℕ) → 0 < n → (n == 0) ≡ false
    not_zero n h = grind (arith, nat_tests)

    not_above : (n : ℕ) → n ≤ 255 → nat_lt 255 n ≡ false
    not_above n h = grind (arith, nat_tests)
