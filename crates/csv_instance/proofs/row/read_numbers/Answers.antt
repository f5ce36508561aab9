use Rattle.std.proofs.Common.{◌≡◌, ℕ, None, Some, refl, sym}
use Rattle.csv.specs.Records.{fields_of}
use Rattle.csv_instance.specs.Parse.{bad_column, number_under}
use Rattle.csv_instance.specs.Records.{Record}
use Rattle.csv_instance.specs.Row.{AreNumbers}
use Rattle.csv_instance.specs.declared.columns.Column.TheVariants.{Alignment, Lower, Lowest, Size, Upper}
use Rattle.csv_instance.proofs.row.read_numbers.Goals as goal

-- no column is bad where each gives a number
numbers_read : (header row : Record) (l u s a o : ℕ) → number_under header row Lower ≡ Some l
    → number_under header row Upper ≡ Some u → number_under header row Size ≡ Some s
    → number_under header row Alignment ≡ Some a → number_under header row Lowest ≡ Some o
    → (bad_column header row ≡ None)
    × AreNumbers header row (record { lower = l; upper = u; size = s; alignment = a; lowest = o })
numbers_read header row l u s a o is_l is_u is_s is_a is_o = (
  rw (is_l, is_u, is_s, is_a, is_o) refl,
  record { lower = is_l; upper = is_u; size = is_s; alignment = is_a; lowest = is_o },
)

pub returns : goal.returns
returns c = record {
  limits = (c.in-Some.ensures.within, c.in-Some-parse_number.ensures.within);
  numbers = λ header are.
      numbers_read header (fields_of c.args.row.now) _ _ _ _ _
      (sym (rw (rw are at c.field_under.ensures) at c.in-Some.ensures.number))
      (sym (rw (rw are at c.field_under-2.ensures) at c.in-Some-parse_number.ensures.number))
      (sym (rw (rw are at c.field_under-3.ensures) at c.in-Some-parse_number-2.ensures.number))
      (sym (rw are at c.in-Some-read_number_or.ensures)) (sym (rw are at c.in-Some-read_number_or-2.ensures));
}
