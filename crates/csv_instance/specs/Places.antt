-- Where the columns of a header stand, once found.
use Rattle.csv_instance.specs.Records.{Record}
use Rattle.csv_instance.specs.Columns.{column_place}
use Rattle.csv_instance.specs.declared.columns.ColumnPlaces.{ColumnPlaces}
use Rattle.csv_instance.specs.declared.columns.Column.TheVariants.{Id, Lower, Upper, Size, Alignment, Gaps, Lowest}

-- where each column stands, if it does
abbrev pub column_places : Record → ColumnPlaces
column_places header = record {
  id = column_place header Id;
  lower = column_place header Lower;
  upper = column_place header Upper;
  size = column_place header Size;
  alignment = column_place header Alignment;
  gaps = column_place header Gaps;
  lowest = column_place header Lowest;
}
