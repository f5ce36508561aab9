-- What an iterator over the records of a slice is to give.
use Rattle.std.specs.Prelude.{Result, Ok, Err, ◌≡◌, ◌<◌, ◌+◌, ◌∷◌, [], ℕ, List, Option, Some, None, length}
use Rattle.std.specs.Borrow.{Bor}
use Rattle.csv.specs.Records.{Row, fields_of}
use Rattle.csv.specs.Reading.{Ready, default_config, records_from, source_of}
use Rattle.csv.specs.declared.error.Error.{Error}
use Rattle.csv.specs.declared.iter.ByteRecordsIntoIter.{ByteRecordsIntoIter}
use Rattle.csv.specs.declared.parser.Config.{Config}
use Rattle.csv.specs.declared.parser.State.{State}
use Rattle.csv.specs.declared.reader.Trim.TheVariants as trim
use Rattle.csv_instance.specs.Records.{Record}

-- the records of what is left
abbrev pub records_left : Config → State → List ℕ → List (List (List ℕ))
records_left cfg s xs = records_from cfg (length xs + 1) s xs

-- the iterator gives these records, in turn, and no more
pub record Gives (it : ByteRecordsIntoIter (Bor (List ℕ))) (left : List Record) : Type 0 where
  pub plain : it.rdr.trim ≡ trim.None
  pub ready : Ready it.rdr
  pub turns : 0 < it.left
  pub config : it.rdr.config ≡ default_config
  pub rest : List ℕ
  pub source : source_of (λ (s : Bor (List ℕ)). Some s.now) it.rdr ≡ Some rest
  pub gives : left ≡ records_left default_config it.rdr.state rest

-- the first of these records, while the iterator gives the others from now on
abbrev pub GivesFirst : List Record → ByteRecordsIntoIter (Bor (List ℕ)) → Option Row → Type 0
GivesFirst left after None = left ≡ []
GivesFirst left after (Some first) = (more : List Record) × (left ≡ fields_of first ∷ more) × Gives after more

-- what an iterator gave is a record, and its fields have P
abbrev pub GaveRecord : Result Row Error → (Record → Type 0) → Type 0
GaveRecord (Ok row) P = P (fields_of row)
GaveRecord (Err e) P = ⊥
