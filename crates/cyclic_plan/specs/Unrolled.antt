-- The instance of one period that a table gives, or its first fault; and the text of that instance.
use Rattle.std.specs.Prelude.{◌≡◌, ℕ, ◌+◌, ◌&&◌, ◌↔◌, Bool, not, cond, nat_le, nat_lt, List, [], ◌∷◌, Option, None, option_map, Result, Ok, Err, map}
use Rattle.std.specs.List.{All}
use Rattle.std.specs.Option.{option_or, option_map_or}
use Rattle.dsa_terms.specs.Buffers.{Buffer, Instance}
use Rattle.dsa_terms.specs.Firsts.{when, first_fault}
use Rattle.dsa_terms.specs.Layouts.{IsLayout}
use Rattle.dsa_model.specs.Buffer.{buffer_fault}
use Rattle.csv_instance.specs.Changed.{Change, changed_text}
use Rattle.csv_instance.specs.Parse.{parse}
use Rattle.csv_instance.specs.Records.{Record, table_of}
use Rattle.csv_instance.specs.Rows.{parse_rows, values_of}
use Rattle.csv_instance.specs.declared.fault.InstanceFault.{InstanceFault}
use Rattle.cyclic_plan.specs.Cycles.{IsCycleLayout, does_wrap, unrolled}
use Rattle.cyclic_plan.specs.declared.fault.CycleFault.{CycleFault}
use Rattle.cyclic_plan.specs.declared.fault.CycleFault.TheVariants as fault

-- ---- faults
-- the row lies within one period
abbrev pub is_in_period : ℕ → Buffer → Bool
is_in_period P b = nat_lt b.lower P && nat_le b.upper P

-- the first fault of a row of that number
abbrev pub cycle_row_fault : ℕ → ℕ → Buffer → Option CycleFault
cycle_row_fault P number b = first_fault (
    when (not (is_in_period P b)) (fault.Outside number)
    ∷ option_map (fault.BadBuffer number) (buffer_fault (unrolled P b))
    ∷ [])

-- the first fault of rows that begin with that number
abbrev pub cycle_rows_fault : ℕ → ℕ → List Buffer → Option CycleFault
cycle_rows_fault P number [] = None
cycle_rows_fault P number (b ∷ bs) = option_or (cycle_row_fault P number b) (cycle_rows_fault P (number + 1) bs)

-- the instance of rows, each unrolled, or the fault of the first that has one
abbrev pub unrolled_rows : ℕ → Result (List Buffer) InstanceFault → Result Instance CycleFault
unrolled_rows P (Err f) = Err (fault.Instance f)
unrolled_rows P (Ok rows) = option_map_or Err (cycle_rows_fault P 0 rows) (Ok (map (unrolled P) rows))

-- the instance of one period that a table gives, or its first fault
unfoldable pub unrolled_of : ℕ → List Record → Result Instance CycleFault
unrolled_of P table = unrolled_rows P (parse_rows table)

-- ---- the text
-- the changes of the rows from that number on that wrap: each becomes the whole period, with a gap between its end and
-- its beginning
abbrev pub wraps_from : ℕ → ℕ → List Buffer → List Change
wraps_from P number [] = []
wraps_from P number (b ∷ bs) =
    cond (does_wrap b)
    ((number, 0, P, b.upper, b.lower) ∷ wraps_from P (number + 1) bs)
    (wraps_from P (number + 1) bs)

-- the text of a table whose rows that wrap change so
unfoldable pub unrolled_text : ℕ → List Record → List ℕ
unrolled_text P table = changed_text table (wraps_from P 0 (values_of table))

-- ---- what they come to
-- the instance that a table gives: that of its rows, each unrolled, of which each is a buffer; its text parses as it;
-- and it has just the layouts that hold at every moment of endless time
pub record IsUnrolled (P : ℕ) (table : List Record) (I : Instance) : Type 0 where
  pub rows : List Buffer
  pub read : parse_rows table ≡ Ok rows
  pub its_buffers : map (unrolled P) rows ≡ I
  pub sound : All (λ b. buffer_fault b ≡ None) I
  pub parsed : parse (table_of (unrolled_text P table)) ≡ Ok I
  pub layouts : (C : ℕ) (offsets : List ℕ) → IsLayout I C offsets ↔ IsCycleLayout P C rows offsets
