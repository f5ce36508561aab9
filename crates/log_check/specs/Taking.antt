-- The lines of a text, taken one after another.
use Rattle.std.specs.Prelude.{◌≡◌, ℕ, ◌-◌, List, map, length, take}
use Rattle.std.specs.List.{range_with_len}
use Rattle.dsa_terms.specs.Buffers.{Instance}
use Rattle.dsa_terms.specs.Search.{first_some}
use Rattle.refute_log.specs.Logs.{Belongs, OpenLog}
use Rattle.log_text.specs.Text.{raw_line_of}
use Rattle.log_text.specs.declared.raw.RawLine.{RawLine}
use Rattle.log_check.specs.Faults.{illegal_at, illegal_fault, line_of}

-- the first n lines are the log, which belongs to the instance and says what the text says, and what is wrong with all
-- of the lines is what is wrong with the rest
pub record IsTaken (I : Instance) (C : ℕ) (lines : List RawLine) (n : ℕ) (log : OpenLog) : Type 0 where
  pub left : illegal_fault I C lines ≡ first_some (illegal_at I C lines) (range_with_len n (length lines - n))
  pub taken : log ≡ record { count = length I; capacity = C; lines = map line_of (take n lines) }
  pub text : map raw_line_of (map line_of (take n lines)) ≡ take n lines
  pub belongs : Belongs I log
