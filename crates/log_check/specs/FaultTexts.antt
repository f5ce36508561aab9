-- The texts of faults of a log, as they are printed.
use Rattle.std.specs.Prelude.{ℕ, List, ◌++◌, codes, decimal}
use Rattle.refute_log.specs.ReasonTexts.{reason_text}
use Rattle.log_check.specs.declared.fault.CheckFault.{CheckFault}
use Rattle.log_check.specs.declared.fault.CheckFault.TheVariants as check

-- why a log is not accepted
abbrev pub check_text : CheckFault → List ℕ
check_text (check.WrongCount said actual) = codes "count " ++ decimal said ++ codes " " ++ decimal actual
check_text (check.Illegal line reason) = codes "line " ++ decimal line ++ codes " " ++ reason_text reason
check_text (check.EndRange end) = codes "end " ++ decimal end
check_text (check.EndNotWhole end buffer) = codes "end " ++ decimal end ++ codes " bound " ++ decimal buffer
