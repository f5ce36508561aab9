-- The texts of faults of a log's text, as they are printed.
use Rattle.std.specs.Prelude.{ℕ, List, ◌++◌, codes, decimal}
use Rattle.log_text.specs.declared.fault.TextFault.{TextFault}
use Rattle.log_text.specs.declared.fault.TextFault.TheVariants as text

-- what is wrong with a log's text
abbrev pub text_fault_text : TextFault → List ℕ
text_fault_text text.NotLog = codes "not a log"
text_fault_text (text.BadVersion version) = codes "version " ++ decimal version
text_fault_text (text.BadLine line) = codes "bad line " ++ decimal line
text_fault_text (text.NumberTooLarge line) = codes "number too large " ++ decimal line
text_fault_text (text.NotRising line) = codes "not rising " ++ decimal line
text_fault_text (text.BadBase line) = codes "bad base " ++ decimal line
text_fault_text (text.BadChange line) = codes "bad change " ++ decimal line
text_fault_text text.NoEnd = codes "no end"
text_fault_text text.AfterEnd = codes "after end"
