-- What is printed of the faults of a log's text.
use Rattle.std.proofs.Common.{◌≡◌, codes, refl}
use Rattle.std.specs.Fmt.{digits}
use Rattle.log_text.specs.FaultTexts.{text_fault_text}
use Rattle.log_text.specs.declared.fault.TextFault.TheVariants as text

not_a_log : text_fault_text text.NotLog ≡ codes "not a log"
not_a_log = refl

version : text_fault_text (text.BadVersion 3) ≡ codes "version 3"
unfolding digits
version = refl

bad_line : text_fault_text (text.BadLine 4) ≡ codes "bad line 4"
unfolding digits
bad_line = refl

not_rising : text_fault_text (text.NotRising 4) ≡ codes "not rising 4"
unfolding digits
not_rising = refl

no_end : text_fault_text text.NoEnd ≡ codes "no end"
no_end = refl

bad_base : text_fault_text (text.BadBase 1) ≡ codes "bad base 1"
unfolding digits
bad_base = refl

bad_change : text_fault_text (text.BadChange 1) ≡ codes "bad change 1"
unfolding digits
bad_change = refl

too_large : text_fault_text (text.NumberTooLarge 12) ≡ codes "number too large 12"
unfolding digits
too_large = refl

after_end : text_fault_text text.AfterEnd ≡ codes "after end"
after_end = refl
