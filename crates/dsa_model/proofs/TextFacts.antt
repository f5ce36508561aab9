-- What is printed of the faults of buffers and of offsets.
use Rattle.std.proofs.Common.{◌≡◌, codes, refl}
use Rattle.std.specs.Fmt.{digits}
use Rattle.dsa_model.specs.FaultTexts.{buffer_text, layout_fault_text}
use Rattle.dsa_model.specs.declared.buffer_fault.BufferFault.TheVariants as buffer
use Rattle.dsa_model.specs.declared.layout.LayoutFault.TheVariants as layout

zero_size : buffer_text buffer.ZeroSize ≡ codes "zero size"
zero_size = refl

lowest_too_large : buffer_text buffer.LowestTooLarge ≡ codes "lowest too large"
lowest_too_large = refl

gap_empty : buffer_text (buffer.GapEmpty 0) ≡ codes "gap 0 empty"
unfolding digits
gap_empty = refl

gap_outside : buffer_text (buffer.GapOutside 12) ≡ codes "gap 12 outside"
unfolding digits
gap_outside = refl

wrong_count : layout_fault_text layout.WrongCount ≡ codes "count"
wrong_count = refl

unaligned : layout_fault_text (layout.Unaligned 3) ≡ codes "unaligned 3"
unfolding digits
unaligned = refl

too_low : layout_fault_text (layout.TooLow 3) ≡ codes "too low 3"
unfolding digits
too_low = refl

above : layout_fault_text (layout.Above 3) ≡ codes "above 3"
unfolding digits
above = refl

overlap : layout_fault_text (layout.Overlap 0 1 4) ≡ codes "overlap 0 1 4"
unfolding digits
overlap = refl
