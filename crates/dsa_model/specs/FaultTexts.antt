-- The texts of faults of buffers and of offsets, as they are printed.
use Rattle.std.specs.Prelude.{ℕ, List, ◌++◌, codes, decimal}
use Rattle.dsa_model.specs.declared.buffer_fault.BufferFault.{BufferFault}
use Rattle.dsa_model.specs.declared.buffer_fault.BufferFault.TheVariants as buffer
use Rattle.dsa_model.specs.declared.layout.LayoutFault.{LayoutFault}
use Rattle.dsa_model.specs.declared.layout.LayoutFault.TheVariants as layout

-- what is wrong with a buffer
abbrev pub buffer_text : BufferFault → List ℕ
buffer_text buffer.EmptyLifetime = codes "empty lifetime"
buffer_text buffer.ZeroSize = codes "zero size"
buffer_text buffer.TooLarge = codes "too large"
buffer_text buffer.ZeroAlignment = codes "zero alignment"
buffer_text buffer.AlignmentTooLarge = codes "alignment too large"
buffer_text (buffer.GapEmpty gap) = codes "gap " ++ decimal gap ++ codes " empty"
buffer_text (buffer.GapOutside gap) = codes "gap " ++ decimal gap ++ codes " outside"
buffer_text buffer.TooManyGaps = codes "too many gaps"
buffer_text buffer.NeverLive = codes "never live"
buffer_text buffer.LowestTooLarge = codes "lowest too large"

-- what is wrong with offsets
abbrev pub layout_fault_text : LayoutFault → List ℕ
layout_fault_text layout.WrongCount = codes "count"
layout_fault_text (layout.Unaligned buffer) = codes "unaligned " ++ decimal buffer
layout_fault_text (layout.TooLow buffer) = codes "too low " ++ decimal buffer
layout_fault_text (layout.Above buffer) = codes "above " ++ decimal buffer
layout_fault_text (layout.Overlap first second moment) =
    codes "overlap " ++ decimal first ++ codes " " ++ decimal second ++ codes " " ++ decimal moment
