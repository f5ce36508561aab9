-- What traces come to on small texts.
use Rattle.std.proofs.Common.{◌≡◌, [], ◌∷◌, codes, replicate, Some, None, Ok, Err, refl, true, false}
use Rattle.std.specs.Fmt.{digits}
use Rattle.csv.specs.Machine.{next_record}
use Rattle.csv.specs.Reading.{records_from, strip_bom}
use Rattle.csv.specs.Writing.{fields_text, is_blank}
use Rattle.dsa_model.specs.Buffer.{is_ever_live}
use Rattle.dsa_model.specs.declared.buffer_fault.BufferFault.TheVariants as buffer_fault
use Rattle.csv_instance.specs.declared.fault.InstanceFault.TheVariants as instance_fault
use Rattle.csv_instance.specs.Parse.{parse}
use Rattle.csv_instance.specs.Records.{table_of}
use Rattle.dsa_terms.specs.Buffers.{is_live, buffer, do_share, some_before, have_same_moments, floor}
use Rattle.dsa_terms.specs.Claims.{up, step, child}
use Rattle.dsa_terms.specs.Logs.{ends_below, is_twin}
use Rattle.dsa_terms.specs.Search.{is_tall, comes_before, first}
use Rattle.dsa_terms.specs.Parts.{is_cut, part_of, parts, searched, is_leader, are_parted, are_uncut}
use Rattle.dsa_terms.specs.Plans.{layout_height, plan}
use Rattle.dsa_terms.specs.Fits.{top, highest, neighbours, is_free, first_place, stretches, free_ranges, holds, is_tighter, best_place, first_fit, best_fit, least_from, is_clear}
use Rattle.dsa_terms.specs.Orders.{falls_by, rises_by, orders}
use Rattle.dsa_terms.specs.Starts.{starts, planned}
use Rattle.dsa_terms.proofs.Examples.{plain}
use Rattle.trace_import.specs.FaultTexts.{trace_fault_text}
use Rattle.trace_import.specs.Found.{ends_from}
use Rattle.trace_import.specs.Lines.{event_in, is_id}
use Rattle.trace_import.specs.Traces.{Alloc, Free, Trace, imported}
use Rattle.trace_import.specs.Faults.{holder, place_fault, trace_of}
use Rattle.trace_import.specs.ImportText.{import_text}
use Rattle.trace_import.specs.declared.fault.TraceFault.TheVariants as fault

-- an identifier that is freed and allocated again, beside one that is never freed
abbrev pub twice : Trace
twice =
    Alloc (codes "a") 4 1 ∷ Alloc (codes "b") 8 4 ∷ Free (codes "a") ∷ Alloc (codes "a") 2 1 ∷ []

-- ---- texts
text_of_twice : trace_of (codes "alloc a 4 1\nalloc b 8 4\nfree a\nalloc a 2 1\n") ≡ Ok twice
unfolding trace_of holder
text_of_twice = refl

no_lines : trace_of [] ≡ Ok []
unfolding trace_of holder
no_lines = refl

free_of_none : trace_of (codes "free b\n") ≡ Err (fault.NotLive 0)
unfolding trace_of holder
free_of_none = refl

pub freed_twice : trace_of (codes "alloc a 4 1\nfree a\nfree a\n") ≡ Err (fault.NotLive 2)
unfolding trace_of holder
freed_twice = refl

pub allocated_twice : trace_of (codes "alloc a 4 1\nalloc b 8 4\nalloc a 2 1\n") ≡ Err (fault.StillLive 2 0)
unfolding trace_of holder
allocated_twice = refl

-- the second of two allocations of an identifier that was freed between them holds it
held_by_the_later : trace_of (codes "alloc a 4 1\nfree a\nalloc a 2 1\nalloc a 3 1\n") ≡ Err (fault.StillLive 3 2)
unfolding trace_of holder
held_by_the_later = refl

-- a line that does not end, an empty line, two spaces, 21 digits
unended : trace_of (codes "alloc a 4 1\nfree a") ≡ Err (fault.BadLine 1)
unfolding trace_of holder
unended = refl

empty_line : trace_of (codes "\n") ≡ Err (fault.BadLine 0)
unfolding trace_of holder
empty_line = refl

two_spaces : trace_of (codes "free  a\n") ≡ Err (fault.BadLine 0)
unfolding trace_of holder
two_spaces = refl

many_digits : trace_of (codes "alloc a 000000000000000000001 1\n") ≡ Err (fault.BadLine 0)
unfolding trace_of holder
many_digits = refl

-- twenty digits are a size of the form, however great
great_size : trace_of (codes "alloc a 99999999999999999999 1\n") ≡ Err (fault.BadSize 0)
unfolding trace_of holder
great_size = refl

zero_size : trace_of (codes "alloc a 0 0\n") ≡ Err (fault.BadSize 0)
unfolding trace_of holder
zero_size = refl

great_alignment : trace_of (codes "alloc a 1099511627776 4294967297\n") ≡ Err (fault.BadAlignment 0)
unfolding trace_of holder
great_alignment = refl

zero_alignment : trace_of (codes "alloc a 1 0\n") ≡ Err (fault.BadAlignment 0)
unfolding trace_of holder
zero_alignment = refl

-- with several faults a line has the first, and a trace that of its first line that has one
size_before_alignment : trace_of (codes "alloc a 0 0\nfree b\n") ≡ Err (fault.BadSize 0)
unfolding trace_of holder
size_before_alignment = refl

numbers_before_held : trace_of (codes "alloc a 4 1\nalloc a 4 0\n") ≡ Err (fault.BadAlignment 1)
unfolding trace_of holder
numbers_before_held = refl

-- lines that free are no buffers, of which there may be 4096
freed_are_no_buffers : place_fault (replicate 4096 (Free (codes "b"))) (Alloc (codes "a") 4 1) ≡ None
unfolding holder
freed_are_no_buffers = refl

-- ---- lines
event_of_alloc : event_in (codes "alloc a 007 1") ≡ Some (Alloc (codes "a") 7 1)
event_of_alloc = refl

event_of_free : event_in (codes "free a,b") ≡ Some (Free (codes "a,b"))
event_of_free = refl

no_such_word : event_in (codes "Free a") ≡ None
no_such_word = refl

-- a space at the end is a fourth word, or a third
space_at_the_end : event_in (codes "free a ") ≡ None
space_at_the_end = refl

-- an identifier has bytes of 33 to 126
not_ids : (is_id [] ≡ false) × (is_id (127 ∷ []) ≡ false) × (is_id (codes "a\"~!") ≡ true)
not_ids = (refl, refl, refl)

-- ---- what is held
holders : (holder twice (codes "a") ≡ Some 3) × (holder twice (codes "b") ≡ Some 1) × (holder twice (codes "c") ≡ None)
unfolding holder
holders = (refl, refl, refl)

ends_of_twice : ends_from 0 twice ≡ 2 ∷ 4 ∷ 4 ∷ 4 ∷ []
ends_of_twice = refl

-- ---- texts of faults
fault_texts : (trace_fault_text (fault.BadLine 7) ≡ codes "bad line 7")
    × (trace_fault_text (fault.BadSize 0) ≡ codes "bad size 0")
    × (trace_fault_text (fault.BadAlignment 12) ≡ codes "bad alignment 12")
    × (trace_fault_text (fault.StillLive 3 1) ≡ codes "still live 3 1")
    × (trace_fault_text (fault.NotLive 0) ≡ codes "not live 0")
    × (trace_fault_text (fault.TooManyBuffers 4096) ≡ codes "too many buffers 4096")
unfolding digits
fault_texts = (refl, refl, refl, refl, refl, refl)

-- ---- the instance: nothing is live at the line that frees it
imported_twice : imported twice ≡ plain 0 2 4 1 ∷ plain 1 4 8 4 ∷ plain 3 4 2 1 ∷ []
unfolding imported
imported_twice = refl

text_of_imported : import_text twice
    ≡ codes "id,lower,upper,size,alignment,name\na0,0,2,4,1,a\na1,1,4,8,4,b\na3,3,4,2,1,a\n"
unfolding import_text fields_text is_blank digits
text_of_imported = refl

text_of_no_lines : import_text [] ≡ codes "id,lower,upper,size,alignment,name\n"
unfolding import_text fields_text is_blank digits
text_of_no_lines = refl

-- its text parses as the instance
parses : parse (table_of (import_text twice)) ≡ Ok (imported twice)
unfolding import_text imported fields_text is_blank digits records_from strip_bom next_record is_ever_live some_before
    is_live
parses = refl

-- that of a size of 0 does not
pub size_0_does_not : parse (table_of (import_text (Alloc (codes "a") 0 1 ∷ [])))
    ≡ Err (instance_fault.BadBuffer 0 buffer_fault.ZeroSize)
unfolding import_text fields_text is_blank digits records_from strip_bom next_record is_ever_live some_before is_live
size_0_does_not = refl

twice_at_11 : planned (imported twice) 11 ≡ None
unfolding imported planned plan layout_height starts orders falls_by rises_by first_fit best_fit neighbours
    first_place floor is_clear best_place free_ranges stretches holds least_from is_tighter is_free highest top
    do_share some_before is_live buffer searched parts part_of is_leader are_uncut are_parted is_cut first is_tall
    comes_before ends_below is_twin child up step have_same_moments
twice_at_11 = refl

twice_at_12 : planned (imported twice) 12 ≡ Some (8 ∷ 0 ∷ 8 ∷ [])
unfolding imported planned plan layout_height starts orders falls_by rises_by first_fit best_fit neighbours
    first_place floor is_clear best_place free_ranges stretches holds least_from is_tighter is_free highest top
    do_share some_before is_live buffer searched parts part_of is_leader are_uncut are_parted is_cut first is_tall
    comes_before ends_below is_twin child up step have_same_moments
twice_at_12 = refl
