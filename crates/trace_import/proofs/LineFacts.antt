-- Worked facts of lines by themselves: their words, their numbers, their rows and their faults.
use Rattle.std.proofs.Common.{◌≡◌, ℕ, List, [], ◌∷◌, codes, Some, None, refl, true, false}
use Rattle.std.specs.Borrow.{Bor}
use Rattle.std.specs.Fmt.{digits}
use Rattle.trace_import.specs.Faults.{event_fault, holder, holder_from, pieces_of}
use Rattle.trace_import.specs.ImportText.{import_row}
use Rattle.trace_import.specs.Lines.{alloc_of, event_of, is_id_byte, words_of}
use Rattle.trace_import.specs.Requests.{AreAllocWords, AreFreeWords, AreWords, IsRead, event_value, within_range}
use Rattle.trace_import.specs.Traces.{Alloc, Free, imported_from, is_alloc}
use Rattle.trace_import.specs.declared.fault.TraceFault.TheVariants as fault
use Rattle.trace_import.specs.declared.request.Request.TheVariants as request
use Rattle.trace_import.specs.declared.request.Words.TheVariants as written
use Rattle.dsa_terms.proofs.Examples.{plain}
use Rattle.trace_import.proofs.ExampleFacts.{twice}

-- ---- bytes
-- an identifier has no space, and no byte above that of ~
space_and_the_next : (is_id_byte 32 ≡ false) × (is_id_byte 33 ≡ true)
space_and_the_next = (refl, refl)

tilde_and_the_next : (is_id_byte 126 ≡ true) × (is_id_byte 127 ≡ false)
tilde_and_the_next = (refl, refl)

-- what follows the last NL is a piece too
two_ended_lines : pieces_of (codes "free a\nfree b\n") ≡ codes "free a" ∷ codes "free b" ∷ [] ∷ []
two_ended_lines = refl

-- ---- words
words_of_free : event_of (codes "free" ∷ codes "a" ∷ []) ≡ Some (Free (codes "a"))
words_of_free = refl

-- without an alignment
a_word_is_missing : event_of (codes "alloc" ∷ codes "a" ∷ codes "4" ∷ []) ≡ None
a_word_is_missing = refl

eight_at_fours : alloc_of (codes "a") (codes "8") (codes "04") ≡ Some (Alloc (codes "a") 8 4)
eight_at_fours = refl

no_identifier : alloc_of [] (codes "8") (codes "4") ≡ None
no_identifier = refl

no_size : alloc_of (codes "a") (codes "x") (codes "4") ≡ None
no_size = refl

-- the words after the first, as they stand
abbrev padded : List (List ℕ)
padded = words_of (codes "alloc a 007 1")

an_allocation : AreAllocWords padded (codes "a") (codes "007") (codes "1")
an_allocation = record { writes = refl; identifies = refl; sized = refl; aligned = refl }

not_in_that_order : AreAllocWords padded (codes "a") (codes "1") (codes "007") → ⊥
not_in_that_order h = cc h.writes

a_free : AreFreeWords (words_of (codes "free a,b")) (codes "a,b")
a_free = record { writes = refl; identifies = refl }

not_the_first_part : AreFreeWords (words_of (codes "free a,b")) (codes "a") → ⊥
not_the_first_part h = cc h.writes

-- ---- numbers
the_greatest : within_range 8 8 ≡ Some 8
the_greatest = refl

one_more : within_range 8 9 ≡ None
one_more = refl

zero_is_outside : within_range 8 0 ≡ None
zero_is_outside = refl

-- ---- lines that are read
its_line : IsRead (codes "alloc a 8 4") 7 (Alloc (codes "a") 8 4)
its_line = record { writes = refl; good = refl; identifies = refl }

not_of_no_size : IsRead (codes "alloc a 0 4") 7 (Alloc (codes "a") 0 4) → ⊥
not_of_no_size h = let e = h.good in absurd cc

not_another_line : IsRead (codes "alloc a 8 4") 7 (Free (codes "a")) → ⊥
not_another_line h = let e = h.writes in absurd cc

module _ (id size alignment : Bor (List ℕ)) (a : id.now ≡ codes "a") where
  words_that_allocate : size.now ≡ codes "007" → alignment.now ≡ codes "1" →
      AreWords padded (written.Alloc id size alignment)
  words_that_allocate s t = rw (a, s, t) an_allocation

  not_words_that_free : AreWords padded (written.Free id) → ⊥
  not_words_that_free h = let e = h.writes in absurd cc

  it_allocates : event_value (request.Alloc id 7 1) ≡ Alloc (codes "a") 7 1
  it_allocates = rw a refl

  it_frees : event_value (request.Free id) ≡ Free (codes "a")
  it_frees = rw a refl

-- ---- what the lines are
first_allocates : is_alloc (Alloc (codes "a") 8 4) ≡ true
first_allocates = refl

freeing_does_not : is_alloc (Free (codes "a")) ≡ false
freeing_does_not = refl

-- the lines have the numbers 5 to 8: a is freed at 7 and allocated again at 8
counted_from_5 : holder_from 5 (codes "a") twice ≡ Some 8
counted_from_5 = refl

-- b stays to the end, before line 7
buffers_from_5 : imported_from 5 (Alloc (codes "a") 4 1 ∷ Alloc (codes "b") 8 4 ∷ Free (codes "a") ∷ [])
    ≡ plain 5 7 4 1 ∷ plain 6 8 8 4 ∷ []
buffers_from_5 = refl

row_of_line_3 : import_row 3 4 2 1 (codes "b,c")
    ≡ codes "a3" ∷ codes "3" ∷ codes "4" ∷ codes "2" ∷ codes "1" ∷ codes "b,c" ∷ []
unfolding digits
row_of_line_3 = refl

-- ---- faults
-- after those lines a and b are held
free_of_what_is_held : event_fault twice (Free (codes "b")) ≡ None
unfolding holder
free_of_what_is_held = refl

free_of_what_is_not : event_fault twice (Free (codes "c")) ≡ Some (fault.NotLive 4)
unfolding holder
free_of_what_is_not = refl

held_again : event_fault twice (Alloc (codes "b") 1 1) ≡ Some (fault.StillLive 4 1)
unfolding holder
held_again = refl
