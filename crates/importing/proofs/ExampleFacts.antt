-- What importing a few lines comes to, and what a line comes to that frees what nobody holds.
use Rattle.std.proofs.Common.{◌≡◌, ◌∙◌, ℕ, List, [], ◌∷◌, Ok, codes, refl, sym, lit≤}
use Rattle.dsa_model.specs.Limits.{file_limit}
use Rattle.trace_import.specs.Faults.{holder, trace_of}
use Rattle.trace_import.specs.ImportText.{import_text}
use Rattle.trace_import.specs.Traces.{Alloc, Free, Trace, imported}
use Rattle.trace_import.specs.declared.fault.TraceFault.TheVariants as fault
use Rattle.trace_import.proofs.ExampleFacts.{size_0_does_not}
use Rattle.command_words.specs.Roles.{limit_of}
use Rattle.command_words.specs.declared.role.Role.TheVariants as role
use Rattle.run_status.specs.declared.status.Status.TheVariants.{TraceRefused}
use Rattle.run_course.specs.Course.{Outcome, says}
use Rattle.importing.specs.Importing.{Imports, IsImported}
use Rattle.importing.proofs.Importing.{imported_file, is_imported}

-- a trace may be as long as its reader takes
most_of_a_trace : limit_of role.Trace ≡ file_limit
most_of_a_trace = refl

abbrev lines : List ℕ
lines = codes "alloc a 4 1\nalloc b 8 4\nfree a\nalloc a 2 1\n"

abbrev twice : Trace
twice =
    Alloc (codes "a") 4 1 ∷ Alloc (codes "b") 8 4 ∷ Free (codes "a") ∷ Alloc (codes "a") 2 1 ∷ []

its_lines : trace_of lines ≡ Ok twice
unfolding trace_of holder
its_lines = refl

no_lines : trace_of [] ≡ Ok []
unfolding trace_of holder
no_lines = refl

-- its text is read as an instance of three buffers
twice_is_imported : IsImported twice
twice_is_imported = is_imported lines twice (lit≤ tt) its_lines

-- the text of a trace with a size of 0 is not read
size_0_is_not : IsImported (Alloc (codes "a") 0 1 ∷ []) → ⊥
size_0_is_not h = let e = sym size_0_does_not ∙ h.parsed in absurd cc

-- three buffers are written, one for each allocation
twice_is_written : Imports (codes "o") (Ok twice) (imported_file (codes "o") 3 (import_text twice))
unfolding imported
twice_is_written = (twice_is_imported, refl)

-- and nothing else may be
nothing_else : (o : Outcome) → Imports (codes "o") (Ok twice) o → o ≡ imported_file (codes "o") 3 (import_text twice)
unfolding imported
nothing_else o is = is.1

-- no lines are a trace without buffers
nothing_is_written : Imports (codes "o") (Ok []) (imported_file (codes "o") 0 (import_text []))
unfolding imported
nothing_is_written = (is_imported [] [] (lit≤ tt) no_lines, refl)

-- nobody holds what the first line frees: this is told, and nothing is written
free_of_none : (o : Outcome) → Imports (codes "o") (trace_of (codes "free b\n")) o →
    o ≡ says (TraceRefused (fault.NotLive 0))
unfolding trace_of holder
free_of_none o is = is
