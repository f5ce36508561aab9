-- From what reading a trace comes to, to what the course comes to.
use Rattle.std.proofs.Common.{◌≡◌, ◌≤◌, inl, inr, ℕ, List, [], ◌∷◌, length, Result, Ok, Err, IfOk, refl, sym, subst}
use Rattle.dsa_model.specs.declared.fail.NoMemory.{NoMemory}
use Rattle.dsa_model.specs.Limits.{file_limit}
use Rattle.dsa_outside.specs.Seen.{FilesSeen}
use Rattle.trace_import.specs.Faults.{trace_of}
use Rattle.trace_import.specs.ImportText.{import_text}
use Rattle.trace_import.specs.Traces.{Trace, imported}
use Rattle.trace_import.specs.declared.fault.TraceFault.{TraceFault}
use Rattle.trace_import.proofs.Accepted.{accepted_parses, imported_count}
use Rattle.trace_import.proofs.Imported.{imported_traced}
use Rattle.command_words.specs.Options.{Word}
use Rattle.command_words.specs.declared.role.Role.TheVariants as role
use Rattle.run_status.specs.Spoken.{IsSpoken}
use Rattle.run_status.specs.declared.status.Status.{Status}
use Rattle.run_status.specs.declared.status.Status.TheVariants.{Imported}
use Rattle.run_course.specs.Readings.{IsWholeFile}
use Rattle.run_course.specs.Course.{Comes, IsUnreadable, Outcome, says, writes}
use Rattle.run_course.specs.Prepares.{outcome_of}
use Rattle.run_course.specs.declared.prepared.Prepared.{Prepared}
use Rattle.importing.specs.Importing.{Imports, IsImported, import_course}

-- the trace of bytes that have no fault is imported
pub is_imported : (bytes : List ℕ) (trace : Trace) → length bytes ≤ file_limit → trace_of bytes ≡ Ok trace →
    IsImported trace
is_imported bytes trace short read = record {
  parsed = accepted_parses bytes trace short read;
  each = imported_count trace;
  traced = imported_traced trace;
}

-- this text is written to the output, and the number of buffers is told
abbrev pub imported_file : Word → ℕ → List ℕ → Outcome
imported_file output count text =
    writes (record { role = role.Output; name = output; bytes = text } ∷ []) (Imported count)

-- the bytes have no fault, and the text of their trace's instance is prepared
pub imports_accepted : (output : Word) (bytes : List ℕ) (trace : Trace) (count : ℕ) (text : List ℕ)
    (r : Result Prepared NoMemory) → length bytes ≤ file_limit → trace_of bytes ≡ Ok trace →
    count ≡ length (imported trace) → text ≡ import_text trace →
    IfOk r (λ p. outcome_of p ≡ imported_file output count text) →
    IfOk r (λ p. Imports output (trace_of bytes) (outcome_of p))
imports_accepted output bytes trace count text (Ok p) short read its_count its_text is =
    subst (λ t. Imports output t (outcome_of p)) (sym read)
    (is_imported bytes trace short read, rw (its_count, its_text) at is)
imports_accepted output bytes trace count text (Err e) short read its_count its_text is = is

imports_spoken : (output : Word) (r : Result Trace TraceFault) (o : Outcome) → Imports output r o → IsSpoken o.status
imports_spoken output (Ok trace) o is = subst (λ (p : Outcome). IsSpoken p.status) (sym is.1) tt
imports_spoken output (Err fault) o is = subst (λ (p : Outcome). IsSpoken p.status) (sym is) tt

-- the trace is read whole
pub comes : (old new : FilesSeen) (trace output : Word) (bytes : List ℕ) (r : Result Prepared NoMemory) →
    IsWholeFile old role.Trace trace bytes → IfOk r (λ p. Imports output (trace_of bytes) (outcome_of p)) →
    IfOk r (λ p. Comes old new (import_course trace output) (outcome_of p))
comes old new trace output bytes (Ok p) whole is =
    inr (bytes, whole, (imports_spoken output (trace_of bytes) (outcome_of p) is, is))
comes old new trace output bytes (Err e) whole is = tt

-- the trace could not be read
pub missing : (old new : FilesSeen) (trace output : Word) (s : Status) →
    IsUnreadable old new role.Trace trace s → Comes old new (import_course trace output) (says s)
missing old new trace output s failed = inl (failed, refl)
