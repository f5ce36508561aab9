-- What `import` promises.
use Rattle.std.proofs.Common.{◌≡◌, ℕ, List, Result, Ok, Err, refl, sym, subst, inl, inr}
use Rattle.dsa_outside.specs.Seen.{FilesSeen}
use Rattle.trace_import.specs.Faults.{trace_of}
use Rattle.trace_import.specs.Traces.{Trace}
use Rattle.trace_import.specs.declared.fault.TraceFault.{TraceFault}
use Rattle.command_words.specs.Options.{Word}
use Rattle.command_words.specs.Pairs.{Pair, name_in}
use Rattle.command_words.specs.Requests.{Request, request_of}
use Rattle.command_words.specs.declared.verb.Verb.TheVariants as verb
use Rattle.command_words.specs.declared.role.Role.TheVariants as role
use Rattle.run_course.specs.Readings.{IsWholeFile}
use Rattle.run_course.specs.Course.{Comes, Outcome}
use Rattle.importing.specs.Importing.{Imports}
use Rattle.dsaplan_core.specs.Courses.{course_with}
use Rattle.dsaplan_core.specs.Derived.{AskedOf}
use Rattle.dsaplan_core.proofs.Gives as gives
use Rattle.dsaplan_core.proofs.Promises.{Promises}
use Rattle.dsaplan_core.proofs.Refusals.{unreadable}

module _ (words : List Word) (old new : FilesSeen) (pairs : List Pair)
    (is : request_of words ≡ Ok (record { verb = verb.Import; pairs = pairs })) where
  abbrev request : Request
  request = record { verb = verb.Import; pairs = pairs }

  abbrev asked_of : (bytes : List ℕ) → IsWholeFile old role.Trace (name_in pairs role.Trace) bytes →
      AskedOf words old verb.Import role.Trace
  asked_of bytes whole = record { pairs = pairs; bytes = bytes; words_ask = is; whole = whole }

  imported : (bytes : List ℕ) → IsWholeFile old role.Trace (name_in pairs role.Trace) bytes →
      (r : Result Trace TraceFault) → trace_of bytes ≡ r → (o : Outcome) → Imports (name_in pairs role.Output) r o →
      Promises words old new request o
  imported bytes whole (Ok trace) read o told = subst (Promises words old new request) (sym told.1) (
    λ files. (
      (
        asked_of bytes whole,
        record {
          trace = trace;
          read = read;
          its_count = refl;
          each = told.0.each;
          parsed = told.0.parsed;
          traced = told.0.traced;
          files = files;
        },
      ),
      tt,
      refl,
      tt,
    ),
    ((inl refl, refl), tt),
  )
  imported bytes whole (Err fault) refused o told = subst (Promises words old new request) (sym told) (
    λ files. ((asked_of bytes whole, refused, files), tt, refl, tt),
    tt,
  )

  pub import_promises : (o : Outcome) → Comes old new (course_with verb.Import pairs) o →
      Promises words old new request o
  import_promises o (inl failed) = gives.unreadable old new (Promises words old new request) role.Trace
      (name_in pairs role.Trace)
      (unreadable words old new request is role.Trace (inl refl)) o failed.0 failed.1
  import_promises o (inr (bytes, whole, comes)) =
      imported bytes whole (trace_of bytes) refl o comes.1
