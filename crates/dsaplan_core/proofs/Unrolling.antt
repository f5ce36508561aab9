-- What `unroll` promises.
use Rattle.std.proofs.Common.{◌≡◌, ℕ, List, Result, Ok, Err, refl, sym, subst, inl, inr}
use Rattle.dsa_terms.specs.Buffers.{Instance}
use Rattle.dsa_outside.specs.Seen.{FilesSeen}
use Rattle.csv_instance.specs.Records.{table_of}
use Rattle.cyclic_plan.specs.Unrolled.{unrolled_of}
use Rattle.cyclic_plan.specs.declared.fault.CycleFault.{CycleFault}
use Rattle.command_words.specs.Options.{Word}
use Rattle.command_words.specs.Pairs.{Pair, name_in, number_at}
use Rattle.command_words.specs.Requests.{Request, request_of}
use Rattle.command_words.specs.declared.option.OptionName.TheVariants as option
use Rattle.command_words.specs.declared.verb.Verb.TheVariants as verb
use Rattle.command_words.specs.declared.role.Role.TheVariants as role
use Rattle.run_course.specs.Readings.{IsWholeFile}
use Rattle.run_course.specs.Course.{Comes, Outcome}
use Rattle.importing.specs.Unrolling.{Unrolls}
use Rattle.dsaplan_core.specs.Courses.{course_with}
use Rattle.dsaplan_core.specs.Derived.{AskedOf}
use Rattle.dsaplan_core.proofs.Gives as gives
use Rattle.dsaplan_core.proofs.Promises.{Promises}
use Rattle.dsaplan_core.proofs.Refusals.{unreadable}

module _ (words : List Word) (old new : FilesSeen) (pairs : List Pair)
    (is : request_of words ≡ Ok (record { verb = verb.Unroll; pairs = pairs })) where
  abbrev request : Request
  request = record { verb = verb.Unroll; pairs = pairs }

  abbrev asked_of : (bytes : List ℕ) → IsWholeFile old role.Input (name_in pairs role.Input) bytes →
      AskedOf words old verb.Unroll role.Input
  asked_of bytes whole = record { pairs = pairs; bytes = bytes; words_ask = is; whole = whole }

  unrolled : (bytes : List ℕ) → IsWholeFile old role.Input (name_in pairs role.Input) bytes →
      (r : Result Instance CycleFault) → unrolled_of (number_at pairs option.Period) (table_of bytes) ≡ r →
      (o : Outcome) → Unrolls (number_at pairs option.Period) (name_in pairs role.Output) (table_of bytes) r o →
      Promises words old new request o
  unrolled bytes whole (Ok I) read o told = subst (Promises words old new request) (sym told.1) (
    λ files. (
      (
        asked_of bytes whole,
        record { instance = I; given = read; its_count = refl; unrolled = told.0; files = files },
      ),
      tt,
      refl,
      tt,
    ),
    ((inl refl, refl), tt),
  )
  unrolled bytes whole (Err fault) refused o told = subst (Promises words old new request) (sym told) (
    λ files. ((asked_of bytes whole, refused, files), tt, refl, tt),
    tt,
  )

  pub unroll_promises : (o : Outcome) → Comes old new (course_with verb.Unroll pairs) o →
      Promises words old new request o
  unroll_promises o (inl failed) = gives.unreadable old new (Promises words old new request) role.Input
      (name_in pairs role.Input)
      (unreadable words old new request is role.Input (inl refl)) o failed.0 failed.1
  unroll_promises o (inr (bytes, whole, comes)) =
      unrolled bytes whole (unrolled_of (number_at pairs option.Period) (table_of bytes)) refl o comes.1
