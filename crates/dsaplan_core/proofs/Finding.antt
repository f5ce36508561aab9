-- What `least` promises.
use Rattle.std.proofs.Common.{◌≡◌, ◌-◌, ℕ, List, Option, Some, None, Ok, refl, sym, subst, inl, inr, arith}
use Rattle.dsa_terms.specs.Buffers.{Instance}
use Rattle.dsa_terms.specs.Logs.{Log}
use Rattle.dsa_outside.specs.Seen.{FilesSeen}
use Rattle.csv_instance.specs.Records.{Record}
use Rattle.command_words.specs.Options.{Word}
use Rattle.command_words.specs.Pairs.{Pair, name_in}
use Rattle.command_words.specs.Requests.{Request, request_of}
use Rattle.command_words.specs.declared.verb.Verb.TheVariants as verb
use Rattle.command_words.specs.declared.role.Role.TheVariants as role
use Rattle.run_status.specs.declared.status.Status.{Status}
use Rattle.run_status.specs.declared.status.Status.TheVariants as status
use Rattle.run_course.specs.Course.{Comes, Concludes, Outcome, writes}
use Rattle.readings.specs.Opens.{IsInput}
use Rattle.writings.specs.Answers.{AllReadBack, answer_files}
use Rattle.dsaplan_core.specs.Courses.{ConcludesWith, IsAnswer, course_with, names_in}
use Rattle.dsaplan_core.specs.Theorem.{Asked}
use Rattle.dsaplan_core.proofs.Promises.{Promises, asked}
use Rattle.dsaplan_core.proofs.Refusals.{opened_promises}
use Rattle.dsaplan_core.proofs.Holding.{first, lays_out, refutes, second, stays_open}
use Rattle.dsaplan_core.proofs.Requests.{least_apart}

module _ (words : List Word) (old new : FilesSeen) (pairs : List Pair)
    (is : request_of words ≡ Ok (record { verb = verb.Least; pairs = pairs })) where
  abbrev request : Request
  request = record { verb = verb.Least; pairs = pairs }

  module _ (table : List Record) (I : Instance) (input : IsInput old (name_in pairs role.Input) table I) where
    abbrev this : Asked words old
    this = asked words old request is table I input

    answered : (s : Status) (layout : Option (List ℕ)) (log : Option Log) →
        IsAnswer verb.Least pairs I s layout log → AllReadBack log →
        Promises words old new request (writes (answer_files (names_in pairs) table layout log) s)
    answered (status.Least C) (Some offsets) None answer readable = (
      λ files. (
        (
          this,
          tt,
          answer.is_least,
          lays_out this new C offsets answer.layout files,
          λ positive. absurd (let zero = answer.refuted in omega (arith, zero, positive)),
        ),
        (this, Some offsets, None, answer, files),
        refl,
        tt,
      ),
      ((inl refl, refl), tt),
    )
    answered (status.Least C) (Some offsets) (Some log) answer readable = (
      λ files.
          let apart = least_apart words pairs is in (
            (
              this,
              tt,
              answer.is_least,
              first this new offsets log apart files C answer.layout,
              λ positive.
                  refutes this new (C - 1) log answer.refuted.1 readable (second this new offsets log apart files),
            ),
            (this, Some offsets, Some log, answer, files),
            refl,
            tt,
          ),
      ((inl refl, refl), ((inr (inl refl), refl), tt)),
    )
    answered (status.Open low high) (Some offsets) (Some log) answer readable = (
      λ files.
          let apart = least_apart words pairs is in
          let left = stays_open this new offsets log apart files low high answer.stays_open readable in (
            (this, left.0, left.1, left.2, left.3),
            (this, Some offsets, Some log, answer, files),
            refl,
            tt,
          ),
      ((inl refl, refl), ((inr (inl refl), refl), tt)),
    )
    answered s layout log answer readable = absurd answer

    sought : (o : Outcome) → ConcludesWith verb.Least pairs table I o → Promises words old new request o
    sought o given = subst (Promises words old new request) (sym given.written)
        (answered given.status given.layout given.log given.answer given.readable)

  pub least_promises : (o : Outcome) → Comes old new (course_with verb.Least pairs) o →
      Promises words old new request o
  least_promises o comes = opened_promises words old new request is (inl refl)
      (λ table I. Concludes (ConcludesWith verb.Least pairs table I))
      (λ table I input o comes. sought table I input o comes.1) o comes
