-- What `classes` and `core` promise.
use Rattle.std.proofs.Common.{◌≡◌, List, Ok, refl, sym, subst, inl, inr}
use Rattle.dsa_terms.specs.Buffers.{Instance}
use Rattle.dsa_outside.specs.Seen.{FilesSeen}
use Rattle.csv_instance.specs.Records.{Record}
use Rattle.command_words.specs.Options.{Word}
use Rattle.command_words.specs.Pairs.{Pair, name_in}
use Rattle.command_words.specs.Requests.{Request, request_of}
use Rattle.command_words.specs.declared.verb.Verb.{Verb}
use Rattle.command_words.specs.declared.verb.Verb.TheVariants as verb
use Rattle.command_words.specs.declared.role.Role.TheVariants as role
use Rattle.run_course.specs.Course.{Comes, Concludes, Outcome}
use Rattle.readings.specs.Opens.{IsInput}
use Rattle.planning.specs.Planning.{Plans}
use Rattle.dsaplan_core.specs.Courses.{ConcludesWith, course_with}
use Rattle.dsaplan_core.proofs.Promises.{Promises, asked}
use Rattle.dsaplan_core.proofs.Refusals.{opened_promises}

module _ (words : List Word) (old new : FilesSeen) (pairs : List Pair) where
  abbrev r : Verb → Request
  r v = record { verb = v; pairs = pairs }

  plans : (is : request_of words ≡ Ok (r verb.Classes)) (table : List Record) (I : Instance) →
      IsInput old (name_in pairs role.Input) table I → (o : Outcome) → Plans (name_in pairs role.Output) table I o →
      Promises words old new (r verb.Classes) o
  plans is table I input o (inl (load, plan, written)) = subst (Promises words old new (r verb.Classes)) (sym written) (
    λ files. ((asked words old (r verb.Classes) is table I input, refl, plan, refl, files), tt, refl, tt),
    ((inl refl, refl), tt),
  )
  plans is table I input o (inr (b, rough, told)) = subst (Promises words old new (r verb.Classes)) (sym told) (
    λ files. ((asked words old (r verb.Classes) is table I input, refl, rough, files), tt, refl, tt),
    tt,
  )

  explains : (is : request_of words ≡ Ok (r verb.Core)) (table : List Record) (I : Instance) →
      IsInput old (name_in pairs role.Input) table I → (o : Outcome) → ConcludesWith verb.Core pairs table I o →
      Promises words old new (r verb.Core) o
  explains is table I input o (inl (members, log, core, written)) =
      subst (Promises words old new (r verb.Core)) (sym written) (
        λ files. (
          (asked words old (r verb.Core) is table I input, refl, (members, log, refl, core, files)),
          tt,
          refl,
          tt,
        ),
        ((inl refl, refl), ((inr (inl refl), refl), tt)),
      )
  explains is table I input o (inr (feasible, told)) = subst (Promises words old new (r verb.Core)) (sym told) (
    λ files. ((asked words old (r verb.Core) is table I input, refl, refl, feasible, files), tt, refl, tt),
    tt,
  )

  pub classes_promises : request_of words ≡ Ok (r verb.Classes) → (o : Outcome) →
      Comes old new (course_with verb.Classes pairs) o → Promises words old new (r verb.Classes) o
  classes_promises is = opened_promises words old new (r verb.Classes) is (inl refl)
      (λ table I. Concludes (Plans (name_in pairs role.Output) table I))
      (λ table I input o comes. plans is table I input o comes.1)

  pub core_promises : request_of words ≡ Ok (r verb.Core) → (o : Outcome) →
      Comes old new (course_with verb.Core pairs) o → Promises words old new (r verb.Core) o
  core_promises is = opened_promises words old new (r verb.Core) is (inr (inl refl))
      (λ table I. Concludes (ConcludesWith verb.Core pairs table I))
      (λ table I input o comes. explains is table I input o comes.1)
