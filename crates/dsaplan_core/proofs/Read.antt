-- What the commands promise that judge a layout file or check a log's file.
use Rattle.std.proofs.Common.{◌≡◌, ◌^◌, List, Ok, refl, sym, subst, inl, inr}
use Rattle.command_words.specs.Options.{Word}
use Rattle.command_words.specs.Pairs.{Pair, name_in, number_at}
use Rattle.command_words.specs.Requests.{Request, request_of}
use Rattle.command_words.specs.declared.option.OptionName.TheVariants as option
use Rattle.command_words.specs.declared.verb.Verb.{Verb}
use Rattle.command_words.specs.declared.verb.Verb.TheVariants as verb
use Rattle.command_words.specs.declared.role.Role.TheVariants as role
use Rattle.readings.specs.Judging.{judged}
use Rattle.readings.specs.Checking.{checked}
use Rattle.judging.specs.Judging.{ShowsLayout, TellsRight}
use Rattle.judging.specs.Drawing.{Draws}
use Rattle.checking.specs.Checking.{Trims, Upgrades}
use Rattle.dsa_outside.specs.Seen.{FilesSeen}
use Rattle.run_status.specs.declared.status.Status.TheVariants as status
use Rattle.run_course.specs.Course.{Comes, Concludes, Outcome, says}
use Rattle.dsaplan_core.specs.Courses.{course_with}
use Rattle.dsaplan_core.proofs.Promises.{Promises, asked}
use Rattle.dsaplan_core.proofs.Refusals.{checked_promises, judged_promises, opened_promises}

module _ (words : List Word) (old new : FilesSeen) where
  module _ (pairs : List Pair) where
    abbrev r : Verb → Request
    r v = record { verb = v; pairs = pairs }

    pub verify_promises : request_of words ≡ Ok (r verb.Verify) → (o : Outcome) →
        Comes old new (course_with verb.Verify pairs) o → Promises words old new (r verb.Verify) o
    verify_promises is =
        let layout = name_in pairs role.Layout in
        let capacity = number_at pairs option.Capacity in
        opened_promises words old new (r verb.Verify) is (inr (inl refl))
        (λ table I. judged layout table I capacity (λ offsets. Concludes (TellsRight I capacity offsets)))
        (λ table I input. judged_promises words old new (r verb.Verify) is (inr (inl refl)) table I capacity
        (λ offsets. Concludes (TellsRight I capacity offsets)) input refl
        (λ offsets gives o comes. subst (Promises words old new (r verb.Verify)) (sym comes.1.told) (
          λ files.
              let a = asked words old (r verb.Verify) is table I input in
              ((a, refl, (offsets, gives), files), tt, refl, tt),
          tt,
        )))

    pub report_promises : request_of words ≡ Ok (r verb.Report) → (o : Outcome) →
        Comes old new (course_with verb.Report pairs) o → Promises words old new (r verb.Report) o
    report_promises is =
        let layout = name_in pairs role.Layout in
        opened_promises words old new (r verb.Report) is (inl refl)
        (λ table I. judged layout table I (2 ^ 60) (λ offsets. Concludes (ShowsLayout table I offsets)))
        (λ table I input. judged_promises words old new (r verb.Report) is (inr (inl refl)) table I (2 ^ 60)
        (λ offsets. Concludes (ShowsLayout table I offsets)) input refl
        (λ offsets gives o comes. subst (Promises words old new (r verb.Report)) (sym comes.1.shown) (
          λ files.
              let a = asked words old (r verb.Report) is table I input in (
                tt,
                tt,
                (
                  files,
                  inr (inl (
                    a,
                    record {
                      command = refl;
                      offsets = offsets;
                      given = gives;
                      its_text = comes.1.its_text;
                    },
                  )),
                ),
                tt,
              ),
          tt,
        )))

    pub draw_promises : request_of words ≡ Ok (r verb.Draw) → (o : Outcome) →
        Comes old new (course_with verb.Draw pairs) o → Promises words old new (r verb.Draw) o
    draw_promises is =
        let layout = name_in pairs role.Layout in
        let output = name_in pairs role.Output in
        opened_promises words old new (r verb.Draw) is (inl refl)
        (λ table I. judged layout table I (2 ^ 60) (λ offsets. Concludes (Draws output table I offsets)))
        (λ table I input. judged_promises words old new (r verb.Draw) is (inr (inl refl)) table I (2 ^ 60)
        (λ offsets. Concludes (Draws output table I offsets)) input refl
        (λ offsets gives o comes. subst (Promises words old new (r verb.Draw)) (sym comes.1.drawn) (
          λ files.
              let a = asked words old (r verb.Draw) is table I input in (
                (
                  a,
                  refl,
                  record {
                    offsets = offsets;
                    given = gives;
                    its_count = refl;
                    files = files;
                  },
                ),
                tt,
                refl,
                tt,
              ),
          ((inl refl, refl), tt),
        )))

    pub refute_promises : request_of words ≡ Ok (r verb.Refute) → (o : Outcome) →
        Comes old new (course_with verb.Refute pairs) o → Promises words old new (r verb.Refute) o
    refute_promises is =
        let name = name_in pairs role.Log in
        opened_promises words old new (r verb.Refute) is (inl refl)
        (λ table I. checked name I (λ log o. o ≡ says (status.Accepted log.capacity)))
        (λ table I input. checked_promises words old new (r verb.Refute) is (inr (inl refl)) table I
        (λ log o. o ≡ says (status.Accepted log.capacity)) input (inr (inl refl))
        (λ log holds o told. subst (Promises words old new (r verb.Refute)) (sym told) (
          λ files.
              let a = asked words old (r verb.Refute) is table I input in
              ((a, refl, (log, holds, refl), files), tt, refl, tt),
          tt,
        )))

    pub trim_promises : request_of words ≡ Ok (r verb.Trim) → (o : Outcome) →
        Comes old new (course_with verb.Trim pairs) o → Promises words old new (r verb.Trim) o
    trim_promises is =
        let name = name_in pairs role.Log in
        let output = name_in pairs role.Output in
        opened_promises words old new (r verb.Trim) is (inl refl)
        (λ table I. checked name I (Trims output I))
        (λ table I input. checked_promises words old new (r verb.Trim) is (inr (inl refl)) table I
        (Trims output I) input (inr (inl refl))
        (λ log holds o done. subst (Promises words old new (r verb.Trim)) (sym done.outcome) (
          λ files.
              let a = asked words old (r verb.Trim) is table I input in (
                (
                  a,
                  refl,
                  (
                    log,
                    holds,
                    refl,
                    record {
                      trim = done.trim;
                      is_trim = done.is_trim;
                      count = refl;
                      accepted = done.accepted;
                      readable = done.readable;
                      files = files;
                    },
                  ),
                ),
                tt,
                refl,
                tt,
              ),
          ((inl refl, refl), tt),
        )))

    pub upgrade_promises : request_of words ≡ Ok (r verb.Upgrade) → (o : Outcome) →
        Comes old new (course_with verb.Upgrade pairs) o → Promises words old new (r verb.Upgrade) o
    upgrade_promises is =
        let name = name_in pairs role.Log in
        let output = name_in pairs role.Output in
        opened_promises words old new (r verb.Upgrade) is (inl refl)
        (λ table I. checked name I (Upgrades output))
        (λ table I input. checked_promises words old new (r verb.Upgrade) is (inr (inl refl)) table I
        (Upgrades output) input (inr (inl refl))
        (λ log holds o told. subst (Promises words old new (r verb.Upgrade)) (sym told.outcome) (
          λ files.
              let a = asked words old (r verb.Upgrade) is table I input in (
                (
                  a,
                  refl,
                  (
                    log,
                    holds,
                    refl,
                    record { readable = told.readable; files = files },
                  ),
                ),
                tt,
                refl,
                tt,
              ),
          ((inl refl, refl), tt),
        )))
