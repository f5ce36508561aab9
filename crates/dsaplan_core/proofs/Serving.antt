-- Where nothing outside fails, a command concludes from what its files hold, if they are readable.
use Rattle.std.proofs.Common.{◌≡◌, ◌^◌, ℕ, Bool, true, false, nat_lt, List, Option, Some, None, Result, Ok, Err, refl, subst, inl, inr}
use Rattle.dsa_terms.specs.Buffers.{Instance}
use Rattle.dsa_terms.specs.Claims.{IsIn}
use Rattle.dsa_terms.specs.Logs.{Log}
use Rattle.dsa_model.specs.Buffer.{buffer_limit}
use Rattle.dsa_model.specs.LayoutFaults.{layout_fault}
use Rattle.dsa_model.specs.declared.layout.LayoutFault.{LayoutFault}
use Rattle.dsa_outside.specs.Seen.{FilesSeen, SinkSeen}
use Rattle.csv_instance.specs.Records.{Record, table_of}
use Rattle.csv_instance.specs.Offsets.{ids_of, parsed_offsets}
use Rattle.csv_instance.specs.Parse.{parse}
use Rattle.csv_instance.specs.declared.fault.InstanceFault.{InstanceFault}
use Rattle.csv_instance.specs.declared.fault.OffsetsFault.{OffsetsFault}
use Rattle.command_words.specs.Options.{Word}
use Rattle.command_words.specs.Forms.{reads_of}
use Rattle.command_words.specs.Pairs.{Pair, name_in, number_at}
use Rattle.command_words.specs.Requests.{Request, request_of}
use Rattle.command_words.specs.declared.option.OptionName.TheVariants as option
use Rattle.command_words.specs.declared.verb.Verb.{Verb}
use Rattle.command_words.specs.declared.verb.Verb.TheVariants as verb
use Rattle.command_words.specs.declared.role.Role.{Role}
use Rattle.command_words.specs.declared.role.Role.TheVariants as role
use Rattle.command_words.proofs.FileLemmas.{read_named}
use Rattle.run_status.specs.declared.status.Status.{Status}
use Rattle.run_status.specs.declared.status.Status.TheVariants as status
use Rattle.run_course.specs.Course.{Comes, Concludes, Course, Outcome, says}
use Rattle.run_course.specs.Complete.{ConcludesOn, IsCalm}
use Rattle.run_course.specs.Answers.{Answers}
use Rattle.run_course.proofs.Concluding.{IsServed, concludes_on}
use Rattle.readings.specs.Input.{instance_or_fault, opened}
use Rattle.readings.specs.Judging.{judged, layout_or_fault, offsets_or_fault}
use Rattle.readings.specs.Checking.{checked}
use Rattle.judging.specs.Judging.{ShowsLayout, TellsRight}
use Rattle.judging.specs.Drawing.{Draws}
use Rattle.checking.specs.Checking.{Trims, Upgrades}
use Rattle.fact_reports.specs.Reporting.{ShowsTrial, unless_many}
use Rattle.dsaplan_core.specs.Courses.{ConcludesWith, course, course_with}
use Rattle.dsaplan_core.specs.Complete.{IsConcluded, IsUndisturbed}
use Rattle.dsaplan_core.proofs.Concluded.{calm_answer}

module _ (old new : FilesSeen) (before after : SinkSeen) where
  module _ (r : Request) (calm : IsUndisturbed r old new before after) where
    is_calm : (own : Role) → IsIn own (reads_of r.verb) → IsCalm old new (name_in r.pairs own)
    is_calm own among = calm.files (name_in r.pairs own) (read_named r own among)

    -- a course that reads the input
    opened_is : IsIn role.Input (reads_of r.verb) → (next : List Record → Instance → Course) →
        ((table : List Record) (I : Instance) → IsServed old new (next table I)) →
        IsServed old new (opened (name_in r.pairs role.Input) next)
    opened_is among next served =
        (is_calm role.Input among, λ bytes. parsed (table_of bytes) (parse (table_of bytes)))
      where
        parsed : (table : List Record) (p : Result Instance InstanceFault) →
            IsServed old new (instance_or_fault p (next table))
        parsed table (Ok I) = served table I
        parsed table (Err fault) = tt

    -- a course that judges a layout file
    judged_is : IsIn role.Layout (reads_of r.verb) → (C : ℕ) (next : List Record → Instance → List ℕ → Course) →
        ((table : List Record) (I : Instance) (offsets : List ℕ) → IsServed old new (next table I offsets)) →
        (table : List Record) (I : Instance) →
        IsServed old new (judged (name_in r.pairs role.Layout) table I C (next table I))
    judged_is among C next served table I =
        (is_calm role.Layout among, λ bytes. parsed (parsed_offsets (ids_of table) (table_of bytes)))
      where
        legal : (offsets : List ℕ) (f : Option LayoutFault) →
            IsServed old new (layout_or_fault f (next table I offsets))
        legal offsets None = served table I offsets
        legal offsets (Some fault) = tt

        parsed : (p : Result (List ℕ) OffsetsFault) → IsServed old new (offsets_or_fault p I C (next table I))
        parsed (Ok offsets) = legal offsets (layout_fault I C offsets)
        parsed (Err fault) = tt

    -- a course that checks a log's file
    checked_is : IsIn role.Log (reads_of r.verb) → (accepted : Log → Outcome → Type 0) (table : List Record)
        (I : Instance) → IsServed old new (checked (name_in r.pairs role.Log) I accepted)
    checked_is among accepted table I = (is_calm role.Log among, λ bytes. tt)

  trial_is : (many : Bool) (count : ℕ) (allowed : Outcome → Type 0) →
      IsServed old new (unless_many many count (Concludes allowed))
  trial_is true count allowed = tt
  trial_is false count allowed = tt

  -- a command that reads its instance alone
  alone_is : (v : Verb) (pairs : List Pair) → IsUndisturbed (record { verb = v; pairs = pairs }) old new before after →
      IsIn role.Input (reads_of v) →
      IsServed old new (opened (name_in pairs role.Input) (λ table I. Concludes (ConcludesWith v pairs table I)))
  alone_is v pairs calm among = opened_is (record { verb = v; pairs = pairs }) calm among
      (λ table I. Concludes (ConcludesWith v pairs table I)) (λ table I. tt)

  -- the course of each command
  course_is : (v : Verb) (pairs : List Pair) → IsUndisturbed (record { verb = v; pairs = pairs }) old new before after →
      IsServed old new (course_with v pairs)
  course_is verb.Verify pairs calm =
      let r : Request = record { verb = verb.Verify; pairs = pairs } in
      let C = number_at pairs option.Capacity in
      opened_is r calm (inl refl)
      (λ table I. judged (name_in pairs role.Layout) table I C (λ offsets. Concludes (TellsRight I C offsets)))
      (judged_is r calm (inr (inl refl)) C (λ table I offsets. Concludes (TellsRight I C offsets))
      (λ table I offsets. tt))
  course_is verb.Refute pairs calm =
      let r : Request = record { verb = verb.Refute; pairs = pairs } in
      opened_is r calm (inl refl)
      (λ table I. checked (name_in pairs role.Log) I (λ log o. o ≡ says (status.Accepted log.capacity)))
      (checked_is r calm (inr (inl refl)) (λ log o. o ≡ says (status.Accepted log.capacity)))
  course_is verb.Trim pairs calm =
      let r : Request = record { verb = verb.Trim; pairs = pairs } in
      opened_is r calm (inl refl)
      (λ table I. checked (name_in pairs role.Log) I (Trims (name_in pairs role.Output) I))
      (λ table I. checked_is r calm (inr (inl refl)) (Trims (name_in pairs role.Output) I) table I)
  course_is verb.Upgrade pairs calm =
      let r : Request = record { verb = verb.Upgrade; pairs = pairs } in
      opened_is r calm (inl refl)
      (λ table I. checked (name_in pairs role.Log) I (Upgrades (name_in pairs role.Output)))
      (checked_is r calm (inr (inl refl)) (Upgrades (name_in pairs role.Output)))
  course_is verb.Report pairs calm =
      let r : Request = record { verb = verb.Report; pairs = pairs } in
      opened_is r calm (inl refl)
      (λ table I. judged (name_in pairs role.Layout) table I (2 ^ 60)
      (λ offsets. Concludes (ShowsLayout table I offsets)))
      (judged_is r calm (inr (inl refl)) (2 ^ 60) (λ table I offsets. Concludes (ShowsLayout table I offsets))
      (λ table I offsets. tt))
  course_is verb.Draw pairs calm =
      let r : Request = record { verb = verb.Draw; pairs = pairs } in
      opened_is r calm (inl refl)
      (λ table I. judged (name_in pairs role.Layout) table I (2 ^ 60)
      (λ offsets. Concludes (Draws (name_in pairs role.Output) table I offsets)))
      (judged_is r calm (inr (inl refl)) (2 ^ 60)
      (λ table I offsets. Concludes (Draws (name_in pairs role.Output) table I offsets)) (λ table I offsets. tt))
  course_is verb.Trial pairs calm =
      trial_is (nat_lt buffer_limit (number_at pairs option.Count)) (number_at pairs option.Count)
      (ShowsTrial (number_at pairs option.Seed) (number_at pairs option.Count) (number_at pairs option.Steps))
  course_is verb.Import pairs calm =
      (is_calm (record { verb = verb.Import; pairs = pairs }) calm role.Trace (inl refl), λ bytes. tt)
  course_is verb.Unroll pairs calm =
      (is_calm (record { verb = verb.Unroll; pairs = pairs }) calm role.Input (inl refl), λ bytes. tt)
  course_is v pairs calm = alone_is v pairs calm (inl refl)

  module _ (words : List Word) (r : Request) (is : request_of words ≡ Ok r)
      (calm : IsUndisturbed r old new before after) where
    told : (s : Status) → ConcludesOn old (course_with r.verb r.pairs) s → IsConcluded old r s
    told status.NoMemory on = tt
    told s on = on

    -- the command is concluded, or memory ran out
    pub concluded : (s : Status) → Answers (course words) old new before after s → IsConcluded old r s
    concluded = calm_answer old new before after words r is calm (IsConcluded old r) tt
        (λ o comes.
        told o.status (concludes_on old new (course_with r.verb r.pairs) o (course_is r.verb r.pairs calm) comes))
