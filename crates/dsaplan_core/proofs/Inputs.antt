-- An input that is no instance is malformed.
use Rattle.std.proofs.Common.{◌≡◌, ◌∙◌, ◌^◌, ℕ, List, Ok, Err, sym, ap, subst}
use Rattle.dsa_terms.specs.Buffers.{Instance}
use Rattle.dsa_outside.specs.Seen.{FilesSeen, SinkSeen}
use Rattle.csv_instance.specs.Records.{Record, table_of}
use Rattle.csv_instance.specs.Parse.{parse}
use Rattle.csv_instance.specs.declared.fault.InstanceFault.{InstanceFault}
use Rattle.command_words.specs.Forms.{ReadsInstance}
use Rattle.command_words.specs.Options.{Word}
use Rattle.command_words.specs.Pairs.{Pair, name_in, number_at}
use Rattle.command_words.specs.Requests.{Request, request_of}
use Rattle.command_words.specs.declared.option.OptionName.TheVariants as option
use Rattle.command_words.specs.declared.verb.Verb.{Verb}
use Rattle.command_words.specs.declared.verb.Verb.TheVariants as verb
use Rattle.command_words.specs.declared.role.Role.TheVariants as role
use Rattle.command_words.proofs.FileLemmas.{import_reads_none, input_is_read, unroll_reads_none}
use Rattle.run_status.specs.declared.status.Status.{Status}
use Rattle.run_status.specs.declared.status.Status.TheVariants as status
use Rattle.run_course.specs.Answers.{Answers}
use Rattle.run_course.specs.Course.{Comes, Concludes, Course, Outcome, says}
use Rattle.run_course.specs.Readings.{IsWholeFile}
use Rattle.readings.specs.Input.{opened}
use Rattle.readings.specs.Judging.{judged}
use Rattle.readings.specs.Checking.{checked}
use Rattle.judging.specs.Judging.{ShowsLayout, TellsRight}
use Rattle.judging.specs.Drawing.{Draws}
use Rattle.checking.specs.Checking.{Trims, Upgrades}
use Rattle.dsaplan_core.specs.Courses.{ConcludesWith, course, course_with}
use Rattle.dsaplan_core.specs.Complete.{HoldsNoInstance, IsMalformedFor, IsUndisturbed}
use Rattle.dsaplan_core.proofs.Concluded.{calm_answer}
use Rattle.dsaplan_core.proofs.Gives.{opened_gives}
use Rattle.dsaplan_core.proofs.Served.{readable_served, same_bytes}

module _ (old new : FilesSeen) (before after : SinkSeen) (fault : InstanceFault) where
  abbrev IsTold : Outcome → Type 0
  IsTold o = IsMalformedFor fault o.status

  module _ (r : Request) (reads : ReadsInstance r.verb) (calm : IsUndisturbed r old new before after)
      (holds : HoldsNoInstance fault old (name_in r.pairs role.Input)) where
    its_fault : (bytes : List ℕ) → IsWholeFile old role.Input (name_in r.pairs role.Input) bytes →
        parse (table_of bytes) ≡ Err fault
    its_fault bytes whole =
        let there = holds.file in
        ap (λ (b : List ℕ). parse (table_of b))
        (same_bytes old role.Input (name_in r.pairs role.Input) bytes there.bytes there.held whole) ∙ holds.refused

    -- a course that reads the input ends with that fault, whatever would come then
    ends : (next : List Record → Instance → Course) → (o : Outcome) →
        Comes old new (opened (name_in r.pairs role.Input) next) o → IsTold o
    ends next = opened_gives old new IsTold (name_in r.pairs role.Input) next
        (readable_served old new before after r calm role.Input (input_is_read r.verb reads) holds.file IsTold)
        (λ found bad. let a = its_fault bad.bytes bad.whole in let b = bad.refused in cc)
        (λ table J input o comes.
        let a = its_fault input.bytes input.whole in
        let b : parse (table_of input.bytes) ≡ Ok J = ap parse (sym input.records) ∙ input.parsed in
        absurd cc)

  told : (v : Verb) (pairs : List Pair) → ReadsInstance v →
      IsUndisturbed (record { verb = v; pairs = pairs }) old new before after →
      HoldsNoInstance fault old (name_in pairs role.Input) → (o : Outcome) →
      Comes old new (course_with v pairs) o → IsTold o
  told verb.Verify pairs reads calm holds =
      let capacity = number_at pairs option.Capacity in
      ends (record { verb = verb.Verify; pairs = pairs }) reads calm holds
      (λ table I. judged (name_in pairs role.Layout) table I capacity
      (λ offsets. Concludes (TellsRight I capacity offsets)))
  told verb.Report pairs reads calm holds =
      ends (record { verb = verb.Report; pairs = pairs }) reads calm holds
      (λ table I. judged (name_in pairs role.Layout) table I (2 ^ 60)
      (λ offsets. Concludes (ShowsLayout table I offsets)))
  told verb.Draw pairs reads calm holds =
      ends (record { verb = verb.Draw; pairs = pairs }) reads calm holds
      (λ table I. judged (name_in pairs role.Layout) table I (2 ^ 60)
      (λ offsets. Concludes (Draws (name_in pairs role.Output) table I offsets)))
  told verb.Refute pairs reads calm holds =
      ends (record { verb = verb.Refute; pairs = pairs }) reads calm holds
      (λ table I. checked (name_in pairs role.Log) I (λ log o. o ≡ says (status.Accepted log.capacity)))
  told verb.Trim pairs reads calm holds =
      ends (record { verb = verb.Trim; pairs = pairs }) reads calm holds
      (λ table I. checked (name_in pairs role.Log) I (Trims (name_in pairs role.Output) I))
  told verb.Upgrade pairs reads calm holds =
      ends (record { verb = verb.Upgrade; pairs = pairs }) reads calm holds
      (λ table I. checked (name_in pairs role.Log) I (Upgrades (name_in pairs role.Output)))
  told verb.Trial pairs reads calm holds = absurd (input_is_read verb.Trial reads)
  told verb.Import pairs reads calm holds = absurd (import_reads_none reads)
  told verb.Unroll pairs reads calm holds = absurd (unroll_reads_none reads)
  told v pairs reads calm holds =
      ends (record { verb = v; pairs = pairs }) reads calm holds (λ table I. Concludes (ConcludesWith v pairs table I))

  module _ (words : List Word) (r : Request) (is : request_of words ≡ Ok r) (reads : ReadsInstance r.verb)
      (calm : IsUndisturbed r old new before after)
      (holds : HoldsNoInstance fault old (name_in r.pairs role.Input)) where
    -- the answer is that it is malformed for that fault, or memory runs out
    pub malformed : (s : Status) → Answers (course words) old new before after s → IsMalformedFor fault s
    malformed = calm_answer old new before after words r is calm (IsMalformedFor fault) tt
        (told r.verb r.pairs reads calm holds)
