-- A log's file that says no log, or one that is not accepted, is refused for its first fault.
use Rattle.std.proofs.Common.{◌≡◌, ◌⊎◌, List, Some, Ok, Err, refl, sym, subst, inl, inr}
use Rattle.dsa_terms.specs.Buffers.{Instance}
use Rattle.dsa_terms.specs.Claims.{IsIn}
use Rattle.dsa_terms.specs.Logs.{Log}
use Rattle.dsa_model.specs.declared.fail.Fail.TheVariants.{Fault}
use Rattle.dsa_outside.specs.Seen.{FilesSeen, SinkSeen}
use Rattle.log_text.specs.Faults.{IsFirstFault}
use Rattle.log_text.specs.Says.{Says}
use Rattle.log_text.specs.Text.{raw_log_of}
use Rattle.log_text.specs.declared.raw.RawLog.{RawLog}
use Rattle.log_text.proofs.LogLemmas.{is_cause}
use Rattle.log_text.proofs.Saying.{no_fault_said}
use Rattle.log_check.specs.Faults.{check_fault}
use Rattle.log_check.proofs.AcceptedLogs.{faulty_is_not_accepted}
use Rattle.command_words.specs.Options.{Word}
use Rattle.command_words.specs.Forms.{ReadsInstance, reads_of}
use Rattle.command_words.specs.Pairs.{Pair, name_in}
use Rattle.command_words.specs.Requests.{Request, request_of}
use Rattle.command_words.specs.declared.verb.Verb.{Verb}
use Rattle.command_words.specs.declared.verb.Verb.TheVariants as verb
use Rattle.command_words.specs.declared.role.Role.TheVariants as role
use Rattle.run_status.specs.declared.status.Status.{Status}
use Rattle.run_status.specs.declared.status.Status.TheVariants as status
use Rattle.run_status.specs.declared.status.LogCause.{LogCause}
use Rattle.run_status.specs.declared.status.LogCause.TheVariants as refused
use Rattle.run_course.specs.Course.{Comes, Outcome, says}
use Rattle.run_course.specs.Complete.{IsReadable}
use Rattle.run_course.specs.Answers.{Answers}
use Rattle.readings.specs.Input.{opened}
use Rattle.readings.specs.Checking.{checked}
use Rattle.readings.specs.GivenLogs.{HoldsAccepted, HoldsNoText, HoldsNoRefutation}
use Rattle.checking.specs.Checking.{Trims, Upgrades}
use Rattle.dsaplan_core.specs.Causes.{IsChecking}
use Rattle.dsaplan_core.specs.Courses.{course, course_with}
use Rattle.dsaplan_core.specs.Complete.{IsReady, IsRefusedFor, IsUndisturbed}
use Rattle.dsaplan_core.proofs.Accepting.{log_is_found, same_raw}
use Rattle.dsaplan_core.proofs.Concluded.{calm_answer}
use Rattle.dsaplan_core.proofs.Served.{checked_served, opened_served, same_reading}

-- the file says no log, or one that is not accepted, for this cause
abbrev HoldsNone : FilesSeen → Word → Instance → LogCause → Type 0
HoldsNone old name I cause = HoldsNoText old name (status.LogRefused cause)
    ⊎ HoldsNoRefutation old name I (status.LogRefused cause)

module _ (old : FilesSeen) (name : Word) (I : Instance) (there : IsReadable old role.Log name) where
  -- it does so for one cause
  same_cause : (c d : LogCause) → HoldsNone old name I c → HoldsNone old name I d → c ≡ d
  same_cause c d (inl a) (inl b) =
      let same = same_reading old role.Log name there a.bytes b.bytes a.whole b.whole in
      let one = is_cause b.bytes (Err (Fault a.fault)) (subst (λ x. IsFirstFault x a.fault) same a.refused) b.fault
      b.refused in
      let told = a.told in
      let other = b.told in
      cc
  same_cause c d (inl a) (inr b) =
      let same = same_reading old role.Log name there a.bytes b.bytes a.whole b.whole in
      absurd (no_fault_said b.bytes a.fault b.raw (subst (λ x. IsFirstFault x a.fault) same a.refused) b.says)
  same_cause c d (inr a) (inl b) =
      let same = same_reading old role.Log name there b.bytes a.bytes b.whole a.whole in
      absurd (no_fault_said a.bytes b.fault a.raw (subst (λ x. IsFirstFault x b.fault) same b.refused) a.says)
  same_cause c d (inr a) (inr b) =
      let same = same_reading old role.Log name there a.bytes b.bytes a.whole b.whole in
      let raws = same_raw b.bytes a.raw b.raw (subst (λ x. Says x a.raw) same a.says) b.says in
      let one = subst (λ (r : RawLog). check_fault I r ≡ Some a.fault) raws a.refused in
      let two = b.refused in
      let told = a.told in
      let other = b.told in
      cc

  -- and then it says no accepted log
  not_accepted : (c : LogCause) → HoldsNone old name I c → (log : Log) → HoldsAccepted old name I log → ⊥
  not_accepted c (inl a) log read =
      let same = same_reading old role.Log name there a.bytes read.bytes a.whole read.whole in
      no_fault_said read.bytes a.fault (raw_log_of log) (subst (λ x. IsFirstFault x a.fault) same a.refused) read.says
  not_accepted c (inr a) log read =
      let same = same_reading old role.Log name there a.bytes read.bytes a.whole read.whole in
      let raws = same_raw read.bytes a.raw (raw_log_of log) (subst (λ x. Says x a.raw) same a.says) read.says in
      faulty_is_not_accepted I a.raw (Err (Fault a.fault)) tt a.refused log (sym raws) read.accepted

module _ (old new : FilesSeen) (before after : SinkSeen) (I : Instance) (cause : LogCause) where
  abbrev IsTold : Outcome → Type 0
  IsTold o = IsRefusedFor cause o.status

  module _ (r : Request) (ready : IsReady old r I) (calm : IsUndisturbed r old new before after)
      (holds : HoldsNone old (name_in r.pairs role.Log) I cause) where
    -- a course that checks the log's file ends with that cause, whatever would come then
    ends : ReadsInstance r.verb → IsIn role.Log (reads_of r.verb) → (accepted : Instance → Log → Outcome → Type 0) →
        (o : Outcome) → Comes old new (opened (name_in r.pairs role.Input)
        (λ table J. checked (name_in r.pairs role.Log) J (accepted J))) o → IsTold o
    ends input log accepted =
        let name = name_in r.pairs role.Log in
        let there = ready.files role.Log log in
        opened_served old new before after I r ready calm input IsTold (λ table J. checked name J (accepted J))
        (λ table. checked_served old new before after I r ready calm log IsTold (accepted I)
        (λ fault read. same_cause old name I there (refused.Text fault) cause (inl read) holds)
        (λ fault read. same_cause old name I there (refused.Check fault) cause (inr read) holds)
        (λ found read o told. absurd (not_accepted old name I there cause holds found read)))

  told : (v : Verb) (pairs : List Pair) → IsChecking v → IsReady old (record { verb = v; pairs = pairs }) I →
      IsUndisturbed (record { verb = v; pairs = pairs }) old new before after →
      HoldsNone old (name_in pairs role.Log) I cause → (o : Outcome) → Comes old new (course_with v pairs) o → IsTold o
  told verb.Refute pairs checks ready calm holds =
      ends (record { verb = verb.Refute; pairs = pairs }) ready calm holds (inl refl) (inr (inl refl))
      (λ J log o. o ≡ says (status.Accepted log.capacity))
  told verb.Trim pairs checks ready calm holds =
      ends (record { verb = verb.Trim; pairs = pairs }) ready calm holds (inl refl) (inr (inl refl))
      (Trims (name_in pairs role.Output))
  told verb.Upgrade pairs checks ready calm holds =
      ends (record { verb = verb.Upgrade; pairs = pairs }) ready calm holds (inl refl) (inr (inl refl))
      (λ J. Upgrades (name_in pairs role.Output))
  told v pairs checks ready calm holds = absurd (let found = log_is_found (reads_of v) checks in cc)

  module _ (words : List Word) (r : Request) (is : request_of words ≡ Ok r) (checks : IsChecking r.verb)
      (ready : IsReady old r I) (calm : IsUndisturbed r old new before after)
      (holds : HoldsNone old (name_in r.pairs role.Log) I cause) where
    -- the answer is that it is refused for that cause, or memory runs out
    pub refuses : (s : Status) → Answers (course words) old new before after s → IsRefusedFor cause s
    refuses = calm_answer old new before after words r is calm (IsRefusedFor cause) tt
        (told r.verb r.pairs checks ready calm holds)
