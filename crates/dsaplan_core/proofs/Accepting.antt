-- A log's file that says an accepted log is accepted.
use Rattle.std.proofs.Common.{◌≡◌, Bool, true, false, ◌||◌, [], ◌∷◌, ℕ, List, Ok, Err, refl, sym, subst, inl, inr}
use Rattle.std.specs.List.{list_any}
use Rattle.dsa_terms.specs.Buffers.{Instance}
use Rattle.dsa_terms.specs.Claims.{IsIn}
use Rattle.dsa_terms.specs.Logs.{Log}
use Rattle.dsa_model.specs.declared.fail.Fail.TheVariants.{Fault}
use Rattle.dsa_outside.specs.Seen.{FilesSeen, SinkSeen}
use Rattle.log_text.specs.Says.{Says}
use Rattle.log_text.specs.Text.{raw_log_of}
use Rattle.log_text.specs.declared.raw.RawLog.{RawLog}
use Rattle.log_text.proofs.Saying.{no_fault_said, says_prefix_free}
use Rattle.log_check.proofs.AcceptedLogs.{accepted_is_found, faulty_is_not_accepted}
use Rattle.command_words.specs.Options.{Word}
use Rattle.command_words.specs.Forms.{ReadsInstance, reads_of}
use Rattle.command_words.specs.Pairs.{Pair, name_in}
use Rattle.command_words.specs.Requests.{Request, request_of}
use Rattle.command_words.specs.declared.verb.Verb.{Verb}
use Rattle.command_words.specs.declared.verb.Verb.TheVariants as verb
use Rattle.command_words.specs.declared.role.Role.{Role}
use Rattle.command_words.specs.declared.role.Role.TheVariants as role
use Rattle.run_status.specs.declared.status.Status.{Status}
use Rattle.run_status.specs.declared.status.Status.TheVariants as status
use Rattle.run_course.specs.Course.{Comes, Outcome, says}
use Rattle.run_course.specs.Answers.{Answers}
use Rattle.readings.specs.Input.{opened}
use Rattle.readings.specs.Checking.{checked}
use Rattle.readings.specs.GivenLogs.{HoldsAccepted, HoldsNoText, HoldsNoRefutation}
use Rattle.checking.specs.Checking.{Trims, Upgrades}
use Rattle.dsaplan_core.specs.Causes.{IsChecking}
use Rattle.dsaplan_core.specs.Courses.{course, course_with}
use Rattle.dsaplan_core.specs.Complete.{HoldsLog, IsAcceptance, IsReady, IsUndisturbed}
use Rattle.dsaplan_core.proofs.Concluded.{calm_answer}
use Rattle.dsaplan_core.proofs.Served.{checked_served, opened_served, same_bytes}

-- bytes say one log
pub same_raw : (bytes : List ℕ) (r s : RawLog) → Says bytes r → Says bytes s → r ≡ s
same_raw bytes r s one two = (says_prefix_free bytes bytes r s [] [] one two refl).0

-- where the log is read, a test of the files that are read finds it
abbrev is_log : Role → Bool
is_log role.Log = true
is_log other = false

or_true : (a : Bool) → (a || true) ≡ true
or_true true = refl
or_true false = refl

pub log_is_found : (rs : List Role) → IsIn role.Log rs → list_any is_log rs ≡ true
log_is_found [] is = absurd is
log_is_found (r ∷ rs) (inl same) = subst (λ (x : Role). list_any is_log (x ∷ rs) ≡ true) same refl
log_is_found (r ∷ rs) (inr is) = rw (log_is_found rs is) (or_true (is_log r))

memory : (v : Verb) (g : Log) → IsAcceptance v g status.NoMemory
memory verb.Refute g = tt
memory v g = tt

module _ (old : FilesSeen) (name : Word) (I : Instance) (g : Log) (holds : HoldsLog I g old name) where
  -- the log that is read is this one
  is_this : (log : Log) → HoldsAccepted old name I log → log ≡ g
  is_this log read =
      let same = same_bytes old role.Log name read.bytes holds.bytes holds.held read.whole in
      let raws = same_raw holds.bytes (raw_log_of log) (raw_log_of g)
      (subst (λ b. Says b (raw_log_of log)) same read.says) holds.says in
      accepted_is_found I (raw_log_of g) (Ok log) read.accepted raws g refl holds.accepted

  is_said : (s : Status) → HoldsNoText old name s → ⊥
  is_said s read =
      let same = same_bytes old role.Log name read.bytes holds.bytes holds.held read.whole in
      no_fault_said read.bytes read.fault (raw_log_of g)
      (read.refused) (subst (λ b. Says b (raw_log_of g)) (sym same) holds.says)

  is_accepted : (s : Status) → HoldsNoRefutation old name I s → ⊥
  is_accepted s read =
      let same = same_bytes old role.Log name read.bytes holds.bytes holds.held read.whole in
      let raws = same_raw holds.bytes read.raw (raw_log_of g) (subst (λ b. Says b read.raw) same read.says)
      holds.says in
      faulty_is_not_accepted I read.raw (Err (Fault read.fault)) tt read.refused g (sym raws) holds.accepted

module _ (old new : FilesSeen) (before after : SinkSeen) (I : Instance) (g : Log) where
  module _ (r : Request) (ready : IsReady old r I) (calm : IsUndisturbed r old new before after)
      (holds : HoldsLog I g old (name_in r.pairs role.Log)) where
    -- a course that checks the log's file goes on with this log
    checked_is : ReadsInstance r.verb → IsIn role.Log (reads_of r.verb) → (P : Outcome → Type 0)
        (accepted : Instance → Log → Outcome → Type 0) → ((o : Outcome) → accepted I g o → P o) → (o : Outcome) →
        Comes old new (opened (name_in r.pairs role.Input)
        (λ table J. checked (name_in r.pairs role.Log) J (accepted J))) o → P o
    checked_is input log P accepted given =
        let name = name_in r.pairs role.Log in
        opened_served old new before after I r ready calm input P (λ table J. checked name J (accepted J))
        (λ table. checked_served old new before after I r ready calm log P (accepted I)
        (λ fault read. absurd (is_said old name I g holds _ read))
        (λ fault read. absurd (is_accepted old name I g holds _ read))
        (λ found read o told. given o
        (subst (λ (h : Log). accepted I h o) (is_this old name I g holds found read) told)))

  abbrev IsTold : Verb → Outcome → Type 0
  IsTold v o = IsAcceptance v g o.status

  told : (v : Verb) (pairs : List Pair) → IsChecking v → IsReady old (record { verb = v; pairs = pairs }) I →
      IsUndisturbed (record { verb = v; pairs = pairs }) old new before after →
      HoldsLog I g old (name_in pairs role.Log) → (o : Outcome) → Comes old new (course_with v pairs) o → IsTold v o
  told verb.Refute pairs checks ready calm holds =
      checked_is (record { verb = verb.Refute; pairs = pairs }) ready calm holds (inl refl) (inr (inl refl))
      (IsTold verb.Refute) (λ J log o. o ≡ says (status.Accepted log.capacity))
      (λ o is. subst (IsTold verb.Refute) (sym is) refl)
  told verb.Trim pairs checks ready calm holds =
      checked_is (record { verb = verb.Trim; pairs = pairs }) ready calm holds (inl refl) (inr (inl refl))
      (IsTold verb.Trim) (Trims (name_in pairs role.Output))
      (λ o is. subst (IsTold verb.Trim) (sym is.outcome) (refl, (is.trim, is.is_trim, refl)))
  told verb.Upgrade pairs checks ready calm holds =
      checked_is (record { verb = verb.Upgrade; pairs = pairs }) ready calm holds (inl refl) (inr (inl refl))
      (IsTold verb.Upgrade) (λ J. Upgrades (name_in pairs role.Output))
      (λ o is. subst (IsTold verb.Upgrade) (sym is.outcome) refl)
  told v pairs checks ready calm holds = absurd (let found = log_is_found (reads_of v) checks in cc)

  module _ (words : List Word) (r : Request) (is : request_of words ≡ Ok r) (checks : IsChecking r.verb)
      (ready : IsReady old r I) (calm : IsUndisturbed r old new before after)
      (holds : HoldsLog I g old (name_in r.pairs role.Log)) where
    -- the answer is that it is accepted, or memory runs out
    pub accepts : (s : Status) → Answers (course words) old new before after s → IsAcceptance r.verb g s
    accepts = calm_answer old new before after words r is calm (IsAcceptance r.verb g) (memory r.verb g)
        (told r.verb r.pairs checks ready calm holds)
