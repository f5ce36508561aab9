-- A run that a reading ends blames its file, one that refuses what was read tells why, and neither promises anything
-- else; what is promised stands on what is read.
use Rattle.std.proofs.Common.{◌≡◌, ◌⊎◌, ℕ, List, Ok, refl, inl, inr}
use Rattle.dsa_terms.specs.Buffers.{Instance}
use Rattle.dsa_terms.specs.Claims.{IsIn}
use Rattle.dsa_terms.specs.Logs.{Log}
use Rattle.dsa_outside.specs.Seen.{FilesSeen}
use Rattle.csv_instance.specs.Records.{Record}
use Rattle.command_words.specs.Options.{Word}
use Rattle.command_words.specs.Forms.{ReadsInstance, reads_of}
use Rattle.command_words.specs.Requests.{Request, request_of}
use Rattle.command_words.specs.declared.role.Role.{Role}
use Rattle.command_words.specs.declared.role.Role.TheVariants as role
use Rattle.command_words.specs.Pairs.{name_in}
use Rattle.command_words.proofs.FileLemmas.{input_is_read}
use Rattle.run_status.specs.declared.status.Status.TheVariants as status
use Rattle.run_status.specs.declared.status.LogCause.{LogCause}
use Rattle.run_status.specs.declared.status.LogCause.TheVariants as refused
use Rattle.run_course.specs.Course.{Course, Comes, Outcome, says}
use Rattle.readings.specs.Input.{opened}
use Rattle.readings.specs.Opens.{IsInput}
use Rattle.readings.specs.Judging.{judged}
use Rattle.readings.specs.GivenLayouts.{GivesLayout}
use Rattle.readings.specs.Checking.{checked}
use Rattle.readings.specs.GivenLogs.{HoldsAccepted, HoldsNoText, HoldsNoRefutation}
use Rattle.dsaplan_core.specs.Causes.{IsChecking, IsJudgedAt}
use Rattle.dsaplan_core.proofs.Gives.{IfUnreadable, checked_gives, judged_gives, opened_gives}
use Rattle.dsaplan_core.proofs.Promises.{Promises, asked}

module _ (words : List Word) (old new : FilesSeen) (r : Request) (is : request_of words ≡ Ok r) where
  abbrev P : Outcome → Type 0
  P = Promises words old new r

  pub unreadable : (role : Role) → IsIn role (reads_of r.verb) →
      IfUnreadable old new P role (name_in r.pairs role)
  unreadable role read = (
    λ unread. (
      λ files.
          (tt, tt, refl, record { request = r; asked = is; read = read; cause = unread; files = files }),
      tt,
    ),
    λ long. (
      λ files.
          (tt, tt, refl, record { request = r; asked = is; read = read; long = long; files = files }),
      tt,
    ),
  )

  pub opened_promises : ReadsInstance r.verb → (next : List Record → Instance → Course) →
      ((table : List Record) (I : Instance) → IsInput old (name_in r.pairs role.Input) table I →
      (o : Outcome) → Comes old new (next table I) o → P o) →
      (o : Outcome) → Comes old new (opened (name_in r.pairs role.Input) next) o → P o
  opened_promises read next = opened_gives old new P (name_in r.pairs role.Input) next
      (unreadable role.Input (input_is_read r.verb read))
      (λ fault bad. (
        λ files.
            (tt, tt, refl, record { request = r; words_ask = is; read = read; malformed = bad; files = files }),
        tt,
      ))

  pub judged_promises : IsIn role.Layout (reads_of r.verb) → (table : List Record) (I : Instance) (C : ℕ)
      (next : List ℕ → Course) → IsInput old (name_in r.pairs role.Input) table I → IsJudgedAt r.verb r.pairs C →
      ((offsets : List ℕ) → GivesLayout old (name_in r.pairs role.Layout) table I C offsets →
      (o : Outcome) → Comes old new (next offsets) o → P o) →
      (o : Outcome) → Comes old new (judged (name_in r.pairs role.Layout) table I C next) o → P o
  judged_promises read table I C next input judged_at =
      judged_gives old new P (name_in r.pairs role.Layout) table I C next (unreadable role.Layout read)
      (λ cause wrong. (
        λ files. (
          tt,
          tt,
          refl,
          record {
            asked = asked words old r is table I input;
            capacity = C;
            judged = judged_at;
            wrong = wrong;
            files = files;
          },
        ),
        tt,
      ))

  refuses_log : (table : List Record) (I : Instance) → IsInput old (name_in r.pairs role.Input) table I →
      IsChecking r.verb → (cause : LogCause) →
      HoldsNoText old (name_in r.pairs role.Log) (status.LogRefused cause)
      ⊎ HoldsNoRefutation old (name_in r.pairs role.Log) I (status.LogRefused cause) →
      P (says (status.LogRefused cause))
  refuses_log table I input checks cause bad = (
    λ files. (
      tt,
      tt,
      refl,
      record {
        asked = asked words old r is table I input;
        checked = checks;
        refused = bad;
        files = files;
      },
    ),
    tt,
  )

  pub checked_promises : IsIn role.Log (reads_of r.verb) → (table : List Record) (I : Instance)
      (accepted : Log → Outcome → Type 0) → IsInput old (name_in r.pairs role.Input) table I →
      IsChecking r.verb →
      ((log : Log) → HoldsAccepted old (name_in r.pairs role.Log) I log → (o : Outcome) → accepted log o → P o) →
      (o : Outcome) → Comes old new (checked (name_in r.pairs role.Log) I accepted) o → P o
  checked_promises read table I accepted input checks =
      checked_gives old new P (name_in r.pairs role.Log) I accepted (unreadable role.Log read)
      (λ fault bad. refuses_log table I input checks (refused.Text fault) (inl bad))
      (λ fault bad. refuses_log table I input checks (refused.Check fault) (inr bad))
