-- What holds of the outcome that a course comes to, by what its shared readings come to.
use Rattle.std.proofs.Common.{◌≡◌, ◌≤◌, ◌<◌, ◌⊎◌, ℕ, Bool, true, false, nat_lt, List, IsSome, Option, Some, None, Result, Ok, Err, refl, sym, subst, ap, ◌∙◌, inl, inr, arith}
use Rattle.dsa_terms.specs.Buffers.{Instance}
use Rattle.dsa_terms.specs.Logs.{Log}
use Rattle.dsa_model.specs.Buffer.{buffer_limit}
use Rattle.dsa_model.specs.LayoutFaults.{layout_fault}
use Rattle.dsa_model.proofs.LayoutFaults.{layout_exactly}
use Rattle.dsa_model.specs.declared.layout.LayoutFault.{LayoutFault}
use Rattle.dsa_outside.specs.Seen.{FilesSeen}
use Rattle.csv_instance.specs.Records.{Record, table_of}
use Rattle.csv_instance.specs.Parse.{parse}
use Rattle.csv_instance.specs.Offsets.{ids_of, parsed_offsets}
use Rattle.csv_instance.specs.declared.fault.InstanceFault.{InstanceFault}
use Rattle.csv_instance.specs.declared.fault.OffsetsFault.{OffsetsFault}
use Rattle.log_text.specs.declared.fault.TextFault.{TextFault}
use Rattle.log_check.specs.declared.fault.CheckFault.{CheckFault}
use Rattle.command_words.specs.Options.{Word}
use Rattle.command_words.specs.declared.role.Role.{Role}
use Rattle.command_words.specs.declared.role.Role.TheVariants as role
use Rattle.run_status.specs.declared.status.Status.TheVariants as status
use Rattle.run_status.specs.declared.status.WrongCause.{WrongCause}
use Rattle.run_status.specs.declared.status.WrongCause.TheVariants as wrong
use Rattle.run_status.specs.declared.status.LogCause.TheVariants as refused
use Rattle.run_course.specs.Readings.{HoldsMore, IsUnread}
use Rattle.run_course.specs.Course.{Course, Concludes, Comes, Outcome, IsUnreadable, says}
use Rattle.readings.specs.Input.{opened, instance_or_fault}
use Rattle.readings.specs.Opens.{IsInput, IsMalformed}
use Rattle.readings.specs.Judging.{judged, layout_or_fault, offsets_or_fault}
use Rattle.readings.specs.GivenLayouts.{GivesLayout, GivesNoOffsets, GivesWrongOffsets}
use Rattle.readings.specs.Checking.{checked, Checks, no_text, not_accepted, is_accepted}
use Rattle.readings.specs.GivenLogs.{HoldsAccepted, HoldsNoText, HoldsNoRefutation}
use Rattle.fact_reports.specs.Reporting.{ShowsTrial, trial, unless_many}

module _ (old new : FilesSeen) (P : Outcome → Type 0) where
  -- it holds where the file could not be read, and where the file holds more bytes than it may
  abbrev pub IfUnreadable : Role → Word → Type 0
  IfUnreadable role name = (IsUnread old new name → P (says (status.ReadFault role)))
      × ((IsSome old.held → HoldsMore old role name) → P (says (status.TooLong role)))

  pub unreadable : (role : Role) (name : Word) → IfUnreadable role name → (o : Outcome) →
      IsUnreadable old new role name o.status → o ≡ says o.status → P o
  unreadable role name holds o (inl failed) is = subst P (sym (is ∙ ap says failed.0)) (holds.0 failed.1)
  unreadable role name holds o (inr long) is = subst P (sym (is ∙ ap says long.0)) (holds.1 long.1)

  -- a course that reads the input
  pub opened_gives : (name : Word) (next : List Record → Instance → Course) →
      IfUnreadable role.Input name →
      ((fault : InstanceFault) → IsMalformed old name fault → P (says (status.Malformed fault))) →
      ((table : List Record) (I : Instance) → IsInput old name table I →
      (o : Outcome) → Comes old new (next table I) o → P o) →
      (o : Outcome) → Comes old new (opened name next) o → P o
  opened_gives name next unread malformed given o (inl failed) =
      unreadable role.Input name unread o failed.0 failed.1
  opened_gives name next unread malformed given o (inr (bytes, whole, comes)) =
      parsed (parse (table_of bytes)) refl comes
    where
      parsed : (r : Result Instance InstanceFault) → parse (table_of bytes) ≡ r →
          Comes old new (instance_or_fault r (next (table_of bytes))) o → P o
      parsed (Ok I) is comes =
          given (table_of bytes) I (record { bytes = bytes; whole = whole; records = refl; parsed = is }) o comes
      parsed (Err fault) is comes =
          subst P (sym comes.1) (malformed fault (record { bytes = bytes; whole = whole; refused = is }))

  -- a course that judges a layout file
  pub judged_gives : (name : Word) (table : List Record) (I : Instance) (C : ℕ) (next : List ℕ → Course) →
      IfUnreadable role.Layout name →
      ((cause : WrongCause) → GivesNoOffsets old name table (status.Wrong cause)
      ⊎ GivesWrongOffsets old name table I C (status.Wrong cause) → P (says (status.Wrong cause))) →
      ((offsets : List ℕ) → GivesLayout old name table I C offsets →
      (o : Outcome) → Comes old new (next offsets) o → P o) →
      (o : Outcome) → Comes old new (judged name table I C next) o → P o
  judged_gives name table I C next unread wrongly given o (inl failed) =
      unreadable role.Layout name unread o failed.0 failed.1
  judged_gives name table I C next unread wrongly given o (inr (bytes, whole, comes)) =
      parsed (parsed_offsets (ids_of table) (table_of bytes)) refl comes
    where
      legal : (offsets : List ℕ) → parsed_offsets (ids_of table) (table_of bytes) ≡ Ok offsets →
          (f : Option LayoutFault) → layout_fault I C offsets ≡ f →
          Comes old new (layout_or_fault f (next offsets)) o → P o
      legal offsets read None is comes =
          given offsets (record {
            bytes = bytes;
            whole = whole;
            parsed = read;
            layout = (layout_exactly I C offsets).0 is;
          }) o comes
      legal offsets read (Some fault) is comes = subst P (sym comes.1)
          (wrongly (wrong.Layout fault) (inr (record {
            bytes = bytes;
            offsets = offsets;
            fault = fault;
            told = refl;
            whole = whole;
            parsed = read;
            refused = is;
          })))

      parsed : (r : Result (List ℕ) OffsetsFault) → parsed_offsets (ids_of table) (table_of bytes) ≡ r →
          Comes old new (offsets_or_fault r I C next) o → P o
      parsed (Ok offsets) is comes = legal offsets is (layout_fault I C offsets) refl comes
      parsed (Err fault) is comes = subst P (sym comes.1) (wrongly (wrong.Offsets fault)
          (inl (record { bytes = bytes; fault = fault; told = refl; whole = whole; refused = is })))

  -- a course that checks a log's file
  pub checked_gives : (name : Word) (I : Instance) (accepted : Log → Outcome → Type 0) →
      IfUnreadable role.Log name →
      ((fault : TextFault) → HoldsNoText old name (status.LogRefused (refused.Text fault)) →
      P (says (status.LogRefused (refused.Text fault)))) →
      ((fault : CheckFault) → HoldsNoRefutation old name I (status.LogRefused (refused.Check fault)) →
      P (says (status.LogRefused (refused.Check fault)))) →
      ((log : Log) → HoldsAccepted old name I log → (o : Outcome) → accepted log o → P o) →
      (o : Outcome) → Comes old new (checked name I accepted) o → P o
  checked_gives name I accepted unread no_log no_proof given o (inl failed) =
      unreadable role.Log name unread o failed.0 failed.1
  checked_gives name I accepted unread no_log no_proof given o (inr (bytes, whole, comes)) = told comes.1
    where
      told : Checks I bytes accepted o → P o
      told (no_text fault first is) = subst P (sym is)
          (no_log fault (record { bytes = bytes; fault = fault; told = refl; whole = whole; refused = first }))
      told (not_accepted raw fault said first is) = subst P (sym is) (no_proof fault (record {
        bytes = bytes;
        raw = raw;
        fault = fault;
        told = refl;
        whole = whole;
        says = said;
        refused = first;
      }))
      told (is_accepted log said accepted none is) = given log
          (record { bytes = bytes; whole = whole; says = said; accepted = accepted; infeasible = none }) o is

  -- a trial
  pub trial_gives : (seed count steps : ℕ) → (buffer_limit < count → P (says (status.TooMany count))) →
      (count ≤ buffer_limit → (o : Outcome) → ShowsTrial seed count steps o → P o) →
      (o : Outcome) → Comes old new (trial seed count steps) o → P o
  trial_gives seed count steps many few o comes = counted (nat_lt buffer_limit count) refl comes
    where
      counted : (b : Bool) → nat_lt buffer_limit count ≡ b →
          Comes old new (unless_many b count (Concludes (ShowsTrial seed count steps))) o → P o
      counted true is comes = subst P (sym comes.1) (many grind (arith, is))
      counted false is comes = few grind (arith, is) o comes.1
