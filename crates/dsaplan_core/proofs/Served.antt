-- Where nothing outside fails and the files of a command are readable, no reading of them ends a run.
use Rattle.std.proofs.Common.{◌≡◌, ℕ, List, length, Option, Some, None, IsSome, Ok, refl, sym, ap, ◌∙◌, subst, inl, inr, arith}
use Rattle.dsa_terms.specs.Buffers.{Instance}
use Rattle.dsa_terms.specs.Claims.{IsIn}
use Rattle.dsa_terms.specs.Logs.{Log}
use Rattle.dsa_outside.specs.Held.{FileMap, file_at, IsMissing}
use Rattle.dsa_outside.specs.Seen.{FilesSeen, SinkSeen}
use Rattle.csv_instance.specs.Records.{Record, table_of}
use Rattle.csv_instance.specs.Parse.{parse}
use Rattle.log_text.specs.declared.fault.TextFault.{TextFault}
use Rattle.log_check.specs.declared.fault.CheckFault.{CheckFault}
use Rattle.command_words.specs.Options.{Word}
use Rattle.command_words.specs.Forms.{ReadsInstance, reads_of}
use Rattle.command_words.specs.Requests.{Request}
use Rattle.command_words.specs.declared.role.Role.{Role}
use Rattle.command_words.specs.declared.role.Role.TheVariants as role
use Rattle.command_words.specs.Pairs.{name_in}
use Rattle.command_words.proofs.FileLemmas.{input_is_read, read_named}
use Rattle.run_status.specs.declared.status.Status.TheVariants as status
use Rattle.run_status.specs.declared.status.WrongCause.{WrongCause}
use Rattle.run_status.specs.declared.status.LogCause.TheVariants as refused
use Rattle.run_course.specs.Readings.{HoldsMore, IsUnread, IsWholeFile}
use Rattle.run_course.specs.Course.{Course, Comes, Outcome, says}
use Rattle.run_course.specs.Complete.{IsReadable}
use Rattle.readings.specs.Input.{opened}
use Rattle.readings.specs.Opens.{IsInput}
use Rattle.readings.specs.Judging.{judged}
use Rattle.readings.specs.Checking.{checked}
use Rattle.readings.specs.GivenLogs.{HoldsAccepted, HoldsNoText, HoldsNoRefutation}
use Rattle.dsaplan_core.specs.Complete.{HoldsInstance, IsReady, IsUndisturbed}
use Rattle.dsaplan_core.proofs.Gives.{IfUnreadable, checked_gives, judged_gives, opened_gives}

is_told : (held : Option FileMap) (name bytes : List ℕ) → file_at held name ≡ Some bytes → IsSome held
is_told None name bytes is = absurd cc
is_told (Some m) name bytes is = refl

pub not_missing : (held : Option FileMap) (name bytes : List ℕ) → file_at held name ≡ Some bytes →
    IsMissing held name → ⊥
not_missing None name bytes is missing = missing
not_missing (Some m) name bytes is missing = cc

-- a file that is held is read as it is
pub same_bytes : (files : FilesSeen) (role : Role) (name : Word) (bytes b : List ℕ) →
    file_at files.held name ≡ Some b → IsWholeFile files role name bytes → bytes ≡ b
same_bytes files role name bytes b is whole =
    let other : file_at files.held name ≡ Some bytes = whole.held (is_told files.held name b is) in cc

-- so a readable file is read as one
pub same_reading : (files : FilesSeen) (own : Role) (name : Word) → IsReadable files own name → (a b : List ℕ) →
    IsWholeFile files own name a → IsWholeFile files own name b → a ≡ b
same_reading files own name there a b one other =
    same_bytes files own name a there.bytes there.held one
    ∙ sym (same_bytes files own name b there.bytes there.held other)

-- and as an input it has one table
pub same_table : (files : FilesSeen) (name : Word) (I : Instance) → IsReadable files role.Input name →
    (t u : List Record) → IsInput files name t I → IsInput files name u I → t ≡ u
same_table files name I there t u one other =
    one.records
    ∙ (ap table_of (same_reading files role.Input name there one.bytes other.bytes one.whole other.whole)
    ∙ sym other.records)

not_more : (files : FilesSeen) (role : Role) (name : Word) → IsReadable files role name → HoldsMore files role name → ⊥
not_more files role name there more =
    let same : more.bytes ≡ there.bytes = (let a = more.held in let b = there.held in cc) in
    let long = more.long in
    let short = there.short in
    let lengths = ap length same in
    omega (arith, lengths, long, short)

module _ (old new : FilesSeen) (before after : SinkSeen) (r : Request) (calm : IsUndisturbed r old new before after)
    (own : Role) (among : IsIn own (reads_of r.verb)) (there : IsReadable old own (name_in r.pairs own)) where
  not_unread : IsUnread old new (name_in r.pairs own) → ⊥
  not_unread (inl rose) = calm.files (name_in r.pairs own) (read_named r own among) rose
  not_unread (inr missing) = not_missing old.held (name_in r.pairs own) there.bytes there.held missing

  not_long : (IsSome old.held → HoldsMore old own (name_in r.pairs own)) → ⊥
  not_long long = not_more old own (name_in r.pairs own) there
      (long (is_told old.held (name_in r.pairs own) there.bytes there.held))

  -- reading a file of the command whole does not fail, where it is readable
  pub readable_served : (P : Outcome → Type 0) → IfUnreadable old new P own (name_in r.pairs own)
  readable_served P = (λ unread. absurd (not_unread unread), λ long. absurd (not_long long))

module _ (old new : FilesSeen) (before after : SinkSeen) (I : Instance) (r : Request)
    (calm : IsUndisturbed r old new before after) (among : IsIn role.Input (reads_of r.verb))
    (there : HoldsInstance I old (name_in r.pairs role.Input)) where
  -- the bytes of the input are those that are held
  read_as : (bytes : List ℕ) → IsWholeFile old role.Input (name_in r.pairs role.Input) bytes →
      parse (table_of bytes) ≡ Ok I
  read_as bytes whole =
      let same = same_bytes old role.Input (name_in r.pairs role.Input) bytes there.file.bytes there.file.held whole
      in
      ap (λ b. parse (table_of b)) same ∙ there.parsed

  -- a course that reads the input goes on with its table and this instance
  pub held_read : (P : Outcome → Type 0) (next : List Record → Instance → Course) →
      ((table : List Record) → IsInput old (name_in r.pairs role.Input) table I →
      (o : Outcome) → Comes old new (next table I) o → P o) →
      (o : Outcome) → Comes old new (opened (name_in r.pairs role.Input) next) o → P o
  held_read P next given = opened_gives old new P (name_in r.pairs role.Input) next
      (readable_served old new before after r calm role.Input among there.file P)
      (λ fault bad. absurd (let a = read_as bad.bytes bad.whole in let b = bad.refused in cc))
      (λ table J input o comes.
      let mine : parse table ≡ Ok I = ap parse input.records ∙ read_as input.bytes input.whole in
      let same : J ≡ I = (let a = input.parsed in cc) in
      given table (subst (IsInput old (name_in r.pairs role.Input) table) same input) o
      (subst (λ (K : Instance). Comes old new (next table K) o) same comes))

module _ (old new : FilesSeen) (before after : SinkSeen) (I : Instance) (r : Request) (ready : IsReady old r I)
    (calm : IsUndisturbed r old new before after) where
  -- each file of a command that is ready is
  pub served : (P : Outcome → Type 0) (own : Role) → IsIn own (reads_of r.verb) →
      IfUnreadable old new P own (name_in r.pairs own)
  served P own among = readable_served old new before after r calm own among (ready.files own among) P

  -- a course that reads the input goes on with its table and the instance
  pub opened_read : ReadsInstance r.verb → (P : Outcome → Type 0) (next : List Record → Instance → Course) →
      ((table : List Record) → IsInput old (name_in r.pairs role.Input) table I →
      (o : Outcome) → Comes old new (next table I) o → P o) →
      (o : Outcome) → Comes old new (opened (name_in r.pairs role.Input) next) o → P o
  opened_read among = held_read old new before after I r calm (input_is_read r.verb among) (ready.input among)

  -- the same, whatever the table
  pub opened_served : ReadsInstance r.verb → (P : Outcome → Type 0) (next : List Record → Instance → Course) →
      ((table : List Record) → (o : Outcome) → Comes old new (next table I) o → P o) →
      (o : Outcome) → Comes old new (opened (name_in r.pairs role.Input) next) o → P o
  opened_served among P next given = opened_read among P next (λ table input. given table)

  pub judged_served : IsIn role.Layout (reads_of r.verb) → (P : Outcome → Type 0) (table : List Record)
      (C : ℕ) (next : List ℕ → Course) → ((cause : WrongCause) → P (says (status.Wrong cause))) →
      ((offsets : List ℕ) → (o : Outcome) → Comes old new (next offsets) o → P o) →
      (o : Outcome) → Comes old new (judged (name_in r.pairs role.Layout) table I C next) o → P o
  judged_served among P table C next wrongly given =
      judged_gives old new P (name_in r.pairs role.Layout) table I C next (served P role.Layout among)
      (λ cause wrong. wrongly cause) (λ offsets gives. given offsets)

  pub checked_served : IsIn role.Log (reads_of r.verb) → (P : Outcome → Type 0) (accepted : Log → Outcome → Type 0) →
      ((fault : TextFault) →
      HoldsNoText old (name_in r.pairs role.Log) (status.LogRefused (refused.Text fault)) →
      P (says (status.LogRefused (refused.Text fault)))) →
      ((fault : CheckFault) →
      HoldsNoRefutation old (name_in r.pairs role.Log) I (status.LogRefused (refused.Check fault)) →
      P (says (status.LogRefused (refused.Check fault)))) →
      ((log : Log) → HoldsAccepted old (name_in r.pairs role.Log) I log → (o : Outcome) → accepted log o → P o) →
      (o : Outcome) → Comes old new (checked (name_in r.pairs role.Log) I accepted) o → P o
  checked_served among P accepted =
      checked_gives old new P (name_in r.pairs role.Log) I accepted (served P role.Log among)
