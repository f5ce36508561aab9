-- A file of a command that holds more bytes than it may is too long.
use Rattle.std.proofs.Common.{◌≡◌, ◌∙◌, ◌^◌, ℕ, List, [], ◌∷◌, length, Ok, refl, sym, ap, subst, inl, inr, arith}
use Rattle.dsa_terms.specs.Buffers.{Instance}
use Rattle.dsa_terms.specs.Claims.{IsIn}
use Rattle.dsa_terms.specs.Logs.{Log}
use Rattle.dsa_outside.specs.Seen.{FilesSeen, SinkSeen}
use Rattle.csv_instance.specs.Records.{Record}
use Rattle.command_words.specs.Options.{Word}
use Rattle.command_words.specs.Forms.{reads_of}
use Rattle.command_words.specs.Pairs.{Pair, name_in, number_at}
use Rattle.command_words.specs.Requests.{Request, request_of}
use Rattle.command_words.specs.declared.option.OptionName.TheVariants as option
use Rattle.command_words.specs.declared.verb.Verb.{Verb}
use Rattle.command_words.specs.declared.verb.Verb.TheVariants as verb
use Rattle.command_words.specs.declared.role.Role.{Role}
use Rattle.command_words.specs.declared.role.Role.TheVariants as role
use Rattle.command_words.proofs.FileLemmas.{read_named}
use Rattle.run_status.specs.declared.status.Status.{Status}
use Rattle.run_status.specs.declared.status.Status.TheVariants as status
use Rattle.run_course.specs.Answers.{Answers}
use Rattle.run_course.specs.Complete.{IsCalm}
use Rattle.run_course.specs.Course.{Comes, Concludes, Course, Outcome, Reads, says}
use Rattle.run_course.specs.Readings.{HoldsMore, IsUnread, IsWholeFile}
use Rattle.readings.specs.Input.{opened}
use Rattle.readings.specs.Judging.{judged}
use Rattle.readings.specs.Checking.{checked}
use Rattle.judging.specs.Judging.{ShowsLayout, TellsRight}
use Rattle.judging.specs.Drawing.{Draws}
use Rattle.checking.specs.Checking.{Trims, Upgrades}
use Rattle.dsaplan_core.specs.Courses.{course, course_with}
use Rattle.dsaplan_core.specs.Complete.{HoldsInstance, IsTooLongFor, IsUndisturbed}
use Rattle.dsaplan_core.proofs.Concluded.{calm_answer}
use Rattle.dsaplan_core.proofs.Served.{held_read, not_missing, same_bytes}

-- the role is the first of these, or the second
abbrev IsFirst : Role → List Role → Type 0
IsFirst r [] = ⊥
IsFirst r (x ∷ xs) = x ≡ r

abbrev IsSecond : Role → List Role → Type 0
IsSecond r [] = ⊥
IsSecond r (x ∷ xs) = IsFirst r xs

-- ---- which file a course reads first
-- the course begins with the file of the role
abbrev BeginsWith : List Pair → Role → Course → Type 0
BeginsWith pairs r (Reads own name next) = (own ≡ r) × (name ≡ name_in pairs own)
BeginsWith pairs r (Concludes allowed) = ⊥

module _ (pairs : List Pair) where
  as_role : (own r : Role) (c : Course) → own ≡ r → BeginsWith pairs own c → BeginsWith pairs r c
  as_role own r c is = subst (λ (x : Role). BeginsWith pairs x c) is

  -- a command's course begins with the first file that the command reads
  begins : (v : Verb) (r : Role) → IsFirst r (reads_of v) → BeginsWith pairs r (course_with v pairs)
  begins verb.Trial r first = absurd first
  begins verb.Import r first = as_role role.Trace r (course_with verb.Import pairs) first (refl, refl)
  begins v r first = as_role role.Input r (course_with v pairs) first (refl, refl)

module _ (old new : FilesSeen) where
  -- ---- a file that holds more bytes than it may is not read whole, and it is there
  not_whole : (r : Role) (name : Word) (bytes : List ℕ) → HoldsMore old r name → IsWholeFile old r name bytes → ⊥
  not_whole r name bytes more whole =
      let lengths = ap length (same_bytes old r name bytes more.bytes more.held whole) in
      let long = more.long in
      let short = whole.short in
      omega (arith, lengths, long, short)

  not_unread : (r : Role) (name : Word) → IsCalm old new name → HoldsMore old r name → IsUnread old new name → ⊥
  not_unread r name calm more (inl rose) = calm rose
  not_unread r name calm more (inr missing) = not_missing old.held name more.bytes more.held missing

  -- so a course that reads it ends there
  ends : (r : Role) (name : Word) (next : List ℕ → Course) → IsCalm old new name → HoldsMore old r name →
      (o : Outcome) → Comes old new (Reads r name next) o → IsTooLongFor r o.status
  ends r name next calm more o (inl (inl failed, is)) = absurd (not_unread r name calm more failed.1)
  ends r name next calm more o (inl (inr long, is)) = subst (IsTooLongFor r) (sym long.0) refl
  ends r name next calm more o (inr (bytes, whole, comes)) = absurd (not_whole r name bytes more whole)

  module _ (pairs : List Pair) (r : Role) where
    abbrev IsTold : Outcome → Type 0
    IsTold o = IsTooLongFor r o.status

    module _ (calm : IsCalm old new (name_in pairs r))
        (more : HoldsMore old r (name_in pairs r)) where
      first_told : (c : Course) → BeginsWith pairs r c → (o : Outcome) → Comes old new c o → IsTold o
      first_told (Concludes allowed) begins o comes = absurd begins
      first_told (Reads own name next) (is_role, is_name) o comes =
          let named : name ≡ name_in pairs r = is_name ∙ ap (name_in pairs) is_role in
          let its_own : HoldsMore old own name = subst (λ (x : Word). HoldsMore old own x) (sym named)
          (subst (λ (x : Role). HoldsMore old x (name_in pairs r)) (sym is_role) more) in
          subst (λ (x : Role). IsTooLongFor x o.status) is_role
          (ends own name next (subst (IsCalm old new) (sym named) calm) its_own o comes)

    -- what is told of a command that opens its input and then begins with the file of the role
    module _ (I : Instance) (given : (next : List Record → Instance → Course) →
        ((table : List Record) → BeginsWith pairs r (next table I)) → (o : Outcome) →
        Comes old new (opened (name_in pairs role.Input) next) o → IsTold o) where
      judges : role.Layout ≡ r → (C : ℕ) (next : List Record → Instance → List ℕ → Course) →
          (o : Outcome) → Comes old new (opened (name_in pairs role.Input)
          (λ table J. judged (name_in pairs role.Layout) table J C (next table J))) o → IsTold o
      judges is C next = given (λ table J. judged (name_in pairs role.Layout) table J C (next table J))
          (λ table. as_role pairs role.Layout r (judged (name_in pairs role.Layout) table I C (next table I)) is
          (refl, refl))

      checks : role.Log ≡ r → (accepted : Instance → Log → Outcome → Type 0) → (o : Outcome) →
          Comes old new (opened (name_in pairs role.Input)
          (λ table J. checked (name_in pairs role.Log) J (accepted J))) o → IsTold o
      checks is accepted = given (λ table J. checked (name_in pairs role.Log) J (accepted J))
          (λ table. as_role pairs role.Log r (checked (name_in pairs role.Log) I (accepted I)) is (refl, refl))

      second_told : (v : Verb) → IsSecond r (reads_of v) → (o : Outcome) →
          Comes old new (course_with v pairs) o → IsTold o
      second_told verb.Verify second =
          let capacity = number_at pairs option.Capacity in
          judges second capacity (λ table J offsets. Concludes (TellsRight J capacity offsets))
      second_told verb.Report second = judges second (2 ^ 60)
          (λ table J offsets. Concludes (ShowsLayout table J offsets))
      second_told verb.Draw second = judges second (2 ^ 60)
          (λ table J offsets. Concludes (Draws (name_in pairs role.Output) table J offsets))
      second_told verb.Refute second = checks second (λ J log o. o ≡ says (status.Accepted log.capacity))
      second_told verb.Trim second = checks second (Trims (name_in pairs role.Output))
      second_told verb.Upgrade second = checks second (λ J. Upgrades (name_in pairs role.Output))
      second_told v second = absurd second

-- ---- what the answer is
module _ (old new : FilesSeen) (before after : SinkSeen) (words : List Word) (r : Request) (its : Role)
    (is : request_of words ≡ Ok r) (calm : IsUndisturbed r old new before after)
    (more : HoldsMore old its (name_in r.pairs its)) where
  abbrev IsAnswered : Status → Type 0
  IsAnswered s = Answers (course words) old new before after s → IsTooLongFor its s

  told : ((o : Outcome) → Comes old new (course_with r.verb r.pairs) o → IsTooLongFor its o.status) →
      (s : Status) → IsAnswered s
  told = calm_answer old new before after words r is calm (IsTooLongFor its) tt

  is_calm : IsIn its (reads_of r.verb) → IsCalm old new (name_in r.pairs its)
  is_calm among = calm.files (name_in r.pairs its) (read_named r its among)

  -- the first file that the command reads is too long
  pub first : (rest : List Role) → reads_of r.verb ≡ its ∷ rest → (s : Status) → IsAnswered s
  first rest reads =
      let among = subst (IsIn its) (sym reads) (inl refl) in
      let its_first = subst (IsFirst its) (sym reads) refl in
      told (first_told old new r.pairs its (is_calm among) more (course_with r.verb r.pairs)
      (begins r.pairs r.verb its its_first))

  -- the input holds an instance, and the second file is too long
  pub second : (I : Instance) → reads_of r.verb ≡ role.Input ∷ its ∷ [] →
      HoldsInstance I old (name_in r.pairs role.Input) → (s : Status) → IsAnswered s
  second I reads there =
      let input = subst (IsIn role.Input) (sym reads) (inl refl) in
      let among = subst (IsIn its) (sym reads) (inr (inl refl)) in
      let its_second = subst (IsSecond its) (sym reads) refl in
      told (second_told old new r.pairs its I
      (λ next next_begins. held_read old new before after I r calm input there (λ o. IsTooLongFor its o.status) next
      (λ table table_is. first_told old new r.pairs its (is_calm among) more (next table I) (next_begins table)))
      r.verb its_second)
