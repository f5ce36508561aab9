-- By which statuses a command is concluded where nothing outside it goes wrong.
use Rattle.std.proofs.Common.{◌≡◌, ◌^◌, ℕ, List, Option, Some, None, Result, Ok, Err, refl, sym, subst, inl, inr}
use Rattle.dsa_terms.specs.Buffers.{Instance}
use Rattle.dsa_terms.specs.Logs.{Log}
use Rattle.dsa_outside.specs.Seen.{FilesSeen, SinkSeen}
use Rattle.dsa_model.specs.Counts.{Rose}
use Rattle.csv_instance.specs.Records.{Record, table_of}
use Rattle.command_words.specs.Options.{Word}
use Rattle.command_words.specs.Pairs.{Pair, name_in, number_at}
use Rattle.command_words.specs.Requests.{Request, request_of}
use Rattle.command_words.specs.declared.option.OptionName.TheVariants as option
use Rattle.command_words.specs.declared.verb.Verb.{Verb}
use Rattle.command_words.specs.declared.verb.Verb.TheVariants as verb
use Rattle.command_words.specs.declared.role.Role.{Role}
use Rattle.command_words.specs.declared.role.Role.TheVariants as role
use Rattle.command_words.proofs.FileLemmas.{write_named}
use Rattle.run_status.specs.declared.status.Status.{Status}
use Rattle.run_status.specs.declared.status.Status.TheVariants as status
use Rattle.run_course.specs.Course.{Comes, Concludes, Outcome, says}
use Rattle.run_course.specs.Answers.{Answers, AreBroken}
use Rattle.readings.specs.Judging.{judged}
use Rattle.readings.specs.Checking.{checked}
use Rattle.judging.specs.Judging.{ShowsLayout, TellsRight}
use Rattle.judging.specs.Drawing.{Draws}
use Rattle.checking.specs.Checking.{Trims, Upgrades}
use Rattle.fact_reports.specs.Reporting.{ShowsReport}
use Rattle.trace_import.specs.Faults.{trace_of}
use Rattle.trace_import.specs.Traces.{Trace}
use Rattle.trace_import.specs.declared.fault.TraceFault.{TraceFault}
use Rattle.importing.specs.Importing.{Imports}
use Rattle.importing.specs.Unrolling.{Unrolls}
use Rattle.cyclic_plan.specs.Unrolled.{unrolled_of}
use Rattle.cyclic_plan.specs.declared.fault.CycleFault.{CycleFault}
use Rattle.planning.specs.Planning.{Plans}
use Rattle.writings.specs.Answers.{Gives}
use Rattle.dsaplan_core.specs.Courses.{ConcludesWith, IsAnswer, course, course_with, names_in}
use Rattle.dsaplan_core.specs.Complete.{IsReady, IsUndisturbed}
use Rattle.dsaplan_core.specs.Conclusions.{IsConclusion, MayStayOpen}
use Rattle.dsaplan_core.specs.Lost.{IsOwnWrite}
use Rattle.dsaplan_core.proofs.Answered.{answered, words_give}
use Rattle.dsaplan_core.proofs.Gives as gives
use Rattle.dsaplan_core.proofs.Gives.{trial_gives}
use Rattle.dsaplan_core.proofs.Headline.{one_own, promised}
use Rattle.dsaplan_core.proofs.Promises.{AreOwn}
use Rattle.dsaplan_core.proofs.Served.{served, checked_served, judged_served, opened_served}

memory : (v : Verb) (pairs : List Pair) (I : Instance) → IsConclusion v pairs I status.NoMemory
memory verb.Solve pairs I = tt
memory v pairs I = tt

solved : (pairs : List Pair) (J : Instance) (s : Status) (layout : Option (List ℕ)) (log : Option Log) →
    IsAnswer verb.Solve pairs J s layout log → IsConclusion verb.Solve pairs J s
solved pairs J (status.Feasible C) (Some offsets) None answer = (answer.0, (offsets, answer.1.layout))
solved pairs J (status.Infeasible C) None (Some log) answer = (answer.0, answer.1.refuted.infeasible)
solved pairs J (status.Open low high) (Some offsets) (Some log) answer =
    subst (λ k. MayStayOpen verb.Solve pairs k J low high) (sym answer.given) answer.short
solved pairs J s layout log answer = absurd answer

found : (pairs : List Pair) (J : Instance) (s : Status) (layout : Option (List ℕ)) (log : Option Log) →
    IsAnswer verb.Least pairs J s layout log → IsConclusion verb.Least pairs J s
found pairs J (status.Least C) (Some offsets) log answer = answer.is_least
found pairs J (status.Open low high) (Some offsets) (Some log) answer =
    subst (λ k. MayStayOpen verb.Least pairs k J low high) (sym answer.given) answer.short
found pairs J s layout log answer = absurd answer

packed : (pairs : List Pair) (J : Instance) (s : Status) (layout : Option (List ℕ)) (log : Option Log) →
    IsAnswer verb.Pack pairs J s layout log → IsConclusion verb.Pack pairs J s
packed pairs J (status.Feasible C) (Some offsets) None answer = (answer.0, (offsets, answer.1))
packed pairs J (status.Infeasible C) None (Some log) answer = (answer.0, answer.1.infeasible)
packed pairs J (status.Least C) (Some offsets) log answer = (answer.0, answer.1.is_least)
packed pairs J (status.Open low high) (Some offsets) (Some log) answer = answer.ends
packed pairs J s layout log answer = absurd answer

-- what a command concludes that decides
decided : (v : Verb) (pairs : List Pair) (J : Instance) →
    ((s : Status) (layout : Option (List ℕ)) (log : Option Log) → IsAnswer v pairs J s layout log →
    IsConclusion v pairs J s) →
    (table : List Record) (o : Outcome) → Gives (IsAnswer v pairs J) (names_in pairs) table o →
    IsConclusion v pairs J o.status
decided v pairs J concludes table o given = subst (λ (o : Outcome). IsConclusion v pairs J o.status) (sym given.written)
    (concludes given.status given.layout given.log given.answer)

planned : (pairs : List Pair) (table : List Record) (J : Instance) (o : Outcome) →
    Plans (name_in pairs role.Output) table J o →
    IsConclusion verb.Classes pairs J o.status
planned pairs table J o (inl plan) =
    subst (λ (o : Outcome). IsConclusion verb.Classes pairs J o.status) (sym plan.2) plan.1.plain
planned pairs table J o (inr rough) =
    subst (λ (o : Outcome). IsConclusion verb.Classes pairs J o.status) (sym rough.2) rough.1

explained : (pairs : List Pair) (table : List Record) (J : Instance) (o : Outcome) →
    ConcludesWith verb.Core pairs table J o → IsConclusion verb.Core pairs J o.status
explained pairs table J o (inl core) =
    subst (λ (o : Outcome). IsConclusion verb.Core pairs J o.status) (sym core.3) core.2.is_core.infeasible
explained pairs table J o (inr fits) =
    subst (λ (o : Outcome). IsConclusion verb.Core pairs J o.status) (sym fits.1) (refl, fits.0)

imports_conclude : (pairs : List Pair) (J : Instance) (r : Result Trace TraceFault) (o : Outcome) →
    Imports (name_in pairs role.Output) r o → IsConclusion verb.Import pairs J o.status
imports_conclude pairs J (Ok trace) o told =
    subst (λ (o : Outcome). IsConclusion verb.Import pairs J o.status) (sym told.1) tt
imports_conclude pairs J (Err fault) o told =
    subst (λ (o : Outcome). IsConclusion verb.Import pairs J o.status) (sym told) tt

unrolls_conclude : (pairs : List Pair) (table : List Record) (J : Instance) (r : Result Instance CycleFault)
    (o : Outcome) → Unrolls (number_at pairs option.Period) (name_in pairs role.Output) table r o →
    IsConclusion verb.Unroll pairs J o.status
unrolls_conclude pairs table J (Ok I) o told =
    subst (λ (o : Outcome). IsConclusion verb.Unroll pairs J o.status) (sym told.1) tt
unrolls_conclude pairs table J (Err fault) o told =
    subst (λ (o : Outcome). IsConclusion verb.Unroll pairs J o.status) (sym told) tt

-- where nothing outside fails, no write does
pub not_broken : (old new : FilesSeen) (before after : SinkSeen) (words : List Word) (r : Request) →
    request_of words ≡ Ok r → IsUndisturbed r old new before after → (role : Role) (o : Outcome) →
    Comes old new (course words) o → AreBroken old new o.writes role → ⊥
not_broken old new before after words r is calm role =
    words_give old new words (λ o. AreBroken old new o.writes role → ⊥) (λ fault bad left. absurd cc)
    (λ s asked o comes left.
    let same : s ≡ r = (let a = is in let b = asked in cc) in
    let own = one_own s left.made left.lost left.rest
    (subst (AreOwn s) left.order (promised words old new s.verb s.pairs asked o comes).1) in
    let mine : IsOwnWrite r left.lost = subst (λ (s : Request). IsOwnWrite s left.lost) same own in
    let rose = subst (λ n. Rose (old.faults n) (new.faults n)) mine.1 left.rose in
    calm.files (name_in r.pairs left.lost.role)
    (write_named r left.lost.role mine.0) rose)

-- where nothing outside fails, what holds of each status that the command's course comes to, and of want of memory,
-- holds of the answer
pub calm_answer : (old new : FilesSeen) (before after : SinkSeen) (words : List Word) (r : Request) →
    request_of words ≡ Ok r → IsUndisturbed r old new before after → (P : Status → Type 0) → P status.NoMemory →
    ((o : Outcome) → Comes old new (course_with r.verb r.pairs) o → P o.status) → (s : Status) →
    Answers (course words) old new before after s → P s
calm_answer old new before after words r is calm P cut own = answered (course words) old new before after P
    (λ o comes files. words_give old new words (λ o. P o.status) (λ fault bad. absurd cc)
    (λ s asked o comes.
    let same : s ≡ r = (let a = is in let b = asked in cc) in
    own o (subst (λ (s : Request). Comes old new (course_with s.verb s.pairs) o) same comes)) o comes)
    (λ role o comes left. absurd (not_broken old new before after words r is calm role o comes left))
    (λ rose. absurd (calm.sink rose)) cut

module _ (old new : FilesSeen) (before after : SinkSeen) (I : Instance) where
  -- a request whose files are readable and are not disturbed
  abbrev IsLeftAlone : Request → Type 0
  IsLeftAlone r = IsReady old r I × IsUndisturbed r old new before after

  abbrev IsDone : Verb → List Pair → Outcome → Type 0
  IsDone v pairs o = IsConclusion v pairs I o.status

  imported_done : (pairs : List Pair) → IsLeftAlone (record { verb = verb.Import; pairs = pairs }) → (o : Outcome) →
      Comes old new (course_with verb.Import pairs) o → IsDone verb.Import pairs o
  imported_done pairs (ready, calm) o (inl failed) =
      gives.unreadable old new (IsDone verb.Import pairs) role.Trace (name_in pairs role.Trace)
      (served old new before after I (record { verb = verb.Import; pairs = pairs }) ready calm
      (IsDone verb.Import pairs) role.Trace (inl refl)) o failed.0 failed.1
  imported_done pairs (ready, calm) o (inr (bytes, whole, comes)) =
      imports_conclude pairs I (trace_of bytes) o comes.1

  unrolled_done : (pairs : List Pair) → IsLeftAlone (record { verb = verb.Unroll; pairs = pairs }) → (o : Outcome) →
      Comes old new (course_with verb.Unroll pairs) o → IsDone verb.Unroll pairs o
  unrolled_done pairs (ready, calm) o (inl failed) =
      gives.unreadable old new (IsDone verb.Unroll pairs) role.Input (name_in pairs role.Input)
      (served old new before after I (record { verb = verb.Unroll; pairs = pairs }) ready calm
      (IsDone verb.Unroll pairs) role.Input (inl refl)) o failed.0 failed.1
  unrolled_done pairs (ready, calm) o (inr (bytes, whole, comes)) =
      unrolls_conclude pairs (table_of bytes) I (unrolled_of (number_at pairs option.Period) (table_of bytes)) o comes.1

  done : (v : Verb) (pairs : List Pair) → IsLeftAlone (record { verb = v; pairs = pairs }) → (o : Outcome) →
      Comes old new (course_with v pairs) o → IsDone v pairs o
  done verb.Solve pairs (ready, calm) =
      opened_served old new before after I (record { verb = verb.Solve; pairs = pairs }) ready calm
      (inr (inl refl))
      (IsDone verb.Solve pairs)
      (λ table J. Concludes (ConcludesWith verb.Solve pairs table J))
      (λ table o comes. decided verb.Solve pairs I (solved pairs I) table o comes.1)
  done verb.Least pairs (ready, calm) =
      opened_served old new before after I (record { verb = verb.Least; pairs = pairs }) ready calm
      (inl refl)
      (IsDone verb.Least pairs)
      (λ table J. Concludes (ConcludesWith verb.Least pairs table J))
      (λ table o comes. decided verb.Least pairs I (found pairs I) table o comes.1)
  done verb.Pack pairs (ready, calm) =
      opened_served old new before after I (record { verb = verb.Pack; pairs = pairs }) ready calm
      (inl refl)
      (IsDone verb.Pack pairs)
      (λ table J. Concludes (ConcludesWith verb.Pack pairs table J))
      (λ table o comes. decided verb.Pack pairs I (packed pairs I) table o comes.1)
  done verb.Verify pairs (ready, calm) =
      let r : Request = record { verb = verb.Verify; pairs = pairs } in
      let capacity = number_at pairs option.Capacity in
      opened_served old new before after I r ready calm (inr (inl refl)) (IsDone verb.Verify pairs)
      (λ table J. judged (name_in pairs role.Layout) table J capacity
      (λ offsets. Concludes (TellsRight J capacity offsets)))
      (λ table. judged_served old new before after I r ready calm (inr (inl refl)) (IsDone verb.Verify pairs)
      table capacity (λ offsets. Concludes (TellsRight I capacity offsets)) (λ cause. tt)
      (λ offsets o comes. subst (IsDone verb.Verify pairs) (sym comes.1.told) tt))
  done verb.Refute pairs (ready, calm) =
      let r : Request = record { verb = verb.Refute; pairs = pairs } in
      opened_served old new before after I r ready calm (inl refl) (IsDone verb.Refute pairs)
      (λ table J. checked (name_in pairs role.Log) J (λ log o. o ≡ says (status.Accepted log.capacity)))
      (λ table. checked_served old new before after I r ready calm (inr (inl refl)) (IsDone verb.Refute pairs)
      (λ log o. o ≡ says (status.Accepted log.capacity)) (λ fault bad. tt) (λ fault bad. tt)
      (λ log holds o told. subst (IsDone verb.Refute pairs) (sym told) tt))
  done verb.Trim pairs (ready, calm) =
      let r : Request = record { verb = verb.Trim; pairs = pairs } in
      opened_served old new before after I r ready calm (inl refl) (IsDone verb.Trim pairs)
      (λ table J. checked (name_in pairs role.Log) J (Trims (name_in pairs role.Output) J))
      (λ table. checked_served old new before after I r ready calm (inr (inl refl)) (IsDone verb.Trim pairs)
      (Trims (name_in pairs role.Output) I) (λ fault bad. tt) (λ fault bad. tt)
      (λ log holds o done. subst (IsDone verb.Trim pairs) (sym done.outcome) tt))
  done verb.Upgrade pairs (ready, calm) =
      let r : Request = record { verb = verb.Upgrade; pairs = pairs } in
      opened_served old new before after I r ready calm (inl refl) (IsDone verb.Upgrade pairs)
      (λ table J. checked (name_in pairs role.Log) J (Upgrades (name_in pairs role.Output)))
      (λ table. checked_served old new before after I r ready calm (inr (inl refl)) (IsDone verb.Upgrade pairs)
      (Upgrades (name_in pairs role.Output)) (λ fault bad. tt) (λ fault bad. tt)
      (λ log holds o told. subst (IsDone verb.Upgrade pairs) (sym told.outcome) tt))
  done verb.Report pairs (ready, calm) =
      let r : Request = record { verb = verb.Report; pairs = pairs } in
      opened_served old new before after I r ready calm (inl refl) (IsDone verb.Report pairs)
      (λ table J. judged (name_in pairs role.Layout) table J (2 ^ 60)
      (λ offsets. Concludes (ShowsLayout table J offsets)))
      (λ table. judged_served old new before after I r ready calm (inr (inl refl)) (IsDone verb.Report pairs)
      table (2 ^ 60) (λ offsets. Concludes (ShowsLayout table I offsets)) (λ cause. tt)
      (λ offsets o comes. subst (IsDone verb.Report pairs) (sym comes.1.shown) tt))
  done verb.Draw pairs (ready, calm) =
      let r : Request = record { verb = verb.Draw; pairs = pairs } in
      opened_served old new before after I r ready calm (inl refl) (IsDone verb.Draw pairs)
      (λ table J. judged (name_in pairs role.Layout) table J (2 ^ 60)
      (λ offsets. Concludes (Draws (name_in pairs role.Output) table J offsets)))
      (λ table. judged_served old new before after I r ready calm (inr (inl refl)) (IsDone verb.Draw pairs)
      table (2 ^ 60) (λ offsets. Concludes (Draws (name_in pairs role.Output) table I offsets)) (λ cause. tt)
      (λ offsets o comes. subst (IsDone verb.Draw pairs) (sym comes.1.drawn) tt))
  done verb.Import pairs served = imported_done pairs served
  done verb.Unroll pairs served = unrolled_done pairs served
  done verb.Classes pairs (ready, calm) =
      opened_served old new before after I (record { verb = verb.Classes; pairs = pairs }) ready calm
      (inl refl)
      (IsDone verb.Classes pairs)
      (λ table J. Concludes (Plans (name_in pairs role.Output) table J))
      (λ table o comes. planned pairs table I o comes.1)
  done verb.Core pairs (ready, calm) =
      opened_served old new before after I (record { verb = verb.Core; pairs = pairs }) ready calm
      (inr (inl refl))
      (IsDone verb.Core pairs)
      (λ table J. Concludes (ConcludesWith verb.Core pairs table J))
      (λ table o comes. explained pairs table I o comes.1)
  done verb.Trial pairs (ready, calm) = trial_gives old new (IsDone verb.Trial pairs) (number_at pairs option.Seed)
      (number_at pairs option.Count) (number_at pairs option.Steps)
      (λ many. (refl, many)) (λ few o shows. subst (IsDone verb.Trial pairs) (sym shows.shown) few)
  done v pairs (ready, calm) =
      opened_served old new before after I (record { verb = v; pairs = pairs }) ready calm (inl refl)
      (IsDone v pairs) (λ table J. Concludes (ShowsReport v table J))
      (λ table o comes. subst (IsDone v pairs) (sym comes.1.shown) (table, comes.1.text, comes.1.report))

  module _ (words : List Word) (r : Request) (is : request_of words ≡ Ok r) (ready : IsReady old r I)
      (calm : IsUndisturbed r old new before after) where
    -- the status is one of those that conclude the command
    pub conclusion : (s : Status) → Answers (course words) old new before after s → IsConclusion r.verb r.pairs I s
    conclusion = calm_answer old new before after words r is calm (IsConclusion r.verb r.pairs I)
        (memory r.verb r.pairs I) (done r.verb r.pairs (ready, calm))
