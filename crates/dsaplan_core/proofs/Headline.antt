-- What an answer promises: of the files, of its choice, of a report, and of a write that failed.
use Rattle.std.proofs.Common.{◌≡◌, ◌∷◌, ◌++◌, [], List, Option, Some, None, Ok, Err, refl, sym, subst, inl}
use Rattle.dsa_outside.specs.Seen.{FilesSeen, SinkSeen}
use Rattle.command_words.specs.Options.{Word}
use Rattle.command_words.specs.Pairs.{Pair}
use Rattle.command_words.specs.Requests.{Request, request_of}
use Rattle.command_words.specs.declared.verb.Verb.{Verb}
use Rattle.command_words.specs.declared.verb.Verb.TheVariants as verb
use Rattle.command_words.specs.declared.fault.UsageFault.{UsageFault}
use Rattle.command_words.specs.declared.role.Role.{Role}
use Rattle.run_status.specs.Lines.{line}
use Rattle.run_status.specs.Spoken.{IsSpoken}
use Rattle.run_status.specs.declared.status.Status.{Status}
use Rattle.run_status.specs.declared.status.Status.TheVariants as status
use Rattle.run_course.specs.Course.{Comes, Outcome, Write}
use Rattle.run_course.specs.Answers.{Answers, AreBroken, IsSaid, Leaves, as_told, with_writes}
use Rattle.dsaplan_core.specs.Courses.{course, course_with}
use Rattle.dsaplan_core.specs.Theorem.{Headline}
use Rattle.dsaplan_core.specs.Judged.{Judged}
use Rattle.dsaplan_core.specs.Derived.{Derived}
use Rattle.dsaplan_core.specs.Choice.{Choice}
use Rattle.dsaplan_core.specs.Causes.{IsCaused}
use Rattle.dsaplan_core.specs.Lost.{IsOwnWrite, LosesFile}
use Rattle.dsaplan_core.specs.Refused.{IsMisuse}
use Rattle.dsaplan_core.specs.Shown.{Shows, Tells}
use Rattle.dsaplan_core.proofs.Answered.{answered, words_give}
use Rattle.dsaplan_core.proofs.Promised.{Promised, to_derived, to_headline, to_judged}
use Rattle.dsaplan_core.proofs.Promises.{AreOwn, Blames, Promises}
use Rattle.dsaplan_core.proofs.Solving.{solve_promises}
use Rattle.dsaplan_core.proofs.Finding.{least_promises}
use Rattle.dsaplan_core.proofs.Packed.{pack_promises}
use Rattle.dsaplan_core.proofs.Read.{draw_promises, refute_promises, report_promises, trim_promises, upgrade_promises, verify_promises}
use Rattle.dsaplan_core.proofs.Importing.{import_promises}
use Rattle.dsaplan_core.proofs.Unrolling.{unroll_promises}
use Rattle.dsaplan_core.proofs.Explained.{classes_promises, core_promises}
use Rattle.dsaplan_core.proofs.Reported.{reports_promise, trial_promises}

-- of writes that are all own, one after the first ones is too
pub one_own : (r : Request) (made : List Write) (lost : Write) (rest : List Write) → AreOwn r (made ++ (lost ∷ rest)) →
    IsOwnWrite r lost
one_own r [] lost rest own = own.0
one_own r (w ∷ made) lost rest own = one_own r made lost rest own.1

none_lost : (made : List Write) (lost : Write) (rest : List Write) → [] ≡ made ++ (lost ∷ rest) → ⊥
none_lost [] lost rest is = cc
none_lost (w ∷ made) lost rest is = cc

-- a status that blames no file is caused as it refuses
cause_of : (words : List Word) (old new : FilesSeen) (s : Status) → Blames words old new s → IsCaused words old new s
cause_of words old new (status.ReadFault role) blames = tt
cause_of words old new (status.TooLong role) blames = tt
cause_of words old new (status.WriteFault role) blames = tt
cause_of words old new s blames = blames

module _ (words : List Word) (old new : FilesSeen) where
  pub promised : (v : Verb) (pairs : List Pair) → request_of words ≡ Ok (record { verb = v; pairs = pairs }) →
      (o : Outcome) → Comes old new (course_with v pairs) o →
      Promises words old new (record { verb = v; pairs = pairs }) o
  promised verb.Solve pairs is o comes = solve_promises words old new pairs is o comes
  promised verb.Least pairs is o comes = least_promises words old new pairs is o comes
  promised verb.Pack pairs is o comes = pack_promises words old new pairs is o comes
  promised verb.Verify pairs is o comes = verify_promises words old new pairs is o comes
  promised verb.Refute pairs is o comes = refute_promises words old new pairs is o comes
  promised verb.Trim pairs is o comes = trim_promises words old new pairs is o comes
  promised verb.Upgrade pairs is o comes = upgrade_promises words old new pairs is o comes
  promised verb.Report pairs is o comes = report_promises words old new pairs is o comes
  promised verb.Draw pairs is o comes = draw_promises words old new pairs is o comes
  promised verb.Trial pairs is o comes = trial_promises words old new pairs is o comes
  promised verb.Import pairs is o comes = import_promises words old new pairs is o comes
  promised verb.Unroll pairs is o comes = unroll_promises words old new pairs is o comes
  promised verb.Classes pairs is o comes = classes_promises words old new pairs is o comes
  promised verb.Core pairs is o comes = core_promises words old new pairs is o comes
  promised v pairs is o comes = reports_promise words old new pairs v (inl refl) is o comes

  -- what is promised of an outcome of the words that is written
  abbrev Holds : Outcome → Type 0
  Holds o = new.held ≡ with_writes old.held o.writes →
      Promised words old new o.status × Choice words old new o.status × Tells words old new o.status o.text
      × Blames words old new o.status

  written : (o : Outcome) → Comes old new (course words) o → Holds o
  written = words_give old new words Holds (λ fault is files. (tt, tt, refl, record { refused = is; files = files }))
      (λ r is o comes. (promised r.verb r.pairs is o comes).0)

  -- a write that fails is one of the command's
  broken : (role : Role) (o : Outcome) → Comes old new (course words) o → AreBroken old new o.writes role →
      LosesFile words old new role
  broken role = words_give old new words (λ o. AreBroken old new o.writes role → LosesFile words old new role)
      (λ fault is left. absurd (none_lost left.made left.lost left.rest left.order))
      (λ r is o comes left. record {
        request = r;
        outcome = o;
        made = left.made;
        lost = left.lost;
        rest = left.rest;
        asked = is;
        comes = comes;
        order = left.order;
        its_role = left.its_role;
        own = one_own r left.made left.lost left.rest
            (subst (AreOwn r) left.order (promised r.verb r.pairs is o comes).1);
        rose = left.rose;
        others = left.others;
      })

  module _ (before after : SinkSeen) where
    pub headline : (s : Status) → Answers (course words) old new before after s → Headline words old new s
    headline = answered (course words) old new before after (Headline words old new)
        (λ o comes files. to_headline words old new o.status (written o comes files).0) (λ role o comes left. tt)
        (λ rose. tt) tt

    pub judged : (s : Status) → Answers (course words) old new before after s → Judged words old new s
    judged = answered (course words) old new before after (Judged words old new)
        (λ o comes files. to_judged words old new o.status (written o comes files).0) (λ role o comes left. tt)
        (λ rose. tt) tt

    pub derived : (s : Status) → Answers (course words) old new before after s → Derived words old new s
    derived = answered (course words) old new before after (Derived words old new)
        (λ o comes files. to_derived words old new o.status (written o comes files).0) (λ role o comes left. tt)
        (λ rose. tt) tt

    pub choice : (s : Status) → Answers (course words) old new before after s → Choice words old new s
    choice = answered (course words) old new before after (Choice words old new)
        (λ o comes files. (written o comes files).1) (λ role o comes left. tt) (λ rose. tt) tt

    pub blamed : (s : Status) → Answers (course words) old new before after s → Blames words old new s
    blamed = answered (course words) old new before after (Blames words old new)
        (λ o comes files. (written o comes files).3) (λ role o comes left. broken role o comes left) (λ rose. tt) tt

    pub caused : (s : Status) → Answers (course words) old new before after s → IsCaused words old new s
    caused s answer = cause_of words old new s (blamed s answer)

    printed : (s : Status) → IsSaid (course words) old new before after s → Shows words old new before after s
    printed s answer = go answer.tells.outcome answer.tells.lost answer.tells.comes answer.tells.files
        answer.tells.its_status answer.tells.its_text
      where
        go : (o : Outcome) (lost : Option Role) → Comes old new (course words) o → Leaves old new o.writes lost →
            s ≡ (as_told o lost).status → answer.text ≡ (as_told o lost).text → Shows words old new before after s
        go o None comes left is same = record {
          text = answer.text;
          tells = subst (λ t. Tells words old new s t) (sym same)
              (subst (λ s. Tells words old new s o.text) (sym is) (written o comes left).2);
          printed = answer.printed;
        }
        go o (Some role) comes left is same = record {
          text = answer.text;
          tells = subst (λ t. Tells words old new s t) (sym same)
              (subst (λ s. Tells words old new s (line (status.WriteFault role))) (sym is) refl);
          printed = answer.printed;
        }

    pub shown : (s : Status) → IsSpoken s → Answers (course words) old new before after s →
        Shows words old new before after s
    shown status.PrintFault spoken answer = absurd spoken
    shown status.NoMemory spoken answer = absurd spoken
    shown s spoken answer = printed s answer

    -- words that are no command
    pub misused : (fault : UsageFault) → request_of words ≡ Err fault → (s : Status) →
        Answers (course words) old new before after s → IsMisuse fault s
    misused fault bad = answered (course words) old new before after (IsMisuse fault)
        (λ o comes files. words_give old new words (λ o. IsMisuse fault o.status) (λ f is. cc)
        (λ r is o comes. absurd cc) o comes)
        (λ role o comes left. absurd (words_give old new words (λ o. AreBroken old new o.writes role → ⊥)
        (λ f is left. none_lost left.made left.lost left.rest left.order) (λ r is o comes left. cc) o comes left))
        (λ rose. tt) tt
