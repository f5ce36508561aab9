-- What holds of the status that a run ends with, by what its course comes to.
use Rattle.std.proofs.Common.{◌≡◌, List, Option, Some, None, Result, Ok, Err, refl, sym, subst}
use Rattle.dsa_model.specs.Counts.{Rose}
use Rattle.dsa_outside.specs.Seen.{FilesSeen, SinkSeen}
use Rattle.command_words.specs.Options.{Word}
use Rattle.command_words.specs.Requests.{Request, request_of}
use Rattle.command_words.specs.declared.fault.UsageFault.{UsageFault}
use Rattle.command_words.specs.declared.role.Role.{Role}
use Rattle.run_status.specs.declared.status.Status.{Status}
use Rattle.run_status.specs.declared.status.Status.TheVariants as status
use Rattle.run_course.specs.Course.{Course, Comes, Outcome, says}
use Rattle.run_course.specs.Answers.{Answers, AreBroken, IsSaid, Leaves, as_told, with_writes}
use Rattle.dsaplan_core.specs.Courses.{course, course_or_fault, course_with}

module _ (c : Course) (old new : FilesSeen) (before after : SinkSeen) (P : Status → Type 0)
    (own : (o : Outcome) → Comes old new c o → new.held ≡ with_writes old.held o.writes → P o.status)
    (lost : (role : Role) (o : Outcome) → Comes old new c o → AreBroken old new o.writes role →
    P (status.WriteFault role)) where
  told : (s : Status) (o : Outcome) (lost_role : Option Role) → Comes old new c o → Leaves old new o.writes lost_role →
      s ≡ (as_told o lost_role).status → P s
  told s o None comes left is = subst P (sym is) (own o comes left)
  told s o (Some role) comes left is = subst P (sym is) (lost role o comes left)

  said : (s : Status) → IsSaid c old new before after s → P s
  said s answer = told s answer.tells.outcome answer.tells.lost answer.tells.comes answer.tells.files
      answer.tells.its_status

  -- it holds of a status where it holds of each outcome that is written, of each write that fails, of a text that is
  -- not taken, and of want of memory
  pub answered : (Rose before.faults after.faults → P status.PrintFault) → P status.NoMemory →
      (s : Status) → Answers c old new before after s → P s
  answered unsaid cut status.PrintFault answer = unsaid answer.rose
  answered unsaid cut status.NoMemory answer = cut
  answered unsaid cut s answer = said s answer

-- words come to what their command comes to, or to their first fault
pub words_give : (old new : FilesSeen) (words : List Word) (P : Outcome → Type 0) →
    ((fault : UsageFault) → request_of words ≡ Err fault → P (says (status.Usage fault))) →
    ((r : Request) → request_of words ≡ Ok r → (o : Outcome) → Comes old new (course_with r.verb r.pairs) o → P o) →
    (o : Outcome) → Comes old new (course words) o → P o
words_give old new words P bad good o comes = go (request_of words) refl comes
  where
    go : (r : Result Request UsageFault) → request_of words ≡ r → Comes old new (course_or_fault r) o → P o
    go (Ok r) is comes = good r is o comes
    go (Err fault) is comes = subst P (sym comes.1) (bad fault is)
