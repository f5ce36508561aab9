-- From what the course of a command comes to, to what the words come to.
use Rattle.std.proofs.Common.{◌≡◌, List, Result, sym, subst}
use Rattle.dsa_outside.specs.Seen.{FilesSeen, SinkSeen}
use Rattle.command_words.specs.Options.{Word}
use Rattle.command_words.specs.Requests.{Request, request_of}
use Rattle.command_words.specs.declared.verb.Verb.{Verb}
use Rattle.command_words.specs.declared.fault.UsageFault.{UsageFault}
use Rattle.run_status.specs.declared.status.Status.{Status}
use Rattle.run_course.specs.Answers.{Answers}
use Rattle.dsaplan_core.specs.Courses.{course, course_or_fault, course_with}

module _ (old new : FilesSeen) (before after : SinkSeen) (s : Status) where
  -- the words ask for this, or have this fault
  pub words_go : (words : List Word) (asked : Result Request UsageFault) → request_of words ≡ asked →
      Answers (course_or_fault asked) old new before after s → Answers (course words) old new before after s
  words_go words asked is answer =
      subst (λ (q : Result Request UsageFault). Answers (course_or_fault q) old new before after s) (sym is) answer

  -- the request has this command
  pub command_goes : (r : Request) (v : Verb) → v ≡ r.verb →
      Answers (course_with v r.pairs) old new before after s →
      Answers (course_with r.verb r.pairs) old new before after s
  command_goes r v is answer =
      subst (λ (v : Verb). Answers (course_with v r.pairs) old new before after s) is answer
