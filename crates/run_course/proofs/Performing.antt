-- From what a command concludes to what the run answers.
use Rattle.std.proofs.Common.{◌≡◌, ℕ, List, Option, Some, None, sym, ap, ◌∙◌, subst, inl, inr}
use Rattle.dsa_outside.specs.Faults.{NoneFell}
use Rattle.dsa_outside.specs.Held.{without_file}
use Rattle.command_words.specs.declared.role.Role.{Role}
use Rattle.run_status.specs.Spoken.{IsSpoken}
use Rattle.run_status.specs.declared.status.Status.{Status}
use Rattle.run_status.specs.declared.status.Status.TheVariants as status
use Rattle.dsa_outside.specs.Seen.{FilesSeen, SinkSeen}
use Rattle.run_course.specs.Course.{Write, Outcome, Course, Comes}
use Rattle.run_course.specs.Answers.{Answers, AreBegun, AreBroken, IsInterrupted, IsSaid, Leaves, Tells, as_told, with_writes}
use Rattle.run_course.proofs.Since.{rose_since, comes_until}

broken_since : (old mid new : FilesSeen) (files : List Write) (role : Role) → mid.held ≡ old.held →
    NoneFell old.faults mid.faults → AreBroken mid new files role → AreBroken old new files role
broken_since old mid new files role same none broken = record {
  made = broken.made;
  lost = broken.lost;
  rest = broken.rest;
  order = broken.order;
  its_role = broken.its_role;
  rose = rose_since (old.faults broken.lost.name) (mid.faults broken.lost.name) (new.faults broken.lost.name)
      (none broken.lost.name) broken.rose;
  others = broken.others ∙ ap (λ h. without_file (with_writes h broken.made) broken.lost.name) same;
}

pub leaves_since : (old mid new : FilesSeen) (files : List Write) (lost : Option Role) → mid.held ≡ old.held →
    NoneFell old.faults mid.faults → Leaves mid new files lost → Leaves old new files lost
leaves_since old mid new files None same none left = left ∙ ap (λ h. with_writes h files) same
leaves_since old mid new files (Some role) same none left = broken_since old mid new files role same none left

pub begun_since : (old mid new : FilesSeen) (files : List Write) → mid.held ≡ old.held →
    AreBegun mid new files → AreBegun old new files
begun_since old mid new files same begun = record {
  made = begun.made;
  rest = begun.rest;
  order = begun.order;
  held = begun.held ∙ ap (λ h. with_writes h begun.made) same;
}

module _ (course : Course) (old mid new : FilesSeen) (o : Outcome) (same : mid.held ≡ old.held)
    (before : NoneFell old.faults mid.faults) (after : NoneFell mid.faults new.faults)
    (comes : Comes old mid course o) where
  pub tells : (lost : Option Role) (s : Status) (text : List ℕ) → Leaves mid new o.writes lost →
      s ≡ (as_told o lost).status → text ≡ (as_told o lost).text → Tells course old new s text
  tells lost s text left its_status its_text = record {
    outcome = o;
    lost = lost;
    comes = comes_until old mid new course o after comes;
    files = leaves_since old mid new o.writes lost same before left;
    its_status = its_status;
    its_text = its_text;
  }

  -- memory ran out while the files were written
  pub cut_writing : AreBegun mid new o.writes → IsInterrupted course old new
  cut_writing begun = record {
    outcome = o;
    comes = comes_until old mid new course o after comes;
    files = inl (begun_since old mid new o.writes same begun);
  }

  -- memory ran out when the text was to be printed
  pub cut_printing : (lost : Option Role) → Leaves mid new o.writes lost → IsInterrupted course old new
  cut_printing lost left = record {
    outcome = o;
    comes = comes_until old mid new course o after comes;
    files = inr (lost, leaves_since old mid new o.writes lost same before left);
  }

pub spoken : (o : Outcome) (lost : Option Role) (s : Status) → IsSpoken o.status → s ≡ (as_told o lost).status →
    IsSpoken s
spoken o None s speaks is = subst IsSpoken (sym is) speaks
spoken o (Some role) s speaks is = subst IsSpoken (sym is) tt

-- a status that is spoken and said
pub answers : (course : Course) (old new : FilesSeen) (before after : SinkSeen) (s : Status) → IsSpoken s →
    IsSaid course old new before after s → Answers course old new before after s
answers course old new before after status.PrintFault speaks said = absurd speaks
answers course old new before after status.NoMemory speaks said = absurd speaks
answers course old new before after s speaks said = said
