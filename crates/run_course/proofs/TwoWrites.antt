-- Two writes, of which one fails.
use Rattle.std.proofs.Common.{◌≡◌, List, [], ◌∷◌, refl, ap, ◌∙◌}
use Rattle.dsa_outside.specs.Faults.{NoneFell}
use Rattle.dsa_outside.specs.Held.{with_file, without_file}
use Rattle.dsa_model.specs.Counts.{Rose}
use Rattle.dsa_outside.specs.Seen.{FilesSeen}
use Rattle.run_course.specs.Course.{Write}
use Rattle.run_course.specs.Answers.{AreBegun, AreBroken}
use Rattle.run_course.proofs.Since.{rose_since}

pub first_lost : (old new : FilesSeen) (w : Write) (rest : List Write) → Rose (old.faults w.name) (new.faults w.name) →
    without_file new.held w.name ≡ without_file old.held w.name → AreBroken old new (w ∷ rest) w.role
first_lost old new w rest rose others = record {
  made = [];
  lost = w;
  rest = rest;
  order = refl;
  its_role = refl;
  rose = rose;
  others = others;
}

pub second_lost : (old mid new : FilesSeen) (v w : Write) → mid.held ≡ with_file old.held v.name v.bytes →
    NoneFell old.faults mid.faults → Rose (mid.faults w.name) (new.faults w.name) →
    without_file new.held w.name ≡ without_file mid.held w.name → AreBroken old new (v ∷ w ∷ []) w.role
second_lost old mid new v w written none rose others = record {
  made = v ∷ [];
  lost = w;
  rest = [];
  order = refl;
  its_role = refl;
  rose = rose_since (old.faults w.name) (mid.faults w.name) (new.faults w.name) (none w.name) rose;
  others = others ∙ ap (λ h. without_file h w.name) written;
}

pub first_made : (old mid new : FilesSeen) (v w : Write) → mid.held ≡ with_file old.held v.name v.bytes →
    new.held ≡ mid.held → AreBegun old new (v ∷ w ∷ [])
first_made old mid new v w written stays = record { made = v ∷ []; rest = w ∷ []; order = refl; held = stays ∙ written }
