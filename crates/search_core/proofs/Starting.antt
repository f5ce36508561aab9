-- A search that stands at its first claim, with no lines yet.
use Rattle.std.proofs.Common.{◌≡◌, ℕ, List, [], None, refl, arith}
use Rattle.lifetime.specs.SectionList.{SectionList}
use Rattle.claim_levels.proofs.AllLevels.{levels_are}
use Rattle.skyline.specs.Skies.{at_first}
use Rattle.search_core.specs.declared.walk.Walk.{Walk}
use Rattle.search_core.specs.Descents.{IsPlace, owed, sky_root}
use Rattle.search_core.specs.Walks.{HasWatches, IsHeld, place_of}
use Rattle.search_core.proofs.Words.{Instance, Line, AreLevels, whole, work}

-- where it stands, what is left to look at, and what is watched
pub record IsStarted (I : Instance) (C : ℕ) (members : List ℕ) (lines : List Line) (walk : Walk) : Type 0 where
  pub place : IsPlace I C lines (place_of walk)
  pub root : sky_root walk.path.sky ≡ whole I members
  pub owed : owed I C (place_of walk) ≡ work I C (whole I members)
  pub watched : HasWatches lines walk
  pub held : IsHeld lines walk

pub started : (I : Instance) (C : ℕ) (S : SectionList) (members : List ℕ) (lines : List Line) (walk : Walk) →
    lines ≡ [] → walk.path ≡ record { sky = at_first I S members; frames = [] } → walk.line ≡ None →
    walk.watches ≡ record { entries = []; rows = [] } → AreLevels I (whole I members) walk.trail.last →
    walk.trail.above ≡ [] → IsStarted I C members lines walk
started I C S members lines walk empty path none rows are above = record {
  place = rw (empty, path, none) (record {
    path = record { subject = refl; some = omega arith; descends = tt };
    known = tt;
    fresh = λ k line at covers. absurd cc;
  });
  root = rw path refl;
  owed = rw (path, none) (omega arith);
  watched = record {
    tracks = rw (path, levels_are I (whole I members) walk.trail.last are, above) refl;
    above = rw (empty, path, rows) (record { noted = λ p m i. absurd i; along = tt });
  };
  held = rw (none, empty) (record { within = omega arith; each = λ k line lt at. absurd (omega arith) });
}
