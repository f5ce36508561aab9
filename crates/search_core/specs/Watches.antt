-- What is watched at the claims above the one that the search is at.
use Rattle.std.specs.Prelude.{ℕ, ⊤, List, [], ◌∷◌, reverse}
use Rattle.dsa_terms.specs.Buffers.{Instance}
use Rattle.dsa_terms.specs.Claims.{Claim}
use Rattle.dsa_terms.specs.Logs.{Line}
use Rattle.line_index.specs.Watches.{AreNoted, AreWatched, LineWatches}
use Rattle.claim_levels.specs.Levels.{levels_of}
use Rattle.skyline.specs.Skies.{last_claim}
use Rattle.branching.specs.Tries.{Tried}
use Rattle.search_core.specs.Descents.{above_of}
use Rattle.search_core.specs.Ways.{Way}

-- at each of these claims the lines are watched that were asked there
abbrev pub AreWatchedAlong : Instance → List Line → LineWatches → List Claim → List Tried → Type 0
AreWatchedAlong I lines w [] fs = ⊤
AreWatchedAlong I lines w (p ∷ ps) [] = ⊤
AreWatchedAlong I lines w (p ∷ ps) (f ∷ fs) =
    AreWatched lines w (levels_of I p) f.asked × AreWatchedAlong I lines w ps fs

-- each mark has a note of its line, and at each claim above the last one the lines are watched that were asked there
pub record AreWatchedAbove (lines : List Line) (w : LineWatches) (way : Way) : Type 0 where
  pub noted : AreNoted lines w.rows
  pub along : AreWatchedAlong way.sky.instance lines w (above_of way.sky.claims) (reverse way.frames)

-- the first n lines are watched at the last claim
abbrev pub AreWatchedTo : List Line → LineWatches → Way → ℕ → Type 0
AreWatchedTo lines w way n = AreWatched lines w (levels_of way.sky.instance (last_claim way.sky.claims)) n
