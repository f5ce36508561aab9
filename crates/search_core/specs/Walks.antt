-- A search on its way, as definitions see it.
use Rattle.std.specs.Prelude.{◌≡◌, ℕ, ◌+◌, ◌≤◌, List, ◌∷◌, Option, Some, None, IfNone, length, map}
use Rattle.dsa_terms.specs.Buffers.{Instance}
use Rattle.dsa_terms.specs.Claims.{Claim, child}
use Rattle.dsa_terms.specs.Logs.{Line}
use Rattle.refute_log.specs.Logs.{OpenLog}
use Rattle.canonical_order.specs.Claims.{entry_of}
use Rattle.line_index.specs.Covered.{IsCoveredBy, NoneCovers}
use Rattle.line_index.specs.Watches.{AreWatched}
use Rattle.claim_levels.specs.Levels.{levels_of}
use Rattle.claim_levels.specs.Trails.{Tracks}
use Rattle.skyline.specs.Skies.{last_claim}
use Rattle.branching.specs.Logs.{Extends, IsSearchLog}
use Rattle.branching.specs.Tries.{Tried}
use Rattle.search_core.specs.declared.walk.Walk.{Walk}
use Rattle.search_core.specs.Descents.{Place, above_of, claim_at}
use Rattle.search_core.specs.Meters.{Units}
use Rattle.search_core.specs.Turns.{IsAhead, Stage}
use Rattle.search_core.specs.Watches.{AreWatchedAbove, AreWatchedTo}
use Rattle.search_core.specs.Ways.{Way}

-- the place on the way, with that line known
abbrev pub place_on : Way → Option ℕ → Place
place_on way line = record { sky = way.sky; frames = way.frames; line = line }

-- where the walk is
abbrev pub place_of : Walk → Place
place_of walk = place_on walk.path walk.line

-- the child by b of the claim where the walk is
abbrev pub child_by : Instance → Walk → ℕ → Claim
child_by I walk b = child I (claim_at (place_of walk)) (entry_of (claim_at (place_of walk)) b)

-- where the walk is, with its units
abbrev pub stage_of : Walk → Units → Stage
stage_of walk units = record { place = place_of walk; units = units }

-- the levels of the claims down to the last one
abbrev pub tracks_of : Way → Tracks
tracks_of way = record {
  last = levels_of way.sky.instance (last_claim way.sky.claims);
  above = map (levels_of way.sky.instance) (above_of way.sky.claims);
}

-- those and the levels of a claim below the last one
abbrev pub tracks_below : Way → List ℕ → Tracks
tracks_below way below = record { last = below; above = (tracks_of way).last ∷ (tracks_of way).above }

-- the levels are those along the way, and the lines that were asked at each claim above the last one are watched there
pub record HasWatches (lines : List Line) (walk : Walk) : Type 0 where
  pub tracks : walk.trail ≡ tracks_of walk.path
  pub above : AreWatchedAbove lines walk.watches walk.path

-- where no line is known that covers the last claim, all lines are watched there
abbrev pub IsHeld : List Line → Walk → Type 0
IsHeld lines walk = IfNone walk.line (AreWatchedTo lines walk.watches walk.path (length lines))

-- no line covers the child by b of the claim that the search is at; the levels are those of the child, and all lines
-- are watched there and at the claim itself
pub record IsBelow (I : Instance) (lines : List Line) (b : ℕ) (walk next : Walk) : Type 0 where
  pub fresh : NoneCovers I lines (child_by I walk b)
  pub trail : next.trail ≡ tracks_below walk.path (levels_of I (child_by I walk b))
  pub child : AreWatched lines next.watches (levels_of I (child_by I walk b)) (length lines)
  pub held : AreWatchedTo lines next.watches walk.path (length lines)
  pub above : AreWatchedAbove lines next.watches walk.path

-- a line covers the child, and all lines are watched at the claim as before
pub record IsCoveredBelow (I : Instance) (lines : List Line) (b : ℕ) (walk next : Walk) (k : ℕ) : Type 0 where
  pub covered : IsCoveredBy I lines (child_by I walk b) k
  pub watched : HasWatches lines next
  pub held : AreWatchedTo lines next.watches walk.path (length lines)

-- what is found of the child by b
abbrev pub IsLookedUp : Instance → List Line → ℕ → Walk → Walk → Option ℕ → Type 0
IsLookedUp I lines b walk next None = IsBelow I lines b walk next
IsLookedUp I lines b walk next (Some k) = IsCoveredBelow I lines b walk next k

-- how many lines there would be with one more for each claim above the last one
abbrev pub due_lines : List Line → Way → ℕ
due_lines lines way = length lines + length way.frames

-- the search goes on from the claim that it is at, which is open with the choices f: the walk becomes `next`, and the
-- log `after`
pub record GoesOn (I : Instance) (C : ℕ) (f : Tried) (before after : OpenLog) (walk next : Walk) : Type 0 where
  -- the log is still one of the search
  pub log : IsSearchLog I C after
  -- its new lines have buffers of the claim alone
  pub grown : Extends (claim_at (place_of walk)) before.lines after.lines
  -- no more is left to do than by these choices
  pub ahead : IsAhead I C after.lines (place_of walk) f (place_of next)
  -- levels and watches are those of the next one
  pub watched : HasWatches after.lines next
  pub held : IsHeld after.lines next
  -- there is one line more at most, or one claim
  pub counted : due_lines after.lines next.path ≤ due_lines before.lines walk.path + 1
