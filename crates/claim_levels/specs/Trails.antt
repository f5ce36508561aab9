-- The levels of the claims down to one, by those of the last one and what changed on the way.
use Rattle.std.specs.Prelude.{◌≡◌, ℕ, ◌<◌, ◌≤◌, ◌^◌, ⊤, List, [], ◌∷◌, length, reverse, slice_index, slice_set}
use Rattle.dsa_terms.specs.Claims.{Entry, IsIn}
use Rattle.claim_levels.specs.declared.trail.Step.{Step}
use Rattle.claim_levels.specs.Children.{AreOfChild}
use Rattle.claim_levels.specs.Levels.{AreLed}

-- the levels of the last claim, and those of the claims above it, the last one first
pub record Tracks : Type 0 where
  pub last : List ℕ
  pub above : List (List ℕ)

-- the levels with these ones put back
abbrev pub undone : List (ℕ × ℕ) → List ℕ → List ℕ
undone [] levels = levels
undone (c ∷ cs) levels = undone cs (slice_set levels c.0 c.1)

-- the levels of the claim that was left by the step
abbrev pub before : List ℕ → Step → List ℕ
before levels s = undone s.changes.items levels

-- those of all claims that were left, by the steps, the last one first
abbrev pub all_before : List ℕ → List Step → List (List ℕ)
all_before levels [] = []
all_before levels (s ∷ ss) = before levels s ∷ all_before (before levels s) ss

-- the levels of the last claim, and of those that were left by the steps, the first one first
abbrev pub tracks_by : List ℕ → List Step → Tracks
tracks_by levels steps = record { last = levels; above = all_before levels (reverse steps) }

-- the step leads from a claim of the levels `old` to the child of the levels `new`
pub record IsStep (old new : List ℕ) (s : Step) : Type 0 where
  pub count : length new ≡ length old
  pub has : 0 < slice_index old s.buffer
  -- the others that have a level have one still
  pub child : AreOfChild old s.buffer new
  -- nothing is noted that is no buffer
  pub noted : (e : Entry) → IsIn e s.changes.items → e.0 < length old
  -- no level of the claim is above the top
  pub under : (c : ℕ) → slice_index old c ≤ s.top
  pub limit : s.top ≤ 2 ^ 55

-- each of the steps, the last one first, leads down to the levels that the ones after it left
abbrev pub AreSteps : List ℕ → List Step → Type 0
AreSteps levels [] = ⊤
AreSteps levels (s ∷ ss) = IsStep (before levels s) levels s × AreSteps (before levels s) ss

-- levels, beside the buffers that have one, a number that no level is above, and steps that led to them
pub record IsTrail (levels left : List ℕ) (top : ℕ) (steps : List Step) : Type 0 where
  pub led : AreLed levels left top
  pub down : AreSteps levels (reverse steps)
