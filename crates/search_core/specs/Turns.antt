-- What one step of the search comes to.
use Rattle.std.specs.Prelude.{◌≡◌, ◌≢◌, ℕ, ◌+◌, ◌*◌, ◌<◌, ◌≤◌, ⊤, List, [], length, map, reverse}
use Rattle.dsa_terms.specs.Buffers.{Instance}
use Rattle.dsa_terms.specs.Logs.{Line}
use Rattle.canonical_order.specs.Claims.{entry_of}
use Rattle.line_index.specs.Covered.{NoneCovers}
use Rattle.branching.specs.Trying.{IsTrying, through}
use Rattle.branching.specs.Tries.{Tried, rest_of}
use Rattle.search_core.specs.declared.turns.Turn.{Turn}
use Rattle.search_core.specs.Descents.{IsPath, IsPlace, Place, above_of, claim_at, left_of, owed, sky_root, turns_left}
use Rattle.search_core.specs.Found.{IsFound}
use Rattle.search_core.specs.Meters.{Units}
use Rattle.search_core.specs.declared.turns.Turn.TheVariants as turn

-- how many claims are left to look at where the claim that the search is at is open and has these choices
abbrev pub debt_of : Instance → ℕ → Place → Tried → ℕ
debt_of I C here f =
    through I C (claim_at here) (map (entry_of (claim_at here)) (rest_of f))
    + left_of I C (claim_at here) (above_of here.sky.claims) (reverse here.frames)

-- the claim that the search is at has some buffers, and these choices of it are tried
pub record IsAtChoices (I : Instance) (C : ℕ) (lines : List Line) (here : Place) (f : Tried) : Type 0 where
  pub path : IsPath I C lines here
  pub not_empty : claim_at here ≢ []
  pub trying : IsTrying I C lines (claim_at here) f

-- the claim that the search is at is open with these choices, no line covers it, and all lines were asked whether they
-- do
pub record IsUncovered (I : Instance) (C : ℕ) (lines : List Line) (here : Place) (f : Tried) : Type 0 where
  pub opened : IsAtChoices I C lines here f
  pub fresh : NoneCovers I lines (claim_at here)
  pub asked : f.asked ≡ length lines

-- below the same root, with no more left to do than where the claim at `before` was open and had the choices f
pub record IsAhead (I : Instance) (C : ℕ) (lines : List Line) (before : Place) (f : Tried) (after : Place) : Type 0
  where
    pub place : IsPlace I C lines after
    pub root : sky_root after.sky ≡ sky_root before.sky
    pub owed : owed I C after ≤ debt_of I C before f
    pub turns : turns_left I C after ≤ 2 * debt_of I C before f + length before.frames + 1

-- where a search stands, and its units
pub record Stage : Type 0 where
  pub place : Place
  pub units : Units

-- the search goes on below the same root: no more units are used and left than before, and fewer turns are left
pub record IsOn (I : Instance) (C : ℕ) (lines : List Line) (before after : Stage) : Type 0 where
  pub place : IsPlace I C lines after.place
  pub root : sky_root after.place.sky ≡ sky_root before.place.sky
  pub units : after.units.used + owed I C after.place ≤ before.units.used + owed I C before.place
  pub fewer : turns_left I C after.place < turns_left I C before.place

-- the search goes on, or what was to be found of the root is found
abbrev pub IsTurned : Instance → ℕ → List Line → Stage → Stage → Turn → Type 0
IsTurned I C lines before after turn.On = IsOn I C lines before after
IsTurned I C lines before after (turn.Done found) = IsFound I C (sky_root before.place.sky) lines found

-- the fact holds where the search goes on
abbrev pub IfOn : Type 0 → Turn → Type 0
IfOn P turn.On = P
IfOn P (turn.Done found) = ⊤
