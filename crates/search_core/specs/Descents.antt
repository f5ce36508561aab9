-- Where a search is: the claims that it goes down through, and what it knows of each.
use Rattle.std.specs.Prelude.{◌≡◌, ℕ, ◌+◌, ◌*◌, ◌<◌, ⊤, Option, is_some, IfSome, IfNone, cond, List, [], ◌∷◌, length, map, drop, reverse}
use Rattle.dsa_terms.specs.Buffers.{Instance}
use Rattle.dsa_terms.specs.Claims.{Claim, IsClaim, child}
use Rattle.dsa_terms.specs.Logs.{Line}
use Rattle.dsa_terms.specs.Search.{first, work}
use Rattle.canonical_order.specs.Claims.{entry_of}
use Rattle.line_index.specs.Covered.{NoneCovers}
use Rattle.skyline.specs.Skies.{Sky, last_claim}
use Rattle.branching.specs.Tries.{Tried, IsLeft, chosen_of, later_of}
use Rattle.branching.specs.Trying.{through, IsTrying, IsKnown}

-- p is a claim of the instance, and l is what is left of it by its first choice that is not refuted
pub record IsStanding (I : Instance) (p : Claim) (f : Tried) (l : Claim) : Type 0 where
  pub claim : IsClaim I p
  pub is_left : IsLeft f
  pub is_child : l ≡ child I p (entry_of p (chosen_of f))

-- the claim l is reached from those above it, the last one first, by the choices that stand there
abbrev pub Descends : Instance → ℕ → List Line → Claim → List Claim → List Tried → Type 0
Descends I C lines l [] [] = ⊤
Descends I C lines l [] (f ∷ fs) = ⊥
Descends I C lines l (p ∷ ps) [] = ⊥
Descends I C lines l (p ∷ ps) (f ∷ fs) = IsStanding I p f l × IsTrying I C lines p f × Descends I C lines p ps fs

-- the first of these claims
abbrev pub root_of : Claim → List Claim → Claim
root_of l [] = l
root_of l (p ∷ ps) = root_of p ps

-- how many claims are left to look at besides l and what is below it
abbrev pub left_of : Instance → ℕ → Claim → List Claim → List Tried → ℕ
left_of I C l [] fs = 0
left_of I C l (p ∷ ps) [] = 0
left_of I C l (p ∷ ps) (f ∷ fs) =
    cond (is_some (first I C l)) 0 (through I C p (map (entry_of p) (later_of f))) + left_of I C p ps fs

-- the claims above the last one, the last one of them first
abbrev pub above_of : List Claim → List Claim
above_of claims = drop 1 (reverse claims)

-- the first claim of a skyline
abbrev pub sky_root : Sky → Claim
sky_root sky = root_of (last_claim sky.claims) (above_of sky.claims)

-- where a search stands: the claims down to the one that it is at, the choices of each claim above that one, and the
-- number of a line that is known to cover it, if there is one
pub record Place : Type 0 where
  pub sky : Sky
  pub frames : List Tried
  pub line : Option ℕ

-- the claim that the search is at
abbrev pub claim_at : Place → Claim
claim_at here = last_claim here.sky.claims

-- how many claims are left to look at in all; the last one is not, where a line is known that covers it
abbrev pub owed : Instance → ℕ → Place → ℕ
owed I C here =
    cond (is_some here.line) 0 (work I C (claim_at here))
    + left_of I C (claim_at here) (above_of here.sky.claims) (reverse here.frames)

-- how many turns are left at most
abbrev pub turns_left : Instance → ℕ → Place → ℕ
turns_left I C here = 2 * owed I C here + length here.frames + cond (is_some here.line) 1 0

-- the claim that the search is at is reached from the first one by the choices that stand
pub record IsPath (I : Instance) (C : ℕ) (lines : List Line) (here : Place) : Type 0 where
  pub subject : here.sky.instance ≡ I
  pub some : 0 < length here.sky.claims
  pub descends : Descends I C lines (claim_at here) (above_of here.sky.claims) (reverse here.frames)

-- the search is there; where a line is known, it covers the claim, and else no line does
pub record IsPlace (I : Instance) (C : ℕ) (lines : List Line) (here : Place) : Type 0 where
  pub path : IsPath I C lines here
  pub known : IfSome here.line (IsKnown I C lines (claim_at here))
  pub fresh : IfNone here.line (NoneCovers I lines (claim_at here))
