-- Where a search is that puts a buffer of size 3 at 0, and looks at what is left of one of size 1 that stands at
-- multiples of 4 alone.
use Rattle.std.proofs.Common.{◌≡◌, ℕ, List, [], ◌∷◌, length, Option, Some, None, inl, refl, sym, ap, arith}
use Rattle.search_core.proofs.Words.{buffer, do_share, is_live, some_before, Claim, child, step, up, Line, small_below, Sky}
use Rattle.claim_levels.proofs.LevelFacts.{differ, rest, root, root_is_claim}
use Rattle.branching.specs.Tries.{Tried}
use Rattle.branching.proofs.Computing.{computing_work}
use Rattle.branching.proofs.KnownFacts.{rest_known}
use Rattle.branching.proofs.OverFacts.{over, over_covers}
use Rattle.branching.proofs.TryFacts.{both_left, one_left, trying_both, trying_one}
use Rattle.search_core.specs.Descents.{Descends, IsPath, IsPlace, IsStanding, Place, claim_at, left_of, sky_root, turns_left}

abbrev pub sky_of : List Claim → Sky
sky_of claims = record {
  instance = small_below;
  sections = record { sections = []; of_buffers = [] };
  claims = claims;
}

-- what is left where the other one stands at 0
abbrev pub other : Claim
other = (0, 1) ∷ []

-- ---- the choice that stands
pub first_stands : (n : ℕ) → IsStanding small_below root (both_left n) rest
unfolding child step do_share some_before is_live up buffer
first_stands n = record { claim = root_is_claim; is_left = omega arith; is_child = refl }

second_stands : IsStanding small_below root one_left other
unfolding child step do_share some_before is_live up buffer
second_stands = record { claim = root_is_claim; is_left = omega arith; is_child = refl }

abbrev first_buffer : Claim → ℕ
first_buffer [] = 0
first_buffer (e ∷ es) = e.0

-- the first one is refuted there
first_does_not : IsStanding small_below root one_left rest → ⊥
unfolding child step do_share some_before is_live up buffer
first_does_not s = differ 0 1 (omega arith) (sym (ap first_buffer s.is_child))

-- there is no third buffer
no_claim_stands : (f : Tried) (l : Claim) → IsStanding small_below ((2, 0) ∷ []) f l → ⊥
no_claim_stands f l s = let k = s.claim.in_range (2, 0) (inl refl) in omega arith

-- ---- the claims down to the last one
down_one : (lines : List Line) (n : ℕ) → Descends small_below 4 lines rest (root ∷ []) (both_left n ∷ [])
down_one lines n = (first_stands n, trying_both lines n, tt)

down_the_other : Descends small_below 4 (over ∷ []) other (root ∷ []) (one_left ∷ [])
down_the_other = (second_stands, trying_one, tt)

at_the_root : Descends small_below 4 [] root [] []
at_the_root = tt

not_without_frame : Descends small_below 4 [] rest (root ∷ []) [] → ⊥
not_without_frame d = d

not_by_another_choice : Descends small_below 4 (over ∷ []) rest (root ∷ []) (one_left ∷ []) → ⊥
not_by_another_choice d = first_does_not d.0

-- ---- what is left to do
-- the second choice, and the empty claim below it
two_left : left_of small_below 4 rest (root ∷ []) (both_left 0 ∷ []) ≡ 2
unfolding computing_work
two_left = refl

-- nothing once the last claim has a layout
none_left : left_of small_below 4 other (root ∷ []) (one_left ∷ []) ≡ 0
unfolding computing_work
none_left = refl

the_first_claim : sky_root (sky_of (root ∷ rest ∷ [])) ≡ root
the_first_claim = refl

-- the search is at what is left, below the root and its choices
abbrev pub below_root : ℕ → Option ℕ → Place
below_root n line = record { sky = sky_of (root ∷ rest ∷ []); frames = both_left n ∷ []; line = line }

the_last_claim : claim_at (below_root 0 None) ≡ rest
the_last_claim = refl

-- three claims, two turns each, and one frame
pub seven_turns : (n : ℕ) → turns_left small_below 4 (below_root n None) ≡ 7
unfolding computing_work
seven_turns n = refl

-- with a line for the last claim one claim less is left, and one turn back
pub six_turns : (n : ℕ) → turns_left small_below 4 (below_root n (Some 0)) ≡ 6
unfolding computing_work
six_turns n = refl

-- ---- the way down
on_the_way : (lines : List Line) (n : ℕ) (line : Option ℕ) → IsPath small_below 4 lines (below_root n line)
on_the_way lines n line = record { subject = refl; some = omega arith; descends = down_one lines n }

-- a claim below the root has a frame above it
no_way_without_frame : IsPath small_below 4 [] (record { sky = sky_of (root ∷ rest ∷ []); frames = []; line = None }) →
    ⊥
no_way_without_frame p = p.descends

of_another_instance : IsPath [] 4 [] (below_root 0 None) → ⊥
of_another_instance p = let e = ap length p.subject in omega arith

-- ---- the place
pub before_line : IsPlace small_below 4 [] (below_root 0 None)
before_line = record { path = on_the_way [] 0 None; known = tt; fresh = λ k line at covers. absurd cc }

pub after_line : IsPlace small_below 4 (over ∷ []) (below_root 0 (Some 0))
after_line = record { path = on_the_way (over ∷ []) 0 (Some 0); known = rest_known; fresh = tt }

-- the line covers the last claim
not_fresh : IsPlace small_below 4 (over ∷ []) (below_root 0 None) → ⊥
not_fresh p = p.fresh 0 over refl over_covers

-- the line is not there
not_known : IsPlace small_below 4 [] (below_root 0 (Some 0)) → ⊥
not_known p = let e = p.known.covered.stands in absurd cc

nowhere : (frames : List Tried) → IsPlace small_below 4 [] (record { sky = sky_of []; frames = frames; line = None }) →
    ⊥
nowhere frames p = let k = p.path.some in omega arith

not_below : IsPlace small_below 4 [] (record { sky = sky_of (root ∷ rest ∷ []); frames = []; line = None }) → ⊥
not_below p = p.path.descends
