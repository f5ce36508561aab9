-- A search that is at what is left of one buffer, below a root of two, or at that root.
use Rattle.std.proofs.Common.{◌≡◌, ◌∙◌, ℕ, List, [], ◌∷◌, Some, None, length, slice_index, refl, sym, ap, arith}
use Rattle.claim_levels.proofs.LevelFacts.{differ, rest, root}
use Rattle.claim_levels.specs.Trails.{Tracks}
use Rattle.branching.specs.Tries.{Tried}
use Rattle.branching.proofs.KnownFacts.{rest_covered}
use Rattle.branching.proofs.OverFacts.{over, over_covers}
use Rattle.branching.proofs.TryFacts.{both_left, one_left}
use Rattle.search_core.specs.declared.walk.Walk.{Walk}
use Rattle.search_core.specs.Meters.{Units}
use Rattle.search_core.specs.Walks.{GoesOn, HasWatches, IsCoveredBelow, IsHeld, IsLookedUp, child_by, due_lines, place_of, place_on, stage_of, tracks_below, tracks_of}
use Rattle.search_core.specs.Watches.{AreWatchedAbove, AreWatchedTo}
use Rattle.search_core.specs.Ways.{Way}
use Rattle.search_core.proofs.DescentFacts.{sky_of}
use Rattle.search_core.proofs.TurnFacts.{ahead, more_than_two}
use Rattle.search_core.proofs.WatchFacts.{by_four, not_at_the_rest}
use Rattle.search_core.proofs.Words.{buffer, child, do_share, is_live, some_before, step, up, AreWatched, Instance, LineWatches, OpenLog, small_below}

-- the levels at what is left and at the root
abbrev both : Tracks
both = record { last = 0 ∷ 5 ∷ []; above = (1 ∷ 1 ∷ []) ∷ [] }

module _
    (path : Way)
    (i : path.sky.instance ≡ small_below)
    (claims : path.sky.claims ≡ root ∷ rest ∷ [])
    (frames : path.frames ≡ both_left 0 ∷ [])
  where
    -- ---- the place
    its_claims : (place_on path None).sky.claims ≡ root ∷ rest ∷ []
    its_claims = claims

    its_frames : (place_on path None).frames ≡ both_left 0 ∷ []
    its_frames = frames

    its_line : (place_on path (Some 3)).line ≡ Some 3
    its_line = refl

    -- ---- one line, and one to come
    two_due : due_lines (over ∷ []) path ≡ 2
    two_due = let m : length path.frames ≡ 1 = ap length frames in omega arith

    -- ---- levels along it
    its_levels : tracks_of path ≡ both
    unfolding up buffer
    its_levels = rw (i, claims) refl

-- two lines at once are too many
not_two_lines : (I : Instance) (C : ℕ) (f : Tried) (before after : OpenLog) (walk : Walk) → before.lines ≡ [] →
    after.lines ≡ over ∷ over ∷ [] → GoesOn I C f before after walk walk → ⊥
not_two_lines I C f before after walk none two h =
    let k = h.counted in
    let m = ap length none in
    let n = ap length two in
    absurd (omega (arith, k, m, n))

module _ (walk : Walk) (units : Units) where
  with_its_line : walk.line ≡ Some 3 → (place_of walk).line ≡ Some 3
  with_its_line e = e

  with_its_units : (stage_of walk units).units ≡ units
  with_its_units = refl

  at_its_place : (stage_of walk units).place ≡ place_of walk
  at_its_place = refl

-- ---- at what is left
module _ (walk : Walk) (i : walk.path.sky.instance ≡ small_below)
    (claims : walk.path.sky.claims ≡ root ∷ rest ∷ []) where
  its_watches : walk.trail ≡ both → AreWatchedAbove (over ∷ []) walk.watches walk.path → HasWatches (over ∷ []) walk
  unfolding up buffer
  its_watches e h = record { tracks = rw (i, claims) e; above = h }

  -- the levels are not those of the root
  not_of_the_root : walk.trail.last ≡ 1 ∷ 1 ∷ [] → HasWatches [] walk → ⊥
  unfolding up buffer
  not_of_the_root e h = differ 1 5 (omega arith) (ap (λ (xs : List ℕ). slice_index xs 1)
      (sym e ∙ ap (λ (t : Tracks). t.last) (rw (i, claims) at h.tracks)))

  -- a line is watched there, unless one is known that covers it
  held_where_known : walk.line ≡ Some 0 → IsHeld (over ∷ []) walk
  held_where_known e = rw e tt

  not_held : walk.line ≡ None → walk.watches ≡ by_four → IsHeld (over ∷ []) walk → ⊥
  not_held e w h = not_at_the_rest (rw (e, w, i, claims) at h)

none_watched : (w : LineWatches) (levels : List ℕ) → AreWatched [] w levels 0
none_watched w levels = record { within = omega arith; each = λ k line lt. absurd (omega arith) }

-- ---- at the root, whose first child is looked up
module _ (walk next : Walk) (i : walk.path.sky.instance ≡ small_below) (claims : walk.path.sky.claims ≡ root ∷ []) where
  its_child : child_by small_below walk 0 ≡ rest
  unfolding child step do_share some_before is_live up buffer
  its_child = rw claims refl

  levels_below : tracks_below walk.path (0 ∷ 5 ∷ []) ≡ both
  unfolding up buffer
  levels_below = rw (i, claims) refl

  -- a line covers it
  covered_below : HasWatches (over ∷ []) next → AreWatchedTo (over ∷ []) next.watches walk.path 1 →
      IsCoveredBelow small_below (over ∷ []) 0 walk next 0
  covered_below h held = record { covered = rw its_child rest_covered; watched = h; held = held }

  found : HasWatches (over ∷ []) next → AreWatchedTo (over ∷ []) next.watches walk.path 1 →
      IsLookedUp small_below (over ∷ []) 0 walk next (Some 0)
  found h held = covered_below h held

  -- there is no second line
  not_by_the_second : IsCoveredBelow small_below (over ∷ []) 0 walk next 1 → ⊥
  not_by_the_second c = let e = c.covered.stands in absurd cc

  not_fresh : IsLookedUp small_below (over ∷ []) 0 walk next None → ⊥
  not_fresh b = (rw its_child at b.fresh) 0 over refl over_covers

  -- where there are no lines, none does
  below : next.trail ≡ both → next.watches ≡ record { entries = []; rows = [] } →
      IsLookedUp small_below [] 0 walk next None
  unfolding up buffer
  below e w = record {
    fresh = λ k line at covers. absurd cc;
    trail = rw its_child (e ∙ sym levels_below);
    child = none_watched next.watches _;
    held = none_watched next.watches _;
    above = rw (w, claims) (record { noted = λ p m j. absurd j; along = tt });
  }

  not_by_no_line : IsLookedUp small_below [] 0 walk next (Some 0) → ⊥
  not_by_no_line c = let e = c.covered.stands in absurd cc

-- ---- down from the root, which is open, to what is left of its first choice
abbrev no_lines : OpenLog
no_lines = record { count = 2; capacity = 4; lines = [] }

module _ (walk next : Walk)
    (here : walk.path ≡ record { sky = sky_of (root ∷ []); frames = [] })
    (there : next.path ≡ record { sky = sky_of (root ∷ rest ∷ []); frames = both_left 0 ∷ [] })
    (open_there : walk.line ≡ None)
    (none : next.line ≡ None) where
  goes_down : next.trail ≡ both → next.watches ≡ record { entries = []; rows = [] } →
      GoesOn small_below 4 (both_left 0) no_lines no_lines walk next
  unfolding up buffer
  goes_down levels w = record {
    log = record {
      belongs = record { same_count = refl; legal = λ k line at. absurd cc };
      capacity = refl;
      lean = λ k line at. absurd cc;
      uncovered = λ j k earlier line lt at_j at_k covers. absurd cc;
    };
    grown = record { more = []; is = refl; among = λ line e i. absurd i };
    ahead = rw (here, there, open_there, none) ahead;
    watched = record {
      tracks = rw there levels;
      above = rw (there, w) (record { noted = λ p m j. absurd j; along = (none_watched _ _, tt) });
    };
    held = rw none (none_watched _ _);
    counted = rw (here, there) (omega arith);
  }

  -- where the second choice alone is left, what is below the first one is too much
  not_from_the_second : GoesOn small_below 4 one_left no_lines no_lines walk next → ⊥
  not_from_the_second h = more_than_two (rw (here, there, open_there, none) at h.ahead)
