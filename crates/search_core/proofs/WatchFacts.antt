-- Worked facts: a line with the bound 4 of buffer 1 is watched at the root, and not at what is left of it, which meets
-- the bound.
use Rattle.std.proofs.Common.{◌≡◌, ◌<◌, ℕ, zero, suc, [], ◌∷◌, Some, inl, inr, slice_get, refl, subst, arith}
use Rattle.line_index.specs.Watches.{HasLevels, RulesOut}
use Rattle.line_index.proofs.WatchFacts.{by_third, foreign, lines}
use Rattle.claim_levels.proofs.LevelFacts.{rest, root}
use Rattle.claim_levels.specs.Levels.{levels_of}
use Rattle.branching.proofs.OverFacts.{over}
use Rattle.branching.proofs.TryFacts.{both_left}
use Rattle.search_core.specs.Watches.{AreWatchedAbove, AreWatchedAlong, AreWatchedTo}
use Rattle.search_core.specs.Ways.{Way}
use Rattle.search_core.proofs.Words.{buffer, up, Entry, Line, claim_of, same_some, small_below, AreWatched, LineWatches}

abbrev pub by_four : LineWatches
by_four = record { entries = (1, 4) ∷ []; rows = [] }

pub at_the_root : AreWatched (over ∷ []) by_four (levels_of small_below root) 1
unfolding up buffer
at_the_root = record { within = omega arith; each = each }
  where
    each : (k : ℕ) (line : Line) → k < 1 → slice_get (over ∷ []) k ≡ Some line →
        (e : Entry) × (slice_get ((1, 4) ∷ []) k ≡ Some e) × RulesOut (1 ∷ 1 ∷ []) (claim_of line) e
    each zero line lt at = (
      (1, 4),
      refl,
      subst (λ (x : Line). RulesOut (1 ∷ 1 ∷ []) (claim_of x) (1, 4)) (same_some at)
          (record { among = inl refl; unmet = λ h. omega arith }),
    )
    each (suc k) line lt at = absurd (omega arith)

pub not_at_the_rest : AreWatched (over ∷ []) by_four (levels_of small_below rest) 1 → ⊥
unfolding up buffer
not_at_the_rest w = let r = w.each 0 over (omega arith) refl in go r.0 (same_some r.1) r.2
  where
    has : HasLevels (0 ∷ 5 ∷ []) ((1, 4) ∷ [])
    has f (inl q) = rw q (omega arith)
    has f (inr z) = absurd z

    go : (e : Entry) → (1, 4) ≡ e → RulesOut (0 ∷ 5 ∷ []) ((1, 4) ∷ []) e → ⊥
    go e q r = let k = (rw (← q) at r).unmet has in omega (arith, k)

-- ---- along the claims above
along_the_root : AreWatchedAlong small_below (over ∷ []) by_four (root ∷ []) (both_left 1 ∷ [])
along_the_root = (at_the_root, tt)

-- no line was asked at the first of the two
not_along_both : AreWatchedAlong small_below (over ∷ []) by_four (root ∷ rest ∷ []) (both_left 0 ∷ both_left 1 ∷ []) → ⊥
not_along_both h = not_at_the_rest h.1.0

module _ (way : Way) (i : way.sky.instance ≡ small_below) where
  above_the_rest : way.sky.claims ≡ root ∷ rest ∷ [] → way.frames ≡ both_left 1 ∷ [] →
      AreWatchedAbove (over ∷ []) by_four way
  above_the_rest claims frames = record { noted = λ p m j. absurd j; along = rw (i, claims, frames) along_the_root }

  not_above_another : way.sky.claims ≡ rest ∷ root ∷ [] → way.frames ≡ both_left 1 ∷ [] →
      AreWatchedAbove (over ∷ []) by_four way → ⊥
  not_above_another claims frames h = not_at_the_rest (rw (i, claims, frames) at h.along).0

  -- no line is asked, and yet the note is none of its line
  with_a_foreign_note : AreWatchedAbove lines by_third way → ⊥
  with_a_foreign_note h = foreign h.noted

  -- ---- at the last claim
  at_the_last : way.sky.claims ≡ root ∷ [] → AreWatchedTo (over ∷ []) by_four way 1
  at_the_last claims = rw (i, claims) at_the_root

  not_at_the_last : way.sky.claims ≡ root ∷ rest ∷ [] → AreWatchedTo (over ∷ []) by_four way 1 → ⊥
  not_at_the_last claims h = not_at_the_rest (rw (i, claims) at h)
