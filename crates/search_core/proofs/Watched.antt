-- What is watched at the claims above the one that the search is at, and the levels of all of them.
use Rattle.std.proofs.Common.{◌≡◌, ℕ, ◌<◌, List, [], ◌∷◌, ◌++◌, length, reverse, Option, Some, None, Result, Ok, Err, IfNone, IfOk, IfSome, OnOk, refl, sym, ap, ◌∙◌, subst}
use Rattle.skyline.proofs.Carrying.{last_of_append}
use Rattle.line_index.specs.Covered.{IsCoveredBy, NoneCovers}
use Rattle.line_index.proofs.Rising.{child_raised}
use Rattle.line_index.proofs.WatchLemmas.{raised_refl}
use Rattle.claim_levels.proofs.AllLevels.{levels_are, levels_of_are}
use Rattle.claim_levels.specs.Levels.{levels_of}
use Rattle.claim_levels.specs.Trails.{Tracks}
use Rattle.branching.specs.Logs.{Extends}
use Rattle.branching.specs.Tries.{Tried, chosen_of}
use Rattle.branching.proofs.Descent.{is_instance}
use Rattle.search_core.specs.Descents.{Descends, IsPath, above_of, claim_at}
use Rattle.search_core.specs.Walks.{HasWatches, IsLookedUp, child_by, place_of, place_on, tracks_below, tracks_of}
use Rattle.search_core.specs.Watches.{AreWatchedAbove, AreWatchedAlong, AreWatchedTo}
use Rattle.search_core.specs.Ways.{Way}
use Rattle.search_core.specs.declared.walk.Walk.{Walk}
use Rattle.search_core.proofs.Descending.{carried}
use Rattle.search_core.proofs.Stacks.{above_pushed, reverse_push}
use Rattle.search_core.proofs.Words.{Instance, IsInstance, Claim, IsClaim, Line, AreLevels, Stands, last_claim, AreNoted, AreRaised, AreWatched, LineWatches, noted_more, raised_trans, watched_more}

-- ---- a log that grows keeps what is watched
pub more_watched : (l : Claim) (lines after : List Line) (w : LineWatches) (levels : List ℕ) (n : ℕ) →
    Extends l lines after → AreWatched lines w levels n → AreWatched after w levels n
more_watched l lines after w levels n grown h =
    subst (λ (xs : List Line). AreWatched xs w levels n) (sym grown.is) (watched_more lines grown.more w levels n h)

along_more : (I : Instance) (l : Claim) (lines after : List Line) (w : LineWatches) (ps : List Claim)
    (fs : List Tried) → Extends l lines after → AreWatchedAlong I lines w ps fs → AreWatchedAlong I after w ps fs
along_more I l lines after w [] fs grown h = tt
along_more I l lines after w (p ∷ ps) [] grown h = tt
along_more I l lines after w (p ∷ ps) (f ∷ fs) grown h =
    (more_watched l lines after w _ _ grown h.0, along_more I l lines after w ps fs grown h.1)

pub above_more : (l : Claim) (lines after : List Line) (w : LineWatches) (way : Way) → Extends l lines after →
    AreWatchedAbove lines w way → AreWatchedAbove after w way
above_more l lines after w way grown h = record {
  noted = subst (λ (xs : List Line). AreNoted xs w.rows) (sym grown.is) (noted_more lines grown.more w.rows h.noted);
  along = along_more _ l lines after w (above_of way.sky.claims) (reverse way.frames) grown h.along;
}

-- ---- and so do watches that move at levels which no claim has higher ones than
module _ (I : Instance) (C : ℕ) (s : IsInstance I) (lines : List Line) (old new : LineWatches) (levels : List ℕ)
    (kept : (above : List ℕ) (n : ℕ) → AreRaised above levels → AreWatched lines old above n →
    AreWatched lines new above n) where
  along_kept : (l : Claim) (ps : List Claim) (fs : List Tried) → IsClaim I l → AreRaised (levels_of I l) levels →
      Descends I C lines l ps fs → AreWatchedAlong I lines old ps fs → AreWatchedAlong I lines new ps fs
  along_kept l [] fs c r d h = tt
  along_kept l (p ∷ ps) [] c r d h = tt
  along_kept l (p ∷ ps) (f ∷ fs) c r d h =
      let q : AreRaised (levels_of I p) levels = raised_trans _ _ _
      (child_raised I p (chosen_of f) _ _ s (levels_of_are I p d.0.claim)
      (subst (λ (k : Claim). AreLevels I k (levels_of I l)) d.0.is_child (levels_of_are I l c))) r in
      (kept _ _ q h.0, along_kept p ps fs d.0.claim q d.2 h.1)

  pub above_kept : (way : Way) (line : Option ℕ) → IsPath I C lines (place_on way line) →
      IsClaim I (last_claim way.sky.claims) → AreRaised (levels_of I (last_claim way.sky.claims)) levels →
      (AreNoted lines old.rows → AreNoted lines new.rows) →
      AreWatchedAbove lines old way → AreWatchedAbove lines new way
  above_kept way line p c r noted h = record {
    noted = noted h.noted;
    along = subst (λ (J : Instance). AreWatchedAlong J lines new (above_of way.sky.claims) (reverse way.frames))
        (sym p.subject) (along_kept _ (above_of way.sky.claims) (reverse way.frames) c r p.descends
        (subst (λ (J : Instance). AreWatchedAlong J lines old (above_of way.sky.claims) (reverse way.frames))
        p.subject h.along));
  }

-- ---- one claim more
module _ (before after : Way) (x : Claim) (some : 0 < length before.sky.claims)
    (i : after.sky.instance ≡ before.sky.instance) (q : after.sky.claims ≡ before.sky.claims ++ x ∷ []) where
  last_is : last_claim after.sky.claims ≡ x
  last_is = ap last_claim q ∙ last_of_append before.sky.claims x

  above_is : above_of after.sky.claims ≡ last_claim before.sky.claims ∷ above_of before.sky.claims
  above_is = ap above_of q ∙ above_pushed before.sky.claims x some

  pub tracks_pushed : tracks_of after ≡ tracks_below before (levels_of before.sky.instance x)
  tracks_pushed = rw (i, last_is, above_is) refl

  pub above_one_more : (lines : List Line) (w : LineWatches) (f : Tried) → after.frames ≡ before.frames ++ f ∷ [] →
      AreWatchedAbove lines w before → AreWatchedTo lines w before f.asked → AreWatchedAbove lines w after
  above_one_more lines w f e h k = record {
    noted = h.noted;
    along = carried (λ (J : Instance) (ps : List Claim) (fs : List Tried). AreWatchedAlong J lines w ps fs) i above_is
        (ap reverse e ∙ reverse_push before.frames f) (k, h.along);
  }

-- ---- where the walk is
module _ (I : Instance) (C : ℕ) (lines : List Line) (walk : Walk) (p : IsPath I C lines (place_of walk))
    (h : HasWatches lines walk) where
  -- its levels are those of its claim
  pub last_levels : walk.trail.last ≡ levels_of I (claim_at (place_of walk))
  last_levels = ap (λ (t : Tracks). t.last) h.tracks
      ∙ ap (λ (J : Instance). levels_of J (claim_at (place_of walk))) p.subject

  pub levels_here : IsClaim I (claim_at (place_of walk)) → AreLevels I (claim_at (place_of walk)) walk.trail.last
  levels_here claim = rw last_levels (levels_of_are I (claim_at (place_of walk)) claim)

  all_here : AreWatchedTo lines walk.watches walk.path (length lines) →
      AreWatched lines walk.watches walk.trail.last (length lines)
  all_here held = subst (λ (levels : List ℕ). AreWatched lines walk.watches levels (length lines))
      (sym (ap (λ (t : Tracks). t.last) h.tracks)) held

  -- a child of it is looked up, where watches move
  module _ (b : ℕ) (t : Tracks) (w : LineWatches) (s : Stands I (claim_at (place_of walk)))
      (held : AreWatchedTo lines walk.watches walk.path (length lines)) where
    abbrev next : Walk
    next = record walk { trail = t; watches = w }

    module _ (kept : (before : List ℕ) (n : ℕ) → AreRaised before walk.trail.last →
        AreWatched lines walk.watches before n → AreWatched lines w before n)
        (noted : AreNoted lines walk.watches.rows → AreNoted lines w.rows) where
      still_above : AreWatchedAbove lines w walk.path
      still_above = above_kept I C (is_instance I _ s) lines walk.watches w walk.trail.last kept walk.path walk.line p
          s.claim (subst (λ (before : List ℕ). AreRaised before walk.trail.last) last_levels
          (raised_refl walk.trail.last)) noted h.above

      still_here : AreWatchedTo lines w walk.path (length lines)
      still_here = subst (λ (levels : List ℕ). AreWatched lines w levels (length lines))
          (ap (λ (t : Tracks). t.last) h.tracks) (kept _ _ (raised_refl walk.trail.last) (all_here held))

    pub looked_up : {E : Type 0} (r : Result (Option ℕ) E) →
        IfOk r (λ o. IfNone o (AreLevels I (child_by I walk b) t.last)) →
        IfOk r (λ o. IfNone o (t.above ≡ walk.trail.last ∷ walk.trail.above)) →
        IfOk r (λ o. IfSome o (IsCoveredBy I lines (child_by I walk b))) →
        IfOk r (λ o. IfSome o (λ _. t ≡ walk.trail)) →
        (AreNoted lines walk.watches.rows → AreWatched lines walk.watches walk.trail.last (length lines) →
        IfOk r (λ o. IfNone o (NoneCovers I lines (child_by I walk b)))) →
        (AreNoted lines walk.watches.rows → AreWatched lines walk.watches walk.trail.last (length lines) →
        IfOk r (λ o. IfNone o (AreWatched lines w t.last (length lines)))) →
        ((before : List ℕ) (n : ℕ) → AreRaised before walk.trail.last → AreWatched lines walk.watches before n →
        IfOk r (λ _. AreWatched lines w before n)) →
        (AreNoted lines walk.watches.rows → OnOk r (AreNoted lines w.rows)) →
        IfOk r (IsLookedUp I lines b walk next)
    looked_up (Ok (Some k)) last above covered stays uncovered watched kept noted = record {
      covered = covered;
      watched = record { tracks = stays ∙ h.tracks; above = still_above kept noted };
      held = still_here kept noted;
    }
    looked_up (Ok None) last above covered stays uncovered watched kept noted = record {
      fresh = uncovered h.above.noted (all_here held);
      trail = rw (levels_are I _ t.last last, above, h.tracks) refl;
      child = subst (λ (levels : List ℕ). AreWatched lines w levels (length lines)) (levels_are I _ t.last last)
          (watched h.above.noted (all_here held));
      held = still_here kept noted;
      above = still_above kept noted;
    }
    looked_up (Err e) last above covered stays uncovered watched kept noted = tt
