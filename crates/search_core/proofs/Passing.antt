-- Choices whose children lines are known to cover, and the way down to the first other one.
use Rattle.std.proofs.Common.{◌≡◌, ℕ, ◌+◌, ◌-◌, ◌<◌, ◌≤◌, cond, List, ◌∷◌, ◌++◌, [], length, map, Option, Some, None, is_some, refl, sym, ap, ◌∙◌, subst, arith, length-append}
use Rattle.std.specs.Global.{Vec}
use Rattle.search_core.proofs.Words.{Instance, Claim, Entry, child, choices, not_excluded, Line, first, work, claim-child, entry_of, Stands, OpenLog, AreWatched, IsCoveredBy}
use Rattle.claim_levels.specs.Levels.{levels_of}
use Rattle.claim_levels.specs.Trails.{Tracks}
use Rattle.branching.specs.Trying.{IsTrying, through}
use Rattle.branching.specs.Logs.{Extends, IsSearchLog}
use Rattle.branching.specs.Tries.{IsLeft, IsOrderOf, Tried, chosen_of, later_of, noted_by, rest_of, tried_by, tried_of}
use Rattle.branching.specs.declared.notes.Notes.{Notes}
use Rattle.branching.proofs.AllBranches.{tries_are}
use Rattle.branching.proofs.Descent.{is_instance}
use Rattle.branching.proofs.Growing.{extends_none}
use Rattle.branching.proofs.Searching.{choice_refuted, next_choice, rest_of_noted}
use Rattle.branching.proofs.Uncovered.{none_where_covered}
use Rattle.branching.proofs.Working.{through_next}
use Rattle.search_core.specs.Descents.{IsPath, Place, claim_at}
use Rattle.search_core.specs.Turns.{IsAhead, IsUncovered}
use Rattle.search_core.specs.Walks.{GoesOn, HasWatches, IsBelow, IsCoveredBelow, child_by, due_lines, place_of, place_on, tracks_below, tracks_of}
use Rattle.search_core.specs.Watches.{AreWatchedTo}
use Rattle.search_core.specs.Ways.{IsKeptAt, Way}
use Rattle.search_core.specs.declared.walk.Walk.{Walk}
use Rattle.search_core.proofs.Counting.{one_claim_more}
use Rattle.search_core.proofs.Descending.{ahead_deeper}
use Rattle.search_core.proofs.Watched.{above_one_more, tracks_pushed}

-- how much is left to do below the claim
abbrev pub left_below : Instance → ℕ → Claim → Tried → ℕ
left_below I C l f = through I C l (map (entry_of l) (rest_of f))

-- the choices from here on are those of the first frame but for some that are refuted, and the walk is where it was,
-- with all lines watched at its claim
pub record IsPassing (I : Instance) (C : ℕ) (lines : List Line) (before : Walk) (old : Tried) (walk : Walk) (f : Tried)
    : Type 0 where
  pub trying : IsTrying I C lines (claim_at (place_of before)) f
  pub less : left_below I C (claim_at (place_of before)) f ≤ left_below I C (claim_at (place_of before)) old
  pub asked : f.asked ≡ length lines
  pub path : walk.path ≡ before.path
  pub line : walk.line ≡ before.line
  pub watched : HasWatches lines walk
  pub held : AreWatchedTo lines walk.watches before.path (length lines)

module _ (I : Instance) (C : ℕ) (l : Claim) (log : OpenLog) (f : Tried) (k : ℕ) (s : Stands I l)
    (h : IsSearchLog I C log) (t : IsTrying I C log.lines l f) (lt : IsLeft f)
    (c : IsCoveredBy I log.lines (child I l (entry_of l (chosen_of f))) k) where
  none_there : first I C (child I l (entry_of l (chosen_of f))) ≡ None
  none_there = none_where_covered I C _ _ k (is_instance I l s)
      (claim-child I l (entry_of l (chosen_of f)) s.claim) h c

  pub passed_trying : IsTrying I C log.lines l (noted_by f k)
  passed_trying = choice_refuted I C l _ f k t lt (record { none = none_there; covered = c })

  pub passed_less : left_below I C l (noted_by f k) ≤ left_below I C l f
  passed_less =
      let e = entry_of l (chosen_of f) in
      let later = through I C l (map (entry_of l) (later_of f)) in
      let a : left_below I C l (noted_by f k) ≡ later =
      ap (λ (bs : List ℕ). through I C l (map (entry_of l) bs)) (rest_of_noted f k) in
      let b : left_below I C l f ≡ work I C (child I l e) + cond (is_some (first I C (child I l e))) 0 later =
      ap (λ (bs : List ℕ). through I C l (map (entry_of l) bs)) (next_choice f lt)
      ∙ through_next I C l e (map (entry_of l) (later_of f)) in
      at_most (first I C (child I l e)) none_there (work I C (child I l e)) later (left_below I C l f)
      (left_below I C l (noted_by f k)) a b
    where
      at_most : (o : Option (List Entry)) → o ≡ None → (w later before after : ℕ) → after ≡ later →
          before ≡ w + cond (is_some o) 0 later → after ≤ before
      at_most None q w later before after a b = omega arith
      at_most (Some seats) q w later before after a b = absurd cc

-- one choice less is left
pub passed_one : (f : Tried) (k : ℕ) → IsLeft f →
    length f.order - length (noted_by f k).refuted < length f.order - length f.refuted
passed_one f k lt =
    let n = length-append f.refuted (record { buffer = chosen_of f; line = k } ∷ []) in
    let m = lt in
    omega arith

-- what is ahead of less is ahead of more
pub ahead_of_less : (I : Instance) (C : ℕ) (lines : List Line) (before after : Place) (less more : Tried) →
    left_below I C (claim_at before) less ≤ left_below I C (claim_at before) more →
    IsAhead I C lines before less after → IsAhead I C lines before more after
ahead_of_less I C lines before after less more le a = record {
  place = a.place;
  root = a.root;
  owed = let k = a.owed in omega arith;
  turns = let k = a.turns in omega arith;
}

-- ---- what is kept of the claim, where the search goes down by a choice
pub kept_at : (I : Instance) (C : ℕ) (lines : List Line) (l : Claim) (f : Tried) (order : Vec ℕ) (n : Notes) (b : ℕ) →
    IsTrying I C lines l f → IsLeft f → b ≡ chosen_of f → f ≡ tried_by order.items n →
    IsKeptAt I l (record { notes = n; chosen = b; order = Some order }) × (f ≡ tried_of I l n)
kept_at I C lines l f order n b t lt e q =
    let o : IsOrderOf I l order = subst (λ bs. map (entry_of l) bs ≡ choices I (not_excluded I) l)
    (ap (λ (f : Tried). f.order) q) t.order in
    let r : f ≡ tried_of I l n = q ∙ tries_are I l order n o in
    (record { left = subst IsLeft r lt; chosen = e ∙ ap chosen_of r; order = o }, r)

-- ---- down to a child that no line covers
-- the walk with one claim more on its way, and no line known
abbrev pub gone_down : Walk → Way → Walk
gone_down walk way = record walk { path = way; line = None }

pub goes_down : (I : Instance) (C : ℕ) (log : OpenLog) (f : Tried) (walk next : Walk) (way : Way) →
    Stands I (claim_at (place_of walk)) → IsSearchLog I C log → IsUncovered I C log.lines (place_of walk) f → IsLeft f →
    IsBelow I log.lines (chosen_of f) walk next → way.sky.instance ≡ walk.path.sky.instance →
    way.sky.claims ≡ walk.path.sky.claims ++ child_by I walk (chosen_of f) ∷ [] →
    way.frames ≡ walk.path.frames ++ f ∷ [] → GoesOn I C f log log walk (gone_down next way)
goes_down I C log f walk next way s h u lt b i claims frames = record {
  log = h;
  grown = extends_none (claim_at (place_of walk)) log.lines;
  ahead = ahead_deeper I C log.lines (place_of walk) (place_on way None) f p s.claim u.opened.trying lt b.fresh i claims
      frames refl;
  watched = record {
    tracks = b.trail ∙ sym tracks;
    above = above_one_more walk.path way x p.some i claims log.lines next.watches f frames b.above
        (subst (AreWatchedTo log.lines next.watches walk.path) (sym u.asked) b.held);
  };
  held = subst (λ (levels : List ℕ). AreWatched log.lines next.watches levels (length log.lines))
      (sym (ap (λ (t : Tracks). t.last) tracks)) b.child;
  counted = one_claim_more log.lines walk.path way f frames;
}
  where
    p : IsPath I C log.lines (place_of walk)
    p = u.opened.path

    x : Claim
    x = child_by I walk (chosen_of f)

    tracks : tracks_of way ≡ tracks_below walk.path (levels_of I x)
    tracks = tracks_pushed walk.path way x p.some i claims
        ∙ ap (λ (J : Instance). tracks_below walk.path (levels_of J x)) p.subject

-- ---- the walk is where it was
pub start : (I : Instance) (C : ℕ) (lines : List Line) (walk : Walk) (f : Tried) →
    IsUncovered I C lines (place_of walk) f → HasWatches lines walk →
    AreWatchedTo lines walk.watches walk.path f.asked → IsPassing I C lines walk f walk f
start I C lines walk f u watched held = record {
  trying = u.opened.trying;
  less = omega arith;
  asked = u.asked;
  path = refl;
  line = refl;
  watched = watched;
  held = subst (AreWatchedTo lines walk.watches walk.path) u.asked held;
}

module _ (I : Instance) (C : ℕ) (log : OpenLog) (before : Walk) (old : Tried) (walk : Walk) (f : Tried)
    (p : IsPassing I C log.lines before old walk f) where
  pub here : place_of walk ≡ place_of before
  here = rw (p.path, p.line) refl

  pub uncovered_here : IsUncovered I C log.lines (place_of before) old → IsUncovered I C log.lines (place_of walk) f
  uncovered_here u = subst (λ (h : Place). IsUncovered I C log.lines h f) (sym here) (record {
    opened = record { path = u.opened.path; not_empty = u.opened.not_empty; trying = p.trying };
    fresh = u.fresh;
    asked = p.asked;
  })

  -- one choice more is refuted
  pub passed : (next : Walk) (k : ℕ) → Stands I (claim_at (place_of before)) → IsSearchLog I C log → IsLeft f →
      next.path ≡ walk.path → next.line ≡ walk.line → IsCoveredBelow I log.lines (chosen_of f) walk next k →
      IsPassing I C log.lines before old next (noted_by f k)
  passed next k s h lt path line c =
      let l = claim_at (place_of before) in
      let m = subst (λ (h : Place). IsCoveredBy I log.lines
      (child I (claim_at h) (entry_of (claim_at h) (chosen_of f))) k) here c.covered in
      record {
        trying = passed_trying I C l log f k s h p.trying lt m;
        less = let a = passed_less I C l log f k s h p.trying lt m in let b = p.less in omega arith;
        asked = p.asked;
        path = path ∙ p.path;
        line = line ∙ p.line;
        watched = c.watched;
        held = subst (λ (w : Way). AreWatchedTo log.lines next.watches w (length log.lines)) p.path c.held;
      }

  -- what goes on from here goes on from where it was
  pub goes_on : (after : OpenLog) (next : Walk) → GoesOn I C f log after walk next →
      GoesOn I C old log after before next
  goes_on after next g = record {
    log = g.log;
    grown = subst (λ (h : Place). Extends (claim_at h) log.lines after.lines) here g.grown;
    ahead = ahead_of_less I C after.lines _ _ f old p.less
        (subst (λ (h : Place). IsAhead I C after.lines h f (place_of next)) here g.ahead);
    watched = g.watched;
    held = g.held;
    counted = subst (λ (w : Way). due_lines after.lines next.path ≤ due_lines log.lines w + 1) p.path g.counted;
  }

  -- and down to the next child
  pub goes_down_from : (next : Walk) (way : Way) → Stands I (claim_at (place_of before)) → IsSearchLog I C log →
      IsUncovered I C log.lines (place_of before) old → IsLeft f → IsBelow I log.lines (chosen_of f) walk next →
      way.sky.instance ≡ walk.path.sky.instance →
      way.sky.claims ≡ walk.path.sky.claims ++ child_by I walk (chosen_of f) ∷ [] →
      way.frames ≡ walk.path.frames ++ f ∷ [] → GoesOn I C old log log before (gone_down next way)
  goes_down_from next way s h u lt b i claims frames =
      goes_on log (gone_down next way) (goes_down I C log f walk next way
      (subst (λ (h : Place). Stands I (claim_at h)) (sym here) s) h (uncovered_here u) lt b i claims frames)
