use Rattle.std.proofs.Common.{◌≡◌, ℕ, List, le_refl, refl, ap, subst, arith}
use Rattle.std.proofs.lemmas.Result.{on_ok_weaker}
use Rattle.line_index.proofs.WatchLemmas.{raised_refl}
use Rattle.claim_levels.specs.Trails.{Tracks}
use Rattle.claim_levels.proofs.AllLevels.{levels_are, levels_of_are}
use Rattle.search_core.proofs.Words.{Stands, AreLevels, AreRaised}
use Rattle.branching.specs.Tries.{noted_by, tried_of}
use Rattle.branching.specs.Trying.{IsTrying}
use Rattle.branching.proofs.Descent.{is_instance}
use Rattle.branching.proofs.Growing.{extends_none}
use Rattle.branching.proofs.Searching.{trying_asked}
use Rattle.branching.proofs.Uncovered.{covered_has_none}
use Rattle.search_core.specs.Descents.{claim_at}
use Rattle.search_core.specs.Walks.{HasWatches, place_of, tracks_of}
use Rattle.search_core.proofs.Descending.{ahead_covered}
use Rattle.search_core.proofs.Passing.{goes_on, passed_trying}
use Rattle.search_core.proofs.Watched.{above_kept}
use Rattle.search_core.specs.declared.walk.Walk.{Walk}
use Rattle.search_core.proofs.walk.Walk.resume.Goals.{In_ok-line}
use Rattle.search_core.proofs.walk.Walk.resume.Goals as goal

stands : (c : In_ok-line) → Stands c.args.task.now.instance.now (claim_at (place_of c.args.self.now))
stands c = rw (c.instance.ensures.value, c.requires.opened.path.subject) at c.instance.ensures.stands

-- the walk, once it is asked
abbrev asked : (c : In_ok-line) → Walk
asked c = record c.args.self.now { trail = c.ascend.new.self; watches = c.ask.new.self }

tracks : (c : In_ok-line) → c.ascend.new.self ≡ tracks_of c.args.self.now.path
tracks c = c.in_ok-ascend.ensures.some _ _ (ap (λ (t : Tracks). t.above) c.requires.trail.1)

levels : (c : In_ok-line) → AreLevels c.args.task.now.instance.now (claim_at (place_of c.args.self.now))
    c.levels-levels.result
levels c = rw (c.levels-levels.ensures, tracks c, c.requires.opened.path.subject) (levels_of_are _ _ (stands c).claim)

watched : (c : In_ok-line) → HasWatches c.args.log.now.lines (asked c)
watched c = record {
  tracks = tracks c;
  above = above_kept _ _ (is_instance _ _ (stands c)) _ _ _ _
      (rw (c.as_slice.ensures.value, c.log-2.ensures) at c.in_ok-line.ensures.kept) c.args.self.now.path
      c.args.self.now.line c.requires.opened.path (stands c).claim
      (subst (λ (xs : List ℕ). AreRaised xs c.levels-levels.result) (levels_are _ _ _ (levels c))
      (raised_refl c.levels-levels.result)) (rw c.log-2.ensures at c.in_ok-line.ensures.noted) c.requires.above;
}

pub returns-in-Some : goal.returns-in-Some
returns-in-Some c =
    let I = c.args.task.now.instance.now in
    let l = claim_at (place_of c.args.self.now) in
    let d = (goal.at.returns-in-Some c).In_ok-line in
    let h = (rw (c.as_slice.ensures.value, c.log-2.ensures, c.in-Some.is) at c.in_ok-line.ensures.some) I l
    (levels d) in
    let same = extends_none l c.args.log.now.lines in
    record {
      log = c.requires.log;
      grown = same;
      ahead = ahead_covered I _ l _ _ _ _ c.in-Some.line same c.requires.opened.path
          (record { none = covered_has_none I _ l _ _ (stands d) c.requires.log h; covered = h });
      watched = record { tracks = (watched d).tracks; above = (watched d).above };
      held = tt;
      counted = omega arith;
    }

pub frame-requires : goal.frame-requires
frame-requires c = (levels (goal.at.frame-requires c).In_ok-line).count

pub note-requires : goal.note-requires
note-requires c =
    let d = (goal.at.note-requires c).In_ok-line in
    rw (c.in_ok-frame.ensures _ (levels d) c.requires.kept.order) c.requires.kept.left

trying : (c : In_ok-line) → IsTrying c.args.task.now.instance.now c.args.task.now.capacity c.args.log.now.lines
    (claim_at (place_of c.args.self.now)) (noted_by (tried_of c.args.task.now.instance.now
    (claim_at (place_of c.args.self.now)) c.args.kept.notes) c.args.k)
trying c = passed_trying _ _ _ c.args.log.now _ _ (stands c) c.requires.log c.requires.opened.trying
    c.requires.kept.left (rw c.requires.kept.chosen at c.requires.covered)

pub proceed-requires-clause-ready : goal.proceed-requires-clause-ready
proceed-requires-clause-ready c =
    let d = (goal.at.proceed-requires-clause-ready c).In_ok-line in
    let o = c.requires.opened in
    let uncovered = rw (c.as_slice.ensures.value, c.log-2.ensures, c.in_default.is) at c.in_ok-line.ensures.uncovered in
    rw (c.ask_to.ensures, c.in_ok-note.ensures, c.in_ok-frame.ensures _ (levels d) c.requires.kept.order) (record {
      opened = record {
        path = o.path;
        not_empty = o.not_empty;
        trying = trying_asked _ _ _ _ _ c.len.result (trying d);
      };
      fresh = uncovered _ _ (levels d) (rw (c.levels-levels.ensures, tracks d) c.requires.held);
      asked = rw c.log-3.ensures at c.len.ensures.value;
    })

pub proceed-requires-clause-watched : goal.proceed-requires-clause-watched
proceed-requires-clause-watched c = watched (goal.at.proceed-requires-clause-watched c).In_ok-line

pub returns : goal.returns
returns c =
    let d = (goal.at.returns c).In_ok-line in
    let none = rw (c.as_slice.ensures.value, c.log-2.ensures, c.in_default.is, c.levels-levels.ensures, tracks d)
    at c.in_ok-line.ensures.none in
    let q = c.in_ok-frame.ensures _ (levels d) c.requires.kept.order in
    on_ok_weaker c.proceed.result (goes_on _ _ c.args.log.now _ _ (asked d) _ (record {
      trying = trying_asked _ _ _ _ _ c.len.result (trying d);
      less = le_refl _;
      asked = rw c.log-3.ensures at c.len.ensures.value;
      path = refl;
      line = refl;
      watched = watched d;
      held = none c.requires.held;
    }) c.proceed.new.log c.proceed.new.self) (rw (c.ask_to.ensures, c.in_ok-note.ensures, q) at c.proceed.ensures)
