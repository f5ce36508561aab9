use Rattle.std.proofs.Common.{◌≡◌, ◌∙◌, length, refl, sym, ap, subst}
use Rattle.std.proofs.lemmas.Result.{on_ok_weaker}
use Rattle.claim_levels.specs.Trails.{Tracks}
use Rattle.search_core.proofs.Words.{Stands, AreLevels}
use Rattle.branching.specs.Tries.{IsLeft, Tried, chosen_of, order_of, untried}
use Rattle.branching.proofs.AllBranches.{order_is}
use Rattle.branching.proofs.Descent.{is_instance}
use Rattle.branching.proofs.FirstChoice.{first_choice}
use Rattle.branching.proofs.Searching.{first_in}
use Rattle.search_core.specs.Descents.{claim_at}
use Rattle.search_core.specs.Walks.{place_of, tracks_of}
use Rattle.search_core.proofs.Passing.{goes_down, goes_on, passed, start, uncovered_here}
use Rattle.search_core.proofs.Watched.{levels_here}
use Rattle.search_core.proofs.walk.Walk.begin.Goals.{After-first-chosen, After-new-frame, In-Some}
use Rattle.search_core.proofs.walk.Walk.begin.Goals as goal

-- ---- at the claim
stands : (c : After-first-chosen) → Stands c.args.task.now.instance.now (claim_at (place_of c.args.self.now))
stands c = rw (c.instance.ensures.value, c.requires.ready.opened.path.subject) at c.instance.ensures.stands

levels : (c : After-first-chosen) → AreLevels c.args.task.now.instance.now (claim_at (place_of c.args.self.now))
    c.args.self.now.trail.last
levels c = levels_here _ _ _ c.args.self.now c.requires.ready.opened.path c.requires.watched (stands c).claim

abbrev choices_of : (c : After-first-chosen) → Tried
choices_of c = untried (order_of c.args.task.now.instance.now (claim_at (place_of c.args.self.now)))
    (length c.args.log.now.lines)

first : (c : After-first-chosen) → IsLeft (choices_of c) × (c.first-chosen.result ≡ chosen_of (choices_of c))
first c = first_choice _ _ _ (length c.args.log.now.lines) (is_instance _ _ (stands c))
    (c.first-chosen.ensures.first _ _ (rw c.levels.ensures (levels c)) c.requires.ready.opened.not_empty)

pub look_up-requires-clause-has : goal.look_up-requires-clause-has
look_up-requires-clause-has c =
    let f = first (goal.at.look_up-requires-clause-has c).After-first-chosen in
    first_in _ _ _ _ _ _ f.0 f.1 c.requires.ready.opened.trying

-- ---- a line covers the child
-- the levels are those of the claim again
again : (c : In-Some) → c.look_up.new.self.trail.last ≡ c.args.self.now.trail.last
again c =
    let found = rw c.in-Some.is at c.in_ok-line.ensures.found in
    ap (λ (t : Tracks). t.last)
    (found.watched.tracks ∙ ap tracks_of c.in_ok-line.ensures.path ∙ sym c.requires.watched.tracks)

pub choices-requires : goal.choices-requires
choices-requires c =
    let d = goal.at.choices-requires c in
    record { count = ap length (c.levels-in-Some.ensures ∙ again d.In-Some) ∙ (levels d.After-first-chosen).count }

-- so the choices that are made are those of the claim
made : (c : After-new-frame) → AreLevels c.args.task.now.instance.now (claim_at (place_of c.args.self.now))
    c.look_up.new.self.trail.last → c.new-frame.result ≡ untried (order_of c.args.task.now.instance.now
    (claim_at (place_of c.args.self.now))) (length c.args.log.now.lines)
made c h =
    let q = order_is _ _ _ (c.in_ok-order-in-Some.ensures (claim_at (place_of c.args.self.now))
    (rw c.levels-in-Some.ensures h)) in
    rw (c.new-frame.ensures, q, c.len-asked.ensures.value, c.log.ensures) refl

pub note-requires : goal.note-requires
note-requires c =
    let d = goal.at.note-requires c in
    subst IsLeft (sym (made d.After-new-frame (rw (again d.In-Some) (levels d.After-first-chosen))))
    (first d.After-first-chosen).0

pub proceed-requires-clause-ready : goal.proceed-requires-clause-ready
proceed-requires-clause-ready c =
    let d = goal.at.proceed-requires-clause-ready c in
    let f = first d.After-first-chosen in
    let found = rw (f.1, c.in-Some.is) at c.in_ok-line.ensures.found in
    let q = made d.After-new-frame (rw (again d.In-Some) (levels d.After-first-chosen)) in
    rw (c.in_ok-note-in-Some.ensures, q) (uncovered_here _ _ c.args.log.now _ _ _ _
    (passed _ _ c.args.log.now _ _ _ _ (start _ _ _ _ _ c.requires.ready c.requires.watched c.requires.held)
    c.look_up.new.self c.in-Some.line (stands d.After-first-chosen) c.requires.log f.0 c.in_ok-line.ensures.path
    c.in_ok-line.ensures.line found) c.requires.ready)

pub returns-in_ok-note-in-Some : goal.returns-in_ok-note-in-Some
returns-in_ok-note-in-Some c =
    let d = goal.at.returns-in_ok-note-in-Some c in
    let f = first d.After-first-chosen in
    let found = rw (f.1, c.in-Some.is) at c.in_ok-line.ensures.found in
    let q = made d.After-new-frame (rw (again d.In-Some) (levels d.After-first-chosen)) in
    on_ok_weaker c.proceed.result (goes_on _ _ c.args.log.now _ _ _ _ (passed _ _ c.args.log.now _ _ _ _
    (start _ _ _ _ _ c.requires.ready c.requires.watched c.requires.held) c.look_up.new.self c.in-Some.line
    (stands d.After-first-chosen) c.requires.log f.0 c.in_ok-line.ensures.path c.in_ok-line.ensures.line found)
    c.proceed.new.log c.proceed.new.self) (rw (c.in_ok-note-in-Some.ensures, q) at c.proceed.ensures)

-- ---- no line does
pub go_down-requires : goal.go_down-requires
go_down-requires c =
    let f = first (goal.at.go_down-requires c).After-first-chosen in
    let o = c.requires.ready.opened in
    record {
      has = rw c.in_ok-line.ensures.path (first_in _ _ _ _ _ _ f.0 f.1 o.trying);
      kept = rw (c.in_ok-line.ensures.path, o.path.subject) (record {
        left = rw c.new-refuted.ensures.items f.0;
        chosen = rw c.new-refuted.ensures.items f.1;
        order = tt;
      });
    }

pub returns-in_ok-go_down-in-None : goal.returns-in_ok-go_down-in-None
returns-in_ok-go_down-in-None c =
    let d = (goal.at.returns-in_ok-go_down-in-None c).After-first-chosen in
    let f = first d in
    let p = c.requires.ready.opened.path.subject in
    let down = rw
    (c.in_ok-line.ensures.path, p, f.1, c.new-refuted.ensures.items, c.len-asked.ensures.value, c.log.ensures)
    at c.in_ok-go_down-in-None.ensures in
    goes_down _ _ c.args.log.now _ c.args.self.now c.look_up.new.self c.go_down.new.self (stands d) c.requires.log
    c.requires.ready f.0 (rw (f.1, c.in-None.is) at c.in_ok-line.ensures.found)
    (down.instance ∙ sym p) down.claims down.frames
