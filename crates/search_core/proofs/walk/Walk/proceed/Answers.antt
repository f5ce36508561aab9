use Rattle.std.proofs.Common.{◌-◌, ◌<◌, ◌∙◌, length, sym, subst}
use Rattle.std.proofs.lemmas.Result.{on_ok_weaker}
use Rattle.branching.specs.Tries.{IsLeft, Tried}
use Rattle.branching.proofs.Searching.{chosen_in, one_is_left}
use Rattle.search_core.specs.Turns.{IsUncovered}
use Rattle.search_core.specs.Walks.{place_of}
use Rattle.search_core.proofs.Passing.{goes_down_from, goes_on, kept_at, passed, passed_one, start, uncovered_here}
use Rattle.search_core.proofs.walk.Walk.proceed.Goals.{After-chosen-chosen}
use Rattle.search_core.proofs.walk.Walk.proceed.Goals as goal

pub choices-init : goal.choices-init
choices-init c = start _ _ _ _ _ c.requires.ready c.requires.watched c.requires.held

pub chosen-chosen-requires : goal.chosen-chosen-requires
chosen-chosen-requires c = one_is_left _ _ _ _ _ c.choices.invariant.trying (sym c.choices-test.ensures)

-- ---- a choice is left
left : (c : After-chosen-chosen) → IsLeft c.choices.frame
left c = one_is_left _ _ _ _ _ c.choices.invariant.trying (sym c.choices-test.ensures)

uncovered : (c : After-chosen-chosen) → IsUncovered c.args.task.now.instance.now c.args.task.now.capacity
    c.args.log.now.lines (place_of c.choices.self) c.choices.frame
uncovered c = uncovered_here _ _ c.args.log.now _ _ _ _ c.choices.invariant c.requires.ready

pub look_up-requires : goal.look_up-requires
look_up-requires c =
    let d = (goal.at.look_up-requires c).After-chosen-chosen in
    let o = (uncovered d).opened in
    record {
      path = o.path;
      has = rw c.chosen-chosen.ensures (chosen_in _ _ _ _ _ o.trying (left d));
      first = λ e. absurd cc;
      watched = c.choices.invariant.watched;
      held = rw c.choices.invariant.path c.choices.invariant.held;
    }

pub note-requires : goal.note-requires
note-requires c = left (goal.at.note-requires c).After-chosen-chosen

pub choices-smaller : goal.choices-smaller
choices-smaller c =
    let f = c.choices.frame in
    subst (λ (x : Tried). length x.order - length x.refuted < length f.order - length f.refuted)
    (sym c.in_ok-note-in-Some.ensures) (passed_one f c.in-Some.line
    (left (goal.at.choices-smaller c).After-chosen-chosen))

pub choices-preserved : goal.choices-preserved
choices-preserved c =
    let s = rw (c.instance.ensures.value, c.requires.ready.opened.path.subject) at c.instance.ensures.stands in
    rw c.in_ok-note-in-Some.ensures (passed _ _ c.args.log.now _ _ _ _ c.choices.invariant c.look_up.new.self
    c.in-Some.line s c.requires.log (left (goal.at.choices-preserved c).After-chosen-chosen)
    c.in_ok-line.ensures.path c.in_ok-line.ensures.line
    (rw (c.chosen-chosen.ensures, c.in-Some.is) at c.in_ok-line.ensures.found))

pub go_down-requires : goal.go_down-requires
go_down-requires c =
    let d = (goal.at.go_down-requires c).After-chosen-chosen in
    let o = (uncovered d).opened in
    record {
      has = rw (c.in_ok-line.ensures.path, c.chosen-chosen.ensures) (chosen_in _ _ _ _ _ o.trying (left d));
      kept = rw (c.in_ok-line.ensures.path, o.path.subject)
          (kept_at _ _ _ _ _ _ _ _ o.trying (left d) c.chosen-chosen.ensures c.parts-order.ensures).0;
    }

pub returns-in-None : goal.returns-in-None
returns-in-None c =
    let d = (goal.at.returns-in-None c).After-chosen-chosen in
    let o = (uncovered d).opened in
    let s = rw (c.instance.ensures.value, c.requires.ready.opened.path.subject) at c.instance.ensures.stands in
    let kept = kept_at _ _ _ _ c.choices.frame c.parts-order.result.0 c.parts-order.result.1 c.chosen-chosen.result
    o.trying (left d) c.chosen-chosen.ensures c.parts-order.ensures in
    let down = rw (c.in_ok-line.ensures.path, o.path.subject, c.chosen-chosen.ensures, ← kept.1)
    at c.in_ok-go_down-in-None.ensures in
    goes_down_from _ _ c.args.log.now _ _ _ _ c.choices.invariant c.look_up.new.self c.go_down.new.self s
    c.requires.log c.requires.ready (left d)
    (rw (c.chosen-chosen.ensures, c.in-None.is) at c.in_ok-line.ensures.found)
    (down.instance ∙ sym o.path.subject) down.claims down.frames

-- ---- none is left
pub refute-requires-clause-ready : goal.refute-requires-clause-ready
refute-requires-clause-ready c = uncovered_here _ _ c.args.log.now _ _ _ _ c.choices.invariant c.requires.ready

pub returns : goal.returns
returns c = on_ok_weaker c.refute.result (goes_on _ _ c.args.log.now _ _ _ _ c.choices.invariant c.refute.new.log
    c.refute.new.self) c.refute.ensures
