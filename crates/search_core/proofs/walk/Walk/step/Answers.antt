use Rattle.std.proofs.Common.{◌≤◌, arith}
use Rattle.search_core.proofs.Words.{last_claim, Stands}
use Rattle.branching.specs.Logs.{Extends}
use Rattle.dsa_model.proofs.Results.{passed_on}
use Rattle.branching.proofs.Growing.{extends_along}
use Rattle.search_core.specs.Descents.{owed, sky_root}
use Rattle.search_core.specs.Walks.{place_of}
use Rattle.search_core.proofs.Stepping.{grown_below, held_there, is_back_from, none_here, on_back, on_line, parted, root_refuted, some_owed, tracks_back}
use Rattle.search_core.proofs.Watched.{above_more, levels_here}
use Rattle.search_core.proofs.walk.Walk.step.Goals.{In_default, In_ok-k}
use Rattle.search_core.proofs.walk.Walk.step.Goals as goal

-- ---- back
pub resume-requires-clause-trail : goal.resume-requires-clause-trail
resume-requires-clause-trail c =
    tracks_back _ _ _ _ _ _ c.requires.place c.in-Some-go_back.ensures.some c.requires.watched

pub resume-requires-clause-held : goal.resume-requires-clause-held
resume-requires-clause-held c =
    held_there _ _ _ _ _ _ c.requires.place c.in-Some-go_back.ensures.some c.requires.watched

pub returns-in_ok-resume-in-Some-go_back-clause-grown :
    goal.returns-in_ok-resume-in-Some-go_back-clause-grown
returns-in_ok-resume-in-Some-go_back-clause-grown c =
    let b = is_back_from _ _ _ c.args.self.now _ _ c.requires.place c.in-Some-go_back.ensures.some in
    rw b.root (grown_below _ _ _ _ _ b.path c.in_ok-resume-in-Some-go_back.ensures.grown)

pub returns-in_ok-resume-in-Some-go_back-clause-turned :
    goal.returns-in_ok-resume-in-Some-go_back-clause-turned
returns-in_ok-resume-in-Some-go_back-clause-turned c =
    let back = c.in-Some-go_back.ensures.some in
    on_back _ _ _ _ c.requires.place _ _ _ _ c.in-Some.k c.args.meter.now c.in-Some.is
    (parted _ _ _ c.args.self.now _ _ c.requires.place back)
    (is_back_from _ _ _ c.args.self.now _ _ c.requires.place back)
    c.in_ok-resume-in-Some-go_back.ensures.ahead

pub returns-in-None-clause-turned : goal.returns-in-None-clause-turned
returns-in-None-clause-turned c =
    let none = c.in-None.ensures.none in
    root_refuted _ _ _ _ c.requires.place c.in-Some.k c.in-Some.is none.0

-- ---- forth
-- the claim that the search is at
stands : (c : In_default) → Stands c.args.task.now.instance.now (last_claim c.args.self.now.path.sky.claims)
stands c = rw (c.instance.ensures.value, c.requires.place.path.subject) at c.instance.ensures.stands

-- it is left to look at
some : (c : In_default) → 1 ≤ owed c.args.task.now.instance.now c.args.task.now.capacity (place_of c.args.self.now)
some c = some_owed _ _ _ _ c.requires.place c.in_default.is (stands c).claim

-- what the log has once it is opened
grown : (c : In_ok-k) → Extends (sky_root c.args.self.now.path.sky) c.args.log.now.lines c.open.new.log.lines
grown c = grown_below _ _ _ _ _ c.requires.place.path (rw c.sky.ensures at c.in_ok-k.ensures.grown)

pub open-requires-clause-levels : goal.open-requires-clause-levels
open-requires-clause-levels c =
    let claim = (stands (goal.at.open-requires-clause-levels c).In_default).claim in
    rw (c.sky.ensures, c.levels.ensures)
    (levels_here _ _ _ c.args.self.now c.requires.place.path c.requires.watched claim)

pub open-requires-clause-fresh : goal.open-requires-clause-fresh
open-requires-clause-fresh c = rw c.sky.ensures (none_here _ _ _ _ c.requires.place c.in_default.is)

pub returns-in_err-k-clause-used : goal.returns-in_err-k-clause-used
returns-in_err-k-clause-used c =
    omega (arith, some (goal.at.returns-in_err-k-clause-used c).In_default, c.open.ensures.one)

pub returns-in_err-k-clause-turned : goal.returns-in_err-k-clause-turned
returns-in_err-k-clause-turned c =
    let o = some (goal.at.returns-in_err-k-clause-turned c).In_default in
    passed_on _ _ _ _ _ c.from_residual-in_err-k.ensures.1 c.in_err-k.ensures.opened
    (λ f h. (h.0, omega (arith, o, h.1)))

pub returns-in_err-seats-in-Empty-clause-used : goal.returns-in_err-seats-in-Empty-clause-used
returns-in_err-seats-in-Empty-clause-used c =
    omega (arith, some (goal.at.returns-in_err-seats-in-Empty-clause-used c).In_default, c.open.ensures.one)

pub returns-in-Line-clause-grown : goal.returns-in-Line-clause-grown
returns-in-Line-clause-grown c = grown (goal.at.returns-in-Line-clause-grown c).In_ok-k

pub returns-in-Line-clause-used : goal.returns-in-Line-clause-used
returns-in-Line-clause-used c =
    omega (arith, some (goal.at.returns-in-Line-clause-used c).In_default, c.open.ensures.one)

pub returns-in-Line-clause-turned : goal.returns-in-Line-clause-turned
returns-in-Line-clause-turned c =
    on_line _ _ _ _ c.requires.place _ _ c.args.meter.now c.open.new.meter c.in_default.is
    (stands (goal.at.returns-in-Line-clause-turned c).In_default).claim (rw c.sky.ensures at c.in_ok-k.ensures.grown)
    (rw (c.sky.ensures, c.in-Line.is) at c.in_ok-k.ensures.opened) c.open.ensures.one

pub returns-in-Line-clause-watched : goal.returns-in-Line-clause-watched
returns-in-Line-clause-watched c = record {
  tracks = c.requires.watched.tracks;
  above = above_more _ _ _ _ _ c.in_ok-k.ensures.grown c.requires.watched.above;
}

pub returns-in_ok-begin-in-Choices-clause-grown : goal.returns-in_ok-begin-in-Choices-clause-grown
returns-in_ok-begin-in-Choices-clause-grown c =
    grown_below _ _ _ _ _ c.requires.place.path (extends_along _ _ _ _ _ (λ b h. h)
    (rw c.sky.ensures at c.in_ok-k.ensures.grown) c.in_ok-begin-in-Choices.ensures.grown)

pub returns-in_ok-seats-in-Empty-clause-grown : goal.returns-in_ok-seats-in-Empty-clause-grown
returns-in_ok-seats-in-Empty-clause-grown c = grown (goal.at.returns-in_ok-seats-in-Empty-clause-grown c).In_ok-k

pub returns-in_ok-seats-in-Empty-clause-used : goal.returns-in_ok-seats-in-Empty-clause-used
returns-in_ok-seats-in-Empty-clause-used c =
    omega (arith, some (goal.at.returns-in_ok-seats-in-Empty-clause-used c).In_default, c.open.ensures.one)
