use Rattle.std.proofs.Common.{◌≡◌, ◌∙◌, Some, ap, arith, map, slice_set}
use Rattle.std.proofs.lemmas.Result.{IfOk-weaker}
use Rattle.search_core.proofs.Words.{first}
use Rattle.search_core.specs.Descents.{sky_root}
use Rattle.search_core.specs.Seats.{seat_at}
use Rattle.search_core.proofs.Gathering.{IsGathering, all_gathered, gathering_has, gathering_next, gathering_start, gathering_within}
use Rattle.search_core.proofs.gather.seats.Goals.{After-index_mut}
use Rattle.search_core.proofs.gather.seats.Goals as goal

pub loop-kept-init : goal.loop-kept-init
loop-kept-init c = (
  c.requires.path.0,
  gathering_start _ _ _ c.args.path.now c.in_ok-offsets.offsets.items c.requires.path.1 c.requires.found
      (let n = c.in_ok-offsets.ensures.len in let k = c.in_ok-offsets.offsets.ok.0 in let m = c.len.ensures.value in
      omega arith),
)

pub low-requires : goal.low-requires
low-requires c =
    let i = c.loop-kept.invariant in
    rw c.sky.ensures (gathering_has _ _ i.0 _ _ _ _ _ i.1 c.in-Some.ensures.some)

pub index_mut-requires : goal.index_mut-requires
index_mut-requires c =
    let i = c.loop-kept.invariant in
    let lt = gathering_within _ _ i.0 _ _ _ _ _ i.1 c.in-Some.ensures.some (rw c.sky.ensures at c.low.ensures.stands) in
    let k = c.loop-kept.offsets.ok.0 in
    omega arith

-- the offset is written
written : (c : After-index_mut) →
    IsGathering c.args.task.now.instance.now c.args.task.now.capacity c.loop-kept.invariant.0
    (sky_root c.args.path.now.sky) c.go_back.new.self (slice_set c.loop-kept.offsets.items c.in-Some.kept.chosen
    c.low.result)
written c =
    gathering_next _ _ _ _ _ _ _ _ c.loop-kept.invariant.1 c.in-Some.ensures.some c.low.result
    (rw c.sky.ensures at c.low.ensures.stands) (rw c.sky.ensures at c.low.ensures.value)

pub loop-kept-preserved : goal.loop-kept-preserved
loop-kept-preserved c = (c.loop-kept.invariant.0, written (goal.at.loop-kept-preserved c).After-index_mut)

pub loop-kept-preserved-in-Some : goal.loop-kept-preserved-in-Some
loop-kept-preserved-in-Some c =
    (c.loop-kept.invariant.0, written (goal.at.loop-kept-preserved-in-Some c).After-index_mut)

pub returns-clause-value : goal.returns-clause-value
returns-clause-value c =
    let i = c.loop-kept.invariant in
    let none = c.in_default.ensures.none in
    let members = rw (c.sky-2.ensures, none.1) at c.members.ensures.value in
    IfOk-weaker c.gathered.result
    (λ v. v.items ≡ map (seat_at c.loop-kept.offsets.items) c.members.result.now)
    (λ v. first c.args.task.now.instance.now c.args.task.now.capacity (sky_root c.args.path.now.sky) ≡ Some v.items)
    (λ v q. all_gathered _ _ i.0 _ _ _ _ i.1 none.0 (q ∙ ap (map (seat_at c.loop-kept.offsets.items)) members))
    (rw c.deref.ensures.value at c.gathered.ensures)
