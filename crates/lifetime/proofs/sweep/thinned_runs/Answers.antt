use Rattle.std.proofs.Common.{rules, ◌≢◌, [], inl, inr}
use Rattle.lifetime.proofs.Lists.{is_nil}
use Rattle.lifetime.proofs.Live.{rises_live}
use Rattle.lifetime.proofs.RunThinning.{thinned_before, thinning_more, thinning_none, thinning_same}
use Rattle.lifetime.proofs.sweep.thinned_runs.Goals.{else-passed-via-then-passed+else-not-is_empty, else-passed-via-else-passed}
use Rattle.lifetime.proofs.sweep.thinned_runs.Goals as goal

pub loop-next-init : goal.loop-next-init
loop-next-init c = thinning_none _ _ _ _ c.requires c.in_ok-live.ensures.items c.new-thinned.ensures

pub pass-requires-clause-fresh : goal.pass-requires-clause-fresh
pass-requires-clause-fresh c = λ k lt. c.loop-next.invariant.sweeping.fresh k lt c.loop-next-test.true

pub pass-requires-clause-were : goal.pass-requires-clause-were
pass-requires-clause-were c = c.loop-next.invariant.sweeping.were c.loop-next-test.true

pub put-requires : goal.put-requires
put-requires c = rw (c.deref.ensures.value, c.in_ok-passed.ensures.are) (rises_live c.args.instance.now _)

pub loop-next-preserved-in_ok-put : goal.loop-next-preserved-in_ok-put
loop-next-preserved-in_ok-put c =
    let some : c.pass.new.live.items ≢ [] = search rules in
    thinning_more _ _ _ _ _ _ _ c.in_ok-passed.passed.changed (record {
      edges_of_it = c.requires;
      before = c.loop-next.invariant;
      in_edges = c.loop-next-test.true;
      passed = c.in_ok-passed.ensures;
    }) _ _ c.deref.ensures.value c.if-passed.true some c.in_ok-put.ensures

pub loop-next-preserved : goal.loop-next-preserved
loop-next-preserved c = thinning_same _ _ _ _ _ _ _ c.in_ok-passed.passed.changed (record {
  edges_of_it = c.requires;
  before = c.loop-next.invariant;
  in_edges = c.loop-next-test.true;
  passed = c.in_ok-passed.ensures;
}) (elim c.else-passed.branch [
  | else-passed-via-then-passed+else-not-is_empty w ↦ inr (is_nil _ _ w.is_empty.result w.is_empty.ensures
      w.if-not-is_empty.false c.pass.new.live.ok.0)
  | else-passed-via-else-passed w ↦ inl w.if-passed.false
])

pub returns-clause-runs : goal.returns-clause-runs
returns-clause-runs c = (thinned_before _ _ c.loop-next.next _ _ c.loop-next-test.false c.loop-next.invariant).0

pub returns-clause-limit : goal.returns-clause-limit
returns-clause-limit c = (thinned_before _ _ c.loop-next.next _ _ c.loop-next-test.false c.loop-next.invariant).1
