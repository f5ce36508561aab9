use Rattle.std.proofs.Common.{arith, ap, refl, ◌∙◌}
use Rattle.dsa_terms.specs.Buffers.{is_live}
use Rattle.dsa_model.specs.Lists.{pair_at}
use Rattle.lifetime.proofs.Passing.{none_passed, pass_changed, pass_unchanged, passed_all}
use Rattle.lifetime.proofs.sweep.pass.Goals.{then-branch, else-branch}
use Rattle.lifetime.proofs.sweep.pass.Goals as goal

pub switch-requires : goal.switch-requires
switch-requires c = c.loop-next.invariant.rises

pub loop-next-init : goal.loop-next-init
loop-next-init c = none_passed _ _ c.args.first _ _ c.requires.in_edges c.requires.were

pub loop-next-preserved : goal.loop-next-preserved
loop-next-preserved c =
    let e = pair_at c.args.edges.now c.loop-next.next in
    let t = (pair_at c.args.edges.now c.args.first).0 in
    let is = c.live_at.ensures ∙ ap (λ x. is_live x t) c.buffer.ensures.value in
    elim c.if-branch.branch [
      | then-branch w ↦ rw w.changed-is
          (pass_changed _ _ c.args.first t c.loop-next.next c.loop-next.changed c.in_ok-switch.field-0
          c.live_at.result c.loop-next.live.items
          c.switch.new.numbers.items e c.loop-next.invariant c.loop-next-test.true refl c.if-edges-next.true
          (c.requires.edges.in_range c.loop-next.next (0, 0) c.loop-next-test.true) is c.in_ok-switch.ensures.switched
          c.in_ok-switch.ensures.changed w.if-branch.true)
      | else-branch w ↦ rw w.changed-is
          (pass_unchanged _ _ c.args.first t c.loop-next.next c.loop-next.changed c.in_ok-switch.field-0
          c.live_at.result c.loop-next.live.items
          c.switch.new.numbers.items e c.loop-next.invariant c.loop-next-test.true refl c.if-edges-next.true
          (c.requires.edges.in_range c.loop-next.next (0, 0) c.loop-next-test.true) is c.in_ok-switch.ensures.switched
          c.in_ok-switch.ensures.changed w.if-branch.false)
    ]

pub returns-else-edges-next : goal.returns-else-edges-next
returns-else-edges-next c = passed_all c.args.instance.now c.args.edges.now c.args.first
    (pair_at c.args.edges.now c.args.first).0 c.loop-next.next c.loop-next.changed c.loop-next.live.items
    (record {
      edges_of_it = c.requires.edges;
      passing = c.loop-next.invariant;
      in_edges = c.requires.in_edges;
      moment = refl;
      fresh = c.requires.fresh;
      ended = λ _. c.if-edges-next.false;
    })

pub returns-after-loop-next : goal.returns-after-loop-next
returns-after-loop-next c = passed_all c.args.instance.now c.args.edges.now c.args.first
    (pair_at c.args.edges.now c.args.first).0 c.loop-next.next c.loop-next.changed c.loop-next.live.items
    (record {
      edges_of_it = c.requires.edges;
      passing = c.loop-next.invariant;
      in_edges = c.requires.in_edges;
      moment = refl;
      fresh = c.requires.fresh;
      ended = λ lt. absurd (let k = c.loop-next-test.false in omega arith);
    })
