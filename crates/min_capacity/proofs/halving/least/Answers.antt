use Rattle.std.proofs.Common.{◌≤◌, ◌^◌, ◌∙◌, refl, sym, subst, arith}
use Rattle.std.specs.List.{All}
use Rattle.dsa_model.proofs.Instances.{sound_instance}
use Rattle.min_capacity.proofs.Counting.{after_layout, after_log, call_short, call_within}
use Rattle.min_capacity.proofs.Narrowing.{layout_lower, met_is_least, offsets_limited}
use Rattle.min_capacity.proofs.halving.least.Goals as goal
use Rattle.min_capacity.proofs.Halvings.{middle}

-- ---- the units of a call that ends the halving
pub returns-in_err-layout-clause-used : goal.returns-in_err-layout-clause-used
returns-in_err-layout-clause-used g c =
    let i = c.loop-bracket.invariant in
    let within = call_within i.halves c.loop-bracket-test.true refl in
    let used = rw i.subject at c.decide.ensures.used in
    omega arith

pub returns-in-Spent-clause-used : goal.returns-in-Spent-clause-used
returns-in-Spent-clause-used g c =
    let i = c.loop-bracket.invariant in
    let within = call_within i.halves c.loop-bracket-test.true refl in
    let used = rw i.subject at c.decide.ensures.used in
    omega arith

pub returns-in-Spent-clause-fewer : goal.returns-in-Spent-clause-fewer
returns-in-Spent-clause-fewer g c =
    let i = c.loop-bracket.invariant in
    let within = call_within i.halves c.loop-bracket-test.true refl in
    let fewer = rw (c.in-Spent.is, i.subject) at c.in_ok-layout.ensures.fewer in
    omega arith

pub returns-in-Spent-clause-left : goal.returns-in-Spent-clause-left
returns-in-Spent-clause-left g c =
    let i = c.loop-bracket.invariant in
    call_short i.halves c.loop-bracket-test.true refl
    (rw (c.in-Spent.is, i.subject) at c.in_ok-layout.ensures.fewer)

-- ---- the height of a layout at the middle
pub height-requires-clause-count : goal.height-requires-clause-count
height-requires-clause-count g c =
    let i = c.loop-bracket.invariant in
    let laid = rw (c.in-Layout.is, i.subject) at c.in_ok-layout.ensures.right in
    rw c.deref.ensures.value laid.count

pub height-requires-clause-limit : goal.height-requires-clause-limit
height-requires-clause-limit g c =
    let i = c.loop-bracket.invariant in
    let laid = rw (c.in-Layout.is, i.subject) at c.in_ok-layout.ensures.right in
    let limit = i.halves.narrowed.bracket.limit in
    let m = (middle c.loop-bracket.bracket.low c.loop-bracket.bracket.high c.loop-bracket-test.true).1 in
    subst (All (λ x. x ≤ 2 ^ 60)) (sym c.deref.ensures.value)
    (offsets_limited c.args.instance.now _ (2 ^ 60) c.in-Layout.layout.items laid (omega arith))

pub loop-bracket-smaller-in-Layout : goal.loop-bracket-smaller-in-Layout
loop-bracket-smaller-in-Layout g c =
    let i = c.loop-bracket.invariant in
    let laid = rw (c.in-Layout.is, i.subject) at c.in_ok-layout.ensures.right in
    let lower = layout_lower i.halves.narrowed c.loop-bracket-test.true refl c.in-Layout.layout.items laid in
    let height = rw c.deref.ensures.value at c.height.ensures in
    omega arith

-- ---- the bracket after a call
pub loop-bracket-preserved-in-Layout : goal.loop-bracket-preserved-in-Layout
loop-bracket-preserved-in-Layout g c =
    let i = c.loop-bracket.invariant in
    let d = c.decide.ensures in
    let r = c.in_ok-layout.ensures in
    record {
      subject = d.subject ∙ i.subject;
      allowance = d.allowance ∙ i.allowance;
      halves = after_layout i.halves c.loop-bracket-test.true refl d.spends d.units (rw i.subject at d.used) _
          (sound_instance c.args.instance.now c.len-count.ensures.buffers)
          (rw (c.in-Layout.is, i.subject) at r.right) (rw (c.in-Layout.is, i.subject) at r.given)
          (rw (c.in-Layout.is, i.subject) at r.turned)
          (rw (c.in-Layout.is, i.subject, i.allowance) at r.charged) refl refl
          (rw c.deref.ensures.value at c.height.ensures);
    }

pub loop-bracket-preserved-in-Refuted : goal.loop-bracket-preserved-in-Refuted
loop-bracket-preserved-in-Refuted g c =
    let i = c.loop-bracket.invariant in
    let d = c.decide.ensures in
    let r = c.in_ok-layout.ensures in
    let right = rw (c.in-Refuted.is, i.subject) at r.right in
    record {
      subject = d.subject ∙ i.subject;
      allowance = d.allowance ∙ i.allowance;
      halves = after_log i.halves c.loop-bracket-test.true refl d.spends d.units (rw i.subject at d.used) _
          c.in-Refuted.log right.0 right.1 (rw (c.in-Refuted.is, i.subject) at r.given)
          (rw (c.in-Refuted.is, i.subject) at r.turned)
          (rw (c.in-Refuted.is, i.subject, i.allowance) at r.charged) refl refl refl refl;
    }

pub loop-bracket-preserved : goal.loop-bracket-preserved
loop-bracket-preserved g c =
    let i = c.loop-bracket.invariant in
    let d = c.decide.ensures in
    let r = c.in_ok-layout.ensures in
    let right = rw (c.in-Refuted.is, i.subject) at r.right in
    record {
      subject = d.subject ∙ i.subject;
      allowance = d.allowance ∙ i.allowance;
      halves = after_log i.halves c.loop-bracket-test.true refl d.spends d.units (rw i.subject at d.used) _
          c.in-Refuted.log right.0 right.1 (rw (c.in-Refuted.is, i.subject) at r.given)
          (rw (c.in-Refuted.is, i.subject) at r.turned)
          (rw (c.in-Refuted.is, i.subject, i.allowance) at r.charged) refl refl refl refl;
    }

-- ---- the ends have met
pub returns-clause-least : goal.returns-clause-least
returns-clause-least g c =
    met_is_least c.args.instance.now c.loop-bracket.bracket
    (sound_instance c.args.instance.now c.len-count.ensures.buffers) c.loop-bracket.invariant.halves.narrowed.bracket
    c.loop-bracket-test.false
