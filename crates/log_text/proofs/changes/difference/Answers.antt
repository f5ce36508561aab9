use Rattle.std.proofs.Common.{◌∙◌, ap, map, refl, Vec, Global, arith}
use Rattle.log_text.specs.Edits.{change_value}
use Rattle.log_text.specs.declared.changes.Edit.{Edit}
use Rattle.log_text.proofs.Differing.{all_found, drop_found, no_pair_left, none_found, pair_found, rest_found, values_more, was_left, was_put}
use Rattle.log_text.proofs.changes.difference.Goals as goal
use Rattle.log_text.proofs.changes.difference.Goals.{then-does_change+in_ok-push-2, else-does_change}

pub loop-next-init : goal.loop-next-init
loop-next-init c = (omega arith, none_found _ _ _ (ap (map change_value) c.new-changes.ensures.items))

pub loop-next-preserved-then-stays : goal.loop-next-preserved-then-stays
loop-next-preserved-then-stays c = let s = c.stays.ensures.stays c.if-stays.true in (
  omega arith,
  drop_found c.args.base.now c.args.claim.now _ _ c.loop-next.place c.loop-next.next _ s.0 c.loop-next-test.true s.1
      refl
      c.loop-next.invariant.1 (values_more change_value _ _ _ c.in_ok-push.ensures.items),
)

pub loop-next-preserved : goal.loop-next-preserved
loop-next-preserved c = (
  c.past-place.ensures.within,
  pair_found c.args.base.now c.args.claim.now _ _ c.loop-next.place c.loop-next.next _ _ c.does_change.result
      c.loop-next-test.true refl (c.if-stays.ensures.reached refl) c.past-place.ensures.rest c.does_change.ensures
      (elim c.if-does_change.branch [
        | then-does_change+in_ok-push-2 w ↦ was_put change_value _ _ _ _ w.if-does_change.true
            (ap (λ (v : Vec Edit Global). v.items) w.changes-is ∙ w.in_ok-push-2.ensures.items)
        | else-does_change w ↦ was_left change_value _ _ _ _ w.if-does_change.false
            (ap (λ (v : Vec Edit Global). v.items) w.changes-is)
      ]) c.loop-next.invariant.1,
)

pub loop-k-init : goal.loop-k-init
loop-k-init c = no_pair_left _ _ _ _ c.loop-next.next c.loop-next-test.false c.loop-next.invariant.1

pub loop-k-preserved : goal.loop-k-preserved
loop-k-preserved c = rest_found c.args.base.now _ _ _ c.loop-k.k c.loop-k-test.true
    (values_more change_value _ _ _ c.in_ok-push-3.ensures.items) c.loop-k.invariant

pub returns : goal.returns
returns c = all_found c.args.base.now _ _ c.loop-k.k c.loop-k-test.false c.loop-k.invariant
