use Rattle.std.proofs.Common.{refl, map, ◌≡◌}
use Rattle.dsa_terms.specs.Starts.{starts}
use Rattle.first_fit.specs.Starts.{offsets_in}
use Rattle.first_fit.specs.declared.fits.Fit.TheVariants.{First}
use Rattle.first_fit.specs.declared.orders.Order.TheVariants.{SizeFalling}
use Rattle.first_fit.proofs.Starting.{made_each, made_heights, made_more, made_none, made_value, ways}
use Rattle.first_fit.proofs.start_list.starts.Goals as goal

pub loop-rule-init : goal.loop-rule-init
loop-rule-init c = rw c.new-made.ensures.items (made_none _ ways)

pub loop-rule-preserved : goal.loop-rule-preserved
loop-rule-preserved c = made_more _ ways c.loop-rule.rule-index (First, SizeFalling) _ _ _ c.loop-rule-test.true
    c.in_ok-make_start.ensures.value c.in_ok-make_start.ensures.start c.in_ok-push.ensures.items c.loop-rule.invariant

pub returns : goal.returns
returns c =
    let e : map offsets_in c.loop-rule.made.items ≡ starts c.args.instance.now =
    made_value _ ways c.loop-rule.rule-index _ refl c.loop-rule-test.false c.loop-rule.invariant in record {
      value = e;
      sound = made_each _ _ _ c.loop-rule.invariant;
      heights = made_heights _ _ _ c.loop-rule.invariant e;
    }
