use Rattle.std.proofs.Common.{refl, sym}
use Rattle.dsa_model.proofs.LayoutFaults.{layout_exactly, overlap_is}
use Rattle.dsa_model.proofs.layout.judge.Goals as goal

pub returns-in-Some-clause-legal : goal.returns-in-Some-clause-legal
returns-in-Some-clause-legal c = (
  λ h. absurd cc,
  λ l. let e = (layout_exactly c.args.instance.now c.args.capacity c.args.offsets.now).1 l in absurd
      (cc (e, c.in-Some.ensures)),
)

pub returns-in-Some-clause-least : goal.returns-in-Some-clause-least
returns-in-Some-clause-least c =
    λ b d t h. overlap_is c.args.instance.now c.args.capacity c.args.offsets.now b d t (cc (h, c.in-Some.ensures))

pub returns-in-None-clause-legal : goal.returns-in-None-clause-legal
returns-in-None-clause-legal c =
    (λ h. (layout_exactly c.args.instance.now c.args.capacity c.args.offsets.now).0 (sym c.in-None.ensures), λ l. refl)
