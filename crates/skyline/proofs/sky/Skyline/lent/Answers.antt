use Rattle.std.proofs.Common.{ap, sym, subst}
use Rattle.dsa_terms.specs.Buffers.{Instance}
use Rattle.canonical_order.specs.Stands.{Stands}
use Rattle.skyline.specs.Skies.{Sky, last_claim}
use Rattle.skyline.proofs.Bounds.{stands_of_view}
use Rattle.skyline.proofs.sky.Skyline.lent.Goals as goal

pub returns-clause-stands : goal.returns-clause-stands
returns-clause-stands c =
    subst (λ (I : Instance). Stands I (last_claim c.args.self.now.claims))
    (sym (ap (λ (k : Sky). k.instance) c.self.view_is))
    (stands_of_view _ _ _ _ _ _ _ _ _ _ c.self.view_is c.self.invariant.sky)
