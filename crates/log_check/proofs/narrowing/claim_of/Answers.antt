use Rattle.std.proofs.Common.{◌≡◌, ◌^◌, ◌∙◌, sym, subst, arith}
use Rattle.dsa_terms.specs.Claims.{Rises, buffers_of}
use Rattle.canonical_order.specs.Claims.{IsBoundedBy}
use Rattle.log_check.proofs.Narrowed.{not_narrowed, is_few}
use Rattle.log_check.proofs.narrowing.claim_of.Goals as goal

pub from_vec-requires-clause-rises : goal.from_vec-requires-clause-rises
from_vec-requires-clause-rises c =
    let e : c.in_ok-narrowed.narrowed.items ≡ c.args.pairs.now = c.in_ok-narrowed.ensures
    ∙ not_narrowed c.args.count c.args.pairs.now (omega arith) c.requires.in_range in
    subst (λ l. Rises (buffers_of l)) (sym e) c.requires.rises

pub from_vec-requires-clause-count : goal.from_vec-requires-clause-count
from_vec-requires-clause-count c =
    let e : c.in_ok-narrowed.narrowed.items ≡ c.args.pairs.now = c.in_ok-narrowed.ensures
    ∙ not_narrowed c.args.count c.args.pairs.now (omega arith) c.requires.in_range in
    rw e (is_few c.args.count c.args.pairs.now (omega arith) c.requires.rises c.requires.in_range)

pub from_vec-requires-clause-bounds : goal.from_vec-requires-clause-bounds
from_vec-requires-clause-bounds c =
    let e : c.in_ok-narrowed.narrowed.items ≡ c.args.pairs.now = c.in_ok-narrowed.ensures
    ∙ not_narrowed c.args.count c.args.pairs.now (omega arith) c.requires.in_range in
    subst (IsBoundedBy (2 ^ 60)) (sym e) c.requires.bounds

pub returns : goal.returns
returns c = c.from_vec.ensures ∙ (c.in_ok-narrowed.ensures
    ∙ not_narrowed c.args.count c.args.pairs.now (omega arith) c.requires.in_range)
