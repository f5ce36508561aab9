use Rattle.std.proofs.Common.{rules}
use Rattle.std.proofs.lemmas.List.Sorted.{answers_always}
use Rattle.dsa_terms.specs.Claims.{Entry}
use Rattle.canonical_order.proofs.Search.{searched}
use Rattle.canonical_order.proofs.claim.Claim.search.Goals as goal

pub returns-clause-found : goal.returns-clause-found
returns-clause-found c =
    let facts = c.binary_search_by_key.ensures in
    let by_key = facts.position (λ (e : Entry). e.0) (answers_always _ _ _ (λ f a r g called. search rules)) in
    rw (← c.self.view_is, ← c.deref.ensures.value) (searched _ c.args.b
    (rw c.deref.ensures.value c.self.invariant.rises) _ facts.bound by_key).0

pub returns-clause-absent : goal.returns-clause-absent
returns-clause-absent c =
    let facts = c.binary_search_by_key.ensures in
    let by_key = facts.position (λ (e : Entry). e.0) (answers_always _ _ _ (λ f a r g called. search rules)) in
    rw (← c.self.view_is, ← c.deref.ensures.value) (searched _ c.args.b
    (rw c.deref.ensures.value c.self.invariant.rises) _ facts.bound by_key).1
