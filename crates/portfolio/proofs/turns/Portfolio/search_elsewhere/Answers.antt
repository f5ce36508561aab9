use Rattle.std.proofs.Common.{◌≡◌, ℕ, ◌-◌, ◌/◌, length, refl, sym, ap, ◌∙◌, arith}
use Rattle.portfolio.proofs.Shares.{at_end, one_turn}
use Rattle.portfolio.proofs.turns.Portfolio.search_elsewhere.Goals as goal

pub loop-order-preserved-then-units-eq0 : goal.loop-order-preserved-then-units-eq0
loop-order-preserved-then-units-eq0 c =
    let n = c.loop-order.to_come in
    let left = c.loop-order.left in
    let none : left / n ≡ 0 = c.if-units-eq0.true in
    record {
      left = c.loop-order.invariant.left;
      to_come = (let e = c.loop-order.invariant.to_come in omega arith);
      shares = sym (one_turn n (n - 1) (n - 1 - 1) left left
          (let e = c.loop-order.invariant.to_come in omega arith) refl refl (omega (arith, none)))
          ∙ c.loop-order.invariant.shares;
    }

pub loop-order-preserved : goal.loop-order-preserved
loop-order-preserved c =
    let n = c.loop-order.to_come in
    let left = c.loop-order.left in
    let all : c.in_ok-found.found.used ≡ left / n = rw c.in-Spent.is at c.in_ok-found.ensures.exhausted in
    record {
      left = (let le = c.loop-order.invariant.left in omega (arith, le));
      to_come = (let e = c.loop-order.invariant.to_come in omega arith);
      shares = sym (one_turn n (n - 1) (n - 1 - 1) left (left - c.in_ok-found.found.used)
          (let e = c.loop-order.invariant.to_come in omega arith) refl refl (ap (λ (u : ℕ). left - u) all))
          ∙ c.loop-order.invariant.shares;
    }

pub returns-clause-exhausted : goal.returns-clause-exhausted
returns-clause-exhausted c =
    ap (λ (rest : ℕ). c.args.limit - rest)
    (at_end c.loop-order.to_come (c.loop-order.to_come - 1) (length c.deref-order-items.result.now)
    c.loop-order.left c.args.limit (let e = c.loop-order.invariant.to_come in omega arith) refl
    (let two = c.self.invariant in omega arith) c.loop-order.invariant.shares)
