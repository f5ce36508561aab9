use Rattle.std.proofs.Common.{rules, ◌≡◌, ◌∙◌, ◌≤◌, ◌^◌, ℕ, inl, inr, ap, arith, max, nat_cmp}
use Rattle.std.specs.Ordering.{ord_max}
use Rattle.branching.proofs.Words.{Buffer, buffer, below_or_from}
use Rattle.branching.proofs.task.greatest_size.Goals as goal

greater : (a b : ℕ) → ord_max nat_cmp a b ≡ max a b
greater a b = search rules

pub loop-b-preserved : goal.loop-b-preserved
loop-b-preserved c =
    let I = c.args.instance.now in
    let b = c.loop-b.b in
    let k : c.buffer.result.now.size ≤ 2 ^ 40 = c.size.ensures.buffer.within_size in
    let v = c.size.ensures.value in
    let m : c.max-most.result ≡ max c.loop-b.most c.size.result = c.max-most.ensures ∙ greater _ _ in
    let q : c.size.result ≡ (buffer I b).size = v ∙ ap (λ (b : Buffer). b.size) c.buffer.ensures.value in
    let limit = c.loop-b.invariant.limit in
    record {
      value = λ d lt. elim (below_or_from d b) [
        | inl less ↦ (let n = c.loop-b.invariant.value d less in omega (arith, n, m))
        | inr from ↦ (let e : d ≡ b = omega (arith, lt, from) in
            let p : (buffer I d).size ≡ (buffer I b).size = ap (λ (b : ℕ). (buffer I b).size) e in
            omega (arith, p, q, m))
      ];
      limit = omega (arith, k, v, m, limit);
    }
