use Rattle.std.proofs.Common.{rules, ap, sym, ◌∙◌}
use Rattle.dsa_terms.specs.Buffers.{Buffer}
use Rattle.lower_bounds.specs.Stacks.{counts, counts_at}
use Rattle.lower_bounds.proofs.Lines.{lifted_all, lifted_more, lifted_same}
use Rattle.lower_bounds.proofs.one_line.lifted.Goals.{then-counts+in_ok-push, else-counts}
use Rattle.lower_bounds.proofs.one_line.lifted.Goals as goal

pub loop-b-preserved : goal.loop-b-preserved
loop-b-preserved c =
    let a = c.args.bound in
    let test = c.counts.ensures ∙ ap (λ (x : Buffer). counts x a.moment a.height a.modulus) c.buffer.ensures.value in
    elim c.if-counts.branch [
      | then-counts+in_ok-push w ↦ lifted_more (counts_at c.args.instance.now a.moment a.height a.modulus)
          c.args.height c.loop-b.b _ _ c.loop-b.invariant (sym test ∙ w.if-counts.true)
          (ap (λ v. v.items) w.pairs-is ∙ w.in_ok-push.ensures.items)
      | else-counts w ↦ lifted_same (counts_at c.args.instance.now a.moment a.height a.modulus)
          c.args.height c.loop-b.b _ _ c.loop-b.invariant (sym test ∙ w.if-counts.false)
          (ap (λ v. v.items) w.pairs-is)
    ]

pub returns-clause-value : goal.returns-clause-value
returns-clause-value c = lifted_all c.args.instance.now c.args.bound.moment c.args.bound.height c.args.bound.modulus
    c.args.height c.loop-b.b _ c.loop-b.invariant (search rules)
