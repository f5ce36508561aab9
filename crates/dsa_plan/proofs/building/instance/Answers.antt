use Rattle.std.proofs.Common.{◌≡◌, ℕ, None, Some, sym, subst, ◌∙◌}
use Rattle.dsa_plan.specs.Arrays.{arrays_of, buffer_at}
use Rattle.dsa_plan.specs.Faults.{arrays_fault}
use Rattle.dsa_plan.proofs.Growing.{built_length}
use Rattle.dsa_plan.proofs.Failing.{unless_no_memory}
use Rattle.dsa_plan.proofs.Faulty.{have_lengths, have_own_length}
use Rattle.dsa_plan.proofs.building.instance.Goals as goal

pub few_buffers-requires : goal.few_buffers-requires
few_buffers-requires c = have_own_length (arrays_of c.args.arrays.now) c.args.n
    (sym c.have_one_length.ensures ∙ c.if-have_one_length.true)

pub returns-then-have_one_length : goal.returns-then-have_one_length
returns-then-have_one_length c =
    let a = arrays_of c.args.arrays.now in
    let n = (have_lengths a c.args.n (sym c.have_one_length.ensures ∙ c.if-have_one_length.true)).lower in
    record {
      value = unless_no_memory _ _ _ _ c.few_buffers.result
          (λ made h. (
            h.0,
            built_length (buffer_at a) _ made h.0 ∙ n,
            subst (λ (k : ℕ). arrays_fault a k ≡ None) n h.1,
          ))
          (λ f h. subst (λ (k : ℕ). arrays_fault a k ≡ Some f) n h)
          c.few_buffers.ensures;
    }
