use Rattle.std.proofs.Common.{arith}
use Rattle.std.proofs.lemmas.Result.{IfOk-weaker}
use Rattle.dsa_model.proofs.Instances.{sound_instance}
use Rattle.planner.proofs.Choosing.{enough_is_exact, laid_out_exactly, laid_out_fits, refuted_exactly, refuted_refutes, start_decides, start_is_high}
use Rattle.planner.proofs.planning.plan.Goals as goal

pub returns-in-Within : goal.returns-in-Within
returns-in-Within c =
    let I = c.args.instance.now in let C = c.args.capacity in let offsets = c.in-Within.offsets.items in
    let s = sound_instance I c.len-count.ensures.buffers in
    let h = start_decides I C offsets s (rw c.in-Within.is at c.in_ok-offsets.ensures) in
    record {
      value = h;
      fits = λ laid. (offsets, h.layout);
      refutes = λ refuted. absurd refuted;
      feasible = λ none. (λ laid. (offsets, h.layout), λ feasible. tt);
      infeasible = λ none. (λ refuted. absurd refuted, λ infeasible. infeasible offsets h.layout);
      enough = λ enough. (
        (λ laid. (offsets, h.layout), λ feasible. tt),
        (λ refuted. absurd refuted, λ infeasible. infeasible offsets h.layout),
      );
      bound = λ lt. let le = start_is_high I C offsets s h in absurd (omega arith);
      steps = λ none. absurd (let found = rw c.in-Within.is at c.in_ok-offsets.ensures in cc);
    }

pub returns-in-Past : goal.returns-in-Past
returns-in-Past c =
    let I = c.args.instance.now in let C = c.args.capacity in let steps = c.args.steps in
    let past = c.decide_past_starts in
    record {
      value = past.ensures.value;
      fits = IfOk-weaker past.result _ _ (λ d h. laid_out_fits I C steps d h) past.ensures.value;
      refutes = IfOk-weaker past.result _ _ (λ d h. refuted_refutes I C steps d h) past.ensures.value;
      feasible = λ none. IfOk-weaker past.result _ _ (λ d h. laid_out_exactly I C steps d none h) past.ensures.value;
      infeasible = λ none. IfOk-weaker past.result _ _ (λ d h. refuted_exactly I C steps d none h) past.ensures.value;
      enough = λ enough. IfOk-weaker past.result _ _ (λ d h. enough_is_exact I C steps d enough h) past.ensures.value;
      bound = past.ensures.bound;
      steps = λ _. past.ensures.steps;
    }
