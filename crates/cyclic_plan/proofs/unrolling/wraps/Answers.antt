use Rattle.std.proofs.Common.{◌≡◌, ◌<◌, ◌++◌, ◌∷◌, ◌∙◌, [], List, Some, ap, arith, append_assoc, drop, length, sym, ◌+◌, true, rules}
use Rattle.std.specs.Result.{is_ok}
use Rattle.csv_instance.specs.Changed.{Change}
use Rattle.csv_instance.specs.Rows.{values_of}
use Rattle.csv_instance.proofs.FailLemmas.{IfFault-map}
use Rattle.dsa_terms.specs.Buffers.{buffer}
use Rattle.cyclic_plan.specs.Unrolled.{cycle_row_fault, cycle_rows_fault, wraps_from}
use Rattle.cyclic_plan.specs.declared.fault.CycleFault.{CycleFault}
use Rattle.cyclic_plan.proofs.Wraps.{fault_here, no_fault_here, stays_here, values_count, wraps_here}
use Rattle.cyclic_plan.proofs.unrolling.wraps.Goals.{then-upper-lower+in_ok-push, else-upper-lower}
use Rattle.cyclic_plan.proofs.unrolling.wraps.Goals as goal

pub returns-in-Err : goal.returns-in-Err
returns-in-Err c =
    let bs = values_of c.args.rows.now in
    let count = values_count c.args.rows.now c.count-row-end.ensures.parsed in
    let all = c.count-row-end.ensures.value in
    let within : c.loop-row.row < length bs = (let lt = c.loop-row-test.true in omega arith) in
    IfFault-map (λ (f : CycleFault). cycle_row_fault c.args.period c.loop-row.row (buffer bs c.loop-row.row) ≡ Some f)
    (λ (f : CycleFault). cycle_rows_fault c.args.period 0 bs ≡ Some f) c.in-Err.failure
    (λ f bad. c.loop-row.invariant.0 ∙ fault_here c.args.period c.loop-row.row bs f within bad) c.in-Err.ensures

pub loop-row-preserved : goal.loop-row-preserved
loop-row-preserved c =
    let bs = values_of c.args.rows.now in
    let P = c.args.period in
    let r = c.loop-row.row in
    let count = values_count c.args.rows.now c.count-row-end.ensures.parsed in
    let all = c.count-row-end.ensures.value in
    let within : r < length bs = (let lt = c.loop-row-test.true in omega arith) in
    let faults = c.loop-row.invariant.0 ∙ no_fault_here P r bs within c.in-Ok.ensures in
    elim c.if-upper-lower.branch [
      | then-upper-lower+in_ok-push w ↦
          let pushed : is_ok w.push.result ≡ true = search rules in
          let items = rw pushed at w.push.ensures.items in
          let here = wraps_here P r c.lower-lower.result c.upper-upper.result bs within c.lower-lower.ensures.value
          c.upper-upper.ensures.value w.if-upper-lower.true in
          let change : Change = (r, 0, P, c.upper-upper.result, c.lower-lower.result) in (
            faults,
            rw (w.changes-is, items) (c.loop-row.invariant.1
                ∙ ap (λ (cs : List Change). c.loop-row.changes.items ++ cs) here
                ∙ sym (append_assoc c.loop-row.changes.items (change ∷ [])
                (wraps_from P (r + 1) (drop (r + 1) bs)))),
          )
      | else-upper-lower w ↦
          let here = stays_here P r c.lower-lower.result c.upper-upper.result bs within c.lower-lower.ensures.value
          c.upper-upper.ensures.value w.if-upper-lower.false in (
            faults,
            rw w.changes-is (c.loop-row.invariant.1
                ∙ ap (λ (cs : List Change). c.loop-row.changes.items ++ cs) here),
          )
    ]
