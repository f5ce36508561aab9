use Rattle.std.proofs.Common.{◌≤◌, ap, arith, count_by, length, subst}
use Rattle.dsa_model.specs.Limits.{file_limit}
use Rattle.trace_import.specs.Limits.{AreWithin}
use Rattle.trace_import.specs.Traces.{is_alloc}
use Rattle.trace_import.proofs.Accepted.{imported_count}
use Rattle.trace_import.proofs.Imported.{imported_traced}
use Rattle.trace_import.proofs.trace.Trace.kept.Goals as goal

pub returns-clause-within : goal.returns-clause-within
returns-clause-within c = subst AreWithin c.self.view_is c.self.invariant.within

pub returns-clause-few : goal.returns-clause-few
returns-clause-few c =
    let all = imported_count c.args.self.now in
    let count = ap (count_by is_alloc) c.self.view_is in
    let counted = c.self.invariant.counted in
    let few = c.self.invariant.few in
    omega (arith, all, count, counted, few)

pub returns-clause-short : goal.returns-clause-short
returns-clause-short c = subst (λ es. length es ≤ file_limit) c.self.view_is c.self.invariant.short

pub returns-clause-traced : goal.returns-clause-traced
returns-clause-traced c = imported_traced c.args.self.now
