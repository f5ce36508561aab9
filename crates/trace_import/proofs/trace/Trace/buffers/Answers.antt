use Rattle.std.proofs.Common.{◌∙◌, ap, count_by, sym}
use Rattle.trace_import.specs.Traces.{is_alloc}
use Rattle.trace_import.proofs.Accepted.{imported_count}
use Rattle.trace_import.proofs.trace.Trace.buffers.Goals as goal

pub returns-clause-value : goal.returns-clause-value
returns-clause-value c = c.self.invariant.counted ∙ ap (count_by is_alloc) c.self.view_is
    ∙ sym (imported_count c.args.self.now)
