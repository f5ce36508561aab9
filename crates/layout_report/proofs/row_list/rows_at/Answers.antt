use Rattle.std.proofs.Common.{ℕ, List}
use Rattle.std.specs.declared.vec.Vec.{Vec}
use Rattle.std.specs.declared.alloc.Global.{Global}
use Rattle.std.proofs.lemmas.Result.{IfOk-weaker}
use Rattle.dsa_terms.specs.Buffers.{Instance}
use Rattle.dsa_terms.specs.Plans.{layout_height}
use Rattle.layout_report.specs.Rows.{AreLiveRows, AreRowsAt}
use Rattle.layout_report.specs.declared.row.Row.{Row}
use Rattle.layout_report.proofs.row_list.rows_at.Goals as goal

pub returns : goal.returns
returns c = IfOk-weaker c.with_free.result
    (λ (rows : Vec Row Global). (I : Instance) (offsets : List ℕ) (t : ℕ) →
    AreLiveRows I offsets t c.deref.result.now → AreRowsAt I offsets t c.args.height rows.items)
    (λ (rows : Vec Row Global). AreRowsAt c.args.instance.now c.args.offsets.now c.args.moment
    (layout_height c.args.instance.now c.args.offsets.now) rows.items)
    (λ rows h. rw (← c.requires.height)
    (h c.args.instance.now c.args.offsets.now c.args.moment (rw c.deref.ensures.value c.in_ok-live.ensures.live)))
    c.with_free.ensures
