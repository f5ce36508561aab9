use Rattle.std.proofs.Common.{slice_index_or, refl}
use Rattle.branching.proofs.Words.{in_at}
use Rattle.branching.specs.declared.notes.Refuted.{Refuted}
use Rattle.branching.proofs.cites.line_of.Goals as goal

pub returns-then-r-b : goal.returns-then-r-b
returns-then-r-b c = λ noted.
    let none : Refuted = record { buffer = 0; line = 0 } in (
      slice_index_or c.args.refuted.now c.loop-r.r-index none,
      in_at c.args.refuted.now c.loop-r.r-index none c.loop-r-test.true,
      c.if-r-b.true,
      refl,
    )
