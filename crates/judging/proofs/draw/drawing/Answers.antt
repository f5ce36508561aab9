use Rattle.dsa_terms.specs.Buffers.{Instance}
use Rattle.judging.specs.Drawing.{drawing}
use Rattle.judging.proofs.Drawn.{drawn_file, each_told, its_outcome}
use Rattle.judging.proofs.draw.drawing.Goals as goal

pub returns : goal.returns
returns c =
    let output = c.args.output.now in
    let table = c.args.table.now in
    let offsets = c.args.offsets.now in
    let count = c.in_ok-drawn.drawn.rectangles in
    let bytes = c.in_ok-drawn.drawn.text.items in
    each_told table (drawn_file output count bytes) (λ (I : Instance). drawing output table I offsets)
    c.one_write.result c.one_write.ensures
    (λ I read. its_outcome output table I offsets count bytes (c.in_ok-drawn.ensures.count I read)
    (c.in_ok-drawn.ensures.text I read))
