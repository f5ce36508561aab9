use Rattle.std.proofs.Common.{◌≡◌, ◌∙◌, arith}
use Rattle.prune_rules.specs.Twins.{are_alike}
use Rattle.prune_rules.proofs.Cites.{higher_is_no_twin, alike_is_twin}
use Rattle.branching.proofs.Words.{buffer, entry_of}
use Rattle.branching.proofs.choice.is_twin.Goals as goal

pub returns-then-low_of : goal.returns-then-low_of
returns-then-low_of c = λ l h.
    let I = c.args.instance.now in
    let v = c.low_of.ensures.value I l h in
    let w = c.low_of-2.ensures.value I l h in
    let t = c.if-low_of.true in
    higher_is_no_twin I (entry_of l c.args.c) (entry_of l c.args.b) (omega arith)

pub returns : goal.returns
returns c = λ l h.
    let I = c.args.instance.now in
    let v = c.low_of.ensures.value I l h in
    let w = c.low_of-2.ensures.value I l h in
    let t = c.if-low_of.false in
    let alike : c.are_alike.result ≡ are_alike (buffer I c.args.c) (buffer I c.args.b) = cc in
    alike ∙ alike_is_twin I (entry_of l c.args.c) (entry_of l c.args.b) c.requires.before (omega arith)
