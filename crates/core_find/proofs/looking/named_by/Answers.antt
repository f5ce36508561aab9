use Rattle.std.proofs.Common.{◌≡◌, ◌∙◌, Some, slice_get, subst}
use Rattle.refute_log.specs.Lines.{line_value}
use Rattle.core_find.specs.Carried.{IsEnd}
use Rattle.core_find.proofs.Named.{pair_in_range}
use Rattle.core_find.proofs.looking.named_by.Goals as goal

pub bounds-members-pair : goal.bounds-members-pair
bounds-members-pair c =
    let line = line_value c.line.result.now in
    let end : IsEnd c.args.log.now line =
    subst (λ k. slice_get c.args.log.now.lines k ≡ Some line) c.end.ensures.value c.line.ensures.value in
    pair_in_range _ _ _ _ (c.pairs-pairs.ensures.value ∙ c.claim.ensures) c.loop-pair-test.true (c.requires line end)
