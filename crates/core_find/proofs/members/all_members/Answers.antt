use Rattle.std.proofs.Common.{◌∷◌, ◌++◌, ◌∙◌, ℕ, List, [], ap, sym}
use Rattle.core_find.proofs.Some.{numbers_next}
use Rattle.core_find.proofs.members.all_members.Goals as goal

pub loop-b-preserved : goal.loop-b-preserved
loop-b-preserved c =
    c.in_ok-push.ensures.items
    ∙ ap (λ (bs : List ℕ). bs ++ c.loop-b.b ∷ []) c.loop-b.invariant
    ∙ sym (numbers_next c.loop-b.b)
