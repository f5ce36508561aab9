-- The choices of a claim, and their tries, are all there are.
use Rattle.std.proofs.Common.{◌≡◌, ℕ, List, map, sym, ap, ◌∙◌}
use Rattle.std.specs.Global.{Vec}
use Rattle.branching.proofs.Words.{Instance, Claim, buffers_of, choices, not_excluded, entry_of}
use Rattle.branching.specs.declared.notes.Notes.{Notes}
use Rattle.branching.specs.Tries.{IsOrderOf, order_of, tried_by, tried_of}
use Rattle.branching.proofs.ChoiceEntries.{buffers_of_entries}

pub order_is : (I : Instance) (l : Claim) (order : List ℕ) → map (entry_of l) order ≡ choices I (not_excluded I) l →
    order ≡ order_of I l
order_is I l order q = sym (buffers_of_entries l order) ∙ ap buffers_of q

-- so choices of the claim, with notes, are the tries of the claim that are noted so
pub tries_are : (I : Instance) (l : Claim) (order : Vec ℕ) (n : Notes) → IsOrderOf I l order →
    tried_by order.items n ≡ tried_of I l n
tries_are I l order n q = ap (λ bs. tried_by bs n) (order_is I l order.items q)
