use Rattle.std.proofs.Common.{◌≡◌, ◌+◌, ◌*◌, ◌∙◌, ℕ, ap, arith}
use Rattle.make_instance.specs.Draws.{state_at}
use Rattle.make_instance.proofs.DrawLemmas.{AreStates, five_states, row_is}
use Rattle.make_instance.proofs.row.next_row.Goals as goal

states : (c : goal.After-gap_in) (seed i : ℕ) → c.args.draws.now.state ≡ state_at seed (5 * i)
    → AreStates seed i c.below-lower.new.self.state c.below-length.new.self.state c.below-size.new.self.state
    c.below-alignment.new.self.state c.below-flag.new.self.state
states c seed i e = five_states seed i c.args.draws.now.state _ _ _ _ _ e c.below-lower.ensures.state
    c.below-length.ensures.state c.below-size.ensures.state c.below-alignment.ensures.state c.below-flag.ensures.state

pub returns-clause-row : goal.returns-clause-row
returns-clause-row c = λ seed i e.
    rw c.gap_in.ensures (row_is seed c.args.count i _ _ _ _ _ _ _ _ _ _ (states c seed i e)
    c.below-lower.ensures.value c.below-length.ensures.value c.below-size.ensures.value
    c.below-alignment.ensures.value c.below-flag.ensures.value)

pub returns-clause-state : goal.returns-clause-state
returns-clause-state c = λ seed i e.
    (states c seed i e).fifth ∙ ap (state_at seed) (let z : 5 * i + 5 ≡ 5 * (i + 1) = omega arith in z)
