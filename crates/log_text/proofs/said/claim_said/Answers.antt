use Rattle.log_text.proofs.SaidLemmas.{base_rises}
use Rattle.log_text.proofs.said.claim_said.Goals as goal

pub carry_out-requires-clause-base : goal.carry_out-requires-clause-base
carry_out-requires-clause-base c = base_rises c.args.lines.now c.in-From.base _ c.if-base-lines.false c.requires.kept
    c.pairs_at-earlier.ensures
