use Rattle.std.proofs.Common.{◌==◌, ◌+◌, ◌∙◌, sym}
use Rattle.trace_import.proofs.Splits.{rest_whole, split_here, split_none, split_shorter}
use Rattle.trace_import.proofs.split.split_once.Goals as goal

pub returns-in_err-place-clause-none : goal.returns-in_err-place-clause-none
returns-in_err-place-clause-none c =
    rw c.from_residual.ensures
    (split_none (λ b. b == c.args.mark) c.args.bytes.now (sym c.place_of.ensures ∙ c.in_err-place.was))

pub returns-clause-some : goal.returns-clause-some
returns-clause-some c =
    rw (rest_whole (c.in_ok-place.place + 1) c.args.bytes.now)
    (split_here (λ b. b == c.args.mark) c.args.bytes.now c.in_ok-place.place
    (sym c.place_of.ensures ∙ c.in_ok-place.was))

pub returns-clause-shorter : goal.returns-clause-shorter
returns-clause-shorter c =
    rw (rest_whole (c.in_ok-place.place + 1) c.args.bytes.now)
    (split_shorter (λ b. b == c.args.mark) c.args.bytes.now c.in_ok-place.place
    (sym c.place_of.ensures ∙ c.in_ok-place.was))
