use Rattle.std.proofs.Common.{◌≡◌, ◌∙◌, ◌∷◌, sym, arith, map, string_bytes, drop, take, None}
use Rattle.command_words.specs.Pairs.{pairs_of, pair_value, pair_fault}
use Rattle.command_words.proofs.PairLemmas.{fault_is_later, drop_more}
use Rattle.command_words.proofs.judge.pairs_fault.Goals as goal

pub loop-pair-preserved : goal.loop-pair-preserved
loop-pair-preserved c =
    let pairs = pairs_of (map string_bytes c.args.words.now) in
    let rest = pairs_of (map string_bytes c.in-Some.after.now) in
    let pair = pair_value c.in-Some.pair in
    let left : drop c.loop-pair.earlier pairs ≡ pair ∷ rest =
    sym c.loop-pair.invariant.0 ∙ c.in-Some.ensures.pairs in
    let none : None ≡ pair_fault c.args.verb (take c.loop-pair.earlier pairs) pair =
    c.in_default-pair_fault.ensures in (
      sym (drop_more pairs rest c.loop-pair.earlier pair left),
      c.loop-pair.invariant.1 ∙ fault_is_later c.args.verb pairs rest c.loop-pair.earlier pair left none,
      omega (arith, c.in-Some.ensures.shorter),
    )
