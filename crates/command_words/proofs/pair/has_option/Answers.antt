use Rattle.std.proofs.Common.{◌≡◌, ◌∙◌, ◌-◌, ◌+◌, sym, arith, map, string_bytes, false}
use Rattle.std.specs.Str.{bytes_eq}
use Rattle.command_words.specs.Pairs.{Pair, pairs_of, pair_value}
use Rattle.command_words.proofs.PairLemmas.{any_is_later}
use Rattle.command_words.proofs.pair.has_option.Goals as goal

pub loop-preserved : goal.loop-preserved
loop-preserved c =
    let other : bytes_eq c.in-Some.pair.option.now c.args.option.now ≡ false = sym c.eq.ensures ∙ c.if-eq.false in
    c.loop.invariant
    ∙ any_is_later (λ (p : Pair). bytes_eq p.option c.args.option.now)
    (c.args.pairs - c.loop.counter) (c.args.pairs - (c.loop.counter + 1))
    (pairs_of (map string_bytes c.loop.rest.now)) (pairs_of (map string_bytes c.in-Some.after.now))
    (pair_value c.in-Some.pair) (omega (arith, c.loop-test.true)) c.in-Some.ensures.pairs other
