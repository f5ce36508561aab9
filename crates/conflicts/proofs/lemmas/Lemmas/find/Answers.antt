use Rattle.std.proofs.Common.{◌≡◌, ◌≤◌, ◌∙◌, length, slice_get, sym, ap, arith}
use Rattle.refute_log.specs.Lines.{line_value}
use Rattle.refute_log.specs.Logs.{OpenLog}
use Rattle.conflicts.proofs.Looking.{none_below_next, none_at_all, first_is_least}
use Rattle.conflicts.proofs.lemmas.Lemmas.find.Goals as goal

pub returns-then-covers-clause-least : goal.returns-then-covers-clause-least
returns-then-covers-clause-least g c =
    first_is_least (g.L.Lows.subject c.args.lows.now) c.args.self.now.lines (g.L.Lows.claim c.args.lows.now) c.loop-k.k
    c.loop-k.invariant (
      line_value c.line.result.now,
      ap (λ (log : OpenLog). slice_get log.lines c.loop-k.k) (sym c.self.view_is) ∙ c.line.ensures.value,
      rw c.claim.ensures at (c.covers.ensures.0 c.if-covers.true),
    )

pub loop-k-preserved : goal.loop-k-preserved
loop-k-preserved g c =
    none_below_next (g.L.Lows.subject c.args.lows.now) c.args.self.now.lines (g.L.Lows.claim c.args.lows.now) c.loop-k.k
    (line_value c.line.result.now) c.loop-k.invariant
    (ap (λ (log : OpenLog). slice_get log.lines c.loop-k.k) (sym c.self.view_is) ∙ c.line.ensures.value)
    (λ h. let k = c.covers.ensures.1 (rw c.claim.ensures h) in absurd cc)

pub returns-clause-least : goal.returns-clause-least
returns-clause-least g c =
    let q : length c.self.inside.log.lines ≡ length c.args.self.now.lines =
    ap (λ (log : OpenLog). length log.lines) c.self.view_is in
    let le : length c.args.self.now.lines ≤ c.loop-k.k = omega (arith, c.len-k-end.ensures.value) in
    none_at_all (g.L.Lows.subject c.args.lows.now) c.args.self.now.lines (g.L.Lows.claim c.args.lows.now) c.loop-k.k
    le c.loop-k.invariant
