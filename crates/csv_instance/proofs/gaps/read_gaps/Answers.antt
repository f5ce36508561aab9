use Rattle.std.proofs.Common.{◌≡◌, ◌==◌, ℕ, List, [], arith, length, false, rules}
use Rattle.std.specs.Borrow.{Bor}
use Rattle.csv_instance.specs.Gaps.{gap_of, gaps_of}
use Rattle.csv_instance.proofs.GapLemmas.{gaps-end, gaps-left, gaps-more, gaps-none}
use Rattle.csv_instance.proofs.gaps.read_gaps.Goals as goal

pub loop-piece-init : goal.loop-piece-init
loop-piece-init c =
    let some : (length c.args.field.now == 0) ≡ false = search rules in (
      rw (c.new-gaps.ensures.items, c.deref-piece-items.ensures.value)
          (gaps-left (λ p. p.now) c.args.field.now c.in_ok-pieces.pieces.items some c.in_ok-pieces.ensures.pieces),
      search rules,
    )

pub loop-piece-preserved : goal.loop-piece-preserved
loop-piece-preserved c = (
  gaps-more (λ (p : Bor (List ℕ)). gap_of p.now) (gaps_of c.args.field.now) c.deref-piece-items.result.now
      c.loop-piece.piece-index (record { ref_ptr = (0, 0); now = [] }) c.loop-piece.gaps.items c.push.new.self.items
      c.in-Some.gap c.loop-piece-test.true c.in-Some.ensures c.in_ok-push.ensures.items c.loop-piece.invariant.0,
  omega (arith, c.in_ok-push.ensures.len, c.loop-piece.invariant.1),
)

pub returns-in_default-clause-gaps : goal.returns-in_default-clause-gaps
returns-in_default-clause-gaps c =
    gaps-none (λ (p : Bor (List ℕ)). gap_of p.now) (gaps_of c.args.field.now) c.deref-piece-items.result.now
    c.loop-piece.piece-index (record { ref_ptr = (0, 0); now = [] }) c.loop-piece.gaps.items c.loop-piece-test.true
    c.in_default.ensures c.loop-piece.invariant.0

pub returns-clause-gaps : goal.returns-clause-gaps
returns-clause-gaps c =
    gaps-end (λ (p : Bor (List ℕ)). gap_of p.now) (gaps_of c.args.field.now) c.deref-piece-items.result.now
    c.loop-piece.piece-index c.loop-piece.gaps.items c.loop-piece-test.false c.loop-piece.invariant.0
