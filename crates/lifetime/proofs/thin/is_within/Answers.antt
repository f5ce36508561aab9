use Rattle.std.proofs.Common.{◌≢◌, ℕ, ◌<◌, ◌≤◌, arith, refl}
use Rattle.lifetime.specs.Thin.{AreAmong}
use Rattle.lifetime.proofs.Among.{all_found, is_false, is_true, merged_same, merged_skip, not_among_fewer, not_found, whole_test}
use Rattle.lifetime.proofs.thin.is_within.Goals.{then-part-found-2, else-part-found-2}
use Rattle.lifetime.proofs.thin.is_within.Goals as goal

less : (m n : ℕ) → m ≤ n → m ≢ n → m < n
less m n h k = omega arith

above : (m n : ℕ) → n ≤ m → m ≢ n → n < m
above m n h k = omega arith

pub returns-then-part-whole : goal.returns-then-part-whole
returns-then-part-whole c = is_false (AreAmong c.args.part.now c.args.whole.now)
    (not_among_fewer _ _ c.requires.part c.requires.whole c.if-part-whole.true)

pub returns-then-found-part : goal.returns-then-found-part
returns-then-found-part c = is_true (AreAmong c.args.part.now c.args.whole.now)
    (all_found _ _ c.loop-b.found c.loop-b.b-index c.loop-b.invariant c.if-found-part.true)

pub returns-then-part-found : goal.returns-then-part-found
returns-then-part-found c = is_false (AreAmong c.args.part.now c.args.whole.now)
    (not_found _ _ c.loop-b.found c.loop-b.b-index _ _ c.requires.whole c.loop-b.invariant
    (let k = c.loop-b.invariant.within in let e = c.if-found-part.false in less _ _ k e) c.loop-b-test.true refl refl
    c.if-part-found.true)

pub loop-b-preserved : goal.loop-b-preserved
loop-b-preserved c =
    let lt = less _ _ c.loop-b.invariant.within c.if-found-part.false in
    elim c.if-part-found-2.branch [
      | then-part-found-2 w ↦ rw w.found-is
          (merged_same _ _ c.loop-b.found c.loop-b.b-index _ _ c.requires.part c.loop-b.invariant lt c.loop-b-test.true
          refl refl w.if-part-found-2.true)
      | else-part-found-2 w ↦ rw w.found-is
          (merged_skip _ _ c.loop-b.found c.loop-b.b-index _ _ c.requires.part c.loop-b.invariant lt c.loop-b-test.true
          refl refl (above _ _ c.if-part-found.false w.if-part-found-2.false))
    ]

pub returns : goal.returns
returns c = whole_test c.args.part.now c.args.whole.now c.loop-b.found c.loop-b.b-index c.loop-b.invariant
    c.loop-b-test.false
