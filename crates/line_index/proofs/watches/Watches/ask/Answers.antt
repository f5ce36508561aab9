use Rattle.std.proofs.Common.{◌-◌, inl, inr, arith, subst, sym}
use Rattle.dsa_terms.proofs.NumberTests.{same_or_not}
use Rattle.line_index.specs.Watching.{IsWatched}
use Rattle.line_index.proofs.WatchLemmas.{kept_above, own_trans, watched_from, watched_none, watched_still}
use Rattle.line_index.proofs.watches.Watches.ask.Goals as goal

pub returns-clause-none : goal.returns-clause-none
returns-clause-none c = λ w.
    let i = c.loop-k.invariant in
    let done = c.loop-k-test.false in
    watched_from _ _ _ _ _ i.moved (λ k from lt. i.watched k (omega arith) lt) w

pub returns-clause-uncovered : goal.returns-clause-uncovered
returns-clause-uncovered c = λ I l h w. watched_none I _ _ l _ h (returns-clause-none c w)

pub returns-then-covers-clause-kept : goal.returns-then-covers-clause-kept
returns-then-covers-clause-kept c = λ above n raised w.
    let i = c.loop-k.invariant in
    kept_above c.args.log.now.lines c.args.levels.now above _ _ n raised
    (own_trans _ _ _ _ _ i.moved c.in_ok-covers.ensures.moved) w

pub returns-clause-kept : goal.returns-clause-kept
returns-clause-kept c = λ above n raised w.
    let i = c.loop-k.invariant in
    kept_above c.args.log.now.lines c.args.levels.now above _ _ n raised i.moved w

pub loop-k-preserved : goal.loop-k-preserved
loop-k-preserved c =
    let lines = c.args.log.now.lines in
    let i = c.loop-k.invariant in
    let k = c.loop-k.k - 1 in
    let own = c.in_ok-covers.ensures.moved in
    let new = c.ask_line.new.table.watches in
    let here : IsWatched lines new c.args.levels.now k = c.in_ok-covers.ensures.watched c.if-covers.false in
    record {
      moved = own_trans _ _ _ _ _ i.moved own;
      count = (let n = i.count in let q = c.in_ok-covers.ensures.count in omega arith);
      watched = λ j from lt. elim (same_or_not j k) [
        | inl same ↦ subst (IsWatched lines new c.args.levels.now) (sym same) here
        | inr other ↦ watched_still _ _ _ _ j own (i.watched j (omega arith) lt)
      ];
      noted = λ h. c.in_ok-covers.ensures.noted (i.noted h);
    }
