use Rattle.std.proofs.Common.{◌+◌, arith, drop, inl, length, slice_index_or, subst, sym, drop_of_length-le}
use Rattle.line_index.specs.Watches.{AreNoted, LineWatches}
use Rattle.line_index.specs.Watching.{AreMoved}
use Rattle.line_index.proofs.Finding.{fail_at_all, fail_next, next_of}
use Rattle.line_index.proofs.Looking.{from_none}
use Rattle.line_index.proofs.WatchLemmas.{all_watched, kept_above, moved_refl, moved_trans, own_of_moved, watched_none}
use Rattle.line_index.proofs.watches.Watches.find.Goals as goal

pub loop-pair-init : goal.loop-pair-init
loop-pair-init c =
    let lines = c.args.log.now.lines in
    let new = c.self.inside.table.watches in
    record {
      moved = subst (λ (w : LineWatches). AreMoved lines c.args.now.now w.entries new) c.self.view_is
          (moved_refl lines c.args.now.now new);
      noted = λ h. subst (λ (w : LineWatches). AreNoted c.args.log.now.lines w.rows) (sym c.self.view_is) h;
      fail = λ known b i. inl i;
    }

pub loop-pair-preserved : goal.loop-pair-preserved
loop-pair-preserved c =
    let lines = c.args.log.now.lines in
    let now = c.args.now.now in
    let items = c.args.raised.now in
    let i = c.loop-pair.pair-index in
    let x = slice_index_or items i (0, 0) in
    let new = c.find_in.new.table.watches in
    let found = c.in_ok-found.ensures in
    record {
      moved = moved_trans _ _ _ _ _ c.loop-pair.invariant.moved found.moved;
      noted = λ h. found.noted (c.loop-pair.invariant.noted h);
      fail = λ known. fail_next _ _ _ _ _ x _ (drop (i + 1) items) (next_of items i (0, 0) c.loop-pair-test.true)
          found.moved (from_none _ (sym c.if-is_some.ensures) (found.none (c.loop-pair.invariant.noted known)))
          (c.loop-pair.invariant.fail known);
    }

pub returns-clause-none : goal.returns-clause-none
returns-clause-none c = λ before noted above all w.
    let lines = c.args.log.now.lines in
    let now = c.args.now.now in
    let items = c.args.raised.now in
    let inside = c.loop-pair.self-inside in
    let watches : LineWatches = record { entries = inside.table.watches; rows = inside.table.rows } in
    all_watched lines now before c.args.self.now watches (length now) (omega arith) c.loop-pair.invariant.moved
    (λ b lt. fail_at_all _ _ _ before _ _
    (drop_of_length-le items c.loop-pair-test.false) all (c.loop-pair.invariant.fail noted) b) above w

pub returns-clause-uncovered : goal.returns-clause-uncovered
returns-clause-uncovered c = λ I l h before noted above all w.
    watched_none I _ _ l _ h (returns-clause-none c before noted above all w)

pub returns-then-is_some-clause-kept : goal.returns-then-is_some-clause-kept
returns-then-is_some-clause-kept c = λ above n raised w.
    let i = c.loop-pair.invariant in
    let found = c.in_ok-found.ensures in
    kept_above c.args.log.now.lines c.args.now.now above _ _ n raised
    (own_of_moved _ _ _ _ (moved_trans _ _ _ _ _ i.moved found.moved)) w

pub returns-clause-kept : goal.returns-clause-kept
returns-clause-kept c = λ above n raised w.
    let i = c.loop-pair.invariant in
    kept_above c.args.log.now.lines c.args.now.now above _ _ n raised (own_of_moved _ _ _ _ i.moved) w
