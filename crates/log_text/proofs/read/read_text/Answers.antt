use Rattle.std.proofs.Common.{List, ℕ, refl, subst}
use Rattle.log_text.specs.Rows.{IsGoodRead, IsStarted}
use Rattle.log_text.specs.declared.said.Said.{Said}
use Rattle.log_text.proofs.LogLemmas.{goes_past, none_yet, stops_there, up_to_more, whole_text}
use Rattle.log_text.proofs.read.read_text.Goals as goal

pub loop-cursor-init : goal.loop-cursor-init
loop-cursor-init c = none_yet _ _ _ _ _ _
    (subst (λ (x : List ℕ). IsStarted x c.in-Ok.sizes.version c.in-Ok.sizes.count c.in-Ok.sizes.capacity
    c.read_sizes.new.cursor) c.new-cursor.ensures c.in-Ok.ensures) c.new-lines.ensures.items

pub loop-cursor-preserved : goal.loop-cursor-preserved
loop-cursor-preserved c =
    up_to_more _ _ _ _ _ _ c.in-Line.line _ _ c.loop-cursor.invariant
    (subst (λ (r : Said). IsGoodRead c.in-Ok.sizes.version c.loop-cursor.lines.items c.loop-cursor.cursor r
    c.read_good_row.new.cursor) c.in-Line.is (rw (← c.as_slice.ensures.value) c.in_ok-line.ensures))
    c.in_ok-push-in-Line.ensures.items

pub returns-then-not-is_done : goal.returns-then-not-is_done
returns-then-not-is_done c = goes_past _ _ _ _ _ c.loop-cursor.cursor c.in-End.end c.read_good_row.new.cursor
    c.loop-cursor.invariant
    (subst (λ (r : Said). IsGoodRead c.in-Ok.sizes.version c.loop-cursor.lines.items c.loop-cursor.cursor r
    c.read_good_row.new.cursor) c.in-End.is (rw (← c.as_slice.ensures.value) c.in_ok-line.ensures))
    (λ e. let t = c.if-not-is_done.ensures.1 e in cc)

pub returns-in-End : goal.returns-in-End
returns-in-End c =
    rw c.from_vec.ensures.value
    (whole_text _ _ _ _ _ _ c.in-End.end _ c.loop-cursor.invariant
    (subst (λ (r : Said). IsGoodRead c.in-Ok.sizes.version c.loop-cursor.lines.items c.loop-cursor.cursor r
    c.read_good_row.new.cursor) c.in-End.is (rw (← c.as_slice.ensures.value) c.in_ok-line.ensures))
    (c.if-not-is_done.ensures.0 refl))

pub returns : goal.returns
returns c = stops_there _ _ _ _ _ _ c.loop-cursor.invariant (c.loop-cursor-test.ensures.0 refl)
