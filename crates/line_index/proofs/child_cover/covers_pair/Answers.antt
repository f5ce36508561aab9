use Rattle.std.proofs.Common.{◌≡◌, ◌<◌, ◌+◌, ◌-◌, max, slice_index, refl, arith}
use Rattle.dsa_terms.specs.Claims.{step, up}
use Rattle.canonical_order.specs.Claims.{entry_of}
use Rattle.canonical_order.proofs.LevelLemmas.{has_level, level_inside}
use Rattle.line_index.proofs.Rising.{low_of_child, meets_child}
use Rattle.line_index.proofs.child_cover.covers_pair.Goals as goal

pub returns : goal.returns
returns c = λ l h t.
    let I = c.args.instance.now in
    let b = c.args.b in
    let x = c.args.c in
    let r : c.args.low_b + 1 ≡ slice_index c.args.levels.now b = c.requires.b_in in
    let more : 0 < slice_index c.args.levels.now x =
    let q = c.level_at-level.ensures.value in let n = c.if-level-eq0.false in omega arith in
    let low_x = c.level_at-level.result - 1 in
    let raised : max low_x (c.args.low_b + step I b x) ≡ max (up I (entry_of l x)) (up I (entry_of l b) + step I b x) =
    let p = level_inside I l _ h b (has_level I l _ h b (omega arith)) in
    let q = level_inside I l _ h x (has_level I l _ h x more) in
    let f = c.level_at-level.ensures.value in omega arith in
    meets_child I l _ b x c.args.bound _ h more c.if-c-b.false
    (low_of_child I l _ b x _ _ h more c.if-c-b.false raised refl) (c.meets_in_child.ensures.0 t)
