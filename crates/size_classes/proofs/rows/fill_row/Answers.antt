use Rattle.std.proofs.Common.{◌∙◌, ◌<◌, arith, length, refl}
use Rattle.size_classes.proofs.PlanLemmas.{class_members}
use Rattle.size_classes.proofs.RowLemmas.{as_many, class_in_range, read_is, row_end, row_fits, row_limit, set_done, set_more, set_none}
use Rattle.size_classes.proofs.rows.fill_row.Goals as goal

pub slots-requires : goal.slots-requires
slots-requires c = rw (c.deref.ensures.value, c.in_ok-members.ensures) (class_members _ _ c.requires.plain)

pub widest-width-requires : goal.widest-width-requires
widest-width-requires c = class_in_range _ _ _ (c.deref-2.ensures.value ∙ c.in_ok-members.ensures)

pub loop-m-init : goal.loop-m-init
loop-m-init c = set_none _ _ _ _ c.requires.below

pub overflow_add-offsets : goal.overflow_add-offsets
overflow_add-offsets c =
    let lt : c.loop-m.m < length c.in_ok-members.members.items = let n = c.in_ok-members.members.ok.0 in omega arith in
    let f = row_fits _ _ c.args.start c.widest-width.result c.index.result.now c.loop-m.m _ _ c.requires.sound
    c.requires.plain c.requires.few c.requires.limit c.requires.start c.in_ok-members.ensures
    (rw c.deref-2.ensures.value at c.widest-width.ensures) (rw c.deref.ensures.value at c.in_ok-slots.ensures.value) lt
    c.index.ensures in
    omega arith

pub overflow_mul-offsets : goal.overflow_mul-offsets
overflow_mul-offsets c =
    let lt : c.loop-m.m < length c.in_ok-members.members.items = let n = c.in_ok-members.members.ok.0 in omega arith in
    let f = row_fits _ _ c.args.start c.widest-width.result c.index.result.now c.loop-m.m _ _ c.requires.sound
    c.requires.plain c.requires.few c.requires.limit c.requires.start c.in_ok-members.ensures
    (rw c.deref-2.ensures.value at c.widest-width.ensures) (rw c.deref.ensures.value at c.in_ok-slots.ensures.value) lt
    c.index.ensures in
    omega arith

pub bounds-offsets-index : goal.bounds-offsets-index
bounds-offsets-index c =
    let lt : c.loop-m.m < length c.in_ok-members.members.items = let n = c.in_ok-members.members.ok.0 in omega arith in
    let b = class_in_range _ _ _ c.in_ok-members.ensures c.loop-m.m c.index-in-loop-m.result.now lt in
    let e = c.index-in-loop-m.ensures in
    let l = c.loop-m.invariant.below.count in omega arith

pub loop-m-preserved : goal.loop-m-preserved
loop-m-preserved c =
    let lt : c.loop-m.m < length c.in_ok-members.members.items = let n = c.in_ok-members.members.ok.0 in omega arith in
    let g = rw c.deref.ensures.value at c.in_ok-slots.ensures.value in
    set_more _ _ _ _ c.index.result.now _ c.loop-m.m _ _ _ _ _ c.requires.start c.in_ok-members.ensures
    (rw c.deref-2.ensures.value at c.widest-width.ensures) g lt (read_is _ _ _ lt c.index-in-loop-m.ensures)
    (read_is _ _ _ (as_many _ _ _ c.loop-m.m g lt) c.index.ensures) refl refl c.loop-m.invariant

pub returns-clause-end : goal.returns-clause-end
returns-clause-end c = row_end _ _ c.args.start c.widest-width.result c.slot_count.result _ _ c.requires.sound
    c.requires.plain c.requires.start c.in_ok-members.ensures (rw c.deref-2.ensures.value at c.widest-width.ensures)
    (rw c.deref.ensures.value at c.in_ok-slots.ensures.value) (rw c.deref-3.ensures.value at c.slot_count.ensures)

pub overflow_add-result : goal.overflow_add-result
overflow_add-result c =
    let e = row_end _ _ c.args.start c.widest-width.result c.slot_count.result _ _ c.requires.sound c.requires.plain
    c.requires.start c.in_ok-members.ensures (rw c.deref-2.ensures.value at c.widest-width.ensures)
    (rw c.deref.ensures.value at c.in_ok-slots.ensures.value) (rw c.deref-3.ensures.value at c.slot_count.ensures) in
    let l = row_limit _ c.args.class c.requires.few c.requires.limit in omega arith

pub overflow_mul-result : goal.overflow_mul-result
overflow_mul-result c =
    let e = row_end _ _ c.args.start c.widest-width.result c.slot_count.result _ _ c.requires.sound c.requires.plain
    c.requires.start c.in_ok-members.ensures (rw c.deref-2.ensures.value at c.widest-width.ensures)
    (rw c.deref.ensures.value at c.in_ok-slots.ensures.value) (rw c.deref-3.ensures.value at c.slot_count.ensures) in
    let l = row_limit _ c.args.class c.requires.few c.requires.limit in omega arith

pub returns-clause-set : goal.returns-clause-set
returns-clause-set c = set_done _ _ c.loop-m.m _ _ c.in_ok-members.ensures
    (let n = c.in_ok-members.members.ok.0 in omega arith) c.loop-m.invariant
