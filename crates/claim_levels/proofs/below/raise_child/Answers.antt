use Rattle.std.proofs.Common.{◌≡◌, rules, ◌∙◌, ap, arith, refl}
use Rattle.claim_levels.proofs.Grounding.{some_within}
use Rattle.dsa_terms.proofs.Places.{handed}
use Rattle.claim_levels.specs.Trails.{undone}
use Rattle.claim_levels.proofs.Undoing.{undone_is}
use Rattle.claim_levels.proofs.Words.{Buffer}
use Rattle.claim_levels.proofs.PlacedLevels.{has_placed, in_instance, placed_is, read_level, read_some}
use Rattle.claim_levels.proofs.RaisingSteps.{raising_first, under_each}
use Rattle.std.specs.Vec.{with_items}
use Rattle.claim_levels.proofs.Looking.{if_found, on_fault}
use Rattle.claim_levels.proofs.below.raise_child.Goals.{After-put_back}
use Rattle.claim_levels.proofs.below.raise_child.Goals as goal

pub index-requires : goal.index-requires
index-requires c =
    let lt = some_within _ c.args.b (has_placed _ _ _ c.requires.low) in
    let n = c.args.raising.now.numbers.ok.0 in
    omega (arith, lt, n)

pub overflow_sub-offset : goal.overflow_sub-offset
overflow_sub-offset c = read_some _ _ _ _ c.requires.low c.index.ensures

pub buffer-requires : goal.buffer-requires
buffer-requires c = in_instance _ _ _ c.args.b c.requires.low (has_placed _ _ _ c.requires.low)

pub overflow_add-placed : goal.overflow_add-placed
overflow_add-placed c =
    let e = read_level _ _ _ _ c.requires.low c.index.ensures in
    let k = under_each _ _ c.requires.under c.args.b in
    let m = c.requires.limit in
    let n = c.size.ensures.buffer.within_size in
    let v = c.size.ensures.value in
    omega (arith, e, k, m, n, v)

pub look_below-requires : goal.look_below-requires
look_below-requires c =
    let p = placed_is _ _ c.args.b _ c.requires.low c.index.ensures _ _ (c.size.ensures.value
    ∙ ap (λ (b : Buffer). b.size) c.buffer.ensures.value) c.requires.under c.requires.limit in
    let r = raising_first _ _ _ _ refl c.clear.ensures.items c.requires.under c.requires.limit in
    (p, (c.requires.low, (c.requires.few, (r, (c.requires.sections, (c.requires.left, c.requires.first))))))

-- the levels of the claim are put back
back : (c : After-put_back) →
    (with_items c.look_below.new.raising.numbers c.put_back.new.levels).items ≡ c.args.raising.now.numbers.items
back c =
    let r = c.look_below.ensures.raising in
    let numbers = c.look_below.new.raising.numbers.items in
    handed c.put_back.new.levels _ _ (search rules)
    ∙ c.put_back.ensures
    ∙ ap (undone c.deref.result.now) c.deref_mut.ensures.value
    ∙ ap (λ cs. undone cs numbers) c.deref.ensures.value
    ∙ undone_is c.args.raising.now.numbers.items c.look_below.new.raising.changes.items numbers r.count r.noted r.were

pub put_back-requires : goal.put_back-requires
put_back-requires c = λ e i.
    let r = c.look_below.ensures.raising in
    let lt = some_within c.args.raising.now.numbers.items e.0 (r.some e (rw c.deref.ensures.value at i)) in
    let n = r.count in
    let m = c.deref_mut.ensures.len in
    omega (arith, lt, n, m)

pub returns-in_default-clause-stays : goal.returns-in_default-clause-stays
returns-in_default-clause-stays c =
    if_found _ (back (goal.at.returns-in_default-clause-stays c).After-put_back) refl

pub returns-in_default-clause-unchanged : goal.returns-in_default-clause-unchanged
returns-in_default-clause-unchanged c =
    on_fault _ (back (goal.at.returns-in_default-clause-unchanged c).After-put_back) refl
