use Rattle.std.proofs.Common.{◌≡◌, ◌<◌, ◌-◌, ◌+◌, ◌∙◌, ℕ, List, [], length, slice_index_or, ap, sym, subst, arith}
use Rattle.std.proofs.lemmas.List.{get_or-map, length-map, map-set}
use Rattle.std.specs.Global.{Vec}
use Rattle.std.specs.List.{remove}
use Rattle.core_find.specs.Found.{rests_of}
use Rattle.core_find.proofs.LeftOut.{AreLeftOut, all_left_out, left_out_next}
use Rattle.core_find.proofs.rests.leave_out.Goals as goal

pub loop-n-preserved : goal.loop-n-preserved
loop-n-preserved c =
    let old = rests_of c.args.rests.now in
    let new = c.loop-n.rests in
    let n = c.loop-n.n in
    let place = c.args.place in
    let there : n < length old = rw (length-map c.args.rests.now (λ (v : Vec ℕ). v.items)) c.loop-n-test.true in
    let still : n < length new = (let k = c.loop-n.invariant.count in
    let m = length-map new (λ (v : Vec ℕ). v.items) in omega (arith, k, m, there)) in
    let item : (slice_index_or new n c.index-rests-n.result).items ≡ slice_index_or (rests_of new) n [] =
    sym (get_or-map (λ (v : Vec ℕ). v.items) new n c.index-rests-n.result [] still) in
    subst (λ (t : List (List ℕ)). AreLeftOut old t place (n + 1))
    (sym (map-set (λ (v : Vec ℕ). v.items) new n c.remove.new.self))
    (left_out_next old (rests_of new) c.remove.new.self.items place n there
    (c.remove.ensures.items ∙ ap (λ (xs : List ℕ). remove xs (place - 1)) item) c.loop-n.invariant)

pub returns : goal.returns
returns c =
    all_left_out (rests_of c.args.rests.now) (rests_of c.loop-n.rests) c.args.place c.loop-n.n
    (rw (length-map c.args.rests.now (λ (v : Vec ℕ). v.items)) c.loop-n-test.false) c.loop-n.invariant
