use Rattle.std.proofs.Common.{◌<◌, ◌≤◌, ◌∙◌, length, map, slice_index_or, ap, sym, subst, arith}
use Rattle.dsa_terms.specs.Claims.{Entry}
use Rattle.dsa_terms.specs.Logs.{IsLegalCite}
use Rattle.std.proofs.lemmas.List.{length-map}
use Rattle.refute_log.specs.Lines.{cite_value}
use Rattle.refute_log.specs.declared.line.Cite.TheVariants.{Line}
use Rattle.conflicts.proofs.ListSteps.{mapped_place, zip_done, zip_left}
use Rattle.canonical_order.proofs.Places.{entry_at, has_at, at_place}
use Rattle.conflicts.proofs.needs.are_legal.Goals as goal

pub is_legal-requires-clause-b_in : goal.is_legal-requires-clause-b_in
is_legal-requires-clause-b_in c = has_at c.args.lows.now.claim.now _ _ c.pairs-pairs.ensures.value
    (let e = ap length c.pairs-pairs.ensures.value in omega arith)

pub loop-place-preserved : goal.loop-place-preserved
loop-place-preserved c =
    let I = c.args.lows.now.instance.now in
    let l = c.args.lows.now.claim.now in
    let n = c.loop-place.place in
    let R = IsLegalCite I c.args.log.now.lines l in
    let cite = cite_value (slice_index_or c.args.cites.now n (Line 0)) in
    let q = ap length c.pairs-pairs.ensures.value in
    let lt : n < length l = omega arith in
    let m : n < length c.pairs-pairs.result.now = omega arith in
    let e = entry_at l c.pairs-pairs.result.now n c.pairs-pairs.ensures.kept.rises c.pairs-pairs.ensures.value m in
    let i = at_place l c.pairs-pairs.result.now n c.pairs-pairs.ensures.value m in
    let j = ap (λ (items : _). slice_index_or items n (0, 0)) c.pairs-pairs.ensures.value in
    zip_left R l (map cite_value c.args.cites.now) n (slice_index_or c.pairs-pairs.result.now n (0, 0)) cite i
    (mapped_place cite_value c.args.cites.now n (Line 0) c.loop-place-test.true)
    (subst (λ (e : Entry). R e cite) (e ∙ sym j) (c.is_legal.ensures c.if-not-is_legal.false)) c.loop-place.invariant

pub returns : goal.returns
returns c t =
    let l = c.args.lows.now.claim.now in
    let q = c.requires.each in
    let p : length l ≤ c.loop-place.place = omega arith in
    let r = length-map c.args.cites.now cite_value in
    let s : length (map cite_value c.args.cites.now) ≤ c.loop-place.place = omega arith in
    zip_done (IsLegalCite c.args.lows.now.instance.now c.args.log.now.lines l) l (map cite_value c.args.cites.now)
    c.loop-place.place p s c.loop-place.invariant
