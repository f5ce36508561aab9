use Rattle.std.proofs.Common.{◌<◌, ◌≤◌, length, map, slice_index_or, sym, subst, ap, arith}
use Rattle.dsa_terms.specs.Claims.{Entry}
use Rattle.dsa_terms.specs.Lean.{CitesOwn}
use Rattle.dsa_terms.specs.Logs.{IsLegalCite}
use Rattle.canonical_order.proofs.Entries.{is_entry}
use Rattle.canonical_order.proofs.Places.{at_in, entry_at, has_at, at_place}
use Rattle.refute_log.specs.Lines.{cite_value}
use Rattle.refute_log.specs.declared.line.Cite.TheVariants.{Line}
use Rattle.conflicts.proofs.ListSteps.{grows_all, grows_next, zip_entry}
use Rattle.conflicts.proofs.cites.eased_cites.Goals as goal

pub eased_cite-requires-clause-b_in : goal.eased_cite-requires-clause-b_in
eased_cite-requires-clause-b_in c = has_at c.args.lows.now.claim.now _ _ c.pairs-pairs.ensures.value
    (let e = ap length c.pairs-pairs.ensures.value in let q = c.requires.each in omega arith)

pub loop-place-preserved : goal.loop-place-preserved
loop-place-preserved c =
    let I = c.args.lows.now.instance.now in
    let l = c.args.lows.now.claim.now in
    let n = c.loop-place.place in
    let v = c.pairs-pairs.ensures.value in
    let len = ap length v in
    let each = c.requires.each in
    let lt : n < length l = omega arith in
    let m : n < length c.pairs-pairs.result.now = omega arith in
    let r = c.pairs-pairs.ensures.kept.rises in
    let e = slice_index_or c.pairs-pairs.result.now n (0, 0) in
    let at = at_place l c.pairs-pairs.result.now n v m in
    let q = sym (is_entry l e r (at_in l c.pairs-pairs.result.now n v m)) in
    let p = entry_at l c.pairs-pairs.result.now n r v m in
    let y = cite_value c.eased_cite.result in
    record {
      own = grows_next (CitesOwn I l) cite_value l n e c.loop-place.eased.items _ _ at c.in_ok-push.ensures.items
          (subst (λ (e : Entry). CitesOwn I l e y) q c.eased_cite.ensures.own) c.loop-place.invariant.own;
      legal = λ earlier z.
          let given = cite_value (slice_index_or c.args.cites.now n (Line 0)) in
          let g = zip_entry (IsLegalCite I earlier l) cite_value l c.args.cites.now n (Line 0) lt
          c.loop-place-test.true z in
          let h = subst (λ (e : Entry). IsLegalCite I earlier l e given) (sym p) g in
          let k = c.eased_cite.ensures.legal earlier h in
          grows_next (IsLegalCite I earlier l) cite_value l n e c.loop-place.eased.items _ _ at
          c.in_ok-push.ensures.items (subst (λ (e : Entry). IsLegalCite I earlier l e y) q k)
          (c.loop-place.invariant.legal earlier z);
    }

pub returns-clause-own : goal.returns-clause-own
returns-clause-own c =
    let l = c.args.lows.now.claim.now in
    let q = c.requires.each in
    let le : length l ≤ c.loop-place.place = omega arith in
    rw c.from_vec.ensures
    (grows_all (CitesOwn c.args.lows.now.instance.now l) l c.loop-place.place
    (map cite_value c.loop-place.eased.items) le c.loop-place.invariant.own)

pub returns-clause-legal : goal.returns-clause-legal
returns-clause-legal c = λ earlier z.
    let l = c.args.lows.now.claim.now in
    let q = c.requires.each in
    let le : length l ≤ c.loop-place.place = omega arith in
    rw c.from_vec.ensures
    (grows_all (IsLegalCite c.args.lows.now.instance.now earlier l) l c.loop-place.place
    (map cite_value c.loop-place.eased.items) le (c.loop-place.invariant.legal earlier z))
