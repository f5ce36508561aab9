use Rattle.std.proofs.Common.{◌<◌, ◌+◌, ◌^◌, ap, arith}
use Rattle.dsa_terms.specs.Claims.{child, up}
use Rattle.dsa_search_laws.proofs.Claims.{rises-child}
use Rattle.canonical_order.specs.Claims.{entry_of}
use Rattle.canonical_order.proofs.CoverLemmas.{covers_entry, covered_has, entry_of_child, from_child, from_covered, in_child_by}
use Rattle.canonical_order.proofs.Entries.{in_range, low_limit}
use Rattle.canonical_order.proofs.covering.covers_pair_in_child.Goals as goal
use Rattle.canonical_order.proofs.covering.covers_pair_in_child.Goals.{then-c-b-via-then-c-b, then-c-b-via-else-c-b+then-not-is_free}

pub returns-then-c-b : goal.returns-then-c-b
returns-then-c-b g c = (
  λ h. absurd cc,
  λ h. elim c.then-c-b.branch [
    | then-c-b-via-then-c-b w ↦ absurd ((from_child _ _ _ _ (covered_has _ _ _ h)).1 w.if-c-b.true)
    | then-c-b-via-else-c-b+then-not-is_free w ↦
        let k = w.is_free.ensures.value.1 (from_child _ _ _ _ (covered_has _ _ _ h)).0 in absurd cc
  ],
)

pub meets_in_child-requires : goal.meets_in_child-requires
meets_in_child-requires g c =
    let h = c.is_free.ensures.value.0 c.if-not-is_free.false in
    let i = in_range _ _ _ c.instance.ensures.stands c.requires.b_in in
    let j = in_range _ _ _ c.instance.ensures.stands h in
    let k : c.args.low_b < 2 ^ 60 + 2 ^ 32 =
    low_limit _ _ _ _ _ c.requires.low c.low.ensures.stands c.requires.bounds c.requires.b_in in
    let m : c.low.result < 2 ^ 60 + 2 ^ 32 =
    low_limit _ _ _ _ _ c.low.ensures.value c.low.ensures.stands c.requires.bounds h in
    record {
      b_in = i;
      c_in = j;
      limit_b = omega arith;
      end = rw c.instance.ensures.value c.requires.end;
      limit_c = omega arith;
    }

pub returns : goal.returns
unfolding up
returns g c =
    let I = g.L.Lows.subject c.args.lows.now in
    let l = g.L.Lows.claim c.args.lows.now in
    let h = c.is_free.ensures.value.0 c.if-not-is_free.false in
    let rises = (c.is_free.ensures.stands).claim.rises in
    let low = ap (up I) (entry_of_child I l c.args.b c.args.c rises h c.if-c-b.false) in
    let test =
    rw (c.instance.ensures.value, c.requires.low, c.low.ensures.value) at c.meets_in_child.ensures in (
      λ t. covers_entry I (child I l (entry_of l c.args.b)) _ (in_child_by _ _ _ _ h c.if-c-b.false)
          (rw low (test.0 t)),
      λ k. test.1 (rw low at ((from_covered _ _ _ (rises-child _ _ _ rises) k).1)),
    )
