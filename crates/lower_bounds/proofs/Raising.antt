-- Going over the sections with one modulus.
use Rattle.std.proofs.Common.{◌≡◌, ℕ, ◌+◌, ◌<◌, ◌≤◌, ◌⊎◌, inl, inr, List, slice_index_or, refl, sym, ap, subst, arith}
use Rattle.dsa_terms.specs.Bounds.{highest_at}
use Rattle.dsa_terms.specs.Buffers.{Instance, IsInstance}
use Rattle.dsa_terms.proofs.NumberTests.{below_or_last}
use Rattle.lifetime.specs.SectionList.{SectionList, count_of, start_of}
use Rattle.lower_bounds.specs.Best.{IsFirstToReach, IsLeastHeight, IsRaised, stack_at}
use Rattle.lower_bounds.specs.Stacks.{IsFalling}
use Rattle.lower_bounds.specs.Tallies.{AreTallies, no_tally}
use Rattle.lower_bounds.specs.declared.tallies.Tally.{Tally}
use Rattle.lower_bounds.specs.declared.value.Bound.{Bound}
use Rattle.lower_bounds.proofs.Whole.{tallest_height, tallest_is}

-- what the tally of a section says of what is stacked there
pub record IsRead (I : Instance) (S : SectionList) (G s : ℕ) (x : Tally) : Type 0 where
  pub value : x.value ≡ stack_at I S G s
  pub height : 1 ≤ x.value → IsLeastHeight I (start_of S s) G x.value x.height

pub is_read : (I : Instance) (S : SectionList) (G s : ℕ) (order : List ℕ) (tallies : List Tally) (x : Tally) →
    IsInstance I → IsFalling I order → AreTallies I S G order tallies → s < count_of S →
    x ≡ slice_index_or tallies s no_tally → IsRead I S G s x
is_read I S G s order tallies x instance falling h lt e =
    let t = (h.each s lt).tallest in
    let y : Tally = slice_index_or tallies s no_tally in
    subst (λ (x : Tally). IsRead I S G s x) (sym e) (record {
      value = tallest_is I S G order s instance falling (slice_index_or tallies s no_tally).value
          (slice_index_or tallies s no_tally).height t;
      height = tallest_height I S G order s instance falling (slice_index_or tallies s no_tally).value
          (slice_index_or tallies s no_tally).height t;
    })

pub raised_none : (I : Instance) (S : SectionList) (G : ℕ) (old : Bound) → IsRaised I S G 0 old old
raised_none I S G old = record { most = λ s lt. absurd (omega arith); found = inl refl }

-- none of the sections can come to more
pub raised_by_none : (I : Instance) (S : SectionList) (G n most : ℕ) (old : Bound) →
    ((t : ℕ) → highest_at I t G ≤ most) → most ≤ old.capacity → IsRaised I S G n old old
raised_by_none I S G n most old h le = record {
  most = λ s lt. let k = h (start_of S s) in omega arith;
  found = inl refl;
}

-- the next section is no higher
pub raised_same : (I : Instance) (S : SectionList) (G s : ℕ) (x : Tally) (old best : Bound) →
    IsRaised I S G s old best → IsRead I S G s x → x.value ≤ best.capacity → IsRaised I S G (s + 1) old best
raised_same I S G s x old best h x_read le = record {
  most = λ r lt. elim (below_or_last r s lt) [
    | inl q ↦ h.most r q
    | inr q ↦ (
        let k : stack_at I S G r ≡ stack_at I S G s = ap (stack_at I S G) q in
        let e = x_read.value in
        omega arith)
  ];
  found = elim h.found [
    | inl q ↦ inl q
    | inr q ↦ inr (
      q.0,
      q.1,
      record {
        place = q.2.place;
        in_range = (let k = q.2.in_range in omega arith);
        moment = q.2.moment;
        reached = q.2.reached;
        height = q.2.height;
        first = q.2.first;
      },
    )
  ];
}

-- the next section is higher
pub raised_more : (I : Instance) (S : SectionList) (G s moment : ℕ) (x : Tally) (old best : Bound) →
    IsRaised I S G s old best → IsRead I S G s x → best.capacity < x.value → moment ≡ start_of S s →
    IsRaised I S G (s + 1) old
    (record { capacity = x.value; moment = moment; modulus = G; height = x.height })
raised_more I S G s moment x old best h x_read lt m = record {
  most = λ r rn. elim (below_or_last r s rn) [
    | inl q ↦ (let k = h.most r q in omega arith)
    | inr q ↦ (
        let k : stack_at I S G r ≡ stack_at I S G s = ap (stack_at I S G) q in
        let e = x_read.value in
        omega arith)
  ];
  found = inr (
    above h.found,
    refl,
    record {
      place = s;
      in_range = omega arith;
      moment = sym m;
      reached = sym x_read.value;
      height = subst (λ (t : ℕ). IsLeastHeight I t G x.value x.height) (sym m) (x_read.height (omega arith));
      first = λ r rn. let k = h.most r rn in omega arith;
    },
  );
}
  where
    above : (best ≡ old) ⊎ ((old.capacity < best.capacity) × (best.modulus ≡ G) × IsFirstToReach I S G s best) →
        old.capacity < x.value
    above (inl q) = let k : best.capacity ≡ old.capacity = ap (λ (b : Bound). b.capacity) q in omega arith
    above (inr q) = let k = q.0 in omega arith
