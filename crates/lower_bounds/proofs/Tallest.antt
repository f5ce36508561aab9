-- One more buffer, whose floor is below none so far: from there on all are stacked, and from above it as before.
use Rattle.std.proofs.Common.{◌≡◌, ℕ, ◌+◌, ◌-◌, ◌<◌, ◌≤◌, inl, inr, Bool, true, false, cond, ◌&&◌, max, nat_le, nat_lt, List, [], ◌∷◌, ◌++◌, filter, sym, refl, ap, ◌∙◌, arith}
use Rattle.dsa_start_laws.specs.Piles.{rounded_size}
use Rattle.dsa_terms.specs.Buffers.{Instance, buffer, floor}
use Rattle.dsa_terms.specs.Claims.{IsIn}
use Rattle.dsa_terms.proofs.Lists.{left_append, right_append}
use Rattle.dsa_terms.proofs.NumberTests.{below_or_from, is_at_most, is_below, not_at_most, not_below}
use Rattle.lifetime.proofs.Lists.{filter_same}
use Rattle.lower_bounds.specs.Stacks.{counted_in, is_counted, piled_on, rounding_of, spare_of, stack_in, total_of}
use Rattle.lower_bounds.specs.Tallies.{IsTallest}
use Rattle.lower_bounds.proofs.Piles.{last_in, last_out, piled_on_some, piled_on_under, spare_more, total_more}

pub tallest_none : (I : Instance) (G : ℕ) → IsTallest I G [] 0 0
unfolding counted_in piled_on
tallest_none I G = record {
  most = λ H. omega arith;
  reached = refl;
  lowest = λ H pos e. omega arith;
  from = inl refl;
}

and_false : (a b : Bool) → b ≡ false → (a && b) ≡ false
and_false true b e = e
and_false false b e = refl

-- ---- one that is not counted
pub tallest_same : (I : Instance) (G : ℕ) (members : List ℕ) (b value height : ℕ) → is_counted I G b ≡ false →
    IsTallest I G members value height → IsTallest I G (members ++ b ∷ []) value height
unfolding counted_in
tallest_same I G members b value height n h = record {
  most = λ H. let k = h.most H in let e = same H in omega arith;
  reached = same height ∙ h.reached;
  lowest = λ H pos e. h.lowest H pos (sym (same H) ∙ e);
  from = elim h.from [
    | inl z ↦ inl z
    | inr r ↦ inr (r.0, left_append members (b ∷ []) r.0 r.1, r.2, r.3)
  ];
}
  where
    same : (H : ℕ) → stack_in I H G (members ++ b ∷ []) ≡ stack_in I H G members
    same H = ap (piled_on I H G) (last_out (λ c. nat_le H (floor (buffer I c)) && is_counted I G c) members b
        (and_false (nat_le H (floor (buffer I b))) (is_counted I G b) n))

-- ---- one that is counted
module _ (I : Instance) (G : ℕ) (members : List ℕ) (b : ℕ) (here : is_counted I G b ≡ true)
    (falls : (c : ℕ) → IsIn c members → floor (buffer I b) ≤ floor (buffer I c)) where
  -- the sum and the greatest rounding so far, and what b comes to on top of all
  abbrev total : ℕ
  total = total_of I G (filter (is_counted I G) members)

  abbrev spare : ℕ
  spare = spare_of I G (filter (is_counted I G) members)

  abbrev pile : ℕ
  pile = (total + rounded_size I G b) - max spare (rounding_of I G b)

  test : ℕ → ℕ → Bool
  test H c = nat_le H (floor (buffer I c)) && is_counted I G c

  all_of_them : (H : ℕ) → H ≤ floor (buffer I b) → counted_in I H G members ≡ filter (is_counted I G) members
  unfolding counted_in
  all_of_them H le = filter_same (λ c. nat_le H (floor (buffer I c)) && is_counted I G c) (is_counted I G) members
      (λ c i. ap (λ t. t && is_counted I G c) (is_at_most H (floor (buffer I c)) (let k = falls c i in omega arith)))

  from_below : (H : ℕ) → H ≤ floor (buffer I b) → stack_in I H G (members ++ b ∷ []) ≡ H + pile
  unfolding counted_in
  from_below H le =
      let e : counted_in I H G (members ++ b ∷ []) ≡ filter (is_counted I G) members ++ b ∷ [] =
      last_in (λ c. nat_le H (floor (buffer I c)) && is_counted I G c) members b
      (ap (λ t. t && is_counted I G b) (is_at_most H (floor (buffer I b)) le) ∙ here)
      ∙ ap (λ cs. cs ++ b ∷ []) (all_of_them H le) in
      ap (piled_on I H G) e
      ∙ (piled_on_some I H G b (filter (is_counted I G) members ++ b ∷ [])
      (right_append (filter (is_counted I G) members) (b ∷ []) b (inl refl))
      ∙ rw (total_more I G (filter (is_counted I G) members) b, spare_more I G (filter (is_counted I G) members) b)
      refl)

  from_above : (H : ℕ) → floor (buffer I b) < H → stack_in I H G (members ++ b ∷ []) ≡ stack_in I H G members
  unfolding counted_in
  from_above H lt = ap (piled_on I H G) (last_out (λ c. nat_le H (floor (buffer I c)) && is_counted I G c) members b
      (ap (λ t. t && is_counted I G b) (not_at_most H (floor (buffer I b)) lt)))

  before : (H : ℕ) → H ≤ floor (buffer I b) → stack_in I H G members ≤ H + (total - spare)
  before H le = rw (all_of_them H le) (piled_on_under I H G (filter (is_counted I G) members))

  little : rounding_of I G b ≤ rounded_size I G b
  little = omega arith

  -- it is as high as the greatest so far, or higher
  rises : (value height : ℕ) → value ≤ floor (buffer I b) + pile → IsTallest I G members value height →
      IsTallest I G (members ++ b ∷ []) (floor (buffer I b) + pile) (floor (buffer I b))
  rises value height le h = record {
    most = λ H. elim (below_or_from (floor (buffer I b)) H) [
      | inl lt ↦ (let e = from_above H lt in let k = h.most H in omega arith)
      | inr ge ↦ (let e = from_below H ge in omega arith)
    ];
    reached = from_below (floor (buffer I b)) (omega arith);
    lowest = λ H pos q. elim (below_or_from (floor (buffer I b)) H) [
      | inl lt ↦ omega arith
      | inr ge ↦ (let e = from_below H ge in omega arith)
    ];
    from = inr (b, right_append members (b ∷ []) b (inl refl), here, refl);
  }

  -- it is lower
  stays : (value height : ℕ) → floor (buffer I b) + pile < value → IsTallest I G members value height →
      IsTallest I G (members ++ b ∷ []) value height
  stays value height lt h = record {
    most = λ H. elim (below_or_from (floor (buffer I b)) H) [
      | inl l ↦ (let e = from_above H l in let k = h.most H in omega arith)
      | inr ge ↦ (let e = from_below H ge in omega arith)
    ];
    reached = elim (below_or_from (floor (buffer I b)) height) [
      | inl l ↦ from_above height l ∙ h.reached
      | inr ge ↦ absurd (let k = before height ge in let e = h.reached in let s = little in omega arith)
    ];
    lowest = λ H pos q. elim (below_or_from (floor (buffer I b)) H) [
      | inl l ↦ h.lowest H pos (sym (from_above H l) ∙ q)
      | inr ge ↦ absurd (let e = from_below H ge in omega arith)
    ];
    from = elim h.from [
      | inl z ↦ inl z
      | inr r ↦ inr (r.0, left_append members (b ∷ []) r.0 r.1, r.2, r.3)
    ];
  }

  pub tallest_more : (value height : ℕ) → IsTallest I G members value height →
      IsTallest I G (members ++ b ∷ []) (max value (floor (buffer I b) + pile))
      (cond (nat_lt (floor (buffer I b) + pile) value) height (floor (buffer I b)))
  tallest_more value height h = elim (below_or_from (floor (buffer I b) + pile) value) [
    | inl lt ↦ (
        let e : max value (floor (buffer I b) + pile) ≡ value = omega arith in
        rw (e, is_below (floor (buffer I b) + pile) value lt) (stays value height lt h))
    | inr ge ↦ (
        let e : max value (floor (buffer I b) + pile) ≡ floor (buffer I b) + pile = omega arith in
        rw (e, not_below (floor (buffer I b) + pile) value ge) (rises value height ge h))
  ]
