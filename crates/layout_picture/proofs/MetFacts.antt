-- Sides that meet, and lists of all pairs of buffers that touch.
use Rattle.std.proofs.Common.{◌≡◌, ◌<◌, inl, inr, [], ◌∷◌, refl, sym, ap, ap₂, subst, arith}
use Rattle.dsa_terms.specs.Buffers.{Instance, buffer, do_share, is_live, some_before}
use Rattle.dsa_terms.specs.Claims.{IsIn}
use Rattle.layout_picture.specs.Colours.{touch}
use Rattle.layout_picture.specs.Sides.{AreMet, AreTouching, IsMet, IsTouching, lower_side, pair_of, upper_side}
use Rattle.layout_picture.specs.declared.side.Side.{Side}
use Rattle.layout_picture.specs.declared.touching.Pair.{Pair}
use Rattle.layout_picture.proofs.ExampleFacts.{lasting}
use Rattle.layout_picture.proofs.SideFacts.{first, second, third}

-- ---- sides that meet: the first rectangle ends at the line at which the third begins, and the second begins lower
third_met : IsMet (upper_side first ∷ []) (lower_side second ∷ lower_side third ∷ []) (pair_of 2 0)
third_met = record {
  end = upper_side first;
  begin = lower_side third;
  is_end = inl refl;
  is_begin = inr (inl refl);
  meet = record { line = refl; begun = omega arith; not_ended = omega arith };
  is = refl;
}

second_not_met : (p : Pair) → IsMet (upper_side first ∷ []) (lower_side second ∷ []) p → ⊥
second_not_met p m = lines m.end m.begin m.is_end m.is_begin m.meet.line
  where
    lines : (s t : Side) → IsIn s (upper_side first ∷ []) → IsIn t (lower_side second ∷ []) → s.line ≡ t.line → ⊥
    lines s t (inl e) (inl f) q =
        let k : s.line ≡ 4 = ap (λ (s : Side). s.line) e in
        let j : t.line ≡ 0 = ap (λ (s : Side). s.line) f in
        omega arith
    lines s t (inr i) f q = i
    lines s t (inl e) (inr i) q = i

-- ---- the pair of the two that meet comes to one that was there before
abbrev its_pair : Pair
its_pair = pair_of 2 0

third_is_added : AreMet (upper_side first ∷ []) (lower_side third ∷ []) (pair_of 2 1 ∷ []) (its_pair ∷ pair_of 2 1 ∷ [])
third_is_added = record {
  kept = λ p i. inr i;
  all = λ p m. inl (all p m.end m.begin m.is_end m.is_begin m.is);
  each = λ p i. elim i [ inl e ↦ inr (subst (IsMet _ _) (sym e) met) | inr j ↦ inl j ];
}
  where
    met : IsMet (upper_side first ∷ []) (lower_side third ∷ []) its_pair
    met = record {
      end = upper_side first;
      begin = lower_side third;
      is_end = inl refl;
      is_begin = inl refl;
      meet = record { line = refl; begun = omega arith; not_ended = omega arith };
      is = refl;
    }

    all : (p : Pair) (s t : Side) → IsIn s (upper_side first ∷ []) → IsIn t (lower_side third ∷ []) →
        p ≡ pair_of s.buffer t.buffer → p ≡ its_pair
    all p s t (inl e) (inl f) q = rw (q, e, f) refl
    all p s t (inr i) f q = absurd i
    all p s t (inl e) (inr i) q = absurd i

-- it is not left out, and the one that was there is not lost
third_is_left_out : AreMet (upper_side first ∷ []) (lower_side second ∷ lower_side third ∷ []) [] [] → ⊥
third_is_left_out h = h.all its_pair third_met

one_is_lost : AreMet [] [] (its_pair ∷ []) [] → ⊥
one_is_lost h = h.kept its_pair (inl refl)

-- ---- two that follow each other: at 4 and at 0 some places are in both, at 6 and at 0 none is
abbrev two : Instance
two = lasting 0 3 4 ∷ lasting 3 9 6 ∷ []

they_touch : IsTouching two (4 ∷ 0 ∷ []) (pair_of 0 1)
unfolding touch buffer do_share some_before is_live
they_touch = record { order = omega arith; in_range = omega arith; touching = refl }

all_that_touch : AreTouching two (4 ∷ 0 ∷ []) (pair_of 0 1 ∷ [])
all_that_touch = record {
  each = λ p i. elim i [ inl e ↦ subst (IsTouching two (4 ∷ 0 ∷ [])) (sym e) they_touch | inr j ↦ absurd j ];
  all = λ p t. inl (only p t.order t.in_range);
}
  where
    only : (p : Pair) → p.earlier < p.later → p.later < 2 → p ≡ pair_of 0 1
    only p lt le =
        let l : p.later ≡ 1 = omega arith in
        let e : p.earlier ≡ 0 = omega arith in
        ap₂ (λ x y. (let q : Pair = record { later = x; earlier = y } in q)) l e

one_is_missing : AreTouching two (4 ∷ 0 ∷ []) [] → ⊥
one_is_missing h = h.all (pair_of 0 1) they_touch

not_where_they_are_apart : AreTouching two (6 ∷ 0 ∷ []) (pair_of 0 1 ∷ []) → ⊥
unfolding touch buffer do_share some_before is_live
not_where_they_are_apart h = let t = (h.each (pair_of 0 1) (inl refl)).touching in absurd cc
