-- What is kept for two buffers that follow each other, and lists that are too short or have a number too large.
use Rattle.std.proofs.Common.{◌≡◌, ℕ, zero, suc, ◌+◌, ◌<◌, ◌≤◌, ◌^◌, inl, inr, [], ◌∷◌, length, replicate, refl, ap, subst, arith}
use Rattle.std.specs.List.{All}
use Rattle.std.proofs.lemmas.List.Elements.{All-cons, All-nil}
use Rattle.dsa_terms.specs.Claims.{IsIn}
use Rattle.dsa_terms.proofs.Examples.{one_by_one}
use Rattle.first_fit.specs.Rules.{IsOrderOf}
use Rattle.placing_search.specs.Meetings.{AreMeetingsOf}
use Rattle.placing_search.specs.Rankings.{IsRankingOf}
use Rattle.placing_search.specs.Sides.{AreSidesOf}
use Rattle.placing_search.specs.Stacks.{IsStackOf}
use Rattle.placing_search.specs.declared.meetings.Meetings.{Meetings}
use Rattle.placing_search.specs.declared.rankings.Ranking.{Ranking}
use Rattle.placing_search.specs.declared.sides.Sides.{Sides}
use Rattle.placing_search.specs.declared.stacking.Stack.{Stack}

-- two numbers with a fact, as a list
both : (P : ℕ → Type 0) (x y : ℕ) → P x → P y → All P (x ∷ y ∷ [])
both P x y p q = All-cons P x (y ∷ []) p (All-cons P y [] q (All-nil P))

-- ---- orders of the two, with the place of each
second_first : IsOrderOf one_by_one (1 ∷ 0 ∷ [])
second_first = record { count = refl; in_range = both (λ b. b < 2) 1 0 (omega arith) (omega arith); each = each }
  where
    each : (b : ℕ) → b < 2 → IsIn b (1 ∷ 0 ∷ [])
    each zero lt = inr (inl refl)
    each (suc zero) lt = inl refl
    each (suc (suc b)) lt = absurd (omega arith)

module _ (r : Ranking) where
  a_ranking : r.order.items ≡ 1 ∷ 0 ∷ [] → r.places.items ≡ 1 ∷ 0 ∷ [] → IsRankingOf one_by_one r
  a_ranking order places = record {
    each_once = rw order second_first;
    count = ap length places;
    in_range = rw places (both (λ place. place < 2) 1 0 (omega arith) (omega arith));
  }

  -- the places are 0 and 1
  past_the_last_place : r.places.items ≡ 1 ∷ 2 ∷ [] → IsRankingOf one_by_one r → ⊥
  past_the_last_place places h =
      let all : All (λ place. place < 2) (1 ∷ 2 ∷ []) = subst (All (λ place. place < 2)) places h.in_range in
      let lt = all 1 0 (omega arith) in
      omega arith

  one_place_alone : r.places.items ≡ 1 ∷ [] → IsRankingOf one_by_one r → ⊥
  one_place_alone places h = let e = ap length places in let k = h.count in omega arith

  -- buffer 1 is left out
  one_twice : r.order.items ≡ 0 ∷ 0 ∷ [] → IsRankingOf one_by_one r → ⊥
  one_twice order h = elim (subst (IsIn {X = ℕ} 1) order (h.each_once.each 1 (omega arith))) [
    | inl e ↦ cc
    | inr i ↦ elim i [ inl e ↦ cc | inr n ↦ n ]
  ]

-- ---- what stands beside the two, which are live from 0 to 1 and from 1 to 2: columns 1 and 2 with one on either side,
-- and two more, since there may be two ends for each buffer; where no buffer has to stand, there is a wall
abbrev wall : ℕ
wall = 2 ^ 62

module _ (s : Sides) where
  their_sides : s.left.items ≡ 0 ∷ 1 ∷ [] → s.right.items ≡ 2 ∷ 3 ∷ [] →
      s.bare.items ≡ wall ∷ 0 ∷ 0 ∷ wall ∷ wall ∷ wall ∷ [] → s.loads.items ≡ 0 ∷ 3 ∷ 5 ∷ 0 ∷ 0 ∷ 0 ∷ [] →
      AreSidesOf one_by_one s
  their_sides left right bare loads = record {
    left_count = ap length left;
    right_count = ap length right;
    left = rw left (both (λ column. column < 6) 0 1 (omega arith) (omega arith));
    right = rw right (both (λ column. column < 6) 2 3 (omega arith) (omega arith));
    columns = ap length bare;
    load_count = ap length loads;
  }

  past_all_columns : s.right.items ≡ 2 ∷ 6 ∷ [] → AreSidesOf one_by_one s → ⊥
  past_all_columns right h =
      let all : All (λ column. column < 6) (2 ∷ 6 ∷ []) = subst (All (λ column. column < 6)) right h.right in
      let lt = all 1 0 (omega arith) in
      omega arith

  a_column_for_each_end_alone : s.bare.items ≡ replicate 4 0 → AreSidesOf one_by_one s → ⊥
  a_column_for_each_end_alone bare h = let e = ap length bare in let k = h.columns in omega arith

-- ---- a row of one word for each of the two
module _ (m : Meetings) where
  their_meetings : AreSidesOf one_by_one m.sides → m.width ≡ 1 → m.words.items ≡ 0 ∷ 0 ∷ [] → AreMeetingsOf one_by_one m
  their_meetings sides width words = record {
    width = width;
    count = rw (width, words) refl;
    sides = sides;
  }

  two_words_a_row : m.width ≡ 2 → AreMeetingsOf one_by_one m → ⊥
  two_words_a_row width h = let k = h.width in omega arith

  one_row_alone : m.words.items ≡ 0 ∷ [] → AreMeetingsOf one_by_one m → ⊥
  one_row_alone words h = let k = h.width in let e = ap length words in let j = h.count in omega arith

-- ---- stacks of the two: the first is still to be stacked, and so has a bit, and the second is stacked
module _ (s : Stack) where
  second_stacked : s.order.items ≡ 1 ∷ 0 ∷ [] → s.ends.items ≡ 5 ∷ 0 ∷ [] → s.lows.items ≡ 0 ∷ 2 ^ 61 ∷ [] →
      s.unstacked.items ≡ 1 ∷ [] → s.tops.items ≡ wall ∷ 0 ∷ 5 ∷ wall ∷ wall ∷ wall ∷ [] →
      s.loads.items ≡ 0 ∷ 3 ∷ 0 ∷ 0 ∷ 0 ∷ 0 ∷ [] → IsStackOf one_by_one s
  second_stacked order ends lows unstacked tops loads = record {
    each_once = rw order second_first;
    end_count = ap length ends;
    count = ap length lows;
    bits = ap length unstacked;
    columns = ap length tops;
    load_count = ap length loads;
    limit = rw lows (both (λ low. low ≤ 2 ^ 61) 0 (2 ^ 61) (omega arith) (omega arith));
  }

  one_too_high : s.lows.items ≡ 0 ∷ (2 ^ 61 + 1) ∷ [] → IsStackOf one_by_one s → ⊥
  one_too_high lows h =
      let all : All (λ low. low ≤ 2 ^ 61) (0 ∷ (2 ^ 61 + 1) ∷ []) = subst (All (λ low. low ≤ 2 ^ 61)) lows h.limit in
      let le = all 1 0 (omega arith) in
      omega arith

  no_bits : s.unstacked.items ≡ [] → IsStackOf one_by_one s → ⊥
  no_bits unstacked h = let e = ap length unstacked in let k = h.bits in omega arith
