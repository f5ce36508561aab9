-- Worked facts: a buffer of size 3 beside one of size 1 that stands at multiples of 4 alone. The way down from the
-- claim of both by the first buffer, which stands at 0, and back up.
use Rattle.std.proofs.Common.{◌≡◌, ◌+◌, ℕ, zero, suc, ◌<◌, ◌≤◌, ◌^◌, List, [], ◌∷◌, length, slice_index, slice_index_or, inl, inr, refl, sym, ap, subst, arith}
use Rattle.claim_levels.proofs.Words.{buffer, small_below, Entry, IsIn}
use Rattle.claim_levels.specs.declared.placed.Placed.{Placed}
use Rattle.claim_levels.specs.declared.trail.Step.{Step}
use Rattle.claim_levels.specs.Children.{AreOfChild}
use Rattle.claim_levels.specs.Levels.{AreLed}
use Rattle.claim_levels.specs.Placings.{IsPlaced}
use Rattle.claim_levels.specs.Trails.{AreSteps, IsStep, IsTrail, Tracks, all_before, before, tracks_by, undone}
use Rattle.claim_levels.proofs.FirstFacts.{second_alone}
use Rattle.claim_levels.proofs.LevelFacts.{second_left}

abbrev pub both : List ℕ
both = 1 ∷ 1 ∷ []

abbrev pub rest : List ℕ
rest = 0 ∷ 5 ∷ []

-- what the first buffer leaves, and what rises, each with its level in the claim of both
abbrev pub changes : List Entry
changes = (0, 1) ∷ (1, 1) ∷ []

-- ---- a buffer that is placed
first_at_0 : IsPlaced small_below both (record { buffer = 0; offset = 0; end = 3 })
unfolding buffer
first_at_0 = record { offset = refl; end = refl; limit = omega arith }

not_at_1 : IsPlaced small_below both (record { buffer = 0; offset = 1; end = 4 }) → ⊥
not_at_1 h = let k = h.offset in omega (arith, k)

not_longer : IsPlaced small_below both (record { buffer = 0; offset = 0; end = 4 }) → ⊥
unfolding buffer
not_longer h = let k = h.end in omega (arith, k)

not_so_high : (p : Placed) → p.offset ≡ 2 ^ 55 + 1 → IsPlaced small_below both p → ⊥
not_so_high p q h = let k = h.limit in omega (arith, k, q)

-- ---- levels that are put back
both_back : undone changes rest ≡ both
both_back = refl

-- of two changes of a buffer the later one counts
later_counts : undone ((0, 2) ∷ (0, 1) ∷ []) rest ≡ 1 ∷ 5 ∷ []
later_counts = refl

none_of_no_buffer : undone ((2, 7) ∷ []) rest ≡ rest
none_of_no_buffer = refl

not_the_second : undone ((0, 1) ∷ []) rest ≡ both → ⊥
not_the_second h = let k = ap (λ (xs : List ℕ). slice_index xs 1) h in omega (arith, k)

-- ---- a step
module _ (s : Step) (b : s.buffer ≡ 0) (t : s.top ≡ 1) (q : s.changes.items ≡ changes) where
  pub left_both : before rest s ≡ both
  left_both = ap (λ (cs : List Entry). undone cs rest) q

  not_the_rest : before rest s ≡ rest → ⊥
  not_the_rest h =
      let k = ap (λ (xs : List ℕ). slice_index xs 1) left_both in
      let m = ap (λ (xs : List ℕ). slice_index xs 1) h in
      omega (arith, k, m)

  both_above : all_before rest (s ∷ []) ≡ both ∷ []
  both_above = ap (λ (xs : List ℕ). xs ∷ []) left_both

  two_claims : tracks_by rest (s ∷ []) ≡ record { last = rest; above = both ∷ [] }
  two_claims = ap (λ (xs : List (List ℕ)). let t : Tracks = record { last = rest; above = xs } in t) both_above

  not_one_claim : tracks_by rest (s ∷ []) ≡ record { last = rest; above = [] } → ⊥
  not_one_claim h = let k = ap (λ (t : Tracks). length t.above) h in omega (arith, k)

  pub down_to_rest : IsStep both rest s
  down_to_rest = record {
    count = refl;
    has = (let k = ap (slice_index both) b in omega (arith, k));
    child = subst (λ (n : ℕ). AreOfChild both n rest) (sym b) second_left;
    noted = λ e i. noted e (subst (IsIn e) q i);
    under = λ c. (let k = under c in omega (arith, k, t));
    limit = omega (arith, t);
  }
    where
      noted : (e : Entry) → IsIn e changes → e.0 < 2
      noted e (inl p) = let k = ap (λ (e : Entry). e.0) p in omega (arith, k)
      noted e (inr (inl p)) = let k = ap (λ (e : Entry). e.0) p in omega (arith, k)
      noted e (inr (inr z)) = absurd z

      under : (c : ℕ) → slice_index both c ≤ 1
      under zero = omega arith
      under (suc zero) = omega arith
      under (suc (suc c)) = omega arith

  pub one_step : AreSteps rest (s ∷ [])
  one_step = (subst (λ (xs : List ℕ). IsStep xs rest s) (sym left_both) down_to_rest, tt)

  -- the step does not lead to the levels that it left
  not_from_both : AreSteps both (s ∷ []) → ⊥
  not_from_both h = let k = h.0.child.own in let m = ap (slice_index both) b in omega (arith, k, m)

  pub a_trail : IsTrail rest (1 ∷ []) 5 (s ∷ [])
  a_trail = record { led = led; down = one_step }
    where
      each : (k d : ℕ) → k < 2 → slice_index_or rest k d ≤ 5
      each zero d lt = omega arith
      each (suc zero) d lt = omega arith
      each (suc (suc k)) d lt = absurd (omega arith)

      led : AreLed rest (1 ∷ []) 5
      led = record {
        few = omega arith;
        low = λ k d lt. (let m = each k d lt in omega (arith, m));
        under = each;
        limit = omega arith;
        listed = second_alone;
      }

  not_both_left : IsTrail rest (0 ∷ 1 ∷ []) 5 (s ∷ []) → ⊥
  not_both_left h = let k = h.led.listed.some 0 (inl refl) in omega (arith, k)

  not_above_4 : IsTrail rest (1 ∷ []) 4 (s ∷ []) → ⊥
  not_above_4 h = let k = h.led.under 1 0 (omega arith) in omega (arith, k)

  -- the claim of the step's buffer is not left yet
  not_without_a_step : IsTrail both (0 ∷ 1 ∷ []) 1 (s ∷ []) → ⊥
  not_without_a_step h = not_from_both h.down

-- ---- what is no step
not_fewer : (s : Step) → IsStep both (0 ∷ []) s → ⊥
not_fewer s h = let k = h.count in omega (arith, k)

not_of_another : (s : Step) → s.buffer ≡ 1 → IsStep both rest s → ⊥
not_of_another s b h = let k = h.child.own in let m = ap (slice_index rest) b in omega (arith, k, m)

no_third_buffer : (s : Step) → s.changes.items ≡ (2, 0) ∷ [] → IsStep both rest s → ⊥
no_third_buffer s q h =
    let k = h.noted (2, 0) (subst (λ (cs : List Entry). IsIn (2, 0) cs) (sym q) (inl refl)) in omega (arith, k)

not_above_its_top : (s : Step) → s.top ≡ 0 → IsStep both rest s → ⊥
not_above_its_top s t h = let k = h.under 0 in omega (arith, k, t)
