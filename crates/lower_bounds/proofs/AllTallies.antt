-- The tallies of all sections, one buffer after another, and for each buffer one of its sections after another.
use Rattle.std.proofs.Common.{◌≡◌, ◌≢◌, ℕ, ◌+◌, ◌<◌, ◌≤◌, ◌⊎◌, inl, inr, Bool, true, false, List, [], ◌∷◌, ◌++◌, length, filter, take, slice_index_or, slice_set, sym, refl, subst, ◌∙◌, arith}
use Rattle.std.proofs.lemmas.List.{get_or-set_other, get_or-set_same, length-set, take_all, take_more}
use Rattle.dsa_start_laws.specs.Piles.{rounded_size}
use Rattle.dsa_terms.specs.Buffers.{Instance, buffer, floor, is_live}
use Rattle.dsa_terms.specs.Claims.{IsIn, Rises}
use Rattle.dsa_terms.specs.Parts.{numbers}
use Rattle.dsa_terms.proofs.Lists.{from_append, from_filter, into_filter, left_append, right_append, true_or_false}
use Rattle.dsa_terms.proofs.Places.{in_at}
use Rattle.dsa_terms.proofs.Ranges.{among, below}
use Rattle.lifetime.specs.SectionList.{SectionList, count_of, start_of}
use Rattle.lifetime.proofs.Lists.{rises-numbers, rises_at}
use Rattle.lower_bounds.specs.Stacks.{IsFalling, is_counted, rounding_of}
use Rattle.lower_bounds.specs.Tallies.{AreTallies, IsTally, members_among, no_tally}
use Rattle.lower_bounds.specs.declared.tallies.Tally.{Tally}
use Rattle.lower_bounds.proofs.Orders.{from_take}
use Rattle.lower_bounds.proofs.Tallying.{IsAdded, live_fall, live_more, live_same, tally_more, tally_none, tally_same}

pub tallies_none : (I : Instance) (S : SectionList) (G : ℕ) (order : List ℕ) (tallies : List Tally) →
    length tallies ≡ count_of S → ((s : ℕ) → s < length tallies → slice_index_or tallies s no_tally ≡ no_tally) →
    AreTallies I S G (take 0 order) tallies
unfolding members_among
tallies_none I S G order tallies m e = record {
  count = m;
  each = λ s lt. rw (e s (omega arith)) (tally_none I G);
}

pub tallies_all : (I : Instance) (S : SectionList) (G k : ℕ) (order : List ℕ) (tallies : List Tally) →
    length order ≤ k → AreTallies I S G (take k order) tallies → AreTallies I S G order tallies
tallies_all I S G k order tallies le h = rw (take_all k order le) at h

-- a buffer that is not counted changes none
pub tallies_same : (I : Instance) (S : SectionList) (G place : ℕ) (order : List ℕ) (tallies : List Tally) →
    place < length order → is_counted I G (slice_index_or order place 0) ≡ false →
    AreTallies I S G (take place order) tallies → AreTallies I S G (take (place + 1) order) tallies
tallies_same I S G place order tallies lt n h = record {
  count = h.count;
  each = λ s sn. elim (true_or_false (is_live (buffer I (slice_index_or order place 0)) (start_of S s))) [
    | inl t ↦ rw (live_more I S order place s lt t) (tally_same I G (members_among I S (take place order) s)
        (slice_index_or order place 0) (slice_index_or tallies s no_tally) n (h.each s sn))
    | inr f ↦ rw (live_same I S order place s lt f) (h.each s sn)
  ];
}

-- the sections of the buffer, of which the first k have been done
pub record AreBeing (I : Instance) (S : SectionList) (G : ℕ) (seen : List ℕ) (b : ℕ) (places : List ℕ) (k : ℕ)
    (tallies : List Tally) : Type 0 where
  pub count : length tallies ≡ count_of S
  pub done : (s : ℕ) → IsIn s (take k places) →
      IsTally I G (members_among I S seen s ++ b ∷ []) (slice_index_or tallies s no_tally)
  pub left : (s : ℕ) → s < count_of S → (IsIn s (take k places) → ⊥) →
      IsTally I G (members_among I S seen s) (slice_index_or tallies s no_tally)

pub being_none : (I : Instance) (S : SectionList) (G : ℕ) (seen : List ℕ) (b : ℕ) (places : List ℕ)
    (tallies : List Tally) → AreTallies I S G seen tallies → AreBeing I S G seen b places 0 tallies
being_none I S G seen b places tallies h = record {
  count = h.count;
  done = λ s i. absurd i;
  left = λ s lt n. h.each s lt;
}

-- where the buffer is live
abbrev pub IsListed : Instance → SectionList → ℕ → List ℕ → Type 0
IsListed I S b places = places ≡ filter (λ s. is_live (buffer I b) (start_of S s)) (numbers (count_of S))

module _ (I : Instance) (S : SectionList) (G place k : ℕ) (order places : List ℕ) (tallies : List Tally)
    (lt : place < length order) (listed : IsListed I S (slice_index_or order place 0) places)
    (h : AreBeing I S G (take place order) (slice_index_or order place 0) places k tallies) where
  module _ (kn : k < length places) where
    s_below : slice_index_or places k 0 < count_of S
    s_below = below (count_of S) (slice_index_or places k 0)
        (from_filter (λ s. is_live (buffer I (slice_index_or order place 0)) (start_of S s)) (numbers (count_of S))
        (slice_index_or places k 0)
        (subst (IsIn (slice_index_or places k 0)) listed (in_at places k 0 kn))).0

    other : (r : ℕ) → IsIn r (take k places) → r ≢ slice_index_or places k 0
    other r j q =
        let rises : Rises places = rw listed (rises-numbers
        (λ s. is_live (buffer I (slice_index_or order place 0)) (start_of S s)) (count_of S)) in
        let p = from_take places k r j in
        let l = rises_at places p.0 k 0 rises p.1 kn in
        let e = p.3 in
        omega arith

    -- the next section has not been done
    pub being_next : IsTally I G (members_among I S (take place order) (slice_index_or places k 0))
        (slice_index_or tallies (slice_index_or places k 0) no_tally)
    being_next = h.left (slice_index_or places k 0) s_below (λ i. other (slice_index_or places k 0) i refl)

    pub being_in : slice_index_or places k 0 < length tallies
    being_in = let c = h.count in let l = s_below in omega arith

    pub being_more : (x y : Tally) → IsFalling I order → is_counted I G (slice_index_or order place 0) ≡ true →
        x ≡ slice_index_or tallies (slice_index_or places k 0) no_tally →
        IsAdded x y (floor (buffer I (slice_index_or order place 0)))
        (rounded_size I G (slice_index_or order place 0)) (rounding_of I G (slice_index_or order place 0)) →
        AreBeing I S G (take place order) (slice_index_or order place 0) places (k + 1)
        (slice_set tallies (slice_index_or places k 0) y)
    being_more x y falling here is added = record {
      count = length-set tallies s y ∙ h.count;
      done = λ r i. elim (was r i) [
        | inl j ↦ subst (IsTally I G (members_among I S (take place order) r ++ b ∷ []))
            (sym (get_or-set_other tallies s r y no_tally (other r j))) (h.done r j)
        | inr q ↦ rw (q, get_or-set_same tallies s y no_tally being_in) (tally_more I G
            (members_among I S (take place order) s) b x y here
            (live_fall I S order place s lt falling) added
            (subst (IsTally I G (members_among I S (take place order) s)) (sym is) being_next))
      ];
      left = λ r rn n. subst (IsTally I G (members_among I S (take place order) r))
          (sym (get_or-set_other tallies s r y no_tally (λ q. n (subst (IsIn r) (sym next)
          (right_append (take k places) (s ∷ []) r (inl q))))))
          (h.left r rn (λ i. n (subst (IsIn r) (sym next) (left_append (take k places) (s ∷ []) r i))));
    }
      where
        b : ℕ
        b = slice_index_or order place 0

        s : ℕ
        s = slice_index_or places k 0

        next : take (k + 1) places ≡ take k places ++ slice_index_or places k 0 ∷ []
        next = take_more places k 0 kn

        was : (r : ℕ) → IsIn r (take (k + 1) places) → IsIn r (take k places) ⊎ (r ≡ slice_index_or places k 0)
        was r i = elim (from_append (take k places) (s ∷ []) r (subst (IsIn r) next i)) [
          | inl j ↦ inl j
          | inr (inl q) ↦ inr q
          | inr (inr j) ↦ absurd j
        ]

  -- all sections of the buffer have been done
  pub being_all : length places ≤ k → AreTallies I S G (take (place + 1) order) tallies
  being_all le = record {
    count = h.count;
    each = λ s sn. elim (true_or_false (is_live (buffer I (slice_index_or order place 0)) (start_of S s))) [
      | inl t ↦ rw (live_more I S order place s lt t) (h.done s (subst (IsIn s) (sym all) (into_filter test
          (numbers (count_of S)) s (among (count_of S) s sn) t)))
      | inr f ↦ rw (live_same I S order place s lt f) (h.left s sn (λ i. not_there s f (subst (IsIn s) all i)))
    ];
  }
    where
      test : ℕ → Bool
      test s = is_live (buffer I (slice_index_or order place 0)) (start_of S s)

      all : take k places ≡ filter (λ s. is_live (buffer I (slice_index_or order place 0)) (start_of S s))
          (numbers (count_of S))
      all = take_all k places le ∙ listed

      not_there : (s : ℕ) → is_live (buffer I (slice_index_or order place 0)) (start_of S s) ≡ false →
          IsIn s (filter (λ s. is_live (buffer I (slice_index_or order place 0)) (start_of S s))
          (numbers (count_of S))) → ⊥
      not_there s f i = let t = (from_filter test (numbers (count_of S)) s i).1 in absurd cc
