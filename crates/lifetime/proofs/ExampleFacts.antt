-- The definitions at small instances.
use Rattle.std.proofs.Common.{◌≡◌, ℕ, ◌<◌, ◌⊎◌, inl, inr, false, List, [], ◌∷◌, refl, sym, ◌∙◌, arith}
use Rattle.dsa_terms.specs.Buffers.{Buffer, Instance, buffer, is_live}
use Rattle.dsa_terms.specs.Claims.{IsIn}
use Rattle.dsa_terms.specs.Parts.{has}
use Rattle.lifetime.specs.Edges.{edge_moments, edges_of, gap_ends, has_member, places_of}
use Rattle.lifetime.specs.Places.{ends_with}
use Rattle.lifetime.specs.Runs.{live_before, starts_of, was_live}
use Rattle.lifetime.specs.SectionList.{Section, SectionList, live_at}
use Rattle.lifetime.specs.Thin.{AreAmong, IsBetween, IsThin, StandsFor, last_of}

-- a buffer with a gap, which another one fills and outlasts
abbrev gapped : Buffer
gapped = record { lower = 0; upper = 10; size = 4; alignment = 1; gaps = (4, 6) ∷ []; lowest = 0 }

abbrev filling : Buffer
filling = record { lower = 4; upper = 7; size = 4; alignment = 1; gaps = []; lowest = 0 }

abbrev two : Instance
two = gapped ∷ filling ∷ []

live_in_gap : live_at two 5 ≡ 1 ∷ []
unfolding live_at buffer is_live
live_in_gap = refl

live_after_gap : live_at two 6 ≡ 0 ∷ 1 ∷ []
unfolding live_at buffer is_live
live_after_gap = refl

live_before_gap : live_before two 4 ≡ 0 ∷ []
unfolding live_before was_live buffer is_live
live_before_gap = refl

nothing_before_zero : live_before two 0 ≡ []
unfolding live_before was_live
nothing_before_zero = refl

edges_of_gapped : edge_moments gapped ≡ 0 ∷ 10 ∷ 4 ∷ 6 ∷ []
edges_of_gapped = refl

ends_of_two_gaps : gap_ends ((4, 6) ∷ (1, 2) ∷ []) ≡ 4 ∷ 6 ∷ 1 ∷ 2 ∷ []
ends_of_two_gaps = refl

numbered_edges : edges_of filling 1 ≡ (4, 1) ∷ (7, 1) ∷ []
numbered_edges = refl

one_noted : ends_with (1 ∷ []) 7 ((3 ∷ []) ∷ (4 ∷ []) ∷ []) ≡ (3 ∷ []) ∷ (4 ∷ 7 ∷ []) ∷ []
unfolding has
one_noted = refl

abbrev pub first : Section
first = record { start = 0; members = 0 ∷ [] }

abbrev pub second : Section
second = record { start = 6; members = 0 ∷ 1 ∷ [] }

starts_of_both : starts_of (first ∷ second ∷ []) ≡ 0 ∷ 6 ∷ []
starts_of_both = refl

places_of_first : places_of (first ∷ second ∷ []) 0 ≡ 0 ∷ 1 ∷ []
unfolding has
places_of_first = refl

places_of_second : places_of (first ∷ second ∷ []) 1 ≡ 1 ∷ []
unfolding has
places_of_second = refl

not_a_member : has_member first 1 ≡ false
unfolding has
not_a_member = refl

-- ---- thin lists
abbrev list_with : List Section → SectionList
list_with sections = record { sections = sections; of_buffers = [] }

last_of_both : last_of (first ∷ second ∷ []) ≡ second
last_of_both = refl

pub among_both : AreAmong (0 ∷ []) (0 ∷ 1 ∷ [])
among_both b (inl e) = inl e
among_both b (inr i) = absurd i

pub not_among : AreAmong (0 ∷ 1 ∷ []) (0 ∷ []) → ⊥
not_among h = elim (h 1 (inr (inl refl))) [ inl e ↦ absurd cc | inr i ↦ i ]

-- the first of the two is within the second
not_thin : IsThin (list_with (first ∷ second ∷ [])) → ⊥
not_thin t = t.after 0 (omega arith) among_both

-- nor may it stand after it
not_thin_after : IsThin (list_with (second ∷ first ∷ [])) → ⊥
not_thin_after t = t.before 0 (omega arith) among_both

alone_is_thin : IsThin (list_with (second ∷ []))
alone_is_thin = record { before = λ s lt. absurd (omega arith); after = λ s lt. absurd (omega arith) }

before_and_after : IsBetween 0 6 4 × IsBetween 6 0 4
before_and_after = (inl (omega arith, omega arith), inr (omega arith, omega arith))

live_at_zero : live_at two 0 ≡ 0 ∷ []
unfolding live_at buffer is_live
live_at_zero = refl

-- the later section stands for the first moment, at which less is live
stands_for_zero : StandsFor two (list_with (second ∷ [])) 0 0
stands_for_zero = record {
  in_range = omega arith;
  has_all = λ u b between bn h. either b bn;
  more = λ lt e. (let k = sym live_at_zero ∙ e in absurd cc);
}
  where
    either : (b : ℕ) → b < 2 → IsIn b (0 ∷ 1 ∷ [])
    either b lt = elim (cases b lt) [ inl e ↦ inl e | inr e ↦ inr (inl e) ]
      where
        cases : (b : ℕ) → b < 2 → (b ≡ 0) ⊎ (b ≡ 1)
        cases b lt = grind arith

-- two buffers of one lifetime, of which one has a gap
abbrev unbroken : Buffer
unbroken = record { lower = 0; upper = 10; size = 4; alignment = 1; gaps = []; lowest = 0 }

abbrev again : Instance
again = gapped ∷ unbroken ∷ []

both_at_zero : live_at again 0 ≡ 0 ∷ 1 ∷ []
unfolding live_at buffer is_live
both_at_zero = refl

-- of the equal sections before and after the gap the later does not stand for the earlier
later_stands_not : StandsFor again (list_with (second ∷ [])) 0 0 → ⊥
later_stands_not s = s.more (omega arith) both_at_zero
