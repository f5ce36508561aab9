-- Worked runs, and lists of sections with the places of each buffer.
use Rattle.std.proofs.Common.{◌≢◌, ℕ, zero, suc, ◌<◌, ◌↔◌, inl, inr, List, [], ◌∷◌, refl, lit<, arith}
use Rattle.std.specs.List.{All}
use Rattle.dsa_terms.specs.Buffers.{Instance, buffer, is_live}
use Rattle.dsa_terms.specs.Claims.{IsIn, Rises}
use Rattle.lifetime.specs.Runs.{AreRuns, BeginsRun, live_before, was_live}
use Rattle.lifetime.specs.SectionList.{AreKeptSections, Section, SectionList, live_at, members_of, section_with, sections_of, start_of}
use Rattle.lifetime.specs.Thin.{StandForAll, StandsFor}

-- the first buffer has a gap from 4 to 6, which the second one fills and outlasts by one moment
abbrev two : Instance
two =
    record { lower = 0; upper = 10; size = 4; alignment = 1; gaps = (4, 6) ∷ []; lowest = 0 }
    ∷ record { lower = 4; upper = 7; size = 4; alignment = 1; gaps = []; lowest = 0 } ∷ []

abbrev pub listed : List Section → SectionList
listed sections = record { sections = sections; of_buffers = [] }

-- ---- runs begin at 0, 4, 6 and 7
run_at_0 : BeginsRun two 0
unfolding live_at live_before was_live buffer is_live
run_at_0 = record { something = λ e. cc; changed = λ e. cc }

run_at_4 : BeginsRun two 4
unfolding live_at live_before was_live buffer is_live
run_at_4 = record { something = λ e. cc; changed = λ e. cc }

run_at_7 : BeginsRun two 7
unfolding live_at live_before was_live buffer is_live
run_at_7 = record { something = λ e. cc; changed = λ e. cc }

none_at_5 : BeginsRun two 5 → ⊥
unfolding live_at live_before was_live buffer is_live
none_at_5 r = r.changed refl

-- the last lifetime ends at 10
none_at_10 : BeginsRun two 10 → ⊥
unfolding live_at buffer is_live
none_at_10 r = r.something refl

sections_at_runs : AreRuns two (listed (section_with 4 (1 ∷ []) ∷ section_with 7 (0 ∷ []) ∷ []))
sections_at_runs zero lt = run_at_4
sections_at_runs (suc zero) lt = run_at_7
sections_at_runs (suc (suc s)) lt = absurd (omega arith)

second_at_no_run : AreRuns two (listed (section_with 4 (1 ∷ []) ∷ section_with 5 (1 ∷ []) ∷ [])) → ⊥
second_at_no_run h = none_at_5 (h 1 (omega arith))

-- ---- sections that stand for all moments
-- less is live before 6 than at it
fewer_before_6 : (t : ℕ) → t < 6 → live_at two t ≢ 0 ∷ 1 ∷ []
unfolding live_at buffer is_live
fewer_before_6 zero lt e = absurd cc
fewer_before_6 (suc zero) lt e = absurd cc
fewer_before_6 (suc (suc zero)) lt e = absurd cc
fewer_before_6 (suc (suc (suc zero))) lt e = absurd cc
fewer_before_6 (suc (suc (suc (suc zero)))) lt e = absurd cc
fewer_before_6 (suc (suc (suc (suc (suc zero))))) lt e = absurd cc
fewer_before_6 (suc (suc (suc (suc (suc (suc t)))))) lt e = absurd (omega arith)

both_stand_for_all : StandForAll two (listed (section_with 6 (0 ∷ 1 ∷ []) ∷ []))
both_stand_for_all t b lt live = (
  0,
  record {
    in_range = omega arith;
    has_all = λ u c between below lives. either c below;
    more = λ early. fewer_before_6 t early;
  },
)
  where
    either : (c : ℕ) → c < 2 → IsIn c (0 ∷ 1 ∷ [])
    either zero below = inl refl
    either (suc zero) below = inr (inl refl)
    either (suc (suc c)) below = absurd (omega arith)

-- the section of the second buffer does not stand for the moment 0, at which the first one is live
second_stands_not : StandForAll two (listed (section_with 4 (1 ∷ []) ∷ [])) → ⊥
unfolding is_live buffer
second_stands_not h = let r = h 0 0 (omega arith) refl in absent r.0 r.1
  where
    absent : (s : ℕ) → StandsFor two (listed (section_with 4 (1 ∷ []) ∷ [])) s 0 → ⊥
    absent zero f = elim (f.has_all 0 0 (inl (omega arith, omega arith)) (omega arith) refl) [
      | inl e ↦ omega arith
      | inr i ↦ i
    ]
    absent (suc s) f = let k = f.in_range in omega arith

-- ---- lists of sections
abbrev pub placed : List Section → List (List ℕ) → SectionList
placed sections places = record { sections = sections; of_buffers = places }

abbrev pub both : List Section
both = section_with 0 (0 ∷ []) ∷ section_with 6 (0 ∷ 1 ∷ []) ∷ []

-- buffer 0 is in both sections, buffer 1 in the second one
abbrev pub kept : SectionList
kept = placed both ((0 ∷ 1 ∷ []) ∷ (1 ∷ []) ∷ [])

pub rising : Rises (0 ∷ 1 ∷ [])
rising = (above, ((λ y i. absurd i), tt))
  where
    above : (y : ℕ) → IsIn y (1 ∷ []) → 0 < y
    above y (inl e) = omega arith
    above y (inr i) = absurd i

of_two : (xs : List ℕ) → ((x : ℕ) → IsIn x xs → x < 2) → All (λ x. x < 2) xs
of_two [] h k d lt = absurd (omega arith)
of_two (x ∷ xs) h zero d lt = h x (inl refl)
of_two (x ∷ xs) h (suc k) d lt = of_two xs (λ y i. h y (inr i)) k d (omega arith)

both_below : (x : ℕ) → IsIn x (0 ∷ 1 ∷ []) → x < 2
both_below x (inl e) = omega arith
both_below x (inr (inl e)) = omega arith
both_below x (inr (inr i)) = absurd i

are_kept : AreKeptSections kept
are_kept = record {
  limit = lit< tt;
  rise = rise;
  members_rise = members_rise;
  members_in_range = members_in_range;
  members_not_empty = members_not_empty;
  places_rise = places_rise;
  places_in_range = places_in_range;
  each_other = each_other;
}
  where
    rise : (r s : ℕ) → r < s → s < 2 → start_of kept r < start_of kept s
    rise zero (suc zero) lt le = lit< tt
    rise r zero lt le = absurd (omega arith)
    rise (suc r) (suc zero) lt le = absurd (omega arith)
    rise r (suc (suc s)) lt le = absurd (omega arith)

    members_rise : (s : ℕ) → s < 2 → Rises (members_of kept s)
    members_rise zero lt = ((λ y i. absurd i), tt)
    members_rise (suc zero) lt = rising
    members_rise (suc (suc s)) lt = absurd (omega arith)

    members_in_range : (s : ℕ) → s < 2 → All (λ b. b < 2) (members_of kept s)
    members_in_range zero lt = of_two (0 ∷ []) (λ x i. both_below x (elim i [ inl e ↦ inl e | inr j ↦ absurd j ]))
    members_in_range (suc zero) lt = of_two (0 ∷ 1 ∷ []) both_below
    members_in_range (suc (suc s)) lt = absurd (omega arith)

    members_not_empty : (s : ℕ) → s < 2 → members_of kept s ≢ []
    members_not_empty zero lt e = absurd cc
    members_not_empty (suc zero) lt e = absurd cc
    members_not_empty (suc (suc s)) lt e = absurd (omega arith)

    places_rise : (b : ℕ) → b < 2 → Rises (sections_of kept b)
    places_rise zero lt = rising
    places_rise (suc zero) lt = ((λ y i. absurd i), tt)
    places_rise (suc (suc b)) lt = absurd (omega arith)

    places_in_range : (b : ℕ) → b < 2 → All (λ s. s < 2) (sections_of kept b)
    places_in_range zero lt = of_two (0 ∷ 1 ∷ []) both_below
    places_in_range (suc zero) lt = of_two (1 ∷ []) (λ x i. both_below x (inr i))
    places_in_range (suc (suc b)) lt = absurd (omega arith)

    each_other : (b s : ℕ) → b < 2 → s < 2 → IsIn s (sections_of kept b) ↔ IsIn b (members_of kept s)
    each_other zero zero lb ls = (λ i. inl refl, λ i. inl refl)
    each_other zero (suc zero) lb ls = (λ i. inl refl, λ i. inr (inl refl))
    each_other (suc zero) zero lb ls = (
      λ i. elim i [ inl e ↦ absurd (omega arith) | inr j ↦ absurd j ],
      λ i. elim i [ inl e ↦ absurd (omega arith) | inr j ↦ absurd j ],
    )
    each_other (suc zero) (suc zero) lb ls = (λ i. inr (inl refl), λ i. inl refl)
    each_other (suc (suc b)) s lb ls = absurd (omega arith)
    each_other zero (suc (suc s)) lb ls = absurd (omega arith)
    each_other (suc zero) (suc (suc s)) lb ls = absurd (omega arith)

-- the lists of the two buffers are exchanged
exchanged : AreKeptSections (placed both ((1 ∷ []) ∷ (0 ∷ 1 ∷ []) ∷ [])) → ⊥
exchanged k = elim ((k.each_other 0 0 (omega arith) (omega arith)).1 (inl refl)) [
  | inl e ↦ omega arith
  | inr i ↦ i
]

-- two sections of one moment
same_start : AreKeptSections (placed (section_with 6 (0 ∷ []) ∷ section_with 6 (0 ∷ []) ∷ []) ((0 ∷ 1 ∷ []) ∷ [])) → ⊥
same_start k = let r = k.rise 0 1 (omega arith) (omega arith) in omega arith

without_members : AreKeptSections (placed (section_with 0 [] ∷ []) []) → ⊥
without_members k = k.members_not_empty 0 (omega arith) refl

-- there is no list of places for buffer 1
without_places : AreKeptSections (placed (section_with 0 (1 ∷ []) ∷ []) ((0 ∷ []) ∷ [])) → ⊥
without_places k = let r = k.members_in_range 0 (omega arith) 0 0 (omega arith) in omega arith

-- there is no section 1
without_section : AreKeptSections (placed (section_with 0 (0 ∷ []) ∷ []) ((0 ∷ 1 ∷ []) ∷ [])) → ⊥
without_section k = let r = k.places_in_range 0 (omega arith) 1 0 (omega arith) in omega arith
