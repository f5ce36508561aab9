-- Worked lists of sections: thinned, with members below a count, and of an instance.
use Rattle.std.proofs.Common.{◌≡◌, ◌≢◌, ℕ, zero, suc, ◌+◌, ◌<◌, ◌↔◌, inl, inr, List, [], ◌∷◌, slice_index_or, refl, subst, sym, lit<, lit≤, arith}
use Rattle.std.proofs.lemmas.List.Elements.{All-cons, All-nil}
use Rattle.std.specs.List.{filter}
use Rattle.std.specs.Global.{Vec}
use Rattle.dsa_terms.specs.Buffers.{Share, buffer, is_live}
use Rattle.dsa_terms.specs.Claims.{IsIn}
use Rattle.dsa_terms.specs.Parts.{numbers}
use Rattle.dsa_terms.specs.Plans.{IsPeak, load}
use Rattle.lifetime.specs.Determined.{AreSections}
use Rattle.lifetime.specs.Places.{AreMembersBelow, HasMembersBelow}
use Rattle.lifetime.specs.Runs.{AreRuns, live_before, was_live}
use Rattle.lifetime.specs.SectionList.{AreSectionsOf, HasAllAt, Section, SectionList, ShareSection, live_at, members_of, no_section, section_with, sections_of, start_of}
use Rattle.lifetime.specs.Stretches.{AreThinned, IsLesser, IsStretch}
use Rattle.lifetime.specs.Thin.{AreAmong, AreThin, IsThinnedTo, StandForAll, StandsIn}
use Rattle.lifetime.specs.Views.{list_of, section_of}
use Rattle.lifetime.proofs.ExampleFacts.{among_both, first, not_among, second}
use Rattle.lifetime.proofs.RunFacts.{both, kept, listed, placed, rising}
use Rattle.lifetime.proofs.SweepFacts.{not_later, one, run_at_0}

-- ---- views
module _ (v w : Vec ℕ) where
  a_section : section_of (record { start = 6; members = v }) ≡ section_with 6 v.items
  a_section = refl

  a_list : list_of (record { start = 6; members = v } ∷ []) (w ∷ [])
      ≡ placed (section_with 6 v.items ∷ []) (w.items ∷ [])
  a_list = refl

nothing_past_the_last : members_of (listed (first ∷ [])) 1 ≡ []
nothing_past_the_last = refl

-- ---- thin lists
abbrev in_turn : List Section
in_turn = section_with 0 (0 ∷ []) ∷ section_with 2 (1 ∷ []) ∷ []

apart : AreThin in_turn
apart = record { before = before; after = after }
  where
    other : (x y : ℕ) → x ≢ y → AreAmong (x ∷ []) (y ∷ []) → ⊥
    other x y n h = elim (h x (inl refl)) [ inl e ↦ n e | inr i ↦ i ]

    members : ℕ → List ℕ
    members s = (slice_index_or in_turn s no_section).members

    before : (s : ℕ) → s + 1 < 2 → AreAmong (members (s + 1)) (members s) → ⊥
    before zero lt = other 1 0 (λ e. omega arith)
    before (suc s) lt = absurd (omega arith)

    after : (s : ℕ) → s + 1 < 2 → AreAmong (members s) (members (s + 1)) → ⊥
    after zero lt = other 0 1 (λ e. omega arith)
    after (suc s) lt = absurd (omega arith)

-- all members of the first are in the second
not_apart : AreThin both → ⊥
not_apart t = t.after 0 (lit< tt) among_both

-- nor are the two thin the other way round
not_apart_back : AreThin (second ∷ first ∷ []) → ⊥
not_apart_back t = t.before 0 (lit< tt) among_both

members_among : (y : Section) → IsIn y both → AreAmong y.members (0 ∷ 1 ∷ [])
members_among y (inl e) = subst (λ (y : Section). AreAmong y.members (0 ∷ 1 ∷ [])) (sym e) among_both
members_among y (inr (inl e)) = subst (λ (y : Section). AreAmong y.members (0 ∷ 1 ∷ [])) (sym e) (λ b i. i)
members_among y (inr (inr i)) = absurd i

second_for_first : StandsIn both first second
second_for_first = record { has_all = λ y i between. members_among y i; more = λ lt. not_among }

not_first_for_second : StandsIn both second first → ⊥
not_first_for_second s = not_among (s.has_all second (inr (inl refl)) (inr (lit≤ tt, lit≤ tt)))

second_for_itself : StandsIn both second second
second_for_itself = record { has_all = λ y i between. members_among y i; more = λ lt. absurd (omega arith) }

second_is_left : IsThinnedTo both (second ∷ [])
second_is_left = record {
  chosen = λ x i. elim i [ inl e ↦ inr (inl e) | inr j ↦ absurd j ];
  rise = ((λ y i. absurd i), tt);
  thin = record { before = λ s lt. absurd (omega arith); after = λ s lt. absurd (omega arith) };
  stand = stand;
}
  where
    stand : (x : Section) → IsIn x both → (k : Section) × IsIn k (second ∷ []) × StandsIn both x k
    stand x (inl e) = (second, inl refl, subst (λ x. StandsIn both x second) (sym e) second_for_first)
    stand x (inr (inl e)) = (second, inl refl, subst (λ x. StandsIn both x second) (sym e) second_for_itself)
    stand x (inr (inr i)) = absurd i

not_the_first : IsThinnedTo both (first ∷ []) → ⊥
not_the_first h = let r = h.stand second (inr (inl refl)) in elim r.1 [
  | inl e ↦ not_first_for_second (subst (λ k. StandsIn both second k) e r.2)
  | inr i ↦ i
]

-- one after another, the first gives way to the second
second_is_kept : AreThinned both (second ∷ [])
second_is_kept = record { stretches = ([], first ∷ [], [], stretch, refl); apart = (tt, tt, tt) }
  where
    lesser : (x : Section) → IsIn x (first ∷ []) → IsLesser x second
    lesser x (inl e) = subst (λ x. IsLesser x second) (sym e) (among_both, not_among)
    lesser x (inr i) = absurd i

    stretch : IsStretch both [] second (first ∷ []) []
    stretch = record { is = refl; lesser = lesser; within = λ x i. absurd i }

-- they are not both kept
not_both_kept : AreThinned both both → ⊥
not_both_kept t = t.apart.1 among_both

not_none_kept : AreThinned both [] → ⊥
not_none_kept t = let e : both ≡ [] = t.stretches in absurd cc

-- ---- members below a count
below_two : HasMembersBelow 2 second
below_two = record {
  rises = rising;
  in_range = All-cons (λ b. b < 2) 0 (1 ∷ []) (lit< tt) (All-cons (λ b. b < 2) 1 [] (lit< tt) (All-nil (λ b. b < 2)));
}

not_below_one : HasMembersBelow 1 second → ⊥
not_below_one h = let k = h.in_range 1 0 (lit< tt) in omega arith

all_below_two : AreMembersBelow 2 (second ∷ [])
all_below_two = All-cons (HasMembersBelow 2) second [] below_two (All-nil (HasMembersBelow 2))

not_all_below_one : AreMembersBelow 1 (second ∷ []) → ⊥
not_all_below_one h = not_below_one (h 0 second (lit< tt))

-- ---- sections of an instance
has_all : (t : ℕ) → HasAllAt one (listed (section_with 0 (0 ∷ []) ∷ [])) t 0
has_all t zero lt live = inl refl
has_all t (suc b) lt live = absurd (omega arith)

has_none : HasAllAt one (listed (section_with 0 [] ∷ [])) 1 0 → ⊥
unfolding buffer is_live
has_none h = h 0 (lit< tt) refl

second_is_shared : ShareSection kept 0 1
second_is_shared = (1, lit< tt, inl refl, inr (inl refl))

none_is_shared : ShareSection (listed (section_with 0 (0 ∷ []) ∷ [])) 0 1 → ⊥
none_is_shared (zero, lt, i, j) = elim j [ inl e ↦ omega arith | inr n ↦ n ]
none_is_shared (suc s, lt, i, j) = omega arith

no_load_later : (t : ℕ) → load one (suc (suc t)) ≡ 0
unfolding load
no_load_later t = rw (not_later t) refl

abbrev pub its_section : SectionList
its_section = placed (section_with 0 (0 ∷ []) ∷ []) ((0 ∷ []) ∷ [])

pub its_own : AreSectionsOf one its_section
unfolding live_at buffer is_live load
its_own = record {
  buffers = refl;
  rise = λ r s lt le. absurd (omega arith);
  live = live;
  not_empty = not_empty;
  together = λ t b lt h. (0, lit< tt, has_all t);
  peak = peak;
  listed = listed_own;
  shared = shared;
}
  where
    live : (s : ℕ) → s < 1 → members_of its_section s ≡ live_at one (start_of its_section s)
    live zero lt = refl
    live (suc s) lt = absurd (omega arith)

    not_empty : (s : ℕ) → s < 1 → members_of its_section s ≢ []
    not_empty zero lt e = absurd cc
    not_empty (suc s) lt e = absurd (omega arith)

    -- the load is 1 at 0 and at 1, and 0 later
    peak : (t : ℕ) → IsPeak one t → (s : ℕ) × (s < 1) × (start_of its_section s ≡ t)
    peak zero p = (0, lit< tt, refl)
    peak (suc zero) p = let k : 1 < 1 = p.earliest 0 (lit< tt) in absurd (omega arith)
    peak (suc (suc t)) p =
        let k : 1 < load one (suc (suc t)) = p.earliest 0 (omega arith) in absurd (omega (arith, no_load_later t))

    listed_own : (b : ℕ) → b < 1 → sections_of its_section b
        ≡ filter (λ s. is_live (buffer one b) (start_of its_section s)) (numbers 1)
    listed_own zero lt = refl
    listed_own (suc b) lt = absurd (omega arith)

    shared : (b c : ℕ) → b < 1 → c < 1 → ShareSection its_section b c ↔ Share (buffer one b) (buffer one c)
    shared zero zero lb lc = (λ s. (0, refl, refl), λ s. (0, lit< tt, inl refl, inl refl))
    shared (suc b) c lb lc = absurd (omega arith)
    shared zero (suc c) lb lc = absurd (omega arith)

-- the moment 0 is in none
no_section_at_all : AreSectionsOf one (placed [] ([] ∷ [])) → ⊥
unfolding buffer is_live
no_section_at_all h = let r = h.together 0 0 (lit< tt) refl in let k = r.1 in omega arith

-- the one section, from the first moment on
its_sections : AreSections one its_section
its_sections = record { sections = its_own; runs = runs; thin = thin; stand = stand }
  where
    runs : AreRuns one its_section
    runs zero lt = run_at_0
    runs (suc s) lt = absurd (omega arith)

    thin : AreThin its_section.sections
    thin = record { before = λ s lt. absurd (omega arith); after = λ s lt. absurd (omega arith) }

    stand : StandForAll one its_section
    stand t b lt live = (
      0,
      record {
        in_range = lit< tt;
        has_all = λ u c between below lives. has_all u c below lives;
        more = λ late. absurd (omega arith);
      },
    )

-- no run starts at 1
not_from_1 : AreSections one (placed (section_with 1 (0 ∷ []) ∷ []) ((0 ∷ []) ∷ [])) → ⊥
unfolding live_at live_before was_live buffer is_live
not_from_1 h = (h.runs 0 (lit< tt)).changed refl

-- two sections where one has all
not_twice : AreSections one (placed (section_with 0 (0 ∷ []) ∷ section_with 1 (0 ∷ []) ∷ []) ((0 ∷ 1 ∷ []) ∷ [])) → ⊥
not_twice h = h.thin.before 0 (lit< tt) (λ b i. i)
