-- Worked stacks: what a skyline's fields keep of buffers that stand, and when a load fits.
use Rattle.std.proofs.Common.{◌≡◌, ℕ, zero, suc, ◌<◌, ◌↔◌, true, false, inl, inr, List, [], ◌∷◌, length, slice_index, slice_index_or, Some, None, refl, lit<, lit≤, arith}
use Rattle.std.proofs.lemmas.List.Elements.{All-cons, All-nil}
use Rattle.dsa_terms.specs.Buffers.{buffer, do_share, is_live, some_before}
use Rattle.dsa_terms.specs.Claims.{IsIn, child, step, up}
use Rattle.dsa_terms.specs.Parts.{whole}
use Rattle.dsa_terms.proofs.Examples.{high_fours}
use Rattle.dsa_model.specs.Buffer.{IsBuffer, is_ever_live}
use Rattle.lifetime.specs.SectionList.{sections_of}
use Rattle.lifetime.proofs.SweepFacts.{one, only}
use Rattle.lifetime.proofs.ThinFacts.{its_own, its_section}
use Rattle.canonical_order.specs.Claims.{HasBuffer}
use Rattle.dsa_model.proofs.Faults.{is_buffer}
use Rattle.skyline.specs.Carried.{Carries, IsSaved}
use Rattle.skyline.specs.Loads.{HasLoads, IsLoaded}
use Rattle.skyline.specs.Overloads.{FitsFrom, free_load, is_left, over_at}
use Rattle.skyline.specs.Skylines.{IsSkyline}
use Rattle.skyline.specs.Standing.{HasLowests, IsStack, claim_after}
use Rattle.skyline.proofs.ExampleFacts.{all_three, one_section, together}

-- ---- loads on top of a height
passes : over_at 7 2 4 (Some 3) ≡ Some (7, 3)
passes = refl

does_not_pass : over_at 7 2 5 (Some 3) ≡ None
does_not_pass = refl

nothing_to_pass : over_at 7 9 5 None ≡ None
nothing_to_pass = refl

just_fits : FitsFrom 2 5 (Some 3)
just_fits = lit≤ tt

fits_not : FitsFrom 2 4 (Some 3) → ⊥
fits_not h = omega (arith, h)

fits_nowhere : FitsFrom 9 5 None
fits_nowhere = tt

-- ---- stacks
one_on_another : IsStack together (whole together all_three) (1 ∷ 0 ∷ [])
unfolding child up step do_share some_before is_live buffer
one_on_another = (inl refl, (inl refl, tt))

-- no buffer stands twice
not_twice : IsStack together (whole together all_three) (0 ∷ 0 ∷ []) → ⊥
unfolding child up step do_share some_before is_live buffer
not_twice (i, j) = elim i [ inl e ↦ omega arith | inr k ↦ elim k [ inl e ↦ omega arith | inr n ↦ n ] ]

-- below buffer 1 the height is 1, and below buffer 0 it is 0
heights_saved : IsSaved together one_section (whole together all_three) ((0 ∷ []) ∷ (1 ∷ []) ∷ (0 ∷ []) ∷ [])
    (1 ∷ 0 ∷ [])
unfolding child up step do_share some_before is_live buffer
heights_saved = (refl, (refl, tt))

not_of_the_top : IsSaved together one_section (whole together all_three) ((0 ∷ []) ∷ (3 ∷ []) ∷ (0 ∷ []) ∷ [])
    (1 ∷ 0 ∷ []) → ⊥
unfolding child up step do_share some_before is_live buffer
not_of_the_top (e, r) = absurd cc

-- ---- loads of what is left
apart : (m n : ℕ) → n < m → m ≡ n → ⊥
apart m n lt e = omega arith

loads_of_all : HasLoads together one_section (whole together all_three) (4 ∷ [])
unfolding free_load is_left buffer
loads_of_all = record { count = refl; each = each }
  where
    each : (s : ℕ) → s < 1 → slice_index (4 ∷ []) s ≡ free_load together one_section (whole together all_three) s
    each zero lt = refl
    each (suc s) lt = absurd (omega arith)

-- buffer 0 is no longer there
loads_of_two : HasLoads together one_section ((1, 0) ∷ (2, 0) ∷ []) (4 ∷ []) → ⊥
unfolding free_load is_left buffer
loads_of_two h = apart 4 3 (lit< tt) (h.each 0 (lit< tt))

-- ---- bounds that are the lowests, and one that is a floor
fives_and_zero : HasLowests high_fours ((0, 5) ∷ (2, 0) ∷ [])
unfolding buffer
fives_and_zero e (inl q) = rw q refl
fives_and_zero e (inr (inl q)) = rw q refl
fives_and_zero e (inr (inr i)) = absurd i

not_the_floor : HasLowests high_fours ((0, 8) ∷ []) → ⊥
unfolding buffer
not_the_floor h = apart 8 5 (lit< tt) (h (0, 8) (inl refl))

-- ---- the one buffer of an instance stands at 0
abbrev rows : List (List ℕ)
rows = (0 ∷ []) ∷ []

alone_stands : Carries one its_section (0 ∷ []) (0 ∷ []) (0 ∷ []) (1 ∷ []) rows (false ∷ [])
unfolding child up step do_share some_before is_live is_ever_live buffer
alone_stands = record {
  buffers = All-cons IsBuffer only [] (is_buffer only refl (omega arith)) (All-nil IsBuffer);
  count = lit≤ tt;
  belongs = its_own;
  in_range = All-cons (λ b. b < 1) 0 [] (lit< tt) (All-nil (λ b. b < 1));
  rise = ((λ y i. absurd i), tt);
  stands = (inl refl, tt);
  offsets = refl;
  heights = refl;
  saved = (refl, tt);
  saved_count = refl;
  saved_room = room;
  free_count = refl;
  free = free;
}
  where
    room : (b : ℕ) → b < 1 → IsIn b (0 ∷ []) →
        length (slice_index_or rows b []) ≡ length (sections_of its_section b)
    room zero lt i = refl
    room (suc b) lt i = absurd (omega arith)

    free : (b : ℕ) → b < 1 →
        (slice_index_or (false ∷ []) b false ≡ true) ↔ HasBuffer (claim_after one (whole one (0 ∷ [])) (0 ∷ [])) b
    free zero lt = (λ e. absurd cc, λ i. absurd i)
    free (suc b) lt = absurd (omega arith)

-- it is not free
not_free : Carries one its_section (0 ∷ []) (0 ∷ []) (0 ∷ []) (1 ∷ []) rows (true ∷ []) → ⊥
unfolding child up step do_share some_before is_live buffer
not_free h = (h.free 0 (lit< tt)).0 refl

one_deep : IsSkyline one its_section (0 ∷ []) 1 (0 ∷ []) (0 ∷ []) (1 ∷ []) rows (false ∷ [])
one_deep = record { depth = lit≤ tt; stack_room = refl; ledge_room = refl; carries = alone_stands }

not_two_deep : IsSkyline one its_section (0 ∷ []) 2 (0 ∷ []) (0 ∷ []) (1 ∷ []) rows (false ∷ []) → ⊥
not_two_deep h = let k = h.depth in omega arith

-- nothing is left
no_load : IsLoaded one its_section (0 ∷ []) 1 (0 ∷ []) (0 ∷ []) (1 ∷ []) rows (false ∷ []) (0 ∷ [])
unfolding child up step do_share some_before is_live buffer free_load is_left
no_load = record { sky = one_deep; loads = record { count = refl; each = each } }
  where
    each : (s : ℕ) → s < 1 → slice_index (0 ∷ []) s ≡ free_load one its_section [] s
    each zero lt = refl
    each (suc s) lt = absurd (omega arith)

not_still_its_load : IsLoaded one its_section (0 ∷ []) 1 (0 ∷ []) (0 ∷ []) (1 ∷ []) rows (false ∷ [])
    (1 ∷ []) → ⊥
unfolding child up step do_share some_before is_live buffer free_load is_left
not_still_its_load h = apart 1 0 (lit< tt) (h.loads.each 0 (lit< tt))
