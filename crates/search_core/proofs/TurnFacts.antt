-- Steps of a search that puts a buffer of size 3 at 0, and finds by a line that the other one, of size 1 at multiples
-- of 4 alone, does not fit beside it within 4.
use Rattle.std.proofs.Common.{◌≡◌, ℕ, [], ◌∷◌, Option, Some, None, refl, sym, ap, ◌∙◌, arith}
use Rattle.std.specs.Global.{Vec}
use Rattle.search_core.proofs.Words.{small_below}
use Rattle.claim_levels.proofs.LevelFacts.{rest, root}
use Rattle.branching.specs.Tries.{Tried}
use Rattle.branching.proofs.Computing.{computing_work}
use Rattle.branching.proofs.KnownFacts.{root_layout}
use Rattle.branching.proofs.OverFacts.{over}
use Rattle.branching.proofs.TryFacts.{both_left, one_left, trying_both}
use Rattle.search_core.specs.Descents.{Place, owed}
use Rattle.search_core.specs.Turns.{IfOn, IsAhead, IsOn, IsAtChoices, IsUncovered, IsTurned, Stage, debt_of}
use Rattle.search_core.proofs.DescentFacts.{after_line, before_line, below_root, seven_turns, six_turns, sky_of}
use Rattle.search_core.specs.declared.found.Found.TheVariants as found
use Rattle.search_core.specs.declared.turns.Turn.TheVariants as turn

-- the search is at what is left, with n of seven units used
abbrev below : Option ℕ → Place
below line = below_root 0 line

abbrev stage : Option ℕ → ℕ → Stage
stage line n = record { place = below line; units = record { most = Some 7; used = n } }

-- the search is at the root, or at what is left as at a root
abbrev pub at_root : Place
at_root = record { sky = sky_of (root ∷ []); frames = []; line = None }

abbrev at_rest : Place
at_rest = record { sky = sky_of (rest ∷ []); frames = []; line = None }

-- ---- what is left to do
-- what is left of the first choice, and the second one
three_owed : owed small_below 4 (below None) ≡ 3
unfolding computing_work
three_owed = refl

-- once a line covers what is left of it, the other choice is owed
two_owed : owed small_below 4 (below (Some 0)) ≡ 2
unfolding computing_work
two_owed = refl

-- the root is open: one claim below the first choice, and two below the second
three_below : debt_of small_below 4 at_root (both_left 0) ≡ 3
unfolding computing_work
three_below = refl

two_below : debt_of small_below 4 at_root one_left ≡ 2
unfolding computing_work
two_below = refl

-- ---- an open claim
-- the root and its two choices
root_open : IsAtChoices small_below 4 [] at_root (both_left 0)
root_open = record {
  path = record { subject = refl; some = omega arith; descends = tt };
  not_empty = λ e. absurd cc;
  trying = trying_both [] 0;
}

not_without_buffers : (f : Tried) →
    IsAtChoices small_below 4 [] (record { sky = sky_of ([] ∷ []); frames = []; line = None }) f → ⊥
not_without_buffers f o = o.not_empty refl

-- there are no lines
root_ready : IsUncovered small_below 4 [] at_root (both_left 0)
root_ready = record { opened = root_open; fresh = λ k line e covers. absurd cc; asked = refl }

-- one line was not asked
not_ready : IsUncovered small_below 4 (over ∷ []) at_root (both_left 0) → ⊥
not_ready r = let k = r.asked in omega arith

-- ---- where the search is once it went down
pub ahead : IsAhead small_below 4 [] at_root (both_left 0) (below None)
ahead = record {
  place = before_line;
  root = refl;
  owed = let e = three_owed in let f = three_below in omega arith;
  turns = let e = seven_turns 0 in let f = three_below in omega arith;
}

-- where the second choice alone is left, no more than two claims are
pub more_than_two : IsAhead small_below 4 [] at_root one_left (below None) → ⊥
more_than_two a = let k = a.owed in let e = three_owed in let f = two_below in omega arith

below_another_root : IsAhead small_below 4 [] at_rest (both_left 0) (below None) → ⊥
below_another_root a = let e = a.root in absurd cc

-- ---- a step that goes on
-- the line takes a unit, and one claim less is owed
on_with_line : IsOn small_below 4 (over ∷ []) (stage None 1) (stage (Some 0) 2)
on_with_line = record {
  place = after_line;
  root = refl;
  units = let e = three_owed in let f = two_owed in omega arith;
  fewer = let e = seven_turns 0 in let f = six_turns 0 in omega arith;
}

not_by_two_units : IsOn small_below 4 (over ∷ []) (stage None 1) (stage (Some 0) 3) → ⊥
not_by_two_units o = let k = o.units in let e = three_owed in let f = two_owed in omega arith

-- a step that changes nothing
not_in_place : IsOn small_below 4 [] (stage None 1) (stage None 1) → ⊥
not_in_place o = let k = o.fewer in omega arith

-- ---- what a step comes to
goes_on : IsTurned small_below 4 (over ∷ []) (stage None 1) (stage (Some 0) 2) turn.On
goes_on = on_with_line

stays : IsTurned small_below 4 [] (stage None 1) (stage None 1) turn.On → ⊥
stays o = not_in_place o

module _ (seats : Vec (ℕ × ℕ)) where
  -- what is found is the root's layout, and not that of the last claim
  done_with_both : seats.items ≡ (0, 1) ∷ (1, 0) ∷ [] →
      IsTurned small_below 4 [] (stage None 1) (stage None 2) (turn.Done (found.Seats seats))
  done_with_both e = root_layout ∙ ap Some (sym e)

  not_done_with_one : seats.items ≡ (0, 1) ∷ [] →
      IsTurned small_below 4 [] (stage None 1) (stage None 2) (turn.Done (found.Seats seats)) → ⊥
  not_done_with_one e h = let q = sym root_layout ∙ h ∙ ap Some e in absurd cc

-- the line covers the last claim, and not the root
not_done_with_line : IsTurned small_below 4 (over ∷ []) (stage None 1) (stage None 2) (turn.Done (found.Line 0)) → ⊥
not_done_with_line h = let e = sym root_layout ∙ h.0 in absurd cc

-- ---- facts that hold where the search goes on
holds_where_it_goes_on : IfOn ⊥ turn.On → ⊥
holds_where_it_goes_on h = h

nothing_once_done : IfOn ⊥ (turn.Done (found.Line 0))
nothing_once_done = tt
