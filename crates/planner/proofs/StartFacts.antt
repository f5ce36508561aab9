-- The starts of a small buffer that belongs below: the best one has height 5, and none is within 4.
use Rattle.std.proofs.Common.{◌≡◌, ℕ, [], ◌∷◌, Some, None, refl, sym, ap, ◌∙◌, arith}
use Rattle.std.specs.Global.{Vec}
use Rattle.dsa_terms.specs.Buffers.{buffer, do_share, is_live, some_before, floor}
use Rattle.dsa_terms.specs.Fits.{best_fit, best_place, first_fit, first_place, free_ranges, highest, holds, is_free, is_tighter, neighbours, stretches, top, least_from, is_clear}
use Rattle.dsa_terms.specs.Orders.{falls_by, orders, rises_by}
use Rattle.dsa_terms.specs.Plans.{layout_height}
use Rattle.dsa_terms.specs.Starts.{starts}
use Rattle.dsa_terms.proofs.Examples.{small_below}
use Rattle.first_fit.specs.declared.start_list.Start.{Start}
use Rattle.planner.specs.FirstStart.{IsBestStart, IsFittingOf, start_within}
use Rattle.planner.specs.declared.starting.Fitting.TheVariants.{Past, Within}
use Rattle.planner.proofs.ExampleLeastFacts.{below_best, four_is_open}

within_5 : start_within small_below 5 ≡ Some (0 ∷ 4 ∷ [])
unfolding layout_height starts orders falls_by rises_by first_fit best_fit neighbours first_place floor is_clear
    best_place free_ranges stretches holds least_from is_tighter is_free highest top do_share some_before is_live
    buffer
within_5 = refl

none_within_4 : start_within small_below 4 ≡ None
unfolding layout_height starts orders falls_by rises_by first_fit best_fit neighbours first_place floor is_clear
    best_place free_ranges stretches holds least_from is_tighter is_free highest top do_share some_before is_live
    buffer
none_within_4 = refl

-- ---- the best start
module _ (s : Start) where
  best_at_5 : s.height ≡ 5 → s.offsets.items ≡ 0 ∷ 4 ∷ [] → IsBestStart small_below s
  best_at_5 height offsets = record {
    start = record {
      height = height ∙ sym (ap (layout_height small_below) offsets ∙ four_is_open.its_height);
      limit = omega arith;
      layout = rw (height, offsets) four_is_open.layout;
    };
    best = offsets ∙ sym below_best;
  }

  -- the search's layout is no start
  not_the_search : s.offsets.items ≡ 1 ∷ 0 ∷ [] → IsBestStart small_below s → ⊥
  not_the_search offsets h = let e = sym offsets ∙ h.best ∙ below_best in absurd cc

  -- the height is that of the offsets
  not_at_6 : s.height ≡ 6 → IsBestStart small_below s → ⊥
  not_at_6 height h =
      let e = h.start.height in
      let q = ap (layout_height small_below) (h.best ∙ below_best) in
      let k = four_is_open.its_height in
      omega arith

-- ---- starts that are tried
module _ (offsets : Vec ℕ) where
  taken_at_5 : offsets.items ≡ 0 ∷ 4 ∷ [] → IsFittingOf small_below 5 (Within offsets)
  taken_at_5 e = within_5 ∙ ap Some (sym e)

  none_taken_at_4 : IsFittingOf small_below 4 (Within offsets) → ⊥
  none_taken_at_4 h = let e = sym none_within_4 ∙ h in absurd cc

module _ (s : Start) where
  past_4 : s.height ≡ 5 → s.offsets.items ≡ 0 ∷ 4 ∷ [] → IsFittingOf small_below 4 (Past s)
  past_4 height offsets = (none_within_4, best_at_5 s height offsets)

  -- a start is within 5
  not_past_5 : IsFittingOf small_below 5 (Past s) → ⊥
  not_past_5 h = let e = sym within_5 ∙ h.0 in absurd cc
