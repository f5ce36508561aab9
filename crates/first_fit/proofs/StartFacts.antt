-- Starts of two buffers aligned to four, of which one stands on the other.
use Rattle.std.proofs.Common.{◌≡◌, ◌<◌, ℕ, zero, suc, [], ◌∷◌, Some, refl, sym, ap, subst, ◌∙◌, lit<, lit≤, arith}
use Rattle.dsa_terms.specs.Buffers.{IsInstance, buffer, do_share, have_same_moments, is_live, some_before}
use Rattle.dsa_terms.specs.Claims.{child, step, up}
use Rattle.dsa_terms.specs.Layouts.{IsLayout}
use Rattle.dsa_terms.specs.Logs.{ends_below, is_twin}
use Rattle.dsa_terms.specs.Parts.{is_cut, part_of, parts, searched, is_leader, are_parted, are_uncut}
use Rattle.dsa_terms.specs.Plans.{layout_height}
use Rattle.dsa_terms.specs.Search.{comes_before, first, is_tall}
use Rattle.dsa_terms.proofs.Examples.{two_of_four}
use Rattle.dsa_search_laws.proofs.Parts.{searched_is_layout}
use Rattle.first_fit.specs.Starts.{IsStart, height_in, offsets_at, offsets_in}
use Rattle.first_fit.specs.declared.start_list.Start.{Start}

two_sound : IsInstance two_of_four
two_sound zero d lt = (lit≤ tt, lit≤ tt, lit< tt)
two_sound (suc zero) d lt = (lit≤ tt, lit≤ tt, lit< tt)
two_sound (suc (suc k)) d lt = absurd (omega arith)

found_at_7 : searched two_of_four 7 ≡ Some (0 ∷ 4 ∷ [])
unfolding searched parts part_of is_leader are_uncut are_parted is_cut first is_tall comes_before ends_below is_twin
    child up step do_share some_before have_same_moments is_live buffer
found_at_7 = refl

seven_high : layout_height two_of_four (0 ∷ 4 ∷ []) ≡ 7
unfolding layout_height buffer
seven_high = refl

seven_is_start : (s : Start) → s.height ≡ 7 → s.offsets.items ≡ 0 ∷ 4 ∷ [] → IsStart two_of_four s
seven_is_start s height offsets = record {
  height = height ∙ sym (ap (layout_height two_of_four) offsets ∙ seven_high);
  limit = rw height (lit< tt);
  layout = rw (height, offsets) (searched_is_layout two_of_four 7 (0 ∷ 4 ∷ []) two_sound found_at_7);
}

-- the layout fits within 8 too, and is 7 high
eight_is_none : (s : Start) → s.height ≡ 8 → s.offsets.items ≡ 0 ∷ 4 ∷ [] → IsStart two_of_four s → ⊥
eight_is_none s height offsets h =
    let k = h.height ∙ ap (layout_height two_of_four) offsets ∙ seven_high in omega arith

-- right on top of the other, at 3, the second one is not aligned
unaligned : (C : ℕ) → IsLayout two_of_four C (0 ∷ 3 ∷ []) → ⊥
unfolding buffer
unaligned C l = apart 3 0 (lit< tt) (l.aligned 1 (lit< tt))
  where
    apart : (m n : ℕ) → n < m → m ≡ n → ⊥
    apart m n lt e = omega arith

three_is_none : (s : Start) → s.offsets.items ≡ 0 ∷ 3 ∷ [] → IsStart two_of_four s → ⊥
three_is_none s offsets h = unaligned s.height (subst (IsLayout two_of_four s.height) offsets h.layout)

-- ---- offsets and heights of several starts
module _ (s t : Start) where
  offsets_of_one : offsets_in s ≡ s.offsets.items
  offsets_of_one = refl

  height_of_one : height_in s ≡ s.height
  height_of_one = refl

  offsets_of_first : offsets_at (s ∷ t ∷ []) 0 ≡ s.offsets.items
  offsets_of_first = refl

  offsets_of_second : offsets_at (s ∷ t ∷ []) 1 ≡ t.offsets.items
  offsets_of_second = refl

  none_past_the_last : offsets_at (s ∷ t ∷ []) 2 ≡ []
  none_past_the_last = refl
