-- What is found where claims are opened of a buffer of size 3 and one of size 1 that stands at multiples of 4 alone.
use Rattle.std.proofs.Common.{◌≡◌, ℕ, List, [], ◌∷◌, refl, sym, ◌∙◌}
use Rattle.search_core.proofs.Words.{buffer, have_same_moments, is_live, some_before, up, Line, ends_below, is_twin, comes_before, first, small_below}
use Rattle.claim_levels.proofs.LevelFacts.{rest, root}
use Rattle.branching.proofs.KnownFacts.{rest_known, root_layout}
use Rattle.branching.proofs.OverFacts.{over}
use Rattle.branching.proofs.TryFacts.{choices_of_root}
use Rattle.search_core.specs.Opened.{IfChoices, IsOpened, left_open}
use Rattle.search_core.specs.declared.opening.Opened.TheVariants as opened

-- ---- what is found
opens_root : IsOpened small_below 4 [] root opened.Choices
unfolding comes_before ends_below is_twin have_same_moments some_before is_live up buffer
opens_root = choices_of_root

no_choices_of_nothing : (lines : List Line) → IsOpened small_below 4 lines [] opened.Choices → ⊥
no_choices_of_nothing lines h = h.not_empty refl

line_for_rest : IsOpened small_below 4 (over ∷ []) rest (opened.Line 0)
line_for_rest = rest_known

no_line_for_root : (lines : List Line) (k : ℕ) → IsOpened small_below 4 lines root (opened.Line k) → ⊥
no_line_for_root lines k h = let e = sym root_layout ∙ h.none in absurd cc

nothing_in_it : IsOpened small_below 4 [] [] opened.Empty
unfolding first
nothing_in_it = refl

root_is_not_empty : IsOpened small_below 4 [] root opened.Empty → ⊥
root_is_not_empty h = let e = sym root_layout ∙ h in absurd cc

-- ---- facts that hold where there are choices
holds_with_choices : IfChoices ⊥ opened.Choices → ⊥
holds_with_choices h = h

nothing_with_line : IfChoices ⊥ (opened.Line 0)
nothing_with_line = tt

nothing_when_empty : IfChoices ⊥ opened.Empty
nothing_when_empty = tt

-- ---- claims that are left to have a line
one_to_be_tried : left_open opened.Choices ≡ 1
one_to_be_tried = refl

none_with_line : left_open (opened.Line 0) ≡ 0
none_with_line = refl

none_when_empty : left_open opened.Empty ≡ 0
none_when_empty = refl
