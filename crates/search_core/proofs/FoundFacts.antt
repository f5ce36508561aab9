-- What is found of a buffer of size 3 beside one of size 1 that stands at multiples of 4 alone, within 4: a layout of
-- both, and none of the second one at 3 or above.
use Rattle.std.proofs.Common.{◌≡◌, ℕ, List, [], ◌∷◌, Option, Some, None, sym, ap, ◌∙◌, arith}
use Rattle.std.specs.Global.{Vec}
use Rattle.search_core.proofs.Words.{Entry, Line, small_below}
use Rattle.claim_levels.proofs.LevelFacts.{differ, rest, root}
use Rattle.branching.proofs.OverFacts.{over}
use Rattle.branching.proofs.KnownFacts.{root_layout, rest_has_none, rest_covered}
use Rattle.search_core.specs.Found.{IsFound}
use Rattle.search_core.specs.declared.found.Found.TheVariants as found

abbrev first_offset : Option (List Entry) → ℕ
first_offset None = 0
first_offset (Some []) = 0
first_offset (Some (e ∷ es)) = e.1

module _ (lines : List Line) (seats : Vec (ℕ × ℕ)) where
  both_found : seats.items ≡ (0, 1) ∷ (1, 0) ∷ [] → IsFound small_below 4 root lines (found.Seats seats)
  both_found e = root_layout ∙ ap Some (sym e)

  -- with buffer 0 below, the other one ends at 5
  not_the_other_way : seats.items ≡ (0, 0) ∷ (1, 4) ∷ [] → IsFound small_below 4 root lines (found.Seats seats) → ⊥
  not_the_other_way e h = differ 0 1 (omega arith) (sym (ap first_offset (sym root_layout ∙ h ∙ ap Some e)))

  no_seats_for_rest : IsFound small_below 4 rest lines (found.Seats seats) → ⊥
  no_seats_for_rest h = let q = sym rest_has_none ∙ h in absurd cc

line_found : IsFound small_below 4 rest (over ∷ []) (found.Line 0)
line_found = (rest_has_none, rest_covered)

no_line_for_root : (lines : List Line) (k : ℕ) → IsFound small_below 4 root lines (found.Line k) → ⊥
no_line_for_root lines k h = let e = sym root_layout ∙ h.0 in absurd cc
