-- Brackets of two buffers aligned to four: 7 is their least capacity.
use Rattle.std.proofs.Common.{◌≡◌, ℕ, zero, suc, ◌<◌, ◌≤◌, inl, inr, [], ◌∷◌, slice_get, take, Option, Some, None, refl, sym, ap, ◌∙◌, subst, lit<, lit≤, arith}
use Rattle.dsa_terms.specs.Buffers.{IsInstance, buffer, do_share, floor, have_same_moments, is_live, some_before}
use Rattle.dsa_terms.specs.Claims.{child, Claim, Entry, IsClaim, IsIn, IsWhole, step, up}
use Rattle.dsa_terms.specs.Layouts.{IsLayout}
use Rattle.dsa_terms.specs.Logs.{ends_below, is_stacked, is_twin, IsAccepted, IsLegal, IsOver, Line, Log, Over, rounded, rounding}
use Rattle.dsa_terms.specs.Parts.{is_cut, part_of, parts, searched, is_leader, are_parted, are_uncut}
use Rattle.dsa_terms.specs.Plans.{layout_height}
use Rattle.dsa_terms.specs.Search.{comes_before, first, is_tall}
use Rattle.dsa_terms.proofs.Examples.{two_of_four}
use Rattle.dsa_search_laws.proofs.Parts.{searched_is_layout}
use Rattle.refute_log.specs.Halvings.{halving}
use Rattle.min_capacity.specs.Brackets.{ArePaid, IsBracket, IsShort, LayoutComes, LayoutIsPaid, LogIsPaid, Refutes}
use Rattle.min_capacity.specs.declared.brackets.Bracket.{Bracket}

-- ---- the log of one line at 6
abbrev pub both : Claim
both = (0, 0) ∷ (1, 0) ∷ []

abbrev pub six : Log
six = record { count = 2; capacity = 6; lines = Over ((0, 0) ∷ (1, 0) ∷ []) 0 0 4 ∷ []; final = 0 }

over_six : IsOver two_of_four 6 0 0 4 both
unfolding is_stacked is_live up buffer rounded rounding
over_six = record { modulus = lit≤ tt; from_multiple = refl; some_stacked = λ e. cc; too_high = lit< tt }

both_claim : IsClaim two_of_four both
both_claim = record { rises = (above_0, (above_1, tt)); in_range = ranges }
  where
    above_0 : (y : ℕ) → IsIn y (1 ∷ []) → 0 < y
    above_0 y (inl e) = omega arith
    above_0 y (inr e) = absurd e

    above_1 : (y : ℕ) → IsIn y [] → 1 < y
    above_1 y e = absurd e

    ranges : (e : Entry) → IsIn e both → e.0 < 2
    ranges e (inl h) = let k = ap (λ (f : Entry). f.0) h in omega arith
    ranges e (inr (inl h)) = let k = ap (λ (f : Entry). f.0) h in omega arith
    ranges e (inr (inr h)) = absurd h

six_accepted : IsAccepted two_of_four six
unfolding floor buffer
six_accepted = record { same_count = refl; legal = legal; whole = (Over both 0 0 4, refl, whole) }
  where
    line_legal : IsLegal two_of_four 6 [] (Over both 0 0 4)
    line_legal = record { claim = both_claim; not_empty = λ e. cc; reason = over_six }

    legal : (k : ℕ) (line : Line) → slice_get six.lines k ≡ Some line → IsLegal two_of_four 6 (take k six.lines) line
    legal zero line e = let s : Over both 0 0 4 ≡ line = cc in subst (IsLegal two_of_four 6 []) s line_legal
    legal (suc k) line e = absurd cc

    whole : IsWhole two_of_four both
    whole e (inl h) = rw h (omega arith)
    whole e (inr (inl h)) = rw h (omega arith)
    whole e (inr (inr h)) = absurd h

-- it shows the lower end 7 and no other; without a log the lower end is 0
shows_7 : Refutes two_of_four 7 (Some six)
shows_7 = (six_accepted, refl)

not_6 : Refutes two_of_four 6 (Some six) → ⊥
not_6 h = let e = h.1 in omega arith

not_1 : Refutes two_of_four 1 None → ⊥
not_1 e = omega arith

-- ---- the layout of height 7
two_sound : IsInstance two_of_four
two_sound zero d lt = (lit≤ tt, lit≤ tt, lit< tt)
two_sound (suc zero) d lt = (lit≤ tt, lit≤ tt, lit< tt)
two_sound (suc (suc k)) d lt = absurd (omega arith)

found_at_7 : searched two_of_four 7 ≡ Some (0 ∷ 4 ∷ [])
unfolding searched parts part_of is_leader are_uncut are_parted is_cut first is_tall comes_before ends_below is_twin
    child up step do_share some_before have_same_moments is_live buffer
found_at_7 = refl

laid_at_7 : IsLayout two_of_four 7 (0 ∷ 4 ∷ [])
laid_at_7 = searched_is_layout two_of_four 7 (0 ∷ 4 ∷ []) two_sound found_at_7

seven_high : layout_height two_of_four (0 ∷ 4 ∷ []) ≡ 7
unfolding layout_height buffer
seven_high = refl

-- ---- brackets
pub seven_is_bracket : (b : Bracket) → b.low ≡ 7 → b.high ≡ 7 → b.layout.items ≡ 0 ∷ 4 ∷ [] → b.log ≡ Some six →
    IsBracket two_of_four b
seven_is_bracket b low high layout log = record {
  ordered = omega arith;
  limit = omega arith;
  layout = rw (high, layout) laid_at_7;
  height = ap (layout_height two_of_four) layout ∙ seven_high ∙ sym high;
  log = rw (low, log) shows_7;
}

-- an upper end that is above its layout is none, and ends do not cross
eight_is_none : (b : Bracket) → b.high ≡ 8 → b.layout.items ≡ 0 ∷ 4 ∷ [] → IsBracket two_of_four b → ⊥
eight_is_none b high layout h =
    let k = sym h.height ∙ ap (layout_height two_of_four) layout ∙ seven_high in omega arith

-- a layout that is not the start's was given below the start's upper end
none_from_the_start : (start b : Bracket) → b.layout.items ≡ 0 ∷ 4 ∷ [] → start.layout.items ≡ 4 ∷ 0 ∷ [] →
    start.high ≤ b.high → LayoutComes (λ C a. Unit {0}) start b → ⊥
none_from_the_start start b layout other le (inl e) = let k = sym layout ∙ e ∙ other in cc
none_from_the_start start b layout other le (inr g) = let k = g.1 in let m = g.2 in omega arith

-- ---- what is left, where each capacity takes one unit and none has a layout
abbrev one_unit : ℕ → ℕ
one_unit C = 1

abbrev no_layout : ℕ → Option ℕ
no_layout C = None

two_from_0_to_4 : halving one_unit no_layout 0 4 ≡ 2
unfolding halving
two_from_0_to_4 = refl

one_from_3_to_4 : halving one_unit no_layout 3 4 ≡ 1
unfolding halving
one_from_3_to_4 = refl

-- a unit has raised the lower end of 0, 4 to 3
three_is_short : (start b : Bracket) → start.low ≡ 0 → start.high ≡ 4 → b.low ≡ 3 → b.high ≡ 4 →
    IsShort one_unit no_layout 0 1 start b
three_is_short start b low high at_3 at_4 =
    rw (low, high, at_3, at_4) (let e = two_from_0_to_4 in let f = one_from_3_to_4 in omega arith)

-- the start itself is what is left before a unit is used, and not after one
start_before_a_unit : (start : Bracket) → IsShort one_unit no_layout 0 0 start start
start_before_a_unit start = omega arith

start_after_a_unit : (start : Bracket) → IsShort one_unit no_layout 0 1 start start → ⊥
start_after_a_unit start h = omega (arith, h)

-- ---- a new layout is paid for, and a new log also raises the lower end; both are paid for together
module _ (start b : Bracket) (other : start.layout.items ≡ 4 ∷ 0 ∷ []) (none : start.log ≡ None)
    (layout : b.layout.items ≡ 0 ∷ 4 ∷ []) (log : b.log ≡ Some six) where
  layout_costs_one : {cost : ℕ} → LayoutIsPaid (λ a. 1) cost start b → 1 ≤ cost
  layout_costs_one (inl e) = let k = sym layout ∙ e ∙ other in absurd cc
  layout_costs_one (inr le) = le

  log_costs_one : {cost : ℕ} → LogIsPaid (λ a. 1) cost start b → 1 ≤ cost
  log_costs_one (inl e) = let k = sym log ∙ e ∙ none in absurd cc
  log_costs_one (inr g) = g.3

  unpaid_layout : ArePaid (λ a. 1) 2 2 start b → ⊥
  unpaid_layout h = let k = layout_costs_one h.layout in let p = h.paid in omega arith

  -- a unit pays for one of the two
  one_for_both : ArePaid (λ a. 1) 2 3 start b → ⊥
  one_for_both h =
      let k = layout_costs_one h.layout in let l = log_costs_one h.log in let p = h.paid in omega arith

  two_for_both : start.low < b.low → ArePaid (λ a. 1) 2 4 start b
  two_for_both rises = record {
    layout_cost = 1;
    log_cost = 1;
    layout = inr (lit≤ tt);
    log = inr (six, log, rises, lit≤ tt);
    paid = lit≤ tt;
  }

  log_without_a_rise : b.low ≡ start.low → ArePaid (λ a. 1) 2 4 start b → ⊥
  log_without_a_rise same h = go h.log
    where
      go : {cost : ℕ} → LogIsPaid (λ a. 1) cost start b → ⊥
      go (inl e) = let k = sym log ∙ e ∙ none in cc
      go (inr g) = let k = g.2 in omega (arith, k, same)
