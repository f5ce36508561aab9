-- What members, turns, pools and rows come to on small instances.
use Rattle.std.proofs.Common.{◌≡◌, ℕ, zero, suc, ◌<◌, inl, inr, List, [], ◌∷◌, slice_index, refl, sym, arith}
use Rattle.dsa_terms.specs.Buffers.{buffer, is_live}
use Rattle.dsa_terms.specs.Bounds.{moments}
use Rattle.dsa_terms.specs.Claims.{IsIn}
use Rattle.dsa_terms.specs.Orders.{rises_by}
use Rattle.dsa_terms.specs.Parts.{has}
use Rattle.dsa_terms.proofs.Examples.{five}
use Rattle.dsa_terms.proofs.Ranges.{rises-range}
use Rattle.size_classes.specs.Classes.{class_of, in_class, widest}
use Rattle.size_classes.specs.Plain.{HasNoGaps}
use Rattle.size_classes.specs.Plans.{AllOf, AreSetBelow, class_offset, IsPeakLoad, offset_in}
use Rattle.size_classes.specs.Pools.{IsLeastFree, IsPool, IsTaken, IsTakenOut, no_slots, pool_of}
use Rattle.size_classes.specs.Slots.{AreMembers, AreTurns, held, IsSlotting, IsTakenBefore, least_free, live_among, most_live, slot_of, with_slot}
use Rattle.size_classes.proofs.ExampleFacts.{five_in_turn, mixed}
use Rattle.size_classes.proofs.PoolLemmas.{taken, taken_back}
use Rattle.size_classes.proofs.SlotLoop.{are_turns}
use Rattle.size_classes.proofs.SlotsAreLeast.{slots_are_exact}

-- all five buffers
abbrev all : List ℕ
all = 0 ∷ 1 ∷ 2 ∷ 3 ∷ 4 ∷ []

five_members : AreMembers five all
unfolding buffer
five_members = record { rises = rises-range 5 0; each = each }
  where
    each : (b : ℕ) → IsIn b all → (b < 5) × HasNoGaps five b
    each b (inl e) = rw e (omega arith, refl)
    each b (inr (inl e)) = rw e (omega arith, refl)
    each b (inr (inr (inl e))) = rw e (omega arith, refl)
    each b (inr (inr (inr (inl e)))) = rw e (omega arith, refl)
    each b (inr (inr (inr (inr (inl e))))) = rw e (omega arith, refl)
    each b (inr (inr (inr (inr (inr z))))) = absurd z

five_turns : AreTurns five (0 ∷ 2 ∷ 4 ∷ 1 ∷ 3 ∷ [])
five_turns = are_turns five all (0 ∷ 2 ∷ 4 ∷ 1 ∷ 3 ∷ []) five_members (sym five_in_turn)

five_slotting : IsSlotting five all (slot_of five all)
five_slotting = slots_are_exact five all five_members.rises

-- buffer 1 begins where slot 0 comes back
with_one_more : with_slot five ((0, 0) ∷ (2, 1) ∷ (4, 2) ∷ []) 1 ≡ (0, 0) ∷ (2, 1) ∷ (4, 2) ∷ (1, 0) ∷ []
unfolding held least_free has buffer
with_one_more = refl

-- of equal lowers the smaller number comes first
two_before_four : IsTakenBefore five 2 4
unfolding rises_by buffer
two_before_four = refl

-- ---- pools
two_slots : IsPool (pool_of ((9, 1) ∷ []) (0 ∷ []) 2)
two_slots = record {
  busy = λ e i. elim i [ inl q ↦ rw q (omega arith) | inr z ↦ absurd z ];
  free = λ s i. elim i [ inl q ↦ omega arith | inr z ↦ absurd z ];
}

-- no slot is in use, so that the first one that is taken is slot 0
slot_0_is_first : IsLeastFree no_slots 0
slot_0_is_first = record { free = inr (omega arith); least = λ s f. omega arith }

-- slot 0 came back, and can be taken no longer
slot_is_out : IsTakenOut 0 (pool_of ((9, 1) ∷ []) (0 ∷ []) 2) (pool_of ((9, 1) ∷ []) [] 2)
slot_is_out = taken_back 0 2 ((9, 1) ∷ []) (0 ∷ []) [] refl (λ k d lt. absurd (omega arith)) two_slots

-- a new slot, while slot 0 can be taken
not_a_new_slot : IsTakenOut 2 (pool_of ((9, 1) ∷ []) (0 ∷ []) 2) (pool_of ((9, 1) ∷ []) (0 ∷ []) 3) → ⊥
not_a_new_slot h = let k = h.least.least 0 (inl (inl refl)) in omega (arith, k)

-- slot 0 can still be taken
still_to_be_had : IsTakenOut 0 (pool_of ((9, 1) ∷ []) (0 ∷ []) 2) (pool_of ((9, 1) ∷ []) (0 ∷ []) 2) → ⊥
still_to_be_had h = ((h.free 0).0 (inl (inl refl))).1 refl

-- slot 0 came back, and is in use up to 21 now
slot_is_taken : IsTaken 21 0 (pool_of ((9, 1) ∷ []) (0 ∷ []) 2) (pool_of ((9, 1) ∷ (21, 0) ∷ []) [] 2)
slot_is_taken = taken 21 0 (pool_of ((9, 1) ∷ []) (0 ∷ []) 2) (pool_of ((9, 1) ∷ []) [] 2) ((9, 1) ∷ (21, 0) ∷ [])
    slot_is_out refl refl

-- ---- plans
load_of_none : IsPeakLoad [] 0
load_of_none = record { none = λ e. refl; some = λ t p. absurd (p.not_empty refl) }

five_of_four : AllOf five 4
unfolding buffer
five_of_four zero lt = refl
five_of_four (suc zero) lt = refl
five_of_four (suc (suc zero)) lt = refl
five_of_four (suc (suc (suc zero))) lt = refl
five_of_four (suc (suc (suc (suc zero)))) lt = refl
five_of_four (suc (suc (suc (suc (suc b))))) lt = absurd (omega arith)

-- buffer 2 alone is of a class below 1
mixed_below_one : AreSetBelow mixed 1 (0 ∷ 0 ∷ 0 ∷ [])
unfolding class_offset offset_in class_of widest in_class most_live live_among moments slot_of held least_free rises_by
    has is_live buffer
mixed_below_one = record { count = refl; each = each }
  where
    each : (b : ℕ) → b < 3 → class_of (buffer mixed b).size < 1 → slice_index (0 ∷ 0 ∷ 0 ∷ []) b ≡ class_offset mixed b
    each zero lt l = absurd (omega arith)
    each (suc zero) lt l = absurd (omega arith)
    each (suc (suc zero)) lt l = refl
    each (suc (suc (suc b))) lt l = absurd (omega arith)
