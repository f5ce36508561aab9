-- What plans by size class come to on small instances.
use Rattle.std.proofs.Common.{◌≡◌, ℕ, ◌<◌, ◌≤◌, ◌⊎◌, inl, inr, [], ◌∷◌, refl, sym, true, false, None, Some, arith}
use Rattle.dsa_terms.specs.Bounds.{moments}
use Rattle.dsa_terms.specs.Buffers.{Instance, is_live, buffer}
use Rattle.dsa_terms.specs.Claims.{IsIn}
use Rattle.dsa_terms.specs.Orders.{rises_by}
use Rattle.dsa_terms.specs.Parts.{has}
use Rattle.dsa_terms.specs.Plans.{load}
use Rattle.dsa_terms.proofs.Examples.{five, gapped, plain, two_of_four}
use Rattle.size_classes.specs.Classes.{class_of, in_class, last_class, widest}
use Rattle.size_classes.specs.Plain.{IsPlainAt, first_rough, is_rough}
use Rattle.size_classes.specs.Plans.{class_height, class_offset, class_plan, offset_in, power_height}
use Rattle.size_classes.specs.Pools.{IsEnded, IsFree, IsLeastFree, IsReleased, Pool, pool_of}
use Rattle.size_classes.specs.Slots.{held, in_turn, least_free, live_among, most_live, slot_count, slot_of, slotted}

-- three buffers of two classes: sizes 3 and 4 have class 2, size 1 has class 0
abbrev pub mixed : Instance
mixed = plain 0 2 3 1 ∷ plain 1 3 4 1 ∷ plain 0 1 1 1 ∷ []

-- ---- classes of sizes
class_of_one : class_of 1 ≡ 0
unfolding class_of
class_of_one = refl

class_of_two : class_of 2 ≡ 1
unfolding class_of
class_of_two = refl

class_of_three : class_of 3 ≡ 2
unfolding class_of
class_of_three = refl

class_of_four : class_of 4 ≡ 2
unfolding class_of
class_of_four = refl

class_of_five : class_of 5 ≡ 3
unfolding class_of
class_of_five = refl

mixed_classes : in_class mixed 2 ≡ 0 ∷ 1 ∷ []
unfolding in_class class_of buffer
mixed_classes = refl

mixed_last : last_class mixed ≡ 2
unfolding last_class class_of buffer
mixed_last = refl

mixed_widest : widest mixed (0 ∷ 1 ∷ []) ≡ 4
unfolding widest buffer
mixed_widest = refl

-- ---- slots
-- the least that is not held, wherever the others are
free_between : least_free (2 ∷ 0 ∷ []) ≡ 1
unfolding least_free has
free_between = refl

pub five_in_turn : in_turn five (0 ∷ 1 ∷ 2 ∷ 3 ∷ 4 ∷ []) ≡ 0 ∷ 2 ∷ 4 ∷ 1 ∷ 3 ∷ []
unfolding rises_by buffer
five_in_turn = refl

-- buffer 0 ends where buffer 1 begins
five_held : held five 1 ((0, 0) ∷ (2, 1) ∷ (4, 2) ∷ []) ≡ 1 ∷ 2 ∷ []
unfolding held buffer
five_held = refl

five_slots : slotted five (0 ∷ 2 ∷ 4 ∷ 1 ∷ 3 ∷ []) [] ≡ (0, 0) ∷ (2, 1) ∷ (4, 2) ∷ (1, 0) ∷ (3, 0) ∷ []
unfolding held least_free has buffer
five_slots = refl

five_most : most_live five (0 ∷ 1 ∷ 2 ∷ 3 ∷ 4 ∷ []) ≡ 3
unfolding most_live live_among moments is_live buffer
five_most = refl

five_count : slot_count (0 ∷ 0 ∷ 1 ∷ 0 ∷ 2 ∷ []) ≡ 3
unfolding slot_count
five_count = refl

-- ---- pools
least_that_came_back : IsLeastFree (pool_of [] (2 ∷ 4 ∷ []) 5) 2
least_that_came_back = record { free = inl (inl refl); least = least }
  where
    least : (s : ℕ) → IsFree (pool_of [] (2 ∷ 4 ∷ []) 5) s → 2 ≤ s
    least s (inl (inl e)) = omega arith
    least s (inl (inr (inl e))) = omega arith
    least s (inl (inr (inr z))) = absurd z
    least s (inr le) = omega arith

-- at moment 3 the slot comes back that is in use up to 3, and not the one that is in use up to 9
one_comes_back : IsReleased 3 (pool_of ((3, 0) ∷ (9, 1) ∷ []) [] 2) (pool_of ((9, 1) ∷ []) (0 ∷ []) 2)
one_comes_back = record { count = refl; busy = λ e. (later e, still e); free = λ s. (forth s, back s) }
  where
    old : Pool
    old = pool_of ((3, 0) ∷ (9, 1) ∷ []) [] 2

    now : Pool
    now = pool_of ((9, 1) ∷ []) (0 ∷ []) 2

    later : (e : ℕ × ℕ) → IsIn e now.busy → IsIn e old.busy × (3 < e.0)
    later e (inl q) = (inr (inl q), rw q (omega arith))
    later e (inr z) = absurd z

    still : (e : ℕ × ℕ) → IsIn e old.busy × (3 < e.0) → IsIn e now.busy
    still e (inl q, lt) = absurd (let l : 3 < 3 = rw q at lt in omega arith)
    still e (inr i, lt) = i

    forth : (s : ℕ) → IsFree now s → IsFree old s ⊎ ((e : ℕ × ℕ) × IsIn e old.busy × IsEnded 3 s e)
    forth s (inl (inl q)) = inr ((3, 0), inl refl, record { slot = sym q; ended = omega arith })
    forth s (inl (inr z)) = absurd z
    forth s (inr le) = inl (inr le)

    ended : (s : ℕ) (e : ℕ × ℕ) → IsIn e old.busy → IsEnded 3 s e → IsFree now s
    ended s e (inl q) d = inl (inl (sym (rw q at d.slot)))
    ended s e (inr (inl q)) d = absurd (let l : 9 ≤ 3 = rw q at d.ended in omega arith)
    ended s e (inr (inr z)) d = absurd z

    back : (s : ℕ) → IsFree old s ⊎ ((e : ℕ × ℕ) × IsIn e old.busy × IsEnded 3 s e) → IsFree now s
    back s (inl (inl z)) = absurd z
    back s (inl (inr le)) = inr le
    back s (inr w) = ended s w.0 w.1 w.2

-- ---- the plans
five_plan : class_plan five ≡ 0 ∷ 0 ∷ 4 ∷ 0 ∷ 8 ∷ []
unfolding class_plan class_offset offset_in class_of widest in_class most_live live_among moments slot_of held
    least_free rises_by has is_live buffer
five_plan = refl

five_height : class_height five ≡ 12
unfolding class_height last_class class_of widest in_class most_live live_among moments is_live buffer
five_height = refl

five_load : load five 0 ≡ 12
unfolding load is_live
five_load = refl

-- the buffer of the lesser class stands at 0; the greatest load is 7, at moment 1
mixed_plan : class_plan mixed ≡ 1 ∷ 5 ∷ 0 ∷ []
unfolding class_plan class_offset offset_in class_of widest in_class most_live live_among moments slot_of held
    least_free rises_by has is_live buffer
mixed_plan = refl

mixed_height : class_height mixed ≡ 9
unfolding class_height last_class class_of widest in_class most_live live_among moments is_live buffer
mixed_height = refl

mixed_load : load mixed 1 ≡ 7
unfolding load is_live
mixed_load = refl

-- with two to the power of the class in place of the width it is the same here: 1 + 2 * 4
mixed_powers : power_height mixed ≡ 9
unfolding power_height last_class class_of in_class most_live live_among moments is_live buffer
mixed_powers = refl

-- widths of 3 and 6 that are no powers of two; the last slot has a buffer of size 5, which ends below the height
abbrev narrow : Instance
narrow = plain 0 2 3 1 ∷ plain 0 2 3 1 ∷ plain 0 2 6 1 ∷ plain 0 2 5 1 ∷ []

narrow_plan : class_plan narrow ≡ 0 ∷ 3 ∷ 6 ∷ 12 ∷ []
unfolding class_plan class_offset offset_in class_of widest in_class most_live live_among moments slot_of held
    least_free rises_by has is_live buffer
narrow_plan = refl

narrow_height : class_height narrow ≡ 18
unfolding class_height last_class class_of widest in_class most_live live_among moments is_live buffer
narrow_height = refl

narrow_powers : power_height narrow ≡ 24
unfolding power_height last_class class_of in_class most_live live_among moments is_live buffer
narrow_powers = refl

-- a slot is free again at the moment at which it ends
in_turn_of_one_slot : class_plan (plain 0 2 3 1 ∷ plain 2 3 3 1 ∷ plain 1 2 3 1 ∷ []) ≡ 0 ∷ 0 ∷ 3 ∷ []
unfolding class_plan class_offset offset_in class_of widest in_class most_live live_among moments slot_of held
    least_free rises_by has is_live buffer
in_turn_of_one_slot = refl

-- ---- instances that are not plain
first_of_five_is_plain : IsPlainAt five 0
unfolding buffer
first_of_five_is_plain = (refl, omega arith, refl)

-- aligned to four
aligned_is_not : IsPlainAt two_of_four 0 → ⊥
unfolding buffer
aligned_is_not h = omega (arith, h.1)

gapped_is_not : IsPlainAt (gapped ∷ []) 0 → ⊥
unfolding buffer
gapped_is_not h = let e = h.0 in absurd cc

a_plain_buffer : is_rough (plain 0 3 4 1) ≡ false
a_plain_buffer = refl

an_aligned_buffer : is_rough (plain 0 3 4 2) ≡ true
an_aligned_buffer = refl

a_buffer_with_a_gap : is_rough gapped ≡ true
a_buffer_with_a_gap = refl

two_of_four_is_rough : first_rough two_of_four ≡ Some 0
unfolding first_rough
two_of_four_is_rough = refl

-- a buffer with a gap
gapped_is_rough : first_rough (gapped ∷ []) ≡ Some 0
unfolding first_rough
gapped_is_rough = refl

-- a buffer that may not be at 0
lowered_is_rough : first_rough (plain 0 2 3 1 ∷
    record { lower = 0; upper = 2; size = 3; alignment = 1; gaps = []; lowest = 1 } ∷ [])
    ≡ Some 1
unfolding first_rough
lowered_is_rough = refl

five_is_plain : first_rough five ≡ None
unfolding first_rough
five_is_plain = refl
