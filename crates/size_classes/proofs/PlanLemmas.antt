-- The plan by size class is a layout at its height.
use Rattle.std.proofs.Common.{◌≡◌, ◌≢◌, ℕ, zero, suc, ◌+◌, ◌*◌, ◌%◌, ◌^◌, ◌<◌, ◌≤◌, ◌⊎◌, inl, inr, ◌==◌, length, map, slice_index, refl, sym, subst, arith, mul-le-mul_left, mul-suc}
use Rattle.std.proofs.Math.Nat.{mul-le-mul_right, mod-one}
use Rattle.std.proofs.lemmas.List.FromFn.{get_or-map-range_with_len, length-map-range_with_len}
use Rattle.dsa_terms.specs.Buffers.{Instance, buffer, IsInstance, IsLive}
use Rattle.dsa_terms.specs.Claims.{IsIn, Rises}
use Rattle.dsa_terms.specs.Layouts.{IsApart, IsLayout}
use Rattle.dsa_terms.specs.Parts.{numbers}
use Rattle.dsa_terms.proofs.Lists.{from_filter, from_map, greatest_under, into_filter}
use Rattle.dsa_terms.proofs.Moments.{sound}
use Rattle.dsa_terms.proofs.NumberTests.{equal, same}
use Rattle.dsa_terms.proofs.Ranges.{among, below, rises-filter_numbers, rises-range}
use Rattle.dsa_search_laws.proofs.Logs.{in_greatest}
use Rattle.size_classes.specs.Classes.{class_of, count, in_class, last_class, widest, width}
use Rattle.size_classes.specs.Plain.{IsPlain}
use Rattle.size_classes.specs.Plans.{class_height, class_offset, class_plan, offset_in, power_height, powers_below, start_of}
use Rattle.size_classes.specs.Slots.{AreMembers, slot_of}
use Rattle.size_classes.proofs.Powers.{size_fits}
use Rattle.size_classes.proofs.SlotLemmas.{one_slot_is_apart, slots_are_few}

-- ---- the members of a class
pub from_class : (I : Instance) (k b : ℕ) → IsIn b (in_class I k) → (b < length I) × (class_of (buffer I b).size ≡ k)
unfolding in_class
from_class I k b i =
    let r = from_filter (λ b. class_of (buffer I b).size == k) (numbers (length I)) b i in
    (below (length I) b r.0, equal (class_of (buffer I b).size) k r.1)

pub into_class : (I : Instance) (k b : ℕ) → b < length I → class_of (buffer I b).size ≡ k → IsIn b (in_class I k)
unfolding in_class
into_class I k b lt e =
    into_filter (λ b. class_of (buffer I b).size == k) (numbers (length I)) b (among (length I) b lt)
    (same (class_of (buffer I b).size) k e)

class_rises : (I : Instance) (k : ℕ) → Rises (in_class I k)
unfolding in_class
class_rises I k =
    rises-filter_numbers (λ b. class_of (buffer I b).size == k) (numbers (length I)) (rises-range (length I) 0)

pub class_members : (I : Instance) (k : ℕ) → IsPlain I → AreMembers I (in_class I k)
class_members I k p = record {
  rises = class_rises I k;
  each = λ d i. let r = from_class I k d i in (r.0, (p d r.0).0);
}

pub under_width : (I : Instance) (k b : ℕ) → IsIn b (in_class I k) → (buffer I b).size ≤ width I k
unfolding widest
under_width I k b i = in_greatest (λ b. (buffer I b).size) (in_class I k) b i

-- ---- where classes start
start_grows : (I : Instance) (k j : ℕ) → k ≤ j → start_of I k ≤ start_of I j
start_grows I k zero le = let e : k ≡ 0 = omega arith in rw e (omega arith)
start_grows I k (suc j) le = go (start_grows I k j) (cases k j le)
  where
    cases : (k j : ℕ) → k ≤ suc j → (k ≤ j) ⊎ (k ≡ suc j)
    cases k j h = grind arith

    go : (k ≤ j → start_of I k ≤ start_of I j) → (k ≤ j) ⊎ (k ≡ suc j) → start_of I k ≤ start_of I (suc j)
    go ih (inl l) = let m = ih l in omega arith
    go ih (inr e) = rw e (omega arith)

-- ---- a buffer in its class
starts_there : (I : Instance) (k b : ℕ) → start_of I k ≤ offset_in I k b
unfolding offset_in
starts_there I k b = omega arith

ends_there : (I : Instance) (k b : ℕ) → IsInstance I → IsPlain I → IsIn b (in_class I k) →
    offset_in I k b + (buffer I b).size ≤ start_of I (suc k)
unfolding offset_in
ends_there I k b s p i =
    let few = slots_are_few I (in_class I k) b s (class_members I k p) i in
    let w = under_width I k b i in
    let m : width I k * suc (slot_of I (in_class I k) b) ≤ width I k * count I k =
    mul-le-mul_left (width I k) (omega arith) in
    let e = mul-suc (width I k) (slot_of I (in_class I k) b) in
    omega arith

next_to : (I : Instance) (k b c : ℕ) → IsIn b (in_class I k) →
    slot_of I (in_class I k) b < slot_of I (in_class I k) c → offset_in I k b + (buffer I b).size ≤ offset_in I k c
unfolding offset_in
next_to I k b c i lt =
    let w = under_width I k b i in
    let m : width I k * suc (slot_of I (in_class I k) b) ≤ width I k * slot_of I (in_class I k) c =
    mul-le-mul_left (width I k) (omega arith) in
    let e = mul-suc (width I k) (slot_of I (in_class I k) b) in
    omega arith

-- ---- the plan
plan_at : (I : Instance) (b : ℕ) → b < length I → slice_index (class_plan I) b ≡ class_offset I b
unfolding class_plan
plan_at I b lt = get_or-map-range_with_len (class_offset I) 0 (length I) b b 0 lt (omega arith)

offset_is : (I : Instance) (b : ℕ) → class_offset I b ≡ offset_in I (class_of (buffer I b).size) b
unfolding class_offset
offset_is I b = refl

plan_count : (I : Instance) → length (class_plan I) ≡ length I
unfolding class_plan
plan_count I = length-map-range_with_len (class_offset I) 0 (length I)

pub under_last : (I : Instance) (b : ℕ) → b < length I → class_of (buffer I b).size ≤ last_class I
unfolding last_class
under_last I b lt = in_greatest (λ b. class_of (buffer I b).size) (numbers (length I)) b (among (length I) b lt)

height_is : (I : Instance) → class_height I ≡ start_of I (suc (last_class I))
unfolding class_height
height_is I = refl

pub plan_is_layout : (I : Instance) → IsInstance I → IsPlain I → IsLayout I (class_height I) (class_plan I)
plan_is_layout I s p = record {
  count = plan_count I;
  aligned = λ b lt. one_multiple (slice_index (class_plan I) b) (buffer I b).alignment (p b lt).1 (sound I b s).1;
  above = λ b lt. let q = (p b lt).2 in omega arith;
  within = λ b lt. let e = plan_at I b lt in let f = offset_is I b in let z = ends b lt in
      let g = start_grows I (suc (class_of (buffer I b).size)) (suc (last_class I))
      (let u = under_last I b lt in omega arith) in
      let h = height_is I in omega arith;
  apart = λ b c t lb lc ne x y. rw (plan_at I b lb, plan_at I c lc, offset_is I b, offset_is I c)
      (both b c t lb lc ne x y (three (class_of (buffer I b).size) (class_of (buffer I c).size)));
}
  where
    one_multiple : (x a : ℕ) → a ≤ 1 → 1 ≤ a → x % a ≡ 0
    one_multiple x a le ge = let e : a ≡ 1 = omega arith in rw e (mod-one x)

    three : (m n : ℕ) → (m < n) ⊎ ((n < m) ⊎ (m ≡ n))
    three m n = grind arith

    own : (b : ℕ) → b < length I → IsIn b (in_class I (class_of (buffer I b).size))
    own b lt = into_class I (class_of (buffer I b).size) b lt refl

    ends : (b : ℕ) → b < length I → offset_in I (class_of (buffer I b).size) b + (buffer I b).size
        ≤ start_of I (suc (class_of (buffer I b).size))
    ends b lt = ends_there I (class_of (buffer I b).size) b s p (own b lt)

    below_class : (b c : ℕ) → b < length I → class_of (buffer I b).size < class_of (buffer I c).size →
        offset_in I (class_of (buffer I b).size) b + (buffer I b).size ≤ offset_in I (class_of (buffer I c).size) c
    below_class b c lb lt =
        let z = ends b lb in
        let g = start_grows I (suc (class_of (buffer I b).size)) (class_of (buffer I c).size) (omega arith) in
        let o = starts_there I (class_of (buffer I c).size) c in omega arith

    in_one : (k b c t : ℕ) → IsIn b (in_class I k) → IsIn c (in_class I k) → b ≢ c → IsLive (buffer I b) t →
        IsLive (buffer I c) t →
        (slot_of I (in_class I k) b < slot_of I (in_class I k) c)
        ⊎ ((slot_of I (in_class I k) c < slot_of I (in_class I k) b)
        ⊎ (slot_of I (in_class I k) b ≡ slot_of I (in_class I k) c)) →
        IsApart (buffer I b) (offset_in I k b) (buffer I c) (offset_in I k c)
    in_one k b c t i j ne x y (inl lt) = inl (next_to I k b c i lt)
    in_one k b c t i j ne x y (inr (inl lt)) = inr (next_to I k c b j lt)
    in_one k b c t i j ne x y (inr (inr e)) =
        absurd (one_slot_is_apart I (in_class I k) b c t s (class_members I k p) i j ne e x y)

    both : (b c t : ℕ) → b < length I → c < length I → b ≢ c → IsLive (buffer I b) t → IsLive (buffer I c) t →
        (class_of (buffer I b).size < class_of (buffer I c).size)
        ⊎ ((class_of (buffer I c).size < class_of (buffer I b).size)
        ⊎ (class_of (buffer I b).size ≡ class_of (buffer I c).size)) →
        IsApart (buffer I b) (offset_in I (class_of (buffer I b).size) b) (buffer I c)
        (offset_in I (class_of (buffer I c).size) c)
    both b c t lb lc ne x y (inl lt) = inl (below_class b c lb lt)
    both b c t lb lc ne x y (inr (inl lt)) = inr (below_class c b lc lt)
    both b c t lb lc ne x y (inr (inr e)) =
        subst (λ (k : ℕ). IsApart (buffer I b) (offset_in I (class_of (buffer I b).size) b) (buffer I c)
        (offset_in I k c)) e
        (in_one (class_of (buffer I b).size) b c t (own b lb)
        (into_class I (class_of (buffer I b).size) c lc (sym e)) ne x y
        (three (slot_of I (in_class I (class_of (buffer I b).size)) b)
        (slot_of I (in_class I (class_of (buffer I b).size)) c)))

-- ---- two to the power of each class
pub width_under : (I : Instance) (k : ℕ) → width I k ≤ 2 ^ k
unfolding widest
width_under I k = greatest_under (map (λ b. (buffer I b).size) (in_class I k)) (2 ^ k) each
  where
    each : (x : ℕ) → IsIn x (map (λ b. (buffer I b).size) (in_class I k)) → x ≤ 2 ^ k
    each x i =
        let r = from_map (λ b. (buffer I b).size) (in_class I k) x i in
        let e = (from_class I k r.0 r.1).1 in
        let f = size_fits (buffer I r.0).size in
        let g : (buffer I r.0).size ≤ 2 ^ k = rw e at f in
        let h = r.2 in omega arith

starts_under : (I : Instance) (k : ℕ) → start_of I k ≤ powers_below I k
starts_under I zero = omega arith
starts_under I (suc k) =
    let ih = starts_under I k in
    let m : width I k * count I k ≤ 2 ^ k * count I k = mul-le-mul_right (count I k) (width_under I k) in omega arith

pub under_powers : (I : Instance) → class_height I ≤ power_height I
unfolding class_height power_height
under_powers I = starts_under I (suc (last_class I))
