-- Rows of slots: how far they reach, and the offsets in them.
use Rattle.std.proofs.Common.{◌≡◌, ℕ, zero, suc, ◌+◌, ◌-◌, ◌*◌, ◌^◌, ◌<◌, ◌≤◌, ◌⊎◌, inl, inr, Bool, true, false, ◌==◌, List, length, map, slice_index, slice_index_or, slice_set, refl, sym, ap, ◌∙◌, arith, add-one, mul-le-mul_left}
use Rattle.std.proofs.Math.Nat.{mul-le-mul, pow-succ'}
use Rattle.std.proofs.Math.Pow.{pow_mono}
use Rattle.std.proofs.lemmas.List.{get_or-map, get_or-set_other, get_or-set_same, length-map, length-set}
use Rattle.std.proofs.lemmas.List.FromFn.{fill_by_all, length-range_with_len}
use Rattle.std.specs.List.{All}
use Rattle.dsa_terms.specs.Buffers.{Instance, buffer, is_live, IsInstance}
use Rattle.dsa_terms.specs.Bounds.{moments}
use Rattle.dsa_terms.specs.Claims.{IsIn}
use Rattle.dsa_terms.specs.Parts.{numbers}
use Rattle.dsa_terms.proofs.Lists.{from_map, greatest_under, length-filter_le}
use Rattle.dsa_terms.proofs.NumberTests.{differ, equal}
use Rattle.dsa_terms.proofs.Places.{all_from_in, any_default, in_at, place_of}
use Rattle.dsa_terms.proofs.Ranges.{below}
use Rattle.dsa_model.specs.Buffer.{IsBuffer}
use Rattle.dsa_model.proofs.Instances.{sound_buffer}
use Rattle.size_classes.specs.Classes.{class_of, count, in_class, last_class, widest, width}
use Rattle.size_classes.specs.Plain.{IsPlain}
use Rattle.size_classes.specs.Plans.{AreSetBelow, class_height, class_offset, class_plan, offset_in, start_of}
use Rattle.size_classes.specs.Slots.{live_among, most_live, slot_count, slot_of}
use Rattle.size_classes.proofs.CountLemmas.{count_is, under_count}
use Rattle.size_classes.proofs.PlanLemmas.{class_members, from_class, into_class, under_last, width_under}
use Rattle.size_classes.proofs.SizeLemmas.{class_limit}

-- ---- how far the rows reach
most_is_few : (I : Instance) (members : List ℕ) → most_live I members ≤ length members
unfolding most_live live_among
most_is_few I members = greatest_under (map (λ t. length (live_among I members t)) (moments I)) (length members) (λ x i.
    let r = from_map (λ t. length (live_among I members t)) (moments I) x i in
    let k = length-filter_le (λ b. is_live (buffer I b) r.0) members in let f = r.2 in omega arith)

count_is_few : (I : Instance) (k : ℕ) → count I k ≤ length I
unfolding in_class
count_is_few I k =
    let a = most_is_few I (in_class I k) in
    let b = length-filter_le (λ b. class_of (buffer I b).size == k) (numbers (length I)) in
    let e = length-range_with_len 0 (length I) in omega arith

start_limit : (I : Instance) (k : ℕ) → start_of I k ≤ length I * 2 ^ k
start_limit I zero = omega arith
start_limit I (suc k) =
    let ih = start_limit I k in
    let m : width I k * count I k ≤ 2 ^ k * length I =
    mul-le-mul {n₁ = width I k} {m₁ = count I k} {n₂ = 2 ^ k} {m₂ = length I} (width_under I k) (count_is_few I k) in
    let p : length I * 2 ^ suc k ≡ length I * (2 * 2 ^ k) = ap (λ n. length I * n) (pow-succ' 2 k) in
    omega arith

-- no row of an instance of so many buffers ends above 2^53
pub row_limit : (I : Instance) (k : ℕ) → length I ≤ 2 ^ 12 → k ≤ 40 → start_of I (k + 1) ≤ 2 ^ 53
row_limit I k few le =
    let s = start_limit I (k + 1) in
    let m : length I * 2 ^ (k + 1) ≤ 2 ^ 12 * 2 ^ 41 =
    mul-le-mul {n₁ = length I} {m₁ = 2 ^ (k + 1)} {n₂ = 2 ^ 12} {m₂ = 2 ^ 41} few
    (pow_mono {j = 41} (let l : k + 1 ≤ 41 = omega arith in l)) in
    omega arith

-- ---- one row
pub row_end : (I : Instance) (k start w n : ℕ) (members slots : List ℕ) → IsInstance I → IsPlain I →
    start ≡ start_of I k → members ≡ in_class I k → w ≡ widest I members → slots ≡ map (slot_of I members) members →
    n ≡ slot_count slots → start + w * n ≡ start_of I (k + 1)
row_end I k start w n members slots s p at e f g h =
    rw (at, add-one k, width_is, count_is_n) refl
  where
    width_is : w ≡ width I k
    width_is = f ∙ ap (widest I) e

    count_is_n : n ≡ count I k
    count_is_n = h ∙ count_is I (in_class I k) slots s (class_members I k p) (rw (← e) g)

-- a slot of a row is below its count
pub row_room : (start w n s : ℕ) (slots : List ℕ) (m : ℕ) → n ≡ slot_count slots → m < length slots →
    s ≡ slice_index slots m → start + w * s ≤ start + w * n
row_room start w n s slots m e lt f =
    let k = under_count slots (slice_index slots m) (in_at slots m 0 lt) in
    let l : w * s ≤ w * n = mul-le-mul_left w (omega arith) in omega arith

pub class_in_range : (I : Instance) (k : ℕ) (members : List ℕ) → members ≡ in_class I k →
    All (λ b. b < length I) members
class_in_range I k members e = rw e (all_from_in (λ b. b < length I) (in_class I k) (λ b i. (from_class I k b i).0))

-- an item as it is read
pub read_is : (xs : List ℕ) (i x : ℕ) → i < length xs → x ≡ slice_index_or xs i x → x ≡ slice_index xs i
read_is xs i x lt e = e ∙ any_default xs i x 0 lt

pub as_many : (I : Instance) (members slots : List ℕ) (m : ℕ) → slots ≡ map (slot_of I members) members →
    m < length members → m < length slots
as_many I members slots m g lt = rw g (rw (length-map members (slot_of I members)) lt)

pub row_fits : (I : Instance) (k start w s m : ℕ) (members slots : List ℕ) → IsInstance I → IsPlain I →
    length I ≤ 2 ^ 12 → k ≤ 40 → start ≡ start_of I k → members ≡ in_class I k → w ≡ widest I members →
    slots ≡ map (slot_of I members) members → m < length members → s ≡ slice_index_or slots m s → start + w * s ≤ 2 ^ 53
row_fits I k start w s m members slots sound p few le at e f g lt get =
    let long = as_many I members slots m g lt in
    let r = row_room start w (slot_count slots) s slots m refl long (read_is slots m s long get) in
    let q = row_end I k start w (slot_count slots) members slots sound p at e f g refl in
    let l = row_limit I k few le in omega arith

-- ---- the offsets of a row
pub record AreSetUpTo (I : Instance) (k : ℕ) (members : List ℕ) (m : ℕ) (offsets : List ℕ) : Type 0 where
  pub below : AreSetBelow I k offsets
  done : (j : ℕ) → j < m → slice_index offsets (slice_index members j) ≡ class_offset I (slice_index members j)

pub set_none : (I : Instance) (k : ℕ) (members offsets : List ℕ) → AreSetBelow I k offsets →
    AreSetUpTo I k members 0 offsets
set_none I k members offsets h = record { below = h; done = λ j lt. absurd (omega arith) }

offset_is : (I : Instance) (k b : ℕ) → IsIn b (in_class I k) → class_offset I b ≡ offset_in I k b
unfolding class_offset
offset_is I k b i = ap (λ j. offset_in I j b) (from_class I k b i).1

kept_or_own : (I : Instance) (offsets : List ℕ) (b x c : ℕ) → b < length offsets → x ≡ class_offset I b →
    slice_index offsets c ≡ class_offset I c → slice_index (slice_set offsets b x) c ≡ class_offset I c
kept_or_own I offsets b x c lt e h = go (b == c) refl
  where
    go : (t : Bool) → (b == c) ≡ t → slice_index (slice_set offsets b x) c ≡ class_offset I c
    go true q = rw (← equal b c q) (get_or-set_same offsets b x 0 lt ∙ e)
    go false q = get_or-set_other offsets b c x 0 (λ f. differ b c q (sym f)) ∙ h

own_is_set : (I : Instance) (offsets : List ℕ) (b x : ℕ) → b < length offsets → x ≡ class_offset I b →
    slice_index (slice_set offsets b x) b ≡ class_offset I b
own_is_set I offsets b x lt e = get_or-set_same offsets b x 0 lt ∙ e

pub set_more : (I : Instance) (k start w s b m x : ℕ) (members slots offsets now : List ℕ) → start ≡ start_of I k →
    members ≡ in_class I k → w ≡ widest I members → slots ≡ map (slot_of I members) members → m < length members →
    b ≡ slice_index members m → s ≡ slice_index slots m → x ≡ start + w * s → now ≡ slice_set offsets b x →
    AreSetUpTo I k members m offsets → AreSetUpTo I k members (m + 1) now
unfolding offset_in
set_more I k start w s b m x members slots offsets now at e f g lt is get off set h = rw set (record {
  below = record {
    count = length-set offsets b x ∙ h.below.count;
    each = λ c cn l. kept_or_own I offsets b x c long value (h.below.each c cn l);
  };
  done = λ j l. each j (cases j l);
})
  where
    among : IsIn b (in_class I k)
    among = rw (is, ← e) (in_at members m 0 lt)

    long : b < length offsets
    long = let l = (from_class I k b among).0 in let c = h.below.count in omega arith

    slot_is : s ≡ slot_of I (in_class I k) b
    slot_is = get ∙ rw (g, is, ← e) (get_or-map (slot_of I members) members m 0 0 lt)

    value : x ≡ class_offset I b
    value = off ∙ rw (at, f, e, slot_is) (sym (offset_is I k b among))

    cases : (j : ℕ) → j < m + 1 → (j < m) ⊎ (j ≡ m)
    cases j l = grind arith

    each : (j : ℕ) → (j < m) ⊎ (j ≡ m) →
        slice_index (slice_set offsets b x) (slice_index members j) ≡ class_offset I (slice_index members j)
    each j (inl l) = kept_or_own I offsets b x (slice_index members j) long value (h.done j l)
    each j (inr q) = rw (q, ← is) (own_is_set I offsets b x long value)

pub set_done : (I : Instance) (k m : ℕ) (members offsets : List ℕ) → members ≡ in_class I k → length members ≤ m →
    AreSetUpTo I k members m offsets → AreSetBelow I (k + 1) offsets
set_done I k m members offsets e le h = record {
  count = h.below.count;
  each = λ b bn l. each b bn (cases (class_of (buffer I b).size) l);
}
  where
    cases : (j : ℕ) → j < k + 1 → (j < k) ⊎ (j ≡ k)
    cases j l = grind arith

    each : (b : ℕ) → b < length I → (class_of (buffer I b).size < k) ⊎ (class_of (buffer I b).size ≡ k) →
        slice_index offsets b ≡ class_offset I b
    each b bn (inl l) = h.below.each b bn l
    each b bn (inr q) =
        let i : IsIn b members = rw e (into_class I k b bn q) in
        let w = place_of members b 0 i in
        rw w.2 at (h.done w.0 (let l = w.1 in omega arith))

-- ---- all rows
none_is_wide : (I : Instance) (k : ℕ) → last_class I < k → width I k ≤ 0
unfolding widest
none_is_wide I k lt = greatest_under (map (λ b. (buffer I b).size) (in_class I k)) 0 (λ x i.
    let r = from_map (λ b. (buffer I b).size) (in_class I k) x i in
    let c = from_class I k r.0 r.1 in
    let u = under_last I r.0 c.0 in let e = c.1 in absurd (omega arith))

past_last : (I : Instance) (n : ℕ) → start_of I (suc (last_class I) + n) ≡ start_of I (suc (last_class I))
past_last I zero = rw (plus_zero (suc (last_class I))) refl
  where
    plus_zero : (n : ℕ) → n + 0 ≡ n
    plus_zero n = omega arith
past_last I (suc n) = rw (next (last_class I) n) (close (past_last I n) nothing)
  where
    next : (m n : ℕ) → suc m + suc n ≡ suc (suc m + n)
    next m n = omega arith

    nothing : width I (suc (last_class I) + n) * count I (suc (last_class I) + n) ≡ 0
    nothing =
        let w = none_is_wide I (suc (last_class I) + n) (omega arith) in
        let e : width I (suc (last_class I) + n) ≡ 0 = omega arith in
        rw e (zero_times (count I (suc (last_class I) + n)))
      where
        zero_times : (m : ℕ) → 0 * m ≡ 0
        zero_times m = omega arith

    close : start_of I (suc (last_class I) + n) ≡ start_of I (suc (last_class I)) →
        width I (suc (last_class I) + n) * count I (suc (last_class I) + n) ≡ 0 →
        start_of I (suc (last_class I) + n) + width I (suc (last_class I) + n) * count I (suc (last_class I) + n)
        ≡ start_of I (suc (last_class I))
    close p q = omega arith

last_limit : (I : Instance) → All IsBuffer I → last_class I ≤ 40
unfolding last_class
last_limit I all = greatest_under (map (λ b. class_of (buffer I b).size) (numbers (length I))) 40 (λ x i.
    let r = from_map (λ b. class_of (buffer I b).size) (numbers (length I)) x i in
    let k = class_limit (buffer I r.0).size (sound_buffer I r.0 all (below (length I) r.0 r.1)).within_size in
    let f = r.2 in omega arith)

height_is : (I : Instance) → All IsBuffer I → start_of I 41 ≡ class_height I
unfolding class_height
height_is I all = go (last_limit I all)
  where
    go : last_class I ≤ 40 → start_of I 41 ≡ start_of I (suc (last_class I))
    go le =
        let e : 41 ≡ suc (last_class I) + (40 - last_class I) = omega arith in
        ap (start_of I) e ∙ past_last I (40 - last_class I)

pub height_done : (I : Instance) (k end : ℕ) → All IsBuffer I → k ≡ 41 → end ≡ start_of I k → end ≡ class_height I
height_done I k end all is e = e ∙ ap (start_of I) is ∙ height_is I all

pub limit_done : (I : Instance) (k end : ℕ) → length I ≤ 2 ^ 12 → k ≡ 41 → end ≡ start_of I k → end < 2 ^ 54
limit_done I k end few is e =
    let l : start_of I 41 ≤ 2 ^ 53 = row_limit I 40 few (omega arith) in
    let f : end ≡ start_of I 41 = e ∙ ap (start_of I) is in omega arith

pub plan_done : (I : Instance) (k : ℕ) (offsets : List ℕ) → All IsBuffer I → k ≡ 41 → AreSetBelow I k offsets →
    offsets ≡ class_plan I
unfolding class_plan
plan_done I k offsets all is h = fill_by_all (class_offset I) offsets (length I) 0 h.count (λ b lt. h.each b lt
    (let k = class_limit (buffer I b).size (sound_buffer I b all lt).within_size in omega arith))
