-- The first fault of arrays, buffer by buffer.
use Rattle.std.proofs.Common.{◌≡◌, ◌+◌, ◌-◌, ◌<◌, ◌≤◌, ◌==◌, ◌&&◌, ◌||◌, ◌⊎◌, ◌∙◌, ℕ, suc, Bool, true, false, nat_lt, List, length, map, sum, slice_index, Option, None, Some, option_map, refl, ap, inl, inr, arith}
use Rattle.std.specs.List.{range_with_len}
use Rattle.std.specs.Option.{option_or}
use Rattle.std.proofs.lemmas.Bool.Decides.{nat_tests}
use Rattle.dsa_terms.specs.Buffers.{Buffer}
use Rattle.dsa_terms.specs.Firsts.{first_fault}
use Rattle.dsa_model.specs.Buffer.{buffer_fault, buffer_of, buffer_limit}
use Rattle.dsa_model.specs.declared.buffer_fault.BufferFault.{BufferFault}
use Rattle.dsa_model.specs.Limits.{time_limit}
use Rattle.dsa_plan.specs.Arrays.{Arrays, buffer_at, gaps_at, gaps_before}
use Rattle.dsa_plan.specs.Faults.{arrays_fault, buffers_fault, fault_at, have_gaps, have_numbers, have_one_length, numbers_fault}
use Rattle.dsa_plan.specs.declared.fault.ArraysFault.{ArraysFault}
use Rattle.dsa_plan.specs.declared.fault.ArraysFault.TheVariants.{LengthsDiffer, TooMany, BadBuffer}
use Rattle.dsa_plan.specs.declared.fault.NumbersFault.TheVariants as numbers_fault_is
use Rattle.dsa_plan.proofs.Sums.{sum_more_within}

-- ---- lengths
both : (a b : Bool) → (a && b) ≡ true → (a ≡ true) × (b ≡ true)
both true b h = (refl, h)
both false b h = absurd cc

same : (m n : ℕ) → (m == n) ≡ true → m ≡ n
same m n h = grind (arith, nat_tests)

-- the arrays have n items each, and the counts of gaps add up
pub record HaveLengths (a : Arrays) (n : ℕ) : Type 0 where
  pub lower : length a.lower ≡ n
  pub upper : length a.upper ≡ n
  pub size : length a.size ≡ n
  pub alignment : length a.alignment ≡ n
  pub lowest : length a.lowest ≡ n
  pub gaps : sum a.gap_counts ≡ length a.gaps

pub have_lengths : (a : Arrays) (n : ℕ) → have_one_length a n ≡ true → HaveLengths a n
unfolding have_one_length
have_lengths a n h =
    let (numbers, gaps) = both (have_numbers a n) (have_gaps a n) h in
    let (four, lowest) = both _ _ numbers in
    let (three, alignment) = both _ _ four in
    let (two, size) = both _ _ three in
    let (lower, upper) = both _ _ two in
    record {
      lower = same _ _ lower;
      upper = same _ _ upper;
      size = same _ _ size;
      alignment = same _ _ alignment;
      lowest = same _ _ lowest;
      gaps = same _ _ (both _ _ gaps).1;
    }

-- the first array is as long as the others
pub have_own_length : (a : Arrays) (n : ℕ) → have_one_length a n ≡ true → have_one_length a (length a.lower) ≡ true
have_own_length a n h = let e = (have_lengths a n h).lower in rw e h

-- ---- the first fault from a place on
pub none_here : {F : Type 0} (f : ℕ → Option F) (b n : ℕ) (o : Option F) → b < n → f b ≡ None →
    o ≡ first_fault (map f (range_with_len b (n - b))) →
    o ≡ first_fault (map f (range_with_len (b + 1) (n - (b + 1))))
none_here f b n o lt none h =
    let e : n - b ≡ suc (n - (b + 1)) = omega arith in h ∙ rw (e, none) refl

pub some_here : {F : Type 0} (f : ℕ → Option F) (b n : ℕ) (o : Option F) (x : F) → b < n → f b ≡ Some x →
    o ≡ first_fault (map f (range_with_len b (n - b))) → o ≡ Some x
some_here f b n o x lt some h =
    let e : n - b ≡ suc (n - (b + 1)) = omega arith in h ∙ rw (e, some) refl

pub none_at_all : {F : Type 0} (f : ℕ → Option F) (b n : ℕ) (o : Option F) → n ≤ b →
    o ≡ first_fault (map f (range_with_len b (n - b))) → o ≡ None
none_at_all f b n o le h = let e : n - b ≡ 0 = omega arith in h ∙ rw e refl

-- ---- a buffer and its gaps
pub buffer_is : (a : Arrays) (b : ℕ) (gaps : List (ℕ × ℕ)) → gaps ≡ gaps_at a b →
    buffer_of (slice_index a.lower b) (slice_index a.upper b) (slice_index a.size b) (slice_index a.alignment b) gaps
    (slice_index a.lowest b)
    ≡ buffer_at a b
unfolding buffer_at
buffer_is a b gaps e = ap (λ (g : List (ℕ × ℕ)). buffer_of (slice_index a.lower b) (slice_index a.upper b)
    (slice_index a.size b) (slice_index a.alignment b) g (slice_index a.lowest b)) e

-- the gaps of a buffer are among all
pub gaps_within : (a : Arrays) (b n : ℕ) → have_one_length a n ≡ true →
    gaps_before a b + slice_index a.gap_counts b ≤ length a.gaps
gaps_within a b n h =
    let e = (have_lengths a n h).gaps in let le = sum_more_within a.gap_counts b in omega arith

-- ---- the fault of a buffer
late : (m n : ℕ) → n < m → nat_lt n m ≡ true
late m n h = grind (arith, nat_tests)

not_late : (m n : ℕ) → m ≤ n → nat_lt n m ≡ false
not_late m n h = grind (arith, nat_tests)

-- its lifetime is too late
time_fault : (x : Buffer) → (nat_lt time_limit x.lower || nat_lt time_limit x.upper) ≡ true →
    numbers_fault x ≡ Some numbers_fault_is.TimeTooLarge
time_fault x h = rw h refl

pub is_late : (a : Arrays) (b : ℕ) →
    (time_limit < slice_index a.lower b) ⊎ (time_limit < slice_index a.upper b) →
    fault_at a b ≡ Some (BadBuffer b numbers_fault_is.TimeTooLarge)
unfolding fault_at buffer_at
is_late a b h = ap (option_map (BadBuffer b)) (time_fault (buffer_at a b) (one _ _ h))
  where
    either : (p q : Bool) → (p ≡ true) ⊎ (q ≡ true) → (p || q) ≡ true
    either true q h = refl
    either false q h = elim h [ inl e ↦ absurd cc | inr e ↦ e ]

    one : (l u : ℕ) → (time_limit < l) ⊎ (time_limit < u) → (nat_lt time_limit l || nat_lt time_limit u) ≡ true
    one l u h = either _ _ (elim h [ inl lt ↦ inl (late l time_limit lt) | inr lt ↦ inr (late u time_limit lt) ])

-- its lifetime is not, and so the fault is that of the buffer
own_fault : (x : Buffer) (o : Option BufferFault) → x.lower ≤ time_limit → x.upper ≤ time_limit → buffer_fault x ≡ o →
    numbers_fault x ≡ option_or (option_map numbers_fault_is.Buffer o) None
own_fault x o l u e = rw (not_late x.lower time_limit l, not_late x.upper time_limit u, e) refl

pub is_faulty : (a : Arrays) (b : ℕ) (x : Buffer) (f : BufferFault) → x ≡ buffer_at a b → x.lower ≤ time_limit →
    x.upper ≤ time_limit → buffer_fault x ≡ Some f → fault_at a b ≡ Some (BadBuffer b (numbers_fault_is.Buffer f))
unfolding fault_at
is_faulty a b x f e l u h = rw (← e) (ap (option_map (BadBuffer b)) (own_fault x (Some f) l u h))

pub is_sound : (a : Arrays) (b : ℕ) (x : Buffer) → x ≡ buffer_at a b → x.lower ≤ time_limit → x.upper ≤ time_limit →
    buffer_fault x ≡ None → fault_at a b ≡ None
unfolding fault_at
is_sound a b x e l u h = rw (← e) (ap (option_map (BadBuffer b)) (own_fault x None l u h))

-- ---- the first fault of all
pub lengths_differ : (a : Arrays) (n : ℕ) → have_one_length a n ≡ false → arrays_fault a n ≡ Some LengthsDiffer
lengths_differ a n h = rw h refl

pub are_too_many : (a : Arrays) (n : ℕ) → have_one_length a n ≡ true → buffer_limit < n →
    arrays_fault a n ≡ Some TooMany
are_too_many a n h lt = rw (h, late n buffer_limit lt) refl

or_none : {F : Type 0} (o : Option F) → option_or o None ≡ o
or_none None = refl
or_none (Some f) = refl

pub else_buffers : (a : Arrays) (n : ℕ) (o : Option ArraysFault) → have_one_length a n ≡ true → n ≤ buffer_limit →
    buffers_fault a ≡ o → arrays_fault a n ≡ o
else_buffers a n o h le e = rw (h, not_late n buffer_limit le, e) (or_none o)
