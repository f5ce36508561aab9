-- Where first-fit and best-fit put one buffer it is aligned, at or above its lowest, and apart from the others.
use Rattle.std.proofs.Common.{◌≡◌, ℕ, ◌+◌, ◌%◌, ◌<◌, ◌≤◌, ◌⊎◌, inl, inr, Bool, true, not, ◌==◌, ◌&&◌, ◌||◌, max, List, filter, slice_index_or, nat_lt, nat_le, Option, Some, None, refl, sym, ap, ◌∙◌, arith}
use Rattle.std.specs.List.{position_or_len}
use Rattle.std.proofs.lemmas.Bool.Decides.{nat_tests}
use Rattle.std.proofs.lemmas.List.FromFn.{get_or-range_with_len, length-range_with_len}
use Rattle.std.proofs.lemmas.List.Sums.{fails_before_first, passes_at_first, prefix_len-le-length}
use Rattle.dsa_terms.specs.Buffers.{Instance, buffer, IsInstance, floor}
use Rattle.dsa_terms.specs.Layouts.{IsApart}
use Rattle.dsa_terms.specs.Claims.{Entry, IsIn}
use Rattle.dsa_terms.specs.Parts.{numbers}
use Rattle.dsa_terms.specs.Fits.{top, highest, is_free, is_clear, FitRule, first_place, Range, stretches, free_ranges, least_from, holds, tightest, start_in, best_place}
use Rattle.dsa_terms.proofs.Numbers.{next_is_least, next_is_multiple}
use Rattle.dsa_terms.proofs.Lists.{from_filter, all_at, all_from}
use Rattle.dsa_terms.proofs.Moments.{and_true, both_true, sound}
use Rattle.dsa_terms.proofs.NumberTests.{at_most, below_or_from, equal, is_at_most, same}
use Rattle.dsa_start_laws.proofs.Tightest.{tightest_is_in}
use Rattle.dsa_start_laws.specs.Fitting.{IsClear}
use Rattle.dsa_search_laws.proofs.Logs.{in_greatest}

-- ---- the first of the numbers that passes, where n itself passes
number_at : (n k : ℕ) → k < n → slice_index_or (numbers n) k 0 ≡ k
number_at n k lt = get_or-range_with_len 0 n k 0 lt ∙ zero_plus k
  where
    zero_plus : (k : ℕ) → 0 + k ≡ k
    zero_plus k = omega arith

first_in : (test : ℕ → Bool) (n : ℕ) → position_or_len test (numbers n) ≤ n
first_in test n =
    let k = prefix_len-le-length (λ x. not (test x)) (numbers n) in
    let e = length-range_with_len 0 n in omega arith

first_passes : (test : ℕ → Bool) (n : ℕ) → test n ≡ true → test (position_or_len test (numbers n)) ≡ true
first_passes test n last = elim (below_or_from (position_or_len test (numbers n)) n) [
  | inl lt ↦ (let e = length-range_with_len 0 n in
      ap test (sym (number_at n (position_or_len test (numbers n)) lt))
      ∙ passes_at_first test (numbers n) 0 (omega arith))
  | inr ge ↦ ap test (both (position_or_len test (numbers n)) n (first_in test n) ge) ∙ last
]
  where
    both : (a b : ℕ) → a ≤ b → b ≤ a → a ≡ b
    both a b p q = omega arith

first_least : (test : ℕ → Bool) (n x : ℕ) → test x ≡ true → position_or_len test (numbers n) ≤ x
first_least test n x t = elim (below_or_from x (position_or_len test (numbers n))) [
  | inl lt ↦ absurd (let k = first_in test n in
      let f = fails_before_first test (numbers n) x 0 lt in
      let e : test (slice_index_or (numbers n) x 0) ≡ test x = ap test (number_at n x (omega arith)) in cc)
  | inr ge ↦ ge
]

-- ---- free addresses
pub free_at : (I : Instance) (placed : List Entry) (x y : ℕ) (e : Entry) → is_free I placed x y ≡ true → IsIn e placed →
    (y ≤ e.1) ⊎ (e.1 + (buffer I e.0).size ≤ x)
unfolding is_free top
free_at I placed x y e h i = close y e.1 (e.1 + (buffer I e.0).size) x
    (all_at (λ e. nat_le y e.1 || nat_le (e.1 + (buffer I e.0).size) x) placed e h i)
  where
    close : (a b c d : ℕ) → (nat_le a b || nat_le c d) ≡ true → (a ≤ b) ⊎ (c ≤ d)
    close a b c d q = grind (arith, nat_tests)

pub free_from : (I : Instance) (placed : List Entry) (x y : ℕ) →
    ((e : Entry) → IsIn e placed → (y ≤ e.1) ⊎ (e.1 + (buffer I e.0).size ≤ x)) → is_free I placed x y ≡ true
unfolding is_free top
free_from I placed x y h = all_from (λ e. nat_le y e.1 || nat_le (e.1 + (buffer I e.0).size) x) placed
    (λ e i. close y e.1 (e.1 + (buffer I e.0).size) x (h e i))
  where
    close : (a b c d : ℕ) → (a ≤ b) ⊎ (c ≤ d) → (nat_le a b || nat_le c d) ≡ true
    close a b c d (inl q) = grind (arith, nat_tests)
    close a b c d (inr q) = grind (arith, nat_tests)

pub under_highest : (I : Instance) (placed : List Entry) (e : Entry) → IsIn e placed →
    e.1 + (buffer I e.0).size ≤ highest I placed
unfolding highest top
under_highest I placed e i = in_greatest (λ (e : Entry). e.1 + (buffer I e.0).size) placed e i

-- ---- a rule that puts b at a multiple of its alignment, apart from all
abbrev pub IsClearRule : Instance → FitRule → Type 0
IsClearRule I rule = (b : ℕ) (placed : List Entry) → IsClear I b placed (rule I b placed)

pub floor_is_multiple : (I : Instance) (b : ℕ) → IsInstance I → floor (buffer I b) % (buffer I b).alignment ≡ 0
unfolding floor
floor_is_multiple I b s = next_is_multiple (buffer I b).lowest (buffer I b).alignment (sound I b s).1

-- ---- the least place that b may have from x on
pub from_is_multiple : (I : Instance) (b x : ℕ) → IsInstance I → least_from I b x % (buffer I b).alignment ≡ 0
unfolding least_from
from_is_multiple I b x s = next_is_multiple (max x (buffer I b).lowest) (buffer I b).alignment (sound I b s).1

pub from_is_above : (I : Instance) (b x : ℕ) → (x ≤ least_from I b x) × ((buffer I b).lowest ≤ least_from I b x)
unfolding least_from
from_is_above I b x = (omega arith, omega arith)

pub from_is_least : (I : Instance) (b x y : ℕ) → IsInstance I → x ≤ y → (buffer I b).lowest ≤ y →
    y % (buffer I b).alignment ≡ 0 → least_from I b x ≤ y
unfolding least_from
from_is_least I b x y s lx ll m =
    next_is_least (max x (buffer I b).lowest) (buffer I b).alignment y (sound I b s).1 (omega arith) m

-- ---- the test for a clear place
clear_parts : (I : Instance) (b : ℕ) (placed : List Entry) (x : ℕ) → is_clear I b placed x ≡ true →
    (x % (buffer I b).alignment ≡ 0) × ((buffer I b).lowest ≤ x) × (is_free I placed x (x + (buffer I b).size) ≡ true)
unfolding is_clear
clear_parts I b placed x h =
    let p = and_true (x % (buffer I b).alignment == 0 && nat_le (buffer I b).lowest x)
    (is_free I placed x (x + (buffer I b).size)) h in
    let q = and_true (x % (buffer I b).alignment == 0) (nat_le (buffer I b).lowest x) p.0 in
    (equal (x % (buffer I b).alignment) 0 q.0, at_most (buffer I b).lowest x q.1, p.1)

pub clear_is : (I : Instance) (b : ℕ) (placed : List Entry) (x : ℕ) → is_clear I b placed x ≡ true →
    IsClear I b placed x
clear_is I b placed x h = let p = clear_parts I b placed x h in record {
  aligned = p.0;
  above = p.1;
  apart = λ e i. free_at I placed x (x + (buffer I b).size) e p.2 i;
}

pub is_clear_from : (I : Instance) (b : ℕ) (placed : List Entry) (x : ℕ) → IsClear I b placed x →
    is_clear I b placed x ≡ true
unfolding is_clear
is_clear_from I b placed x c = both_true (x % (buffer I b).alignment == 0 && nat_le (buffer I b).lowest x)
    (is_free I placed x (x + (buffer I b).size))
    (both_true (x % (buffer I b).alignment == 0) (nat_le (buffer I b).lowest x)
    (same (x % (buffer I b).alignment) 0 c.aligned) (is_at_most (buffer I b).lowest x c.above))
    (free_from I placed x (x + (buffer I b).size) c.apart)

-- past all the placed
pub past_is_clear : (I : Instance) (b : ℕ) (placed : List Entry) → IsInstance I →
    IsClear I b placed (least_from I b (highest I placed))
past_is_clear I b placed s = record {
  aligned = from_is_multiple I b (highest I placed) s;
  above = (from_is_above I b (highest I placed)).1;
  apart = λ e i. inr (let k = under_highest I placed e i in
      let m = (from_is_above I b (highest I placed)).0 in omega arith);
}

pub first_is_clear : (I : Instance) → IsInstance I → IsClearRule I first_place
unfolding first_place
first_is_clear I s b placed = clear_is I b placed (first_place I b placed)
    (first_passes (is_clear I b placed) (least_from I b (highest I placed))
    (is_clear_from I b placed (least_from I b (highest I placed)) (past_is_clear I b placed s)))

-- no place below first-fit's is clear
pub first_is_least : (I : Instance) (b : ℕ) (placed : List Entry) (y : ℕ) → IsInstance I → IsClear I b placed y →
    first_place I b placed ≤ y
unfolding first_place
first_is_least I b placed y s c =
    first_least (is_clear I b placed) (least_from I b (highest I placed)) y (is_clear_from I b placed y c)

pub free_range_is_free : (I : Instance) (placed : List Entry) (r : Range) → IsIn r (free_ranges I placed) →
    is_free I placed r.start r.stop ≡ true
unfolding free_ranges
free_range_is_free I placed r i =
    (and_true (nat_lt r.start r.stop) (is_free I placed r.start r.stop)
    (from_filter (λ (r : Range). nat_lt r.start r.stop && is_free I placed r.start r.stop)
    (stretches I placed) r i).1).1

pub holds_is : (I : Instance) (b : ℕ) (r : Range) → holds I b r ≡ true →
    least_from I b r.start + (buffer I b).size ≤ r.stop
unfolding holds
holds_is I b r h = at_most (least_from I b r.start + (buffer I b).size) r.stop h

pub best_is_clear : (I : Instance) → IsInstance I → IsClearRule I best_place
unfolding best_place
best_is_clear I s b placed = go (tightest (filter (holds I b) (free_ranges I placed))) refl
  where
    a : ℕ
    a = (buffer I b).alignment

    go : (o : Option Range) → tightest (filter (holds I b) (free_ranges I placed)) ≡ o →
        IsClear I b placed (start_in I b placed o)
    go None e = past_is_clear I b placed s
    go (Some r) e = record {
      aligned = from_is_multiple I b r.start s;
      above = (from_is_above I b r.start).1;
      apart = λ f i. within f i (range_of (tightest_is_in (filter (holds I b) (free_ranges I placed)) r e));
    }
      where
        range_of : IsIn r (filter (holds I b) (free_ranges I placed)) →
            (holds I b r ≡ true) × (is_free I placed r.start r.stop ≡ true)
        range_of j = let x = from_filter (holds I b) (free_ranges I placed) r j in
            (x.1, free_range_is_free I placed r x.0)

        within : (f : Entry) → IsIn f placed → (holds I b r ≡ true) × (is_free I placed r.start r.stop ≡ true) →
            IsApart (buffer I b) (least_from I b r.start) (buffer I f.0) f.1
        within f i x =
            let m = (from_is_above I b r.start).0 in
            let h = holds_is I b r x.0 in
            elim (free_at I placed r.start r.stop f x.1 i) [
              | inl q ↦ inl (omega arith)
              | inr q ↦ inr (omega arith)
            ]
