-- What the instance of one period says of endless time.
use Rattle.std.proofs.Common.{◌≡◌, ℕ, ◌+◌, ◌%◌, ◌<◌, ◌≤◌, inl, inr, Bool, true, false, not, cond, ◌&&◌, ◌||◌, nat_lt, nat_le, List, [], ◌∷◌, ◌++◌, length, map, slice_index, refl, sym, ◌∙◌, arith}
use Rattle.std.proofs.Math.Nat.{add-mod_right, mod-eq_of_lt, mod-lt}
use Rattle.std.proofs.lemmas.Bool.Decides.{nat_tests}
use Rattle.std.proofs.lemmas.List.{get_or-map, length-map}
use Rattle.std.proofs.lemmas.List.Folds.{list_any-append}
use Rattle.std.specs.List.{All, list_any}
use Rattle.dsa_terms.specs.Buffers.{Buffer, buffer, is_live, IsLive, is_within, no_buffer}
use Rattle.dsa_terms.specs.Layouts.{IsLayout, IsApart}
use Rattle.dsa_terms.proofs.Lists.{true_or_false}
use Rattle.dsa_terms.proofs.Moments.{and_true, both_true, live_before}
use Rattle.dsa_terms.proofs.NumberTests.{is_below, not_below, below_or_from}
use Rattle.cyclic_plan.specs.Cycles.{IsCycleLayout, IsInPeriod, does_wrap, is_live_round, IsLiveRound, lasts_at, unrolled}

-- ---- tests
le_is_not : (u t : ℕ) → nat_le u t ≡ not (nat_lt t u)
le_is_not u t = grind (arith, nat_tests)

lt_is_not : (t l : ℕ) → nat_lt t l ≡ not (nat_le l t)
lt_is_not t l = grind (arith, nat_tests)

-- outside the gap between the end and the beginning is from the beginning on or before the end
outside : (a x y : Bool) → not (a || ((not y && not x) || false)) ≡ ((x || y) && not a)
outside true true y = refl
outside true false true = refl
outside true false false = refl
outside false true true = refl
outside false true false = refl
outside false false true = refl
outside false false false = refl

outside_gap : (u l t : ℕ) (a : Bool) →
    not (a || ((nat_le u t && nat_lt t l) || false)) ≡ ((nat_le l t || nat_lt t u) && not a)
outside_gap u l t a = rw (le_is_not u t, lt_is_not t l) (outside a (nat_le l t) (nat_lt t u))

from_zero : (t : ℕ) → nat_le 0 t ≡ true
from_zero t = grind (arith, nat_tests)

-- ---- within the period
-- what a row that wraps becomes
abbrev wrapped : ℕ → Buffer → Buffer
wrapped P b = record b { lower = 0; upper = P; gaps = b.gaps ++ (b.upper, b.lower) ∷ [] }

live_within : (P t : ℕ) (b : Buffer) → t < P →
    is_live (unrolled P b) t ≡ (lasts_at b t && not (list_any (is_within t) b.gaps))
unfolding unrolled lasts_at is_live
live_within P t b lt = go (nat_lt b.upper b.lower)
  where
    go : (w : Bool) →
        (let u : Buffer = cond w (wrapped P b) b in
        nat_le u.lower t && nat_lt t u.upper && not (list_any (is_within t) u.gaps))
        ≡ (cond w (nat_le b.lower t || nat_lt t b.upper) (nat_le b.lower t && nat_lt t b.upper)
        && not (list_any (is_within t) b.gaps))
    go true = rw (from_zero t, is_below t P lt, list_any-append (is_within t) b.gaps ((b.upper, b.lower) ∷ []))
        (outside_gap b.upper b.lower t (list_any (is_within t) b.gaps))
    go false = refl

ends_in_period : (P : ℕ) (b : Buffer) → b.upper ≤ P → (unrolled P b).upper ≤ P
unfolding unrolled
ends_in_period P b le = go (nat_lt b.upper b.lower)
  where
    go : (w : Bool) → (cond w (wrapped P b) b).upper ≤ P
    go true = omega arith
    go false = le

pub unrolled_live : (P t : ℕ) (b : Buffer) → IsInPeriod P b →
    is_live (unrolled P b) t ≡ (nat_lt t P && is_live_round P b t)
unfolding is_live_round
unrolled_live P t b i = elim (below_or_from t P) [
  | inl lt ↦ rw (is_below t P lt) (now lt)
  | inr le ↦ rw (not_below t P le) (never le)
]
  where
    now : t < P → is_live (unrolled P b) t ≡ is_live_round P b t
    now lt = rw (mod-eq_of_lt lt) (live_within P t b lt)

    never : P ≤ t → is_live (unrolled P b) t ≡ false
    never le = elim (true_or_false (is_live (unrolled P b) t)) [
      | inl h ↦ absurd (let k = live_before (unrolled P b) t h in let e = ends_in_period P b i.1 in omega arith)
      | inr h ↦ h
    ]

pub round_repeats : (P t : ℕ) (b : Buffer) → is_live_round P b (t + P) ≡ is_live_round P b t
unfolding is_live_round
round_repeats P t b = rw (add-mod_right t P) refl

round_of_rest : (P t : ℕ) (b : Buffer) → 0 < P → is_live_round P b (t % P) ≡ is_live_round P b t
unfolding is_live_round
round_of_rest P t b pos = rw (mod-eq_of_lt (mod-lt t pos)) refl

-- ---- the buffer of a row
-- what the whole period with a gap more has in common with the row is the unrolled row's
stays : {A : Type 0} (f : Buffer → A) (P : ℕ) (b : Buffer) → f (wrapped P b) ≡ f b → f (unrolled P b) ≡ f b
unfolding unrolled
stays f P b e = go (does_wrap b)
  where
    go : (w : Bool) → f (cond w (wrapped P b) b) ≡ f b
    go true = e
    go false = refl

size_stays : (P : ℕ) (b : Buffer) → (unrolled P b).size ≡ b.size
size_stays P b = stays (λ (u : Buffer). u.size) P b refl

alignment_stays : (P : ℕ) (b : Buffer) → (unrolled P b).alignment ≡ b.alignment
alignment_stays P b = stays (λ (u : Buffer). u.alignment) P b refl

lowest_stays : (P : ℕ) (b : Buffer) → (unrolled P b).lowest ≡ b.lowest
lowest_stays P b = stays (λ (u : Buffer). u.lowest) P b refl

row_at : (P : ℕ) (rows : List Buffer) (b : ℕ) → b < length rows →
    buffer (map (unrolled P) rows) b ≡ unrolled P (buffer rows b)
unfolding buffer
row_at P rows b lt = get_or-map (unrolled P) rows b no_buffer no_buffer lt

row_in_period : (P : ℕ) (rows : List Buffer) (b : ℕ) → All (IsInPeriod P) rows → b < length rows →
    IsInPeriod P (buffer rows b)
unfolding buffer
row_in_period P rows b h lt = h b no_buffer lt

-- ---- layouts
to_apart : (P : ℕ) (b c : Buffer) (x y : ℕ) → IsApart (unrolled P b) x (unrolled P c) y → IsApart b x c y
to_apart P b c x y h = let s = size_stays P b in let r = size_stays P c in elim h [
  | inl k ↦ inl (omega arith)
  | inr k ↦ inr (omega arith)
]

from_apart : (P : ℕ) (b c : Buffer) (x y : ℕ) → IsApart b x c y → IsApart (unrolled P b) x (unrolled P c) y
from_apart P b c x y h = let s = size_stays P b in let r = size_stays P c in elim h [
  | inl k ↦ inl (omega arith)
  | inr k ↦ inr (omega arith)
]

pub cycle_from_layout : (P C : ℕ) (rows : List Buffer) (offsets : List ℕ) → All (IsInPeriod P) rows →
    IsLayout (map (unrolled P) rows) C offsets → IsCycleLayout P C rows offsets
cycle_from_layout P C rows offsets all l = record {
  count = l.count ∙ length-map rows (unrolled P);
  aligned = λ b lt. let h = l.aligned b (in_map lt) in rw (row_at P rows b lt, alignment_stays P (buffer rows b)) at h;
  above = λ b lt. let h = l.above b (in_map lt) in rw (row_at P rows b lt, lowest_stays P (buffer rows b)) at h;
  within = λ b lt. let h = l.within b (in_map lt) in rw (row_at P rows b lt, size_stays P (buffer rows b)) at h;
  apart = λ b c t lb lc ne p q.
      let h = l.apart b c (t % P) (in_map lb) (in_map lc) ne (live b t lb p) (live c t lc q) in
      to_apart P (buffer rows b) (buffer rows c) (slice_index offsets b) (slice_index offsets c)
      (rw (row_at P rows b lb, row_at P rows c lc) at h);
}
  where
    in_map : {b : ℕ} → b < length rows → b < length (map (unrolled P) rows)
    in_map lt = rw (length-map rows (unrolled P)) lt

    live : (b t : ℕ) → b < length rows → IsLiveRound P (buffer rows b) t →
        IsLive (buffer (map (unrolled P) rows) b) (t % P)
    live b t lt p =
        let i = row_in_period P rows b all lt in
        rw (row_at P rows b lt, unrolled_live P (t % P) (buffer rows b) i)
        (both_true (nat_lt (t % P) P) (is_live_round P (buffer rows b) (t % P))
        (is_below (t % P) P (mod-lt t (let k = i.0 in omega arith)))
        (round_of_rest P t (buffer rows b) (let k = i.0 in omega arith) ∙ p))

pub layout_from_cycle : (P C : ℕ) (rows : List Buffer) (offsets : List ℕ) → All (IsInPeriod P) rows →
    IsCycleLayout P C rows offsets → IsLayout (map (unrolled P) rows) C offsets
layout_from_cycle P C rows offsets all l = record {
  count = l.count ∙ sym (length-map rows (unrolled P));
  aligned = λ b lt. rw (row_at P rows b (of_rows lt), alignment_stays P (buffer rows b)) (l.aligned b (of_rows lt));
  above = λ b lt. rw (row_at P rows b (of_rows lt), lowest_stays P (buffer rows b)) (l.above b (of_rows lt));
  within = λ b lt. rw (row_at P rows b (of_rows lt), size_stays P (buffer rows b)) (l.within b (of_rows lt));
  apart = λ b c t lb lc ne p q.
      rw (row_at P rows b (of_rows lb), row_at P rows c (of_rows lc))
      (from_apart P (buffer rows b) (buffer rows c) (slice_index offsets b) (slice_index offsets c)
      (l.apart b c t (of_rows lb) (of_rows lc) ne (round b t (of_rows lb) p) (round c t (of_rows lc) q)));
}
  where
    of_rows : {b : ℕ} → b < length (map (unrolled P) rows) → b < length rows
    of_rows lt = rw (length-map rows (unrolled P)) at lt

    round : (b t : ℕ) → b < length rows → IsLive (buffer (map (unrolled P) rows) b) t →
        IsLiveRound P (buffer rows b) t
    round b t lt p =
        let i = row_in_period P rows b all lt in
        let q : is_live (unrolled P (buffer rows b)) t ≡ true = rw (row_at P rows b lt) at p in
        let r : (nat_lt t P && is_live_round P (buffer rows b) t) ≡ true =
        sym (unrolled_live P t (buffer rows b) i) ∙ q in
        (and_true (nat_lt t P) (is_live_round P (buffer rows b) t) r).1
