-- Bits in words: one is set, and the others stay.
use Rattle.std.proofs.Common.{◌≡◌, ◌≢◌, ◌*◌, ◌/◌, ◌%◌, ◌^◌, ◌<◌, ◌≤◌, ◌⊎◌, inl, inr, ℕ, zero, suc, max, Bool, true, false, ◌&&◌, ◌||◌, ◌==◌, List, replicate, slice_index, slice_index_or, slice_set, bit_and, bit_or, sym, refl, ap, ◌∙◌, arith}
use Rattle.std.proofs.lemmas.Bool.{and_right, cases_eq, cases_lt, ne_eqb}
use Rattle.std.proofs.lemmas.Bool.Decides.{nat_tests}
use Rattle.std.proofs.lemmas.List.{get_or-replicate, get_or-set_other, get_or-set_same, get_or_default, get_or_past, length-replicate}
use Rattle.std.proofs.lemmas.Nat.{one_shl}
use Rattle.std.proofs.lemmas.Nat.Bits.{bit_at_or, bit_at-lt, bit_at-pow_same, bit_at-pow_other, bit_at-zero, shr_and_one}
use Rattle.std.specs.Int.{bit_at}
use mir.Val.{bool_byte}
use Rattle.dsa_model.specs.Bits.{Reaches, is_set}

-- ---- no bit is set, and one is read
pub no_word : (n i : ℕ) → slice_index (replicate n 0) i ≡ 0
no_word n i = go (cases_lt i n)
  where
    go : (i < n) ⊎ (n ≤ i) → slice_index (replicate n 0) i ≡ 0
    go (inl lt) = get_or-replicate n i 0 0 lt
    go (inr le) = get_or_past (replicate n 0) i 0 (rw (length-replicate {A = ℕ} n 0) le)

pub none_set : (words : List ℕ) (n p : ℕ) → words ≡ replicate n 0 → is_set words p ≡ false
unfolding is_set
none_set words n p is =
    rw is (ap (λ w. bit_at w (p % 64) == 1) (no_word n (p / 64)) ∙ ap (λ t. t == 1) (bit_at-zero (p % 64)))

pub bit_read : (words : List ℕ) (place word : ℕ) → Reaches words place → word ≡ slice_index_or words (place / 64) word →
    (bit_and (word / 2 ^ (place % 64)) 1 == 1) ≡ is_set words place
unfolding is_set
bit_read words place word within is =
    ap (λ t. t == 1) (shr_and_one word (place % 64))
    ∙ ap (λ w. bit_at w (place % 64) == 1) (is ∙ get_or_default words (place / 64) word 0 within)

-- a place further to the front is reached too
pub reached_before : (words : List ℕ) (b c : ℕ) → Reaches words b → c ≤ b → Reaches words c
reached_before words b c within le = omega arith

-- ---- one bit is set
either_is_one : (x y : ℕ) → x < 2 → y < 2 → (max x y == 1) ≡ (x == 1 || y == 1)
either_is_one zero zero lx ly = refl
either_is_one zero (suc zero) lx ly = refl
either_is_one (suc zero) zero lx ly = refl
either_is_one (suc zero) (suc zero) lx ly = refl
either_is_one (suc (suc x)) y lx ly = absurd (omega arith)
either_is_one x (suc (suc y)) lx ly = absurd (omega arith)

-- a bit at place k of a word with no other
abbrev alone : Bool → ℕ → ℕ
alone bit k = bool_byte bit * 2 ^ k % 2 ^ 64

set_alone : (bit : Bool) (i k : ℕ) → k < 64 → (bit_at (alone bit k) i == 1) ≡ (i == k && bit)
set_alone false i k lt =
    ap (λ n. bit_at (n % 2 ^ 64) i == 1) none ∙ ap (λ t. t == 1) (bit_at-zero i) ∙ sym (and_right (i == k) false refl)
  where
    none : 0 * 2 ^ k ≡ 0
    none = omega arith
set_alone true i k lt = go (cases_eq i k)
  where
    go : (i ≡ k) ⊎ (i ≢ k) → (bit_at (alone true k) i == 1) ≡ (i == k && true)
    go (inl q) =
        let one : bit_at (alone true k) i ≡ 1 = rw q (ap (λ n. bit_at n k) (one_shl k 64 lt) ∙ bit_at-pow_same k) in
        grind (arith, nat_tests)
    go (inr ne) =
        let none : bit_at (alone true k) i ≡ 0 = ap (λ n. bit_at n i) (one_shl k 64 lt) ∙ bit_at-pow_other k i ne in
        grind (arith, nat_tests)

same_in_word : (p place : ℕ) → p / 64 ≡ place / 64 → (p % 64 == place % 64) ≡ (p == place)
same_in_word p place q = grind (arith, nat_tests)

apart_from : (x y bit : Bool) → y ≡ false → x ≡ (x || (y && bit))
apart_from true y bit none = refl
apart_from false y bit none = rw none refl

pub bit_added : (words : List ℕ) (place word : ℕ) (bit : Bool) (p : ℕ) → Reaches words place →
    word ≡ slice_index_or words (place / 64) word →
    is_set (slice_set words (place / 64) (bit_or word (alone bit (place % 64)))) p
    ≡ (is_set words p || (p == place && bit))
unfolding is_set
bit_added words place word bit p within is = go (cases_eq (p / 64) (place / 64))
  where
    now : ℕ
    now = bit_or word (alone bit (place % 64))

    go : (p / 64 ≡ place / 64) ⊎ (p / 64 ≢ place / 64) →
        is_set (slice_set words (place / 64) now) p ≡ (is_set words p || (p == place && bit))
    go (inl q) =
        ap (λ n. bit_at (slice_index (slice_set words (place / 64) now) n) (p % 64) == 1) q
        ∙ ap (λ w. bit_at w (p % 64) == 1) (get_or-set_same words (place / 64) now 0 within)
        ∙ ap (λ t. t == 1) (bit_at_or word (alone bit (place % 64)) (p % 64))
        ∙ either_is_one _ _ (bit_at-lt word (p % 64)) (bit_at-lt (alone bit (place % 64)) (p % 64))
        ∙ ap (λ t. bit_at word (p % 64) == 1 || t) (set_alone bit (p % 64) (place % 64) (omega arith)
        ∙ ap (λ t. t && bit) (same_in_word p place q))
        ∙ ap (λ w. bit_at w (p % 64) == 1 || (p == place && bit))
        (is ∙ get_or_default words (place / 64) word 0 within ∙ ap (slice_index words) (sym q))
    go (inr ne) =
        ap (λ w. bit_at w (p % 64) == 1) (get_or-set_other words (place / 64) (p / 64) now 0 ne)
        ∙ apart_from (is_set words p) (p == place) bit (ne_eqb p place (λ q. ne (ap (λ n. n / 64) q)))
