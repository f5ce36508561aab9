-- The load of each moment is its stack by modulus 1, and so at most the bound.
use Rattle.std.proofs.Common.{◌≡◌, ℕ, suc, ◌+◌, ◌%◌, ◌<◌, ◌≤◌, inl, inr, Bool, true, false, ◌&&◌, ◌==◌, cond, nat_le, List, [], ◌∷◌, length, filter, sum_by, refl, ap, ◌∙◌, arith}
use Rattle.std.specs.List.{range_with_len}
use Rattle.std.proofs.lemmas.List.Sums.{sum_by-cons}
use Rattle.dsa_terms.specs.Buffers.{Buffer, Instance, buffer, is_live, floor}
use Rattle.dsa_terms.specs.Parts.{numbers}
use Rattle.dsa_terms.specs.Plans.{load}
use Rattle.dsa_terms.specs.Bounds.{stack, moduli, lower_bound}
use Rattle.dsa_terms.proofs.Lists.{nil_or_not}
use Rattle.dsa_terms.proofs.NumberTests.{is_at_most}
use Rattle.dsa_start_laws.specs.Piles.{counted_buffers, pile}
use Rattle.dsa_start_laws.proofs.Piles.{stack_of_some, stack_of_none}
use Rattle.dsa_start_laws.proofs.Stacks.{zero_height, stack_under_bound}
use Rattle.dsa_start_laws.proofs.BoundModuli.{stack_by_one}
use Rattle.dsa_start_laws.proofs.Bounds.{filled}

head : (x : Buffer) (xs : Instance) → buffer (x ∷ xs) 0 ≡ x
unfolding buffer
head x xs = refl

next : (x : Buffer) (xs : Instance) (i : ℕ) → buffer (x ∷ xs) (suc i) ≡ buffer xs i
unfolding buffer
next x xs i = refl

sizes_from : (J : Instance) (p : Buffer → Bool) (n : ℕ) (I : Instance) →
    ((i : ℕ) → i < length J → buffer I (n + i) ≡ buffer J i) →
    sum_by (λ b. (buffer I b).size) (filter (λ b. p (buffer I b)) (range_with_len n (length J))) ≡ sum_by
    (λ (b : Buffer). b.size) (filter p J)
sizes_from [] p n I h = refl
sizes_from (x ∷ xs) p n I h = go (p x) refl here
    (sizes_from xs p (n + 1) I (λ i lt. let e : n + 1 + i ≡ n + suc i = omega arith in
    rw e (h (suc i) (omega arith) ∙ next x xs i)))
  where
    here : buffer I n ≡ x
    here = let e : n + 0 ≡ n = omega arith in rw e at (h 0 (omega arith) ∙ head x xs)

    go : (b : Bool) → p x ≡ b → buffer I n ≡ x →
        sum_by (λ b. (buffer I b).size) (filter (λ b. p (buffer I b)) (range_with_len (n + 1) (length xs))) ≡ sum_by
        (λ (b : Buffer). b.size) (filter p xs) →
        sum_by (λ b. (buffer I b).size) (cond (p (buffer I n))
        (n ∷ filter (λ b. p (buffer I b)) (range_with_len (n + 1) (length xs)))
        (filter (λ b. p (buffer I b)) (range_with_len (n + 1) (length xs))))
        ≡ sum_by (λ (b : Buffer). b.size) (cond b (x ∷ filter p xs) (filter p xs))
    go true e q ih = rw (
      q,
      e,
      sum_by-cons (λ b. (buffer I b).size) n
          (filter (λ b. p (buffer I b)) (range_with_len (n + 1) (length xs))),
      sum_by-cons (λ (b : Buffer). b.size) x (filter p xs),
      q,
      ih,
    ) refl
    go false e q ih = rw (q, e) ih

all_by_one : (I : Instance) (t : ℕ) →
    counted_buffers I t 0 1 ≡ filter (λ b. is_live (buffer I b) t) (numbers (length I))
unfolding counted_buffers
all_by_one I t = same (numbers (length I))
  where
    zero : (m : ℕ) → (m % 1 == 0) ≡ true
    zero m = let e : m % 1 ≡ 0 = omega arith in rw e refl

    low : (m : ℕ) → nat_le 0 m ≡ true
    low m = is_at_most 0 m (omega arith)

    and_two : (a b c : Bool) → b ≡ true → c ≡ true → (a && b && c) ≡ a
    and_two true b c h k = rw (h, k) refl
    and_two false b c h k = refl

    same : (bs : List ℕ) →
        filter (λ b. is_live (buffer I b) t && nat_le 0 (floor (buffer I b)) && ((buffer I b).alignment % 1 == 0)) bs
        ≡ filter (λ b. is_live (buffer I b) t) bs
    same [] = refl
    same (b ∷ bs) = rw (
      and_two (is_live (buffer I b) t) (nat_le 0 (floor (buffer I b))) ((buffer I b).alignment % 1 == 0)
          (low (floor (buffer I b))) (zero (buffer I b).alignment),
      same bs,
    ) refl

pub load_is_pile : (I : Instance) (t : ℕ) → pile I t 0 1 ≡ load I t
unfolding pile load
load_is_pile I t =
    stack_by_one I (counted_buffers I t 0 1) ∙ (ap (λ p. sum_by (λ b. (buffer I b).size) p) (all_by_one I t)
    ∙ sizes_from I (λ b. is_live b t) 0 I (λ i lt. let e : 0 + i ≡ i = omega arith in rw e refl))

-- where nothing is counted there is no pile
no_pile : (I : Instance) (t H G : ℕ) → counted_buffers I t H G ≡ [] → pile I t H G ≡ 0
unfolding pile
no_pile I t H G e = rw e refl

pub load_is_stack : (I : Instance) (t : ℕ) → stack I t 0 1 ≡ load I t
load_is_stack I t = elim (nil_or_not (counted_buffers I t 0 1)) [
  | inl e ↦ (let a = stack_of_none I t 0 1 e in let b = no_pile I t 0 1 e in let c = load_is_pile I t in omega arith)
  | inr b ↦ (let a = stack_of_some I t 0 1 (filled (counted_buffers I t 0 1) b.0 b.1) in let c = load_is_pile I t in
      omega arith)
]

pub load_under_bound : (I : Instance) (t : ℕ) → load I t ≤ lower_bound I
unfolding moduli
load_under_bound I t = let a = stack_under_bound I t 0 1 (inl refl) (zero_height I 1) in let e = load_is_stack I t in
    omega arith
