-- No stack is above the greatest floor of what can be counted with all the rounded sizes on it.
use Rattle.std.proofs.Common.{◌≡◌, ◌^◌, ℕ, ◌+◌, ◌*◌, ◌<◌, ◌≤◌, ◌⊎◌, inl, inr, Bool, true, false, ◌&&◌, cond, max, nat_le, List, [], ◌∷◌, ◌++◌, length, filter, sum_by, sym, refl, ap, ◌∙◌, arith, append-nil}
use Rattle.std.proofs.lemmas.List.Sums.{sum_by-cons}
use Rattle.std.specs.Int.{next_multiple_of}
use Rattle.dsa_terms.specs.Bounds.{heights, highest_at, stack}
use Rattle.dsa_terms.specs.Buffers.{Buffer, Instance, buffer, floor, is_live}
use Rattle.dsa_terms.specs.Claims.{IsIn}
use Rattle.dsa_terms.specs.Parts.{numbers}
use Rattle.dsa_terms.proofs.Lists.{nil_or_not}
use Rattle.dsa_terms.proofs.Moments.{and_true}
use Rattle.dsa_terms.proofs.NumberTests.{below_or_last}
use Rattle.dsa_start_laws.specs.Piles.{counted_buffers, pile, rounded_size}
use Rattle.dsa_start_laws.proofs.Piles.{in_counted, stack_of_none, stack_of_some}
use Rattle.dsa_start_laws.proofs.Stacks.{greatest_all}
use Rattle.dsa_model.specs.Buffer.{IsBuffer}
use Rattle.lifetime.proofs.Lists.{filter_more}
use Rattle.lower_bounds.specs.Stacks.{IsModulus, counts_at, is_counted, total_of}
use Rattle.lower_bounds.proofs.Orders.{floor_limit}
use Rattle.lower_bounds.proofs.Piles.{rounded_limit, total_more}

-- the greatest floor and the sum of the first k buffers that can be counted
pub record IsCrude (I : Instance) (G k top total : ℕ) : Type 0 where
  pub floors : (b : ℕ) → b < k → is_counted I G b ≡ true → floor (buffer I b) ≤ top
  pub sum : total ≡ total_of I G (filter (is_counted I G) (numbers k))
  pub top_limit : top ≤ 2 ^ 41
  pub total_limit : total ≤ k * 2 ^ 41

pub crude_none : (I : Instance) (G : ℕ) → IsCrude I G 0 0 0
unfolding total_of
crude_none I G = record {
  floors = λ b lt c. absurd (omega arith);
  sum = refl;
  top_limit = omega arith;
  total_limit = omega arith;
}

pub crude_same : (I : Instance) (G k top total : ℕ) → is_counted I G k ≡ false → IsCrude I G k top total →
    IsCrude I G (k + 1) top total
crude_same I G k top total n h = record {
  floors = λ b lt c. elim (below_or_last b k lt) [
    | inl q ↦ h.floors b q c
    | inr q ↦ absurd (let e : is_counted I G b ≡ is_counted I G k = ap (is_counted I G) q in cc)
  ];
  sum = h.sum ∙ ap (total_of I G) (sym (filter_more (is_counted I G) k
      ∙ (ap (λ t. filter (is_counted I G) (numbers k) ++ cond t (k ∷ []) []) n
      ∙ append-nil (filter (is_counted I G) (numbers k)))));
  top_limit = h.top_limit;
  total_limit = (let z = h.total_limit in omega arith);
}

pub crude_more : (I : Instance) (G k top total floor_of size rounded new_top : ℕ) (x : Buffer) → IsModulus G →
    x ≡ buffer I k → IsBuffer x → is_counted I G k ≡ true → floor_of ≡ floor x → size ≡ x.size →
    rounded ≡ next_multiple_of size G → new_top ≡ max floor_of top → IsCrude I G k top total →
    IsCrude I G (k + 1) new_top (total + rounded)
unfolding rounded_size
crude_more I G k top total floor_of size rounded new_top x m e sound here f s r t h = record {
  floors = λ b lt c. elim (below_or_last b k lt) [
    | inl q ↦ (let z = h.floors b q c in omega arith)
    | inr q ↦ (let z : floor (buffer I b) ≡ floor (buffer I k) = ap (λ b. floor (buffer I b)) q in
        let y = its_floor in omega arith)
  ];
  sum = ap (λ n. n + rounded) h.sum ∙ (ap (λ n. total_of I G (filter (is_counted I G) (numbers k)) + n) is
      ∙ (sym (total_more I G (filter (is_counted I G) (numbers k)) k) ∙ ap (total_of I G)
      (sym (filter_more (is_counted I G) k
      ∙ ap (λ t. filter (is_counted I G) (numbers k) ++ cond t (k ∷ []) []) here))));
  top_limit = (let z = h.top_limit in let l = floor_limit x sound in omega arith);
  total_limit = (let z = h.total_limit in let l = limit in omega arith);
}
  where
    its_floor : floor_of ≡ floor (buffer I k)
    its_floor = f ∙ ap floor e

    is : rounded ≡ next_multiple_of (buffer I k).size G
    is = r ∙ ap (λ n. next_multiple_of n G) (s ∙ ap (λ (x : Buffer). x.size) e)

    limit : rounded ≤ 2 ^ 41
    limit = rw is (rounded_limit I G k (rw (← e) sound) m)

-- ---- a stack counts no others
sum_within : (f : ℕ → ℕ) (p q : ℕ → Bool) (xs : List ℕ) → ((x : ℕ) → p x ≡ true → q x ≡ true) →
    sum_by f (filter p xs) ≤ sum_by f (filter q xs)
sum_within f p q [] h = omega arith
sum_within f p q (x ∷ xs) h = go (p x) (q x) (h x) (sum_within f p q xs h)
  where
    go : (a b : Bool) → (a ≡ true → b ≡ true) → sum_by f (filter p xs) ≤ sum_by f (filter q xs) →
        sum_by f (cond a (x ∷ filter p xs) (filter p xs)) ≤ sum_by f (cond b (x ∷ filter q xs) (filter q xs))
    go true true k ih = rw (sum_by-cons f x (filter p xs), sum_by-cons f x (filter q xs)) (omega arith)
    go true false k ih = absurd (let z = k refl in cc)
    go false true k ih = rw (sum_by-cons f x (filter q xs)) (omega arith)
    go false false k ih = ih

pile_within : (I : Instance) (t H G : ℕ) → pile I t H G ≤ total_of I G (filter (is_counted I G) (numbers (length I)))
unfolding pile counted_buffers total_of
pile_within I t H G =
    let k = sum_within (rounded_size I G) (counts_at I t H G) (is_counted I G) (numbers (length I))
    (λ b c. (and_true (is_live (buffer I b) t && nat_le H (floor (buffer I b))) (is_counted I G b) c).1) in
    omega arith

pub crude_is_over : (I : Instance) (G k top total t : ℕ) → k ≡ length I → IsCrude I G k top total →
    highest_at I t G ≤ top + total
unfolding highest_at
crude_is_over I G k top total t e h =
    greatest_all (λ H. stack I t H G) (heights I G) (top + total)
    (λ H i. under H (nil_or_not (counted_buffers I t H G)))
  where
    under : (H : ℕ) → (counted_buffers I t H G ≡ []) ⊎ ((b : ℕ) × IsIn b (counted_buffers I t H G)) →
        stack I t H G ≤ top + total
    under H (inl n) = let z = stack_of_none I t H G n in omega arith
    under H (inr b) =
        let c = in_counted I t H G b.0 b.1 in
        let s = stack_of_some I t H G (λ n. rw n at b.1) in
        let p = pile_within I t H G in
        let f = h.floors b.0 (let z = c.0 in omega arith) c.3 in
        let l = c.2 in
        let u : total ≡ total_of I G (filter (is_counted I G) (numbers (length I))) =
        h.sum ∙ ap (λ n. total_of I G (filter (is_counted I G) (numbers n))) e in
        omega arith
