-- Sums of sizes over the buffers that share a moment with one.
use Rattle.std.proofs.Common.{◌≡◌, ◌^◌, ℕ, suc, ◌+◌, ◌*◌, ◌<◌, ◌≤◌, Bool, true, false, cond, List, [], ◌∷◌, length, filter, take, slice_index_or, inl, inr, refl, sym, ap, ◌∙◌, arith}
use Rattle.std.specs.List.{All, sum_by}
use Rattle.std.proofs.lemmas.List.{take_all, take_more}
use Rattle.std.proofs.lemmas.List.Elements.{filter-append}
use Rattle.std.proofs.lemmas.List.Sums.{sum_by-append}
use Rattle.dsa_terms.specs.Buffers.{Buffer, Instance, buffer, do_share, no_buffer}
use Rattle.dsa_terms.specs.Claims.{IsIn}
use Rattle.dsa_terms.proofs.Places.{in_from_all}
use Rattle.dsa_model.specs.Buffer.{IsBuffer, buffer_limit}
use Rattle.first_fit.proofs.Keys.{area_limit}
use Rattle.row_orders.specs.Orders.{measure, met}
use Rattle.row_orders.specs.declared.orders.Order.{Order}
use Rattle.row_orders.specs.declared.orders.Order.TheVariants.{Area, File, Lifetime, Met, Upper}

-- ---- limits
sum_under : (p : Buffer → Bool) (xs : List Buffer) → ((x : Buffer) → IsIn x xs → x.size ≤ 2 ^ 40) →
    sum_by (λ (c : Buffer). c.size) (filter p xs) ≤ length xs * 2 ^ 40
sum_under p [] h = omega arith
sum_under p (x ∷ xs) h = go (sum_under p xs (λ y i. h y (inr i))) (h x (inl refl)) (p x)
  where
    longer : (n s : ℕ) → s ≤ (n + 1) * 2 ^ 40 → s ≤ suc n * 2 ^ 40
    longer n s k = omega arith

    go : sum_by (λ (c : Buffer). c.size) (filter p xs) ≤ length xs * 2 ^ 40 → x.size ≤ 2 ^ 40 → (t : Bool) →
        sum_by (λ (c : Buffer). c.size) (cond t (x ∷ filter p xs) (filter p xs)) ≤ length (x ∷ xs) * 2 ^ 40
    go ih small true =
        let e = sum_by-append (λ (c : Buffer). c.size) (x ∷ []) (filter p xs) in
        let f : sum_by (λ (c : Buffer). c.size) (x ∷ []) ≡ x.size = omega arith in
        longer (length xs) (sum_by (λ (c : Buffer). c.size) (x ∷ filter p xs)) (omega arith)
    go ih small false = longer (length xs) (sum_by (λ (c : Buffer). c.size) (filter p xs)) (omega arith)

pub met_limit : (I : Instance) (b : Buffer) → All IsBuffer I → length I ≤ buffer_limit → met I b ≤ 2 ^ 52
unfolding met
met_limit I b all few =
    let k = sum_under (do_share b) I (λ x i. (in_from_all IsBuffer I all x i).within_size) in omega arith

pub measure_limit : (order : Order) (I : Instance) (b : Buffer) → All IsBuffer I → length I ≤ buffer_limit →
    IsBuffer b →
    measure order I b ≤ 2 ^ 102
measure_limit File I b all few h = omega arith
measure_limit Area I b all few h = area_limit b h
measure_limit Met I b all few h = let k = met_limit I b all few in omega arith
measure_limit Lifetime I b all few h = let k = h.upper_limit in omega arith
measure_limit Upper I b all few h = let k = h.upper_limit in omega arith

-- ---- one buffer after another
-- the sum over the first n buffers
pub record IsSummed (I : Instance) (b : Buffer) (sum n : ℕ) : Type 0 where
  pub value : sum ≡ sum_by (λ (c : Buffer). c.size) (filter (do_share b) (take n I))
  pub limit : sum ≤ n * 2 ^ 40

pub summed_none : (I : Instance) (b : Buffer) → IsSummed I b 0 0
summed_none I b = record { value = refl; limit = omega arith }

next_sum : (I : Instance) (b : Buffer) (n : ℕ) (t : Bool) → n < length I → do_share b (buffer I n) ≡ t →
    sum_by (λ (c : Buffer). c.size) (filter (do_share b) (take (n + 1) I))
    ≡ sum_by (λ (c : Buffer). c.size) (filter (do_share b) (take n I)) + cond t (buffer I n).size 0
unfolding buffer
next_sum I b n t lt e =
    rw (
      take_more I n no_buffer lt,
      filter-append (do_share b) (take n I) (slice_index_or I n no_buffer ∷ []),
      sum_by-append (λ (c : Buffer). c.size) (filter (do_share b) (take n I))
          (filter (do_share b) (slice_index_or I n no_buffer ∷ [])),
      e,
    )
    (ap (λ s. sum_by (λ (c : Buffer). c.size) (filter (do_share b) (take n I)) + s) (last t))
  where
    last : (t : Bool) →
        sum_by (λ (c : Buffer). c.size) (cond t (slice_index_or I n no_buffer ∷ []) [])
        ≡ cond t (slice_index_or I n no_buffer).size 0
    last true = omega arith
    last false = refl

pub summed_more : (I : Instance) (b : Buffer) (sum more n : ℕ) (t : Bool) → n < length I → IsBuffer (buffer I n) →
    do_share b (buffer I n) ≡ t → more ≡ sum + cond t (buffer I n).size 0 → IsSummed I b sum n →
    IsSummed I b more (n + 1)
summed_more I b sum more n t lt h e is s = record {
  value = is ∙ rw s.value (sym (next_sum I b n t lt e));
  limit = limit t is;
}
  where
    limit : (t : Bool) → more ≡ sum + cond t (buffer I n).size 0 → more ≤ (n + 1) * 2 ^ 40
    limit true q = let k = s.limit in let z = h.within_size in omega arith
    limit false q = let k = s.limit in omega arith

pub summed_all : (I : Instance) (b : Buffer) (sum n : ℕ) → length I ≤ n → IsSummed I b sum n → sum ≡ met I b
unfolding met
summed_all I b sum n le s =
    s.value ∙ ap (λ (J : Instance). sum_by (λ (c : Buffer). c.size) (filter (do_share b) J)) (take_all n I le)
