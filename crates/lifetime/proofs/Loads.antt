-- The load of a moment, from the numbers of the buffers that are live then.
use Rattle.std.proofs.Common.{◌≡◌, ◌≢◌, ℕ, suc, ◌+◌, ◌<◌, ◌≤◌, Bool, true, false, cond, [], ◌∷◌, length, filter, slice_index_or, refl, sym, ap, ◌∙◌, arith}
use Rattle.std.specs.List.{All, range_with_len, sum_by}
use Rattle.std.proofs.lemmas.List.Sums.{sum_by-cons}
use Rattle.dsa_terms.specs.Buffers.{Buffer, Instance, buffer, is_live, no_buffer}
use Rattle.dsa_terms.specs.Plans.{load}
use Rattle.dsa_model.specs.Buffer.{IsBuffer}
use Rattle.lifetime.specs.SectionList.{live_at}

-- numbered from a on
by_number : (get : ℕ → Buffer) (I : Instance) (a t : ℕ) →
    ((k : ℕ) → k < length I → get (a + k) ≡ slice_index_or I k no_buffer) →
    sum_by (λ (b : Buffer). b.size) (filter (λ b. is_live b t) I) ≡ sum_by (λ k. (get k).size)
    (filter (λ k. is_live (get k) t) (range_with_len a (length I)))
by_number get [] a t h = refl
by_number get (x ∷ xs) a t h = go (by_number get xs (a + 1) t
    (λ k lt. ap get (let e : a + 1 + k ≡ a + suc k = omega arith in e) ∙ h (suc k) (omega arith))) (is_live x t)
    (is_live (get a) t) same_live same
  where
    joined : {k l m n : ℕ} → k ≡ l → m ≡ n → k + m ≡ l + n
    joined e f = omega arith

    same : get a ≡ x
    same = ap get (let e : a ≡ a + 0 = omega arith in e) ∙ h 0 (omega arith)

    same_live : is_live x t ≡ is_live (get a) t
    same_live = ap (λ b. is_live b t) (sym same)

    go : sum_by (λ (b : Buffer). b.size) (filter (λ b. is_live b t) xs) ≡ sum_by (λ k. (get k).size)
        (filter (λ k. is_live (get k) t) (range_with_len (a + 1) (length xs))) →
        (p q : Bool) → p ≡ q → get a ≡ x →
        sum_by (λ (b : Buffer). b.size) (cond p (x ∷ filter (λ b. is_live b t) xs) (filter (λ b. is_live b t) xs))
        ≡ sum_by (λ k. (get k).size) (cond q (a ∷ filter (λ k. is_live (get k) t) (range_with_len (a + 1) (length xs)))
        (filter (λ k. is_live (get k) t) (range_with_len (a + 1) (length xs))))
    go ih true true e f =
        let z : (get a).size ≡ x.size = ap (λ (b : Buffer). b.size) f in
        sum_by-cons (λ (b : Buffer). b.size) x (filter (λ b. is_live b t) xs)
        ∙ (joined (sym z) ih
        ∙ sym (sum_by-cons (λ k. (get k).size) a (filter (λ k. is_live (get k) t)
        (range_with_len (a + 1) (length xs)))))
    go ih true false e f = absurd cc
    go ih false true e f = absurd cc
    go ih false false e f = ih

pub load_is : (I : Instance) (t : ℕ) → load I t ≡ sum_by (λ b. (buffer I b).size) (live_at I t)
unfolding load live_at buffer
load_is I t = by_number (λ b. slice_index_or I b no_buffer) I 0 t
    (λ k lt. ap (λ n. slice_index_or I n no_buffer) (let e : 0 + k ≡ k = omega arith in e))

-- some buffers have a moment with a load
pub load_positive : (I : Instance) → All IsBuffer I → I ≢ [] → ((t : ℕ) → load I t ≡ 0) → ⊥
unfolding load
load_positive [] h n z = n refl
load_positive (x ∷ xs) h n z =
    let r = (h 0 x (omega arith)).lives in
    at r.0 (is_live x r.0) r.1 (z r.0)
  where
    at : (t : ℕ) (p : Bool) → p ≡ true → sum_by (λ (b : Buffer). b.size)
        (cond p (x ∷ filter (λ b. is_live b t) xs) (filter (λ b. is_live b t) xs)) ≡ 0 → ⊥
    at t true e f =
        let k : 1 ≤ x.size = (h 0 x (omega arith)).sound.0 in
        let q : x.size + sum_by (λ (b : Buffer). b.size) (filter (λ b. is_live b t) xs) ≡ 0 =
        sym (sum_by-cons (λ (b : Buffer). b.size) x (filter (λ b. is_live b t) xs)) ∙ f in
        omega arith
    at t false e f = absurd cc
