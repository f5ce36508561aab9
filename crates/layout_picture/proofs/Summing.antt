-- Loads, buffer by buffer.
use Rattle.std.proofs.Common.{◌≡◌, ℕ, zero, suc, ◌+◌, ◌*◌, ◌^◌, ◌<◌, ◌≤◌, Bool, true, false, cond, List, [], ◌∷◌, length, map, take, filter, get_or, replicate, refl, ap, sym, ◌∙◌, arith}
use Rattle.std.specs.List.{All, sum_by}
use Rattle.std.proofs.lemmas.Grind.{same_number_lists}
use Rattle.std.proofs.lemmas.List.{get_or-map, length-map, take_more, take_all}
use Rattle.std.proofs.lemmas.List.Elements.{filter-append}
use Rattle.std.proofs.lemmas.List.Sums.{sum_by-append}
use Rattle.dsa_terms.specs.Buffers.{Buffer, Instance, buffer, is_live, no_buffer}
use Rattle.dsa_terms.specs.Plans.{load}
use Rattle.dsa_terms.proofs.Places.{any_default}
use Rattle.dsa_model.specs.Buffer.{buffer_limit}

-- the size where the buffer is live, and else 0
abbrev added : Bool → ℕ → ℕ
added live size = cond live size 0

load_more : (I : Instance) (b t : ℕ) → b < length I →
    load (take (b + 1) I) t ≡ load (take b I) t + added (is_live (buffer I b) t) (buffer I b).size
unfolding load buffer
load_more I b t lt =
    ap (λ (J : Instance). sum_by (λ (x : Buffer). x.size) (filter (λ x. is_live x t) J)) (take_more I b no_buffer lt)
    ∙ ap (λ (J : Instance). sum_by (λ (x : Buffer). x.size) J)
    (filter-append (λ x. is_live x t) (take b I) (get_or I b no_buffer ∷ []))
    ∙ sum_by-append (λ (x : Buffer). x.size) (filter (λ x. is_live x t) (take b I))
    (filter (λ x. is_live x t) (get_or I b no_buffer ∷ []))
    ∙ ap (λ (n : ℕ). sum_by (λ (x : Buffer). x.size) (filter (λ x. is_live x t) (take b I)) + n)
    (one (is_live (get_or I b no_buffer) t) (get_or I b no_buffer))
  where
    one : (p : Bool) (x : Buffer) → sum_by (λ (x : Buffer). x.size) (cond p (x ∷ []) []) ≡ added p x.size
    one true x = omega arith
    one false x = refl

-- the loads of the buffers below n
pub record IsSummed (I : Instance) (columns : List ℕ) (n : ℕ) (loads : List ℕ) : Type 0 where
  pub count : length loads ≡ length columns
  pub each : (k : ℕ) → k < length columns → get_or loads k 0 ≡ load (take n I) (get_or columns k 0)
  pub limit : (k : ℕ) → k < length columns → get_or loads k 0 ≤ n * 2 ^ 40

-- so many zeros
abbrev pub zeros_of : ℕ → List ℕ
zeros_of n = replicate n 0

pub summed_none : (I : Instance) (columns loads : List ℕ) → loads ≡ zeros_of (length columns) →
    IsSummed I columns 0 loads
unfolding load
summed_none I columns loads e = rw e (record {
  count = counted (length columns);
  each = λ k lt. zeros (length columns) k;
  limit = λ k lt. let z = zeros (length columns) k in omega arith;
})
  where
    counted : (n : ℕ) → length (zeros_of n) ≡ n
    counted zero = refl
    counted (suc n) = ap suc (counted n)

    zeros : (n k : ℕ) → get_or (zeros_of n) k 0 ≡ 0
    zeros zero k = grind arith
    zeros (suc n) zero = refl
    zeros (suc n) (suc k) = zeros n k

pub summed_more : (I : Instance) (columns loads lent more : List ℕ) (flags : List Bool) (n size : ℕ) →
    IsSummed I columns n loads → lent ≡ loads → n < length I → flags ≡ map (is_live (buffer I n)) columns →
    size ≡ (buffer I n).size → size ≤ 2 ^ 40 → length more ≡ length lent →
    ((k : ℕ) → get_or more k 0 ≡ get_or lent k 0 + cond (get_or flags k false) size 0) →
    IsSummed I columns (n + 1) more
summed_more I columns loads lent more flags n size h e lt f s few c m = record {
  count = c ∙ ap (λ (xs : List ℕ). length xs) e ∙ h.count;
  each = λ k kt. m k
      ∙ ap (λ (x : ℕ). x + cond (get_or flags k false) size 0) (ap (λ (xs : List ℕ). get_or xs k 0) e ∙ h.each k kt)
      ∙ ap (λ (x : ℕ). load (take n I) (get_or columns k 0) + x) (own k kt)
      ∙ sym (load_more I n (get_or columns k 0) lt);
  limit = λ k kt. let a = h.limit k kt in let b = m k in let g = ap (λ (xs : List ℕ). get_or xs k 0) e in
      let d = at_most (get_or flags k false) size in omega arith;
}
  where
    own : (k : ℕ) → k < length columns →
        cond (get_or flags k false) size 0 ≡ added (is_live (buffer I n) (get_or columns k 0)) (buffer I n).size
    own k kt = rw (f, s) (ap (λ (p : Bool). cond p (buffer I n).size 0)
        (get_or-map (is_live (buffer I n)) columns k 0 false kt))

    at_most : (p : Bool) (size : ℕ) → cond p size 0 ≤ size
    at_most true size = omega arith
    at_most false size = omega arith

pub summed_all : (I : Instance) (columns loads : List ℕ) (n : ℕ) → IsSummed I columns n loads → length I ≤ n →
    loads ≡ map (load I) columns
summed_all I columns loads n h le = same_number_lists loads (map (load I) columns)
    (h.count ∙ sym (length-map columns (load I)))
    (λ k lt. let kt : k < length columns = let c = h.count in omega arith in
    h.each k kt ∙ ap (λ (J : Instance). load J (get_or columns k 0)) (take_all n I le)
    ∙ sym (get_or-map (load I) columns k 0 0 kt))

-- the flags are as many as the loads that are lent
pub as_many : (I : Instance) (columns loads lent : List ℕ) (flags items : List Bool) (x : Buffer) (n : ℕ) →
    IsSummed I columns n loads → lent ≡ loads → flags ≡ items → items ≡ map (is_live x) columns →
    length flags ≡ length lent
as_many I columns loads lent flags items x n h e f g =
    ap (λ (xs : List Bool). length xs) (f ∙ g) ∙ length-map columns (is_live x)
    ∙ sym (ap (λ (xs : List ℕ). length xs) e ∙ h.count)

-- and each has room for one more size
pub have_room : (I : Instance) (columns loads lent : List ℕ) (n size : ℕ) → IsSummed I columns n loads → lent ≡ loads →
    n ≤ buffer_limit → size ≤ 2 ^ 40 → All (λ (load : ℕ). load + size < 2 ^ 64) lent
have_room I columns loads lent n size h e few s = rw e (λ k d lt.
    let kt : k < length columns = let c = h.count in omega arith in
    let z : get_or loads k d ≡ get_or loads k 0 = any_default loads k d 0 lt in
    let l = h.limit k kt in omega arith)

pub summed_limit : (I : Instance) (columns loads : List ℕ) (n : ℕ) → IsSummed I columns n loads → n ≤ buffer_limit →
    All (λ (load : ℕ). load < 2 ^ 60) loads
summed_limit I columns loads n h few = λ k d lt.
    let kt : k < length columns = let c = h.count in omega arith in
    let z : get_or loads k d ≡ get_or loads k 0 = any_default loads k d 0 lt in
    let l = h.limit k kt in omega arith
