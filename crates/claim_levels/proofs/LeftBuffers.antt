-- The buffers that have a level: found one after another, and those that are left in a child.
use Rattle.std.proofs.Common.{◌≡◌, ◌≢◌, ℕ, ◌+◌, ◌-◌, ◌<◌, ◌≤◌, inl, inr, true, false, List, [], ◌∷◌, ◌++◌, length, slice_index, slice_index_or, sym, ap, ◌∙◌, subst, arith}
use Rattle.claim_levels.proofs.Words.{IsIn, Rises, has, from_append, has_in, in_has, left_append, right_append, below_or_from, below_or_last, same_or_not}
use Rattle.dsa_terms.proofs.Ranges.{rises-push}
use Rattle.lifetime.specs.Switching.{IsSwitched}
use Rattle.lifetime.proofs.Lists.{rises_at}
use Rattle.claim_levels.specs.Children.{AreOfChild}
use Rattle.claim_levels.specs.Levels.{AreLeft}
use Rattle.claim_levels.proofs.Grounding.{some_within}

-- the buffers below n that have a level, rising
pub record AreLeftBelow (levels : List ℕ) (n : ℕ) (left : List ℕ) : Type 0 where
  pub rises : Rises left
  pub below : (b : ℕ) → IsIn b left → b < n
  pub some : (b : ℕ) → IsIn b left → 0 < slice_index levels b
  pub all : (b : ℕ) → b < n → 0 < slice_index levels b → IsIn b left

module _ (levels : List ℕ) where
  pub left_next : (n : ℕ) (before after : List ℕ) → after ≡ before ++ n ∷ [] → 0 < slice_index levels n →
      AreLeftBelow levels n before → AreLeftBelow levels (n + 1) after
  left_next n before after q more h = subst (λ (xs : List ℕ). AreLeftBelow levels (n + 1) xs) (sym q) (record {
    rises = rises-push before n h.rises h.below;
    below = λ b i. elim (from_append before (n ∷ []) b i) [
      | inl j ↦ (let k = h.below b j in omega (arith, k))
      | inr j ↦ elim j [ inl p ↦ omega (arith, p) | inr z ↦ absurd z ]
    ];
    some = λ b i. elim (from_append before (n ∷ []) b i) [
      | inl j ↦ h.some b j
      | inr j ↦ elim j [ inl p ↦ subst (λ (b : ℕ). 0 < slice_index levels b) (sym p) more | inr z ↦ absurd z ]
    ];
    all = λ b lt some. elim (below_or_last b n lt) [
      | inl less ↦ left_append before (n ∷ []) b (h.all b less some)
      | inr last ↦ right_append before (n ∷ []) b (inl last)
    ];
  })

  pub left_skip : (n : ℕ) (left : List ℕ) → slice_index levels n ≡ 0 → AreLeftBelow levels n left →
      AreLeftBelow levels (n + 1) left
  left_skip n left z h = record {
    rises = h.rises;
    below = λ b i. (let k = h.below b i in omega (arith, k));
    some = h.some;
    all = λ b lt some. elim (below_or_last b n lt) [
      | inl less ↦ h.all b less some
      | inr last ↦ absurd (let p = ap (slice_index levels) last in omega (arith, p, z, some))
    ];
  }

  pub left_all : (n : ℕ) (left : List ℕ) → length levels ≤ n → AreLeftBelow levels n left → AreLeft levels left
  left_all n left le h = record {
    rises = h.rises;
    some = h.some;
    all = λ b some. h.all b (let k = some_within levels b some in omega (arith, k, le)) some;
  }

  pub left_within : (left : List ℕ) (b : ℕ) → AreLeft levels left → IsIn b left → b < length levels
  left_within left b a i = some_within levels b (a.some b i)

-- ---- all but the one that was chosen, and all again
module _ (levels numbers left others : List ℕ) (b : ℕ) (h : AreOfChild levels b numbers) where
  apart : (c : ℕ) → 0 < slice_index numbers c → c ≢ b
  apart c more q = let p = ap (slice_index numbers) q in let z = h.own in omega (arith, p, z, more)

  pub child_left : AreLeft levels left → IsSwitched left b false others → AreLeft numbers others
  child_left a sw = record {
    rises = sw.rises;
    some = λ c i.
        let ne = other c i in
        h.all c ne (a.some c (has_in c left (sym (sw.others c ne) ∙ in_has c others i)));
    all = λ c more. has_in c others (sw.others c (apart c more) ∙ in_has c left (a.all c (h.some c more)));
  }
    where
      other : (c : ℕ) → IsIn c others → c ≢ b
      other c i q =
          let t : has b others ≡ true = in_has b others (subst (λ (c : ℕ). IsIn c others) q i) in
          let f = sw.own in
          absurd cc

  pub claim_left : 0 < slice_index levels b → AreLeft numbers others → IsSwitched others b true left →
      AreLeft levels left
  claim_left own a sw = record {
    rises = sw.rises;
    some = λ c i. elim (same_or_not c b) [
      | inl q ↦ subst (λ (c : ℕ). 0 < slice_index levels c) (sym q) own
      | inr ne ↦ h.some c (a.some c (has_in c others (sym (sw.others c ne) ∙ in_has c left i)))
    ];
    all = λ c more. elim (same_or_not c b) [
      | inl q ↦ subst (λ (c : ℕ). IsIn c left) (sym q) (has_in b left sw.own)
      | inr ne ↦ has_in c left (sw.others c ne ∙ in_has c others (a.all c (h.all c ne more)))
    ];
  }

-- ---- a place in a rising list, by its neighbours
module _ (left : List ℕ) (b place : ℕ) (r : Rises left) where
  pub less_before : place ≤ length left → (0 < place → slice_index_or left (place - 1) 0 < b) →
      (k : ℕ) → k < length left → k < place → slice_index_or left k 0 < b
  less_before within near k kn lt =
      let previous = near (omega (arith, lt)) in
      elim (below_or_from k (place - 1)) [
        | inl less ↦ (let m = rises_at left k (place - 1) 0 r less (omega (arith, within, lt)) in
            omega (arith, m, previous))
        | inr le ↦ (let q : k ≡ place - 1 = omega (arith, le, lt) in
            subst (λ (n : ℕ). slice_index_or left n 0 < b) (sym q) previous)
      ]

  pub greater_from : (place < length left → b < slice_index_or left place 0) →
      (k : ℕ) → k < length left → place ≤ k → b < slice_index_or left k 0
  greater_from near k kn le =
      let next = near (omega (arith, kn, le)) in
      elim (below_or_from place k) [
        | inl less ↦ (let m = rises_at left place k 0 r less kn in omega (arith, m, next))
        | inr back ↦ (let q : k ≡ place = omega (arith, le, back) in
            subst (λ (n : ℕ). b < slice_index_or left n 0) (sym q) next)
      ]
