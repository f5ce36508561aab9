-- The moments at which buffers begin or end to be live.
use Rattle.std.proofs.Common.{◌≡◌, ℕ, zero, suc, ◌+◌, ◌-◌, ◌*◌, ◌<◌, ◌≤◌, inl, inr, Bool, true, false, not, eqb, List, [], ◌∷◌, ◌++◌, length, map, filter, get_or, refl, ap, sym, subst, ◌∙◌, arith, length-append}
use Rattle.std.specs.Bool.{beq}
use Rattle.std.specs.List.{All, dedup, list_any}
use Rattle.std.specs.List.Sorted.{IsPermutation, IsSorted}
use Rattle.std.specs.Ordering.{nat_cmp}
use Rattle.std.proofs.lemmas.List.Kept.{Contains-dedup_nat, Contains-from_dedup}
use Rattle.std.proofs.lemmas.List.Sorted.{Contains-permutation, IsPermutation-sym}
use Rattle.std.proofs.lemmas.Map.Keys.{IsStrictlyIncreasing-dedup}
use Rattle.dsa_terms.specs.Buffers.{Buffer, Instance, buffer, is_live, no_buffer}
use Rattle.dsa_terms.specs.Claims.{IsIn}
use Rattle.dsa_terms.specs.Logs.{greatest}
use Rattle.dsa_terms.specs.Parts.{numbers}
use Rattle.dsa_terms.proofs.Lists.{any_from, any_gives, from_append, from_filter, into_filter, left_append, length-filter_le, right_append}
use Rattle.dsa_terms.proofs.NumberTests.{below_or_last}
use Rattle.dsa_terms.proofs.Places.{from_contains, in_at, place_of, rises_from_increasing, to_contains}
use Rattle.dsa_terms.proofs.Ranges.{among}
use Rattle.dsa_model.specs.Buffer.{IsBuffer, IsInside, gap_limit}
use Rattle.lifetime.specs.Edges.{edge_moments, gap_ends}
use Rattle.lifetime.specs.Runs.{was_live}
use Rattle.lifetime.proofs.Among.{same_members}
use Rattle.lifetime.proofs.Lists.{in_or_not, rises-numbers}
use Rattle.lifetime.proofs.Stays.{quiet}
use Rattle.layout_picture.specs.Columns.{columns_of, turns_at}

-- after moment 0 it is what was at the moment before
pub was_live_later : (b : Buffer) (t : ℕ) → 0 < t → was_live b t ≡ is_live b (t - 1)
unfolding was_live
was_live_later b zero lt = absurd (omega arith)
was_live_later b (suc t) lt = ap (is_live b) (let e : t ≡ suc t - 1 = omega arith in e)

-- ---- a buffer turns at its edges alone
pub turn_is_edge : (x : Buffer) (t : ℕ) → turns_at t x ≡ true → IsIn t (edge_moments x)
unfolding turns_at
turn_is_edge x t h = elim (in_or_not t (edge_moments x)) [
  | inl i ↦ i
  | inr n ↦ absurd (no (was_live x t) (is_live x t) (quiet x t n) h)
]
  where
    no : (p q : Bool) → q ≡ p → not (beq p q) ≡ true → ⊥
    no true true e h = cc
    no false false e h = cc
    no true false e h = cc
    no false true e h = cc

gap_end_within : (lower upper t : ℕ) (gaps : List (ℕ × ℕ)) → ((g : ℕ × ℕ) → IsIn g gaps → IsInside lower upper g) →
    IsIn t (gap_ends gaps) → t ≤ upper
gap_end_within lower upper t [] h i = absurd i
gap_end_within lower upper t (g ∷ gaps) h (inl e) =
    let k = h g (inl refl) in let a = k.not_empty in let b = k.to_upper in omega arith
gap_end_within lower upper t (g ∷ gaps) h (inr (inl e)) = let k = h g (inl refl) in let b = k.to_upper in omega arith
gap_end_within lower upper t (g ∷ gaps) h (inr (inr i)) = gap_end_within lower upper t gaps (λ g j. h g (inr j)) i

edge_within : (x : Buffer) (t : ℕ) → IsBuffer x → IsIn t (edge_moments x) → t ≤ x.upper
edge_within x t h (inl e) = let k = h.sound.2 in omega arith
edge_within x t h (inr (inl e)) = omega arith
edge_within x t h (inr (inr i)) = gap_end_within x.lower x.upper t x.gaps
    (λ g j. let p = place_of x.gaps g g j in
    subst (λ (f : ℕ × ℕ). IsInside x.lower x.upper f) p.2 (h.gaps_inside p.0 g p.1)) i

pub in_greatest : (I : Instance) (x : Buffer) → IsIn x I → x.upper ≤ greatest (map (λ (b : Buffer). b.upper) I)
in_greatest [] x i = absurd i
in_greatest (y ∷ I) x (inl e) = let k : x.upper ≡ y.upper = ap (λ (b : Buffer). b.upper) e in omega arith
in_greatest (y ∷ I) x (inr i) = let k = in_greatest I x i in omega arith

-- ---- gathered from the buffers below n
pub record IsGathered (I : Instance) (n : ℕ) (xs : List ℕ) : Type 0 where
  pub each : (t : ℕ) → IsIn t xs → (b : ℕ) × (b < n) × (turns_at t (buffer I b) ≡ true)
  pub all : (b t : ℕ) → b < n → turns_at t (buffer I b) ≡ true → IsIn t xs
  pub few : length xs ≤ (2 + 2 * gap_limit) * n

pub gathered_none : (I : Instance) (xs : List ℕ) → xs ≡ [] → IsGathered I 0 xs
gathered_none I xs e = rw e (record {
  each = λ t i. absurd i;
  all = λ b t lt h. absurd (omega arith);
  few = omega arith;
})

length-gap_ends : (gaps : List (ℕ × ℕ)) → length (gap_ends gaps) ≡ 2 * length gaps
length-gap_ends [] = refl
length-gap_ends (g ∷ gs) = let k = length-gap_ends gs in omega arith

pub gathered_more : (I : Instance) (n : ℕ) (x : Buffer) (xs more : List ℕ) → IsGathered I n xs → x ≡ buffer I n →
    length x.gaps ≤ gap_limit → more ≡ xs ++ filter (λ t. turns_at t x) (edge_moments x) → IsGathered I (n + 1) more
gathered_more I n x xs more h e few m = rw m (record {
  each = each;
  all = all;
  few =
      let k = length-gap_ends x.gaps in
      let w = length-append xs (filter (λ t. turns_at t x) (edge_moments x)) in
      let z = length-filter_le (λ t. turns_at t x) (edge_moments x) in let a = h.few in omega arith;
})
  where
    each : (t : ℕ) → IsIn t (xs ++ filter (λ t. turns_at t x) (edge_moments x)) →
        (b : ℕ) × (b < n + 1) × (turns_at t (buffer I b) ≡ true)
    each t i = elim (from_append xs (filter (λ t. turns_at t x) (edge_moments x)) t i) [
      | inl j ↦ (let k = h.each t j in let lt = k.1 in (k.0, omega arith, k.2))
      | inr j ↦ (
        n,
        omega arith,
        subst (λ (y : Buffer). turns_at t y ≡ true) e
            (from_filter (λ t. turns_at t x) (edge_moments x) t j).1,
      )
    ]

    all : (b t : ℕ) → b < n + 1 → turns_at t (buffer I b) ≡ true →
        IsIn t (xs ++ filter (λ t. turns_at t x) (edge_moments x))
    all b t lt q = elim (below_or_last b n lt) [
      | inl k ↦ left_append xs (filter (λ t. turns_at t x) (edge_moments x)) t (h.all b t k q)
      | inr k ↦ right_append xs (filter (λ t. turns_at t x) (edge_moments x)) t (own k)
    ]
      where
        own : b ≡ n → IsIn t (filter (λ t. turns_at t x) (edge_moments x))
        own k =
            let z : turns_at t x ≡ true =
            subst (λ (y : Buffer). turns_at t y ≡ true) (ap (buffer I) k ∙ sym e) q in
            into_filter (λ t. turns_at t x) (edge_moments x) t (turn_is_edge x t z) z

-- ---- in order, each once
pub gathered_all : (I : Instance) (n : ℕ) (xs sorted ys : List ℕ) → IsGathered I n xs → n ≡ length I → All IsBuffer I →
    IsPermutation xs sorted → IsSorted nat_cmp sorted → ys ≡ dedup eqb sorted → ys ≡ columns_of I
unfolding columns_of buffer
gathered_all I n xs sorted ys h e good p up is =
    same_members ys (columns_of I) (rw is (rises_from_increasing _ (IsStrictlyIncreasing-dedup sorted up)))
    (rises-numbers (λ t. list_any (turns_at t) I) _) into back
  where
    uppers : ℕ
    uppers = greatest (map (λ (b : Buffer). b.upper) I)

    from : (t : ℕ) → IsIn t ys → IsIn t xs
    from t i = from_contains xs t (Contains-permutation sorted xs t (IsPermutation-sym xs sorted p)
        (Contains-from_dedup eqb sorted t (to_contains (dedup eqb sorted) t (subst (IsIn t) is i))))

    to : (t : ℕ) → IsIn t xs → IsIn t ys
    to t i = subst (IsIn t) (sym is) (from_contains (dedup eqb sorted) t
        (Contains-dedup_nat sorted t (Contains-permutation xs sorted t p (to_contains xs t i))))

    into : (t : ℕ) → IsIn t ys → IsIn t (columns_of I)
    into t i =
        let r = h.each t (from t i) in
        let lt : r.0 < length I = let k = r.1 in omega arith in
        let x : Buffer = get_or I r.0 no_buffer in
        let m : IsIn x I = in_at I r.0 no_buffer lt in
        let z = edge_within x t (good r.0 no_buffer lt) (turn_is_edge x t r.2) in
        let g = in_greatest I x m in
        into_filter (λ t. list_any (turns_at t) I) (numbers (greatest (map (λ (b : Buffer). b.upper) I) + 1)) t
        (among _ t (omega arith)) (any_from (turns_at t) I x m r.2)

    back : (t : ℕ) → IsIn t (columns_of I) → IsIn t ys
    back t i =
        let q = (from_filter (λ t. list_any (turns_at t) I)
        (numbers (greatest (map (λ (b : Buffer). b.upper) I) + 1)) t i).1 in
        let r = any_gives (turns_at t) I q in
        let k = place_of I r.0 no_buffer r.1 in
        to t (h.all k.0 t (let lt = k.1 in omega arith)
        (subst (λ (y : Buffer). turns_at t y ≡ true) (sym k.2) r.2))
