-- Cuts: which moments are cuts, and the last one at or below a moment.
use Rattle.std.proofs.Common.{◌≡◌, ℕ, zero, suc, ◌+◌, ◌<◌, ◌≤◌, ◌⊎◌, inl, inr, Bool, true, false, cond, not, ◌&&◌, ◌||◌, List, [], ◌∷◌, length, nat_lt, refl, sym, ap, ◌∙◌, arith}
use Rattle.std.specs.List.{list_any}
use Rattle.dsa_search_laws.proofs.Cuts.{item}
use Rattle.dsa_terms.specs.Buffers.{Buffer, Instance, buffer}
use Rattle.dsa_terms.specs.Claims.{IsIn}
use Rattle.dsa_terms.specs.Parts.{is_cut}
use Rattle.dsa_search_laws.specs.PartsByTime.{last_cut}
use Rattle.dsa_terms.proofs.Lists.{any_from}
use Rattle.dsa_terms.proofs.Moments.{both_true}
use Rattle.dsa_terms.proofs.NumberTests.{below_or_from, is_below, not_below}

-- each item has a number
pub number : (I : Instance) (x : Buffer) → IsIn x I → (b : ℕ) × (b < length I) × (buffer I b ≡ x)
unfolding buffer
number [] x i = absurd i
number (y ∷ ys) x (inl e) = (0, omega arith, sym e)
number (y ∷ ys) x (inr i) = let r = number ys x i in (suc r.0, (let k = r.1 in omega arith), r.2)

-- no cut is strictly inside a lifetime
pub not_cut : (I : Instance) (t b : ℕ) → b < length I → (buffer I b).lower < t → t < (buffer I b).upper →
    is_cut I t ≡ false
unfolding is_cut
not_cut I t b lt low high = ap not
    (any_from (λ (b : Buffer). nat_lt b.lower t && nat_lt t b.upper) I (buffer I b) (item I b lt)
    (both_true (nat_lt (buffer I b).lower t) (nat_lt t (buffer I b).upper) (is_below (buffer I b).lower t low)
    (is_below t (buffer I b).upper high)))

none_inside : (xs : List Buffer) (t : ℕ) → ((x : Buffer) → IsIn x xs → x.lower < t → x.upper ≤ t) →
    list_any (λ (b : Buffer). nat_lt b.lower t && nat_lt t b.upper) xs ≡ false
none_inside [] t h = refl
none_inside (x ∷ xs) t h = go (none_inside xs t (λ y i. h y (inr i))) (outside x.lower x.upper t (h x (inl refl)))
  where
    outside : (low high t : ℕ) → (low < t → high ≤ t) → (nat_lt low t && nat_lt t high) ≡ false
    outside low high t h = by_case (below_or_from low t)
      where
        and_false : (a b : Bool) → b ≡ false → (a && b) ≡ false
        and_false true b h = h
        and_false false b h = refl

        false_and : (a b : Bool) → a ≡ false → (a && b) ≡ false
        false_and true b h = absurd cc
        false_and false b h = refl

        by_case : (low < t) ⊎ (t ≤ low) → (nat_lt low t && nat_lt t high) ≡ false
        by_case (inl lt) = and_false (nat_lt low t) (nat_lt t high) (not_below t high (h lt))
        by_case (inr le) = false_and (nat_lt low t) (nat_lt t high) (not_below low t le)

    go : list_any (λ (b : Buffer). nat_lt b.lower t && nat_lt t b.upper) xs ≡ false →
        (nat_lt x.lower t && nat_lt t x.upper) ≡ false →
        ((nat_lt x.lower t && nat_lt t x.upper) || list_any (λ (b : Buffer). nat_lt b.lower t && nat_lt t b.upper) xs)
        ≡ false
    go ih e = cc

-- what is strictly inside no lifetime is a cut
pub cut_from : (I : Instance) (t : ℕ) → ((b : ℕ) → b < length I → (buffer I b).lower < t → (buffer I b).upper ≤ t) →
    is_cut I t ≡ true
unfolding is_cut
cut_from I t h = ap not (none_inside I t (λ x i low. of_number x (number I x i) low))
  where
    of_number : (x : Buffer) → (b : ℕ) × (b < length I) × (buffer I b ≡ x) → x.lower < t → x.upper ≤ t
    of_number x r low =
        let e : (buffer I r.0).lower ≡ x.lower = ap (λ (y : Buffer). y.lower) r.2 in
        let f : (buffer I r.0).upper ≡ x.upper = ap (λ (y : Buffer). y.upper) r.2 in
        let k = h r.0 r.1 (omega arith) in
        omega arith

-- a cut is the last one at or below itself
pub last_at_cut : (I : Instance) (t : ℕ) → is_cut I t ≡ true → last_cut I t ≡ t
unfolding last_cut
last_at_cut I zero h = refl
last_at_cut I (suc t) h = ap (λ b. cond b (suc t) (last_cut I t)) h

-- up to where no cut is the last one stays
pub last_stays : (I : Instance) (s k : ℕ) → ((u : ℕ) → s < u → u ≤ s + k → is_cut I u ≡ false) →
    last_cut I (s + k) ≡ last_cut I s
unfolding last_cut
last_stays I s zero h = ap (last_cut I) (let e : s + 0 ≡ s = omega arith in e)
last_stays I s (suc k) h =
    let e : s + suc k ≡ suc (s + k) = omega arith in
    ap (last_cut I) e
    ∙ (ap (λ b. cond b (suc (s + k)) (last_cut I (s + k))) (h (suc (s + k)) (omega arith) (omega arith))
    ∙ last_stays I s k (λ u low high. h u low (omega arith)))
