-- Cuts, and what lies between buffers of two parts.
use Rattle.std.proofs.Common.{◌≡◌, ℕ, zero, suc, ◌<◌, ◌≤◌, ◌⊎◌, inl, inr, Bool, true, false, cond, not, ◌&&◌, ◌||◌, [], ◌∷◌, length, refl, ap, arith, nat_lt}
use Rattle.std.specs.List.{list_any}
use Rattle.std.proofs.lemmas.Bool.Decides.{nat_tests}
use Rattle.dsa_terms.specs.Buffers.{Buffer, Instance, buffer, IsLive, IsInstance}
use Rattle.dsa_terms.specs.Claims.{IsIn}
use Rattle.dsa_terms.specs.Parts.{is_cut}
use Rattle.dsa_terms.proofs.Lists.{any_from}
use Rattle.dsa_terms.proofs.Moments.{live_before, live_at_or_after, both_true, lasts, not_true}
use Rattle.dsa_terms.proofs.NumberTests.{below_or_from, is_below}
use Rattle.dsa_search_laws.specs.PartsByTime.{last_cut, start_of, Separates}

-- ---- cuts
not_inside : (b : Buffer) (t : ℕ) → b.lower < t → t < b.upper → (nat_lt b.lower t && nat_lt t b.upper) ≡ true
not_inside b t p q = both_true (nat_lt b.lower t) (nat_lt t b.upper) (is_below b.lower t p) (is_below t b.upper q)

pub item : (I : Instance) (b : ℕ) → b < length I → IsIn (buffer I b) I
unfolding buffer
item [] b lt = absurd (omega arith)
item (x ∷ xs) zero lt = inl refl
item (x ∷ xs) (suc b) lt = inr (item xs b (omega arith))

pub cut_outside : (I : Instance) (t b : ℕ) → is_cut I t ≡ true → b < length I → (buffer I b).lower < t →
    (buffer I b).upper ≤ t
unfolding is_cut
cut_outside I t b h lt low = go (below_or_from t (buffer I b).upper)
  where
    go : (t < (buffer I b).upper) ⊎ ((buffer I b).upper ≤ t) → (buffer I b).upper ≤ t
    go (inr q) = q
    go (inl q) = absurd (
        let some : list_any (λ (b : Buffer). nat_lt b.lower t && nat_lt t b.upper) I ≡ true =
        any_from (λ (b : Buffer). nat_lt b.lower t && nat_lt t b.upper) I (buffer I b) (item I b lt)
        (not_inside (buffer I b) t low q) in
        let none = not_true (list_any (λ (b : Buffer). nat_lt b.lower t && nat_lt t b.upper) I) h in cc)

none_at_zero : (I : Instance) → list_any (λ (b : Buffer). nat_lt b.lower 0 && nat_lt 0 b.upper) I ≡ false
none_at_zero [] = refl
none_at_zero (x ∷ xs) = go (none_at_zero xs) (nat_lt x.lower 0) (zero_below x.lower)
  where
    zero_below : (n : ℕ) → nat_lt n 0 ≡ false
    zero_below n = grind (arith, nat_tests)

    go : list_any (λ (b : Buffer). nat_lt b.lower 0 && nat_lt 0 b.upper) xs ≡ false → (t : Bool) → t ≡ false →
        ((t && nat_lt 0 x.upper) || list_any (λ (b : Buffer). nat_lt b.lower 0 && nat_lt 0 b.upper) xs) ≡ false
    go ih true q = absurd cc
    go ih false q = ih

pub last_cut_is : (I : Instance) (t : ℕ) → is_cut I (last_cut I t) ≡ true
unfolding is_cut last_cut
last_cut_is I zero = ap not (none_at_zero I)
last_cut_is I (suc t) = go (last_cut_is I t) (is_cut I (suc t)) refl
  where
    go : is_cut I (last_cut I t) ≡ true → (b : Bool) → is_cut I (suc t) ≡ b →
        is_cut I (cond b (suc t) (last_cut I t)) ≡ true
    go ih true q = q
    go ih false q = ih

pub last_cut_le : (I : Instance) (t : ℕ) → last_cut I t ≤ t
unfolding last_cut
last_cut_le I zero = omega arith
last_cut_le I (suc t) = go (last_cut_le I t) (is_cut I (suc t))
  where
    go : last_cut I t ≤ t → (b : Bool) → cond b (suc t) (last_cut I t) ≤ suc t
    go ih true = omega arith
    go ih false = omega arith

pub last_cut_is_greatest : (I : Instance) (t s : ℕ) → is_cut I s ≡ true → s ≤ t → s ≤ last_cut I t
unfolding last_cut
last_cut_is_greatest I zero s h le = omega arith
last_cut_is_greatest I (suc t) s h le = go (last_cut_is_greatest I t s h) (is_cut I (suc t)) refl
  where
    cases : (s t : ℕ) → s ≤ suc t → (s ≤ t) ⊎ (s ≡ suc t)
    cases s t h = grind arith

    go : (s ≤ t → s ≤ last_cut I t) → (b : Bool) → is_cut I (suc t) ≡ b → s ≤ cond b (suc t) (last_cut I t)
    go ih true q = le
    go ih false q = elim (cases s t le) [
      | inl k ↦ ih k
      | inr k ↦ absurd (let e : is_cut I s ≡ is_cut I (suc t) = ap (is_cut I) k in cc)
    ]

-- ---- between buffers of two parts lies the cut at which the later part begins
pub begins_before : (I : Instance) (b c : ℕ) → start_of I b < start_of I c → (buffer I b).lower < start_of I c
unfolding start_of
begins_before I b c less = elim (below_or_from (buffer I b).lower (start_of I c)) [
  | inl q ↦ q
  | inr q ↦ absurd (let k = last_cut_is_greatest I (buffer I b).lower (start_of I c)
      (last_cut_is I (buffer I c).lower) q in omega arith)
]

pub cut_between : (I : Instance) (b c : ℕ) → b < length I → start_of I b < start_of I c →
    (is_cut I (start_of I c) ≡ true) × Separates (start_of I c) (buffer I b) (buffer I c)
unfolding start_of
cut_between I b c lt less =
    let cut = last_cut_is I (buffer I c).lower in (
      cut,
      (cut_outside I (start_of I c) b cut lt (begins_before I b c less), last_cut_le I (buffer I c).lower),
    )

-- and no cut lies between buffers of one part
pub no_cut_between : (I : Instance) (b c t : ℕ) → IsInstance I → b < length I → start_of I b ≡ start_of I c →
    is_cut I t ≡ true → Separates t (buffer I b) (buffer I c) → ⊥
unfolding start_of
no_cut_between I b c t s lt same cut sep =
    let k = last_cut_is_greatest I (buffer I c).lower t cut sep.1 in
    let a = last_cut_le I (buffer I b).lower in let z = lasts I b s lt in let w = sep.0 in
    omega arith

pub sharing_is_one_part : (I : Instance) (b c t : ℕ) → b < length I → c < length I → IsLive (buffer I b) t →
    IsLive (buffer I c) t → start_of I b ≡ start_of I c
sharing_is_one_part I b c t bn cn p q = go (cases (start_of I b) (start_of I c))
  where
    cases : (m n : ℕ) → (m < n) ⊎ ((n < m) ⊎ (m ≡ n))
    cases m n = grind arith

    go : (start_of I b < start_of I c) ⊎ ((start_of I c < start_of I b) ⊎ (start_of I b ≡ start_of I c)) →
        start_of I b ≡ start_of I c
    go (inl h) = absurd (let k = cut_between I b c bn h in let a = k.1.0 in let d = k.1.1 in
        let e = live_before (buffer I b) t p in let f = live_at_or_after (buffer I c) t q in omega arith)
    go (inr (inl h)) = absurd (let k = cut_between I c b cn h in let a = k.1.0 in let d = k.1.1 in
        let e = live_before (buffer I c) t q in let f = live_at_or_after (buffer I b) t p in omega arith)
    go (inr (inr h)) = h
