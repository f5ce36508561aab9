-- Moments at which buffers are live.
use Rattle.std.proofs.Common.{◌≡◌, ℕ, zero, suc, ◌<◌, ◌≤◌, ◌⊎◌, inl, inr, Bool, true, false, not, ◌||◌, ◌&&◌, length, nat_le, nat_lt, max, slice_index_or, sym, refl, ap, ◌∙◌, arith}
use Rattle.std.proofs.lemmas.Bool.Decides.{nat_tests}
use Rattle.std.proofs.lemmas.List.{get_or_past}
use Rattle.std.specs.List.{list_any}
use Rattle.std.specs.Bool.{beq}
use Rattle.dsa_terms.specs.Buffers.{Buffer, Instance, buffer, is_live, is_within, IsLive, Share, some_before, do_share, have_same_moments, HaveSameMoments, IsInstance, no_buffer}

pub and_true : (a b : Bool) → (a && b) ≡ true → (a ≡ true) × (b ≡ true)
and_true true b h = (refl, h)
and_true false b h = absurd cc

pub both_true : (a b : Bool) → a ≡ true → b ≡ true → (a && b) ≡ true
both_true true b h k = k
both_true false b h k = absurd cc

pub or_false : (a b : Bool) → (a || b) ≡ false → (a ≡ false) × (b ≡ false)
or_false true b h = absurd cc
or_false false b h = (refl, h)

pub not_true : (a : Bool) → not a ≡ true → a ≡ false
not_true true h = absurd cc
not_true false h = refl

-- ---- some moment before n
pub before_gives : (n : ℕ) (test : ℕ → Bool) → some_before n test ≡ true → (t : ℕ) × (test t ≡ true)
unfolding some_before
before_gives zero test h = absurd cc
before_gives (suc n) test h = go (before_gives n test) (test n) refl h
  where
    go : (some_before n test ≡ true → (t : ℕ) × (test t ≡ true)) → (b : Bool) → test n ≡ b →
        (b || some_before n test) ≡ true → (t : ℕ) × (test t ≡ true)
    go ih true e q = (n, e)
    go ih false e q = ih q

pub none_before : (n : ℕ) (test : ℕ → Bool) (t : ℕ) → some_before n test ≡ false → t < n → test t ≡ false
unfolding some_before
none_before zero test t h lt = absurd (omega arith)
none_before (suc n) test t h lt = go (none_before n test t) (or_false (test n) (some_before n test) h) (cases t n lt)
  where
    cases : (t n : ℕ) → t < suc n → (t ≡ n) ⊎ (t < n)
    cases t n lt = grind arith

    go : (some_before n test ≡ false → t < n → test t ≡ false) → (test n ≡ false) × (some_before n test ≡ false) →
        (t ≡ n) ⊎ (t < n) → test t ≡ false
    go ih q (inl e) = ap test e ∙ q.0
    go ih q (inr l) = ih q.1 l

-- ---- live
pub live_before : (b : Buffer) (t : ℕ) → IsLive b t → t < b.upper
unfolding is_live
live_before b t h =
    close ((and_true (nat_le b.lower t) (nat_lt t b.upper)
    ((and_true (nat_le b.lower t && nat_lt t b.upper) (not (list_any (is_within t) b.gaps)) h).0)).1)
  where
    close : nat_lt t b.upper ≡ true → t < b.upper
    close q = grind (arith, nat_tests)

pub live_at_or_after : (b : Buffer) (t : ℕ) → IsLive b t → b.lower ≤ t
unfolding is_live
live_at_or_after b t h =
    close ((and_true (nat_le b.lower t) (nat_lt t b.upper)
    ((and_true (nat_le b.lower t && nat_lt t b.upper) (not (list_any (is_within t) b.gaps)) h).0)).0)
  where
    close : nat_le b.lower t ≡ true → b.lower ≤ t
    close q = grind (arith, nat_tests)

pub do_share-gives : (b c : Buffer) → do_share b c ≡ true → Share b c
unfolding do_share
do_share-gives b c h =
    let r = before_gives b.upper (λ t. is_live b t && is_live c t) h in
    let q = and_true (is_live b r.0) (is_live c r.0) r.1 in
    (r.0, q.0, q.1)

pub do_share-false : (b c : Buffer) (t : ℕ) → do_share b c ≡ false → IsLive b t → IsLive c t → ⊥
unfolding do_share
do_share-false b c t h p q =
    let e : (is_live b t && is_live c t) ≡ false = none_before b.upper (λ t. is_live b t && is_live c t) t h
    (live_before b t p) in
    let f : (is_live b t && is_live c t) ≡ true = both_true (is_live b t) (is_live c t) p q in
    absurd (cc (e, f))

-- ---- same moments
unequal_false : (a b : Bool) → not (beq a b) ≡ false → a ≡ b
unequal_false true true h = refl
unequal_false true false h = absurd cc
unequal_false false true h = absurd cc
unequal_false false false h = refl

pub same_moments : (b c : Buffer) → have_same_moments b c ≡ true → HaveSameMoments b c
unfolding have_same_moments
same_moments b c h t = go (is_live b t) (is_live c t) refl refl
  where
    at : t < max b.upper c.upper → is_live b t ≡ is_live c t
    at lt = unequal_false (is_live b t) (is_live c t)
        (none_before (max b.upper c.upper) (λ t. not (beq (is_live b t) (is_live c t))) t
        (not_true (some_before (max b.upper c.upper) (λ t. not (beq (is_live b t) (is_live c t)))) h) lt)

    go : (x y : Bool) → is_live b t ≡ x → is_live c t ≡ y → is_live b t ≡ is_live c t
    go true y p q = at (let l : t < b.upper = live_before b t p in omega arith)
    go false true p q = at (let l : t < c.upper = live_before c t q in omega arith)
    go false false p q = p ∙ sym q

-- ---- each number's buffer has a size and an alignment
pub sound : (I : Instance) (b : ℕ) → IsInstance I → (1 ≤ (buffer I b).size) × (1 ≤ (buffer I b).alignment)
unfolding buffer
sound I b h = go (cases b (length I))
  where
    cases : (b n : ℕ) → (b < n) ⊎ (n ≤ b)
    cases b n = grind arith

    go : (b < length I) ⊎ (length I ≤ b) → (1 ≤ (slice_index_or I b no_buffer).size)
        × (1 ≤ (slice_index_or I b no_buffer).alignment)
    go (inl lt) = let q = h b no_buffer lt in (q.0, q.1)
    go (inr le) = rw (get_or_past I b no_buffer le) (omega arith, omega arith)

-- and each buffer of the instance a lifetime
pub lasts : (I : Instance) (b : ℕ) → IsInstance I → b < length I → (buffer I b).lower < (buffer I b).upper
unfolding buffer
lasts I b h lt = (h b no_buffer lt).2
