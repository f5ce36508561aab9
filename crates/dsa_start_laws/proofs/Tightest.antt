-- Best-fit takes the shortest and lowest of the ranges that hold the buffer.
use Rattle.std.proofs.Common.{◌≡◌, ℕ, ◌-◌, ◌<◌, ◌≤◌, ◌⊎◌, inl, inr, Bool, true, false, cond, ◌&&◌, ◌||◌, ◌==◌, List, [], ◌∷◌, find, not, nat_lt, Option, Some, None, sym, refl, ap, ◌∙◌, arith}
use Rattle.std.specs.List.{list_all}
use Rattle.std.proofs.lemmas.Bool.Decides.{nat_tests}
use Rattle.dsa_terms.specs.Claims.{IsIn}
use Rattle.dsa_terms.specs.Fits.{Range, is_tighter, tightest}
use Rattle.dsa_terms.proofs.Lists.{all_at}
use Rattle.dsa_terms.proofs.Moments.{not_true}

-- of a range and maybe another the tighter one
abbrev pub tighter_of : Range → Option Range → Option Range
tighter_of r None = Some r
tighter_of r (Some s) = cond (is_tighter s r) (Some s) (Some r)

-- the tightest of the ranges, found by going through them
abbrev pub tightest_in_turn : List Range → Option Range
tightest_in_turn [] = None
tightest_in_turn (r ∷ rs) = tighter_of r (tightest_in_turn rs)

-- ---- the tightest
abbrev tighter_test : ℕ → ℕ → ℕ → ℕ → Bool
tighter_test l m a b = nat_lt l m || ((l == m) && nat_lt a b)

not_tighter : (l m a b : ℕ) → tighter_test l m a b ≡ false → (m ≤ l) × (l ≡ m → b ≤ a)
not_tighter l m a b h = (grind (arith, nat_tests), λ q. grind (arith, nat_tests))

tighter_is : (l m a b : ℕ) → tighter_test l m a b ≡ true → (l < m) ⊎ ((l ≡ m) × (a < b))
tighter_is l m a b h = grind (arith, nat_tests)

no_tighter_from : (l m a b : ℕ) → m ≤ l → (l ≡ m → b ≤ a) → tighter_test l m a b ≡ false
no_tighter_from l m a b h k = grind (arith, nat_tests)

-- no range is tighter than itself, nor than one that it is not tighter than
not_itself : (r : Range) → is_tighter r r ≡ false
unfolding is_tighter
not_itself r = no_tighter_from (r.stop - r.start) (r.stop - r.start) r.start r.start (omega arith) (λ q. omega arith)

not_back : (r s : Range) → is_tighter s r ≡ true → is_tighter r s ≡ false
unfolding is_tighter
not_back r s h = go (s.stop - s.start) (r.stop - r.start) s.start r.start
    (tighter_is (s.stop - s.start) (r.stop - r.start) s.start r.start h)
  where
    go : (l m a b : ℕ) → (l < m) ⊎ ((l ≡ m) × (a < b)) → tighter_test m l b a ≡ false
    go l m a b (inl q) = no_tighter_from m l b a (omega arith) (λ z. omega arith)
    go l m a b (inr q) = no_tighter_from m l b a (omega arith) (λ z. omega arith)

pub not_along : (r s u : Range) → is_tighter u s ≡ false → is_tighter s r ≡ false → is_tighter u r ≡ false
unfolding is_tighter
not_along r s u h k = go (u.stop - u.start) (s.stop - s.start) (r.stop - r.start) u.start s.start r.start
    (not_tighter (u.stop - u.start) (s.stop - s.start) u.start s.start h)
    (not_tighter (s.stop - s.start) (r.stop - r.start) s.start r.start k)
  where
    go : (l m n a b c : ℕ) → (m ≤ l) × (l ≡ m → b ≤ a) → (n ≤ m) × (m ≡ n → c ≤ b) → tighter_test l n a c ≡ false
    go l m n a b c p q = no_tighter_from l n a c (omega arith) (λ z. let x : b ≤ a = p.1 (omega arith) in
        let y : c ≤ b = q.1 (omega arith) in omega arith)

in_turn_is_in : (rs : List Range) (r : Range) → tightest_in_turn rs ≡ Some r → IsIn r rs
in_turn_is_in [] r h = absurd cc
in_turn_is_in (x ∷ xs) r h = go (tightest_in_turn xs) (in_turn_is_in xs) h
  where
    pick : (s : Range) (b : Bool) → ((y : Range) → Some s ≡ Some y → IsIn y xs) → cond b (Some s) (Some x) ≡ Some r →
        IsIn r (x ∷ xs)
    pick s true ih q = inr (ih r q)
    pick s false ih q = inl cc

    go : (o : Option Range) → ((y : Range) → o ≡ Some y → IsIn y xs) → tighter_of x o ≡ Some r → IsIn r (x ∷ xs)
    go None ih q = inl cc
    go (Some s) ih q = pick s (is_tighter s x) ih q

none_in : (xs : List Range) (s : Range) → tightest_in_turn xs ≡ None → IsIn s xs → ⊥
none_in [] s h i = i
none_in (x ∷ xs) s h i = go (tightest_in_turn xs) h
  where
    pick : (b : Bool) (y : Range) → cond b (Some y) (Some x) ≡ None → ⊥
    pick true y q = cc
    pick false y q = cc

    go : (o : Option Range) → tighter_of x o ≡ None → ⊥
    go None q = cc
    go (Some y) q = pick (is_tighter y x) y q

none_tighter_in_turn : (rs : List Range) (r s : Range) → tightest_in_turn rs ≡ Some r → IsIn s rs →
    is_tighter s r ≡ false
none_tighter_in_turn [] r s h i = absurd i
none_tighter_in_turn (x ∷ xs) r s h i = go (tightest_in_turn xs) refl (none_tighter_in_turn xs) h i
  where
    go : (o : Option Range) → tightest_in_turn xs ≡ o →
        ((r s : Range) → tightest_in_turn xs ≡ Some r → IsIn s xs → is_tighter s r ≡ false) → tighter_of x o ≡ Some r →
        IsIn s (x ∷ xs) → is_tighter s r ≡ false
    go None e ih q (inl j) = let z : x ≡ r = cc in rw (j, z) (not_itself r)
    go None e ih q (inr j) = absurd (none_in xs s e j)
    go (Some y) e ih q j = pick (is_tighter y x) refl q j
      where
        pick : (b : Bool) → is_tighter y x ≡ b → cond b (Some y) (Some x) ≡ Some r → IsIn s (x ∷ xs) →
            is_tighter s r ≡ false
        pick true t q (inl j) = let z : y ≡ r = cc in rw (j, ← z) (not_back x y t)
        pick true t q (inr j) = let z : y ≡ r = cc in rw (← z) (ih y s e j)
        pick false t q (inl j) = let z : x ≡ r = cc in rw (j, z) (not_itself r)
        pick false t q (inr j) = let z : x ≡ r = cc in rw (← z) (not_along x y s (ih y s e j) t)

-- ---- the first that none is tighter than is found by going through them
chain : (r s u : Range) → is_tighter s r ≡ true → is_tighter r u ≡ true → is_tighter s u ≡ true
unfolding is_tighter
chain r s u h k = go (s.stop - s.start) (r.stop - r.start) (u.stop - u.start) s.start r.start u.start
    (tighter_is (s.stop - s.start) (r.stop - r.start) s.start r.start h)
    (tighter_is (r.stop - r.start) (u.stop - u.start) r.start u.start k)
  where
    so : (l m a b : ℕ) → (l < m) ⊎ ((l ≡ m) × (a < b)) → tighter_test l m a b ≡ true
    so l m a b (inl q) = grind (arith, nat_tests)
    so l m a b (inr q) = let x = q.0 in let y = q.1 in grind (arith, nat_tests)

    go : (l m n a b c : ℕ) → (l < m) ⊎ ((l ≡ m) × (a < b)) → (m < n) ⊎ ((m ≡ n) × (b < c)) →
        tighter_test l n a c ≡ true
    go l m n a b c (inl p) (inl q) = so l n a c (inl (omega arith))
    go l m n a b c (inl p) (inr q) = let x = q.0 in so l n a c (inl (omega arith))
    go l m n a b c (inr p) (inl q) = let x = p.0 in so l n a c (inl (omega arith))
    go l m n a b c (inr p) (inr q) = let x = p.1 in let y = q.1 in so l n a c (inr (p.0 ∙ q.0, omega arith))

-- none of the ranges is tighter than r
abbrev is_least : List Range → Range → Bool
is_least rs r = list_all (λ s. not (is_tighter s r)) rs

least_gives : (rs : List Range) (r s : Range) → is_least rs r ≡ true → IsIn s rs → is_tighter s r ≡ false
least_gives rs r s h i = not_true (is_tighter s r) (all_at (λ s. not (is_tighter s r)) rs s h i)

gives_least : (rs : List Range) (r : Range) → ((s : Range) → IsIn s rs → is_tighter s r ≡ false) → is_least rs r ≡ true
gives_least [] r h = refl
gives_least (x ∷ xs) r h = rw (h x (inl refl), gives_least xs r (λ s i. h s (inr i))) refl

-- a test that says of each of them whether it is one that none is tighter than
abbrev IsTest : (Range → Bool) → List Range → Type 0
IsTest test rs = (r : Range) → IsIn r rs → test r ≡ is_least rs r

-- where another one is tighter than the first, the test of all is one of the rest
rest_test : (test : Range → Bool) (x y : Range) (xs : List Range) → IsTest test (x ∷ xs) → IsIn y xs →
    is_tighter y x ≡ true → IsTest test xs
rest_test test x y xs h i beaten r j = h r (inr j) ∙ go (is_tighter x r) refl (is_least xs r) refl
  where
    clash : is_tighter y r ≡ true → is_tighter y r ≡ false → ⊥
    clash p q = cc

    go : (a : Bool) → is_tighter x r ≡ a → (b : Bool) → is_least xs r ≡ b → (not a && b) ≡ b
    go true p true q = absurd (clash (chain x y r beaten p) (least_gives xs r y q i))
    go true p false q = refl
    go false p b q = refl

found : (rs : List Range) (test : Range → Bool) → IsTest test rs → find test rs ≡ tightest_in_turn rs
found [] test h = refl
found (x ∷ xs) test h = go (tightest_in_turn xs) refl (found xs test)
  where
    is_first : ((s : Range) → IsIn s xs → is_tighter s x ≡ false) → test x ≡ true
    is_first none = h x (inl refl) ∙ gives_least (x ∷ xs) x
        (λ s i. elim i [ inl q ↦ rw q (not_itself x) | inr j ↦ none s j ])

    not_first : (y : Range) → IsIn y xs → is_tighter y x ≡ true → test x ≡ false
    not_first y i t = h x (inl refl) ∙ beaten (is_least (x ∷ xs) x) refl
      where
        clash : is_tighter y x ≡ true → is_tighter y x ≡ false → ⊥
        clash p q = cc

        beaten : (b : Bool) → is_least (x ∷ xs) x ≡ b → b ≡ false
        beaten true q = absurd (clash t (least_gives (x ∷ xs) x y q (inr i)))
        beaten false q = refl

    go : (o : Option Range) → tightest_in_turn xs ≡ o → (IsTest test xs → find test xs ≡ tightest_in_turn xs) →
        find test (x ∷ xs) ≡ tighter_of x o
    go None e ih = rw (is_first (λ s i. absurd (none_in xs s e i))) refl
    go (Some y) e ih = pick (is_tighter y x) refl
      where
        pick : (b : Bool) → is_tighter y x ≡ b → find test (x ∷ xs) ≡ cond b (Some y) (Some x)
        pick true t =
            let i = in_turn_is_in xs y e in
            rw (not_first y i t) (ih (rest_test test x y xs h i t) ∙ e)
        pick false t = rw (is_first (λ s i. not_along x y s (none_tighter_in_turn xs y s e i) t)) refl

pub tightest_turns : (rs : List Range) → tightest rs ≡ tightest_in_turn rs
tightest_turns rs = found rs (λ r. is_least rs r) (λ r i. refl)

pub tightest_next : (r : Range) (rs : List Range) → tightest (r ∷ rs) ≡ tighter_of r (tightest rs)
tightest_next r rs = tightest_turns (r ∷ rs) ∙ ap (tighter_of r) (sym (tightest_turns rs))

-- ---- the tightest is one of them, none is tighter, and one of several is the tightest
pub tightest_is_in : (rs : List Range) (r : Range) → tightest rs ≡ Some r → IsIn r rs
tightest_is_in rs r h = in_turn_is_in rs r (sym (tightest_turns rs) ∙ h)

pub none_tighter : (rs : List Range) (r s : Range) → tightest rs ≡ Some r → IsIn s rs → is_tighter s r ≡ false
none_tighter rs r s h = none_tighter_in_turn rs r s (sym (tightest_turns rs) ∙ h)

pub some_tightest : (rs : List Range) (r : Range) → tightest rs ≡ None → IsIn r rs → ⊥
some_tightest rs r h = none_in rs r (sym (tightest_turns rs) ∙ h)
