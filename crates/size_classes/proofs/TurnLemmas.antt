-- Members in turn, the lists that come of others, and pigeonholes.
use Rattle.std.proofs.Common.{◌≡◌, ◌≢◌, ℕ, zero, suc, ◌+◌, ◌<◌, ◌≤◌, inl, inr, Bool, true, false, cond, not, ◌&&◌, ◌||◌, ◌==◌, List, [], ◌∷◌, ◌++◌, length, filter, nat_lt, refl, sym, ap, ◌∙◌, arith}
use Rattle.std.proofs.lemmas.Bool.Decides.{nat_tests}
use Rattle.dsa_terms.specs.Buffers.{Buffer, Instance, buffer}
use Rattle.dsa_terms.specs.Claims.{IsIn, Rises}
use Rattle.dsa_terms.specs.Sorts.{put_by, ordered_by, IsOrdered}
use Rattle.dsa_terms.specs.Orders.{rises_by}
use Rattle.dsa_terms.proofs.Lists.{into_filter, length-filter_le, from_ordered_by}
use Rattle.dsa_terms.proofs.NumberTests.{apart, same}
use Rattle.dsa_start_laws.specs.Ordering.{IsOrder}
use Rattle.dsa_start_laws.proofs.Orders.{measures_are_orders}

-- ---- a list brought into order
from_put_by : (before : ℕ → ℕ → Bool) (b : ℕ) (cs : List ℕ) (x : ℕ) → IsIn x (put_by before b cs) → IsIn x (b ∷ cs)
from_put_by before b [] x h = h
from_put_by before b (c ∷ cs) x h = go (from_put_by before b cs x) (before b c) h
  where
    swap : IsIn x (b ∷ cs) → IsIn x (b ∷ c ∷ cs)
    swap (inl q) = inl q
    swap (inr q) = inr (inr q)

    go : (IsIn x (put_by before b cs) → IsIn x (b ∷ cs)) → (t : Bool) →
        IsIn x (cond t (b ∷ c ∷ cs) (c ∷ put_by before b cs)) → IsIn x (b ∷ c ∷ cs)
    go ih true q = q
    go ih false (inl q) = inr (inl q)
    go ih false (inr q) = swap (ih q)

put_is_ordered : (before : ℕ → ℕ → Bool) (b : ℕ) (cs : List ℕ) → IsOrder before → ((c : ℕ) → IsIn c cs → b ≢ c) →
    IsOrdered before cs → IsOrdered before (put_by before b cs)
put_is_ordered before b [] o ne h = ((λ c i. absurd i), tt)
put_is_ordered before b (c ∷ cs) o ne h = go (put_is_ordered before b cs o (λ d i. ne d (inr i)) h.1) (before b c) refl
  where
    go : IsOrdered before (put_by before b cs) → (t : Bool) → before b c ≡ t →
        IsOrdered before (cond t (b ∷ c ∷ cs) (c ∷ put_by before b cs))
    go ih true e = ((λ d i. elim i [ inl q ↦ rw q e | inr j ↦ o.along b c d e (h.0 d j) ]), h)
    go ih false e = ((λ d i. elim (from_put_by before b cs d i) [ inl q ↦ rw q other | inr j ↦ h.0 d j ]), ih)
      where
        other : before c b ≡ true
        other = elim (o.total b c (ne c (inl refl))) [ inl q ↦ absurd (clash q e) | inr q ↦ q ]
          where
            clash : before b c ≡ true → before b c ≡ false → ⊥
            clash p q = cc

pub ordered_is_ordered : (before : ℕ → ℕ → Bool) (bs : List ℕ) → IsOrder before → Rises bs →
    IsOrdered before (ordered_by before bs)
ordered_is_ordered before [] o r = tt
ordered_is_ordered before (b ∷ bs) o r =
    put_is_ordered before b (ordered_by before bs) o (λ c i q. (let k = r.0 c (from_ordered_by before bs c i) in
    omega arith)) (ordered_is_ordered before bs o r.1)

-- what comes before b in an ordered list
pub before_of : (before : ℕ → ℕ → Bool) (xs ys : List ℕ) (b c : ℕ) → IsOrdered before (xs ++ b ∷ ys) → IsIn c xs →
    before c b ≡ true
before_of before [] ys b c h i = absurd i
before_of before (x ∷ xs) ys b c h (inl e) = rw e (h.0 b (later xs))
  where
    later : (xs : List ℕ) → IsIn b (xs ++ b ∷ ys)
    later [] = inl refl
    later (x ∷ xs) = inr (later xs)
before_of before (x ∷ xs) ys b c h (inr i) = before_of before xs ys b c h.1 i

pub turn_is_order : (I : Instance) → IsOrder (rises_by (λ (b : Buffer). b.lower) I)
turn_is_order I = (measures_are_orders (λ (b : Buffer). b.lower) I).1

-- what comes before in turn begins no later, and is another
pub begins_no_later : (I : Instance) (c b : ℕ) → rises_by (λ (b : Buffer). b.lower) I c b ≡ true →
    (buffer I c).lower ≤ (buffer I b).lower
unfolding rises_by
begins_no_later I c b h = close (buffer I c).lower (buffer I b).lower h
  where
    close : (m n : ℕ) → (nat_lt m n || ((m == n) && nat_lt c b)) ≡ true → m ≤ n
    close m n q = grind (arith, nat_tests)

pub is_another : (I : Instance) (c b : ℕ) → rises_by (λ (b : Buffer). b.lower) I c b ≡ true → c ≢ b
is_another I c b h e =
    let k : rises_by (λ (b : Buffer). b.lower) I b b ≡ true = rw e at h in (turn_is_order I).one_way b b k k

-- ---- how many pass a test
count_cons : (p : ℕ → Bool) (x : ℕ) (xs : List ℕ) →
    length (filter p (x ∷ xs)) ≡ cond (p x) 1 0 + length (filter p xs)
count_cons p x xs = go (p x)
  where
    go : (t : Bool) → length (cond t (x ∷ filter p xs) (filter p xs)) ≡ cond t 1 0 + length (filter p xs)
    go true = omega arith
    go false = omega arith

put_counts : (p : ℕ → Bool) (before : ℕ → ℕ → Bool) (b : ℕ) (cs : List ℕ) →
    length (filter p (put_by before b cs)) ≡ length (filter p (b ∷ cs))
put_counts p before b [] = refl
put_counts p before b (c ∷ cs) = go (put_counts p before b cs) (before b c)
  where
    go : length (filter p (put_by before b cs)) ≡ length (filter p (b ∷ cs)) → (t : Bool) →
        length (filter p (cond t (b ∷ c ∷ cs) (c ∷ put_by before b cs))) ≡ length (filter p (b ∷ c ∷ cs))
    go ih true = refl
    go ih false =
        count_cons p c (put_by before b cs)
        ∙ ap (λ n. cond (p c) 1 0 + n) (ih ∙ count_cons p b cs)
        ∙ turned (cond (p c) 1 0) (cond (p b) 1 0) (length (filter p cs))
        ∙ ap (λ n. cond (p b) 1 0 + n) (sym (count_cons p c cs))
        ∙ sym (count_cons p b (c ∷ cs))
      where
        turned : (m n k : ℕ) → m + (n + k) ≡ n + (m + k)
        turned m n k = omega arith

pub ordered_counts : (p : ℕ → Bool) (before : ℕ → ℕ → Bool) (bs : List ℕ) →
    length (filter p (ordered_by before bs)) ≡ length (filter p bs)
ordered_counts p before [] = refl
ordered_counts p before (b ∷ bs) =
    put_counts p before b (ordered_by before bs)
    ∙ count_cons p b (ordered_by before bs)
    ∙ ap (λ n. cond (p b) 1 0 + n) (ordered_counts p before bs)
    ∙ sym (count_cons p b bs)

pub first_of_filter : (p : ℕ → Bool) (xs ys : List ℕ) (b : ℕ) → p b ≡ true →
    length (filter p xs) + 1 ≤ length (filter p (xs ++ b ∷ ys))
first_of_filter p [] ys b h = rw h (omega arith)
first_of_filter p (x ∷ xs) ys b h = go (first_of_filter p xs ys b h) (p x)
  where
    go : (length (filter p xs) + 1 ≤ length (filter p (xs ++ b ∷ ys))) → (t : Bool) →
        length (cond t (x ∷ filter p xs) (filter p xs)) + 1
        ≤ length (cond t (x ∷ filter p (xs ++ b ∷ ys)) (filter p (xs ++ b ∷ ys)))
    go ih true = omega arith
    go ih false = ih

-- ---- pigeonholes
lost_one : (x : ℕ) (xs : List ℕ) → IsIn x xs → length (filter (λ c. not (c == x)) xs) + 1 ≤ length xs
lost_one x [] i = absurd i
lost_one x (y ∷ ys) (inl e) =
    rw (same y x (sym e)) (let k = length-filter_le (λ c. not (c == x)) ys in omega arith)
lost_one x (y ∷ ys) (inr j) = go (lost_one x ys j) (not (y == x))
  where
    go : length (filter (λ c. not (c == x)) ys) + 1 ≤ length ys → (t : Bool) →
        length (cond t (y ∷ filter (λ c. not (c == x)) ys) (filter (λ c. not (c == x)) ys)) + 1 ≤ length (y ∷ ys)
    go ih true = omega arith
    go ih false = omega arith

pub pigeons : (n : ℕ) (xs : List ℕ) → ((k : ℕ) → k < n → IsIn k xs) → n ≤ length xs
pigeons zero xs h = omega arith
pigeons (suc n) xs h =
    let r = pigeons n (filter (λ c. not (c == n)) xs)
    (λ k lt. into_filter (λ c. not (c == n)) xs k (h k (omega arith)) (rw (apart k n (λ e. omega arith)) refl)) in
    let d = lost_one n xs (h n (omega arith)) in omega arith
