-- The three orders: ordered lists of all numbers, of which there is one each.
use Rattle.std.proofs.Common.{◌≡◌, ℕ, ◌<◌, ◌≢◌, ◌⊎◌, ◌↔◌, inl, inr, Bool, true, false, cond, List, [], ◌∷◌, sym, refl, ap₂, ◌∙◌, subst, arith}
use Rattle.std.proofs.lemmas.Bool.Decides.{nat_tests}
use Rattle.dsa_terms.specs.Buffers.{Buffer, Instance, buffer}
use Rattle.dsa_terms.specs.Claims.{IsIn, Rises}
use Rattle.dsa_terms.specs.Parts.{numbers}
use Rattle.dsa_terms.specs.Sorts.{comes_first, put_by, ordered_by, IsOrdered}
use Rattle.dsa_terms.specs.Orders.{falls_by, rises_by}
use Rattle.dsa_terms.proofs.Lists.{from_ordered_by, from_put_by, into_ordered_by}
use Rattle.dsa_terms.proofs.Ranges.{rises-range}
use Rattle.dsa_start_laws.specs.Ordering.{IsOrder}

-- ---- by a measure, ties to the smaller number
abbrev later_test : ℕ → ℕ → ℕ → ℕ → Bool
later_test m n b c = comes_first n m b c

test_is : (m n b c : ℕ) → later_test m n b c ≡ true → (n < m) ⊎ ((m ≡ n) × (b < c))
test_is m n b c h = grind (arith, nat_tests)

is_test : (m n b c : ℕ) → (n < m) ⊎ ((m ≡ n) × (b < c)) → later_test m n b c ≡ true
is_test m n b c (inl q) = grind (arith, nat_tests)
is_test m n b c (inr q) = let x = q.0 in let y = q.1 in grind (arith, nat_tests)

three : (m n : ℕ) → (m < n) ⊎ ((n < m) ⊎ (m ≡ n))
three m n = grind arith

apart : (b c : ℕ) → b ≢ c → (b < c) ⊎ (c < b)
apart b c h = grind arith

falls_is_order : (measure : Buffer → ℕ) (I : Instance) → IsOrder (falls_by measure I)
unfolding falls_by
falls_is_order measure I = record {
  total = λ b c ne. total (measure (buffer I b)) (measure (buffer I c)) b c
      (three (measure (buffer I b)) (measure (buffer I c))) (apart b c ne);
  one_way = λ b c p q. one_way (measure (buffer I b)) (measure (buffer I c)) b c
      (test_is (measure (buffer I b)) (measure (buffer I c)) b c p)
      (test_is (measure (buffer I c)) (measure (buffer I b)) c b q);
  along = λ b c d p q. is_test (measure (buffer I b)) (measure (buffer I d)) b d
      (along (measure (buffer I b)) (measure (buffer I c)) (measure (buffer I d)) b c d
      (test_is (measure (buffer I b)) (measure (buffer I c)) b c p)
      (test_is (measure (buffer I c)) (measure (buffer I d)) c d q));
}
  where
    total : (m n b c : ℕ) → (m < n) ⊎ ((n < m) ⊎ (m ≡ n)) → (b < c) ⊎ (c < b) →
        (later_test m n b c ≡ true) ⊎ (later_test n m c b ≡ true)
    total m n b c (inl q) e = inr (is_test n m c b (inl q))
    total m n b c (inr (inl q)) e = inl (is_test m n b c (inl q))
    total m n b c (inr (inr q)) (inl l) = inl (is_test m n b c (inr (q, l)))
    total m n b c (inr (inr q)) (inr l) = inr (is_test n m c b (inr (sym q, l)))

    one_way : (m n b c : ℕ) → (n < m) ⊎ ((m ≡ n) × (b < c)) → (m < n) ⊎ ((n ≡ m) × (c < b)) → ⊥
    one_way m n b c (inl p) (inl q) = omega arith
    one_way m n b c (inl p) (inr q) = omega arith
    one_way m n b c (inr p) (inl q) = omega arith
    one_way m n b c (inr p) (inr q) = omega arith

    along : (l m n b c d : ℕ) → (m < l) ⊎ ((l ≡ m) × (b < c)) → (n < m) ⊎ ((m ≡ n) × (c < d)) →
        (n < l) ⊎ ((l ≡ n) × (b < d))
    along l m n b c d (inl p) (inl q) = inl (omega arith)
    along l m n b c d (inl p) (inr q) = inl (omega arith)
    along l m n b c d (inr p) (inl q) = inl (omega arith)
    along l m n b c d (inr p) (inr q) = inr (omega arith, omega arith)

-- rising is falling, the other way round but for ties
rises_is_order : (measure : Buffer → ℕ) (I : Instance) → IsOrder (rises_by measure I)
unfolding rises_by
rises_is_order measure I = record {
  total = λ b c ne. total (measure (buffer I b)) (measure (buffer I c)) b c
      (three (measure (buffer I b)) (measure (buffer I c))) (apart b c ne);
  one_way = λ b c p q. one_way (measure (buffer I b)) (measure (buffer I c)) b c
      (low_is (measure (buffer I b)) (measure (buffer I c)) b c p)
      (low_is (measure (buffer I c)) (measure (buffer I b)) c b q);
  along = λ b c d p q. is_low (measure (buffer I b)) (measure (buffer I d)) b d
      (along (measure (buffer I b)) (measure (buffer I c)) (measure (buffer I d)) b c d
      (low_is (measure (buffer I b)) (measure (buffer I c)) b c p)
      (low_is (measure (buffer I c)) (measure (buffer I d)) c d q));
}
  where
    low_is : (m n b c : ℕ) → comes_first m n b c ≡ true → (m < n) ⊎ ((m ≡ n) × (b < c))
    low_is m n b c h = grind (arith, nat_tests)

    is_low : (m n b c : ℕ) → (m < n) ⊎ ((m ≡ n) × (b < c)) → comes_first m n b c ≡ true
    is_low m n b c (inl q) = grind (arith, nat_tests)
    is_low m n b c (inr q) = let x = q.0 in let y = q.1 in grind (arith, nat_tests)

    total : (m n b c : ℕ) → (m < n) ⊎ ((n < m) ⊎ (m ≡ n)) → (b < c) ⊎ (c < b) →
        (comes_first m n b c ≡ true) ⊎ (comes_first n m c b ≡ true)
    total m n b c (inl q) e = inl (is_low m n b c (inl q))
    total m n b c (inr (inl q)) e = inr (is_low n m c b (inl q))
    total m n b c (inr (inr q)) (inl l) = inl (is_low m n b c (inr (q, l)))
    total m n b c (inr (inr q)) (inr l) = inr (is_low n m c b (inr (sym q, l)))

    one_way : (m n b c : ℕ) → (m < n) ⊎ ((m ≡ n) × (b < c)) → (n < m) ⊎ ((n ≡ m) × (c < b)) → ⊥
    one_way m n b c (inl p) (inl q) = omega arith
    one_way m n b c (inl p) (inr q) = omega arith
    one_way m n b c (inr p) (inl q) = omega arith
    one_way m n b c (inr p) (inr q) = omega arith

    along : (l m n b c d : ℕ) → (l < m) ⊎ ((l ≡ m) × (b < c)) → (m < n) ⊎ ((m ≡ n) × (c < d)) →
        (l < n) ⊎ ((l ≡ n) × (b < d))
    along l m n b c d (inl p) (inl q) = inl (omega arith)
    along l m n b c d (inl p) (inr q) = inl (omega arith)
    along l m n b c d (inr p) (inl q) = inl (omega arith)
    along l m n b c d (inr p) (inr q) = inr (omega arith, omega arith)

pub measures_are_orders : (measure : Buffer → ℕ) (I : Instance) →
    IsOrder (falls_by measure I) × IsOrder (rises_by measure I)
measures_are_orders measure I = (falls_is_order measure I, rises_is_order measure I)

-- ---- a list brought into order
put_is_ordered : (before : ℕ → ℕ → Bool) (b : ℕ) (cs : List ℕ) → IsOrder before → ((c : ℕ) → IsIn c cs → b ≢ c) →
    IsOrdered before cs → IsOrdered before (put_by before b cs)
put_is_ordered before b [] o ne h = ((λ c i. absurd i), tt)
put_is_ordered before b (c ∷ cs) o ne h = go (put_is_ordered before b cs o (λ d i. ne d (inr i)) h.1) (before b c) refl
  where
    go : IsOrdered before (put_by before b cs) → (t : Bool) → before b c ≡ t →
        IsOrdered before (cond t (b ∷ c ∷ cs) (c ∷ put_by before b cs))
    go ih true e = ((λ d i. elim i [ inl q ↦ rw q e | inr j ↦ o.along b c d e (h.0 d j) ]), h)
    go ih false e = ((λ d i. elim (from_put_by before b cs d i) [ inl q ↦ rw q other | inr j ↦ h.0 d j ]), ih)
      where
        other : before c b ≡ true
        other = elim (o.total b c (ne c (inl refl))) [ inl q ↦ absurd (clash q e) | inr q ↦ q ]
          where
            clash : before b c ≡ true → before b c ≡ false → ⊥
            clash p q = cc

ordered_is_ordered : (before : ℕ → ℕ → Bool) (bs : List ℕ) → IsOrder before → Rises bs →
    IsOrdered before (ordered_by before bs)
ordered_is_ordered before [] o r = tt
ordered_is_ordered before (b ∷ bs) o r =
    put_is_ordered before b (ordered_by before bs) o (λ c i q. (let k = r.0 c (from_ordered_by before bs c i) in
    omega arith)) (ordered_is_ordered before bs o r.1)

pub numbers_are_ordered : (before : ℕ → ℕ → Bool) (n : ℕ) → IsOrder before →
    IsOrdered before (ordered_by before (numbers n))
numbers_are_ordered before n o = ordered_is_ordered before (numbers n) o (rises-range n 0)

pub ordered_members : (before : ℕ → ℕ → Bool) (bs : List ℕ) (x : ℕ) → IsIn x (ordered_by before bs) ↔ IsIn x bs
ordered_members before bs x = (from_ordered_by before bs x, into_ordered_by before bs x)

-- ---- and there is one such list
not_after : (before : ℕ → ℕ → Bool) (b : ℕ) → IsOrder before → before b b ≡ true → ⊥
not_after before b o h = o.one_way b b h h

pub one_order : (before : ℕ → ℕ → Bool) (xs ys : List ℕ) → IsOrder before → IsOrdered before xs → IsOrdered before ys →
    ((x : ℕ) → IsIn x xs ↔ IsIn x ys) → xs ≡ ys
one_order before [] [] o p q h = refl
one_order before [] (y ∷ ys) o p q h = absurd ((h y).1 (inl refl))
one_order before (x ∷ xs) [] o p q h = absurd ((h x).0 (inl refl))
one_order before (x ∷ xs) (y ∷ ys) o p q h = ap₂ (λ z zs. z ∷ zs) same (one_order before xs ys o p.1 q.1 rest)
  where
    same : x ≡ y
    same = go ((h x).0 (inl refl)) ((h y).1 (inl refl))
      where
        go : IsIn x (y ∷ ys) → IsIn y (x ∷ xs) → x ≡ y
        go (inl e) j = e
        go (inr i) (inl e) = sym e
        go (inr i) (inr j) = absurd (o.one_way y x (q.0 x i) (p.0 y j))

    rest : (z : ℕ) → IsIn z xs ↔ IsIn z ys
    rest z = (
      λ i. forth i ((h z).0 (inr i)),
      λ i. back i ((h z).1 (inr i)),
    )
      where
        forth : IsIn z xs → IsIn z (y ∷ ys) → IsIn z ys
        forth i (inl e) = absurd (not_after before x o (subst (λ (z : ℕ). before x z ≡ true) (e ∙ sym same) (p.0 z i)))
        forth i (inr j) = j

        back : IsIn z ys → IsIn z (x ∷ xs) → IsIn z xs
        back i (inl e) = absurd (not_after before y o (subst (λ (z : ℕ). before y z ≡ true) (e ∙ same) (q.0 z i)))
        back i (inr j) = j
