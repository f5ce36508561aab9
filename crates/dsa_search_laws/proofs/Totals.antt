-- The work of all parts.
use Rattle.std.proofs.Common.{◌≡◌, ℕ, zero, suc, ◌+◌, ◌*◌, ◌<◌, ◌≤◌, ◌≢◌, ◌==◌, ◌⊎◌, inl, inr, Bool, true, false, cond, List, [], ◌∷◌, map, length, filter, refl, ap, arith, sum_by, mul-le-mul_left, mul-le-mul}
use Rattle.std.specs.List.{range_with_len}
use Rattle.std.proofs.lemmas.Bool.Decides.{nat_tests}
use Rattle.std.proofs.lemmas.List.{length-map}
use Rattle.std.proofs.lemmas.List.Sums.{sum_by-cons}
use Rattle.dsa_terms.specs.Buffers.{Instance, buffer}
use Rattle.dsa_terms.specs.Claims.{Entry, IsIn, Rises}
use Rattle.dsa_terms.specs.Parts.{numbers, parts, whole, whole_work}
use Rattle.dsa_terms.specs.Search.{work}
use Rattle.dsa_search_laws.specs.PartsByTime.{members, start_of}
use Rattle.dsa_search_laws.specs.Searches.{most_work}
use Rattle.dsa_search_laws.proofs.ByTime.{begins, by_begins, rises-begins}
use Rattle.dsa_search_laws.proofs.Members.{claim_of_part}
use Rattle.dsa_search_laws.proofs.PartLists.{part_not_empty}
use Rattle.dsa_search_laws.proofs.Search.{work_bounds, most_work_pos}

two_factors : (a b u v w : ℕ) → u + v ≤ w → 1 + u + suc b * v ≤ 1 + suc (a + b) * w
two_factors a b u v w h =
    let k : suc (a + b) * (u + v) ≤ suc (a + b) * w = mul-le-mul_left (suc (a + b)) h in
    omega (arith, k)

most_work_more : (a : ℕ) → 1 ≤ a → most_work a + 2 ≤ most_work (suc a)
most_work_more zero le = absurd (omega arith)
most_work_more (suc a) le = let k = most_work_pos (suc a) in doubled a (most_work (suc a)) k
  where
    doubled : (a n : ℕ) → 1 ≤ n → n + 2 ≤ 1 + suc (suc a) * n
    doubled a n h = omega arith

-- two searches are no more work than one through all their buffers
most_work_both : (a b : ℕ) → 1 ≤ a → 1 ≤ b → most_work a + most_work b ≤ most_work (a + b)
most_work_both a zero la lb = absurd (omega arith)
most_work_both a (suc zero) la lb = let e : a + 1 ≡ suc a = omega arith in
    rw e (let k = most_work_more a la in omega arith)
most_work_both a (suc (suc b)) la lb =
    let ih = most_work_both a (suc b) la (omega arith) in
    let e : a + suc (suc b) ≡ suc (a + suc b) = omega arith in
    rw e (let k = two_factors a (suc b) (most_work a) (most_work (suc b)) (most_work (a + suc b)) ih in omega arith)

works_le : (I : Instance) (C : ℕ) (ps : List (List ℕ)) →
    ((p : List ℕ) → IsIn p ps → (1 ≤ length p) × (work I C (whole I p) ≤ most_work (length p))) →
    ((ps ≡ []) × (sum_by (λ p. work I C (whole I p)) ps ≡ 0))
    ⊎ ((1 ≤ sum_by length ps) × (sum_by (λ p. work I C (whole I p)) ps ≤ most_work (sum_by length ps)))
works_le I C [] h = inl (refl, refl)
works_le I C (p ∷ ps) h = go (works_le I C ps (λ q i. h q (inr i))) (h p (inl refl))
  where
    go : ((ps ≡ []) × (sum_by (λ p. work I C (whole I p)) ps ≡ 0))
        ⊎ ((1 ≤ sum_by length ps) × (sum_by (λ p. work I C (whole I p)) ps ≤ most_work (sum_by length ps))) →
        (1 ≤ length p) × (work I C (whole I p) ≤ most_work (length p)) →
        ((p ∷ ps ≡ []) × (sum_by (λ p. work I C (whole I p)) (p ∷ ps) ≡ 0))
        ⊎ ((1 ≤ sum_by length (p ∷ ps)) × (sum_by (λ p. work I C (whole I p)) (p ∷ ps) ≤ most_work
        (sum_by length (p ∷ ps))))
    go (inl e) k = inr (
      rw (sum_by-cons length p ps) (let a = k.0 in omega arith),
      rw (sum_by-cons (λ p. work I C (whole I p)) p ps, sum_by-cons length p ps, e.1, e.0)
          (let e : length p + 0 ≡ length p = omega arith in rw e (let a = k.1 in omega arith)),
    )
    go (inr e) k = inr (
      rw (sum_by-cons length p ps) (let a = k.0 in omega arith),
      rw (sum_by-cons (λ p. work I C (whole I p)) p ps, sum_by-cons length p ps)
          (let both = most_work_both (length p) (sum_by length ps) k.0 e.0 in let a = k.1 in let b = e.1 in
          omega arith),
    )

-- ---- the parts have no more buffers than the instance
no_hit : (x : ℕ) (ts : List ℕ) → ((t : ℕ) → IsIn t ts → x < t) → sum_by (λ t. cond (x == t) 1 0) ts ≡ 0
no_hit x [] h = refl
no_hit x (t ∷ ts) h = go (no_hit x ts (λ u i. h u (inr i))) (x == t) refl (h t (inl refl))
  where
    go : sum_by (λ t. cond (x == t) 1 0) ts ≡ 0 → (b : Bool) → (x == t) ≡ b → x < t →
        sum_by (λ t. cond (x == t) 1 0) (t ∷ ts) ≡ 0
    go ih true e lt = absurd (let k : x ≡ t = grind (arith, nat_tests) in omega arith)
    go ih false e lt = rw (sum_by-cons (λ t. cond (x == t) 1 0) t ts, e) (omega (arith, ih))

one_hit : (x : ℕ) (ts : List ℕ) → Rises ts → sum_by (λ t. cond (x == t) 1 0) ts ≤ 1
one_hit x [] r = omega arith
one_hit x (t ∷ ts) r = go (one_hit x ts r.1) (x == t) refl
  where
    go : sum_by (λ t. cond (x == t) 1 0) ts ≤ 1 → (b : Bool) → (x == t) ≡ b →
        sum_by (λ t. cond (x == t) 1 0) (t ∷ ts) ≤ 1
    go ih true e =
        let same : x ≡ t = grind (arith, nat_tests) in
        let none : sum_by (λ t. cond (x == t) 1 0) ts ≡ 0 = no_hit x ts (λ u i. rw same (r.0 u i)) in
        rw (sum_by-cons (λ t. cond (x == t) 1 0) t ts, e) (omega (arith, none))
    go ih false e = rw (sum_by-cons (λ t. cond (x == t) 1 0) t ts, e) (omega (arith, ih))

-- one item more is in one class more
class_more : (f : ℕ → ℕ) (x : ℕ) (xs ts : List ℕ) →
    sum_by (λ t. length (filter (λ b. f b == t) (x ∷ xs))) ts ≡ sum_by (λ t. cond (f x == t) 1 0) ts + sum_by
    (λ t. length (filter (λ b. f b == t) xs)) ts
class_more f x xs [] = refl
class_more f x xs (t ∷ ts) =
    rw (
      sum_by-cons (λ t. length (filter (λ b. f b == t) (x ∷ xs))) t ts,
      sum_by-cons (λ t. cond (f x == t) 1 0) t ts,
      sum_by-cons (λ t. length (filter (λ b. f b == t) xs)) t ts,
    )
    (go (class_more f x xs ts) (f x == t))
  where
    go : sum_by (λ t. length (filter (λ b. f b == t) (x ∷ xs))) ts ≡ sum_by (λ t. cond (f x == t) 1 0) ts + sum_by
        (λ t. length (filter (λ b. f b == t) xs)) ts →
        (b : Bool) → length (cond b (x ∷ filter (λ b. f b == t) xs) (filter (λ b. f b == t) xs)) + sum_by
        (λ t. length (filter (λ b. f b == t) (x ∷ xs))) ts
        ≡ (cond b 1 0 + sum_by (λ t. cond (f x == t) 1 0) ts) + (length (filter (λ b. f b == t) xs) + sum_by
        (λ t. length (filter (λ b. f b == t) xs)) ts)
    go ih true = omega (arith, ih)
    go ih false = omega (arith, ih)

no_items : (f : ℕ → ℕ) (ts : List ℕ) → sum_by (λ t. length (filter (λ b. f b == t) [])) ts ≡ 0
no_items f [] = refl
no_items f (t ∷ ts) = rw (sum_by-cons (λ t. length (filter (λ b. f b == t) [])) t ts) (let k = no_items f ts in
    omega (arith, k))

classes_le : (f : ℕ → ℕ) (xs ts : List ℕ) → Rises ts → sum_by (λ t. length (filter (λ b. f b == t) xs)) ts ≤ length xs
classes_le f [] ts r = let k = no_items f ts in omega (arith, k)
classes_le f (x ∷ xs) ts r =
    let ih = classes_le f xs ts r in let one = one_hit (f x) ts r in let more = class_more f x xs ts in
    omega (arith, ih, one, more)

-- the sum of the lengths of some lists is that over what they are made of
lengths_of : (g : ℕ → List ℕ) (ts : List ℕ) → sum_by length (map g ts) ≡ sum_by (λ t. length (g t)) ts
lengths_of g [] = refl
lengths_of g (t ∷ ts) = rw (sum_by-cons length (g t) (map g ts), sum_by-cons (λ t. length (g t)) t ts)
    (ap (λ n. length (g t) + n) (lengths_of g ts))

parts_count : (I : Instance) → sum_by length (parts I) ≤ length I
parts_count I =
    let all = classes_le (start_of I) (numbers (length I)) (begins I) (rises-begins I) in
    let sums = lengths_of (members I) (begins I) in
    let n : length (numbers (length I)) ≡ length I = length-range (length I) 0 in
    rw (by_begins I) (omega (arith, all, sums, n))
  where
    length-range : (n a : ℕ) → length (range_with_len a n) ≡ n
    length-range zero a = refl
    length-range (suc n) a = ap suc (length-range n (a + 1))

not_empty : (I : Instance) (p : List ℕ) → IsIn p (parts I) → 1 ≤ length p
not_empty I p i = go p (part_not_empty I p i)
  where
    go : (p : List ℕ) → p ≢ [] → 1 ≤ length p
    go [] h = absurd (h refl)
    go (x ∷ xs) h = omega arith

most_work_grows : (a b : ℕ) → a ≤ b → most_work a ≤ most_work b
most_work_grows zero b le = most_work_pos b
most_work_grows (suc a) zero le = absurd (omega arith)
most_work_grows (suc a) (suc b) le = let ih = most_work_grows a b (omega arith) in
    let k : suc a * most_work a ≤ suc b * most_work b = mul-le-mul (omega arith) ih in omega (arith, k)

pub whole_work_bound : (I : Instance) (C : ℕ) → whole_work I C ≤ most_work (length I)
unfolding whole_work
whole_work_bound I C = go (works_le I C (parts I) each)
  where
    each : (p : List ℕ) → IsIn p (parts I) → (1 ≤ length p) × (work I C (whole I p) ≤ most_work (length p))
    each p i =
        let b = (work_bounds I C (whole I p) (claim_of_part I p i)).1 in
        let n : length (whole I p) ≡ length p = length-map p (λ b. let e : Entry = (b, (buffer I b).lowest) in e) in
        (not_empty I p i, rw n at b)

    go : ((parts I ≡ []) × (sum_by (λ p. work I C (whole I p)) (parts I) ≡ 0))
        ⊎ ((1 ≤ sum_by length (parts I)) × (sum_by (λ p. work I C (whole I p)) (parts I) ≤ most_work
        (sum_by length (parts I)))) →
        sum_by (λ p. work I C (whole I p)) (parts I) ≤ most_work (length I)
    go (inl e) = let k = e.1 in omega arith
    go (inr e) = let k = e.1 in let m = most_work_grows (sum_by length (parts I)) (length I) (parts_count I) in
        omega (arith, k, m)
