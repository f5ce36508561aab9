-- Membership in a list, and the lists that are made of others.
use Rattle.std.proofs.Common.{◌≡◌, ◌≤◌, ◌⊎◌, inl, inr, ℕ, suc, Bool, true, false, cond, ◌==◌, ◌||◌, List, [], ◌∷◌, ◌++◌, map, length, filter, find, Option, Some, None, refl, ap, ◌∙◌, subst, arith}
use Rattle.std.specs.List.{flat_map, list_any, list_all}
use Rattle.std.specs.Option.{option_or}
use Rattle.dsa_terms.specs.Claims.{IsIn}
use Rattle.dsa_terms.specs.Logs.{greatest}
use Rattle.dsa_terms.specs.Parts.{has}
use Rattle.dsa_terms.specs.Sorts.{ordered_by, put_by}
use Rattle.dsa_terms.specs.Search.{first_some}
use Rattle.dsa_terms.proofs.Moments.{and_true}
use Rattle.dsa_terms.proofs.NumberTests.{equal, same}

pub true_or_false : (b : Bool) → (b ≡ true) ⊎ (b ≡ false)
true_or_false true = inl refl
true_or_false false = inr refl

pub none_or_some : {Y : Type 0} → (o : Option Y) → (o ≡ None) ⊎ ((y : Y) × (o ≡ Some y))
none_or_some None = inl refl
none_or_some (Some y) = inr (y, refl)

pub nil_or_not : {X : Type 0} → (xs : List X) → (xs ≡ []) ⊎ ((x : X) × IsIn x xs)
nil_or_not [] = inl refl
nil_or_not (x ∷ xs) = inr (x, inl refl)

-- ---- map
pub into_map : {X Y : Type 0} (f : X → Y) (xs : List X) (x : X) → IsIn x xs → IsIn (f x) (map f xs)
into_map f [] x h = h
into_map f (y ∷ ys) x (inl e) = inl (ap f e)
into_map f (y ∷ ys) x (inr h) = inr (into_map f ys x h)

pub from_map : {X Y : Type 0} (f : X → Y) (xs : List X) (y : Y) → IsIn y (map f xs) → (x : X) × IsIn x xs × (y ≡ f x)
from_map f [] y h = absurd h
from_map f (x ∷ xs) y (inl e) = (x, inl refl, e)
from_map f (x ∷ xs) y (inr h) = let r = from_map f xs y h in (r.0, inr r.1, r.2)

-- ---- filter
pub into_filter : {X : Type 0} (p : X → Bool) (xs : List X) (x : X) → IsIn x xs → p x ≡ true → IsIn x (filter p xs)
into_filter p [] x h t = h
into_filter {X} p (y ∷ ys) x h t = go (λ q. into_filter p ys x q t) (p y) refl h
  where
    go : (IsIn x ys → IsIn x (filter p ys)) → (b : Bool) → p y ≡ b → IsIn x (y ∷ ys) →
        IsIn x (cond b (y ∷ filter p ys) (filter p ys))
    go ih true e (inl q) = inl q
    go ih true e (inr q) = inr (ih q)
    go ih false e (inl q) = absurd (let k : p x ≡ p y = ap p q in cc)
    go ih false e (inr q) = ih q

pub from_filter : {X : Type 0} (p : X → Bool) (xs : List X) (x : X) → IsIn x (filter p xs) → IsIn x xs × (p x ≡ true)
from_filter p [] x h = absurd h
from_filter {X} p (y ∷ ys) x h = go (from_filter p ys x) (p y) refl h
  where
    go : (IsIn x (filter p ys) → IsIn x ys × (p x ≡ true)) → (b : Bool) → p y ≡ b →
        IsIn x (cond b (y ∷ filter p ys) (filter p ys)) → IsIn x (y ∷ ys) × (p x ≡ true)
    go ih true e (inl q) = (inl q, ap p q ∙ e)
    go ih true e (inr q) = let r = ih q in (inr r.0, r.1)
    go ih false e q = let r = ih q in (inr r.0, r.1)

pub length-filter_le : {X : Type 0} (p : X → Bool) (xs : List X) → length (filter p xs) ≤ length xs
length-filter_le p [] = omega arith
length-filter_le {X} p (y ∷ ys) = go (length-filter_le p ys) (p y)
  where
    go : (length (filter p ys) ≤ length ys) → (b : Bool) →
        length (cond b (y ∷ filter p ys) (filter p ys)) ≤ length (y ∷ ys)
    go ih true = omega arith
    go ih false = omega arith

-- ---- tests
pub any_gives : {X : Type 0} (p : X → Bool) (xs : List X) → list_any p xs ≡ true → (x : X) × IsIn x xs × (p x ≡ true)
any_gives p [] h = absurd cc
any_gives {X} p (y ∷ ys) h = go (any_gives p ys) (p y) refl h
  where
    go : (list_any p ys ≡ true → (x : X) × IsIn x ys × (p x ≡ true)) → (b : Bool) → p y ≡ b →
        (b || list_any p ys) ≡ true → (x : X) × IsIn x (y ∷ ys) × (p x ≡ true)
    go ih true e q = (y, inl refl, e)
    go ih false e q = let r = ih q in (r.0, inr r.1, r.2)

pub none_passes : {X : Type 0} (p : X → Bool) (xs : List X) (x : X) → list_any p xs ≡ false → IsIn x xs → p x ≡ false
none_passes p [] x h i = absurd i
none_passes {X} p (y ∷ ys) x h i = go (none_passes p ys x) (p y) refl h i
  where
    go : (list_any p ys ≡ false → IsIn x ys → p x ≡ false) → (b : Bool) → p y ≡ b → (b || list_any p ys) ≡ false →
        IsIn x (y ∷ ys) → p x ≡ false
    go ih true e q j = absurd cc
    go ih false e q (inl j) = ap p j ∙ e
    go ih false e q (inr j) = ih q j

pub any_from : {X : Type 0} (p : X → Bool) (xs : List X) (x : X) → IsIn x xs → p x ≡ true → list_any p xs ≡ true
any_from p xs x i t = elim (true_or_false (list_any p xs)) [
  | inl h ↦ h
  | inr h ↦ absurd (let k : p x ≡ false = none_passes p xs x h i in cc)
]

-- ---- the list in order has the same items
pub into_put_by : {X : Type 0} (before : X → X → Bool) (e : X) (es : List X) (x : X) → IsIn x (e ∷ es) →
    IsIn x (put_by before e es)
into_put_by before e [] x h = h
into_put_by {X} before e (f ∷ fs) x h = go (into_put_by before e fs x) (before e f) h
  where
    go : (IsIn x (e ∷ fs) → IsIn x (put_by before e fs)) → (b : Bool) → IsIn x (e ∷ f ∷ fs) →
        IsIn x (cond b (e ∷ f ∷ fs) (f ∷ put_by before e fs))
    go ih true q = q
    go ih false (inl q) = inr (ih (inl q))
    go ih false (inr (inl q)) = inl q
    go ih false (inr (inr q)) = inr (ih (inr q))

pub from_put_by : {X : Type 0} (before : X → X → Bool) (e : X) (es : List X) (x : X) → IsIn x (put_by before e es) →
    IsIn x (e ∷ es)
from_put_by before e [] x h = h
from_put_by {X} before e (f ∷ fs) x h = go (from_put_by before e fs x) (before e f) h
  where
    swap : IsIn x (e ∷ fs) → IsIn x (e ∷ f ∷ fs)
    swap (inl q) = inl q
    swap (inr q) = inr (inr q)

    go : (IsIn x (put_by before e fs) → IsIn x (e ∷ fs)) → (b : Bool) →
        IsIn x (cond b (e ∷ f ∷ fs) (f ∷ put_by before e fs)) → IsIn x (e ∷ f ∷ fs)
    go ih true q = q
    go ih false (inl q) = inr (inl q)
    go ih false (inr q) = swap (ih q)

pub into_ordered_by : {X : Type 0} (before : X → X → Bool) (es : List X) (x : X) → IsIn x es →
    IsIn x (ordered_by before es)
into_ordered_by before [] x h = h
into_ordered_by before (e ∷ es) x (inl q) = into_put_by before e (ordered_by before es) x (inl q)
into_ordered_by before (e ∷ es) x (inr q) =
    into_put_by before e (ordered_by before es) x (inr (into_ordered_by before es x q))

pub from_ordered_by : {X : Type 0} (before : X → X → Bool) (es : List X) (x : X) → IsIn x (ordered_by before es) →
    IsIn x es
from_ordered_by before [] x h = h
from_ordered_by {X} before (e ∷ es) x h =
    go (from_ordered_by before es x) (from_put_by before e (ordered_by before es) x h)
  where
    go : (IsIn x (ordered_by before es) → IsIn x es) → IsIn x (e ∷ ordered_by before es) → IsIn x (e ∷ es)
    go ih (inl q) = inl q
    go ih (inr q) = inr (ih q)

pub length-put_by : {X : Type 0} (before : X → X → Bool) (e : X) (es : List X) →
    length (put_by before e es) ≡ suc (length es)
length-put_by before e [] = refl
length-put_by {X} before e (f ∷ fs) = go (length-put_by before e fs) (before e f)
  where
    go : length (put_by before e fs) ≡ suc (length fs) → (b : Bool) →
        length (cond b (e ∷ f ∷ fs) (f ∷ put_by before e fs)) ≡ suc (suc (length fs))
    go ih true = refl
    go ih false = ap suc ih

pub length-ordered_by : {X : Type 0} (before : X → X → Bool) (es : List X) → length (ordered_by before es) ≡ length es
length-ordered_by before [] = refl
length-ordered_by before (e ∷ es) = length-put_by before e (ordered_by before es) ∙ ap suc (length-ordered_by before es)

-- ---- the first answer
pub all_none : {X Y : Type 0} (f : X → Option Y) (xs : List X) (x : X) → first_some f xs ≡ None → IsIn x xs → f x ≡ None
all_none f [] x h i = absurd i
all_none {X} {Y} f (y ∷ ys) x h i = go (all_none f ys x) (f y) refl h i
  where
    go : (first_some f ys ≡ None → IsIn x ys → f x ≡ None) → (o : Option Y) → f y ≡ o →
        option_or o (first_some f ys) ≡ None → IsIn x (y ∷ ys) → f x ≡ None
    go ih None e q (inl j) = ap f j ∙ e
    go ih None e q (inr j) = ih q j
    go ih (Some v) e q j = absurd cc

pub some_answer : {X Y : Type 0} (f : X → Option Y) (xs : List X) (y : Y) → first_some f xs ≡ Some y →
    (x : X) × IsIn x xs × (f x ≡ Some y)
some_answer f [] y h = absurd cc
some_answer {X} {Y} f (z ∷ zs) y h = go (some_answer f zs y) (f z) refl h
  where
    go : (first_some f zs ≡ Some y → (x : X) × IsIn x zs × (f x ≡ Some y)) → (o : Option Y) → f z ≡ o →
        option_or o (first_some f zs) ≡ Some y → (x : X) × IsIn x (z ∷ zs) × (f x ≡ Some y)
    go ih None e q = let r = ih q in (r.0, inr r.1, r.2)
    go ih (Some v) e q = (z, inl refl, e ∙ q)

pub from_append : {X : Type 0} (xs ys : List X) (x : X) → IsIn x (xs ++ ys) → IsIn x xs ⊎ IsIn x ys
from_append [] ys x i = inr i
from_append (z ∷ zs) ys x (inl q) = inl (inl q)
from_append (z ∷ zs) ys x (inr i) = elim (from_append zs ys x i) [ inl j ↦ inl (inr j) | inr j ↦ inr j ]

pub left_append : {X : Type 0} (xs ys : List X) (x : X) → IsIn x xs → IsIn x (xs ++ ys)
left_append [] ys x i = absurd i
left_append (z ∷ zs) ys x (inl q) = inl q
left_append (z ∷ zs) ys x (inr i) = inr (left_append zs ys x i)

pub right_append : {X : Type 0} (xs ys : List X) (x : X) → IsIn x ys → IsIn x (xs ++ ys)
right_append [] ys x i = i
right_append (z ∷ zs) ys x i = inr (right_append zs ys x i)

pub into_flat : {X Y : Type 0} (f : X → List Y) (xs : List X) (x : X) (y : Y) → IsIn x xs → IsIn y (f x) →
    IsIn y (flat_map f xs)
into_flat f [] x y i j = absurd i
into_flat {X} {Y} f (z ∷ zs) x y (inl e) j = left_append (f z) (flat_map f zs) y (subst (λ (x : X). IsIn y (f x)) e j)
into_flat f (z ∷ zs) x y (inr i) j = right_append (f z) (flat_map f zs) y (into_flat f zs x y i j)

pub from_flat : {X Y : Type 0} (f : X → List Y) (xs : List X) (y : Y) → IsIn y (flat_map f xs) →
    (x : X) × IsIn x xs × IsIn y (f x)
from_flat f [] y i = absurd i
from_flat f (z ∷ zs) y i = elim (from_append (f z) (flat_map f zs) y i) [
  | inl j ↦ (z, inl refl, j)
  | inr j ↦ let r = from_flat f zs y j in (r.0, inr r.1, r.2)
]

-- ---- all items pass
pub all_at : {X : Type 0} (p : X → Bool) (xs : List X) (x : X) → list_all p xs ≡ true → IsIn x xs → p x ≡ true
all_at p [] x h i = absurd i
all_at p (y ∷ ys) x h (inl q) = ap p q ∙ (and_true (p y) (list_all p ys) h).0
all_at p (y ∷ ys) x h (inr i) = all_at p ys x (and_true (p y) (list_all p ys) h).1 i

pub all_from : {X : Type 0} (p : X → Bool) (xs : List X) → ((x : X) → IsIn x xs → p x ≡ true) → list_all p xs ≡ true
all_from p [] h = refl
all_from p (y ∷ ys) h = rw (h y (inl refl)) (all_from p ys (λ x i. h x (inr i)))

-- ---- lists that have a number
pub has_in : (k : ℕ) (ks : List ℕ) → has k ks ≡ true → IsIn k ks
unfolding has
has_in k ks h = let r = any_gives (λ j. j == k) ks h in subst (λ (j : ℕ). IsIn j ks) (equal r.0 k r.2) r.1

pub in_has : (k : ℕ) (ks : List ℕ) → IsIn k ks → has k ks ≡ true
unfolding has
in_has k ks i = any_from (λ j. j == k) ks k i (same k k refl)

pub none_found : {X : Type 0} (test : X → Bool) (xs : List X) (x : X) → find test xs ≡ None → IsIn x xs → test x ≡ false
none_found test [] x h i = absurd i
none_found {X} test (y ∷ ys) x h i = go (none_found test ys x) (test y) refl h i
  where
    go : (find test ys ≡ None → IsIn x ys → test x ≡ false) → (b : Bool) → test y ≡ b →
        cond b (Some y) (find test ys) ≡ None →
        IsIn x (y ∷ ys) → test x ≡ false
    go ih true e q j = absurd cc
    go ih false e q (inl j) = ap test j ∙ e
    go ih false e q (inr j) = ih q j

pub same_some : {X : Type 0} {x y : X} → Some x ≡ Some y → x ≡ y
same_some e = cc

-- the greatest is at most what all are at most
pub greatest_under : (xs : List ℕ) (m : ℕ) → ((x : ℕ) → IsIn x xs → x ≤ m) → greatest xs ≤ m
greatest_under [] m h = omega arith
greatest_under (x ∷ xs) m h = let a = h x (inl refl) in let k = greatest_under xs m (λ y i. h y (inr i)) in omega arith
