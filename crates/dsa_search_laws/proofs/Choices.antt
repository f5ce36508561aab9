-- The choices of a claim are in order, and no other list of them is.
use Rattle.std.proofs.Common.{◌≡◌, ◌≢◌, ◌<◌, ◌⊎◌, ◌↔◌, ℕ, inl, inr, Bool, true, false, cond, not, ◌==◌, ◌||◌, ◌&&◌, nat_lt, List, [], ◌∷◌, filter, sym, refl, ap₂, ◌∙◌, subst, arith}
use Rattle.std.proofs.lemmas.Bool.Decides.{nat_tests}
use Rattle.std.specs.List.{list_any}
use Rattle.dsa_terms.specs.Buffers.{Instance}
use Rattle.dsa_terms.specs.Claims.{Claim, Entry, IsIn, IsClaim, Rises, buffers_of, up}
use Rattle.dsa_terms.specs.Logs.{ends_below, is_twin}
use Rattle.dsa_terms.specs.Sorts.{IsOrdered, ordered_by, put_by}
use Rattle.dsa_terms.specs.Search.{Rule, choices, comes_before, not_excluded}
use Rattle.dsa_terms.proofs.Lists.{any_gives, from_filter, from_ordered_by, from_put_by, into_filter, into_ordered_by, none_passes, true_or_false}
use Rattle.dsa_search_laws.proofs.Placing.{in_buffers}

-- ---- before
-- the up of e is lower than that of f, or as high, with the smaller number
abbrev IsBefore : Instance → Entry → Entry → Type 0
IsBefore I e f = (up I e < up I f) ⊎ ((up I e ≡ up I f) × (e.0 < f.0))

-- each entry is before all later ones
abbrev AreInOrder : Instance → List Entry → Type 0
AreInOrder I [] = Unit {0}
AreInOrder I (e ∷ es) = ((f : Entry) → IsIn f es → IsBefore I e f) × AreInOrder I es

is_before : (I : Instance) (e f : Entry) → IsBefore I e f → comes_before I e f ≡ true
unfolding comes_before
is_before I e f h = test (up I e) (up I f) e.0 f.0 h
  where
    test : (m n b c : ℕ) → (m < n) ⊎ ((m ≡ n) × (b < c)) → (nat_lt m n || ((m == n) && nat_lt b c)) ≡ true
    test m n b c (inl q) = grind (arith, nat_tests)
    test m n b c (inr q) = let x = q.0 in let y = q.1 in grind (arith, nat_tests)

before_is : (I : Instance) (e f : Entry) → comes_before I e f ≡ true → IsBefore I e f
unfolding comes_before
before_is I e f h = test (up I e) (up I f) e.0 f.0 h
  where
    test : (m n b c : ℕ) → (nat_lt m n || ((m == n) && nat_lt b c)) ≡ true → (m < n) ⊎ ((m ≡ n) × (b < c))
    test m n b c h = grind (arith, nat_tests)

else_after : (I : Instance) (e f : Entry) → f.0 ≢ e.0 → comes_before I e f ≡ false → IsBefore I f e
unfolding comes_before
else_after I e f ne h = test (up I e) (up I f) e.0 f.0 ne h
  where
    test : (m n b c : ℕ) → c ≢ b → (nat_lt m n || ((m == n) && nat_lt b c)) ≡ false → (n < m) ⊎ ((n ≡ m) × (c < b))
    test m n b c ne h = grind (arith, nat_tests)

along : (I : Instance) (e f g : Entry) → IsBefore I e f → IsBefore I f g → IsBefore I e g
along I e f g (inl p) (inl q) = inl (omega arith)
along I e f g (inl p) (inr q) = let k = q.0 in inl (omega arith)
along I e f g (inr p) (inl q) = let k = p.0 in inl (omega arith)
along I e f g (inr p) (inr q) = let k = p.1 in let l = q.1 in inr (p.0 ∙ q.0, omega arith)

one_way : (I : Instance) (e f : Entry) → IsBefore I e f → IsBefore I f e → ⊥
one_way I e f (inl p) (inl q) = omega arith
one_way I e f (inl p) (inr q) = let k = q.0 in omega arith
one_way I e f (inr p) (inl q) = let k = p.0 in omega arith
one_way I e f (inr p) (inr q) = let k = p.1 in let l = q.1 in omega arith

-- ---- a list brought into order
put_is_in_order : (I : Instance) (e : Entry) (fs : List Entry) → ((f : Entry) → IsIn f fs → f.0 ≢ e.0) →
    AreInOrder I fs → AreInOrder I (put_by (comes_before I) e fs)
put_is_in_order I e [] ne h = ((λ f i. absurd i), tt)
put_is_in_order I e (f ∷ fs) ne h = go (put_is_in_order I e fs (λ g i. ne g (inr i)) h.1) (comes_before I e f) refl
  where
    go : AreInOrder I (put_by (comes_before I) e fs) → (t : Bool) → comes_before I e f ≡ t →
        AreInOrder I (cond t (e ∷ f ∷ fs) (f ∷ put_by (comes_before I) e fs))
    go ih true q = (first, h)
      where
        first : (g : Entry) → IsIn g (f ∷ fs) → IsBefore I e g
        first g (inl s) = subst (IsBefore I e) (sym s) (before_is I e f q)
        first g (inr i) = along I e f g (before_is I e f q) (h.0 g i)
    go ih false q = ((λ g i. later g (from_put_by (comes_before I) e fs g i)), ih)
      where
        later : (g : Entry) → IsIn g (e ∷ fs) → IsBefore I f g
        later g (inl s) = subst (IsBefore I f) (sym s) (else_after I e f (ne f (inl refl)) q)
        later g (inr i) = h.0 g i

are_in_order : (I : Instance) (p : Entry → Bool) (l : Claim) → Rises (buffers_of l) →
    AreInOrder I (ordered_by (comes_before I) (filter p l))
are_in_order I p [] r = tt
are_in_order I p (e ∷ l) r = go (are_in_order I p l r.1) (p e)
  where
    apart : (f : Entry) → IsIn f (ordered_by (comes_before I) (filter p l)) → f.0 ≢ e.0
    apart f i q =
        let j = from_filter p l f (from_ordered_by (comes_before I) (filter p l) f i) in
        let above = r.0 f.0 (in_buffers l f j.0) in omega arith

    go : AreInOrder I (ordered_by (comes_before I) (filter p l)) → (t : Bool) →
        AreInOrder I (ordered_by (comes_before I) (cond t (e ∷ filter p l) (filter p l)))
    go ih true = put_is_in_order I e (ordered_by (comes_before I) (filter p l)) apart ih
    go ih false = ih

in_order_is : (I : Instance) (es : List Entry) → AreInOrder I es → IsOrdered (comes_before I) es
in_order_is I [] h = tt
in_order_is I (e ∷ es) h = ((λ f i. is_before I e f (h.0 f i)), in_order_is I es h.1)

ordered_is : (I : Instance) (es : List Entry) → IsOrdered (comes_before I) es → AreInOrder I es
ordered_is I [] h = tt
ordered_is I (e ∷ es) h = ((λ f i. before_is I e f (h.0 f i)), ordered_is I es h.1)

pub choices_are_in_order : (I : Instance) (rule : Rule) (l : Claim) → IsClaim I l →
    IsOrdered (comes_before I) (choices I rule l)
choices_are_in_order I rule l c = in_order_is I (choices I rule l) (are_in_order I (rule l) l c.rises)

pub choices_are : (I : Instance) (rule : Rule) (l : Claim) (e : Entry) →
    IsIn e (choices I rule l) ↔ (IsIn e l × (rule l e ≡ true))
choices_are I rule l e = (
  λ i. from_filter (rule l) l e (from_ordered_by (comes_before I) (filter (rule l) l) e i),
  λ h. into_ordered_by (comes_before I) (filter (rule l) l) e (into_filter (rule l) l e h.0 h.1),
)

-- ---- and there is one such list
one_in_order : (I : Instance) (es fs : List Entry) → AreInOrder I es → AreInOrder I fs →
    ((e : Entry) → IsIn e es ↔ IsIn e fs) → es ≡ fs
one_in_order I [] [] p q h = refl
one_in_order I [] (f ∷ fs) p q h = absurd ((h f).1 (inl refl))
one_in_order I (e ∷ es) [] p q h = absurd ((h e).0 (inl refl))
one_in_order I (e ∷ es) (f ∷ fs) p q h = ap₂ (λ z zs. z ∷ zs) same (one_in_order I es fs p.1 q.1 rest)
  where
    same : e ≡ f
    same = go ((h e).0 (inl refl)) ((h f).1 (inl refl))
      where
        go : IsIn e (f ∷ fs) → IsIn f (e ∷ es) → e ≡ f
        go (inl s) j = s
        go (inr i) (inl s) = sym s
        go (inr i) (inr j) = absurd (one_way I f e (q.0 e i) (p.0 f j))

    not_itself : (g : Entry) → IsBefore I g g → ⊥
    not_itself g b = one_way I g g b b

    rest : (g : Entry) → IsIn g es ↔ IsIn g fs
    rest g = (λ i. forth i ((h g).0 (inr i)), λ i. back i ((h g).1 (inr i)))
      where
        forth : IsIn g es → IsIn g (f ∷ fs) → IsIn g fs
        forth i (inl s) = absurd (not_itself e (subst (IsBefore I e) (s ∙ sym same) (p.0 g i)))
        forth i (inr j) = j

        back : IsIn g fs → IsIn g (e ∷ es) → IsIn g es
        back i (inl s) = absurd (not_itself f (subst (IsBefore I f) (s ∙ same) (q.0 g i)))
        back i (inr j) = j

-- ---- which are not excluded
pub not_excluded_is : (I : Instance) (l : Claim) (e : Entry) →
    (not_excluded I l e ≡ true)
    ↔ ((f : Entry) → IsIn f l → (ends_below I f e ≡ false) × (is_twin I f e ≡ false))
not_excluded_is I l e = (forth (list_any (λ f. ends_below I f e) l) (list_any (λ f. is_twin I f e) l) refl refl, back)
  where
    forth : (a b : Bool) → list_any (λ f. ends_below I f e) l ≡ a → list_any (λ f. is_twin I f e) l ≡ b →
        not (a || b) ≡ true → (f : Entry) → IsIn f l → (ends_below I f e ≡ false) × (is_twin I f e ≡ false)
    forth true b p q h = absurd cc
    forth false true p q h = absurd cc
    forth false false p q h = λ f i. (
      none_passes (λ f. ends_below I f e) l f p i,
      none_passes (λ f. is_twin I f e) l f q i,
    )

    none : (p : Entry → Bool) → ((f : Entry) → IsIn f l → p f ≡ false) → list_any p l ≡ false
    none p h = elim (true_or_false (list_any p l)) [
      | inl t ↦ (let r = any_gives p l t in let k = h r.0 r.1 in let j = r.2 in absurd cc)
      | inr f ↦ f
    ]

    back : ((f : Entry) → IsIn f l → (ends_below I f e ≡ false) × (is_twin I f e ≡ false)) →
        not_excluded I l e ≡ true
    back h = rw (none (λ f. ends_below I f e) (λ f i. (h f i).0), none (λ f. is_twin I f e) (λ f i. (h f i).1)) refl

pub one_order : (I : Instance) (es fs : List Entry) → IsOrdered (comes_before I) es → IsOrdered (comes_before I) fs →
    ((e : Entry) → IsIn e es ↔ IsIn e fs) → es ≡ fs
one_order I es fs p q = one_in_order I es fs (ordered_is I es p) (ordered_is I fs q)
