-- The entry of a claim that is before all others: the first choice.
use Rattle.std.proofs.Common.{◌≡◌, ◌⊎◌, ℕ, ◌<◌, ◌≤◌, ◌==◌, ◌||◌, ◌&&◌, inl, inr, Bool, true, false, cond, nat_lt, List, [], ◌∷◌, filter, length, slice_index, refl, sym, ap, ◌∙◌, subst, arith}
use Rattle.std.proofs.lemmas.Bool.Decides.{nat_tests}
use Rattle.branching.proofs.Words.{Instance, IsInstance, Claim, Entry, IsIn, buffers_of, up, ends_below, is_twin, comes_before, not_excluded, from_filter, from_ordered_by, into_filter, true_or_false, sound}
use Rattle.dsa_terms.specs.Sorts.{ordered_by, put_by}
use Rattle.dsa_search_laws.proofs.Moves.{below_is, twin_is}
use Rattle.claim_levels.specs.Firsts.{IsBefore, IsFirst}
use Rattle.branching.specs.Tries.{IsLeft, chosen_of, order_of, untried}
use Rattle.branching.proofs.Ends.{no_any}
use Rattle.branching.proofs.Least.{no_rule_excludes}

before_is : (I : Instance) (e f : Entry) → comes_before I e f ≡ true → IsBefore I e f
unfolding comes_before
before_is I e f h = test (up I e) (up I f) e.0 f.0 h
  where
    test : (m n b c : ℕ) → (nat_lt m n || ((m == n) && nat_lt b c)) ≡ true → (m < n) ⊎ ((m ≡ n) × (b < c))
    test m n b c h = grind (arith, nat_tests)

not_before : (I : Instance) (e f : Entry) → comes_before I e f ≡ false → IsBefore I e f → ⊥
unfolding comes_before
not_before I e f h = test (up I e) (up I f) e.0 f.0 h
  where
    test : (m n b c : ℕ) → (nat_lt m n || ((m == n) && nat_lt b c)) ≡ false → (m < n) ⊎ ((m ≡ n) × (b < c)) → ⊥
    test m n b c h p = grind (arith, nat_tests)

one_way : (I : Instance) (e f : Entry) → IsBefore I e f → IsBefore I f e → ⊥
one_way I e f (inl p) (inl q) = omega arith
one_way I e f (inl p) (inr q) = let k = q.0 in omega arith
one_way I e f (inr p) (inl q) = let k = p.0 in omega arith
one_way I e f (inr p) (inr q) = let k = p.1 in let l = q.1 in omega arith

-- what is before all others stands first in order
abbrev StandsFirst : Instance → Entry → List Entry → Type 0
StandsFirst I f es = (rest : List Entry) × (ordered_by (comes_before I) es ≡ f ∷ rest)

stands_first : (I : Instance) (f : Entry) (es : List Entry) → IsIn f es →
    ((e : Entry) → IsIn e es → (e ≡ f) ⊎ IsBefore I f e) → StandsFirst I f es
stands_first I f [] i h = absurd i
stands_first I f (e ∷ es) (inl p) h =
    here (ordered_by (comes_before I) es) (λ g j. h g (inr (from_ordered_by (comes_before I) es g j)))
  where
    here : (gs : List Entry) → ((g : Entry) → IsIn g gs → (g ≡ f) ⊎ IsBefore I f g) →
        (rest : List Entry) × (put_by (comes_before I) e gs ≡ f ∷ rest)
    here [] k = ([], ap (λ (x : Entry). x ∷ []) (sym p))
    here (g ∷ gs) k = go (comes_before I e g) refl
      where
        go : (t : Bool) → comes_before I e g ≡ t →
            (rest : List Entry) × (cond t (e ∷ g ∷ gs) (g ∷ put_by (comes_before I) e gs) ≡ f ∷ rest)
        go true q = (g ∷ gs, ap (λ (x : Entry). x ∷ g ∷ gs) (sym p))
        go false q = (
          put_by (comes_before I) e gs,
          ap (λ (x : Entry). x ∷ put_by (comes_before I) e gs) (elim (k g (inl refl)) [
            | inl same ↦ same
            | inr b ↦ absurd (not_before I e g q (subst (λ (x : Entry). IsBefore I x g) p b))
          ]),
        )
stands_first I f (e ∷ es) (inr i) h =
    let r = stands_first I f es i (λ g j. h g (inr j)) in
    subst (λ (gs : List Entry). (rest : List Entry) × (put_by (comes_before I) e gs ≡ f ∷ rest)) (sym r.1)
    (go r.0 (comes_before I e f) refl)
  where
    go : (fs : List Entry) (t : Bool) → comes_before I e f ≡ t →
        (rest : List Entry) × (cond t (e ∷ f ∷ fs) (f ∷ put_by (comes_before I) e fs) ≡ f ∷ rest)
    go fs true q = (
      f ∷ fs,
      ap (λ (x : Entry). x ∷ f ∷ fs) (elim (h e (inl refl)) [
        | inl same ↦ same
        | inr b ↦ absurd (one_way I f e b (before_is I e f q))
      ]),
    )
    go fs false q = (put_by (comes_before I) e fs, refl)

module _ (I : Instance) (l : Claim) (b : ℕ) (s : IsInstance I) (h : IsFirst I l b) where
  no_higher : (g : Entry) → IsIn g l → up I h.f ≤ up I g
  no_higher g i = elim (h.before g i) [
    | inl p ↦ (let q = ap (up I) p in omega (arith, q))
    | inr p ↦ elim p [
      | inl q ↦ omega (arith, q)
      | inr q ↦ (let k = q.0 in omega (arith, k))
    ]
  ]

  none_below : (g : Entry) → IsIn g l → ends_below I g h.f ≡ false
  none_below g i = elim (true_or_false (ends_below I g h.f)) [
    | inl t ↦ absurd (let r = (below_is I g h.f t).1 in let n = (sound I g.0 s).0 in let k = no_higher g i in
        omega (arith, r, n, k))
    | inr f ↦ f
  ]

  no_twin : (g : Entry) → IsIn g l → is_twin I g h.f ≡ false
  no_twin g i = elim (true_or_false (is_twin I g h.f)) [
    | inl t ↦ absurd (let w = twin_is I g h.f t in elim (h.before g i) [
      | inl p ↦ (let q = ap (λ (e : Entry). e.0) p in let k = w.less in omega (arith, q, k))
      | inr p ↦ elim p [
        | inl q ↦ (let k = w.no_higher in omega (arith, q, k))
        | inr q ↦ (let k = w.less in let m = q.1 in omega (arith, k, m))
      ]
    ])
    | inr f ↦ f
  ]

  head : StandsFirst I h.f (filter (not_excluded I l) l)
  head = stands_first I h.f (filter (not_excluded I l) l)
      (into_filter (not_excluded I l) l h.f h.among
      (no_rule_excludes I l h.f (no_any (λ g. ends_below I g h.f) l none_below)
      (no_any (λ g. is_twin I g h.f) l no_twin)))
      (λ e i. h.before e (from_filter (not_excluded I l) l e i).0)

  some_choice : 0 < length (order_of I l)
  some_choice = let q = ap (λ (es : List Entry). length (buffers_of es)) head.1 in omega (arith, q)

  first_is : b ≡ slice_index (order_of I l) 0
  first_is = sym h.is ∙ sym (ap (λ (es : List Entry). slice_index (buffers_of es) 0) head.1)

-- a claim that has a first buffer has a choice, and that buffer is the first one
pub first_choice : (I : Instance) (l : Claim) (b n : ℕ) → IsInstance I → IsFirst I l b →
    IsLeft (untried (order_of I l) n) × (b ≡ chosen_of (untried (order_of I l) n))
first_choice I l b n s h = (some_choice I l b s h, first_is I l b s h)
