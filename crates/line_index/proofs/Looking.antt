-- What is seen of one entry of a claim more.
use Rattle.std.proofs.Common.{◌≡◌, ℕ, ◌+◌, ◌<◌, ◌⊎◌, inl, inr, [], ◌∷◌, length, slice_index_or, take, Option, Some, None, IfNone, is_some, Bool, true, false, ◌&&◌, IsTrue, ◌↔◌, nat_eq, refl, sym, ap, ◌∙◌, subst}
use Rattle.std.proofs.lemmas.List.{take_more}
use Rattle.std.specs.List.{list_any}
use Rattle.dsa_terms.specs.Claims.{Claim, Entry, IsIn}
use Rattle.dsa_terms.proofs.Lists.{any_from, any_gives, from_append}
use Rattle.dsa_terms.proofs.Moments.{and_true}
use Rattle.dsa_terms.proofs.NumberTests.{equal, same}
use Rattle.dsa_terms.proofs.Places.{in_at}
use Rattle.canonical_order.specs.Claims.{HasBuffer, bound_of}
use Rattle.canonical_order.proofs.Entries.{bound_some}

pub in_first : (items k : Claim) (n : ℕ) (f : Entry) → items ≡ k → n < length items → IsIn f (take (n + 1) k) →
    IsIn f (take n k) ⊎ (f ≡ slice_index_or items n (0, 0))
in_first items k n f q lt i = elim (from_append (take n items) (slice_index_or items n (0, 0) ∷ []) f
    (subst (IsIn f) (take_more items n (0, 0) lt) (subst (λ (k : Claim). IsIn f (take (n + 1) k)) (sym q) i))) [
      | inl j ↦ inl (subst (λ (k : Claim). IsIn f (take n k)) q j)
      | inr j ↦ elim j [ inl p ↦ inr p | inr z ↦ absurd z ]
    ]

pub in_claim : (items k : Claim) (n : ℕ) → items ≡ k → n < length items → IsIn (slice_index_or items n (0, 0)) k
in_claim items k n q lt = subst (IsIn (slice_index_or items n (0, 0))) q (in_at items n (0, 0) lt)

pub if_none : {P Q : Type 0} (o : Option Entry) → IfNone o P → (P → Q) → IfNone o Q
if_none None p f = f p
if_none (Some x) p f = tt

-- a fact that holds of the first entries where none was found, and of the next one
pub none_next : (P : Entry → Type 0) (items k : Claim) (n : ℕ) → items ≡ k → n < length items →
    P (slice_index_or items n (0, 0)) → ((e : Entry) → IsIn e (take n k) → P e) →
    (e : Entry) → IsIn e (take (n + 1) k) → P e
none_next P items k n q lt new old e i = elim (in_first items k n e q lt i) [
  | inl j ↦ old e j
  | inr p ↦ subst P (sym p) new
]

same_pair : (e f : Entry) → (nat_eq f.0 e.0 && nat_eq f.1 e.1) ≡ true → e ≡ f
same_pair e f h = let t = and_true (nat_eq f.0 e.0) (nat_eq f.1 e.1) h in
    ap (λ (b : ℕ). let g : Entry = (b, e.1) in g) (sym (equal f.0 e.0 t.0))
    ∙ ap (λ (n : ℕ). let g : Entry = (f.0, n) in g) (sym (equal f.1 e.1 t.1))

-- the test for a pair finds just those of the claim
pub has_pair : (e : Entry) (l : Claim) (t : Bool) → t ≡ list_any (λ f. nat_eq f.0 e.0 && nat_eq f.1 e.1) l →
    IsTrue t ↔ IsIn e l
has_pair e l t q = (
  λ s. let k = any_gives (λ f. nat_eq f.0 e.0 && nat_eq f.1 e.1) l (sym q ∙ s) in
      subst (λ (f : Entry). IsIn f l) (sym (same_pair e k.0 k.2)) k.1,
  λ i. q ∙ any_from (λ f. nat_eq f.0 e.0 && nat_eq f.1 e.1) l e i (rw (same e.0 e.0 refl, same e.1 e.1 refl) refl),
)

pub some_in : (l : Claim) (b : ℕ) (o : Option ℕ) → o ≡ bound_of l b → is_some o ≡ true → HasBuffer l b
some_in l b None q h = absurd cc
some_in l b (Some bound) q h = (bound_some l b bound q).0

pub from_none : {X : Type 0} {P : Type 0} (o : Option X) → is_some o ≡ false → IfNone o P → P
from_none None h p = p
from_none (Some x) h p = absurd cc
