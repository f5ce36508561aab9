-- What a binary search finds among the pairs of a claim.
use Rattle.std.proofs.Common.{◌≡◌, ℕ, zero, suc, ◌<◌, ◌≤◌, inl, inr, [], ◌∷◌, length, slice_index_or, Option, Some, None, Result, Ok, Err, IfOk, IfErr, refl, sym, ap, ◌∙◌, arith}
use Rattle.std.proofs.lemmas.Bool.Decides.{nat_tests}
use Rattle.std.specs.List.Sorted.{IsSearchInRange, IsBinarySearchResult, IsNonDecreasingBy}
use Rattle.std.specs.Ordering.{nat_cmp, ordering_index}
use Rattle.std.proofs.lemmas.Cmp.{ranked}
use Rattle.std.proofs.lemmas.List.Sorted.{IsNonDecreasingBy-from_default}
use Rattle.dsa_terms.specs.Claims.{Entry, Claim, Rises, buffers_of}
use Rattle.dsa_search_laws.proofs.Placing.{in_buffers}
use Rattle.canonical_order.specs.Claims.{HasBuffer, IsAt, bound_of}
use Rattle.dsa_terms.proofs.NumberTests.{same, apart, below_or_from}
use Rattle.dsa_terms.proofs.Places.{any_default, in_at}

-- each buffer is above those before it
rises_at : (l : Claim) (i j : ℕ) → Rises (buffers_of l) → i < j → j < length l →
    (slice_index_or l i (0, 0)).0 < (slice_index_or l j (0, 0)).0
rises_at [] i j r lt le = absurd (omega arith)
rises_at (x ∷ xs) i zero r lt le = absurd (omega arith)
rises_at (x ∷ xs) zero (suc j) r lt le = r.0 _ (in_buffers xs _ (in_at xs j (0, 0) (omega arith)))
rises_at (x ∷ xs) (suc i) (suc j) r lt le = rises_at xs i j r.1 (omega arith) (omega arith)

-- the comparisons with b rise along the claim, as a binary search asks
comparisons_rise : (l : Claim) (b : ℕ) → Rises (buffers_of l) →
    IsNonDecreasingBy (λ (e : Entry). ordering_index (nat_cmp e.0 b)) l
comparisons_rise l b r = IsNonDecreasingBy-from_default (λ (e : Entry). ordering_index (nat_cmp e.0 b)) l (0, 0)
    (λ i j le within.
    ordered (slice_index_or l i (0, 0)).0 (slice_index_or l j (0, 0)).0 i j le
    (λ (lt : i < j). rises_at l i j r lt within) (λ (q : i ≡ j). ap (λ k. (slice_index_or l k (0, 0)).0) q))
  where
    ordered : (m n i j : ℕ) → i ≤ j → (i < j → m < n) → (i ≡ j → m ≡ n) →
        ordering_index (nat_cmp m b) ≤ ordering_index (nat_cmp n b)
    ordered m n i j le lt eq = let k : m ≤ n = grind (arith, lt, eq) in grind (arith, nat_tests)

-- a buffer of the claim stands at a place
has_place : (l : Claim) (b : ℕ) → HasBuffer l b → (place : ℕ) × (place < length l) ×
    ((slice_index_or l place (0, 0)).0 ≡ b)
has_place [] b h = absurd h
has_place (x ∷ xs) b (inl q) = (0, (omega arith), sym q)
has_place (x ∷ xs) b (inr i) = let k = has_place xs b i in (suc k.0, (omega arith), k.2)

-- the search ends at the buffer's place, or the buffer is not in the claim
pub searched : (l : Claim) (b : ℕ) → Rises (buffers_of l) → (r : Result ℕ ℕ) → IsSearchInRange r (length l) →
    IsBinarySearchResult (λ (e : Entry). nat_cmp e.0 b) l r →
    IfOk r (IsAt l b) × IfErr r (λ _. HasBuffer l b → ⊥)
searched l b r (Ok place) within equal = ((within, ranked _ b _ (sym (equal (0, 0)))), tt)
searched l b r (Err place) within parted = (
  tt,
  λ h. let k = has_place l b h in elim (below_or_from k.0 place) [
    | inl lt ↦ let m : (slice_index_or l k.0 (0, 0)).0 < b =
        ranked _ b _ (sym ((parted (comparisons_rise l b r)).0 k.0 (0, 0) (omega arith) lt)) in
        let q : (slice_index_or l k.0 (0, 0)).0 ≡ b = k.2 in omega arith
    | inr le ↦ let m : b < (slice_index_or l k.0 (0, 0)).0 =
        ranked _ b _ (sym ((parted (comparisons_rise l b r)).1 k.0 (0, 0) le k.1)) in
        let q : (slice_index_or l k.0 (0, 0)).0 ≡ b = k.2 in omega arith
  ],
)

-- the bound of the buffer at a place
pub bound_at : (l : Claim) (b place : ℕ) → Rises (buffers_of l) → IsAt l b place →
    Some (slice_index_or l place (0, 0)).1 ≡ bound_of l b
bound_at [] b place r h = absurd (omega (arith, h.0))
bound_at (x ∷ xs) b zero r h = rw (same x.0 b h.1) refl
bound_at (x ∷ xs) b (suc place) r h =
    let k : x.0 < (slice_index_or xs place (0, 0)).0 = r.0 _ (in_buffers xs _
    (in_at xs place (0, 0) (omega (arith, h.0)))) in
    let q : (slice_index_or xs place (0, 0)).0 ≡ b = h.1 in
    rw (apart x.0 b (omega arith)) (bound_at xs b place r.1 ((omega (arith, h.0)), h.1))

pub no_bound : (l : Claim) (b : ℕ) → (HasBuffer l b → ⊥) → None ≡ bound_of l b
no_bound [] b h = refl
no_bound (x ∷ xs) b h = rw (apart x.0 b (λ q. h (inl (sym q)))) (no_bound xs b (λ i. h (inr i)))

pub bound_here : (l items : Claim) (b place : ℕ) (x : Entry) → items ≡ l → Rises (buffers_of l) → IsAt l b place →
    x ≡ slice_index_or items place x → Some x.1 ≡ bound_of l b
bound_here l items b place x e r h q =
    let k : x ≡ slice_index_or l place (0, 0) = q ∙ (ap (λ (l : Claim). slice_index_or l place x) e ∙
    any_default l place x (0, 0) h.0) in
    ap (λ (e : Entry). let o : Option ℕ = Some e.1 in o) k ∙ bound_at l b place r h
