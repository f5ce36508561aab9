-- Legal cites of another buffer of the claim.
use Rattle.std.proofs.Common.{◌≡◌, ℕ, Bool, true, false, ◌&&◌, ◌==◌, nat_lt, nat_le, not, ◌<◌, ◌≤◌, sym, refl, ap, ◌∙◌, subst, IsTrue, arith}
use Rattle.std.proofs.lemmas.Bool.Decides.{nat_tests}
use Rattle.dsa_terms.specs.Buffers.{Instance, buffer, have_same_moments}
use Rattle.dsa_terms.specs.Claims.{Claim, Entry, Rises, buffers_of, up}
use Rattle.dsa_terms.specs.Logs.{is_twin}
use Rattle.dsa_search_laws.proofs.Placing.{in_buffers}
use Rattle.canonical_order.specs.Claims.{HasBuffer, Passes, entry_of}
use Rattle.canonical_order.proofs.Entries.{entry_in, is_entry}
use Rattle.prune_rules.specs.Twins.{are_alike}

-- a buffer that passes is in the claim
pub passes_has : (test : Entry → Bool) (l : Claim) (c : ℕ) → Passes test l c → HasBuffer l c
passes_has test l c h = subst (λ b. HasBuffer l b) h.2 (in_buffers l h.0 h.1)

-- it is the one entry of c
pub passes_iff : (test : Entry → Bool) (l : Claim) (c : ℕ) (result : Bool) → Rises (buffers_of l) → HasBuffer l c →
    result ≡ test (entry_of l c) →
    (IsTrue result → Passes test l c) × (Passes test l c → IsTrue result)
passes_iff test l c result r h e = (
  λ t. (entry_of l c, entry_in l c h, refl, sym e ∙ t),
  λ p. e ∙ (ap test (sym (is_entry l p.0 r p.1 ∙ ap (entry_of l) p.2)) ∙ p.3),
)

-- ---- the tests, from their parts
pub not_itself : (c b : ℕ) (t : Bool) → c ≡ b → false ≡ (not (c == b) && t)
not_itself c b t h = let k : (c == b) ≡ true = (grind (arith, nat_tests)) in rw k refl

pub of_another : (c b : ℕ) (t : Bool) → (c ≡ b → ⊥) → t ≡ (not (c == b) && t)
of_another c b t h = let k : (c == b) ≡ false = (grind (arith, nat_tests)) in rw k refl

pub twin_not_before : (c b m n : ℕ) (same size alignment : Bool) → b ≤ c →
    false ≡ (nat_lt c b && same && size && alignment && nat_le m n)
twin_not_before c b m n same size alignment h = let k : nat_lt c b ≡ false = (grind (arith, nat_tests)) in rw k refl

pub twin_above : (c b m n : ℕ) (same size alignment : Bool) → n < m →
    false ≡ (nat_lt c b && same && size && alignment && nat_le m n)
twin_above c b m n same size alignment h = let k : nat_le m n ≡ false = (grind (arith, nat_tests)) in
    rw k (ends (nat_lt c b && same && size && alignment))
  where
    ends : (t : Bool) → false ≡ (t && false)
    ends true = refl
    ends false = refl

twin_alike : (c b m n : ℕ) (same size alignment : Bool) → c < b → m ≤ n →
    (size && (alignment && same)) ≡ (nat_lt c b && same && size && alignment && nat_le m n)
twin_alike c b m n same size alignment h k =
    let p : nat_lt c b ≡ true = (grind (arith, nat_tests)) in let q : nat_le m n ≡ true = (grind (arith, nat_tests)) in
    rw (p, q) (turned same size alignment)
  where
    turned : (same size alignment : Bool) → (size && (alignment && same)) ≡ (same && size && alignment && true)
    turned true true true = refl
    turned true true false = refl
    turned true false alignment = refl
    turned false true true = refl
    turned false true false = refl
    turned false false alignment = refl

pub higher_is_no_twin : (I : Instance) (f e : Entry) → up I e < up I f → false ≡ is_twin I f e
unfolding is_twin
higher_is_no_twin I f e h =
    twin_above f.0 e.0 (up I f) (up I e) (have_same_moments (buffer I f.0) (buffer I e.0))
    ((buffer I f.0).size == (buffer I e.0).size) ((buffer I f.0).alignment == (buffer I e.0).alignment) h

pub alike_is_twin : (I : Instance) (f e : Entry) → f.0 < e.0 → up I f ≤ up I e →
    are_alike (buffer I f.0) (buffer I e.0) ≡ is_twin I f e
unfolding is_twin
alike_is_twin I f e h k =
    twin_alike f.0 e.0 (up I f) (up I e) (have_same_moments (buffer I f.0) (buffer I e.0))
    ((buffer I f.0).size == (buffer I e.0).size) ((buffer I f.0).alignment == (buffer I e.0).alignment) h k
