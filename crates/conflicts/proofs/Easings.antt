-- What is proved of an eased line.
use Rattle.std.proofs.Common.{◌≡◌, ◌^◌, ◌≤◌, ℕ, suc, List, [], ◌∷◌, All, IfOk, Result, length, map, refl, ap, subst}
use Rattle.std.proofs.lemmas.Result.{IfOk-weaker}
use Rattle.std.specs.List.{AllZip}
use Rattle.dsa_terms.specs.Buffers.{Instance}
use Rattle.dsa_terms.specs.Claims.{Claim, Covers, Entry, IsClaim}
use Rattle.dsa_terms.specs.Lean.{IsLeanLine}
use Rattle.dsa_terms.specs.Logs.{Cite, Line, IsLegal, claim_of}
use Rattle.dsa_search_laws.proofs.Placing.{in_buffers}
use Rattle.canonical_order.specs.Claims.{HasBuffer, IsBoundedBy}
use Rattle.canonical_order.specs.Stands.{Stands}
use Rattle.canonical_order.proofs.Entries.{entry_in, raise_limit}
use Rattle.dsa_model.specs.Buffer.{IsBuffer, buffer_limit}
use Rattle.refute_log.specs.Lines.{IsWithin}

-- it is legal, within the limits of numbers, covers the given one's claim, and is lean
pub record IsEased (I : Instance) (C : ℕ) (earlier : List Line) (given eased : Line) : Type 0 where
  pub legal : IsLegal I C earlier eased
  pub within : IsWithin eased
  pub covers : Covers I (claim_of eased) (claim_of given)
  pub lean : IsLeanLine I C earlier eased

-- the buffers of a claim that covers another are among that one's
pub among : (I : Instance) (k l : Claim) → Covers I k l → (b : ℕ) → HasBuffer k b → HasBuffer l b
among I k l h b i = let q = h _ (entry_in k b i) in subst (λ b. HasBuffer l b) q.2 (in_buffers l q.0 q.1)

-- a claim with bounds within the limit of lines
pub stands_within : (I : Instance) (l : Claim) → IsClaim I l → IsBoundedBy (2 ^ 60) l → All IsBuffer I →
    length I ≤ buffer_limit → Stands I l
stands_within I l c b s n = record { claim = c; bounds = raise_limit l b; buffers = s; count = n }

-- the answer of a call that gives that eased line
pub if_eased : {X E : Type 0} (v : X → Line) (r : Result X E) (I : Instance) (C : ℕ) (earlier : List Line)
    (given eased : Line) → IsEased I C earlier given eased → IfOk r (λ x. v x ≡ eased) →
    IfOk r (λ x. IsEased I C earlier given (v x))
if_eased v r I C earlier given eased h k =
    IfOk-weaker r (λ x. v x ≡ eased) (λ x. IsEased I C earlier given (v x)) (λ x q. rw q h) k

-- as many cites as entries
pub cites_of_all : {A : Type 0} (R : Entry → Cite → Type 0) (v : A → Cite) (l : Claim) (cites : List A) →
    AllZip R l (map v cites) → length cites ≡ length l
cites_of_all R v [] [] z = refl
cites_of_all R v [] (y ∷ ys) z = absurd z
cites_of_all R v (x ∷ xs) [] z = absurd z
cites_of_all R v (x ∷ xs) (y ∷ ys) z = ap suc (cites_of_all R v xs ys z.1)

-- what that answer says, part by part
module _ {X E : Type 0} (v : X → Line) (r : Result X E) (I : Instance) (C : ℕ) (earlier : List Line) (given : Line)
    (h : IfOk r (λ x. IsEased I C earlier given (v x))) where
  part : (P : X → Type 0) → ((x : X) → IsEased I C earlier given (v x) → P x) → IfOk r P
  part P f = IfOk-weaker r (λ x. IsEased I C earlier given (v x)) P f h

  pub legal_of : IfOk r (λ x. IsLegal I C earlier (v x))
  legal_of = part (λ x. IsLegal I C earlier (v x)) (λ x k. k.legal)

  pub within_of : IfOk r (λ x. IsWithin (v x))
  within_of = part (λ x. IsWithin (v x)) (λ x k. k.within)

  pub covers_of : IfOk r (λ x. Covers I (claim_of (v x)) (claim_of given))
  covers_of = part (λ x. Covers I (claim_of (v x)) (claim_of given)) (λ x k. k.covers)

  pub lean_of : IfOk r (λ x. IsLeanLine I C earlier (v x))
  lean_of = part (λ x. IsLeanLine I C earlier (v x)) (λ x k. k.lean)

  pub among_of : IfOk r (λ x. (b : ℕ) → HasBuffer (claim_of (v x)) b → HasBuffer (claim_of given) b)
  among_of = part (λ x. (b : ℕ) → HasBuffer (claim_of (v x)) b → HasBuffer (claim_of given) b)
      (λ x k. among I (claim_of (v x)) (claim_of given) k.covers)
