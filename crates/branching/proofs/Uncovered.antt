-- What a line that covers a claim says of it, and lines that none covers.
use Rattle.std.proofs.Common.{◌≡◌, ℕ, zero, suc, ◌<◌, inl, inr, List, [], ◌∷◌, ◌++◌, length, slice_get, take, Some, None, sym, ◌∙◌, subst, arith}
use Rattle.branching.proofs.Words.{Instance, IsInstance, Claim, Covers, IsClaim, IsRefuted, Line, claim_of, first, Stands, below_or_from, Belongs, OpenLog, IsCoveredBy, NoneCovers}
use Rattle.dsa_search_laws.proofs.First.{first_exactly}
use Rattle.dsa_search_laws.proofs.Logs.{covered_is_refuted, covers_along, from_take, legal_is_refuted}
use Rattle.refute_log.proofs.Legal.{get_before, get_last}
use Rattle.branching.specs.Logs.{AreUncovered, IsSearchLog}
use Rattle.branching.proofs.Descent.{is_instance}

-- ---- each line of the log has a refuted claim
lines_refuted : (I : Instance) (log : OpenLog) → IsInstance I → Belongs I log →
    (n k : ℕ) (line : Line) → k < n → slice_get log.lines k ≡ Some line → IsRefuted I log.capacity (claim_of line)
lines_refuted I log s b zero k line lt h = absurd (omega arith)
lines_refuted I log s b (suc n) k line lt h = go (lines_refuted I log s b n)
  where
    go : ((j : ℕ) (line : Line) → j < n → slice_get log.lines j ≡ Some line →
        IsRefuted I log.capacity (claim_of line)) → IsRefuted I log.capacity (claim_of line)
    go ih = legal_is_refuted I log.capacity (take k log.lines) line s
        (λ j m q. (let r = from_take log.lines k j m q in ih j m (let z = r.1 in omega arith) r.0)) (b.legal k line h)

pub none_where_covered : (I : Instance) (C : ℕ) (l : Claim) (log : OpenLog) (k : ℕ) → IsInstance I → IsClaim I l →
    IsSearchLog I C log → IsCoveredBy I log.lines l k → first I C l ≡ None
none_where_covered I C l log k i claim h c =
    let r = lines_refuted I log i h.belongs (suc k) k c.line (omega arith) c.stands in
    (first_exactly I C l i claim).1 (covered_is_refuted I C (claim_of c.line) l i c.covers
    (subst (λ (C : ℕ). IsRefuted I C (claim_of c.line)) h.capacity r))

pub covered_has_none : (I : Instance) (C : ℕ) (l : Claim) (log : OpenLog) (k : ℕ) → Stands I l → IsSearchLog I C log →
    IsCoveredBy I log.lines l k → first I C l ≡ None
covered_has_none I C l log k s h c = none_where_covered I C l log k (is_instance I l s) s.claim h c

-- ---- lines that none covers
pub covers_less : (I : Instance) (lines : List Line) (k l : Claim) → IsInstance I → Covers I k l →
    NoneCovers I lines l → NoneCovers I lines k
covers_less I lines k l s h none n line at covers = none n line at (covers_along I (claim_of line) k l s covers h)

pub uncovered_next : (I : Instance) (lines after : List Line) (line : Line) → after ≡ lines ++ line ∷ [] →
    AreUncovered I lines → NoneCovers I lines (claim_of line) → AreUncovered I after
uncovered_next I lines after line q h none j k earlier x lt at_j at_k covers = elim (below_or_from k (length lines)) [
  | inl below ↦ h j k earlier x lt (old j earlier (omega arith) at_j) (old k x below at_k) covers
  | inr from ↦
      let r = get_last lines line x k from (subst (λ (xs : List Line). slice_get xs k ≡ Some x) q at_k) in
      none j earlier (old j earlier (let z = r.0 in omega arith) at_j)
      (subst (λ (x : Line). Covers I (claim_of earlier) (claim_of x)) (sym r.1) covers)
]
  where
    old : (n : ℕ) (x : Line) → n < length lines → slice_get after n ≡ Some x → slice_get lines n ≡ Some x
    old n x below at = sym (get_before lines (line ∷ []) n below) ∙ subst
        (λ (xs : List Line). slice_get xs n ≡ Some x) q at
