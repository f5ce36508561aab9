-- What stands at a place of a claim.
use Rattle.std.proofs.Common.{◌≡◌, ℕ, ◌+◌, ◌<◌, ◌∷◌, ◌∙◌, length, drop, slice_index_or, subst, sym, ap}
use Rattle.std.proofs.lemmas.List.{drop_more}
use Rattle.dsa_terms.specs.Claims.{Claim, IsIn, Rises, buffers_of}
use Rattle.dsa_terms.proofs.Places.{in_at}
use Rattle.dsa_search_laws.proofs.Placing.{in_buffers}
use Rattle.canonical_order.specs.Claims.{HasBuffer, entry_of}
use Rattle.canonical_order.proofs.Entries.{is_entry}

pub at_in : (l items : Claim) (n : ℕ) → items ≡ l → n < length items → IsIn (slice_index_or items n (0, 0)) l
at_in l items n e lt = subst (λ l. IsIn (slice_index_or items n (0, 0)) l) e (in_at items n (0, 0) lt)

pub has_at : (l items : Claim) (n : ℕ) → items ≡ l → n < length items → HasBuffer l (slice_index_or items n (0, 0)).0
has_at l items n e lt = in_buffers l (slice_index_or items n (0, 0)) (at_in l items n e lt)

pub entry_at : (l items : Claim) (n : ℕ) → Rises (buffers_of l) → items ≡ l → n < length items →
    entry_of l (slice_index_or items n (0, 0)).0 ≡ slice_index_or l n (0, 0)
entry_at l items n r e lt = sym (is_entry l (slice_index_or items n (0, 0)) r (at_in l items n e lt)) ∙ ap
    (λ (l : Claim). slice_index_or l n (0, 0)) e

-- it comes first of what is left from there on
pub at_place : (l items : Claim) (n : ℕ) → items ≡ l → n < length items →
    drop n l ≡ slice_index_or items n (0, 0) ∷ drop (n + 1) l
at_place l items n q lt = rw (← q) (drop_more items n (0, 0) lt)
