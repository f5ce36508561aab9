-- A walk along the entries of a claim: the entry at a place, and those that are left.
use Rattle.std.proofs.Common.{◌≡◌, ℕ, zero, suc, ◌<◌, [], ◌∷◌, drop, length, slice_index_or, subst}
use Rattle.branching.proofs.Words.{Claim, IsIn, Rises, buffers_of, in_at, in_buffers, HasBuffer, entry_of, is_entry}

module _ (l items : Claim) (i : ℕ) (q : items ≡ l) (lt : i < length items) where
  pub place_in : IsIn (slice_index_or items i (0, 0)) l
  place_in = subst (IsIn (slice_index_or items i (0, 0))) q (in_at items i (0, 0) lt)

  pub place_has : HasBuffer l (slice_index_or items i (0, 0)).0
  place_has = in_buffers l (slice_index_or items i (0, 0)) place_in

  pub place_is : Rises (buffers_of l) → slice_index_or items i (0, 0) ≡ entry_of l (slice_index_or items i (0, 0)).0
  place_is r = is_entry l (slice_index_or items i (0, 0)) r place_in

-- what is left of a claim that rises does too
pub rises_left : (l : Claim) (i : ℕ) → Rises (buffers_of l) → Rises (buffers_of (drop i l))
rises_left l zero r = r
rises_left [] (suc i) r = tt
rises_left (e ∷ l) (suc i) r = rises_left l i r.1
