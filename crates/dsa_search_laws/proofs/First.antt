-- The search that leaves out excluded buffers is complete.
use Rattle.std.proofs.Common.{◌≡◌, ℕ, zero, suc, ◌<◌, ◌↔◌, inl, inr, true, List, length, Some, None, refl, arith}
use Rattle.dsa_terms.specs.Buffers.{Instance, IsInstance}
use Rattle.dsa_terms.specs.Claims.{Entry, Claim, IsIn, IsClaim, Places, IsPlacement, IsRefuted}
use Rattle.dsa_terms.specs.Search.{not_excluded, first}
use Rattle.dsa_search_laws.specs.Placements.{IsFirst, weight}
use Rattle.dsa_search_laws.proofs.Placing.{push_down}
use Rattle.dsa_search_laws.proofs.Claims.{has_first}
use Rattle.dsa_search_laws.proofs.Complete.{IsComplete, exactly, some_is_placement}
use Rattle.dsa_search_laws.proofs.Weights.{IsSettled, settled_or_lighter}

-- settled offsets that place the claim, with their first buffer
pub record HasSettled (I : Instance) (C : ℕ) (l : Claim) : Type 0 where
  pub offset : ℕ → ℕ
  pub entry : Entry
  pub places : Places I C l offset
  pub is_first : IsFirst l offset entry
  pub settled : IsSettled I l offset entry

descend : (I : Instance) (C : ℕ) (l : Claim) (e : Entry) → IsInstance I → IsClaim I l → IsIn e l → (n : ℕ) (o : ℕ → ℕ) →
    weight I o l < n → Places I C l o → HasSettled I C l
descend I C l e s c i zero o lt p = absurd (omega arith)
descend I C l e s c i (suc n) o lt p = go (descend I C l e s c i n) (has_first l o e i)
  where
    go : ((q : ℕ → ℕ) → weight I q l < n → Places I C l q → HasSettled I C l) → (f : Entry) × IsFirst l o f →
        HasSettled I C l
    go ih f = elim (settled_or_lighter I C l o f.0 s c p f.1) [
      | inl h ↦ record { offset = o; entry = f.0; places = p; is_first = f.1; settled = h }
      | inr r ↦ ih r.0 (let k = r.2 in omega arith) r.1
    ]

pub has_settled : (I : Instance) (C : ℕ) (l : Claim) (e : Entry) (o : ℕ → ℕ) → IsInstance I → IsClaim I l → IsIn e l →
    Places I C l o → HasSettled I C l
has_settled I C l e o s c i p = descend I C l e s c i (suc (weight I o l)) o (omega arith) p

settled_taken : (I : Instance) (l : Claim) (o : ℕ → ℕ) (e : Entry) → IsSettled I l o e → not_excluded I l e ≡ true
settled_taken I l o e h = rw (h.no_below, h.no_twin) refl

pub first_is_complete : (I : Instance) (C : ℕ) → IsInstance I → IsComplete I C (not_excluded I)
first_is_complete I C s l o e c p i =
    let h = has_settled I C l e o s c i p in (
      h.entry,
      h.is_first.is_in,
      settled_taken I l h.offset h.entry h.settled,
      h.offset,
      push_down I C l h.offset h.entry s h.places h.is_first,
    )

pub first_exactly : (I : Instance) (C : ℕ) (l : Claim) → IsInstance I → IsClaim I l →
    (first I C l ≡ None) ↔ IsRefuted I C l
unfolding first
first_exactly I C l s c = exactly I C (not_excluded I) s (first_is_complete I C s) l c

pub first_places : (I : Instance) (C : ℕ) (l : Claim) (seats : List Entry) → IsInstance I → IsClaim I l →
    first I C l ≡ Some seats → IsPlacement I C l seats
unfolding first
first_places I C l seats s c h = some_is_placement I C (not_excluded I) s (length l) l seats refl c h
