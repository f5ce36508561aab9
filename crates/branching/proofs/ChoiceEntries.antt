-- The entries of the choices of a claim, from their buffers.
use Rattle.std.proofs.Common.{◌≡◌, ℕ, List, [], ◌∷◌, map, inl, inr, refl, sym, ap, ◌∙◌}
use Rattle.branching.proofs.Words.{Instance, Claim, Entry, IsIn, Rises, buffers_of, choices, not_excluded, entry_of, is_entry}
use Rattle.dsa_search_laws.proofs.Complete.{from_choices}
use Rattle.branching.specs.Tries.{order_of}

pub buffers_of_entries : (l : Claim) (bs : List ℕ) → buffers_of (map (entry_of l) bs) ≡ bs
buffers_of_entries l [] = refl
buffers_of_entries l (b ∷ bs) = ap (λ bs. b ∷ bs) (buffers_of_entries l bs)

entries_again : (l : Claim) (es : List Entry) → Rises (buffers_of l) → ((e : Entry) → IsIn e es → IsIn e l) →
    map (entry_of l) (buffers_of es) ≡ es
entries_again l [] r h = refl
entries_again l (e ∷ es) r h =
    ap (λ (f : Entry). f ∷ map (entry_of l) (buffers_of es)) (sym (is_entry l e r (h e (inl refl))))
    ∙ ap (λ fs. e ∷ fs) (entries_again l es r (λ f i. h f (inr i)))

-- the choices of the claim have these buffers
pub order_entries : (I : Instance) (l : Claim) → Rises (buffers_of l) →
    map (entry_of l) (order_of I l) ≡ choices I (not_excluded I) l
order_entries I l r = entries_again l (choices I (not_excluded I) l) r (λ f i. from_choices I (not_excluded I) l f i)
