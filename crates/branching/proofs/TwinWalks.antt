-- A walk over the buffers of a claim below one, for the first twin of it.
use Rattle.std.proofs.Common.{◌≡◌, ◌∙◌, ◌≤◌, ◌==◌, Bool, true, false, Some, None, [], ◌∷◌, inl, inr, refl, sym, ap, subst, arith}
use Rattle.prune_rules.proofs.Cites.{twin_not_before}
use Rattle.branching.proofs.Words.{Instance, Claim, Entry, IsIn, Rises, buffers_of, buffer, have_same_moments, up, is_twin, in_buffers, least_buffer}

-- the first twin before e of the claim is the first of those that are left
abbrev pub IsTwinAmong : Instance → Claim → Entry → Claim → Type 0
IsTwinAmong I l e left = least_buffer (λ f. is_twin I f e) left ≡ least_buffer (λ f. is_twin I f e) l

none_from : (I : Instance) (f e : Entry) → e.0 ≤ f.0 → is_twin I f e ≡ false
unfolding is_twin
none_from I f e le = sym (twin_not_before f.0 e.0 (up I f) (up I e) (have_same_moments (buffer I f.0) (buffer I e.0))
    ((buffer I f.0).size == (buffer I e.0).size) ((buffer I f.0).alignment == (buffer I e.0).alignment) le)

none_passes : (test : Entry → Bool) (l : Claim) → ((f : Entry) → IsIn f l → test f ≡ false) →
    None ≡ least_buffer test l
none_passes test [] h = refl
none_passes test (x ∷ xs) h = rw (h x (inl refl)) (none_passes test xs (λ f i. h f (inr i)))

module _ (I : Instance) (l left rest : Claim) (e x : Entry) (s : left ≡ x ∷ rest) (h : IsTwinAmong I l e left) where
  pub twin_next : is_twin I x e ≡ false → IsTwinAmong I l e rest
  twin_next t = next ∙ h
    where
      next : least_buffer (λ f. is_twin I f e) rest ≡ least_buffer (λ f. is_twin I f e) left
      next = rw (s, t) refl

  pub twin_here : is_twin I x e ≡ true → Some x.0 ≡ least_buffer (λ f. is_twin I f e) l
  twin_here t = here ∙ h
    where
      here : Some x.0 ≡ least_buffer (λ f. is_twin I f e) left
      here = rw (s, t) refl

  -- the buffers that are left rise, so from one that is not below on none is a twin before
  pub none_after : Rises (buffers_of left) → e.0 ≤ x.0 → None ≡ least_buffer (λ f. is_twin I f e) l
  none_after r le = none_passes (λ f. is_twin I f e) left (λ f i. none_from I f e (elim (subst (IsIn f) s i) [
    | inl p ↦ let q : f.0 ≡ x.0 = ap (λ (e : Entry). e.0) p in omega arith
    | inr k ↦ let above = (subst (λ (k : Claim). Rises (buffers_of k)) s r).0 f.0 (in_buffers rest f k) in omega arith
  ])) ∙ h

pub none_at_all : (I : Instance) (l left : Claim) (e : Entry) → left ≡ [] → IsTwinAmong I l e left →
    None ≡ least_buffer (λ f. is_twin I f e) l
none_at_all I l left e s h = ap (least_buffer (λ f. is_twin I f e)) (sym s) ∙ h
