-- Claims with the least bounds of the same ups.
use Rattle.std.proofs.Common.{◌≡◌, ℕ, ◌+◌, ◌-◌, ◌≤◌, inl, inr, Bool, true, false, not, cond, ◌==◌, List, [], ◌∷◌, map, max, filter, sym, refl, subst, ◌∙◌, arith}
use Rattle.std.specs.Int.{next_multiple_of}
use Rattle.std.specs.List.{AllZip}
use Rattle.dsa_model.proofs.Instances.{sound_buffer}
use Rattle.dsa_terms.specs.Buffers.{Buffer, Instance, buffer}
use Rattle.dsa_terms.specs.Claims.{Claim, Covers, Entry, IsIn, child, step, up}
use Rattle.dsa_terms.specs.Logs.{Cite, ByLine, Below, Twin, Line, IsLegalCite, claim_of, ends_below, is_twin}
use Rattle.dsa_terms.proofs.Lists.{into_map}
use Rattle.dsa_terms.proofs.Numbers.{multiple_steps, next_at_or_above, next_is_below, next_is_least, next_is_multiple}
use Rattle.canonical_order.specs.Stands.{Stands}
use Rattle.conflicts.specs.Eased.{IsLower, IsNoHigher, lowered}
use Rattle.conflicts.proofs.ListSteps.{zip_mapped}
use Rattle.conflicts.proofs.LowerClaims.{zip_lower}

-- ---- the least bound of an up
lower_bound : (bound a : ℕ) → 1 ≤ a → next_multiple_of bound a + 1 - a ≤ bound
lower_bound bound a pos = let k = next_is_below bound a pos in omega arith

same_next : (bound a : ℕ) → 1 ≤ a → next_multiple_of (next_multiple_of bound a + 1 - a) a ≡ next_multiple_of bound a
same_next bound a pos =
    let u = next_multiple_of bound a in
    let x = next_multiple_of bound a + 1 - a in
    let m : u ≡ next_multiple_of bound a = refl in
    let k : next_multiple_of x a ≤ u = next_is_least x a u pos (omega arith) (next_is_multiple bound a pos) in
    let n : x ≤ next_multiple_of x a = next_at_or_above x a pos in
    let j : u ≤ next_multiple_of x a = multiple_steps (next_multiple_of x a) u a pos (next_is_multiple x a pos)
    (next_is_multiple bound a pos) (omega arith) in
    omega arith

-- ---- the claim, as the code makes it
pub lowered_is : (I : Instance) (e : Entry) (b : Buffer) (bound : ℕ) → b ≡ buffer I e.0 →
    bound ≡ next_multiple_of e.1 b.alignment + 1 - b.alignment → (e.0, bound) ≡ lowered I e
unfolding lowered up
lowered_is I e b bound q p = rw (p, q) refl

-- ---- the claim itself
filter_along : (p : Entry → Bool) (g F G : Entry → Entry) (l : Claim) → ((f : Entry) → p (g f) ≡ p f) →
    ((f : Entry) → IsIn f l → G (g f) ≡ F f) → map G (filter p (map g l)) ≡ map F (filter p l)
filter_along p g F G [] s h = refl
filter_along p g F G (x ∷ xs) s h = rw (s x) (go (p x) (filter_along p g F G xs s (λ f i. h f (inr i))))
  where
    go : (b : Bool) → map G (filter p (map g xs)) ≡ map F (filter p xs) →
        map G (cond b (g x ∷ filter p (map g xs)) (filter p (map g xs)))
        ≡ map F (cond b (x ∷ filter p xs) (filter p xs))
    go true ih = rw (h x (inl refl), ih) refl
    go false ih = ih

module _ (I : Instance) where
  named : (e : Entry) → (lowered I e).0 ≡ e.0
  unfolding lowered
  named e = refl

  up_lowered : (e : Entry) → 1 ≤ (buffer I e.0).alignment → up I (lowered I e) ≡ up I e
  unfolding up lowered
  up_lowered e pos = same_next e.1 (buffer I e.0).alignment pos

  bound_lowered : (e : Entry) → 1 ≤ (buffer I e.0).alignment → (lowered I e).1 ≤ e.1
  unfolding up lowered
  bound_lowered e pos = lower_bound e.1 (buffer I e.0).alignment pos

  -- ---- what goes by the ups stays
  module _ (l : Claim) (aligned : (e : Entry) → IsIn e l → 1 ≤ (buffer I e.0).alignment) where
    child_lowered : (e : Entry) → IsIn e l → child I (map (lowered I) l) (lowered I e) ≡ child I l e
    unfolding child lowered
    child_lowered e i =
        filter_along (λ (f : Entry). not (f.0 == e.0)) (lowered I) (past (up I e)) (past (up I (lowered I e))) l
        (λ f. refl)
        (λ f j. rw (up_lowered f (aligned f j), up_lowered e (aligned e i)) refl)
      where
        past : ℕ → Entry → Entry
        past low f = (f.0, max (up I f) (low + step I e.0 f.0))

    ends_lowered : (f e : Entry) → IsIn f l → IsIn e l → ends_below I (lowered I f) (lowered I e) ≡ ends_below I f e
    unfolding ends_below lowered
    ends_lowered f e i j = rw (up_lowered f (aligned f i), up_lowered e (aligned e j)) refl

    twin_lowered : (f e : Entry) → IsIn f l → IsIn e l → is_twin I (lowered I f) (lowered I e) ≡ is_twin I f e
    unfolding is_twin lowered
    twin_lowered f e i j = rw (up_lowered f (aligned f i), up_lowered e (aligned e j)) refl

    legal_lowered : (earlier : List Line) (e : Entry) (cite : Cite) → IsIn e l → IsLegalCite I earlier l e cite →
        IsLegalCite I earlier (map (lowered I) l) (lowered I e) cite
    legal_lowered earlier e (ByLine k) i c =
        (c.0, c.1, subst (λ (x : Claim). Covers I (claim_of c.0) x) (sym (child_lowered e i)) c.2)
    legal_lowered earlier e (Below b) i c =
        (lowered I c.0, into_map (lowered I) l c.0 c.1, named c.0 ∙ c.2, ends_lowered c.0 e c.1 i ∙ c.3)
    legal_lowered earlier e (Twin b) i c =
        (lowered I c.0, into_map (lowered I) l c.0 c.1, named c.0 ∙ c.2, twin_lowered c.0 e c.1 i ∙ c.3)

module _ (I : Instance) (l : Claim) (s : Stands I l) where
  aligned : (e : Entry) → IsIn e l → 1 ≤ (buffer I e.0).alignment
  aligned e i = (sound_buffer I e.0 s.buffers (s.claim.in_range e i)).sound.1

  lowered_lower : AllZip IsNoHigher l (map (lowered I) l)
  lowered_lower = go l aligned
    where
      go : (xs : Claim) → ((e : Entry) → IsIn e xs → 1 ≤ (buffer I e.0).alignment) →
          AllZip IsNoHigher xs (map (lowered I) xs)
      go [] h = tt
      go (x ∷ xs) h = ((named I x, bound_lowered I x (h x (inl refl))), go xs (λ e i. h e (inr i)))

  pub lowered_is_lower : IsLower l (map (lowered I) l)
  lowered_is_lower = zip_lower l (map (lowered I) l) s.claim.rises lowered_lower

  -- every cite stays legal
  pub lowered_legal : (earlier : List Line) (cites : List Cite) → AllZip (IsLegalCite I earlier l) l cites →
      AllZip (IsLegalCite I earlier (map (lowered I) l)) (map (lowered I) l) cites
  lowered_legal earlier cites z =
      zip_mapped (lowered I) (IsLegalCite I earlier l) (IsLegalCite I earlier (map (lowered I) l)) l cites
      (λ e cite i c. legal_lowered I l aligned earlier e cite i c) z
