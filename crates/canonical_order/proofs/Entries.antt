-- Entries of a claim: by buffer, by place, and below a number.
use Rattle.std.proofs.Common.{◌≡◌, ℕ, ◌+◌, ◌<◌, ◌≤◌, ◌≢◌, inl, inr, Bool, true, false, cond, ◌==◌, [], ◌∷◌, length, Option, Some, None, find, option_map, All, ◌^◌, is_some, refl, sym, ap, arith}
use Rattle.std.proofs.lemmas.Bool.Decides.{nat_tests}
use Rattle.dsa_terms.specs.Claims.{Entry, Claim, IsIn, Rises, buffers_of, number_of, up}
use Rattle.dsa_search_laws.proofs.Placing.{in_buffers, same_entry}
use Rattle.dsa_terms.proofs.Numbers.{next_is_below}
use Rattle.canonical_order.specs.Claims.{HasBuffer, entry_of, bound_of, IsBoundedBy, IsKeptClaim}
use Rattle.canonical_order.specs.Stands.{Stands}
use Rattle.dsa_terms.specs.Buffers.{Instance, buffer}
use Rattle.std.specs.Int.{next_multiple_of}
use Rattle.dsa_model.specs.Buffer.{IsBuffer, buffer_limit}
use Rattle.dsa_model.proofs.Instances.{sound_buffer}

-- a buffer of the claim stands in it with its bound
pub entry_in : (l : Claim) (b : ℕ) → HasBuffer l b → IsIn (entry_of l b) l
entry_in [] b h = absurd h
entry_in (x ∷ xs) b h = go (x.0 == b) refl h (entry_in xs b)
  where
    go : (t : Bool) → (x.0 == b) ≡ t → HasBuffer (x ∷ xs) b → (HasBuffer xs b → IsIn (entry_of xs b) xs) →
        IsIn (b, cond t x.1 (number_of xs b)) (x ∷ xs)
    go true e h ih = inl (let k : x.0 ≡ b = (grind (arith, nat_tests)) in rw (← k) refl)
    go false e (inl h) ih = absurd (let k : x.0 ≢ b = (grind (arith, nat_tests)) in k (sym h))
    go false e (inr h) ih = inr (ih h)

-- an entry of a claim is the one of its buffer
pub is_entry : (l : Claim) (e : Entry) → Rises (buffers_of l) → IsIn e l → e ≡ entry_of l e.0
is_entry l e r i = same_entry l e (entry_of l e.0) r i (entry_in l e.0 (in_buffers l e i)) refl

pub bound_some : (l : Claim) (b bound : ℕ) → Some bound ≡ bound_of l b → HasBuffer l b × (bound ≡ number_of l b)
bound_some [] b bound h = absurd cc
bound_some (x ∷ xs) b bound h = go (x.0 == b) refl h (bound_some xs b bound)
  where
    go : (t : Bool) → (x.0 == b) ≡ t → Some bound ≡ option_map (λ (e : Entry). e.1)
        (cond t (Some x) (find (λ e. e.0 == b) xs)) →
        (Some bound ≡ bound_of xs b → HasBuffer xs b × (bound ≡ number_of xs b)) →
        HasBuffer (x ∷ xs) b × (bound ≡ cond t x.1 (number_of xs b))
    go true e h ih = (inl (let k : x.0 ≡ b = (grind (arith, nat_tests)) in sym k), cc)
    go false e h ih = let r = ih h in (inr r.0, r.1)

pub bound_none : (l : Claim) (b : ℕ) → None ≡ bound_of l b → HasBuffer l b → ⊥
bound_none [] b h i = i
bound_none (x ∷ xs) b h i = go (x.0 == b) refl h i (bound_none xs b)
  where
    go : (t : Bool) → (x.0 == b) ≡ t → None ≡ option_map (λ (e : Entry). e.1)
        (cond t (Some x) (find (λ e. e.0 == b) xs)) → HasBuffer (x ∷ xs) b →
        (None ≡ bound_of xs b → HasBuffer xs b → ⊥) → ⊥
    go true e h i ih = absurd cc
    go false e h (inl i) ih = absurd (let k : x.0 ≢ b = (grind (arith, nat_tests)) in k (sym i))
    go false e h (inr i) ih = ih h i

-- ---- claims of the code
pub stands : (I : Instance) (l : Claim) → IsKeptClaim l → ((b : ℕ) → HasBuffer l b → b < length I) → All IsBuffer I →
    length I ≤ buffer_limit → Stands I l
stands I l k h bs n = record {
  claim = record { rises = k.rises; in_range = λ e i. h e.0 (in_buffers l e i) };
  bounds = k.bounds;
  buffers = bs;
  count = n;
}

pub in_range : (I : Instance) (l : Claim) (b : ℕ) → Stands I l → HasBuffer l b → b < length I
in_range I l b s h = s.claim.in_range (entry_of l b) (entry_in l b h)

pub raise_limit : (l : Claim) → IsBoundedBy (2 ^ 60) l → IsBoundedBy (2 ^ 61) l
raise_limit l h e i = let k : e.1 ≤ 2 ^ 60 = h e i in omega arith

pub has_from_some : (l : Claim) (b : ℕ) → is_some (bound_of l b) ≡ true → HasBuffer l b
has_from_some l b h = go (bound_of l b) refl h
  where
    go : (o : Option ℕ) → o ≡ bound_of l b → is_some o ≡ true → HasBuffer l b
    go None e h = absurd cc
    go (Some x) e h = (bound_some l b x e).0

pub some_from_has : (l : Claim) (b : ℕ) → HasBuffer l b → is_some (bound_of l b) ≡ true
some_from_has l b h = go (bound_of l b) refl
  where
    go : (o : Option ℕ) → o ≡ bound_of l b → is_some o ≡ true
    go None e = absurd (bound_none l b e h)
    go (Some x) e = refl

-- the bound of a buffer of the claim
pub bound_within : (l : Claim) (b bound : ℕ) → IsBoundedBy (2 ^ 61) l → Some bound ≡ bound_of l b → bound ≤ 2 ^ 61
bound_within l b bound h e = let r = bound_some l b bound e in let k : number_of l b ≤ 2 ^ 61 =
    h (entry_of l b) (entry_in l b r.0) in let q : bound ≡ number_of l b = r.1 in omega arith

pub up_of_bound : (I : Instance) (l : Claim) (b bound : ℕ) → Some bound ≡ bound_of l b →
    next_multiple_of bound (buffer I b).alignment ≡ up I (entry_of l b)
unfolding up
up_of_bound I l b bound e = ap (λ n. next_multiple_of n (buffer I b).alignment) (bound_some l b bound e).1

-- an up is below the bound with the alignment
pub up_below : (I : Instance) (l : Claim) (b : ℕ) → Stands I l → HasBuffer l b →
    up I (entry_of l b) < number_of l b + (buffer I b).alignment
unfolding up
up_below I l b s h = next_is_below (number_of l b) (buffer I b).alignment
    (sound_buffer I b s.buffers (in_range I l b s h)).sound.1

pub up_limit : (I : Instance) (l : Claim) (b n : ℕ) → Stands I l → IsBoundedBy n l → HasBuffer l b →
    up I (entry_of l b) < n + 2 ^ 32
up_limit I l b n s k h =
    let lt : up I (entry_of l b) < number_of l b + (buffer I b).alignment = up_below I l b s h in
    let le : number_of l b ≤ n = k (entry_of l b) (entry_in l b h) in
    let m : (buffer I b).alignment ≤ 2 ^ 32 = (sound_buffer I b s.buffers (in_range I l b s h)).within_alignment in
    omega arith

pub low_limit : (I : Instance) (l : Claim) (b n low : ℕ) → low ≡ up I (entry_of l b) → Stands I l → IsBoundedBy n l →
    HasBuffer l b → low < n + 2 ^ 32
low_limit I l b n low e s k h = rw e (up_limit I l b n s k h)
