-- Cites of other buffers: the buffer that ends lowest, and twins.
use Rattle.std.proofs.Common.{◌≡◌, ◌≢◌, ℕ, zero, suc, ◌+◌, ◌<◌, ◌≤◌, ◌==◌, ◌⊎◌, ◌||◌, not, inl, inr, Bool, true, false, [], ◌∷◌, drop, length, refl, subst, ap, arith}
use Rattle.std.proofs.lemmas.List.{drop_all}
use Rattle.std.specs.List.{list_any}
use Rattle.dsa_model.proofs.Instances.{sound_buffer}
use Rattle.dsa_terms.specs.Buffers.{Buffer, Instance, buffer, have_same_moments}
use Rattle.dsa_terms.specs.Claims.{Claim, Entry, IsIn, Rises, buffers_of, up}
use Rattle.dsa_terms.specs.Lean.{CitesOwn}
use Rattle.dsa_terms.specs.Logs.{Cite, Below, Twin, IsLegalCite, ends_below, is_twin}
use Rattle.dsa_terms.proofs.Lists.{any_gives}
use Rattle.dsa_terms.proofs.Moments.{and_true, both_true}
use Rattle.dsa_search_laws.proofs.Placing.{in_buffers}
use Rattle.canonical_order.specs.Claims.{HasBuffer, entry_of}
use Rattle.canonical_order.specs.Stands.{Stands}
use Rattle.canonical_order.proofs.Entries.{entry_in, in_range}
use Rattle.dsa_terms.proofs.NumberTests.{apart, at_most, is_at_most}
use Rattle.prune_rules.proofs.Cites.{twin_not_before}
use Rattle.conflicts.specs.Eased.{HasNoOwn}
use Rattle.conflicts.specs.Ends.{IsLeastEnd, end_of}

-- ---- what holds of each entry but for those that are left
abbrev pub HoldsBut : (Entry → Type 0) → Claim → ℕ → Type 0
HoldsBut P l n = (f : Entry) → IsIn f l → IsIn f (drop n l) ⊎ P f

pub but_next : (P : Entry → Type 0) (l : Claim) (n : ℕ) (e : Entry) → drop n l ≡ e ∷ drop (n + 1) l → P e →
    HoldsBut P l n → HoldsBut P l (n + 1)
but_next P l n e at p h f i = go (rw at at (h f i))
  where
    go : IsIn f (e ∷ drop (n + 1) l) ⊎ P f → IsIn f (drop (n + 1) l) ⊎ P f
    go (inl (inl q)) = inr (rw q p)
    go (inl (inr j)) = inl j
    go (inr k) = inr k

pub but_weaker : (P Q : Entry → Type 0) (l : Claim) (n : ℕ) → ((f : Entry) → P f → Q f) → HoldsBut P l n →
    HoldsBut Q l n
but_weaker P Q l n w h f i = elim (h f i) [ inl j ↦ inl j | inr p ↦ inr (w f p) ]

pub but_none : (P : Entry → Type 0) (l : Claim) (n : ℕ) → length l ≤ n → HoldsBut P l n → (f : Entry) → IsIn f l → P f
but_none P l n le h f i = go (rw (drop_all n l le) at (h f i))
  where
    go : IsIn f [] ⊎ P f → P f
    go (inl j) = absurd j
    go (inr p) = p

-- ---- the least end
-- an end, as the code makes it
pub end_is : (I : Instance) (e : Entry) (b : Buffer) (low size : ℕ) → low ≡ up I e → b ≡ buffer I e.0 → size ≡ b.size →
    low + size ≡ end_of I e
unfolding end_of
end_is I e b low size p q r = rw (p, r, q) refl

-- the entry ends no lower than the buffer
abbrev pub EndsFrom : Instance → Claim → ℕ → Entry → Type 0
EndsFrom I l b f = end_of I (entry_of l b) ≤ end_of I f

-- the buffer is in the claim, and none but those that are left ends lower
pub record IsLeastBut (I : Instance) (l : Claim) (n b : ℕ) : Type 0 where
  pub is_in : HasBuffer l b
  pub least : HoldsBut (EndsFrom I l b) l n

module _ (I : Instance) (l : Claim) (n : ℕ) (e : Entry) (at : drop n l ≡ e ∷ drop (n + 1) l)
    (q : entry_of l e.0 ≡ e) (b : ℕ) (h : IsLeastBut I l n b) where
  pub least_taken : HasBuffer l e.0 → end_of I (entry_of l e.0) < end_of I (entry_of l b) → IsLeastBut I l (n + 1) e.0
  least_taken i lt = record {
    is_in = i;
    least = but_next (EndsFrom I l e.0) l n e at
        (subst (λ (f : Entry). end_of I (entry_of l e.0) ≤ end_of I f) q (omega arith))
        (but_weaker (EndsFrom I l b) (EndsFrom I l e.0) l n (λ f le. omega arith) h.least);
  }

  pub least_kept : end_of I (entry_of l b) ≤ end_of I (entry_of l e.0) → IsLeastBut I l (n + 1) b
  least_kept le = record {
    is_in = h.is_in;
    least = but_next (EndsFrom I l b) l n e at
        (subst (λ (f : Entry). end_of I (entry_of l b) ≤ end_of I f) q le) h.least;
  }

-- where the one that ends lowest does not end below b, none does
pub none_ends_below : (I : Instance) (l : Claim) (m b : ℕ) → Stands I l → IsLeastEnd I l m → HasBuffer l b →
    (IsLegalCite I [] l (entry_of l b) (Below m) → ⊥) → (f : Entry) → IsIn f l →
    ends_below I f (entry_of l b) ≡ true → ⊥
unfolding ends_below end_of
none_ends_below I l m b s h i n f j t =
    let p = at_most (up I f + (buffer I f.0).size) (up I (entry_of l b)) (and_true _ _ t).1 in
    let k = h.least f j in
    let pos = (sound_buffer I b s.buffers (in_range I l b s i)).sound.0 in
    let ne : m ≢ b = λ q. let k = rw q at k in omega arith in
    n (
      entry_of l m,
      entry_in l m h.is_in,
      refl,
      both_true _ _ (ap not (apart m b ne)) (is_at_most _ _ (omega arith)),
    )

-- ---- twins
-- the entry is no twin before e
abbrev pub IsNoTwin : Instance → Entry → Entry → Type 0
IsNoTwin I e f = is_twin I f e ≡ true → ⊥

pub no_twin_next : (I : Instance) (l : Claim) (n : ℕ) (e f : Entry) → drop n l ≡ f ∷ drop (n + 1) l → IsIn f l →
    (IsLegalCite I [] l e (Twin f.0) → ⊥) → HoldsBut (IsNoTwin I e) l n → HoldsBut (IsNoTwin I e) l (n + 1)
no_twin_next I l n e f at i fails h = but_next (IsNoTwin I e) l n f at (λ t. fails (f, i, refl, t)) h

rises_left : (l : Claim) (n : ℕ) → Rises (buffers_of l) → Rises (buffers_of (drop n l))
rises_left l zero r = r
rises_left [] (suc n) r = tt
rises_left (e ∷ l) (suc n) r = rises_left l n r.1

no_twin_above : (I : Instance) (e f : Entry) → e.0 ≤ f.0 → IsNoTwin I e f
unfolding is_twin
no_twin_above I e f le t =
    let no = twin_not_before f.0 e.0 (up I f) (up I e) (have_same_moments (buffer I f.0) (buffer I e.0))
    ((buffer I f.0).size == (buffer I e.0).size) ((buffer I f.0).alignment == (buffer I e.0).alignment) le in
    absurd cc

-- a claim rises, so where the next entry is not below e none of those that are left is a twin before it
pub no_twin_left : (I : Instance) (l : Claim) (n : ℕ) (e f : Entry) → drop n l ≡ f ∷ drop (n + 1) l →
    Rises (buffers_of l) → e.0 ≤ f.0 → HoldsBut (IsNoTwin I e) l n → (g : Entry) → IsIn g l → IsNoTwin I e g
no_twin_left I l n e f at r le h g i = elim (h g i) [
  | inl j ↦ no_twin_above I e g (elim (subst (λ (k : Claim). IsIn g k) at j) [
    | inl q ↦ rw q le
    | inr k ↦
        let above = (subst (λ (k : Claim). Rises (buffers_of k)) at (rises_left l n r)).0 g.0 (in_buffers _ g k) in
        omega arith
  ])
  | inr p ↦ p
]

-- ---- eased cites
module _ (I : Instance) (l : Claim) (e : Entry) where
  pub none_own : (cite : Cite) → HasNoOwn I l e → CitesOwn I l e cite
  none_own cite h t = absurd (neither (list_any (λ f. ends_below I f e) l) (list_any (λ f. is_twin I f e) l)
      (λ t. let q = any_gives (λ f. ends_below I f e) l t in h.below q.0 q.1 q.2)
      (λ t. let q = any_gives (λ f. is_twin I f e) l t in h.twin q.0 q.1 q.2) t)
    where
      neither : (a b : Bool) → (a ≡ true → ⊥) → (b ≡ true → ⊥) → (a || b) ≡ true → ⊥
      neither true b f g t = f refl
      neither false b f g t = g t
