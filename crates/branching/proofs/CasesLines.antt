-- The Cases line of a claim each of whose choices is refuted.
use Rattle.std.proofs.Common.{◌≡◌, ◌≢◌, ℕ, List, [], ◌∷◌, zero, suc, sym, refl, ap, ◌∙◌, subst, inl, inr, arith, All}
use Rattle.std.specs.List.{AllZip}
use Rattle.branching.proofs.Words.{Instance, Claim, Entry, IsIn, child, Covers, Cite, ByLine, Below, Twin, Line, Cases, claim_of, IsLegal, IsLegalCite, entry_of, Stands, is_entry, IsCiteWithin}
use Rattle.branching.specs.declared.notes.Refuted.{Refuted}
use Rattle.branching.specs.Cites.{IsChildCovered, IsCiteFor}

-- what holds of each pair follows from another thing that does
zip_along : {A B : Type 0} (R S : A → B → Type 0) (xs : List A) (ys : List B) →
    ((x : A) (y : B) → IsIn x xs → R x y → S x y) → AllZip R xs ys → AllZip S xs ys
zip_along R S [] [] h z = tt
zip_along R S [] (y ∷ ys) h z = absurd z
zip_along R S (x ∷ xs) [] h z = absurd z
zip_along R S (x ∷ xs) (y ∷ ys) h z = (h x y (inl refl) z.0, zip_along R S xs ys (λ a b i. h a b (inr i)) z.1)

-- and so does what holds of each second item alone
zip_second : {A B : Type 0} (R : A → B → Type 0) (P : B → Type 0) (xs : List A) (ys : List B) →
    ((x : A) (y : B) → IsIn x xs → R x y → P y) → AllZip R xs ys → All P ys
zip_second R P [] [] h z k d lt = absurd (omega arith)
zip_second R P [] (y ∷ ys) h z k d lt = absurd z
zip_second R P (x ∷ xs) [] h z k d lt = absurd z
zip_second R P (x ∷ xs) (y ∷ ys) h z zero d lt = h x y (inl refl) z.0
zip_second R P (x ∷ xs) (y ∷ ys) h z (suc k) d lt = zip_second R P xs ys (λ a b i. h a b (inr i)) z.1 k d (omega arith)

legal_cite : (I : Instance) (l : Claim) (lines : List Line) (refuted : List Refuted) → Stands I l →
    ((r : Refuted) → IsIn r refuted → IsChildCovered I lines l r) →
    (e : Entry) (cite : Cite) → IsIn e l → IsCiteFor I l refuted e cite → IsLegalCite I lines l e cite
legal_cite I l lines refuted s h e (ByLine k) i c =
    let g = h c.1 c.2 in
    let q : entry_of l c.1.buffer ≡ e = ap (entry_of l) c.3 ∙ sym (is_entry l e s.claim.rises i) in
    (g.line, rw (← c.4) g.stands, subst (λ (e : Entry). Covers I (claim_of g.line) (child I l e)) q g.covers)
legal_cite I l lines refuted s h e (Below b) i c = c
legal_cite I l lines refuted s h e (Twin b) i c = c

cite_within : (I : Instance) (l : Claim) (lines : List Line) (refuted : List Refuted) → Stands I l →
    ((r : Refuted) → IsIn r refuted → IsChildCovered I lines l r) →
    (e : Entry) (cite : Cite) → IsIn e l → IsCiteFor I l refuted e cite → IsCiteWithin cite
cite_within I l lines refuted s h e (ByLine k) i c = let g = h c.1 c.2 in rw (← c.4) g.limit
cite_within I l lines refuted s h e (Below b) i c = let k = s.claim.in_range c.0 c.1 in let n = s.count in
    let q = c.2 in omega arith
cite_within I l lines refuted s h e (Twin b) i c = let k = s.claim.in_range c.0 c.1 in let n = s.count in let q = c.2 in
    omega arith

module _ (I : Instance) (l : Claim) (refuted : List Refuted) (cites : List Cite)
    (z : AllZip (IsCiteFor I l refuted) l cites) where
  pub cases_legal : (C : ℕ) (lines : List Line) → Stands I l → l ≢ [] →
      ((r : Refuted) → IsIn r refuted → IsChildCovered I lines l r) → IsLegal I C lines (Cases l cites)
  cases_legal C lines s ne h = record {
    claim = s.claim;
    not_empty = ne;
    reason = zip_along (IsCiteFor I l refuted) (IsLegalCite I lines l) l cites (legal_cite I l lines refuted s h) z;
  }

  pub cites_within : (lines : List Line) → Stands I l →
      ((r : Refuted) → IsIn r refuted → IsChildCovered I lines l r) → All IsCiteWithin cites
  cites_within lines s h = zip_second (IsCiteFor I l refuted) IsCiteWithin l cites (cite_within I l lines refuted s h) z
