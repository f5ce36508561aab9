-- Levels that are put back.
use Rattle.std.proofs.Common.{◌≡◌, ◌≢◌, ℕ, ◌<◌, inl, inr, List, [], ◌∷◌, length, slice_index, slice_set, refl, sym, ap, ◌∙◌, arith, ext_get_or, length-set}
use Rattle.std.proofs.lemmas.List.{get_or_past, set_past}
use Rattle.claim_levels.proofs.Words.{Entry, IsIn, below_or_from, same_or_not}
use Rattle.claim_levels.specs.Trails.{undone}
use Rattle.claim_levels.proofs.ChildLevels.{set_cases}

-- one after another
pub undone_next : (changes rest more : List Entry) (x : Entry) (first old new : List ℕ) → rest ≡ x ∷ more →
    new ≡ slice_set old x.0 x.1 → undone rest old ≡ undone changes first → undone more new ≡ undone changes first
undone_next changes rest more x first old new q e h =
    ap (undone more) e ∙ ap (λ (cs : List Entry). undone cs old) (sym q) ∙ h

pub undone_all : (rest changes : List Entry) (old new : List ℕ) → rest ≡ [] → undone rest new ≡ undone changes old →
    new ≡ undone changes old
undone_all rest changes old new q h = ap (λ (cs : List Entry). undone cs new) (sym q) ∙ h

module _ (old : List ℕ) where
  -- those that differ are put back, where each change notes what was there
  pub undone_is : (changes : List Entry) (new : List ℕ) → length new ≡ length old →
      ((c : ℕ) → slice_index new c ≢ slice_index old c → IsIn (c, slice_index old c) changes) →
      ((e : Entry) → IsIn e changes → e.1 ≡ slice_index old e.0) → undone changes new ≡ old
  undone_is [] new n noted were = ext_get_or 0 new old n same
    where
      same : (c : ℕ) → c < length new → slice_index new c ≡ slice_index old c
      same c lt = elim (same_or_not (slice_index new c) (slice_index old c)) [
        | inl q ↦ q
        | inr ne ↦ absurd (noted c ne)
      ]
  undone_is (x ∷ xs) new n noted were =
      undone_is xs (slice_set new x.0 x.1) (length-set new x.0 x.1 ∙ n) (λ c ne. elim (noted c (other c ne)) [
        | inl p ↦ absurd (ne (at c (ap (λ (e : Entry). e.0) p)))
        | inr i ↦ i
      ]) (λ e i. were e (inr i))
    where
      -- the one that is put back is as before
      at : (c : ℕ) → c ≡ x.0 → slice_index (slice_set new x.0 x.1) c ≡ slice_index old c
      at c q = elim (below_or_from x.0 (length new)) [
        | inl lt ↦ elim (set_cases new x.0 x.1 c lt) [
          | inl r ↦ r.1 ∙ were x (inl refl) ∙ ap (slice_index old) (sym q)
          | inr r ↦ absurd (r.0 q)
        ]
        | inr le ↦ get_or_past (slice_set new x.0 x.1) c 0
            (let m = length-set new x.0 x.1 in omega (arith, m, le, q))
            ∙ sym (get_or_past old c 0 (omega (arith, n, le, q)))
      ]

      -- and any other one that differs did before
      other : (c : ℕ) → slice_index (slice_set new x.0 x.1) c ≢ slice_index old c →
          slice_index new c ≢ slice_index old c
      other c ne e = elim (below_or_from x.0 (length new)) [
        | inl lt ↦ elim (set_cases new x.0 x.1 c lt) [
          | inl r ↦ ne (at c r.0)
          | inr r ↦ ne (r.1 ∙ e)
        ]
        | inr le ↦ ne (ap (λ (xs : List ℕ). slice_index xs c) (set_past new x.0 x.1 le) ∙ e)
      ]
