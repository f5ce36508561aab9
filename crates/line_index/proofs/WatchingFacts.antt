-- Worked facts: what becomes of the watch of a line.
use Rattle.std.proofs.Common.{◌≡◌, ℕ, zero, suc, List, [], ◌∷◌, Some, inl, inr, slice_get, slice_index, refl, sym, ap, ◌∙◌, subst, arith}
use Rattle.dsa_terms.specs.Claims.{Entry, IsIn}
use Rattle.dsa_terms.specs.Logs.{Line, Over, claim_of}
use Rattle.dsa_terms.proofs.Lists.{same_some}
use Rattle.dsa_model.specs.Buffer.{buffer_limit}
use Rattle.line_index.specs.Looks.{IsUnmet}
use Rattle.line_index.specs.Rows.{mark_of, row_of}
use Rattle.line_index.specs.Watches.{Fails, RulesOut}
use Rattle.line_index.specs.Watching.{AreExtended, AreMoved, AreOwnMoved, FailAt, FailInRow, FailsAtMark, IsWatched}
use Rattle.line_index.proofs.RowFacts.{by_3}
use Rattle.line_index.proofs.WatchFacts.{met_at_other, other}

abbrev first_line : Line
first_line = Over ((0, 2) ∷ (1, 5) ∷ []) 0 5 1

abbrev lines : List Line
lines = first_line ∷ []

-- the line watches the bound 5 of buffer 1
abbrev watches : List Entry
watches = (1, 5) ∷ []

-- ---- watches
extended : AreExtended watches ((1, 5) ∷ (buffer_limit, 0) ∷ []) 2
extended = record { same = same; count = omega arith }
  where
    same : (k : ℕ) (e : Entry) → slice_get watches k ≡ Some e → slice_get ((1, 5) ∷ (buffer_limit, 0) ∷ []) k ≡ Some e
    same zero e at = at
    same (suc k) e at = absurd cc

not_extended : AreExtended watches watches 2 → ⊥
not_extended h = absurd (let k = h.count in omega arith)

abbrev low : List ℕ
low = 3 ∷ 4 ∷ []

moved : AreMoved lines low ((0, 2) ∷ []) watches
moved zero line at = inr (
  (1, 5),
  refl,
  subst (λ (x : Line). IsUnmet (claim_of x) low (1, 5)) (same_some at) record
      { among = inr (inl refl); has = omega arith; unmet = omega arith },
)
moved (suc k) line at = absurd cc

-- the bound 2 is met
not_moved : AreMoved lines low watches ((0, 2) ∷ []) → ⊥
not_moved h = elim (h 0 first_line refl) [
  | inl q ↦ absurd (let k : 0 ≡ 1 = ap (λ (e : Entry). e.0) (same_some q) in omega arith)
  | inr u ↦ absurd (let k = u.2.unmet in let q : u.0.1 ≡ 2 = sym (ap (λ (e : Entry). e.1) (same_some u.1)) in
      let z : u.0.0 ≡ 0 = sym (ap (λ (e : Entry). e.0) (same_some u.1)) in
      let l : slice_index low u.0.0 ≡ 3 = ap (slice_index low) z in omega arith)
]

-- a watch that is no entry of the claim may become any
own_moved : AreOwnMoved lines low ((7, 1) ∷ []) ((0, 2) ∷ [])
own_moved zero line e at stands i = absurd (foreign (subst (λ (e : Entry). IsIn e ((0, 2) ∷ (1, 5) ∷ []))
    (sym (same_some stands)) (subst (λ (x : Line). IsIn e (claim_of x)) (sym (same_some at)) i)))
  where
    foreign : IsIn (let e : Entry = (7, 1) in e) ((0, 2) ∷ (1, 5) ∷ []) → ⊥
    foreign (inl q) = absurd (let k : 7 ≡ 0 = ap (λ (e : Entry). e.0) q in omega arith)
    foreign (inr (inl q)) = absurd (let k : 7 ≡ 1 = ap (λ (e : Entry). e.0) q in omega arith)
    foreign (inr (inr j)) = j
own_moved (suc k) line e at stands i = absurd cc

-- ---- watches that fail
-- the bound is not below the level
fail_at_low : FailAt lines watches low 1 0
fail_at_low zero line e at stands q from below has = absurd (let k : e.1 ≡ 5 = sym (ap (λ (e : Entry). e.1)
    (same_some stands)) in omega arith)
fail_at_low (suc k) line e at stands q from below has = absurd cc

not_at_other : FailAt lines watches other 1 0 → ⊥
not_at_other h = met_at_other (h 0 first_line (1, 5) refl refl refl (omega arith) (omega arith))

-- from 6 on there is none
none_from_six : FailAt lines watches other 1 6
none_from_six zero line e at stands q from below has = absurd (let k : e.1 ≡ 5 = sym (ap (λ (e : Entry). e.1)
    (same_some stands)) in omega arith)
none_from_six (suc k) line e at stands q from below has = absurd cc

-- groups of 3 bytes: the bound 5 is in group 1 of buffer 1
not_in_its_row : FailInRow lines watches by_3 other 1 0 17 → ⊥
not_in_its_row h = met_at_other (h 0 first_line (1, 5) refl refl refl (omega arith) (omega arith))

none_in_another : FailInRow lines watches by_3 other 1 0 16
none_in_another zero line e at stands q from below has = absurd
    (let k : 17 ≡ 16 = ap (row_of by_3) (same_some stands) ∙ q in omega arith)
none_in_another (suc k) line e at stands q from below has = absurd cc

none_in_row_from_six : FailInRow lines watches by_3 other 1 6 17
none_in_row_from_six zero line e at stands q from below has = absurd (let k : e.1 ≡ 5 = sym (ap (λ (e : Entry). e.1)
    (same_some stands)) in omega arith)
none_in_row_from_six (suc k) line e at stands q from below has = absurd cc

stale_at_mark : FailsAtMark lines watches other 0 (mark_of 0 2 0)
stale_at_mark line at is has = absurd (let k : 1 ≡ 0 = ap (λ (e : Entry). e.0) (same_some is) in omega arith)

not_stale_at_mark : FailsAtMark lines watches other 1 (mark_of 0 5 1) → ⊥
not_stale_at_mark h = met_at_other (h first_line refl refl)

is_watched : IsWatched lines watches low 0
is_watched line at = (
  (1, 5),
  refl,
  subst (λ (x : Line). RulesOut low (claim_of x) (1, 5)) (same_some at)
      (record { among = inr (inl refl); unmet = λ has. omega arith }),
)

is_not_watched : IsWatched lines watches other 0 → ⊥
is_not_watched h =
    let r = h first_line refl in
    met_at_other (subst (Fails other ((0, 2) ∷ (1, 5) ∷ [])) (sym (same_some r.1)) r.2.unmet)

-- an own watch whose bound is met may not stand in for one that is not
not_own_moved : AreOwnMoved lines low watches ((0, 2) ∷ []) → ⊥
not_own_moved h = elim (h 0 first_line (1, 5) refl refl (inr (inl refl))) [
  | inl q ↦ absurd (let k : 0 ≡ 1 = ap (λ (e : Entry). e.0) (same_some q) in omega arith)
  | inr u ↦ absurd (let k = u.2.unmet in let q : u.0.1 ≡ 2 = sym (ap (λ (e : Entry). e.1) (same_some u.1)) in
      let z : u.0.0 ≡ 0 = sym (ap (λ (e : Entry). e.0) (same_some u.1)) in
      let l : slice_index low u.0.0 ≡ 3 = ap (slice_index low) z in omega arith)
]
