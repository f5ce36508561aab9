-- Logs that grow.
use Rattle.std.proofs.Common.{◌≡◌, ℕ, ◌^◌, ◌≤◌, inl, inr, List, [], ◌∷◌, ◌++◌, length, slice_get, take, Some, sym, refl, ◌∙◌, subst, arith, append_assoc, append-nil}
use Rattle.std.proofs.lemmas.List.{take-append-le}
use Rattle.std.proofs.lemmas.Option.{slice_get_within}
use Rattle.branching.proofs.Words.{Instance, Claim, IsIn, Covers, IsLeanLine, Line, claim_of, from_append, HasBuffer, covered_has, below_or_from, IsCoveredBy}
use Rattle.refute_log.proofs.Legal.{get_before, get_last, take_length}
use Rattle.branching.specs.Logs.{Extends}

-- what holds of each line beside those before it holds with one line more
next_line : (P : List Line → Line → Type 0) (lines : List Line) (line : Line) →
    ((k : ℕ) (x : Line) → slice_get lines k ≡ Some x → P (take k lines) x) → P lines line →
    (k : ℕ) (x : Line) → slice_get (lines ++ line ∷ []) k ≡ Some x → P (take k (lines ++ line ∷ [])) x
next_line P lines line h p k x q = elim (below_or_from k (length lines)) [
  | inl lt ↦ rw (take-append-le k lines (line ∷ []) (omega arith)) (h k x (sym (get_before lines (line ∷ []) k lt) ∙ q))
  | inr le ↦
      let r = get_last lines line x k le q in
      rw (r.0, take-append-le (length lines) lines (line ∷ []) (omega arith), take_length lines, ← r.1) p
]

pub lean_next : (I : Instance) (C : ℕ) (lines after : List Line) (line : Line) → after ≡ lines ++ line ∷ [] →
    ((k : ℕ) (x : Line) → slice_get lines k ≡ Some x → IsLeanLine I C (take k lines) x) → IsLeanLine I C lines line →
    (k : ℕ) (x : Line) → slice_get after k ≡ Some x → IsLeanLine I C (take k after) x
lean_next I C lines after line q h p =
    subst (λ (after : List Line). (k : ℕ) (x : Line) → slice_get after k ≡ Some x →
    IsLeanLine I C (take k after) x) (sym q) (next_line (IsLeanLine I C) lines line h p)

pub extends_by : (I : Instance) (l : Claim) (lines after : List Line) (line : Line) → after ≡ lines ++ line ∷ [] →
    Covers I (claim_of line) l → Extends l lines after
extends_by I l lines after line q covers = record {
  more = line ∷ [];
  is = q;
  among = λ x e i j. elim i [
    | inl p ↦ covered_has I l e
        (covers e (subst (λ (x : Line). IsIn e (claim_of x)) p j))
    | inr k ↦ absurd k
  ];
}

pub extends_none : (l : Claim) (lines : List Line) → Extends l lines lines
extends_none l lines = record { more = []; is = sym (append-nil lines); among = λ x e i. absurd i }

pub extends_along : (k l : Claim) (before between after : List Line) →
    ((b : ℕ) → HasBuffer k b → HasBuffer l b) → Extends l before between → Extends k between after →
    Extends l before after
extends_along k l before between after h m n = record {
  more = m.more ++ n.more;
  is = n.is ∙ (rw (m.is, append_assoc before m.more n.more) refl);
  among = λ x e i j. elim (from_append m.more n.more x i) [ inl p ↦ m.among x e p j | inr p ↦ h e.0 (n.among x e p j) ];
}

pub covered_still : (I : Instance) (k l : Claim) (c : ℕ) (before after : List Line) → Extends k before after →
    IsCoveredBy I before l c → IsCoveredBy I after l c
covered_still I k l c before after m h = record {
  limit = h.limit;
  line = h.line;
  stands = rw m.is (get_before before m.more c (slice_get_within before c h.line h.stands) ∙ h.stands);
  covers = h.covers;
}

pub get_new : {X : Type 0} (xs : List X) (x : X) → slice_get (xs ++ x ∷ []) (length xs) ≡ Some x
get_new [] x = refl
get_new (y ∷ ys) x = get_new ys x

pub covered_last : (I : Instance) (l : Claim) (c : ℕ) (lines after : List Line) (line : Line) →
    after ≡ lines ++ line ∷ [] → c ≡ length lines → c ≤ 2 ^ 60 →
    Covers I (claim_of line) l → IsCoveredBy I after l c
covered_last I l c lines after line q e le covers = record
    { limit = le; line = line; stands = rw (q, e) (get_new lines line); covers = covers }
