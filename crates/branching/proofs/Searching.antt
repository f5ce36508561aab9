-- What the search through a claim knows after some of its choices.
use Rattle.std.proofs.Common.{◌≡◌, ◌≢◌, length-append, ℕ, ◌+◌, ◌-◌, ◌<◌, ◌≤◌, ◌==◌, true, false, List, [], ◌∷◌, map, drop, length, slice_index_or, Some, None, sym, refl, ap, ◌∙◌, subst, inl, inr, arith, append_assoc, append-nil}
use Rattle.std.proofs.lemmas.Bool.Decides.{nat_tests}
use Rattle.std.proofs.lemmas.List.{length-map, map-append}
use Rattle.std.proofs.Math.ListN.{drop_of_length-le}
use Rattle.branching.proofs.Words.{Instance, buffer, Claim, Entry, IsIn, IsClaim, Covers, child, up, choices, first, is_tall, not_excluded, seated, into_map, from_append, from_map, left_append, in_at, in_buffers, HasBuffer, entry_of, least_buffer, Line, NoneCovers, next_of}
use Rattle.dsa_search_laws.proofs.Complete.{from_choices, into_choices, tall_is}
use Rattle.dsa_search_laws.proofs.Search.{first_equation}
use Rattle.branching.specs.declared.notes.Refuted.{Refuted}
use Rattle.branching.specs.Cites.{IsChildCovered}
use Rattle.branching.specs.Logs.{Extends}
use Rattle.branching.specs.Trying.{IsKnown, IsTrying, refuted_buffer, AreChoices}
use Rattle.branching.specs.Tries.{IsLeft, Tried, asked_to, chosen_of, later_of, noted_by, rest_of, untried}
use Rattle.branching.proofs.Growing.{covered_still}
use Rattle.branching.proofs.Least.{least_passes, none_least}
use Rattle.branching.proofs.Working.{work_is}

-- ---- a claim with a tall buffer, and one with none
pub tall_covers : (I : Instance) (C : ℕ) (l k : Claim) (b : ℕ) → Some b ≡ least_buffer (is_tall I C) l →
    k ≡ (b, C + 1 - (buffer I b).size) ∷ [] → Covers I k l
tall_covers I C l k b h q e i =
    let r = least_passes (is_tall I C) l b h in
    let t = tall_is I C r.0 r.3 in
    elim (subst (IsIn e) q i) [
      | inl p ↦ (
        r.0,
        r.1,
        r.2 ∙ sym (ap (λ (e : Entry). e.0) p),
        low r.0 e t (r.2 ∙ sym (ap (λ (e : Entry). e.0) p))
            (ap (λ (e : Entry). e.1) p ∙ ap (λ b. C + 1 - (buffer I b).size) (sym r.2)),
      )
      | inr j ↦ absurd j
    ]
  where
    low : (f e : Entry) → C < up I f + (buffer I f.0).size → f.0 ≡ e.0 → e.1 ≡ C + 1 - (buffer I f.0).size →
        e.1 ≤ up I f
    low f e t q p = omega arith

pub tall_in_range : (I : Instance) (C : ℕ) (l : Claim) (b : ℕ) → IsClaim I l → Some b ≡ least_buffer (is_tall I C) l →
    b < length I
tall_in_range I C l b c h = let r = least_passes (is_tall I C) l b h in let k = c.in_range r.0 r.1 in let q = r.2 in
    omega arith

-- ---- the choices
pub chosen_at : (I : Instance) (l : Claim) (order : List ℕ) (i : ℕ) →
    map (entry_of l) order ≡ choices I (not_excluded I) l → i < length order → HasBuffer l (slice_index_or order i 0)
chosen_at I l order i q lt =
    let b = slice_index_or order i 0 in
    let j : IsIn (entry_of l b) (choices I (not_excluded I) l) = subst (IsIn (entry_of l b)) q
    (into_map (entry_of l) order b (in_at order i 0 lt)) in
    in_buffers l (entry_of l b) (from_choices I (not_excluded I) l (entry_of l b) j)

pub drop_zero : (xs : List ℕ) → drop 0 xs ≡ xs
drop_zero [] = refl
drop_zero (x ∷ xs) = refl

-- the next choice, and those after it
pub next_choice : (f : Tried) → IsLeft f → rest_of f ≡ chosen_of f ∷ later_of f
next_choice f lt = next_of f.order (length f.refuted) 0 lt

pub rest_of_noted : (f : Tried) (k : ℕ) → rest_of (noted_by f k) ≡ later_of f
rest_of_noted f k = ap (λ n. drop n f.order) (length-append f.refuted (record { buffer = chosen_of f; line = k } ∷ []))

pub none_is_left : (f : Tried) → length f.refuted ≡ length f.order → rest_of f ≡ []
none_is_left f e = drop_of_length-le f.order (omega arith)

module _ (I : Instance) (C : ℕ) (l : Claim) where
  pub trying_start : (lines : List Line) (order : List ℕ) (n : ℕ) → IsClaim I l → l ≢ [] →
      None ≡ least_buffer (is_tall I C) l → map (entry_of l) order ≡ choices I (not_excluded I) l →
      IsTrying I C lines l (untried order n)
  trying_start lines order n c ne none q = record {
    order = q;
    noted = sym (drop_zero order);
    covered = λ r i. absurd i;
    left = first_equation I C l c ne ∙ (rw (none_least (is_tall I C) l none, ← q, drop_zero order) refl);
  }

  -- each choice is in the claim
  pub chosen_in : (lines : List Line) (f : Tried) → IsTrying I C lines l f → IsLeft f → HasBuffer l (chosen_of f)
  chosen_in lines f t lt = chosen_at I l f.order (length f.refuted) t.order lt

  -- and so is a buffer that is the next choice
  pub first_in : (lines : List Line) (f : Tried) (b : ℕ) → IsLeft f → b ≡ chosen_of f → IsTrying I C lines l f →
      HasBuffer l b
  first_in lines f b left q t = subst (HasBuffer l) (sym q) (chosen_in lines f t left)

  -- and each that was refuted
  pub refuted_in : (lines : List Line) (f : Tried) → IsTrying I C lines l f → (r : Refuted) → IsIn r f.refuted →
      HasBuffer l r.buffer
  refuted_in lines f t r i =
      let j : IsIn r.buffer f.order = subst (IsIn r.buffer) (sym t.noted)
      (left_append (map refuted_buffer f.refuted) (rest_of f) r.buffer (into_map refuted_buffer f.refuted r i)) in
      let k : IsIn (entry_of l r.buffer) (choices I (not_excluded I) l) = subst (IsIn (entry_of l r.buffer)) t.order
      (into_map (entry_of l) f.order r.buffer j) in
      in_buffers l (entry_of l r.buffer) (from_choices I (not_excluded I) l (entry_of l r.buffer) k)

  -- what the answer for the child of the next choice says of the claim
  pub layout_found : (lines : List Line) (f : Tried) (seats all : List Entry) → IsTrying I C lines l f → IsLeft f →
      first I C (child I l (entry_of l (chosen_of f))) ≡ Some seats →
      seated I l (entry_of l (chosen_of f)) (Some seats) ≡ Some all → first I C l ≡ Some all
  layout_found lines f seats all t lt h k = t.left ∙ (rw (next_choice f lt, h, k) refl)

  pub choice_refuted : (lines : List Line) (f : Tried) (k : ℕ) → IsTrying I C lines l f → IsLeft f →
      IsKnown I C lines (child I l (entry_of l (chosen_of f))) k → IsTrying I C lines l (noted_by f k)
  choice_refuted lines f k t lt known = record {
    order = t.order;
    noted = t.noted ∙ (rw (
      next_choice f lt,
      rest_of_noted f k,
      map-append refuted_buffer f.refuted (record { buffer = chosen_of f; line = k } ∷ []),
    ) (sym (append_assoc (map refuted_buffer f.refuted) (chosen_of f ∷ []) (later_of f))));
    covered = λ r i. elim (from_append f.refuted (record { buffer = chosen_of f; line = k } ∷ []) r i) [
      | inl j ↦ t.covered r j
      | inr j ↦ elim j [
        | inl e ↦ subst (λ (r : Refuted). IsChildCovered I lines l r) (sym e) known.covered
        | inr z ↦ absurd z
      ]
    ];
    left = t.left ∙ (rw (next_choice f lt, known.none, rest_of_noted f k) refl);
  }

  -- more lines are asked
  pub trying_asked : (lines : List Line) (f : Tried) (n : ℕ) → IsTrying I C lines l f →
      IsTrying I C lines l (asked_to f n)
  trying_asked lines f n t = record {
    order = t.order;
    noted = t.noted;
    covered = t.covered;
    left = t.left;
  }

  -- a log that grows keeps what is known
  pub trying_still : (k : Claim) (lines after : List Line) (f : Tried) → Extends k lines after →
      IsTrying I C lines l f → IsTrying I C after l f
  trying_still k lines after f grown t = record {
    order = t.order;
    noted = t.noted;
    covered = λ r i. covered_still I k _ _ _ _ grown (t.covered r i);
    left = t.left;
  }

  -- no choice is left
  pub all_refuted : (lines : List Line) (f : Tried) → IsTrying I C lines l f → length f.refuted ≡ length f.order →
      first I C l ≡ None
  all_refuted lines f t e = t.left ∙ (rw (none_is_left f e) refl)

  pub each_noted : (lines : List Line) (f : Tried) → IsTrying I C lines l f → length f.refuted ≡ length f.order →
      (e : Entry) → IsIn e l → not_excluded I l e ≡ true → IsIn e.0 (map refuted_buffer f.refuted)
  each_noted lines f t q e j x =
      let all : f.order ≡ map refuted_buffer f.refuted =
      t.noted ∙ (rw (none_is_left f q) (append-nil (map refuted_buffer f.refuted))) in
      let m = from_map (entry_of l) f.order e (subst (IsIn e) (sym t.order) (into_choices I (not_excluded I) l e j x))
      in
      subst (IsIn e.0) all (rw (ap (λ (e : Entry). e.0) m.2) m.1)

  -- a choice is left where not all are refuted
  pub one_is_left : (lines : List Line) (f : Tried) → IsTrying I C lines l f →
      (length f.refuted == length f.order) ≡ false → IsLeft f
  one_is_left lines f t h =
      let n : length f.order ≡ length (map refuted_buffer f.refuted) + length (rest_of f) =
      ap length t.noted ∙ length-append (map refuted_buffer f.refuted) (rest_of f) in
      let m : length (map refuted_buffer f.refuted) ≡ length f.refuted = length-map f.refuted refuted_buffer in
      less (length f.refuted) (length f.order) (omega arith) h
    where
      less : (m n : ℕ) → m ≤ n → (m == n) ≡ false → m < n
      less m n le h = grind (arith, nat_tests)

  -- the choices of a claim that has some buffers, none of which is tall
  pub are_choices : (lines : List Line) (order : List ℕ) (n : ℕ) → IsClaim I l → l ≢ [] →
      None ≡ least_buffer (is_tall I C) l → map (entry_of l) order ≡ choices I (not_excluded I) l →
      NoneCovers I lines l → AreChoices I C lines l (untried order n)
  are_choices lines order n c ne none q fresh = record {
    not_empty = ne;
    fresh = fresh;
    trying = trying_start lines order n c ne none q;
    work = work_is I C l c ne none ∙ (rw (drop_zero order, q) refl);
  }
