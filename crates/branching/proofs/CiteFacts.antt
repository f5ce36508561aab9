-- Why a buffer is not taken first: a line that covers what is left, a buffer that ends below, and a twin.
use Rattle.std.proofs.Common.{◌≡◌, ℕ, true, [], ◌∷◌, Some, inl, inr, refl, subst, ap, arith}
use Rattle.branching.proofs.Words.{buffer, do_share, have_same_moments, is_live, some_before, Claim, Covers, Entry, IsIn, child, step, up, Below, ByLine, Line, Twin, claim_of, ends_below, is_twin, small_below, two_of_four}
use Rattle.claim_levels.proofs.LevelFacts.{root}
use Rattle.branching.specs.declared.notes.Refuted.{Refuted}
use Rattle.branching.specs.Cites.{IsChildCovered, IsCiteFor}
use Rattle.branching.proofs.KnownFacts.{rest_covered}
use Rattle.branching.proofs.OverFacts.{over}

abbrev pub by_line : ℕ → ℕ → Refuted
by_line b k = record { buffer = b; line = k }

-- ---- a child that is covered
-- where buffer 0 stands at 0, the other one has the bound 3
pub first_covered : IsChildCovered small_below (over ∷ []) root (by_line 0 0)
unfolding child step do_share some_before is_live up buffer
first_covered = rest_covered

-- where the other one does, what is left has no buffer of the line
second_not_covered : IsChildCovered small_below (over ∷ []) root (by_line 1 0) → ⊥
unfolding child step do_share some_before is_live up buffer
second_not_covered c = lacks (subst (λ (line : Line). Covers small_below (claim_of line) ((0, 1) ∷ []))
    (same_line c.stands) c.covers)
  where
    same_line : {x : Line} → Some over ≡ Some x → x ≡ over
    same_line q = cc

    lacks : Covers small_below ((1, 4) ∷ []) ((0, 1) ∷ []) → ⊥
    lacks h = let f = h (1, 4) (inl refl) in go f.0 f.1 f.2
      where
        go : (f : Entry) → IsIn f ((0, 1) ∷ []) → f.0 ≡ 1 → ⊥
        go f (inl q) b = let k : f.0 ≡ 0 = rw q refl in omega arith
        go f (inr z) b = z

not_by_the_second_line : IsChildCovered small_below (over ∷ []) root (by_line 0 1) → ⊥
not_by_the_second_line c = let e = c.stands in absurd cc

-- ---- cites
cites_its_line : IsCiteFor small_below root (by_line 0 7 ∷ []) (0, 0) (ByLine 7)
unfolding ends_below is_twin have_same_moments some_before is_live up buffer
cites_its_line = (refl, by_line 0 7, inl refl, refl, refl)

cites_another_line : IsCiteFor small_below root (by_line 0 7 ∷ []) (0, 0) (ByLine 6) → ⊥
cites_another_line c = go c.1 c.2 c.4
  where
    go : (r : Refuted) → IsIn r (by_line 0 7 ∷ []) → r.line ≡ 6 → ⊥
    go r (inl q) e = let k : r.line ≡ 7 = ap (λ (r : Refuted). r.line) q in omega arith
    go r (inr z) e = z

-- the line was noted for buffer 0
line_of_another : IsCiteFor small_below root (by_line 0 7 ∷ []) (1, 0) (ByLine 7) → ⊥
line_of_another c = go c.1 c.2 c.3
  where
    go : (r : Refuted) → IsIn r (by_line 0 7 ∷ []) → r.buffer ≡ 1 → ⊥
    go r (inl q) e = let k : r.buffer ≡ 0 = ap (λ (r : Refuted). r.buffer) q in omega arith
    go r (inr z) e = z

-- buffer 1 ends at 1, below buffer 0 with the bound 3: that is cited, and no line
abbrev apart : Claim
apart = (0, 3) ∷ (1, 0) ∷ []

cites_below : IsCiteFor small_below apart [] (0, 3) (Below 1)
unfolding ends_below up buffer
cites_below = ((1, 0), inr (inl refl), refl, refl)

no_line_where_one_is_below : IsCiteFor small_below apart (by_line 0 7 ∷ []) (0, 3) (ByLine 7) → ⊥
unfolding ends_below is_twin have_same_moments some_before is_live up buffer
no_line_where_one_is_below c = let e = c.0 in absurd cc

cites_twin : IsCiteFor two_of_four root [] (1, 0) (Twin 0)
unfolding is_twin have_same_moments some_before is_live up buffer
cites_twin = ((0, 0), inl refl, refl, refl)

-- the smaller number goes first
no_twin_before_the_first : IsCiteFor two_of_four root [] (0, 0) (Twin 1) → ⊥
unfolding is_twin have_same_moments some_before is_live up buffer
no_twin_before_the_first c = go c.0 c.1 c.2 c.3
  where
    go : (f : Entry) → IsIn f root → f.0 ≡ 1 → is_twin two_of_four f (0, 0) ≡ true → ⊥
    go f (inl q) b t = let k : f.0 ≡ 0 = rw q refl in omega arith
    go f (inr (inl q)) b t = let k = rw q at t in absurd cc
    go f (inr (inr z)) b t = z
