-- The choices of a buffer of size 3 beside one of size 1 that stands at multiples of 4 alone, within 4: the first one
-- is taken in vain, and the second one is not.
use Rattle.std.proofs.Common.{◌≡◌, ℕ, List, [], ◌∷◌, Some, None, inl, inr, refl, sym, ap, subst, arith}
use Rattle.branching.proofs.Words.{buffer, have_same_moments, is_live, some_before, IsIn, up, Line, ends_below, is_twin, comes_before, small_below}
use Rattle.claim_levels.proofs.LevelFacts.{root, differ, rest}
use Rattle.std.specs.Global.{Vec}
use Rattle.branching.specs.declared.notes.Notes.{Notes}
use Rattle.branching.specs.declared.notes.Refuted.{Refuted}
use Rattle.branching.specs.Cites.{IsChildCovered}
use Rattle.branching.specs.Trying.{IsTrying, refuted_buffer, try_of, AreChoices}
use Rattle.branching.specs.Tries.{IsLeft, IsOrderOf, Tried, asked_to, chosen_of, later_of, noted_by, order_of, rest_of, tried_by, tried_of, untried}
use Rattle.branching.proofs.Computing.{computing_first, computing_work}
use Rattle.branching.proofs.CiteFacts.{by_line, first_covered}
use Rattle.branching.proofs.OverFacts.{over, over_covers}
use Rattle.branching.specs.Keys.{key_of}

-- none of the two is refuted, the first one is, and both are
abbrev pub both_left : ℕ → Tried
both_left asked = untried (0 ∷ 1 ∷ []) asked

abbrev pub with_refuted : List Refuted → Tried
with_refuted refuted = record { order = 0 ∷ 1 ∷ []; refuted = refuted; asked = 1 }

abbrev pub one_left : Tried
one_left = with_refuted (by_line 0 0 ∷ [])

abbrev none_left : Tried
none_left = with_refuted (by_line 0 0 ∷ by_line 1 1 ∷ [])

-- ---- what is left
one_is_left : IsLeft one_left
one_is_left = omega arith

none_is_left : IsLeft none_left → ⊥
none_is_left lt = omega (arith, lt)

three_asked : asked_to (both_left 1) 3 ≡ both_left 3
three_asked = refl

choice_by_line : refuted_buffer (by_line 2 7) ≡ 2
choice_by_line = refl

-- ---- what a choice comes to
in_vain : try_of small_below 4 root (0, 0) ≡ None
unfolding computing_first
in_vain = refl

not_in_vain : try_of small_below 4 root (1, 0) ≡ Some ((0, 1) ∷ (1, 0) ∷ [])
unfolding computing_first
not_in_vain = refl

-- ---- what is known of a claim whose choices are tried
pub trying_both : (lines : List Line) (n : ℕ) → IsTrying small_below 4 lines root (both_left n)
unfolding computing_first
trying_both lines n = record {
  order = refl;
  noted = refl;
  covered = λ r i. absurd i;
  left = refl;
}

pub trying_one : IsTrying small_below 4 (over ∷ []) root one_left
unfolding computing_first
trying_one = record { order = refl; noted = refl; covered = covered; left = refl }
  where
    covered : (r : Refuted) → IsIn r (by_line 0 0 ∷ []) → IsChildCovered small_below (over ∷ []) root r
    covered r (inl q) = subst (IsChildCovered small_below (over ∷ []) root) (sym q) first_covered
    covered r (inr z) = absurd z

-- the line has to be there
no_line_for_it : IsTrying small_below 4 [] root one_left → ⊥
no_line_for_it t = let e = (t.covered (by_line 0 0) (inl refl)).stands in absurd cc

-- the choices are refuted one after another
not_the_second_first : (lines : List Line) → IsTrying small_below 4 lines root (with_refuted (by_line 1 0 ∷ [])) → ⊥
not_the_second_first lines t = let e = t.noted in absurd cc

-- the claim has a layout
not_all_refuted : (lines : List Line) → IsTrying small_below 4 lines root none_left → ⊥
unfolding computing_first
not_all_refuted lines t = let e = t.left in absurd cc

another_order : (lines : List Line) → IsTrying small_below 4 lines root (untried (1 ∷ 0 ∷ []) 0) → ⊥
unfolding comes_before ends_below is_twin have_same_moments some_before is_live up buffer
another_order lines t = let e = t.order in absurd cc

-- ---- one choice after another
abbrev one_refuted : Tried
one_refuted = record { order = 2 ∷ 0 ∷ 1 ∷ []; refuted = record { buffer = 2; line = 7 } ∷ []; asked = 9 }

rest_after_one : rest_of one_refuted ≡ 0 ∷ 1 ∷ []
rest_after_one = refl

chosen_after_one : chosen_of one_refuted ≡ 0
chosen_after_one = refl

later_after_one : later_of one_refuted ≡ 1 ∷ []
later_after_one = refl

two_refuted : noted_by one_refuted 8 ≡ record {
  order = 2 ∷ 0 ∷ 1 ∷ [];
  refuted = record { buffer = 2; line = 7 } ∷ record { buffer = 0; line = 8 } ∷ [];
  asked = 9;
}
two_refuted = refl

-- ---- what they decide
-- of four claims that the search looks at three are left
pub choices_of_root : AreChoices small_below 4 [] root (both_left 0)
unfolding computing_work
choices_of_root = record {
  not_empty = λ q. cc;
  fresh = λ k line at covers. cc;
  trying = trying_both [] 0;
  work = refl;
}

-- two are left where the first choice is refuted
not_once_one_is_refuted : (lines : List Line) → AreChoices small_below 4 lines root one_left → ⊥
unfolding computing_work
not_once_one_is_refuted lines h = differ 3 4 (omega arith) (sym h.work)

-- a claim that a line covers is not opened
none_where_covered : (f : Tried) → AreChoices small_below 4 (over ∷ []) rest f → ⊥
none_where_covered f h = h.fresh 0 over refl over_covers

none_of_no_buffers : (f : Tried) → AreChoices small_below 4 [] [] f → ⊥
none_of_no_buffers f h = h.not_empty refl

-- ---- the order of choices
key_of_aligned : key_of small_below (1, 2) ≡ (4, 1)
unfolding up buffer
key_of_aligned = refl

both_in_order : order_of small_below root ≡ 0 ∷ 1 ∷ []
unfolding comes_before ends_below is_twin have_same_moments some_before is_live up buffer
both_in_order = refl

module _ (order : Vec ℕ) where
  are_its_choices : order.items ≡ 0 ∷ 1 ∷ [] → IsOrderOf small_below root order
  unfolding comes_before ends_below is_twin have_same_moments some_before is_live up buffer
  are_its_choices e = rw e refl

  not_the_other_way_round : order.items ≡ 1 ∷ 0 ∷ [] → IsOrderOf small_below root order → ⊥
  unfolding comes_before ends_below is_twin have_same_moments some_before is_live up buffer
  not_the_other_way_round e h = let k = rw e at h in absurd cc

-- ---- choices with what is noted of them
module _ (n : Notes) (first : n.refuted.items ≡ by_line 0 0 ∷ []) (asked : n.asked ≡ 1) where
  noted_of_two : tried_by (0 ∷ 1 ∷ []) n ≡ one_left
  noted_of_two = rw (first, asked) refl

  noted_of_root : tried_of small_below root n ≡ one_left
  unfolding comes_before ends_below is_twin have_same_moments some_before is_live up buffer
  noted_of_root = rw (first, asked) refl

  not_of_a_third : tried_by (0 ∷ 1 ∷ 2 ∷ []) n ≡ one_left → ⊥
  not_of_a_third h = let e = ap (λ (f : Tried). f.order) h in absurd cc
