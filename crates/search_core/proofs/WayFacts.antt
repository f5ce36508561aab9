-- What the claim of a buffer of size 3 and of one of size 1 that stands at multiples of 4 alone decides of its choices,
-- and what is kept of it where the search goes down by the first of them.
use Rattle.std.proofs.Common.{◌≡◌, ℕ, zero, suc, ◌+◌, ◌<◌, slice_index_or, [], ◌∷◌, length, Option, Some, None, refl, sym, ap, ◌∙◌, subst, arith}
use Rattle.std.specs.Global.{Vec}
use Rattle.search_core.proofs.Words.{buffer, do_share, have_same_moments, is_live, some_before, child, step, up, ends_below, is_twin, comes_before, small_below}
use Rattle.claim_levels.proofs.LevelFacts.{differ, rest, root}
use Rattle.branching.specs.declared.notes.Notes.{Notes}
use Rattle.branching.specs.Tries.{IsLeft, Tried, chosen_of, tried_of}
use Rattle.branching.proofs.TryFacts.{both_left}
use Rattle.search_core.specs.declared.kept.Kept.{Kept}
use Rattle.search_core.specs.Ways.{AreKeptAlong, IsBackBy, IsKeptAt, IsKeptOf, Way, claim_no, notes_of, tries_of}
use Rattle.search_core.proofs.DescentFacts.{sky_of}

the_second_claim : claim_no (root ∷ rest ∷ []) 1 ≡ rest
the_second_claim = refl

no_third_claim : claim_no (root ∷ rest ∷ []) 2 ≡ []
no_third_claim = refl

module _ (n : Notes) (none : n.refuted.items ≡ []) (asked : n.asked ≡ 0) where
  -- ---- tries
  none_refuted : tried_of small_below root n ≡ both_left 0
  unfolding comes_before ends_below is_twin have_same_moments some_before is_live up buffer
  none_refuted = rw (none, asked) refl

  -- the last claim has none
  of_the_first_alone : tries_of small_below (root ∷ rest ∷ []) (n ∷ []) ≡ both_left 0 ∷ []
  unfolding comes_before ends_below is_twin have_same_moments some_before is_live up buffer
  of_the_first_alone = rw (none, asked) refl

  -- ---- what is kept
  abbrev kept_with : ℕ → Option (Vec ℕ) → Kept
  kept_with b order = record { notes = n; chosen = b; order = order }

  notes_kept : notes_of (kept_with 0 None ∷ []) ≡ n ∷ []
  notes_kept = refl

  kept_at_root : IsKeptAt small_below root (kept_with 0 None)
  kept_at_root = record {
    left = subst IsLeft (sym none_refuted) (omega arith);
    chosen = sym (ap chosen_of none_refuted);
    order = tt;
  }

  not_the_second : IsKeptAt small_below root (kept_with 1 None) → ⊥
  not_the_second k = differ 0 1 (omega arith) (sym (k.chosen ∙ ap chosen_of none_refuted))

  not_in_another_order : (order : Vec ℕ) → order.items ≡ [] → IsKeptAt small_below root (kept_with 0 (Some order)) → ⊥
  unfolding comes_before ends_below is_twin have_same_moments some_before is_live up buffer
  not_in_another_order order e k = let q = rw e at k.order in absurd cc

  kept_of_root : IsKeptOf small_below root rest (kept_with 0 None)
  unfolding child step do_share some_before is_live up buffer
  kept_of_root = record { at = kept_at_root; is_child = refl }

  not_down_to_itself : IsKeptOf small_below root root (kept_with 0 None) → ⊥
  unfolding child step do_share some_before is_live up buffer
  not_down_to_itself k = let e = ap length k.is_child in absurd cc

  kept_along : AreKeptAlong small_below (root ∷ rest ∷ []) (kept_with 0 None ∷ [])
  kept_along = record { count = refl; each = each }
    where
      each : (i : ℕ) (d : Kept) → i < 1 → IsKeptOf small_below (claim_no (root ∷ rest ∷ []) i)
          (claim_no (root ∷ rest ∷ []) (i + 1)) (slice_index_or (kept_with 0 None ∷ []) i d)
      each zero d lt = kept_of_root
      each (suc i) d lt = absurd (omega (arith, lt))

  not_of_the_last : AreKeptAlong small_below (root ∷ []) (kept_with 0 None ∷ []) → ⊥
  not_of_the_last h = let e = h.count in absurd cc

  -- ---- a step back
  abbrev way_of_two : Way
  way_of_two = record { sky = sky_of (root ∷ rest ∷ []); frames = both_left 0 ∷ [] }

  abbrev way_of_one : Way
  way_of_one = record { sky = sky_of (root ∷ []); frames = [] }

  back_to_root : IsBackBy way_of_two way_of_one (kept_with 0 None)
  back_to_root = record {
    frames = ap (λ (f : Tried). f ∷ []) (sym none_refuted);
    instance = refl;
    claims = refl;
    kept = kept_at_root;
  }

  not_where_it_is : IsBackBy way_of_one way_of_one (kept_with 0 None) → ⊥
  not_where_it_is h = let e = h.frames in absurd cc
