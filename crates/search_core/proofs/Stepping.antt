-- One step of the search, as a whole.
use Rattle.std.proofs.Common.{◌≡◌, ℕ, ◌+◌, ◌*◌, ◌≤◌, cond, List, [], ◌∷◌, ◌++◌, length, reverse, Option, Some, None, IfNone, IfSome, is_some, refl, sym, ap, ◌∙◌, subst, arith, length-append}
use Rattle.search_core.proofs.Words.{Instance, Claim, IsClaim, Line, first, work, last_claim, IsCoveredBy}
use Rattle.line_index.specs.Covered.{NoneCovers}
use Rattle.branching.specs.Trying.{IsKnown}
use Rattle.branching.specs.Logs.{Extends}
use Rattle.branching.specs.Tries.{Tried, noted_by, tried_of}
use Rattle.branching.proofs.Growing.{extends_along, extends_none}
use Rattle.branching.proofs.Working.{some_work}
use Rattle.search_core.specs.declared.kept.Kept.{Kept}
use Rattle.search_core.specs.declared.walk.Walk.{Walk}
use Rattle.search_core.specs.Descents.{Descends, IsPath, IsPlace, Place, above_of, claim_at, left_of, owed, sky_root, turns_left}
use Rattle.search_core.specs.Meters.{Units}
use Rattle.search_core.specs.Turns.{IsAhead, IsOn, debt_of}
use Rattle.search_core.specs.Walks.{HasWatches, place_of, place_on, tracks_below, tracks_of}
use Rattle.search_core.specs.Watches.{AreWatchedAlong, AreWatchedTo}
use Rattle.search_core.specs.Ways.{IsBackBy, Way}
use Rattle.search_core.proofs.Descending.{IsBack, back_debt, carried, is_back, no_above, place_with_line, root_has, with_line}
use Rattle.search_core.proofs.Stacks.{reverse_push}

-- lines that have only buffers of the last claim have only buffers of the first one
pub grown_below : (I : Instance) (C : ℕ) (lines after : List Line) (here : Place) → IsPath I C lines here →
    Extends (claim_at here) lines after → Extends (sky_root here.sky) lines after
grown_below I C lines after here p grown =
    extends_along _ _ _ _ _
    (λ b h. root_has I C _ _ _ _ b p.descends h)
    (extends_none (sky_root here.sky) lines) grown

module _ (I : Instance) (C : ℕ) (lines : List Line) (here : Place) (p : IsPlace I C lines here) where
  -- the line that is known
  pub known_line : (k : ℕ) → here.line ≡ Some k → IsKnown I C lines (claim_at here) k
  known_line k e = subst (λ o. IfSome o (IsKnown I C lines (claim_at here))) e p.known

  -- where no line is known, none covers the claim
  pub none_here : here.line ≡ None → NoneCovers I lines (claim_at here)
  none_here e = subst (λ o. IfNone o (NoneCovers I lines (claim_at here))) e p.fresh

  -- where no line is known, the last claim is left to look at
  none_known : here.line ≡ None → owed I C here ≡ work I C (claim_at here)
      + left_of I C (claim_at here) (above_of here.sky.claims) (reverse here.frames)
  none_known e =
      ap (λ o. cond (is_some o) 0 (work I C (claim_at here))
      + left_of I C (claim_at here) (above_of here.sky.claims) (reverse here.frames)) e

  pub some_owed : here.line ≡ None → IsClaim I (claim_at here) → 1 ≤ owed I C here
  some_owed e c = let w = some_work I C _ c in let o = none_known e in omega arith

  turns_of : (o : Option ℕ) → here.line ≡ o →
      turns_left I C here ≡ 2 * owed I C here + length here.frames + cond (is_some o) 1 0
  turns_of o e = ap (λ o. 2 * owed I C here + length here.frames + cond (is_some o) 1 0) e

  -- back, and then on
  pub on_back : (after : List Line) (popped next : Place) (f : Tried) (k : ℕ) (units : Units) → here.line ≡ Some k →
      here.frames ≡ popped.frames ++ f ∷ [] → IsBack I C lines here popped f →
      IsAhead I C after popped (noted_by f k) next →
      IsOn I C after (record { place = here; units = units }) (record { place = next; units = units })
  on_back after popped next f k units e parted b a = record {
    place = a.place;
    root = a.root ∙ sym b.root;
    units = let o = a.owed in omega (arith, old, o);
    fewer =
        let t = a.turns in
        let n : length here.frames ≡ length popped.frames + 1 =
        ap length parted ∙ length-append popped.frames (f ∷ []) in
        let m : turns_left I C here ≡ 2 * owed I C here + length here.frames + 1 = turns_of (Some k) e in
        omega (arith, old, t, n, m);
  }
    where
      old : owed I C here ≡ debt_of I C popped (noted_by f k)
      old = back_debt I C _ _ _ f k b (known_line k e) e parted

  -- the last claim was opened, and a line covers it
  pub on_line : (after : List Line) (k : ℕ) (before used : Units) → here.line ≡ None → IsClaim I (claim_at here) →
      Extends (claim_at here) lines after → IsKnown I C after (claim_at here) k → used.used ≤ before.used + 1 →
      IsOn I C after (record { place = here; units = before }) (record { place = with_line here k; units = used })
  on_line after k before used e c grown known one = record {
    place = place_with_line I C _ _ _ _ k grown p.path known;
    root = refl;
    units = omega (arith, old, one, w);
    fewer =
        let m : turns_left I C here ≡ 2 * owed I C here + length here.frames + 0 = turns_of None e in
        omega (arith, old, w, m);
  }
    where
      w : 1 ≤ work I C (claim_at here)
      w = some_work I C _ c

      old : owed I C here ≡ work I C (claim_at here)
          + left_of I C (claim_at here) (above_of here.sky.claims) (reverse here.frames)
      old = none_known e

  -- the root is refuted, where no frame is left
  pub root_refuted : (k : ℕ) → here.line ≡ Some k → here.frames ≡ [] →
      (first I C (sky_root here.sky) ≡ None) × IsCoveredBy I lines (sky_root here.sky) k
  root_refuted k e nothing =
      let r : sky_root here.sky ≡ claim_at here =
      no_above I C lines (claim_at here) (above_of here.sky.claims)
      (subst (λ (fs : List Tried). Descends I C lines (claim_at here) (above_of here.sky.claims) (reverse fs))
      nothing p.path.descends) in
      let known = known_line k e in (
        subst (λ (l : Claim). first I C l ≡ None) (sym r) known.none,
        subst (λ (l : Claim). IsCoveredBy I lines l k) (sym r) known.covered,
      )

-- ---- back by what was kept
module _ (I : Instance) (C : ℕ) (lines : List Line) (walk : Walk) (way : Way) (kept : Kept)
    (p : IsPlace I C lines (place_of walk)) (b : IsBackBy walk.path way kept) where
  subject : way.sky.instance ≡ I
  subject = b.instance ∙ p.path.subject

  -- the claim above, and its choices
  abbrev above : Claim
  above = last_claim way.sky.claims

  abbrev tried : Tried
  tried = tried_of I above kept.notes

  pub parted : walk.path.frames ≡ way.frames ++ tried ∷ []
  parted = rw (← subject) b.frames

  pub is_back_from : IsBack I C lines (place_of walk) (place_on way walk.line) tried
  is_back_from = is_back I C lines (place_of walk) (place_on way walk.line) tried p.path parted b.instance b.claims

  module _ (h : HasWatches lines walk) where
    pub tracks_back : (below : List ℕ) × (walk.trail ≡ tracks_below way below)
    tracks_back = ((tracks_of walk.path).last, h.tracks ∙ (rw (is_back_from.above, b.instance) refl))

    -- what is watched from there on
    along : AreWatchedAlong way.sky.instance lines walk.watches (above ∷ above_of way.sky.claims)
        (tried ∷ reverse way.frames)
    along = carried (λ (J : Instance) (ps : List Claim) (fs : List Tried). AreWatchedAlong J lines walk.watches ps fs)
        b.instance (sym is_back_from.above) (sym (ap reverse parted ∙ reverse_push way.frames tried)) h.above.along

    pub held_there : AreWatchedTo lines walk.watches way kept.notes.asked
    held_there = along.0
