-- A layout of the first claim, from offsets that are written on the way back from an empty one.
use Rattle.std.proofs.Common.{◌≡◌, ℕ, ◌<◌, List, [], ◌∷◌, length, reverse, Some, None, slice_index_or, slice_set, refl, sym, ap, ◌∙◌, subst, arith, length-set}
use Rattle.search_core.proofs.Words.{Instance, Claim, Entry, child, up, Line, first, seated, HasBuffer, entry_of, Stands, in_range, last_claim}
use Rattle.skyline.specs.Skies.{first_claim}
use Rattle.std.proofs.lemmas.List.{length-drop, length-reverse}
use Rattle.dsa_search_laws.proofs.Search.{first_empty}
use Rattle.branching.specs.Tries.{Tried, chosen_of, tried_of}
use Rattle.branching.proofs.Searching.{first_in, layout_found}
use Rattle.search_core.specs.declared.kept.Kept.{Kept}
use Rattle.search_core.specs.Descents.{Descends, IsPath, above_of, sky_root}
use Rattle.search_core.specs.Seats.{seats_by}
use Rattle.search_core.specs.Walks.{place_on}
use Rattle.search_core.specs.Ways.{IsBackBy, Way}
use Rattle.search_core.proofs.Descending.{IsBack, is_back, no_above}
use Rattle.search_core.proofs.Seating.{seated_by, seats_of_none}

-- the last claim of the way
abbrev last_on : Way → Claim
last_on way = last_claim way.sky.claims

module _ (I : Instance) (C : ℕ) (lines : List Line) where
  -- the first claim of the way is the top, and the first layout of the last one is by the offsets
  pub record IsGathering (top : Claim) (way : Way) (offsets : List ℕ) : Type 0 where
    pub path : IsPath I C lines (place_on way None)
    pub root : sky_root way.sky ≡ top
    pub count : length offsets ≡ length I
    pub found : first I C (last_claim way.sky.claims) ≡ Some (seats_by offsets (last_claim way.sky.claims))

  -- at an empty claim any offsets do
  pub gathering_start : (way : Way) (offsets : List ℕ) → IsPath I C lines (place_on way None) →
      first I C (last_claim way.sky.claims) ≡ Some [] → length offsets ≡ length I →
      IsGathering (sky_root way.sky) way offsets
  gathering_start way offsets p e n = record {
    path = p;
    root = refl;
    count = n;
    found = subst (λ (l : Claim). first I C l ≡ Some (seats_by offsets l)) (sym (seats_of_none I C (last_on way) e))
        (first_empty I C);
  }

  -- a step back
  module _ (top : Claim) (before after : Way) (offsets : List ℕ) (k : Kept) (g : IsGathering top before offsets)
      (h : IsBackBy before after k) where
    -- the tries of the claim above
    abbrev f : Tried
    f = tried_of after.sky.instance (last_on after) k.notes

    back : IsBack I C lines (place_on before None) (place_on after None) f
    back = is_back I C lines _ _ f g.path h.frames h.instance h.claims

    pub gathering_has : HasBuffer (last_claim after.sky.claims) k.chosen
    gathering_has = first_in I C _ lines f k.chosen back.standing.is_left h.kept.chosen back.trying

    pub gathering_within : Stands after.sky.instance (last_claim after.sky.claims) → k.chosen < length offsets
    gathering_within s =
        let lt = in_range after.sky.instance (last_on after) k.chosen s gathering_has in
        let n = g.count in
        let m = ap length back.path.subject in
        omega (arith, lt, n, m)

    pub gathering_next : (low : ℕ) → Stands after.sky.instance (last_claim after.sky.claims) →
        low ≡ up after.sky.instance (entry_of (last_claim after.sky.claims) k.chosen) →
        IsGathering top after (slice_set offsets k.chosen low)
    gathering_next low s e = record {
      path = back.path;
      root = sym back.root ∙ g.root;
      count = length-set offsets k.chosen low ∙ g.count;
      found = layout_found I C l _ _ (seats_by offsets (child I l (entry_of l (chosen_of f))))
          (seats_by (slice_set offsets k.chosen low) l) back.trying back.standing.is_left
          (subst (λ (m : Claim). first I C m ≡ Some (seats_by offsets m)) back.standing.is_child g.found)
          (subst (λ (c : ℕ). seated I l (entry_of l c) (Some (seats_by offsets (child I l (entry_of l c))))
          ≡ Some (seats_by (slice_set offsets k.chosen low) l)) h.kept.chosen
          (seated_by I l offsets k.chosen low (gathering_within s) low_is));
    }
      where
        l : Claim
        l = last_on after

        low_is : low ≡ up I (entry_of l k.chosen)
        low_is = e ∙ ap (λ (J : Instance). up J (entry_of l k.chosen)) back.path.subject

  -- back at the first claim, which is the last one
  pub all_gathered : (top : Claim) (way : Way) (offsets : List ℕ) (seats : List Entry) → IsGathering top way offsets →
      way.frames ≡ [] → seats ≡ seats_by offsets (first_claim way.sky.claims) → first I C top ≡ Some seats
  all_gathered top way offsets seats g e q =
      let d = subst (λ (fs : List Tried). Descends I C lines (last_on way) (above_of way.sky.claims) (reverse fs)) e
      g.path.descends in
      let s = alone way.sky.claims (none_above (last_on way) (above_of way.sky.claims) d) in
      subst (λ (l : Claim). first I C l ≡ Some seats)
      (sym (no_above I C lines (last_on way) (above_of way.sky.claims) d) ∙ g.root)
      (g.found ∙ ap (λ (l : Claim). Some (seats_by offsets l)) (sym s) ∙ ap Some (sym q))
    where
      none_above : (l : Claim) (ps : List Claim) → Descends I C lines l ps [] → ps ≡ []
      none_above l [] d = refl
      none_above l (p ∷ ps) d = absurd d

      alone : (claims : List Claim) → above_of claims ≡ [] → first_claim claims ≡ last_claim claims
      alone claims e =
          let n = length-reverse claims in
          let m = length-drop 1 (reverse claims) in
          let k = ap length e in
          ap (λ (i : ℕ). slice_index_or claims i []) (omega arith)
