-- Steps of the search: a choice deeper, and back.
use Rattle.std.proofs.Common.{◌≡◌, ◌≢◌, ℕ, ◌+◌, ◌*◌, ◌<◌, cond, List, [], ◌∷◌, ◌++◌, length, map, reverse, Option, Some, None, IfSome, IfNone, is_some, refl, sym, ap, ◌∙◌, subst, arith, length-append}
use Rattle.search_core.proofs.Words.{Instance, Claim, Entry, IsClaim, child, Line, first, work, HasBuffer, entry_of, last_claim}
use Rattle.line_index.specs.Covered.{NoneCovers}
use Rattle.skyline.proofs.Carrying.{last_of_append}
use Rattle.branching.specs.Trying.{IsKnown, IsTrying, through}
use Rattle.branching.specs.Logs.{Extends}
use Rattle.branching.specs.Tries.{IsLeft, Tried, chosen_of, later_of, noted_by, rest_of}
use Rattle.branching.proofs.Descent.{child_within}
use Rattle.branching.proofs.Searching.{chosen_in, next_choice, rest_of_noted, trying_still}
use Rattle.branching.proofs.Working.{through_next}
use Rattle.search_core.specs.Descents.{Descends, IsPath, IsPlace, IsStanding, Place, above_of, claim_at, left_of, owed, root_of, sky_root, turns_left}
use Rattle.search_core.specs.Turns.{IsAhead, debt_of}
use Rattle.search_core.proofs.Stacks.{above_pushed, count_above, reverse_push}

-- what holds of three things holds of their equals
pub carried : {X Y Z : Type 0} (P : X → Y → Z → Type 0) {a x : X} {b y : Y} {c z : Z} → a ≡ x → b ≡ y → c ≡ z →
    P x y z → P a b c
carried P {a = a} {x = x} {b = b} {y = y} {c = c} {z = z} e f g h =
    subst (λ s. P s b c) (sym e) (subst (λ t. P x t c) (sym f) (subst (λ u. P x y u) (sym g) h))

-- the place with that line known
abbrev pub with_line : Place → ℕ → Place
with_line here n = record { sky = here.sky; frames = here.frames; line = Some n }

module _ (I : Instance) (C : ℕ) where
  -- a log that grows keeps what is known of all claims
  pub descends_still : (k : Claim) (lines after : List Line) (l : Claim) (ps : List Claim) (fs : List Tried) →
      Extends k lines after → Descends I C lines l ps fs → Descends I C after l ps fs
  descends_still k lines after l [] [] grown d = d
  descends_still k lines after l [] (f ∷ fs) grown d = d
  descends_still k lines after l (p ∷ ps) [] grown d = d
  descends_still k lines after l (p ∷ ps) (f ∷ fs) grown d =
      (d.0, trying_still I C p k _ _ f grown d.1, descends_still k lines after p ps fs grown d.2)

  -- each claim has only buffers of the first one
  pub root_has : (lines : List Line) (l : Claim) (ps : List Claim) (fs : List Tried) (b : ℕ) →
      Descends I C lines l ps fs → HasBuffer l b → HasBuffer (root_of l ps) b
  root_has lines l [] fs b d h = h
  root_has lines l (p ∷ ps) [] b d h = absurd d
  root_has lines l (p ∷ ps) (f ∷ fs) b d h =
      root_has lines p ps fs b d.2
      (child_within I p (chosen_of f) b (subst (λ (k : Claim). HasBuffer k b) d.0.is_child h))

  -- where there is a frame, there is a claim above the last one
  pub has_above : (lines : List Line) (l : Claim) (ps : List Claim) (f : Tried) (fs : List Tried) →
      Descends I C lines l ps (f ∷ fs) → 0 < length ps
  has_above lines l [] f fs d = absurd d
  has_above lines l (p ∷ ps) f fs d = omega arith

  -- and where there is none, there is none
  pub no_above : (lines : List Line) (l : Claim) (ps : List Claim) → Descends I C lines l ps [] → root_of l ps ≡ l
  no_above lines l [] d = refl
  no_above lines l (p ∷ ps) d = absurd d

  -- ---- a choice deeper
  pub ahead_deeper : (lines : List Line) (before after : Place) (f : Tried) → IsPath I C lines before →
      IsClaim I (claim_at before) → IsTrying I C lines (claim_at before) f → IsLeft f →
      NoneCovers I lines (child I (claim_at before) (entry_of (claim_at before) (chosen_of f))) →
      after.sky.instance ≡ before.sky.instance →
      after.sky.claims ≡ before.sky.claims
      ++ child I (claim_at before) (entry_of (claim_at before) (chosen_of f)) ∷ [] →
      after.frames ≡ before.frames ++ f ∷ [] → after.line ≡ None → IsAhead I C lines before f after
  ahead_deeper lines before after f p claim trying lt fresh i claims pushed none = record {
    place = record {
      path = record {
        subject = i ∙ p.subject;
        some = let n = ap length claims in let k = length-append before.sky.claims (x ∷ []) in omega arith;
        descends = carried (λ (l : Claim) (ps : List Claim) (fs : List Tried). Descends I C lines l ps fs) last above
            rest (record { claim = claim; is_left = lt; is_child = refl }, trying, p.descends);
      };
      known = subst (λ o. IfSome o (IsKnown I C lines (claim_at after))) (sym none) tt;
      fresh = subst (λ o. IfNone o (NoneCovers I lines (claim_at after))) (sym none)
          (subst (NoneCovers I lines) (sym last) fresh);
    };
    root = ap (λ (l : Claim). root_of l (above_of after.sky.claims)) last ∙ ap (root_of x) above;
    owed = omega (arith, debt);
    turns =
        let n : length after.frames ≡ length before.frames + 1 =
        ap length pushed ∙ length-append before.frames (f ∷ []) in
        let m : turns_left I C after ≡ 2 * owed I C after + length after.frames + 0 =
        ap (λ o. 2 * owed I C after + length after.frames + cond (is_some o) 1 0) none in
        omega (arith, debt, n, m);
  }
    where
      x : Claim
      x = child I (claim_at before) (entry_of (claim_at before) (chosen_of f))

      last : claim_at after ≡ x
      last = ap last_claim claims ∙ last_of_append before.sky.claims x

      above : above_of after.sky.claims ≡ claim_at before ∷ above_of before.sky.claims
      above = ap above_of claims ∙ above_pushed before.sky.claims x p.some

      rest : reverse after.frames ≡ f ∷ reverse before.frames
      rest = ap reverse pushed ∙ reverse_push before.frames f

      split : through I C (claim_at before) (map (entry_of (claim_at before)) (rest_of f)) ≡
          work I C x + cond (is_some (first I C x)) 0 (through I C (claim_at before)
          (map (entry_of (claim_at before)) (later_of f)))
      split = ap (λ (bs : List ℕ). through I C (claim_at before) (map (entry_of (claim_at before)) bs))
          (next_choice f lt)
          ∙ through_next I C (claim_at before) (entry_of (claim_at before) (chosen_of f))
          (map (entry_of (claim_at before)) (later_of f))

      debt : owed I C after ≡ debt_of I C before f
      debt =
          ap (λ o. cond (is_some o) 0 (work I C (claim_at after))
          + left_of I C (claim_at after) (above_of after.sky.claims) (reverse after.frames)) none
          ∙ carried (λ (l : Claim) (ps : List Claim) (fs : List Tried). work I C l + left_of I C l ps fs
          ≡ debt_of I C before f) last above rest
          (let s = split in omega arith)

  -- ---- a line covers the claim
  pub path_still : (k : Claim) (lines after : List Line) (here : Place) → Extends k lines after →
      IsPath I C lines here → IsPath I C after here
  path_still k lines after here grown p = record {
    subject = p.subject;
    some = p.some;
    descends = descends_still k lines after (claim_at here) (above_of here.sky.claims) (reverse here.frames) grown
        p.descends;
  }

  pub place_with_line : (k : Claim) (lines after : List Line) (here : Place) (n : ℕ) → Extends k lines after →
      IsPath I C lines here → IsKnown I C after (claim_at here) n → IsPlace I C after (with_line here n)
  place_with_line k lines after here n grown p known = record {
    path = let q = path_still k lines after here grown p in
        record { subject = q.subject; some = q.some; descends = q.descends };
    known = known;
    fresh = tt;
  }

  pub ahead_covered : (k : Claim) (lines after : List Line) (here : Place) (f : Tried) (n : ℕ) →
      Extends k lines after → IsPath I C lines here → IsKnown I C after (claim_at here) n →
      IsAhead I C after here f (with_line here n)
  ahead_covered k lines after here f n grown p known = record {
    place = place_with_line k lines after here n grown p known;
    root = refl;
    owed = omega arith;
    turns = omega arith;
  }

  -- ---- back
  -- what is known of the claim above the one that the search was at
  pub record IsBack (lines : List Line) (here there : Place) (f : Tried) : Type 0 where
    pub path : IsPath I C lines there
    pub standing : IsStanding I (claim_at there) f (claim_at here)
    pub trying : IsTrying I C lines (claim_at there) f
    pub above : above_of here.sky.claims ≡ claim_at there ∷ above_of there.sky.claims
    pub root : sky_root here.sky ≡ sky_root there.sky
    pub not_empty : claim_at there ≢ []

  -- where there is a frame, the last claim may go
  pub may_pop : (lines : List Line) (here : Place) (rest : List Tried) (f : Tried) → IsPath I C lines here →
      here.frames ≡ rest ++ f ∷ [] → 1 < length here.sky.claims
  may_pop lines here rest f p e =
      let r : reverse here.frames ≡ f ∷ reverse rest = ap reverse e ∙ reverse_push rest f in
      let a = has_above lines (claim_at here) (above_of here.sky.claims) f (reverse rest)
      (subst (Descends I C lines (claim_at here) (above_of here.sky.claims)) r p.descends) in
      let c = count_above here.sky.claims p.some in
      omega arith

  pub is_back : (lines : List Line) (here there : Place) (f : Tried) → IsPath I C lines here →
      here.frames ≡ there.frames ++ f ∷ [] → there.sky.instance ≡ here.sky.instance →
      here.sky.claims ≡ there.sky.claims ++ claim_at here ∷ [] → IsBack lines here there f
  is_back lines here there f p e i claims = record {
    path = record { subject = i ∙ p.subject; some = some; descends = all.2 };
    standing = all.0;
    trying = all.1;
    above = above;
    root = ap (root_of (claim_at here)) above;
    not_empty = λ q. has_none (chosen_of f) (subst (λ (l : Claim). HasBuffer l (chosen_of f)) q
        (chosen_in I C _ _ f all.1 all.0.is_left));
  }
    where
      has_none : (b : ℕ) → HasBuffer [] b → ⊥
      has_none b h = h

      some : 0 < length there.sky.claims
      some =
          let m = may_pop lines here there.frames f p e in
          let n = ap length claims in
          let k = length-append there.sky.claims (claim_at here ∷ []) in
          omega arith

      above : above_of here.sky.claims ≡ claim_at there ∷ above_of there.sky.claims
      above = ap above_of claims ∙ above_pushed there.sky.claims (claim_at here) some

      rest : reverse here.frames ≡ f ∷ reverse there.frames
      rest = ap reverse e ∙ reverse_push there.frames f

      all : Descends I C lines (claim_at here) (claim_at there ∷ above_of there.sky.claims) (f ∷ reverse there.frames)
      all = carried (λ (l : Claim) (ps : List Claim) (fs : List Tried). Descends I C lines l ps fs) refl (sym above)
          (sym rest) p.descends

  -- and what was left to do is left to do
  pub back_debt : (lines : List Line) (here there : Place) (f : Tried) (k : ℕ) → IsBack lines here there f →
      IsKnown I C lines (claim_at here) k → here.line ≡ Some k → here.frames ≡ there.frames ++ f ∷ [] →
      owed I C here ≡ debt_of I C there (noted_by f k)
  back_debt lines here there f k b known line e =
      ap (λ o. cond (is_some o) 0 (work I C (claim_at here))
      + left_of I C (claim_at here) (above_of here.sky.claims) (reverse here.frames)) line
      ∙ carried (λ (l : Claim) (ps : List Claim) (fs : List Tried). 0 + left_of I C l ps fs
      ≡ debt_of I C there (noted_by f k)) refl b.above (ap reverse e ∙ reverse_push there.frames f)
      (split (first I C (claim_at here)) known.none)
    where
      later : through I C (claim_at there) (map (entry_of (claim_at there)) (rest_of (noted_by f k))) ≡
          through I C (claim_at there) (map (entry_of (claim_at there)) (later_of f))
      later = ap (λ (bs : List ℕ). through I C (claim_at there) (map (entry_of (claim_at there)) bs))
          (rest_of_noted f k)

      split : (o : Option (List Entry)) → o ≡ None →
          0 + (cond (is_some o) 0 (through I C (claim_at there) (map (entry_of (claim_at there)) (later_of f)))
          + left_of I C (claim_at there) (above_of there.sky.claims) (reverse there.frames))
          ≡ debt_of I C there (noted_by f k)
      split None q = let z = later in omega arith
      split (Some seats) q = absurd cc
