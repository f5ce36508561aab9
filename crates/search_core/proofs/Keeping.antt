-- Steps of the way, down and back, by what is kept.
use Rattle.std.proofs.Common.{◌≡◌, ℕ, suc, ◌+◌, ◌-◌, List, [], ◌∷◌, ◌++◌, None, length, slice_index_or, slice_set, refl, sym, ap, ◌∙◌, subst, arith, append-nil, length-append}
use Rattle.std.proofs.lemmas.List.{get_or_append_left, get_or_push, length-map, map-append}
use Rattle.std.proofs.Math.Seq.{map-set_same}
use Rattle.search_core.proofs.Words.{Instance, Claim, Sky, child, entry_of, last_claim}
use Rattle.branching.specs.declared.notes.Notes.{Notes}
use Rattle.branching.specs.Tries.{tried_of}
use Rattle.search_core.specs.declared.kept.Kept.{Kept}
use Rattle.search_core.specs.Ways.{AreKeptAlong, IsBackBy, IsKeptOf, Way, claim_no, notes_of, tries_of}

-- the way with so much kept
abbrev pub way_of : Sky → List Kept → Way
way_of sky kept = record { sky = sky; frames = tries_of sky.instance sky.claims (notes_of kept) }

pub no_tries : (I : Instance) (claims : List Claim) → tries_of I claims [] ≡ []
no_tries I [] = refl
no_tries I (l ∷ ls) = refl

-- where nothing was kept, nothing is popped
pub nothing_popped : (before : Way) (sky : Sky) (kept rest : List Kept) → way_of sky kept ≡ before → kept ≡ [] →
    kept ≡ rest ++ [] → (before.frames ≡ []) × (way_of sky rest ≡ before)
nothing_popped before sky kept rest w none q = (
  sym (ap (λ (w : Way). w.frames) w)
      ∙ ap (λ (ks : List Kept). tries_of sky.instance sky.claims (notes_of ks)) none
      ∙ no_tries sky.instance sky.claims,
  ap (way_of sky) (sym (q ∙ append-nil rest)) ∙ w,
)

-- the order is no part of the way
pub set_order : (before : Way) (sky : Sky) (kept : List Kept) (i : ℕ) (k : Kept) → way_of sky kept ≡ before →
    k ≡ slice_index_or kept i k → way_of sky (slice_set kept i (record k { order = None })) ≡ before
set_order before sky kept i k w is =
    ap (λ (ns : List Notes). let w : Way = record { sky = sky; frames = tries_of sky.instance sky.claims ns } in w)
    (map-set_same (λ (k : Kept). k.notes) kept i (record k { order = None }) k (ap (λ (k : Kept). k.notes) is)) ∙ w

-- ---- a claim more
last_of_more : (l m : Claim) (ls : List Claim) → last_claim (l ∷ m ∷ ls) ≡ last_claim (m ∷ ls)
last_of_more l m ls =
    let p : length (l ∷ m ∷ ls) - 1 ≡ suc (length ls) = omega arith in
    let q : length (m ∷ ls) - 1 ≡ length ls = omega arith in
    ap (claim_no (l ∷ m ∷ ls)) p ∙ sym (ap (claim_no (m ∷ ls)) q)

tries_push : (I : Instance) (claims : List Claim) (ns : List Notes) (c : Claim) (n : Notes) →
    length ns + 1 ≡ length claims →
    tries_of I (claims ++ c ∷ []) (ns ++ n ∷ []) ≡ tries_of I claims ns ++ tried_of I (last_claim claims) n ∷ []
tries_push I [] ns c n e = absurd (omega (arith, e))
tries_push I (l ∷ []) [] c n e = refl
tries_push I (l ∷ []) (x ∷ xs) c n e = absurd (omega (arith, e))
tries_push I (l ∷ m ∷ ls) [] c n e = absurd (omega (arith, e))
tries_push I (l ∷ m ∷ ls) (x ∷ xs) c n e =
    ap (λ fs. tried_of I l x ∷ fs) (tries_push I (m ∷ ls) xs c n (omega (arith, e)))
    ∙ ap (λ (k : Claim). tried_of I l x ∷ (tries_of I (m ∷ ls) xs ++ tried_of I k n ∷ [])) (sym (last_of_more l m ls))

module _ (I : Instance) (claims : List Claim) (kept : List Kept) (c : Claim) (k : Kept) where
  pushed_tries : length kept + 1 ≡ length claims → tries_of I (claims ++ c ∷ []) (notes_of (kept ++ k ∷ []))
      ≡ tries_of I claims (notes_of kept) ++ tried_of I (last_claim claims) k.notes ∷ []
  pushed_tries e =
      ap (tries_of I (claims ++ c ∷ [])) (map-append (λ (k : Kept). k.notes) kept (k ∷ []))
      ∙ tries_push I claims (notes_of kept) c k.notes
      (let n = length-map kept (λ (k : Kept). k.notes) in omega arith)

  last_kept : length kept + 1 ≡ length claims → AreKeptAlong I (claims ++ c ∷ []) (kept ++ k ∷ []) →
      IsKeptOf I (last_claim claims) c k
  last_kept e h =
      let n = length kept in
      let m = length-append kept (k ∷ []) in
      let is : n ≡ length claims - 1 = omega arith in
      rw (
        get_or_append_left claims (c ∷ []) [] n (omega arith) ∙ ap (claim_no claims) is,
        get_or_push claims c [] (n + 1) (sym e),
        get_or_push kept k k n refl,
      ) at (h.each n k (omega arith))

-- a choice of the last claim is kept, and the child by it is the last claim
pub down : (before : Way) (sky after : Sky) (kept items : List Kept) (k : Kept) → way_of sky kept ≡ before →
    AreKeptAlong sky.instance sky.claims kept → after.instance ≡ sky.instance →
    after.claims ≡ sky.claims
    ++ child sky.instance (last_claim sky.claims) (entry_of (last_claim sky.claims) k.chosen) ∷ [] →
    items ≡ kept ++ k ∷ [] → tries_of after.instance after.claims (notes_of items)
    ≡ before.frames ++ tried_of before.sky.instance (last_claim before.sky.claims) k.notes ∷ []
down before sky after kept items k w h i q p =
    subst (λ (w : Way). tries_of after.instance after.claims (notes_of items)
    ≡ w.frames ++ tried_of w.sky.instance (last_claim w.sky.claims) k.notes ∷ []) w
    (rw (p, i, q) (pushed_tries sky.instance sky.claims kept _ k h.count))

-- the last claim is popped, and what was kept of the claim above it
pub back : (sky next : Sky) (kept rest : List Kept) (k : Kept) → AreKeptAlong sky.instance sky.claims kept →
    next.instance ≡ sky.instance → sky.claims ≡ next.claims ++ last_claim sky.claims ∷ [] → kept ≡ rest ++ k ∷ [] →
    IsBackBy (way_of sky kept) (way_of next rest) k
back sky next kept rest k h i q p = record {
  frames = rw i (ap (λ (cs : List Claim). tries_of sky.instance cs (notes_of kept)) q
      ∙ ap (λ (ks : List Kept). tries_of sky.instance (next.claims ++ c ∷ []) (notes_of ks)) p
      ∙ pushed_tries sky.instance next.claims rest c k count);
  instance = i;
  claims = q;
  kept = rw i (last_kept sky.instance next.claims rest c k count both).at;
}
  where
    c : Claim
    c = last_claim sky.claims

    both : AreKeptAlong sky.instance (next.claims ++ c ∷ []) (rest ++ k ∷ [])
    both = subst (λ (ks : List Kept). AreKeptAlong sky.instance (next.claims ++ c ∷ []) ks) p
        (subst (λ (cs : List Claim). AreKeptAlong sky.instance cs kept) q h)

    count : length rest + 1 ≡ length next.claims
    count =
        let m = length-append rest (k ∷ []) in
        let n = length-append next.claims (c ∷ []) in
        let e = both.count in
        omega arith
