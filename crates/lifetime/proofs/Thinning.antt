-- Thinning, one section after another.
use Rattle.std.proofs.Common.{◌≡◌, ◌↔◌, ℕ, zero, suc, ◌+◌, ◌-◌, ◌<◌, ◌≤◌, ◌⊎◌, inl, inr, Bool, true, false, IsTrue, Some, List, [], ◌∷◌, ◌++◌, length, map, reverse, take, drop, slice_index_or, refl, sym, ap, ◌∙◌, subst, arith, length-append}
use Rattle.std.proofs.lemmas.List.{drop_all, length-map, length-reverse, map-append, reverse-append, take-append-drop, take-map}
use Rattle.std.proofs.lemmas.List.Elements.{All-push, All-take}
use Rattle.std.specs.List.{All, slice_get}
use Rattle.dsa_terms.specs.Claims.{Rises}
use Rattle.lifetime.specs.SectionList.{Section, no_section, section_with}
use Rattle.lifetime.specs.Stretches.{AreStretches, AreThinned, IsAbove, IsNotOver}
use Rattle.lifetime.specs.Thin.{AreAmong, last_of}
use Rattle.lifetime.specs.Views.{section_of}
use Rattle.lifetime.specs.declared.section_list.Section.{Section as Declared}
use Rattle.lifetime.proofs.Stretches.{IsPopping, left_out, none_popped, popped, pushed}

-- ---- the last section of a slice
got : (xs : List Declared) (k : ℕ) (x : Declared) → Some x ≡ slice_get xs k →
    (k < length xs) × (slice_index_or (map section_of xs) k no_section ≡ section_of x)
got [] k x e = absurd cc
got (y ∷ ys) zero x e = (omega arith, ap section_of (same y x e))
  where
    same : (y x : Declared) → Some x ≡ Some y → y ≡ x
    same y x e = cc
got (y ∷ ys) (suc k) x e = let r = got ys k x e in (let k = r.0 in omega arith, r.1)

pub last_is : (xs : List Declared) (x : Declared) → Some x ≡ slice_get xs (length xs - 1) →
    (0 < length xs) × (last_of (map section_of xs) ≡ section_of x)
last_is xs x e =
    let r = got xs (length xs - 1) x e in
    (let k = r.0 in omega arith, rw (length-map xs section_of) r.1)

pub last_rises : (xs : List Declared) (x : Declared) (given : List ℕ) →
    All (λ (y : Section). Rises y.members) (map section_of xs) → Some x ≡ slice_get xs (length xs - 1) →
    given ≡ x.members.items → Rises given
last_rises xs x given h e g =
    let r = got xs (length xs - 1) x e in
    let m = length-map xs section_of in
    let k : length xs - 1 < length (map section_of xs) = (let z = r.0 in omega arith) in
    rw g (rw r.1 at (h (length xs - 1) no_section k))

-- a test of the last section
pub tested : (xs : List Declared) (x : Declared) (given : List ℕ) (P : List ℕ → Type 0) (b : Bool) →
    Some x ≡ slice_get xs (length xs - 1) → given ≡ x.members.items → (IsTrue b ↔ P given) →
    IsTrue b ↔ ((0 < length xs) × P (last_of (map section_of xs)).members)
tested xs x given P b e g h =
    let r = last_is xs x e in
    let f : given ≡ (last_of (map section_of xs)).members = g ∙ sym (ap (λ (y : Section). y.members) r.1) in
    (λ t. (r.0, subst P f (h.0 t)), λ q. h.1 (subst P (sym f) q.1))

-- ---- the sections one after another
-- what is known while those at the end give way to the next one
pub record IsGivingWay (done : List Section) (next : Section) (kept : List Section) : Type 0 where
  pub rest : List Section
  pub pending : List Section
  pub popping : IsPopping done next (reverse kept) rest pending

-- the last one of the list is the first of the stack
top : (kept : List Section) → 0 < length kept → reverse kept ≡ last_of kept ∷ reverse (take (length kept - 1) kept)
top kept lt =
    let n = length kept - 1 in
    let none : drop (length kept - 1 + 1) kept ≡ [] = drop_all (length kept - 1 + 1) kept (omega arith) in
    let parts : drop (length kept - 1) kept ≡ last_of kept ∷ [] = at kept (length kept - 1) (omega arith)
    ∙ ap (λ xs. last_of kept ∷ xs) none in
    ap reverse (sym (take-append-drop (length kept - 1) kept) ∙ ap (λ xs. take (length kept - 1) kept ++ xs) parts)
    ∙ reverse-append (take (length kept - 1) kept) (last_of kept ∷ [])
  where
    at : (xs : List Section) (i : ℕ) → i < length xs →
        drop i xs ≡ slice_index_or xs i no_section ∷ drop (i + 1) xs
    at [] i lt = absurd (omega arith)
    at (x ∷ xs) zero lt = refl
    at (x ∷ xs) (suc i) lt = let k : suc i + 1 ≡ suc (i + 1) = omega arith in rw k (at xs i (omega arith))

empty_or_not : (xs : List Section) → (xs ≡ []) ⊎ (0 < length xs)
empty_or_not [] = inl refl
empty_or_not (x ∷ xs) = inr (omega arith)

-- a fact of the first of the stack, from one of the last of the list
above_from : (next : Section) (kept : List Section) →
    ((0 < length kept) × AreAmong next.members (last_of kept).members → ⊥) → IsAbove next (reverse kept)
above_from next kept n = elim (empty_or_not kept) [
  | inl e ↦ rw e tt
  | inr lt ↦ rw (top kept lt) (λ h. n (lt, h))
]

not_over_from : (next : Section) (kept : List Section) →
    ((0 < length kept) × AreAmong (last_of kept).members next.members → ⊥) → IsNotOver next (reverse kept)
not_over_from next kept n = elim (empty_or_not kept) [
  | inl e ↦ rw e tt
  | inr lt ↦ rw (top kept lt) (λ h. n (lt, h))
]

pub thinned_none : AreThinned [] []
thinned_none = record { stretches = refl; apart = tt }

pub giving_none : (done : List Section) (next : Section) (kept : List Section) → AreThinned done kept →
    ((0 < length kept) × AreAmong next.members (last_of kept).members → ⊥) → IsGivingWay done next kept
giving_none done next kept t n = record {
  rest = done;
  pending = [];
  popping = none_popped done next (reverse kept) t.stretches t.apart (above_from next kept n);
}

pub giving_more : (done : List Section) (next : Section) (kept fewer : List Section) → IsGivingWay done next kept →
    (0 < length kept) × AreAmong (last_of kept).members next.members → fewer ≡ take (length kept - 1) kept →
    IsGivingWay done next fewer
giving_more done next kept fewer g h e =
    let p : IsPopping done next (last_of kept ∷ reverse (take (length kept - 1) kept)) g.rest g.pending =
    subst (λ (stack : List Section). IsPopping done next stack g.rest g.pending) (top kept h.0) g.popping in
    let q = popped done next (last_of kept) (reverse (take (length kept - 1) kept)) g.rest g.pending p h.1 in
    rw e (record { rest = q.0; pending = q.1; popping = q.2 })

pub thinned_pushed : (done : List Section) (next : Section) (kept more : List Section) → IsGivingWay done next kept →
    ((0 < length kept) × AreAmong (last_of kept).members next.members → ⊥) → more ≡ kept ++ next ∷ [] →
    AreThinned (done ++ next ∷ []) more
thinned_pushed done next kept more g n e =
    let q = pushed done next (reverse kept) g.rest g.pending g.popping (not_over_from next kept n) in
    rw e (record {
      stretches = rw (reverse-append kept (next ∷ [])) q.0;
      apart = rw (reverse-append kept (next ∷ [])) q.1;
    })

pub thinned_left : (done : List Section) (next : Section) (kept : List Section) → AreThinned done kept →
    (0 < length kept) × AreAmong next.members (last_of kept).members → AreThinned (done ++ next ∷ []) kept
thinned_left done next kept t h = record {
  stretches = rw (top kept h.0) (left_out done next (last_of kept) (reverse (take (length kept - 1) kept))
      (rw (top kept h.0) at t.stretches) h.1);
  apart = t.apart;
}

-- no more are kept than there are
pub few_kept : (sections kept : List Section) → AreThinned sections kept → length kept ≤ length sections
few_kept sections kept t = rw (← length-reverse kept) (few (reverse kept) sections t.stretches)
  where
    few : (stack sections : List Section) → AreStretches sections stack → length stack ≤ length sections
    few [] sections s = omega arith
    few (k ∷ ks) sections s =
        let ih = few ks s.0 s.4 in
        let e = ap (λ (xs : List Section). length xs) s.3.is in
        let a = length-append s.0 (s.1 ++ k ∷ s.2) in
        let b = length-append s.1 (k ∷ s.2) in
        omega arith

-- ---- the next one is put behind what was kept of any sections
pub record IsPutting (old : List Section) (next : Section) (kept : List Section) : Type 0 where
  pub gives_way : (done : List Section) → AreThinned done old → IsGivingWay done next kept
  pub rise : All (λ (x : Section). Rises x.members) kept

-- or it is left out
pub put_left : (old kept : List Section) (next : Section) → old ≡ kept →
    (0 < length kept) × AreAmong next.members (last_of kept).members → (done : List Section) → AreThinned done old →
    AreThinned (done ++ next ∷ []) old
put_left old kept next e h done t = thinned_left done next old t (rw e h)

pub putting_none : (old kept : List Section) (next : Section) → old ≡ kept →
    All (λ (x : Section). Rises x.members) kept →
    ((0 < length kept) × AreAmong next.members (last_of kept).members → ⊥) → IsPutting old next kept
putting_none old kept next e r n = record {
  gives_way = λ done t. giving_none done next kept (rw e at t) n;
  rise = r;
}

pub putting_more : (old : List Section) (next : Section) (kept fewer : List Section) → IsPutting old next kept →
    (0 < length kept) × AreAmong (last_of kept).members next.members → fewer ≡ take (length kept - 1) kept →
    IsPutting old next fewer
putting_more old next kept fewer p h e = record {
  gives_way = λ done t. giving_more done next kept fewer (p.gives_way done t) h e;
  rise = rw e (All-take (λ (x : Section). Rises x.members) (length kept - 1) kept p.rise);
}

pub put_last : (old : List Section) (next : Section) (kept more : List Section) → IsPutting old next kept →
    ((0 < length kept) × AreAmong (last_of kept).members next.members → ⊥) → more ≡ kept ++ next ∷ [] →
    (done : List Section) → AreThinned done old → AreThinned (done ++ next ∷ []) more
put_last old next kept more p n e done t = thinned_pushed done next kept more (p.gives_way done t) n e

pub put_rise : (old : List Section) (next : Section) (kept more : List Section) → IsPutting old next kept →
    Rises next.members → more ≡ kept ++ next ∷ [] → All (λ (x : Section). Rises x.members) more
put_rise old next kept more p r e = rw e (All-push (λ (x : Section). Rises x.members) kept next p.rise r)

-- the list with one more
pub more_is : (old new : List Declared) (x : Declared) (given : List ℕ) → new ≡ old ++ x ∷ [] →
    x.members.items ≡ given → map section_of new ≡ map section_of old ++ section_with x.start given ∷ []
more_is old new x given e g =
    ap (map section_of) e ∙ (map-append section_of old (x ∷ [])
    ∙ ap (λ ms. map section_of old ++ section_with x.start ms ∷ []) g)

-- what a test of the last one tells, of the list that was lent
pub told : (xs lent : List Declared) (given members : List ℕ) (P : List ℕ → List ℕ → Type 0) (b : Bool) →
    (IsTrue b ↔ ((0 < length lent) × P given (last_of (map section_of lent)).members)) → lent ≡ xs → given ≡ members →
    IsTrue b ↔ ((0 < length (map section_of xs)) × P members (last_of (map section_of xs)).members)
told xs lent given members P b h e g =
    let k = length-map xs section_of in (
      (λ t. let r = rw (e, g) at (h.0 t) in (let z = r.0 in omega arith, r.1)),
      (λ r. h.1 (rw (e, g) (let z = r.0 in omega arith, r.1))),
    )

pub yes : {P : Type 0} (b : Bool) → (IsTrue b ↔ P) → b ≡ true → P
yes b h e = h.0 (rw e refl)

pub no : {P : Type 0} (b : Bool) → (IsTrue b ↔ P) → b ≡ false → P → ⊥
no b h e p = let k = h.1 p in absurd cc

-- the list without its last one
pub fewer_is : (old new : List Declared) (n : ℕ) → new ≡ take (n - 1) old → n ≡ length old →
    map section_of new ≡ take (length (map section_of old) - 1) (map section_of old)
fewer_is old new n e f =
    let k : n - 1 ≡ length (map section_of old) - 1 = (let m = length-map old section_of in omega arith) in
    ap (map section_of) e ∙ (sym (take-map section_of (n - 1) old) ∙ ap (λ k. take k (map section_of old)) k)
