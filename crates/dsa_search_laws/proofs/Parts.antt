-- What places each part is a layout of all; two buffers are in one part exactly where no cut separates them.
use Rattle.std.proofs.Common.{◌≡◌, ℕ, ◌<◌, ◌≢◌, ◌⊎◌, ◌↔◌, inl, inr, Bool, true, false, cond, ◌==◌, List, [], ◌∷◌, ◌++◌, map, length, Option, Some, None, sym, refl, ◌∙◌, subst, arith, slice_index}
use Rattle.std.specs.List.{flat_map, AllZip}
use Rattle.std.proofs.lemmas.Bool.Decides.{nat_tests}
use Rattle.std.proofs.lemmas.List.FromFn.{get_or-map-range_with_len, length-map-range_with_len}
use Rattle.dsa_terms.specs.Buffers.{Instance, buffer, IsInstance}
use Rattle.dsa_terms.specs.Layouts.{IsLayout, IsInfeasible}
use Rattle.dsa_terms.specs.Claims.{Entry, IsIn, Rises, buffers_of, IsClaim, number_of, Places, IsPlacement, IsRefuted}
use Rattle.dsa_terms.specs.Search.{first}
use Rattle.dsa_terms.specs.Parts.{are_uncut, parts, whole, join, first_of_all, offsets_of, offsets_found, searched}
use Rattle.dsa_terms.proofs.Lists.{into_map, from_map, none_or_some}
use Rattle.dsa_search_laws.specs.PartsByTime.{start_of, members, IsUncut}
use Rattle.dsa_search_laws.specs.Together.{AreTogether}
use Rattle.dsa_search_laws.proofs.Claims.{not_placed, places_like}
use Rattle.dsa_search_laws.proofs.First.{first_exactly, first_places}
use Rattle.dsa_search_laws.proofs.Logs.{layout_places}
pub use Rattle.dsa_search_laws.proofs.Cuts.{cut_between, no_cut_between, sharing_is_one_part}
pub use Rattle.dsa_search_laws.proofs.Uncut.{part_exactly, same_part_uncut, starts_uncut, uncut_exactly}
pub use Rattle.dsa_search_laws.proofs.Uncut.{uncut_same_part, uncut_starts}
pub use Rattle.dsa_search_laws.proofs.ByTime.{begins, by_begins, part_is_in, part_is_members, rises-begins}
pub use Rattle.dsa_search_laws.proofs.Members.{in_members, member_of}
pub use Rattle.dsa_search_laws.proofs.Members.{buffers_of-whole, in_whole, claim_of_part, whole_is_whole}

-- ---- offsets that place each part are a layout
in_own_part : (I : Instance) (b : ℕ) → b < length I →
    IsIn (b, (buffer I b).lowest) (whole I (members I (start_of I b)))
in_own_part I b lt =
    into_map (λ (b : ℕ). let f : Entry = (b, (buffer I b).lowest) in f) (members I (start_of I b)) b (member_of I b lt)

pub offset_at : (I : Instance) (seats : List Entry) (b : ℕ) → b < length I →
    slice_index (offsets_of I seats) b ≡ number_of seats b
offset_at I seats b lt = get_or-map-range_with_len (number_of seats) 0 (length I) b b 0 lt (omega arith)

pub parts_are_layout : (I : Instance) (C : ℕ) (seats : List Entry) →
    ((p : List ℕ) → IsIn p (parts I) → Places I C (whole I p) (number_of seats)) → IsLayout I C (offsets_of I seats)
parts_are_layout I C seats h = record {
  count = length-map-range_with_len (number_of seats) 0 (length I);
  aligned = λ b lt. rw (offset_at I seats b lt) ((own b lt).aligned (b, (buffer I b).lowest) (in_own_part I b lt));
  above = λ b lt. rw (offset_at I seats b lt) ((own b lt).above (b, (buffer I b).lowest) (in_own_part I b lt));
  within = λ b lt. rw (offset_at I seats b lt) ((own b lt).within (b, (buffer I b).lowest) (in_own_part I b lt));
  apart = λ b c t lb lc ne p q. rw (offset_at I seats b lb, offset_at I seats c lc)
      (let same = sharing_is_one_part I b c t lb lc p q in
      (own b lb).apart (b, (buffer I b).lowest) (c, (buffer I c).lowest) t (in_own_part I b lb)
      (subst (λ (t : ℕ). IsIn (c, (buffer I c).lowest) (whole I (members I t))) (sym same) (in_own_part I c lc)) ne p
      q);
}
  where
    own : (b : ℕ) → b < length I → Places I C (whole I (members I (start_of I b))) (number_of seats)
    own b lt = h (members I (start_of I b)) (part_is_in I b lt)

-- a part that is refuted
pub part_refutes : (I : Instance) (C : ℕ) (p : List ℕ) → IsIn p (parts I) → IsRefuted I C (whole I p) → IsInfeasible I C
part_refutes I C p i r offsets h = not_placed I C (whole I p) (slice_index offsets) r
    (layout_places I C (whole I p) offsets c (λ e j. let k = (in_whole I p e j).1 in
    let f = h.above e.0 (c.in_range e j) in omega arith) h)
  where
    c : IsClaim I (whole I p)
    c = claim_of_part I p i

-- ---- the search of all parts
pub number_of-left : (xs ys : List Entry) (b : ℕ) → IsIn b (buffers_of xs) → number_of (xs ++ ys) b ≡ number_of xs b
number_of-left [] ys b i = absurd i
number_of-left (x ∷ xs) ys b i = go (number_of-left xs ys b) (x.0 == b) refl i
  where
    go : (IsIn b (buffers_of xs) → number_of (xs ++ ys) b ≡ number_of xs b) → (t : Bool) → (x.0 == b) ≡ t →
        IsIn b (x.0 ∷ buffers_of xs) → cond t x.1 (number_of (xs ++ ys) b) ≡ cond t x.1 (number_of xs b)
    go ih true q j = refl
    go ih false q (inl j) = absurd (let h : x.0 ≢ b = (grind (arith, nat_tests)) in h (sym j))
    go ih false q (inr j) = ih j

pub number_of-right : (xs ys : List Entry) (b : ℕ) → (IsIn b (buffers_of xs) → ⊥) →
    number_of (xs ++ ys) b ≡ number_of ys b
number_of-right [] ys b n = refl
number_of-right (x ∷ xs) ys b n = go (number_of-right xs ys b (λ i. n (inr i))) (x.0 == b) refl
  where
    go : number_of (xs ++ ys) b ≡ number_of ys b → (t : Bool) → (x.0 == b) ≡ t →
        cond t x.1 (number_of (xs ++ ys) b) ≡ number_of ys b
    go ih true q = absurd (n (inl (let h : x.0 ≡ b = (grind (arith, nat_tests)) in sym h)))
    go ih false q = ih

-- no two of the lists have a number in common
abbrev pub AllApart : List (List ℕ) → Type 0
AllApart [] = Unit {0}
AllApart (p ∷ ps) = ((q : List ℕ) → IsIn q ps → (b : ℕ) → IsIn b p → IsIn b q → ⊥) × AllApart ps

pub join_some : (a b : Option (List Entry)) (s : List Entry) → join a b ≡ Some s →
    (x : List Entry) × (y : List Entry) × (a ≡ Some x) × (b ≡ Some y) × (x ++ y ≡ s)
join_some None b s h = absurd cc
join_some (Some x) None s h = absurd cc
join_some (Some x) (Some y) s h = (x, y, refl, refl, cc)

join_none : (a b : Option (List Entry)) → join a b ≡ None → (a ≡ None) ⊎ (b ≡ None)
join_none None b h = inl refl
join_none (Some x) None h = inr refl
join_none (Some x) (Some y) h = absurd cc

all_placed : (I : Instance) (C : ℕ) (ps : List (List ℕ)) (seats : List Entry) → IsInstance I →
    ((p : List ℕ) → IsIn p ps → IsClaim I (whole I p)) → AllApart ps → first_of_all I C ps ≡ Some seats →
    (p : List ℕ) → IsIn p ps → Places I C (whole I p) (number_of seats)
all_placed I C [] seats s c a h p i = absurd i
all_placed I C (q ∷ qs) seats s c a h p i =
    go (λ y e. all_placed I C qs y s (λ p j. c p (inr j)) a.1 e p)
    (join_some (first I C (whole I q)) (first_of_all I C qs) seats h) i
  where
    go : ((y : List Entry) → first_of_all I C qs ≡ Some y → IsIn p qs → Places I C (whole I p) (number_of y)) →
        (x : List Entry) × (y : List Entry) × (first I C (whole I q) ≡ Some x) × (first_of_all I C qs ≡ Some y)
        × (x ++ y ≡ seats) → IsIn p (q ∷ qs) → Places I C (whole I p) (number_of seats)
    go ih r j = elim j [ inl k ↦ here k | inr k ↦ later k ]
      where
        placed : IsPlacement I C (whole I q) r.0
        placed = first_places I C (whole I q) r.0 s (c q (inl refl)) r.2

        same : buffers_of r.0 ≡ q
        same = placed.same_buffers ∙ buffers_of-whole I q

        here : p ≡ q → Places I C (whole I p) (number_of seats)
        here k = rw (k, ← r.4) (places_like I C (whole I q) (number_of r.0) (number_of (r.0 ++ r.1))
            (λ e m. number_of-left r.0 r.1 e.0 (rw same ((in_whole I q e m).0))) placed.places)

        later : IsIn p qs → Places I C (whole I p) (number_of seats)
        later k = rw (← r.4) (places_like I C (whole I p) (number_of r.1) (number_of (r.0 ++ r.1))
            (λ e m. number_of-right r.0 r.1 e.0 (λ z. a.0 p k e.0 (rw same at z) (in_whole I p e m).0)) (ih r.1 r.3 k))

some_none : (I : Instance) (C : ℕ) (ps : List (List ℕ)) → first_of_all I C ps ≡ None →
    (p : List ℕ) × IsIn p ps × (first I C (whole I p) ≡ None)
some_none I C [] h = absurd cc
some_none I C (p ∷ ps) h = go (some_none I C ps) (join_none (first I C (whole I p)) (first_of_all I C ps) h)
  where
    go : (first_of_all I C ps ≡ None → (q : List ℕ) × IsIn q ps × (first I C (whole I q) ≡ None)) →
        (first I C (whole I p) ≡ None) ⊎ (first_of_all I C ps ≡ None) →
        (q : List ℕ) × IsIn q (p ∷ ps) × (first I C (whole I q) ≡ None)
    go ih (inl e) = (p, inl refl, e)
    go ih (inr e) = let r = ih e in (r.0, inr r.1, r.2)

apart_members : (I : Instance) (ts : List ℕ) → Rises ts → AllApart (map (members I) ts)
apart_members I [] r = tt
apart_members I (t ∷ ts) r = ((λ q i b j k. apart q i b j k), apart_members I ts r.1)
  where
    apart : (q : List ℕ) → IsIn q (map (members I) ts) → (b : ℕ) → IsIn b (members I t) → IsIn b q → ⊥
    apart q i b j k =
        let u = from_map (members I) ts q i in
        let l = r.0 u.0 u.1 in
        let m = (in_members I t b j).1 in
        let n = (in_members I u.0 b (subst (λ (q : List ℕ). IsIn b q) u.2 k)).1 in
        omega arith

pub parts_apart : (I : Instance) → AllApart (parts I)
parts_apart I = rw (by_begins I) (apart_members I (begins I) (rises-begins I))

pub found_some : (I : Instance) (o : Option (List Entry)) (offsets : List ℕ) → offsets_found I o ≡ Some offsets →
    (seats : List Entry) × (o ≡ Some seats) × (offsets_of I seats ≡ offsets)
found_some I None offsets h = absurd cc
found_some I (Some seats) offsets h = (seats, refl, cc)

found_none : (I : Instance) (o : Option (List Entry)) → offsets_found I o ≡ None → o ≡ None
found_none I None h = refl
found_none I (Some seats) h = absurd cc

pub searched_is_layout : (I : Instance) (C : ℕ) (offsets : List ℕ) → IsInstance I → searched I C ≡ Some offsets →
    IsLayout I C offsets
unfolding searched
searched_is_layout I C offsets s h =
    let r = found_some I (first_of_all I C (parts I)) offsets h in
    rw (← r.2) (parts_are_layout I C r.0
    (all_placed I C (parts I) r.0 s (claim_of_part I) (parts_apart I) r.1))

pub searched_none : (I : Instance) (C : ℕ) → IsInstance I → searched I C ≡ None → IsInfeasible I C
unfolding searched
searched_none I C s h =
    let r = some_none I C (parts I) (found_none I (first_of_all I C (parts I)) h) in
    part_refutes I C r.0 r.1 ((first_exactly I C (whole I r.0) s (claim_of_part I r.0 r.1)).0 r.2)

pub searched_exactly : (I : Instance) (C : ℕ) → IsInstance I → (searched I C ≡ None) ↔ IsInfeasible I C
searched_exactly I C s = (
  searched_none I C s,
  λ h. elim (none_or_some (searched I C)) [ inl q ↦ q | inr q ↦ absurd (h q.0 (searched_is_layout I C q.0 s q.1)) ],
)

-- ---- in one part exactly where no cut separates
together : (I : Instance) (b c : ℕ) → b < length I → c < length I → start_of I b ≡ start_of I c → AreTogether I b c
together I b c lb lc same = record {
  part = members I (start_of I b);
  is_part = part_is_in I b lb;
  has_first = member_of I b lb;
  has_second = subst (λ (t : ℕ). IsIn c (members I t)) (sym same) (member_of I c lc);
}

of_together : (I : Instance) (b c : ℕ) → AreTogether I b c → start_of I b ≡ start_of I c
of_together I b c h =
    let r = part_is_members I h.part h.is_part in
    let x = (in_members I r.0 b (rw r.1 at h.has_first)).1 in
    let y = (in_members I r.0 c (rw r.1 at h.has_second)).1 in
    x ∙ sym y

pub together_exactly : (I : Instance) (b c : ℕ) → IsInstance I → b < length I → c < length I →
    AreTogether I b c ↔ IsUncut I b c
together_exactly I b c s lb lc = (
  λ h. same_part_uncut I b c s lb lc (of_together I b c h),
  λ u. together I b c lb lc (uncut_same_part I b c lb lc u),
)

pub together_by_test : (I : Instance) (b c : ℕ) → b < length I → c < length I →
    AreTogether I b c ↔ (are_uncut I b c ≡ true)
together_by_test I b c lb lc = (
  λ h. starts_uncut I b c (of_together I b c h),
  λ u. together I b c lb lc (uncut_starts I b c u),
)

-- ---- placements of all parts, put together
pub put_together : (I : Instance) (C : ℕ) (ps : List (List ℕ)) (answers : List (List Entry)) →
    ((p : List ℕ) → IsIn p ps → IsClaim I (whole I p)) → AllApart ps →
    AllZip (λ p seats. IsPlacement I C (whole I p) seats) ps answers → (p : List ℕ) → IsIn p ps →
    Places I C (whole I p) (number_of (flat_map (λ seats. seats) answers))
put_together I C [] answers c a z p i = absurd i
put_together I C (q ∷ qs) [] c a z p i = absurd z
put_together I C (q ∷ qs) (x ∷ xs) c a z p i = go (put_together I C qs xs (λ p j. c p (inr j)) a.1 z.1 p) i
  where
    same : buffers_of x ≡ q
    same = z.0.same_buffers ∙ buffers_of-whole I q

    go : (IsIn p qs → Places I C (whole I p) (number_of (flat_map (λ seats. seats) xs))) → IsIn p (q ∷ qs) →
        Places I C (whole I p) (number_of (x ++ flat_map (λ seats. seats) xs))
    go ih (inl k) = rw k (places_like I C (whole I q) (number_of x) (number_of (x ++ flat_map (λ seats. seats) xs))
        (λ e m. number_of-left x (flat_map (λ seats. seats) xs) e.0 (rw same ((in_whole I q e m).0))) z.0.places)
    go ih (inr k) = places_like I C (whole I p) (number_of (flat_map (λ seats. seats) xs))
        (number_of (x ++ flat_map (λ seats. seats) xs))
        (λ e m. number_of-right x (flat_map (λ seats. seats) xs) e.0
        (λ y. a.0 p k e.0 (rw same at y) (in_whole I p e m).0)) (ih k)

pub all_put_together : (I : Instance) (C : ℕ) (answers : List (List Entry)) →
    AllZip (λ p seats. IsPlacement I C (whole I p) seats) (parts I) answers →
    IsLayout I C (offsets_of I (flat_map (λ seats. seats) answers))
all_put_together I C answers z = parts_are_layout I C (flat_map (λ seats. seats) answers)
    (put_together I C (parts I) answers (claim_of_part I) (parts_apart I) z)
