-- A skyline's fields after a push and after a pop.
use Rattle.std.proofs.Common.{Vec, Global, ◌≡◌, ◌+◌, ◌-◌, ◌<◌, ◌≤◌, ℕ, Bool, true, false, List, [], ◌∷◌, ◌++◌, length, map, take, reverse, slice_index, slice_index_or, slice_set, set, ap, sym, subst, ◌∙◌, arith}
use Rattle.std.specs.List.{All}
use Rattle.std.proofs.lemmas.List.{take_more_set, reverse-append, length-reverse, length-take-le, length-set}
use Rattle.std.proofs.lemmas.List.{get_or_default, length-map}
use Rattle.std.proofs.Math.ListN.{get_or-map}
use Rattle.lifetime.specs.SectionList.{count_of, sections_of, SectionList}
use Rattle.dsa_terms.specs.Buffers.{Instance, buffer}
use Rattle.dsa_terms.specs.Claims.{Claim, child}
use Rattle.dsa_terms.specs.Parts.{whole}
use Rattle.dsa_terms.proofs.Places.{in_at}
use Rattle.dsa_model.specs.Lists.{items_of}
use Rattle.skyline.specs.Standing.{claim_after, offset_after}
use Rattle.skyline.specs.Places.{set_each, at_places}
use Rattle.skyline.specs.Carried.{claims_of, Carries}
use Rattle.skyline.specs.Skylines.{IsSkyline}
use Rattle.skyline.proofs.Carrying.{member_of, member_in_range, has_place, pushed, popped, last_of_claims}
use Rattle.skyline.proofs.Lefts.{reverse_take_more}
use Rattle.skyline.proofs.Tops.{length-heights_after}
use Rattle.canonical_order.specs.Claims.{entry_of, HasBuffer}
use Rattle.skyline.specs.Skies.{Sky, last_claim}
use Rattle.skyline.proofs.SectionFacts.{section_in_range}

pub reverse_set : (xs : List ℕ) (n y : ℕ) → n < length xs → reverse (take (n + 1) (set xs n y)) ≡ y ∷ reverse
    (take n xs)
reverse_set xs n y lt = ap reverse (take_more_set xs n y lt) ∙ reverse-append (take n xs) (y ∷ [])

reversed_count : (xs : List ℕ) (n : ℕ) → n ≤ length xs → length (reverse (take n xs)) ≡ n
reversed_count xs n le = length-reverse (take n xs) ∙ length-take-le n xs le

-- a buffer that is left has a place
pub has_room : (I : Instance) (S : SectionList) (members : List ℕ) (n : ℕ) (stack ledges hs : List ℕ)
    (rows : List (List ℕ)) (flags : List Bool) (b : ℕ) →
    IsSkyline I S members n stack ledges hs rows flags →
    HasBuffer (claim_after I (whole I members) (reverse (take n stack))) b → n < length members
has_room I S members n stack ledges hs rows flags b h i =
    let k = has_place I members (reverse (take n stack)) b h.carries.rise h.carries.stands i in
    let c = reversed_count stack n (omega (arith, h.depth, h.stack_room)) in omega arith

pub pushed_sky : (I : Instance) (S : SectionList) (members : List ℕ) (n : ℕ) (stack ledges hs : List ℕ)
    (rows : List (List ℕ)) (flags : List Bool) (b y : ℕ) (hs' : List ℕ) (row : List ℕ) →
    IsSkyline I S members n stack ledges hs rows flags →
    HasBuffer (claim_after I (whole I members) (reverse (take n stack))) b →
    y ≡ offset_after I (whole I members) (reverse (take n stack)) b → hs' ≡ set_each (λ _. y + (buffer I b).size)
    (sections_of S b) hs → row ≡ at_places hs (sections_of S b) →
    IsSkyline I S members (n + 1) (slice_set stack n b) (slice_set ledges n y) hs' (slice_set rows b row)
    (slice_set flags b false)
pushed_sky I S members n stack ledges hs rows flags b y hs' row h i at heights saved = record {
  depth = omega (arith, room);
  stack_room = length-set stack n b ∙ h.stack_room;
  ledge_room = length-set ledges n y ∙ h.ledge_room;
  carries =
      subst (λ (x : List ℕ). Carries I S members x (reverse (take (n + 1) (set ledges n y))) hs' (set rows b row)
      (set flags b false)) (sym (reverse_set stack n b (omega (arith, room, h.stack_room))))
      (subst (λ (x : List ℕ). Carries I S members (b ∷ reverse (take n stack)) x hs' (set rows b row)
      (set flags b false)) (sym (reverse_set ledges n y (omega (arith, room, h.ledge_room))))
      (pushed I S members (reverse (take n stack)) (reverse (take n ledges)) hs rows flags b y hs' row h.carries i at
      heights saved));
}
  where
    room : n < length members
    room = has_room I S members n stack ledges hs rows flags b h i

-- the stack with its last one in front
pub reverse_last : (xs : List ℕ) (n : ℕ) → 0 < n → n ≤ length xs → reverse (take n xs) ≡ slice_index xs
    (n - 1) ∷ reverse (take (n - 1) xs)
reverse_last xs n pos le = ap (λ m. reverse (take m xs)) (let e : n ≡ n - 1 + 1 = omega arith in e)
    ∙ reverse_take_more xs (n - 1) (omega arith)

-- what holds of the last one that stands
pub last_stands : (I : Instance) (S : SectionList) (members : List ℕ) (n : ℕ) (stack ledges hs : List ℕ)
    (rows : List (List ℕ)) (flags : List Bool) →
    IsSkyline I S members n stack ledges hs rows flags → 0 < n →
    Carries I S members (slice_index stack (n - 1) ∷ reverse (take (n - 1) stack))
    (slice_index ledges (n - 1) ∷ reverse (take (n - 1) ledges)) hs rows flags
last_stands I S members n stack ledges hs rows flags h pos =
    subst (λ (x : List ℕ). Carries I S members x (slice_index ledges (n - 1) ∷ reverse (take (n - 1) ledges)) hs rows
    flags) (reverse_last stack n pos (omega (arith, h.depth, h.stack_room)))
    (subst (λ (x : List ℕ). Carries I S members (reverse (take n stack)) x hs rows flags)
    (reverse_last ledges n pos (omega (arith, h.depth, h.ledge_room))) h.carries)

pub popped_sky : (I : Instance) (S : SectionList) (members : List ℕ) (n : ℕ) (stack ledges hs : List ℕ)
    (rows : List (List ℕ)) (flags : List Bool) (hs' : List ℕ) →
    IsSkyline I S members n stack ledges hs rows flags → 0 < n →
    ((kept : List ℕ) → slice_index_or rows (slice_index stack (n - 1)) [] ≡ at_places kept
    (sections_of S (slice_index stack (n - 1))) →
    hs' ≡ set_each (slice_index kept) (sections_of S (slice_index stack (n - 1))) hs) →
    IsSkyline I S members (n - 1) stack ledges hs' rows (slice_set flags (slice_index stack (n - 1)) true)
popped_sky I S members n stack ledges hs rows flags hs' h pos back = record {
  depth = let k = h.depth in omega arith;
  stack_room = h.stack_room;
  ledge_room = h.ledge_room;
  carries = popped I S members (reverse (take (n - 1) stack)) (reverse (take (n - 1) ledges)) hs rows flags
      (slice_index stack (n - 1)) (slice_index ledges (n - 1)) hs'
      (last_stands I S members n stack ledges hs rows flags h pos) back;
}

-- ---- the claims
pub pushed_claims : (I : Instance) (S : SectionList) (members : List ℕ) (n : ℕ) (stack : List ℕ) (k : Sky) (b : ℕ) →
    record { instance = I; sections = S; claims = claims_of I (whole I members) (reverse (take n stack)) } ≡ k →
    n < length stack →
    claims_of I (whole I members) (reverse (take (n + 1) (slice_set stack n b))) ≡ k.claims ++ child k.instance
    (last_claim k.claims) (entry_of (last_claim k.claims) b) ∷ []
pushed_claims I S members n stack k b e lt =
    ap (claims_of I (whole I members)) (reverse_set stack n b lt)
    ∙ ap (λ (l : Claim). claims_of I (whole I members) (reverse (take n stack)) ++ child I l (entry_of l b) ∷ [])
    (sym (last_of_claims I (whole I members) (reverse (take n stack))))
    ∙ ap (λ (x : Sky). x.claims ++ child x.instance (last_claim x.claims) (entry_of (last_claim x.claims) b) ∷ []) e

pub popped_claims : (I : Instance) (S : SectionList) (members : List ℕ) (n : ℕ) (stack : List ℕ) (k : Sky) →
    record { instance = I; sections = S; claims = claims_of I (whole I members) (reverse (take n stack)) } ≡ k → 0 < n →
    n ≤ length stack →
    k.claims ≡ claims_of I (whole I members) (reverse (take (n - 1) stack)) ++ last_claim k.claims ∷ []
popped_claims I S members n stack k e pos le =
    ap (λ (x : Sky). x.claims) (sym e) ∙ ap (claims_of I (whole I members)) (reverse_last stack n pos le)
    ∙ ap (λ l. claims_of I (whole I members) (reverse (take (n - 1) stack)) ++ l ∷ [])
    (ap (claim_after I (whole I members)) (sym (reverse_last stack n pos le))
    ∙ sym (last_of_claims I (whole I members) (reverse (take n stack))) ∙ ap (λ (x : Sky). last_claim x.claims) e)

-- the row of a buffer
pub row_is : (saved : List (Vec ℕ Global)) (b : ℕ) (v : Vec ℕ Global) → b < length saved →
    v ≡ slice_index_or saved b v → slice_index_or (map items_of saved) b [] ≡ v.items
row_is saved b v lt e =
    get_or_default (map items_of saved) b [] (items_of v) (omega (arith, length-map saved items_of, lt))
    ∙ get_or-map items_of saved b v ∙ ap items_of (sym e)

-- what the last one that stands is
pub record LastFacts (I : Instance) (S : SectionList) (hs : List ℕ) (rows : List (List ℕ)) (flags : List Bool)
    (b : ℕ) : Type 0 where
  pub in_sections : b < length S.of_buffers
  pub in_rows : b < length rows
  pub in_flags : b < length flags
  pub sections : All (λ s. s < length hs) (sections_of S b)
  pub room : length (slice_index_or rows b []) ≡ length (sections_of S b)

pub last_facts : (I : Instance) (S : SectionList) (members : List ℕ) (n : ℕ) (stack ledges hs : List ℕ)
    (rows : List (List ℕ)) (flags : List Bool) (b : ℕ) →
    IsSkyline I S members n stack ledges hs rows flags → 0 < n → b ≡ slice_index stack (n - 1) →
    LastFacts I S hs rows flags b
last_facts I S members n stack ledges hs rows flags b h pos e = subst (LastFacts I S hs rows flags) (sym e) (record {
  in_sections = let k = c.belongs.buffers in omega (arith, lt);
  in_rows = omega (arith, lt, c.saved_count);
  in_flags = omega (arith, lt, c.free_count);
  sections = λ k d l. let r = section_in_range I S c.belongs
      (slice_index_or (sections_of S (slice_index stack (n - 1))) k d) (slice_index stack (n - 1)) lt
      (in_at (sections_of S (slice_index stack (n - 1))) k d l) in omega (arith, r, hs_count);
  room = c.saved_room (slice_index stack (n - 1)) lt
      (member_of I members (reverse (take (n - 1) stack)) (slice_index stack (n - 1)) c.stands.0);
})
  where
    c : Carries I S members (slice_index stack (n - 1) ∷ reverse (take (n - 1) stack))
        (slice_index ledges (n - 1) ∷ reverse (take (n - 1) ledges)) hs rows flags
    c = last_stands I S members n stack ledges hs rows flags h pos

    lt : slice_index stack (n - 1) < length I
    lt = member_in_range I members (reverse (take (n - 1) stack)) (slice_index stack (n - 1)) c.in_range c.stands.0

    hs_count : length hs ≡ count_of S
    hs_count = ap length c.heights ∙ length-heights_after I S (whole I members) (slice_index stack (n - 1) ∷ reverse
        (take (n - 1) stack))
