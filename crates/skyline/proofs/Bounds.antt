-- The bounds of a skyline's claims are low, and its last claim stands for itself.
use Rattle.std.proofs.Common.{◌≡◌, ℕ, ◌<◌, ◌≤◌, ◌^◌, inl, inr, List, [], ◌∷◌, length, take, reverse, sym, ap, subst, arith, Bool}
use Rattle.std.specs.List.{All}
use Rattle.dsa_terms.specs.Buffers.{Instance, buffer}
use Rattle.dsa_terms.specs.Claims.{Claim, Entry, IsIn, Rises, child}
use Rattle.dsa_terms.specs.Parts.{whole}
use Rattle.dsa_terms.proofs.Lists.{from_append}
use Rattle.dsa_terms.proofs.Moments.{sound}
use Rattle.dsa_terms.proofs.Numbers.{next_is_below}
use Rattle.dsa_model.proofs.Instances.{sound_instance}
use Rattle.dsa_search_laws.proofs.Placing.{in_buffers, up_at_or_above}
use Rattle.dsa_search_laws.proofs.Members.{buffers_of-whole}
use Rattle.dsa_model.specs.Buffer.{IsBuffer, buffer_limit}
use Rattle.lifetime.specs.SectionList.{AreSectionsOf, SectionList}
use Rattle.canonical_order.specs.Claims.{HasBuffer, IsBoundedBy, entry_of}
use Rattle.canonical_order.specs.Stands.{Stands}
use Rattle.skyline.specs.Carried.{claims_of}
use Rattle.skyline.specs.Skies.{AreLow, Sky, last_claim}
use Rattle.skyline.specs.Skylines.{IsSkyline}
use Rattle.skyline.specs.Standing.{IsStack, claim_after, raised}
use Rattle.skyline.proofs.Carrying.{alignment_limited, has_place, last_of_claims, member_in_range, raised_limited, rises_after, stack_in_range}
use Rattle.skyline.proofs.SectionFacts.{members_few}
use Rattle.skyline.proofs.Standing.{has_lowests, up_is_raised}

-- a bound is at most the up, which is the rounded height to which the standing buffers raise
pub bound_low : (I : Instance) (members bs : List ℕ) (e : Entry) → All IsBuffer I → length I ≤ buffer_limit →
    All (λ b. b < length I) members → Rises members → IsStack I (whole I members) bs →
    IsIn e (claim_after I (whole I members) bs) → e.1 < 2 ^ 54
bound_low I members bs e buffers count range rise stack i =
    let s = sound_instance I buffers in
    let w = has_lowests I members in
    let b = in_buffers (claim_after I (whole I members) bs) e i in
    let lt = member_in_range I members bs e.0 range b in
    let u = up_is_raised I (whole I members) bs e s w i in
    let f = up_at_or_above I e s in
    let n = next_is_below (raised I (whole I members) bs e.0) (buffer I e.0).alignment (sound I e.0 s).1 in
    let a = alignment_limited I e.0 buffers lt in
    let r = raised_limited I (whole I members) bs e.0 s buffers w stack (stack_in_range I members bs range stack) lt in
    let p = has_place I members bs e.0 rise stack b in
    let q = members_few I members range rise count in
    omega arith

all_low : (I : Instance) (members bs : List ℕ) → All IsBuffer I → length I ≤ buffer_limit →
    All (λ b. b < length I) members →
    Rises members → IsStack I (whole I members) bs → AreLow (claims_of I (whole I members) bs)
all_low I members [] buffers count range rise stack l e (inl q) i =
    bound_low I members [] e buffers count range rise stack (subst (λ (l : Claim). IsIn e l) q i)
all_low I members [] buffers count range rise stack l e (inr j) i = absurd j
all_low I members (b ∷ bs) buffers count range rise stack l e j i =
    elim (from_append (claims_of I (whole I members) bs) (claim_after I (whole I members) (b ∷ bs) ∷ []) l j) [
      | inl k ↦ all_low I members bs buffers count range rise stack.1 l e k i
      | inr k ↦ elim k [
        | inl q ↦ bound_low I members (b ∷ bs) e buffers count range rise stack (subst (λ (l : Claim). IsIn e l) q i)
        | inr k ↦ absurd k
      ]
    ]

-- as a contract sees it
pub low_of_view : (I : Instance) (S : SectionList) (members : List ℕ) (n : ℕ) (stack ledges hs : List ℕ)
    (rows : List (List ℕ)) (flags : List Bool) (k : Sky) →
    record { instance = I; sections = S; claims = claims_of I (whole I members) (reverse (take n stack)) } ≡ k →
    IsSkyline I S members n stack ledges hs rows flags → AreLow k.claims
low_of_view I S members n stack ledges hs rows flags k e h =
    subst AreLow (ap (λ (k : Sky). k.claims) e)
    (all_low I members (reverse (take n stack)) h.carries.buffers h.carries.count h.carries.in_range h.carries.rise
    h.carries.stands)

-- and so are those of each child of the last claim
pub children_of_view : (I : Instance) (S : SectionList) (members : List ℕ) (n : ℕ) (stack ledges hs : List ℕ)
    (rows : List (List ℕ)) (flags : List Bool) (k : Sky) (b : ℕ) →
    record { instance = I; sections = S; claims = claims_of I (whole I members) (reverse (take n stack)) } ≡ k →
    IsSkyline I S members n stack ledges hs rows flags → HasBuffer (last_claim k.claims) b →
    IsBoundedBy (2 ^ 54) (child k.instance (last_claim k.claims) (entry_of (last_claim k.claims) b))
children_of_view I S members n stack ledges hs rows flags k b e h =
    subst (λ (k : Sky). HasBuffer (last_claim k.claims) b →
    IsBoundedBy (2 ^ 54) (child k.instance (last_claim k.claims) (entry_of (last_claim k.claims) b))) e
    (subst (λ (l : Claim). HasBuffer l b → IsBoundedBy (2 ^ 54) (child I l (entry_of l b)))
    (sym (last_of_claims I (whole I members) bs)) (λ has e i.
    let k = bound_low I members (b ∷ bs) e h.carries.buffers h.carries.count h.carries.in_range h.carries.rise
    (has, h.carries.stands) i in
    omega (arith, k)))
  where
    bs : List ℕ
    bs = reverse (take n stack)

pub belongs_of_view : (I : Instance) (S : SectionList) (members : List ℕ) (n : ℕ) (stack ledges hs : List ℕ)
    (rows : List (List ℕ)) (flags : List Bool) (k : Sky) →
    record { instance = I; sections = S; claims = claims_of I (whole I members) (reverse (take n stack)) } ≡ k →
    IsSkyline I S members n stack ledges hs rows flags → AreSectionsOf k.instance k.sections
belongs_of_view I S members n stack ledges hs rows flags k e h =
    subst (λ (k : Sky). AreSectionsOf k.instance k.sections) e h.carries.belongs

pub stands_of_view : (I : Instance) (S : SectionList) (members : List ℕ) (n : ℕ) (stack ledges hs : List ℕ)
    (rows : List (List ℕ)) (flags : List Bool) (k : Sky) →
    record { instance = I; sections = S; claims = claims_of I (whole I members) (reverse (take n stack)) } ≡ k →
    IsSkyline I S members n stack ledges hs rows flags → Stands k.instance (last_claim k.claims)
stands_of_view I S members n stack ledges hs rows flags k e h =
    subst (λ (k : Sky). Stands k.instance (last_claim k.claims)) e
    (subst (Stands I) (sym (last_of_claims I (whole I members) (reverse (take n stack)))) (record {
      claim = record {
        rises = rises_after I (whole I members) (reverse (take n stack))
            (subst Rises (sym (buffers_of-whole I members)) h.carries.rise);
        in_range = λ e i. member_in_range I members (reverse (take n stack)) e.0 h.carries.in_range
            (in_buffers (claim_after I (whole I members) (reverse (take n stack))) e i);
      };
      bounds = λ e i.
          let b = bound_low I members (reverse (take n stack)) e h.carries.buffers h.carries.count h.carries.in_range
          h.carries.rise h.carries.stands i in
          omega arith;
      buffers = h.carries.buffers;
      count = h.carries.count;
    }))
