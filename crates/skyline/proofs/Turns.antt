-- What holds of a buffer that is pushed, and of one that is popped, from what a contract sees.
use Rattle.std.proofs.Common.{◌≡◌, ℕ, ◌-◌, ◌<◌, Bool, List, length, reverse, slice_index, slice_index_or, take, ◌∙◌, arith}
use Rattle.std.proofs.lemmas.List.{get_or_default}
use Rattle.dsa_terms.specs.Buffers.{Instance}
use Rattle.dsa_terms.specs.Parts.{whole}
use Rattle.lifetime.specs.SectionList.{SectionList}
use Rattle.canonical_order.specs.Claims.{HasBuffer}
use Rattle.skyline.specs.Carried.{claims_of}
use Rattle.skyline.specs.Loads.{IsLoaded}
use Rattle.skyline.specs.Skies.{Sky, last_claim}
use Rattle.skyline.specs.Standing.{claim_after}
use Rattle.dsa_terms.specs.Claims.{IsIn}
use Rattle.skyline.proofs.Carrying.{member_of}
use Rattle.skyline.proofs.Lefts.{LowFacts, depth_of_view, left_over, low_facts_of}
use Rattle.skyline.proofs.LoadSteps.{BackFacts, LoadFacts, pop_facts, push_facts}
use Rattle.skyline.proofs.Steps.{LastFacts, has_room, last_facts}

-- the buffer that is pushed
pub record PushFacts (I : Instance) (S : SectionList) (members : List ℕ) (n : ℕ) (stack ledges hs ls : List ℕ)
    (b : ℕ) : Type 0 where
  pub left : HasBuffer (claim_after I (whole I members) (reverse (take n stack))) b
  pub room : n < length members
  pub member : IsIn b members
  pub low : LowFacts I S members n stack ledges hs b
  pub loads : LoadFacts I S ls b

pub push_of_view : (I : Instance) (S : SectionList) (members : List ℕ) (n : ℕ) (stack ledges hs : List ℕ)
    (rows : List (List ℕ)) (flags : List Bool) (ls : List ℕ) (k : Sky) (b : ℕ) →
    record { instance = I; sections = S; claims = claims_of I (whole I members) (reverse (take n stack)) } ≡ k →
    IsLoaded I S members n stack ledges hs rows flags ls → HasBuffer (last_claim k.claims) b →
    PushFacts I S members n stack ledges hs ls b
push_of_view I S members n stack ledges hs rows flags ls k b e h i = record {
  left = left;
  room = has_room I S members n stack ledges hs rows flags b h.sky left;
  member = member_of I members (reverse (take n stack)) b left;
  low = low_facts_of I S members n stack ledges hs rows flags k b e h.sky i;
  loads = push_facts I S members n stack ledges hs rows flags ls b h left;
}
  where
    left : HasBuffer (claim_after I (whole I members) (reverse (take n stack))) b
    left = left_over I S (whole I members) (reverse (take n stack)) k b e i

-- the buffer that is popped
pub record PopFacts (I : Instance) (S : SectionList) (n : ℕ) (stack hs : List ℕ) (rows : List (List ℕ))
    (flags : List Bool) (ls : List ℕ) (b : ℕ) : Type 0 where
  pub above : 0 < n
  pub is : b ≡ slice_index stack (n - 1)
  pub last : LastFacts I S hs rows flags b
  pub loads : BackFacts I S ls b

pub above_of_view : (I : Instance) (S : SectionList) (members : List ℕ) (n : ℕ) (stack ledges hs : List ℕ)
    (rows : List (List ℕ)) (flags : List Bool) (ls : List ℕ) (k : Sky) →
    record { instance = I; sections = S; claims = claims_of I (whole I members) (reverse (take n stack)) } ≡ k →
    IsLoaded I S members n stack ledges hs rows flags ls → 1 < length k.claims → 0 < n
above_of_view I S members n stack ledges hs rows flags ls k e h deep =
    let d = depth_of_view I S members n stack ledges hs rows flags k e h.sky in omega arith

pub pop_of_view : (I : Instance) (S : SectionList) (members : List ℕ) (n : ℕ) (stack ledges hs : List ℕ)
    (rows : List (List ℕ)) (flags : List Bool) (ls : List ℕ) (k : Sky) (b : ℕ) →
    record { instance = I; sections = S; claims = claims_of I (whole I members) (reverse (take n stack)) } ≡ k →
    IsLoaded I S members n stack ledges hs rows flags ls → 1 < length k.claims →
    b ≡ slice_index_or stack (n - 1) b → PopFacts I S n stack hs rows flags ls b
pop_of_view I S members n stack ledges hs rows flags ls k b e h deep at = record {
  above = above;
  is = is;
  last = last_facts I S members n stack ledges hs rows flags b h.sky above is;
  loads = pop_facts I S members n stack ledges hs rows flags ls b h above is;
}
  where
    above : 0 < n
    above = above_of_view I S members n stack ledges hs rows flags ls k e h deep

    is : b ≡ slice_index stack (n - 1)
    is = at ∙ get_or_default stack (n - 1) b 0 (omega (arith, above, h.sky.depth, h.sky.stack_room))
