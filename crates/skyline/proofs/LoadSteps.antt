-- A skyline's loads, at a push and at a pop.
use Rattle.std.proofs.Common.{◌≡◌, ◌+◌, ◌-◌, ◌<◌, ◌≤◌, ◌^◌, ℕ, Bool, List, ◌∷◌, length, take, reverse, slice_index, slice_index_or, slice_set, sym, subst, arith}
use Rattle.std.specs.List.{All}
use Rattle.dsa_terms.specs.Buffers.{Instance, buffer}
use Rattle.dsa_terms.specs.Claims.{IsIn, Rises, buffers_of, child}
use Rattle.dsa_terms.specs.Parts.{whole}
use Rattle.dsa_terms.proofs.Places.{in_at}
use Rattle.lifetime.specs.SectionList.{sections_of, AreSectionsOf, SectionList}
use Rattle.skyline.specs.Standing.{claim_after}
use Rattle.skyline.specs.Places.{set_each}
use Rattle.skyline.specs.Loads.{HasLoads, IsLoaded}
use Rattle.skyline.proofs.Carrying.{member_in_range}
use Rattle.skyline.proofs.Loads.{load_with, load_limited, lighter, heavier}
use Rattle.skyline.proofs.Steps.{reverse_set, reverse_last, last_stands}
use Rattle.canonical_order.specs.Claims.{entry_of, HasBuffer}
use Rattle.skyline.proofs.SectionFacts.{rise_of, section_in_range}

-- what taking off or putting back a size at the sections of b asks
pub record LoadFacts (I : Instance) (S : SectionList) (ls : List ℕ) (b : ℕ) : Type 0 where
  pub in_range : b < length I
  pub rise : Rises (sections_of S b)
  pub sections : All (λ s. s < length ls) (sections_of S b)
  pub enough : All (λ s. (buffer I b).size ≤ slice_index ls s) (sections_of S b)

pub push_facts : (I : Instance) (S : SectionList) (members : List ℕ) (n : ℕ) (stack ledges hs : List ℕ)
    (rows : List (List ℕ)) (flags : List Bool) (ls : List ℕ) (b : ℕ) →
    IsLoaded I S members n stack ledges hs rows flags ls →
    HasBuffer (claim_after I (whole I members) (reverse (take n stack))) b → LoadFacts I S ls b
push_facts I S members n stack ledges hs rows flags ls b h i = record {
  in_range = lt;
  rise = rise_of I S p b lt;
  sections = λ k d l. let r = section_in_range I S p (slice_index_or (sections_of S b) k d) b lt
      (in_at (sections_of S b) k d l) in omega (arith, r, h.loads.count);
  enough = λ k d l.
      let j = in_at (sections_of S b) k d l in
      let r = section_in_range I S p (slice_index_or (sections_of S b) k d) b lt j in
      let e = h.loads.each (slice_index_or (sections_of S b) k d) r in
      let w = load_with I S (claim_after I (whole I members) (reverse (take n stack))) b
      (slice_index_or (sections_of S b) k d) p lt r i j in
      omega (arith, e, w);
}
  where
    p : AreSectionsOf I S
    p = h.sky.carries.belongs

    lt : b < length I
    lt = member_in_range I members (reverse (take n stack)) b h.sky.carries.in_range i

pub pushed_loads : (I : Instance) (S : SectionList) (members : List ℕ) (n : ℕ) (stack ledges hs : List ℕ)
    (rows : List (List ℕ)) (flags : List Bool) (ls : List ℕ) (b : ℕ) (ls' : List ℕ) →
    IsLoaded I S members n stack ledges hs rows flags ls →
    HasBuffer (claim_after I (whole I members) (reverse (take n stack))) b → n < length stack →
    ls' ≡ set_each (λ s. slice_index ls s - (buffer I b).size) (sections_of S b) ls →
    HasLoads I S (claim_after I (whole I members) (reverse (take (n + 1) (slice_set stack n b)))) ls'
pushed_loads I S members n stack ledges hs rows flags ls b ls' h i lt e =
    subst (λ (bs : List ℕ). HasLoads I S (claim_after I (whole I members) bs) ls') (sym (reverse_set stack n b lt))
    (subst (HasLoads I S (child I (claim_after I (whole I members) (reverse (take n stack)))
    (entry_of (claim_after I (whole I members) (reverse (take n stack))) b))) (sym e)
    (lighter I S (claim_after I (whole I members) (reverse (take n stack))) b ls h.sky.carries.belongs
    (member_in_range I members (reverse (take n stack)) b h.sky.carries.in_range i) i h.loads))

-- at a pop
pub record BackFacts (I : Instance) (S : SectionList) (ls : List ℕ) (b : ℕ) : Type 0 where
  pub in_range : b < length I
  pub rise : Rises (sections_of S b)
  pub sections : All (λ s. s < length ls) (sections_of S b)
  pub room : All (λ s. slice_index ls s + (buffer I b).size < 2 ^ 64) (sections_of S b)

last_loads : (I : Instance) (S : SectionList) (members : List ℕ) (n : ℕ) (stack ledges hs : List ℕ)
    (rows : List (List ℕ)) (flags : List Bool) (ls : List ℕ) →
    IsLoaded I S members n stack ledges hs rows flags ls → 0 < n →
    HasLoads I S (claim_after I (whole I members) (slice_index stack (n - 1) ∷ reverse (take (n - 1) stack))) ls
last_loads I S members n stack ledges hs rows flags ls h pos =
    subst (λ (bs : List ℕ). HasLoads I S (claim_after I (whole I members) bs) ls)
    (reverse_last stack n pos (omega (arith, h.sky.depth, h.sky.stack_room))) h.loads

pub pop_facts : (I : Instance) (S : SectionList) (members : List ℕ) (n : ℕ) (stack ledges hs : List ℕ)
    (rows : List (List ℕ)) (flags : List Bool) (ls : List ℕ) (b : ℕ) →
    IsLoaded I S members n stack ledges hs rows flags ls → 0 < n → b ≡ slice_index stack (n - 1) → BackFacts I S ls b
pop_facts I S members n stack ledges hs rows flags ls b h pos e = subst (BackFacts I S ls) (sym e) (record {
  in_range = lt;
  rise = rise_of I S p (slice_index stack (n - 1)) lt;
  sections = λ k d l. let r = section_in_range I S p (slice_index_or (sections_of S (slice_index stack (n - 1))) k d)
      (slice_index stack (n - 1)) lt (in_at (sections_of S (slice_index stack (n - 1))) k d l) in
      omega (arith, r, h.loads.count);
  room = λ k d l.
      let j = in_at (sections_of S (slice_index stack (n - 1))) k d l in
      let r = section_in_range I S p (slice_index_or (sections_of S (slice_index stack (n - 1))) k d)
      (slice_index stack (n - 1)) lt j in
      let x = (last_loads I S members n stack ledges hs rows flags ls h pos).each
      (slice_index_or (sections_of S (slice_index stack (n - 1))) k d) r in
      let w = load_with I S (claim_after I (whole I members) (reverse (take (n - 1) stack))) (slice_index stack (n - 1))
      (slice_index_or (sections_of S (slice_index stack (n - 1))) k d) p lt r c.0 j in
      let m = load_limited I S (claim_after I (whole I members) (reverse (take (n - 1) stack)))
      (slice_index_or (sections_of S (slice_index stack (n - 1))) k d) h.sky.carries.buffers h.sky.carries.count p
      r in
      omega (arith, x, w, m);
})
  where
    p : AreSectionsOf I S
    p = h.sky.carries.belongs

    c : IsIn (slice_index stack (n - 1)) (buffers_of (claim_after I (whole I members) (reverse (take (n - 1) stack)))) ×
        Unit {0}
    c = ((last_stands I S members n stack ledges hs rows flags h.sky pos).stands.0, tt)

    lt : slice_index stack (n - 1) < length I
    lt = member_in_range I members (reverse (take (n - 1) stack)) (slice_index stack (n - 1)) h.sky.carries.in_range c.0

pub popped_loads : (I : Instance) (S : SectionList) (members : List ℕ) (n : ℕ) (stack ledges hs : List ℕ)
    (rows : List (List ℕ)) (flags : List Bool) (ls : List ℕ) (ls' : List ℕ) →
    IsLoaded I S members n stack ledges hs rows flags ls → 0 < n →
    ls' ≡ set_each (λ s. slice_index ls s + (buffer I (slice_index stack (n - 1))).size)
    (sections_of S (slice_index stack (n - 1))) ls →
    HasLoads I S (claim_after I (whole I members) (reverse (take (n - 1) stack))) ls'
popped_loads I S members n stack ledges hs rows flags ls ls' h pos e =
    subst (HasLoads I S (claim_after I (whole I members) (reverse (take (n - 1) stack)))) (sym e)
    (heavier I S (claim_after I (whole I members) (reverse (take (n - 1) stack)))
    (slice_index stack (n - 1)) ls h.sky.carries.belongs
    (member_in_range I members (reverse (take (n - 1) stack)) (slice_index stack (n - 1)) h.sky.carries.in_range
    (last_stands I S members n stack ledges hs rows flags h.sky pos).stands.0)
    (last_stands I S members n stack ledges hs rows flags h.sky pos).stands.0
    (last_loads I S members n stack ledges hs rows flags ls h pos))
