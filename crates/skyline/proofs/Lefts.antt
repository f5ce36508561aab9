-- What a skyline's fields say of a buffer that is left.
use Rattle.std.proofs.Common.{◌≡◌, ◌+◌, ◌-◌, ◌*◌, ◌<◌, ◌≤◌, ◌^◌, ℕ, zero, suc, Bool, true, false, List, [], ◌∷◌, length, max, take, reverse, slice_index, slice_index_or, refl, ap, sym, subst, ◌∙◌, arith, ◌↔◌}
use Rattle.std.specs.Int.{next_multiple_of}
use Rattle.std.specs.List.{All}
use Rattle.std.proofs.lemmas.List.{take_more, reverse-append, length-reverse, length-take-le, get_or_append_left}
use Rattle.dsa_terms.specs.Buffers.{Instance, buffer}
use Rattle.dsa_terms.specs.Claims.{Claim, buffers_of, up}
use Rattle.dsa_terms.specs.Logs.{greatest}
use Rattle.dsa_terms.specs.Parts.{whole}
use Rattle.dsa_terms.proofs.Numbers.{next_is_below}
use Rattle.dsa_terms.proofs.Moments.{sound}
use Rattle.dsa_terms.proofs.Places.{in_at}
use Rattle.dsa_search_laws.proofs.Members.{buffers_of-whole}
use Rattle.dsa_model.specs.Buffer.{buffer_limit}
use Rattle.dsa_model.proofs.Instances.{sound_instance}
use Rattle.lifetime.specs.SectionList.{count_of, sections_of, SectionList}
use Rattle.skyline.specs.Standing.{claim_after, offset_after, raised, ledge, top_under}
use Rattle.skyline.specs.Places.{at_places}
use Rattle.skyline.specs.Carried.{claims_of, Carries, ledge_at}
use Rattle.skyline.specs.Skylines.{IsSkyline}
use Rattle.skyline.proofs.Standing.{has_lowests, offset_is_raised, raised_is_split}
use Rattle.skyline.proofs.Tops.{heights_are_tops, length-heights_after}
use Rattle.skyline.proofs.Carrying.{length-claims_of, last_of_claims, member_in_range, stack_in_range, has_place, ledge_is, low_is, raised_limited, alignment_limited}
use Rattle.canonical_order.specs.Claims.{entry_of, HasBuffer}
use Rattle.skyline.specs.Skies.{Sky, first_claim, last_claim}
use Rattle.skyline.proofs.SectionFacts.{members_few, section_in_range}

-- one more item, the last one first
pub reverse_take_more : (xs : List ℕ) (k : ℕ) → k < length xs → reverse (take (k + 1) xs) ≡ slice_index xs k ∷ reverse
    (take k xs)
reverse_take_more xs k lt = ap reverse (take_more xs k 0 lt) ∙ reverse-append (take k xs) (slice_index xs k ∷ [])

-- what is in the last claim is in the claim that is left
pub left_over : (I : Instance) (S : SectionList) (root : Claim) (bs : List ℕ) (k : Sky) (b : ℕ) →
    record { instance = I; sections = S; claims = claims_of I root bs } ≡ k → HasBuffer (last_claim k.claims) b →
    HasBuffer (claim_after I root bs) b
left_over I S root bs k b e i =
    subst (λ l. HasBuffer l b) (ap last_claim (sym (ap (λ (x : Sky). x.claims) e)) ∙ last_of_claims I root bs) i

pub record LowFacts (I : Instance) (S : SectionList) (members : List ℕ) (n : ℕ) (stack ledges hs : List ℕ)
    (b : ℕ) : Type 0 where
  pub in_range : b < length I
  pub in_sections : b < length S.of_buffers
  pub sections : All (λ s. s < length hs) (sections_of S b)
  pub ledge_limit : 0 < n → slice_index ledges (n - 1) < 2 ^ 60
  pub bound : (t f : ℕ) → t ≡ greatest (at_places hs (sections_of S b)) → f ≡ ledge_at (reverse (take n stack))
      (reverse (take n ledges)) b → max (buffer I b).lowest (max t f) ≤ 2 ^ 53
  pub value : (t f : ℕ) → t ≡ greatest (at_places hs (sections_of S b)) → f ≡ ledge_at (reverse (take n stack))
      (reverse (take n ledges)) b →
      next_multiple_of (max (buffer I b).lowest (max t f)) (buffer I b).alignment
      ≡ offset_after I (whole I members) (reverse (take n stack)) b
  pub limit : offset_after I (whole I members) (reverse (take n stack)) b < 2 ^ 54

-- the standing buffers' offsets are limited
first_limited : (I : Instance) (members bs ys : List ℕ) (hs : List ℕ) (S : SectionList) (rows : List (List ℕ))
    (flags : List Bool) → Carries I S members bs ys hs rows flags →
    slice_index ys 0 ≤ buffer_limit * 1103806595072 + 2 ^ 32
first_limited I members [] ys hs S rows flags h = let e = ap (λ zs. slice_index zs 0) h.offsets in omega arith
first_limited I members (d ∷ ds) ys hs S rows flags h =
    let e : slice_index ys 0 ≡ offset_after I (whole I members) ds d = ap (λ zs. slice_index zs 0) h.offsets in
    let f = offset_is_raised I (whole I members) ds d (sound_instance I h.buffers) (has_lowests I members) h.stands.0 in
    let lt = member_in_range I members ds d h.in_range h.stands.0 in
    let n = next_is_below (raised I (whole I members) ds d) (buffer I d).alignment
    (sound I d (sound_instance I h.buffers)).1 in
    let a = alignment_limited I d h.buffers lt in
    let r = raised_limited I (whole I members) ds d (sound_instance I h.buffers) h.buffers (has_lowests I members)
    h.stands.1 (stack_in_range I members ds h.in_range h.stands.1) lt in
    let p = has_place I members ds d h.rise h.stands.1 h.stands.0 in
    let q = members_few I members h.in_range h.rise h.count in
    omega arith

pub low_facts : (I : Instance) (S : SectionList) (members : List ℕ) (n : ℕ) (stack ledges hs : List ℕ)
    (rows : List (List ℕ)) (flags : List Bool) (b : ℕ) →
    IsSkyline I S members n stack ledges hs rows flags →
    HasBuffer (claim_after I (whole I members) (reverse (take n stack))) b →
    LowFacts I S members n stack ledges hs b
low_facts I S members n stack ledges hs rows flags b h i = record {
  in_range = lt;
  in_sections = omega (arith, lt, h.carries.belongs.buffers);
  sections = λ k d l. let r = section_in_range I S h.carries.belongs (slice_index_or (sections_of S b) k d) b lt
      (in_at (sections_of S b) k d l) in omega (arith, r, hs_count);
  ledge_limit = λ pos. ledge_limit pos;
  bound = λ t f et ef. let e = split t f et ef in omega (arith, e, small);
  value = λ t f et ef. ap (λ x. next_multiple_of (max (buffer I b).lowest (max x f)) (buffer I b).alignment) et
      ∙ ap (λ x. next_multiple_of (max (buffer I b).lowest (max (greatest (at_places hs (sections_of S b))) x))
      (buffer I b).alignment) ef
      ∙ sym (low_is I S members (reverse (take n stack)) (reverse (take n ledges)) hs rows flags b h.carries i);
  limit =
      let e = offset_is_raised I (whole I members) (reverse (take n stack)) b (sound_instance I h.carries.buffers)
      (has_lowests I members) i in
      let k = next_is_below (raised I (whole I members) (reverse (take n stack)) b) (buffer I b).alignment
      (sound I b (sound_instance I h.carries.buffers)).1 in
      let a = alignment_limited I b h.carries.buffers lt in
      omega (arith, small);
}
  where
    lt : b < length I
    lt = member_in_range I members (reverse (take n stack)) b h.carries.in_range i

    hs_count : length hs ≡ count_of S
    hs_count = ap length h.carries.heights ∙ length-heights_after I S (whole I members) (reverse (take n stack))

    small : raised I (whole I members) (reverse (take n stack)) b ≤ buffer_limit * 1103806595072
    small =
        let r = raised_limited I (whole I members) (reverse (take n stack)) b
        (sound_instance I h.carries.buffers) h.carries.buffers (has_lowests I members) h.carries.stands
        (stack_in_range I members (reverse (take n stack)) h.carries.in_range h.carries.stands) lt in
        let p = has_place I members (reverse (take n stack)) b h.carries.rise h.carries.stands i in
        let q = members_few I members h.carries.in_range h.carries.rise h.carries.count in omega arith

    split : (t f : ℕ) → t ≡ greatest (at_places hs (sections_of S b)) → f ≡ ledge_at (reverse (take n stack))
        (reverse (take n ledges)) b →
        max (buffer I b).lowest (max t f) ≡ raised I (whole I members) (reverse (take n stack)) b
    split t f et ef =
        let e = raised_is_split I (whole I members) (reverse (take n stack)) b (sound_instance I h.carries.buffers)
        (has_lowests I members) h.carries.stands in
        let u = heights_are_tops I S (whole I members) (reverse (take n stack)) b
        (sound_instance I h.carries.buffers) h.carries.belongs (has_lowests I members) h.carries.stands
        (stack_in_range I members (reverse (take n stack)) h.carries.in_range h.carries.stands) lt in
        let v = ledge_is I (whole I members) (reverse (take n stack)) (reverse (take n ledges)) b h.carries.offsets in
        let w = ap (λ x. greatest (at_places x (sections_of S b))) h.carries.heights in
        let x : t ≡ top_under I (whole I members) (reverse (take n stack)) b = et ∙ w ∙ u in
        let y : f ≡ ledge I (whole I members) (reverse (take n stack)) b = ef ∙ v in
        ap (λ z. max (buffer I b).lowest (max z f)) x
        ∙ ap (λ z. max (buffer I b).lowest (max (top_under I (whole I members) (reverse (take n stack)) b) z)) y ∙ sym e

    ledge_limit : 0 < n → slice_index ledges (n - 1) < 2 ^ 60
    ledge_limit pos =
        let k = first_limited I members (reverse (take n stack)) (reverse (take n ledges)) hs S rows flags h.carries in
        let e : slice_index (reverse (take n ledges)) 0 ≡ slice_index ledges (n - 1) = at_first n pos
        (omega (arith, h.depth, h.ledge_room)) in
        omega arith
      where
        at_first : (n : ℕ) → 0 < n → n ≤ length ledges → slice_index (reverse (take n ledges)) 0 ≡ slice_index ledges
            (n - 1)
        at_first zero pos le = absurd (omega arith)
        at_first (suc k) pos le = let j : suc k ≡ k + 1 = omega arith in
            ap (λ m. slice_index (reverse (take m ledges)) 0) j
            ∙ ap (λ zs. slice_index zs 0) (reverse_take_more ledges k (omega arith))
            ∙ ap (slice_index ledges) (let q : k ≡ suc k - 1 = omega arith in q)

-- the same, from the value that a contract sees
pub low_facts_of : (I : Instance) (S : SectionList) (members : List ℕ) (n : ℕ) (stack ledges hs : List ℕ)
    (rows : List (List ℕ)) (flags : List Bool) (k : Sky) (b : ℕ) →
    record { instance = I; sections = S; claims = claims_of I (whole I members) (reverse (take n stack)) } ≡ k →
    IsSkyline I S members n stack ledges hs rows flags → HasBuffer (last_claim k.claims) b →
    LowFacts I S members n stack ledges hs b
low_facts_of I S members n stack ledges hs rows flags k b e h i =
    low_facts I S members n stack ledges hs rows flags b h
    (left_over I S (whole I members) (reverse (take n stack)) k b e i)

-- the up that a contract speaks of
pub up_of_view : (I : Instance) (S : SectionList) (root : Claim) (bs : List ℕ) (k : Sky) (b : ℕ) →
    record { instance = I; sections = S; claims = claims_of I root bs } ≡ k → offset_after I root bs b ≡ up k.instance
    (entry_of (last_claim k.claims) b)
up_of_view I S root bs k b e =
    ap (λ l. up I (entry_of l b)) (sym (last_of_claims I root bs))
    ∙ ap (λ (x : Sky). up x.instance (entry_of (last_claim x.claims) b)) e

-- how many buffers stand
pub depth_of_view : (I : Instance) (S : SectionList) (members : List ℕ) (n : ℕ) (stack ledges hs : List ℕ)
    (rows : List (List ℕ)) (flags : List Bool) (k : Sky) →
    record { instance = I; sections = S; claims = claims_of I (whole I members) (reverse (take n stack)) } ≡ k →
    IsSkyline I S members n stack ledges hs rows flags → n + 1 ≡ length k.claims
depth_of_view I S members n stack ledges hs rows flags k e h =
    let a : length (claims_of I (whole I members) (reverse (take n stack))) ≡ length k.claims =
    ap (λ (x : Sky). length x.claims) e in
    let b = length-claims_of I (whole I members) (reverse (take n stack)) in
    let c = length-reverse (take n stack) in
    let d = length-take-le n stack (omega (arith, h.depth, h.stack_room)) in
    omega arith

-- whether a buffer is left
pub free_of_view : (I : Instance) (S : SectionList) (members : List ℕ) (n : ℕ) (stack ledges hs : List ℕ)
    (rows : List (List ℕ)) (flags : List Bool) (k : Sky) (b : ℕ) (t : Bool) →
    record { instance = I; sections = S; claims = claims_of I (whole I members) (reverse (take n stack)) } ≡ k →
    IsSkyline I S members n stack ledges hs rows flags → b < length I → t ≡ slice_index_or flags b false →
    (t ≡ true) ↔ HasBuffer (last_claim k.claims) b
free_of_view I S members n stack ledges hs rows flags k b t e h lt q = (
  (λ s. back ((h.carries.free b lt).0 (sym q ∙ s))),
  (λ i. q ∙ (h.carries.free b lt).1 (left_over I S (whole I members) (reverse (take n stack)) k b e i)),
)
  where
    back : HasBuffer (claim_after I (whole I members) (reverse (take n stack))) b → HasBuffer (last_claim k.claims) b
    back i = subst (λ l. HasBuffer l b) (sym (last_of_claims I (whole I members) (reverse (take n stack)))
        ∙ ap last_claim (ap (λ (x : Sky). x.claims) e)) i

-- a number of no buffer is not left
pub out_of_range : (I : Instance) (S : SectionList) (members : List ℕ) (n : ℕ) (stack ledges hs : List ℕ)
    (rows : List (List ℕ)) (flags : List Bool) (k : Sky) (b : ℕ) →
    record { instance = I; sections = S; claims = claims_of I (whole I members) (reverse (take n stack)) } ≡ k →
    IsSkyline I S members n stack ledges hs rows flags → length flags ≤ b → HasBuffer (last_claim k.claims) b → ⊥
out_of_range I S members n stack ledges hs rows flags k b e h le i =
    let lt = (low_facts_of I S members n stack ledges hs rows flags k b e h i).in_range in let c =
    h.carries.free_count in omega arith

-- the members, which are the buffers of the first claim
first_of_claims : (I : Instance) (root : Claim) (bs : List ℕ) → first_claim (claims_of I root bs) ≡ root
first_of_claims I root [] = refl
first_of_claims I root (b ∷ bs) =
    let n = length-claims_of I root bs in
    get_or_append_left (claims_of I root bs) (claim_after I root (b ∷ bs) ∷ []) [] 0 (omega arith)
    ∙ first_of_claims I root bs

pub members_of_view : (I : Instance) (S : SectionList) (members : List ℕ) (n : ℕ) (stack : List ℕ) (k : Sky) →
    record { instance = I; sections = S; claims = claims_of I (whole I members) (reverse (take n stack)) } ≡ k →
    members ≡ buffers_of (first_claim k.claims)
members_of_view I S members n stack k e =
    let root = whole I members in
    sym (buffers_of-whole I members) ∙ ap buffers_of (sym (first_of_claims I root (reverse (take n stack))))
    ∙ ap (λ (x : Sky). buffers_of (first_claim x.claims)) e
