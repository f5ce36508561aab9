-- What a skyline's fields keep: what they say, and how it changes.
use Rattle.std.proofs.Common.{◌≡◌, ◌≢◌, ◌⊎◌, inl, inr, ◌+◌, ◌-◌, ◌*◌, ◌<◌, ◌≤◌, ◌^◌, ◌↔◌, ℕ, suc, Bool, true, false, cond, nat_lt, List, [], ◌∷◌, ◌++◌, length, max, slice_index, slice_index_or, set, refl, ap, sym, subst, ◌∙◌, arith, length-append}
use Rattle.std.specs.Int.{next_multiple_of}
use Rattle.std.specs.List.{All}
use Rattle.std.proofs.lemmas.List.{length-map, length-set, get_or-set_other, get_or-set_same}
use Rattle.dsa_terms.specs.Buffers.{Instance, IsInstance, buffer}
use Rattle.dsa_terms.specs.Claims.{Claim, IsIn, Rises, buffers_of}
use Rattle.dsa_terms.specs.Logs.{greatest}
use Rattle.dsa_terms.specs.Parts.{whole}
use Rattle.dsa_search_laws.proofs.Claims.{rises-child, length-child}
use Rattle.dsa_terms.proofs.Numbers.{next_is_below}
use Rattle.dsa_terms.proofs.Moments.{sound}
use Rattle.dsa_terms.proofs.NumberTests.{same_or_not}
use Rattle.dsa_model.proofs.Instances.{sound_instance, sound_buffer}
use Rattle.dsa_search_laws.proofs.Members.{buffers_of-whole, length-whole}
use Rattle.dsa_model.specs.Buffer.{IsBuffer}
use Rattle.lifetime.specs.SectionList.{sections_of, SectionList}
use Rattle.skyline.specs.Standing.{claim_after, offset_after, HasLowests, IsStack, raised, ledge}
use Rattle.skyline.specs.Places.{set_each, at_places}
use Rattle.skyline.specs.Carried.{claims_of, offsets_after, heights_after, IsSaved, Carries, ledge_at}
use Rattle.skyline.proofs.Places.{undone}
use Rattle.skyline.proofs.Standing.{has_lowests, offset_is_raised, up_is_over_tops}
use Rattle.skyline.proofs.Tops.{AllIn, heights_are_tops}
use Rattle.canonical_order.specs.Claims.{entry_of, HasBuffer}
use Rattle.skyline.specs.Skies.{last_claim}
use Rattle.canonical_order.proofs.CoverLemmas.{from_child, in_child_by, step_limit}
use Rattle.canonical_order.proofs.Entries.{entry_in}

-- ---- the list of claims
pub last_of_append : (ls : List Claim) (l : Claim) → last_claim (ls ++ l ∷ []) ≡ l
last_of_append [] l = refl
last_of_append (k ∷ ls) l =
    let e : length (k ∷ (ls ++ l ∷ [])) - 1 ≡ suc (length (ls ++ l ∷ []) - 1) = let n = length-append ls (l ∷ []) in
    omega arith in
    ap (λ i. slice_index_or (k ∷ (ls ++ l ∷ [])) i []) e ∙ last_of_append ls l

pub last_of_claims : (I : Instance) (root : Claim) (bs : List ℕ) →
    last_claim (claims_of I root bs) ≡ claim_after I root bs
last_of_claims I root [] = refl
last_of_claims I root (b ∷ bs) = last_of_append (claims_of I root bs) (claim_after I root (b ∷ bs))

pub length-claims_of : (I : Instance) (root : Claim) (bs : List ℕ) → length (claims_of I root bs) ≡ length bs + 1
length-claims_of I root [] = refl
length-claims_of I root (b ∷ bs) =
    let n = length-append (claims_of I root bs) (claim_after I root (b ∷ bs) ∷ []) in let k =
    length-claims_of I root bs in omega arith

-- ---- the buffers of a child
pub in_root : (I : Instance) (root : Claim) (bs : List ℕ) (c : ℕ) → HasBuffer (claim_after I root bs) c →
    HasBuffer root c
in_root I root [] c i = i
in_root I root (b ∷ bs) c i = in_root I root bs c (from_child I (claim_after I root bs) b c i).0

not_standing : (I : Instance) (root : Claim) (bs : List ℕ) (c : ℕ) → HasBuffer (claim_after I root bs) c → IsIn c bs → ⊥
not_standing I root [] c i j = j
not_standing I root (b ∷ bs) c i (inl e) = (from_child I (claim_after I root bs) b c i).1 e
not_standing I root (b ∷ bs) c i (inr j) = not_standing I root bs c
    (from_child I (claim_after I root bs) b c i).0 j

-- ---- members in range
in_range_list : (n : ℕ) (xs : List ℕ) (c : ℕ) → All (λ b. b < n) xs → IsIn c xs → c < n
in_range_list n [] c h i = absurd i
in_range_list n (x ∷ xs) c h (inl e) = let k = h 0 0 (omega arith) in omega arith
in_range_list n (x ∷ xs) c h (inr i) = in_range_list n xs c (λ k d lt. h (suc k) d (omega arith)) i

pub member_of : (I : Instance) (members bs : List ℕ) (c : ℕ) → HasBuffer (claim_after I (whole I members) bs) c →
    IsIn c members
member_of I members bs c i = subst (IsIn c) (buffers_of-whole I members) (in_root I (whole I members) bs c i)

pub member_in_range : (I : Instance) (members bs : List ℕ) (c : ℕ) → All (λ b. b < length I) members →
    HasBuffer (claim_after I (whole I members) bs) c → c < length I
member_in_range I members bs c h i =
    in_range_list (length I) members c h (member_of I members bs c i)

pub stack_in_range : (I : Instance) (members bs : List ℕ) → All (λ b. b < length I) members →
    IsStack I (whole I members) bs → AllIn I bs
stack_in_range I members [] h s = tt
stack_in_range I members (b ∷ bs) h s = (member_in_range I members bs b h s.0, stack_in_range I members bs h s.1)

pub rises_after : (I : Instance) (root : Claim) (bs : List ℕ) → Rises (buffers_of root) →
    Rises (buffers_of (claim_after I root bs))
rises_after I root [] r = r
rises_after I root (b ∷ bs) r = rises-child I (claim_after I root bs) (entry_of (claim_after I root bs) b)
    (rises_after I root bs r)

-- the standing buffers and those that are left are the members
stack_room : (I : Instance) (root : Claim) (bs : List ℕ) → Rises (buffers_of root) → IsStack I root bs →
    length bs + length (claim_after I root bs) ≡ length root
stack_room I root [] r s = omega arith
stack_room I root (b ∷ bs) r s =
    let n = length-child I (claim_after I root bs) (entry_of (claim_after I root bs) b) (rises_after I root bs r)
    (entry_in (claim_after I root bs) b s.0) in
    let k = stack_room I root bs r s.1 in omega arith

not_empty : (l : Claim) (b : ℕ) → HasBuffer l b → 0 < length l
not_empty [] b i = absurd i
not_empty (e ∷ es) b i = omega arith

-- a buffer that is left has a place on the stack
pub has_place : (I : Instance) (members bs : List ℕ) (b : ℕ) → Rises members → IsStack I (whole I members) bs →
    HasBuffer (claim_after I (whole I members) bs) b → length bs < length members
has_place I members bs b r s i =
    let k = stack_room I (whole I members) bs (subst Rises (sym (buffers_of-whole I members)) r) s in
    let n = not_empty (claim_after I (whole I members) bs) b i in
    let m = length-whole I members in omega arith

-- ---- the ledge by the fields
pub ledge_is : (I : Instance) (root : Claim) (bs ys : List ℕ) (c : ℕ) → ys ≡ offsets_after I root bs →
    ledge_at bs ys c ≡ ledge I root bs c
ledge_is I root [] ys c e = refl
ledge_is I root (b ∷ bs) ys c e = ap (λ y. y + cond (nat_lt c b) 1 0) (ap (λ zs. slice_index zs 0) e)

-- ---- what the heights and the ledge say
pub low_is : (I : Instance) (S : SectionList) (members bs ys hs : List ℕ) (rows : List (List ℕ)) (flags : List Bool)
    (b : ℕ) →
    Carries I S members bs ys hs rows flags → HasBuffer (claim_after I (whole I members) bs) b →
    offset_after I (whole I members) bs b
    ≡ next_multiple_of (max (buffer I b).lowest (max (greatest (at_places hs (sections_of S b))) (ledge_at bs ys b)))
    (buffer I b).alignment
low_is I S members bs ys hs rows flags b h i =
    up_is_over_tops I (whole I members) bs (entry_of (claim_after I (whole I members) bs) b)
    (sound_instance I h.buffers)
    (has_lowests I members) h.stands (entry_in (claim_after I (whole I members) bs) b i)
    ∙ ap (λ t. next_multiple_of (max (buffer I b).lowest (max t (ledge I (whole I members) bs b)))
    (buffer I b).alignment)
    (sym (heights_are_tops I S (whole I members) bs b (sound_instance I h.buffers) h.belongs (has_lowests I members)
    h.stands (stack_in_range I members bs h.in_range h.stands) (member_in_range I members bs b h.in_range i))
    ∙ ap (λ x. greatest (at_places x (sections_of S b))) (sym h.heights))
    ∙ ap (λ f. next_multiple_of (max (buffer I b).lowest (max (greatest (at_places hs (sections_of S b))) f))
    (buffer I b).alignment)
    (sym (ledge_is I (whole I members) bs ys b h.offsets))

-- ---- limits
pub alignment_limited : (I : Instance) (b : ℕ) → All IsBuffer I → b < length I → (buffer I b).alignment ≤ 2 ^ 32
alignment_limited I b h lt = (sound_buffer I b h lt).within_alignment

-- the lowest, and each standing buffer adds at most a size and an alignment
pub raised_limited : (I : Instance) (root : Claim) (bs : List ℕ) (c : ℕ) → IsInstance I → All IsBuffer I →
    HasLowests I root → IsStack I root bs → AllIn I bs → c < length I →
    raised I root bs c ≤ (length bs + 1) * 1103806595072
raised_limited I root [] c s h w k r lt = let l = (sound_buffer I c h lt).within_lowest in omega arith
raised_limited I root (b ∷ bs) c s h w k r lt =
    let e = offset_is_raised I root bs b s w k.0 in
    let n = next_is_below (raised I root bs b) (buffer I b).alignment (sound I b s).1 in
    let a = alignment_limited I b h r.0 in
    let x = step_limit I b c h r.0 in
    let p = raised_limited I root bs b s h w k.1 r.1 r.0 in
    let q = raised_limited I root bs c s h w k.1 r.1 lt in
    omega arith

-- ---- one more buffer
saved_other : (I : Instance) (S : SectionList) (root : Claim) (rows : List (List ℕ)) (bs : List ℕ) (b : ℕ)
    (row : List ℕ) → (IsIn b bs → ⊥) → IsSaved I S root rows bs → IsSaved I S root (set rows b row) bs
saved_other I S root rows [] b row out h = tt
saved_other I S root rows (d ∷ ds) b row out h = (
  (let ne : d ≢ b = λ e. out (inl (sym e)) in get_or-set_other rows b d row [] ne ∙ h.0),
  saved_other I S root rows ds b row (λ i. out (inr i)) h.1,
)

pub pushed : (I : Instance) (S : SectionList) (members bs ys hs : List ℕ) (rows : List (List ℕ)) (flags : List Bool)
    (b y : ℕ) (hs' : List ℕ) (row : List ℕ) →
    Carries I S members bs ys hs rows flags → HasBuffer (claim_after I (whole I members) bs) b →
    y ≡ offset_after I (whole I members) bs b → hs' ≡ set_each (λ _. y + (buffer I b).size) (sections_of S b) hs →
    row ≡ at_places hs (sections_of S b) →
    Carries I S members (b ∷ bs) (y ∷ ys) hs' (set rows b row) (set flags b false)
pushed I S members bs ys hs rows flags b y hs' row h i at heights saved = record {
  buffers = h.buffers;
  count = h.count;
  belongs = h.belongs;
  in_range = h.in_range;
  rise = h.rise;
  stands = (i, h.stands);
  offsets = ap (λ z. z ∷ ys) at ∙ ap (λ zs. offset_after I (whole I members) bs b ∷ zs) h.offsets;
  heights = heights ∙ ap (λ z. set_each (λ _. z + (buffer I b).size) (sections_of S b) hs) at
      ∙ ap (set_each (λ _. offset_after I (whole I members) bs b + (buffer I b).size) (sections_of S b)) h.heights;
  saved = (
    get_or-set_same rows b row [] (omega (arith, lt, h.saved_count)) ∙ saved
        ∙ ap (λ x. at_places x (sections_of S b)) h.heights,
    saved_other I S (whole I members) rows bs b row
        (not_standing I (whole I members) bs b i) h.saved,
  );
  saved_count = length-set rows b row ∙ h.saved_count;
  saved_room = room;
  free_count = length-set flags b false ∙ h.free_count;
  free = free;
}
  where
    lt : b < length I
    lt = member_in_range I members bs b h.in_range i

    room : (c : ℕ) → c < length I → IsIn c members →
        length (slice_index_or (set rows b row) c []) ≡ length (sections_of S c)
    room c l m = go (same_or_not c b)
      where
        go : (c ≡ b) ⊎ (c ≢ b) → length (slice_index_or (set rows b row) c []) ≡ length (sections_of S c)
        go (inl e) = ap (λ x. length (slice_index_or (set rows b row) x [])) e
            ∙ ap length (get_or-set_same rows b row [] (omega (arith, lt, h.saved_count)) ∙ saved)
            ∙ length-map (sections_of S b) (slice_index hs) ∙ ap (λ x. length (sections_of S x)) (sym e)
        go (inr ne) = ap length (get_or-set_other rows b c row [] ne) ∙ h.saved_room c l m

    free : (c : ℕ) → c < length I → (slice_index_or (set flags b false) c false ≡ true) ↔ HasBuffer
        (claim_after I (whole I members) (b ∷ bs)) c
    free c l = (there, back)
      where
        there : slice_index_or (set flags b false) c false ≡ true →
            HasBuffer (claim_after I (whole I members) (b ∷ bs)) c
        there q = go (same_or_not c b)
          where
            go : (c ≡ b) ⊎ (c ≢ b) → HasBuffer (claim_after I (whole I members) (b ∷ bs)) c
            go (inl e) = absurd (let r : slice_index_or (set flags b false) c false ≡ false =
                ap (λ x. slice_index_or (set flags b false) x false) e ∙ get_or-set_same flags b false false
                (omega (arith, lt, h.free_count)) in cc)
            go (inr ne) = in_child_by I (claim_after I (whole I members) bs) b c
                ((h.free c l).0 (sym (get_or-set_other flags b c false false ne) ∙ q)) ne

        back : HasBuffer (claim_after I (whole I members) (b ∷ bs)) c →
            slice_index_or (set flags b false) c false ≡ true
        back j = let r = from_child I (claim_after I (whole I members) bs) b c j in
            get_or-set_other flags b c false false r.1 ∙ (h.free c l).1 r.0

-- ---- the last one taken back
pub popped : (I : Instance) (S : SectionList) (members bs ys hs : List ℕ) (rows : List (List ℕ)) (flags : List Bool)
    (b y : ℕ) (hs' : List ℕ) →
    Carries I S members (b ∷ bs) (y ∷ ys) hs rows flags →
    ((kept : List ℕ) → slice_index_or rows b [] ≡ at_places kept (sections_of S b) →
    hs' ≡ set_each (slice_index kept) (sections_of S b) hs) →
    Carries I S members bs ys hs' rows (set flags b true)
popped I S members bs ys hs rows flags b y hs' h back = record {
  buffers = h.buffers;
  count = h.count;
  belongs = h.belongs;
  in_range = h.in_range;
  rise = h.rise;
  stands = h.stands.1;
  offsets = let e = h.offsets in cc;
  heights = back (heights_after I S (whole I members) bs) h.saved.0
      ∙ ap (set_each (slice_index (heights_after I S (whole I members) bs)) (sections_of S b)) h.heights
      ∙ undone (λ _. offset_after I (whole I members) bs b + (buffer I b).size) (heights_after I S (whole I members) bs)
      (sections_of S b);
  saved = h.saved.1;
  saved_count = h.saved_count;
  saved_room = h.saved_room;
  free_count = length-set flags b true ∙ h.free_count;
  free = free;
}
  where
    lt : b < length I
    lt = member_in_range I members bs b h.in_range h.stands.0

    free : (c : ℕ) → c < length I → (slice_index_or (set flags b true) c false ≡ true) ↔ HasBuffer
        (claim_after I (whole I members) bs) c
    free c l = (there, again)
      where
        there : slice_index_or (set flags b true) c false ≡ true → HasBuffer (claim_after I (whole I members) bs) c
        there q = go (same_or_not c b)
          where
            go : (c ≡ b) ⊎ (c ≢ b) → HasBuffer (claim_after I (whole I members) bs) c
            go (inl e) = subst (λ x. HasBuffer (claim_after I (whole I members) bs) x) (sym e) h.stands.0
            go (inr ne) = (from_child I (claim_after I (whole I members) bs) b c
                ((h.free c l).0 (sym (get_or-set_other flags b c true false ne) ∙ q))).0

        again : HasBuffer (claim_after I (whole I members) bs) c → slice_index_or (set flags b true) c false ≡ true
        again j = go (same_or_not c b)
          where
            go : (c ≡ b) ⊎ (c ≢ b) → slice_index_or (set flags b true) c false ≡ true
            go (inl e) = ap (λ x. slice_index_or (set flags b true) x false) e ∙ get_or-set_same flags b true false
                (omega (arith, lt, h.free_count))
            go (inr ne) = get_or-set_other flags b c true false ne
                ∙ (h.free c l).1 (in_child_by I (claim_after I (whole I members) bs) b c j ne)
