-- The heights by section are the tops of the standing buffers that share a moment.
use Rattle.std.proofs.Common.{◌≡◌, ◌+◌, ◌<◌, ◌≤◌, ℕ, zero, suc, Bool, true, false, cond, List, [], ◌∷◌, length, replicate, slice_index, max, refl, ap, ◌∙◌, arith}
use Rattle.std.proofs.lemmas.List.{length-replicate}
use Rattle.dsa_terms.specs.Buffers.{Instance, IsInstance, buffer, do_share}
use Rattle.dsa_terms.specs.Claims.{Claim, IsIn}
use Rattle.dsa_terms.specs.Logs.{greatest}
use Rattle.dsa_terms.proofs.Numbers.{next_at_or_above}
use Rattle.dsa_terms.proofs.Moments.{sound}
use Rattle.lifetime.specs.SectionList.{count_of, sections_of, AreSectionsOf, SectionList}
use Rattle.skyline.specs.Standing.{claim_after, offset_after, HasLowests, IsStack, raised, top_under}
use Rattle.skyline.specs.Places.{at_places}
use Rattle.skyline.specs.Carried.{heights_after}
use Rattle.skyline.proofs.Places.{greatest_met, greatest_unmet, under_greatest, length-set_each}
use Rattle.skyline.proofs.Standing.{offset_is_raised, raised_is_split}
use Rattle.canonical_order.specs.Claims.{HasBuffer}
use Rattle.skyline.proofs.SectionFacts.{section_in_range, shared_sections}

get_of_zeros : (n s : ℕ) → slice_index (replicate n 0) s ≡ 0
get_of_zeros zero s = refl
get_of_zeros (suc n) zero = refl
get_of_zeros (suc n) (suc s) = get_of_zeros n s

zeros : (n : ℕ) (ss : List ℕ) → greatest (at_places (replicate n 0) ss) ≡ 0
zeros n [] = refl
zeros n (s ∷ ss) = let e = get_of_zeros n s in let k = zeros n ss in omega arith

pub length-heights_after : (I : Instance) (S : SectionList) (root : Claim) (bs : List ℕ) →
    length (heights_after I S root bs) ≡ count_of S
length-heights_after I S root [] = length-replicate (count_of S) 0
length-heights_after I S root (b ∷ bs) =
    length-set_each (λ _. offset_after I root bs b + (buffer I b).size) (sections_of S b) (heights_after I S root bs)
    ∙ length-heights_after I S root bs

-- each standing buffer is one of the instance
abbrev pub AllIn : Instance → List ℕ → Type 0
AllIn I [] = Unit {0}
AllIn I (b ∷ bs) = (b < length I) × AllIn I bs

-- the greatest height over the sections of a buffer is the greatest top that it shares a moment with
pub heights_are_tops : (I : Instance) (S : SectionList) (root : Claim) (bs : List ℕ) (c : ℕ) → IsInstance I →
    AreSectionsOf I S → HasLowests I root → IsStack I root bs → AllIn I bs → c < length I →
    greatest (at_places (heights_after I S root bs) (sections_of S c)) ≡ top_under I root bs c
heights_are_tops I S root [] c s p w h r lt = zeros (count_of S) (sections_of S c)
heights_are_tops I S root (b ∷ bs) c s p w h r lt =
    one_more I S root bs b c s p w h.0 h.1 r.0 lt (heights_are_tops I S root bs b s p w h.1 r.1 r.0)
    (heights_are_tops I S root bs c s p w h.1 r.1 lt)
  where
    one_more : (I : Instance) (S : SectionList) (root : Claim) (bs : List ℕ) (b c : ℕ) → IsInstance I →
        AreSectionsOf I S → HasLowests I root → HasBuffer (claim_after I root bs) b → IsStack I root bs → b < length I →
        c < length I →
        greatest (at_places (heights_after I S root bs) (sections_of S b)) ≡ top_under I root bs b →
        greatest (at_places (heights_after I S root bs) (sections_of S c)) ≡ top_under I root bs c →
        greatest (at_places (heights_after I S root (b ∷ bs)) (sections_of S c)) ≡ top_under I root (b ∷ bs) c
    one_more I S root bs b c s p w i h lb lc eb ec = go (do_share (buffer I b) (buffer I c)) refl
      where
        top : ℕ
        top = offset_after I root bs b + (buffer I b).size

        in_range : (m : ℕ) → IsIn m (sections_of S b) → m < length (heights_after I S root bs)
        in_range m q = let k = section_in_range I S p m b lb q in omega (arith, length-heights_after I S root bs)

        under : (m : ℕ) → IsIn m (sections_of S b) →
            slice_index (heights_after I S root bs) m ≤ offset_after I root bs b + (buffer I b).size
        under m q =
            let k = under_greatest (heights_after I S root bs) (sections_of S b) m q in
            let e = offset_is_raised I root bs b s w i in
            let f = raised_is_split I root bs b s w h in
            let g = next_at_or_above (raised I root bs b) (buffer I b).alignment (sound I b s).1 in
            omega arith

        go : (t : Bool) → do_share (buffer I b) (buffer I c) ≡ t →
            greatest (at_places (heights_after I S root (b ∷ bs)) (sections_of S c)) ≡ max
            (cond t (offset_after I root bs b + (buffer I b).size) 0) (top_under I root bs c)
        go true e =
            let m = (shared_sections I S p b c lb lc).0 e in
            greatest_met (offset_after I root bs b + (buffer I b).size) (sections_of S b) (heights_after I S root bs)
            (sections_of S c) m.0 m.1 m.2 in_range under
            ∙ ap (max (offset_after I root bs b + (buffer I b).size)) ec
        go false e =
            greatest_unmet (λ _. offset_after I root bs b + (buffer I b).size) (sections_of S b)
            (heights_after I S root bs) (sections_of S c)
            (λ m j k. absurd (let f : do_share (buffer I b) (buffer I c) ≡ true = (shared_sections I S p b c lb lc).1
            (m, k, j) in cc))
            ∙ ec ∙ (let k : top_under I root bs c ≡ max 0 (top_under I root bs c) = omega arith in k)
