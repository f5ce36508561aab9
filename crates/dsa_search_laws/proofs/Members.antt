-- The members of the parts, and their whole claims.
use Rattle.std.proofs.Common.{◌≡◌, ℕ, suc, ◌<◌, ◌≤◌, ◌==◌, List, [], ◌∷◌, length, sym, refl, ap, ◌∙◌, subst, arith}
use Rattle.dsa_terms.specs.Buffers.{Buffer, Instance, buffer, floor}
use Rattle.dsa_terms.specs.Claims.{Entry, IsIn, buffers_of, IsClaim, IsWhole, Rises}
use Rattle.dsa_terms.specs.Parts.{numbers, part_of, parts, whole}
use Rattle.dsa_terms.proofs.Lists.{from_map, into_filter, from_filter}
use Rattle.dsa_terms.proofs.NumberTests.{equal, same}
use Rattle.dsa_terms.proofs.Ranges.{from_range, into_range, rises-range, rises-filter_numbers}
use Rattle.dsa_search_laws.specs.PartsByTime.{start_of, members}
use Rattle.dsa_search_laws.proofs.Uncut.{from_part, part_is_of, rises-part}

-- ---- the members of parts
pub in_members : (I : Instance) (t b : ℕ) → IsIn b (members I t) → (b < length I) × (start_of I b ≡ t)
in_members I t b i =
    let r = from_filter (λ b. start_of I b == t) (numbers (length I)) b i in
    let k = from_range (length I) 0 b r.0 in (let z = k.1 in omega arith, equal (start_of I b) t r.1)

pub member_of : (I : Instance) (b : ℕ) → b < length I → IsIn b (members I (start_of I b))
member_of I b lt = into_filter (λ c. start_of I c == start_of I b) (numbers (length I)) b
    (into_range (length I) 0 b (omega arith) (omega arith)) (same (start_of I b) (start_of I b) refl)

pub rises-members : (I : Instance) (t : ℕ) → Rises (members I t)
rises-members I t = rises-filter_numbers (λ b. start_of I b == t) (numbers (length I)) (rises-range (length I) 0)

pub buffers_of-whole : (I : Instance) (p : List ℕ) → buffers_of (whole I p) ≡ p
buffers_of-whole I [] = refl
buffers_of-whole I (x ∷ xs) = ap (λ ys. x ∷ ys) (buffers_of-whole I xs)

pub in_whole : (I : Instance) (p : List ℕ) (e : Entry) → IsIn e (whole I p) →
    IsIn e.0 p × (e.1 ≡ (buffer I e.0).lowest)
in_whole I p e i =
    let r = from_map (λ (b : ℕ). let f : Entry = (b, (buffer I b).lowest) in f) p e i in
    let z = sym (ap (λ (e : Entry). e.0) r.2) in
    (subst (λ (c : ℕ). IsIn c p) z r.1, ap (λ (e : Entry). e.1) r.2 ∙ ap (λ (c : ℕ). (buffer I c).lowest) z)

pub claim_of_part : (I : Instance) (p : List ℕ) → IsIn p (parts I) → IsClaim I (whole I p)
claim_of_part I p i = let r = part_is_of I p i in rw r.2 (claim_of I r.0)
  where
    claim_of : (I : Instance) (b : ℕ) → IsClaim I (whole I (part_of I b))
    claim_of I b = record {
      rises = rw (buffers_of-whole I (part_of I b)) (rises-part I b);
      in_range = λ e i. (from_part I b e.0 (in_whole I (part_of I b) e i).0).0;
    }

pub lowest_to_floor : (b : Buffer) → b.lowest ≤ floor b
unfolding floor
lowest_to_floor b = omega arith

pub whole_is_whole : (I : Instance) (p : List ℕ) → IsWhole I (whole I p)
whole_is_whole I p e i = let q = (in_whole I p e i).1 in let k = lowest_to_floor (buffer I e.0) in omega arith

pub length-whole : (I : Instance) (bs : List ℕ) → length (whole I bs) ≡ length bs
length-whole I [] = refl
length-whole I (b ∷ bs) = ap suc (length-whole I bs)
