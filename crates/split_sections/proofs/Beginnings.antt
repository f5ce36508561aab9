-- The parts are, for each cut at which one begins, the buffers whose part begins there.
use Rattle.std.proofs.Common.{◌≡◌, ℕ, suc, ◌<◌, ◌^◌, ◌↔◌, inl, true, not, List, [], ◌∷◌, length, map, refl, sym, ap, ◌∙◌, subst, arith}
use Rattle.dsa_terms.specs.Buffers.{Buffer, Instance}
use Rattle.dsa_terms.specs.Claims.{IsIn, Rises}
use Rattle.dsa_terms.specs.Logs.{greatest}
use Rattle.dsa_terms.specs.Parts.{is_empty, numbers, parts}
use Rattle.dsa_terms.proofs.Lists.{from_filter, from_map, into_map}
use Rattle.dsa_terms.proofs.Places.{all_from_in}
use Rattle.dsa_terms.proofs.Ranges.{among, from_range}
use Rattle.dsa_search_laws.specs.PartsByTime.{members, start_of}
use Rattle.dsa_search_laws.proofs.ByTime.{begins, by_begins, rises-begins, start_begins}
use Rattle.dsa_search_laws.proofs.Members.{in_members}
use Rattle.dsa_search_laws.proofs.PartLists.{part_not_empty, part_rises}
use Rattle.dsa_search_laws.proofs.Rising.{rises_same}
use Rattle.split_sections.specs.PartList.{ArePartsKept, IsPart}

pub below : (I : Instance) (b : ℕ) → IsIn b (numbers (length I)) → b < length I
below I b i = let k = (from_range (length I) 0 b i).1 in omega arith

-- for each buffer the moment at which its part begins
unfoldable pub part_starts : Instance → List ℕ
part_starts I = map (start_of I) (numbers (length I))

-- a part begins at just those moments
cut_begins : (I : Instance) (t : ℕ) → IsIn t (part_starts I) → IsIn t (begins I)
unfolding part_starts
cut_begins I t i =
    let r = from_map (start_of I) (numbers (length I)) t i in
    subst (λ (t : ℕ). IsIn t (begins I)) (sym r.2) (start_begins I r.0 (below I r.0 r.1))

some_in : (p : List ℕ) → not (is_empty p) ≡ true → (b : ℕ) × IsIn b p
some_in [] h = absurd cc
some_in (x ∷ xs) h = (x, inl refl)

begins_cut : (I : Instance) (t : ℕ) → IsIn t (begins I) → IsIn t (part_starts I)
unfolding part_starts
begins_cut I t i =
    let q = from_filter (λ t. not (is_empty (members I t)))
    (numbers (suc (greatest (map (λ (b : Buffer). b.lower) I)))) t i in
    let r = some_in (members I t) q.1 in
    let m = in_members I t r.0 r.1 in
    subst (λ (t : ℕ). IsIn t (part_starts I)) m.1
    (into_map (start_of I) (numbers (length I)) r.0 (among (length I) r.0 m.0))

-- the cuts at which parts begin are all that make up the list of parts
pub parts_are : (I : Instance) (cuts : List ℕ) → Rises cuts →
    ((t : ℕ) → IsIn t cuts ↔ IsIn t (part_starts I)) → map (members I) cuts ≡ parts I
parts_are I cuts r same = ap (map (members I)) cuts_are ∙ sym (by_begins I)
  where
    cuts_are : cuts ≡ begins I
    cuts_are = rises_same cuts (begins I) r (rises-begins I)
        (λ t. (λ i. cut_begins I t ((same t).0 i), λ i. (same t).1 (begins_cut I t i)))

is_part : (I : Instance) (p : List ℕ) → IsIn p (parts I) → IsPart p
is_part I p i = record { rises = part_rises I p i; not_empty = part_not_empty I p i }

pub kept : (I : Instance) (ps : List (List ℕ)) → ps ≡ parts I → length ps < 2 ^ 32 → ArePartsKept ps
kept I ps e lt = record {
  each = all_from_in IsPart ps (λ p i. is_part I p (rw e at i));
  limit = lt;
}
