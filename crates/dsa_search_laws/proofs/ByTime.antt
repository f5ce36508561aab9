-- The parts are, for each cut at which one begins, the buffers whose part begins there.
use Rattle.std.proofs.Common.{◌≡◌, ℕ, suc, ◌<◌, ◌≤◌, inl, inr, true, not, List, [], ◌∷◌, length, map, filter, refl, sym, ap, ◌∙◌, subst, arith}
use Rattle.dsa_terms.specs.Buffers.{Buffer, Instance, buffer}
use Rattle.dsa_terms.specs.Claims.{IsIn, Rises}
use Rattle.dsa_terms.specs.Logs.{greatest}
use Rattle.dsa_terms.specs.Parts.{numbers, is_empty, part_of, parts}
use Rattle.dsa_terms.proofs.Lists.{from_map, into_map, from_filter, into_filter, into_ordered_by}
use Rattle.dsa_terms.proofs.Ranges.{among, rises-range, rises-filter_numbers}
use Rattle.dsa_search_laws.specs.PartsByTime.{start_of, members, parts_by_time}
use Rattle.dsa_search_laws.proofs.Cuts.{item, last_cut_le}
use Rattle.dsa_search_laws.proofs.InTime.{in_time_are_firsts, in_time_goes_up, starts_rise}
use Rattle.dsa_search_laws.proofs.Logs.{in_greatest}
use Rattle.dsa_search_laws.proofs.Members.{in_members, member_of, rises-members}
use Rattle.dsa_search_laws.proofs.Rising.{filter_of_map, rises_same}
use Rattle.dsa_search_laws.proofs.Uncut.{firsts, in_time, is_earlier, from_part, into_part, rises-part, into_firsts, least_is_first}

-- ---- the part of a buffer
pub part_is_class : (I : Instance) (b : ℕ) → part_of I b ≡ members I (start_of I b)
part_is_class I b = rises_same (part_of I b) (members I (start_of I b)) (rises-part I b)
    (rises-members I (start_of I b))
    (λ c. (
      λ i. (let r = from_part I b c i in
          subst (λ (t : ℕ). IsIn c (members I t)) (sym r.1) (member_of I c r.0)),
      λ i. (let r = in_members I (start_of I b) c i in into_part I b c r.0 (sym r.1)),
    ))

classes : (I : Instance) (bs : List ℕ) → map (part_of I) bs ≡ map (members I) (map (start_of I) bs)
classes I [] = refl
classes I (b ∷ bs) = joined (part_is_class I b) (classes I bs)
  where
    joined : {X : Type 0} {x y : X} {xs ys : List X} → x ≡ y → xs ≡ ys → x ∷ xs ≡ y ∷ ys
    joined e f = cc

-- ---- the cuts at which parts begin
pub start_to_last : (I : Instance) (b : ℕ) → b < length I →
    start_of I b < suc (greatest (map (λ (b : Buffer). b.lower) I))
unfolding start_of
start_to_last I b lt =
    let k = in_greatest (λ (b : Buffer). b.lower) I (buffer I b) (item I b lt) in
    let z = last_cut_le I (buffer I b).lower in omega arith

has_some : (p : List ℕ) (b : ℕ) → IsIn b p → not (is_empty p) ≡ true
has_some [] b i = absurd i
has_some (x ∷ xs) b i = refl

-- the moments at which the part of some buffer begins, in rising order
abbrev pub begins : Instance → List ℕ
begins I = filter (λ t. not (is_empty (members I t)))
    (numbers (suc (greatest (map (λ (b : Buffer). b.lower) I))))

pub rises-begins : (I : Instance) → Rises (begins I)
rises-begins I = rises-filter_numbers (λ t. not (is_empty (members I t)))
    (numbers (suc (greatest (map (λ (b : Buffer). b.lower) I))))
    (rises-range (suc (greatest (map (λ (b : Buffer). b.lower) I))) 0)

pub start_begins : (I : Instance) (b : ℕ) → b < length I → IsIn (start_of I b) (begins I)
start_begins I b lt = into_filter (λ t. not (is_empty (members I t)))
    (numbers (suc (greatest (map (λ (b : Buffer). b.lower) I)))) (start_of I b)
    (among (suc (greatest (map (λ (b : Buffer). b.lower) I))) (start_of I b) (start_to_last I b lt))
    (has_some (members I (start_of I b)) b (member_of I b lt))

-- the first of the buffers whose part begins there
begins_first : (I : Instance) (t : ℕ) → IsIn t (begins I) → IsIn t (map (start_of I) (in_time I))
begins_first I t i = of_list (members I t) refl
    (from_filter (λ t. not (is_empty (members I t))) (numbers (suc (greatest (map (λ (b : Buffer). b.lower) I)))) t i).1
  where
    least : (b : ℕ) (bs : List ℕ) → Rises (b ∷ bs) → (c : ℕ) → IsIn c (b ∷ bs) → b ≤ c
    least b bs r c (inl q) = omega arith
    least b bs r c (inr j) = let k = r.0 c j in omega arith

    of_list : (p : List ℕ) → members I t ≡ p → not (is_empty p) ≡ true → IsIn t (map (start_of I) (in_time I))
    of_list [] e h = absurd cc
    of_list (b ∷ bs) e h =
        let m = in_members I t b (rw e (inl refl)) in
        let rising : Rises (b ∷ bs) = subst Rises e (rises-members I t) in
        let own : part_of I b ≡ b ∷ bs = part_is_class I b ∙ (ap (members I) m.1 ∙ e) in
        let f = least_is_first I b (λ c j. least b bs rising c (subst (λ (p : List ℕ). IsIn c p) own j)) in
        subst (λ (t : ℕ). IsIn t (map (start_of I) (in_time I))) m.1
        (into_map (start_of I) (in_time I) b
        (into_ordered_by (is_earlier I) (firsts I) b (into_firsts I b m.0 f)))

first_begins : (I : Instance) (t : ℕ) → IsIn t (map (start_of I) (in_time I)) → IsIn t (begins I)
first_begins I t i =
    let r = from_map (start_of I) (in_time I) t i in
    subst (λ (t : ℕ). IsIn t (begins I)) (sym r.2) (start_begins I r.0 (in_time_are_firsts I r.0 r.1).0)

-- ---- all parts
pub parts_by_begins : (I : Instance) → parts_by_time I ≡ map (members I) (begins I)
unfolding parts_by_time
parts_by_begins I = filter_of_map (λ p. not (is_empty p)) (members I)
    (numbers (suc (greatest (map (λ (b : Buffer). b.lower) I))))

pub by_time : (I : Instance) → parts I ≡ parts_by_time I
unfolding parts
by_time I = classes I (in_time I)
    ∙ (ap (map (members I)) (rises_same (map (start_of I) (in_time I)) (begins I)
    (starts_rise I (in_time I) (in_time_are_firsts I) (in_time_goes_up I)) (rises-begins I)
    (λ t. (first_begins I t, begins_first I t)))
    ∙ sym (parts_by_begins I))

pub by_begins : (I : Instance) → parts I ≡ map (members I) (begins I)
by_begins I = by_time I ∙ parts_by_begins I

pub part_is_in : (I : Instance) (b : ℕ) → b < length I → IsIn (members I (start_of I b)) (parts I)
part_is_in I b lt = rw (by_begins I) (into_map (members I) (begins I) (start_of I b) (start_begins I b lt))

pub part_is_members : (I : Instance) (p : List ℕ) → IsIn p (parts I) → (t : ℕ) × (p ≡ members I t)
part_is_members I p i = let r = from_map (members I) (begins I) p (rw (by_begins I) at i) in (r.0, r.2)
