-- Buffers that no cut lies between, and the parts that they make.
use Rattle.std.proofs.Common.{◌≡◌, ℕ, suc, ◌<◌, ◌≤◌, ◌⊎◌, ◌↔◌, inl, inr, Bool, true, false, not, ◌&&◌, ◌||◌, nat_le, nat_lt, List, length, filter, sym, refl, ◌∙◌, subst, arith}
use Rattle.dsa_terms.specs.Buffers.{Instance, buffer, IsInstance, IsLive}
use Rattle.dsa_terms.specs.Claims.{IsIn, Rises}
use Rattle.dsa_terms.specs.Parts.{is_cut, numbers, are_parted, are_uncut, part_of, is_leader, parts}
use Rattle.dsa_terms.specs.Sorts.{ordered_by}
use Rattle.dsa_terms.proofs.Lists.{any_gives, any_from, all_at, all_from, from_filter, into_filter, from_map, from_ordered_by, into_map, into_ordered_by}
use Rattle.dsa_terms.proofs.Moments.{and_true, both_true}
use Rattle.dsa_terms.proofs.NumberTests.{at_most, is_at_most, is_below, less}
use Rattle.dsa_terms.proofs.Ranges.{below, among, rises-range, rises-filter_numbers}
use Rattle.dsa_search_laws.specs.PartsByTime.{last_cut, start_of, IsUncut}
use Rattle.dsa_search_laws.proofs.Rising.{rises_same}
use Rattle.dsa_search_laws.proofs.Cuts.{begins_before, cut_between, last_cut_is, last_cut_is_greatest, last_cut_le, no_cut_between, sharing_is_one_part}

-- ---- the test says so exactly where the parts of both begin at one cut
parted_gives : (I : Instance) (b c : ℕ) → are_parted I b c ≡ true →
    (t : ℕ) × (is_cut I t ≡ true) × ((buffer I b).lower < t) × (t ≤ (buffer I c).lower)
unfolding are_parted
parted_gives I b c h =
    let r = any_gives (λ t. is_cut I t && nat_lt (buffer I b).lower t) (numbers (suc (buffer I c).lower)) h in
    let k = and_true (is_cut I r.0) (nat_lt (buffer I b).lower r.0) r.2 in
    let z = below (suc (buffer I c).lower) r.0 r.1 in
    (r.0, k.0, less (buffer I b).lower r.0 k.1, omega arith)

parted_from : (I : Instance) (b c t : ℕ) → is_cut I t ≡ true → (buffer I b).lower < t → t ≤ (buffer I c).lower →
    are_parted I b c ≡ true
unfolding are_parted
parted_from I b c t cut low le =
    any_from (λ t. is_cut I t && nat_lt (buffer I b).lower t) (numbers (suc (buffer I c).lower)) t
    (among (suc (buffer I c).lower) t (omega arith))
    (both_true (is_cut I t) (nat_lt (buffer I b).lower t) cut (is_below (buffer I b).lower t low))

-- those that a cut parts begin at two cuts
parted_starts : (I : Instance) (b c : ℕ) → are_parted I b c ≡ true → start_of I b < start_of I c
unfolding start_of
parted_starts I b c h =
    let r = parted_gives I b c h in
    let k = last_cut_is_greatest I (buffer I c).lower r.0 r.1 r.3 in
    let l = last_cut_le I (buffer I b).lower in let z = r.2 in omega arith

starts_parted : (I : Instance) (b c : ℕ) → start_of I b < start_of I c → are_parted I b c ≡ true
unfolding start_of
starts_parted I b c less = parted_from I b c (last_cut I (buffer I c).lower) (last_cut_is I (buffer I c).lower)
    (begins_before I b c less) (last_cut_le I (buffer I c).lower)

pub uncut_starts : (I : Instance) (b c : ℕ) → are_uncut I b c ≡ true → start_of I b ≡ start_of I c
unfolding are_uncut
uncut_starts I b c h = go (cases (start_of I b) (start_of I c))
  where
    cases : (m n : ℕ) → (m < n) ⊎ ((n < m) ⊎ (m ≡ n))
    cases m n = grind arith

    neither : (p q : Bool) → not (p || q) ≡ true → (p ≡ true) ⊎ (q ≡ true) → ⊥
    neither true q h e = cc
    neither false true h e = cc
    neither false false h (inl e) = cc
    neither false false h (inr e) = cc

    go : (start_of I b < start_of I c) ⊎ ((start_of I c < start_of I b) ⊎ (start_of I b ≡ start_of I c)) →
        start_of I b ≡ start_of I c
    go (inl k) = absurd (neither (are_parted I b c) (are_parted I c b) h (inl (starts_parted I b c k)))
    go (inr (inl k)) = absurd (neither (are_parted I b c) (are_parted I c b) h (inr (starts_parted I c b k)))
    go (inr (inr k)) = k

pub starts_uncut : (I : Instance) (b c : ℕ) → start_of I b ≡ start_of I c → are_uncut I b c ≡ true
unfolding are_uncut
starts_uncut I b c same = go (are_parted I b c) (are_parted I c b) refl refl
  where
    go : (p q : Bool) → are_parted I b c ≡ p → are_parted I c b ≡ q → not (p || q) ≡ true
    go true q e f = absurd (let k = parted_starts I b c e in omega arith)
    go false true e f = absurd (let k = parted_starts I c b f in omega arith)
    go false false e f = refl

pub starts_exactly : (I : Instance) (b c : ℕ) → (are_uncut I b c ≡ true) ↔ (start_of I b ≡ start_of I c)
starts_exactly I b c = (uncut_starts I b c, starts_uncut I b c)

-- ---- and where no cut lies between them
pub same_part_uncut : (I : Instance) (b c : ℕ) → IsInstance I → b < length I → c < length I →
    start_of I b ≡ start_of I c → IsUncut I b c
same_part_uncut I b c s lb lc same = record {
  forth = λ t cut sep. no_cut_between I b c t s lb same cut sep;
  back = λ t cut sep. no_cut_between I c b t s lc (sym same) cut sep;
}

pub uncut_same_part : (I : Instance) (b c : ℕ) → b < length I → c < length I → IsUncut I b c →
    start_of I b ≡ start_of I c
uncut_same_part I b c lb lc u = go (cases (start_of I b) (start_of I c))
  where
    cases : (m n : ℕ) → (m < n) ⊎ ((n < m) ⊎ (m ≡ n))
    cases m n = grind arith

    go : (start_of I b < start_of I c) ⊎ ((start_of I c < start_of I b) ⊎ (start_of I b ≡ start_of I c)) →
        start_of I b ≡ start_of I c
    go (inl h) = absurd (let k = cut_between I b c lb h in u.forth (start_of I c) k.0 k.1)
    go (inr (inl h)) = absurd (let k = cut_between I c b lc h in u.back (start_of I b) k.0 k.1)
    go (inr (inr h)) = h

pub part_exactly : (I : Instance) (b c : ℕ) → IsInstance I → b < length I → c < length I →
    (start_of I b ≡ start_of I c) ↔ IsUncut I b c
part_exactly I b c s lb lc = (same_part_uncut I b c s lb lc, uncut_same_part I b c lb lc)

pub uncut_exactly : (I : Instance) (b c : ℕ) → IsInstance I → b < length I → c < length I →
    (are_uncut I b c ≡ true) ↔ IsUncut I b c
uncut_exactly I b c s lb lc = (
  λ h. same_part_uncut I b c s lb lc (uncut_starts I b c h),
  λ u. starts_uncut I b c (uncut_same_part I b c lb lc u),
)

-- ---- the part of a buffer
pub from_part : (I : Instance) (b c : ℕ) → IsIn c (part_of I b) → (c < length I) × (start_of I b ≡ start_of I c)
unfolding part_of
from_part I b c i = let r = from_filter (are_uncut I b) (numbers (length I)) c i in
    (below (length I) c r.0, uncut_starts I b c r.1)

pub into_part : (I : Instance) (b c : ℕ) → c < length I → start_of I b ≡ start_of I c → IsIn c (part_of I b)
unfolding part_of
into_part I b c lt same =
    into_filter (are_uncut I b) (numbers (length I)) c (among (length I) c lt) (starts_uncut I b c same)

pub rises-part : (I : Instance) (b : ℕ) → Rises (part_of I b)
unfolding part_of
rises-part I b = rises-filter_numbers (are_uncut I b) (numbers (length I)) (rises-range (length I) 0)

pub one_start_is_one_part : (I : Instance) (b c : ℕ) → start_of I b ≡ start_of I c → part_of I b ≡ part_of I c
one_start_is_one_part I b c same =
    rises_same (part_of I b) (part_of I c) (rises-part I b) (rises-part I c) (λ d. (
      λ i. (let r = from_part I b d i in into_part I c d r.0 (sym same ∙ r.1)),
      λ i. (let r = from_part I c d i in into_part I b d r.0 (same ∙ r.1)),
    ))

one_part_is_one_start : (I : Instance) (b c : ℕ) → c < length I → part_of I b ≡ part_of I c →
    start_of I b ≡ start_of I c
one_part_is_one_start I b c lc same =
    (from_part I b c (subst (λ p. IsIn c p) (sym same) (into_part I c c lc refl))).1

pub one_part_exactly : (I : Instance) (b c : ℕ) → IsInstance I → b < length I → c < length I →
    (part_of I b ≡ part_of I c) ↔ IsUncut I b c
one_part_exactly I b c s lb lc = (
  λ same. same_part_uncut I b c s lb lc (one_part_is_one_start I b c lc same),
  λ u. one_start_is_one_part I b c (uncut_same_part I b c lb lc u),
)

pub sharing_in_one_part : (I : Instance) (b c t : ℕ) → b < length I → c < length I → IsLive (buffer I b) t →
    IsLive (buffer I c) t → part_of I b ≡ part_of I c
sharing_in_one_part I b c t lb lc p q = one_start_is_one_part I b c (sharing_is_one_part I b c t lb lc p q)

-- ---- the buffers with the smallest number in their parts
abbrev pub firsts : Instance → List ℕ
firsts I = filter (is_leader I) (numbers (length I))

-- b begins before c
abbrev pub is_earlier : Instance → ℕ → ℕ → Bool
is_earlier I b c = nat_lt (buffer I b).lower (buffer I c).lower

-- these in order of time
abbrev pub in_time : Instance → List ℕ
in_time I = ordered_by (is_earlier I) (firsts I)

pub first_is_least : (I : Instance) (b c : ℕ) → is_leader I b ≡ true → c < length I → start_of I b ≡ start_of I c →
    b ≤ c
unfolding is_leader
first_is_least I b c h lt same = at_most b c (all_at (nat_le b) (part_of I b) c h (into_part I b c lt same))

pub least_is_first : (I : Instance) (b : ℕ) → ((c : ℕ) → IsIn c (part_of I b) → b ≤ c) → is_leader I b ≡ true
unfolding is_leader
least_is_first I b h = all_from (nat_le b) (part_of I b) (λ c i. is_at_most b c (h c i))

pub firsts_are_one : (I : Instance) (b c : ℕ) → is_leader I b ≡ true → is_leader I c ≡ true → b < length I →
    c < length I → start_of I b ≡ start_of I c → b ≡ c
firsts_are_one I b c f g lb lc same =
    let k = first_is_least I b c f lc same in let l = first_is_least I c b g lb (sym same) in omega arith

pub from_firsts : (I : Instance) (b : ℕ) → IsIn b (firsts I) → (b < length I) × (is_leader I b ≡ true)
from_firsts I b i = let r = from_filter (is_leader I) (numbers (length I)) b i in (below (length I) b r.0, r.1)

pub into_firsts : (I : Instance) (b : ℕ) → b < length I → is_leader I b ≡ true → IsIn b (firsts I)
into_firsts I b lt h = into_filter (is_leader I) (numbers (length I)) b (among (length I) b lt) h

-- ---- each part is that of one of them
pub part_of_first : (I : Instance) (b : ℕ) → b < length I → is_leader I b ≡ true → IsIn (part_of I b) (parts I)
unfolding parts
part_of_first I b lt h = into_map (part_of I) (in_time I) b
    (into_ordered_by (is_earlier I) (firsts I) b (into_firsts I b lt h))

pub part_is_of : (I : Instance) (p : List ℕ) → IsIn p (parts I) → (b : ℕ) × (b < length I) × (p ≡ part_of I b)
unfolding parts
part_is_of I p i =
    let r = from_map (part_of I) (in_time I) p i in
    let q = from_firsts I r.0 (from_ordered_by (is_earlier I) (firsts I) r.0 r.1) in
    (r.0, q.0, r.2)
