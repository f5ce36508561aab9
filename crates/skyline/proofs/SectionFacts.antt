-- What a skyline uses of an instance and of its sections.
use Rattle.std.proofs.Common.{◌≡◌, ℕ, ◌+◌, ◌-◌, ◌<◌, ◌≤◌, ◌↔◌, true, List, [], ◌∷◌, length, inl, inr, refl, sym, ap, subst, arith}
use Rattle.std.specs.List.{All}
use Rattle.dsa_terms.specs.Buffers.{Instance, IsLive, buffer, do_share, is_live}
use Rattle.dsa_terms.specs.Claims.{IsIn, Rises}
use Rattle.dsa_terms.specs.Parts.{numbers}
use Rattle.dsa_terms.proofs.Lists.{from_filter, into_filter, true_or_false}
use Rattle.dsa_terms.proofs.Moments.{do_share-false, do_share-gives}
use Rattle.dsa_terms.proofs.Places.{in_from_all}
use Rattle.dsa_terms.proofs.Ranges.{below, among}
use Rattle.dsa_model.specs.Buffer.{buffer_limit}
use Rattle.lifetime.specs.SectionList.{count_of, start_of, members_of, sections_of, AreSectionsOf, SectionList}
use Rattle.lifetime.proofs.Live.{from_live, into_live, rises_live}
use Rattle.lifetime.proofs.Members.{live_few}
use Rattle.lifetime.proofs.Lists.{rises-numbers}

-- ---- members that rise are few
rising_few : (xs : List ℕ) (a n : ℕ) → Rises xs → ((x : ℕ) → IsIn x xs → a ≤ x) → ((x : ℕ) → IsIn x xs → x < n) →
    length xs ≤ n - a
rising_few [] a n r from to = omega arith
rising_few (x ∷ xs) a n r from to =
    let k : length xs ≤ n - (x + 1) = rising_few xs (x + 1) n r.1 (λ y i. let j = r.0 y i in omega arith)
    (λ y i. to y (inr i)) in
    let f = from x (inl refl) in let t = to x (inl refl) in omega arith

pub members_few : (I : Instance) (members : List ℕ) → All (λ b. b < length I) members → Rises members →
    length I ≤ buffer_limit → length members ≤ buffer_limit
members_few I members h r few =
    let k = rising_few members 0 (length I) r (λ x i. omega arith)
    (in_from_all (λ b. b < length I) members h) in omega arith

-- ---- the members of a section
pub member_in : (I : Instance) (S : SectionList) → AreSectionsOf I S → (s b : ℕ) → s < count_of S →
    IsIn b (members_of S s) → b < length I
member_in I S p s b lt i = (from_live I (start_of S s) b (subst (IsIn b) (p.live s lt) i)).0

pub members_rise : (I : Instance) (S : SectionList) → AreSectionsOf I S → (s : ℕ) → s < count_of S →
    Rises (members_of S s)
members_rise I S p s lt = subst Rises (sym (p.live s lt)) (rises_live I (start_of S s))

pub few_in : (I : Instance) (S : SectionList) → AreSectionsOf I S → (s : ℕ) → s < count_of S →
    length (members_of S s) ≤ length I
few_in I S p s lt = let e = ap length (p.live s lt) in let k = live_few I (start_of S s) in omega arith

-- ---- the sections of a buffer
pub rise_of : (I : Instance) (S : SectionList) → AreSectionsOf I S → (b : ℕ) → b < length I → Rises (sections_of S b)
rise_of I S p b lt = subst Rises (sym (p.listed b lt))
    (rises-numbers (λ s. is_live (buffer I b) (start_of S s)) (count_of S))

from_listed : (I : Instance) (S : SectionList) (s b : ℕ) → AreSectionsOf I S → b < length I →
    IsIn s (sections_of S b) → (s < count_of S) × IsLive (buffer I b) (start_of S s)
from_listed I S s b p lt i =
    let r = from_filter (λ s. is_live (buffer I b) (start_of S s)) (numbers (count_of S)) s
    (subst (IsIn s) (p.listed b lt) i) in
    (below (count_of S) s r.0, r.1)

pub section_in_range : (I : Instance) (S : SectionList) → AreSectionsOf I S → (s b : ℕ) → b < length I →
    IsIn s (sections_of S b) → s < count_of S
section_in_range I S p s b lt i = (from_listed I S s b p lt i).0

pub listed_in : (I : Instance) (S : SectionList) → AreSectionsOf I S → (s b : ℕ) → b < length I → s < count_of S →
    IsIn s (sections_of S b) ↔ IsIn b (members_of S s)
listed_in I S p s b lb ls = (there, back)
  where
    there : IsIn s (sections_of S b) → IsIn b (members_of S s)
    there i = subst (IsIn b) (sym (p.live s ls))
        (into_live I (start_of S s) b lb (from_listed I S s b p lb i).1)

    back : IsIn b (members_of S s) → IsIn s (sections_of S b)
    back i = subst (IsIn s) (sym (p.listed b lb))
        (into_filter (λ s. is_live (buffer I b) (start_of S s)) (numbers (count_of S)) s (among (count_of S) s ls)
        (from_live I (start_of S s) b (subst (IsIn b) (p.live s ls) i)).1)

-- two buffers that share a moment share a section
pub shared_sections : (I : Instance) (S : SectionList) → AreSectionsOf I S → (b c : ℕ) → b < length I → c < length I →
    (do_share (buffer I b) (buffer I c) ≡ true) ↔
    ((s : ℕ) × IsIn s (sections_of S b) × IsIn s (sections_of S c))
shared_sections I S p b c lb lc = (there, back)
  where
    there : do_share (buffer I b) (buffer I c) ≡ true → (s : ℕ) × IsIn s (sections_of S b) × IsIn s (sections_of S c)
    there h =
        let r = (p.shared b c lb lc).1 (do_share-gives (buffer I b) (buffer I c) h) in
        (r.0, (listed_in I S p r.0 b lb r.1).1 r.2, (listed_in I S p r.0 c lc r.1).1 r.3)

    back : (s : ℕ) × IsIn s (sections_of S b) × IsIn s (sections_of S c) → do_share (buffer I b) (buffer I c) ≡ true
    back r =
        let f = from_listed I S r.0 b p lb r.1 in
        let g = from_listed I S r.0 c p lc r.2 in
        elim (true_or_false (do_share (buffer I b) (buffer I c))) [
          | inl h ↦ h
          | inr h ↦ absurd (do_share-false (buffer I b) (buffer I c) (start_of S r.0) h f.1 g.1)
        ]
