-- An instance has one list of sections.
use Rattle.std.proofs.Common.{◌≡◌, ◌≢◌, ℕ, zero, suc, ◌+◌, ◌<◌, ◌≤◌, ◌⊎◌, inl, inr, List, [], ◌∷◌, length, map, filter, slice_index_or, refl, sym, ap, ◌∙◌, subst, arith}
use Rattle.std.proofs.lemmas.List.{same_lists}
use Rattle.dsa_terms.specs.Buffers.{Instance, buffer, is_live}
use Rattle.dsa_terms.specs.Claims.{IsIn, Rises}
use Rattle.dsa_terms.specs.Parts.{numbers}
use Rattle.dsa_terms.proofs.Lists.{from_map, into_map, nil_or_not}
use Rattle.dsa_terms.proofs.Places.{any_default, in_at, place_of}
use Rattle.dsa_terms.proofs.NumberTests.{below_or_from}
use Rattle.lifetime.specs.Determined.{AreSections}
use Rattle.lifetime.specs.Runs.{starts_of}
use Rattle.lifetime.specs.SectionList.{AreSectionsOf, Section, SectionList, count_of, live_at, members_of, no_section, section_with, sections_of, start_of}
use Rattle.lifetime.specs.Thin.{AreAmong, IsBetween, StandsFor}
use Rattle.lifetime.proofs.Among.{among_trans, same_members}
use Rattle.lifetime.proofs.Live.{from_live, rises_live}
use Rattle.lifetime.proofs.Standing.{between_ends}

-- ---- what is live between moments
-- if u has all that is live from t to u, and k all that is live from u to k, then k has all that is live from t to k
pub carried : (I : Instance) (t u k : ℕ) →
    ((w : ℕ) → IsBetween t u w → AreAmong (live_at I w) (live_at I u)) →
    ((w : ℕ) → IsBetween u k w → AreAmong (live_at I w) (live_at I k)) →
    (w : ℕ) → IsBetween t k w → AreAmong (live_at I w) (live_at I k)
carried I t u k first second w h = elim (parted w h) [
  | inl near ↦ among_trans (live_at I w) (live_at I u) (live_at I k) (first w near) (second u (between_ends u k))
  | inr far ↦ second w far
]
  where
    parted : (w : ℕ) → IsBetween t k w → IsBetween t u w ⊎ IsBetween u k w
    parted w (inl h) = elim (below_or_from w u) [
      | inl lt ↦ inl (inl (h.0, (omega arith)))
      | inr le ↦ inr (inl (le, h.1))
    ]
    parted w (inr h) = elim (below_or_from u w) [
      | inl lt ↦ inl (inr ((omega arith), h.1))
      | inr le ↦ inr (inr (h.0, le))
    ]

module _ (I : Instance) (S : SectionList) (a : AreSections I S) where
  -- what stands for t has all that is live from t to its start
  pub reach : (s t : ℕ) → StandsFor I S s t → (w : ℕ) → IsBetween t (start_of S s) w →
      AreAmong (live_at I w) (live_at I (start_of S s))
  reach s t f w h b i =
      let k = from_live I w b i in rw (a.sections.live s f.in_range) at (f.has_all w b h k.0 k.1)

  -- some section stands for each start
  pub standing : (t : ℕ) → live_at I t ≢ [] → (s : ℕ) × StandsFor I S s t
  standing t n = elim (nil_or_not (live_at I t)) [
    | inl e ↦ absurd (n e)
    | inr r ↦ let k = from_live I t r.0 r.1 in a.stand t r.0 k.0 k.1
  ]

  -- no start other than its own has all that is live from there to it
  pub own_start : (s q : ℕ) → s < count_of S → q < count_of S →
      ((w : ℕ) → IsBetween (start_of S s) (start_of S q) w → AreAmong (live_at I w) (live_at I (start_of S q))) →
      q ≡ s
  own_start s q sn qn all = go (which q s)
    where
      which : (m n : ℕ) → (m ≡ n) ⊎ ((m < n) ⊎ (n < m))
      which m n = grind arith

      not_after : (s p : ℕ) → s ≤ p → (s ≡ p) ⊎ (s < p)
      not_after s p le = grind arith

      rises : (m n : ℕ) → m ≤ n → n < count_of S → start_of S m ≤ start_of S n
      rises m n le lt = elim (not_after m n le) [
        | inl e ↦ (let k = ap (start_of S) e in omega arith)
        | inr less ↦ (let k = a.sections.rise m n less lt in omega arith)
      ]

      within : (p : ℕ) → p < count_of S → IsBetween (start_of S s) (start_of S q) (start_of S p) →
          AreAmong (members_of S p) (members_of S q)
      within p lt h = rw (a.sections.live p lt, a.sections.live q qn) (all (start_of S p) h)

      before : (p : ℕ) → q ≡ p + 1 → s ≤ p → AreAmong (members_of S p) (members_of S q) → ⊥
      before p e le h = a.thin.after p (omega arith) (subst (λ q. AreAmong (members_of S p) (members_of S q)) e h)

      pick : (m n : ℕ) → m < n → (p : ℕ) × (n ≡ p + 1) × (m ≤ p)
      pick m zero lt = absurd (omega arith)
      pick m (suc p) lt = (p, omega arith, omega arith)

      go : (q ≡ s) ⊎ ((q < s) ⊎ (s < q)) → q ≡ s
      go (inl e) = e
      go (inr (inl lt)) = absurd (a.thin.before q (omega arith) (within (q + 1) (omega arith) (inr
          (rises q (q + 1) (omega arith) (omega arith), rises (q + 1) s (omega arith) sn))))
      go (inr (inr lt)) =
          let r = pick s q lt in
          let e = r.1 in
          absurd (before r.0 e r.2 (within r.0 (omega arith) (inl
          (rises s r.0 r.2 (omega arith), rises r.0 q (omega arith) qn))))

module _ (I : Instance) (S T : SectionList) (a : AreSections I S) (b : AreSections I T) where
  -- two starts that stand for each other are one
  each_other : (s r : ℕ) → StandsFor I T r (start_of S s) → StandsFor I S s (start_of T r) →
      start_of T r ≡ start_of S s
  each_other s r f g = go (which (start_of T r) (start_of S s))
    where
      which : (m n : ℕ) → (m ≡ n) ⊎ ((m < n) ⊎ (n < m))
      which m n = grind arith

      same : live_at I (start_of S s) ≡ live_at I (start_of T r)
      same = same_members (live_at I (start_of S s)) (live_at I (start_of T r)) (rises_live I (start_of S s))
          (rises_live I (start_of T r))
          (reach I T b r (start_of S s) f (start_of S s) (between_ends (start_of S s) (start_of T r)))
          (reach I S a s (start_of T r) g (start_of T r) (between_ends (start_of T r) (start_of S s)))

      go : (start_of T r ≡ start_of S s) ⊎ ((start_of T r < start_of S s) ⊎ (start_of S s < start_of T r)) →
          start_of T r ≡ start_of S s
      go (inl e) = e
      go (inr (inl lt)) = absurd (g.more lt (sym (a.sections.live s g.in_range ∙ same)))
      go (inr (inr lt)) = absurd (f.more lt (same ∙ sym (b.sections.live r f.in_range)))

  -- each start of the one is a start of the other
  same_start : (s : ℕ) → s < count_of S → (r : ℕ) × (r < count_of T) × (start_of T r ≡ start_of S s)
  same_start s lt =
      let f = standing I T b (start_of S s) (a.runs s lt).something in
      let g = standing I S a (start_of T f.0) (b.runs f.0 f.1.in_range).something in
      let e = own_start I S a s g.0 lt g.1.in_range
      (carried I (start_of S s) (start_of T f.0) (start_of S g.0) (reach I T b f.0 (start_of S s) f.1)
      (reach I S a g.0 (start_of T f.0) g.1)) in
      (f.0, f.1.in_range, each_other s f.0 f.1 (subst (λ q. StandsFor I S q (start_of T f.0)) e g.1))

-- ---- the lists of starts
into_starts : (S : SectionList) (s : ℕ) → s < count_of S → IsIn (start_of S s) (starts_of S.sections)
into_starts S s lt = into_map (λ (x : Section). x.start) S.sections (slice_index_or S.sections s no_section)
    (in_at S.sections s no_section lt)

from_starts : (S : SectionList) (t : ℕ) → IsIn t (starts_of S.sections) →
    (s : ℕ) × (s < count_of S) × (start_of S s ≡ t)
from_starts S t i =
    let x = from_map (λ (x : Section). x.start) S.sections t i in
    let s = place_of S.sections x.0 no_section x.1 in
    (s.0, s.1, ap (λ (y : Section). y.start) s.2 ∙ sym x.2)

starts_rise : (xs : List Section) →
    ((r s : ℕ) → r < s → s < length xs →
    (slice_index_or xs r no_section).start < (slice_index_or xs s no_section).start) →
    Rises (starts_of xs)
starts_rise [] h = tt
starts_rise (x ∷ xs) h = (first, starts_rise xs (λ r s lt le. h (suc r) (suc s) (omega arith) (omega arith)))
  where
    first : (t : ℕ) → IsIn t (starts_of xs) → x.start < t
    first t i =
        let y = from_map (λ (x : Section). x.start) xs t i in
        let s = place_of xs y.0 no_section y.1 in
        let k : x.start < (slice_index_or xs s.0 no_section).start =
        h 0 (suc s.0) (omega arith) (let z = s.1 in omega arith) in
        let e = ap (λ (y : Section). y.start) s.2 in
        let f = y.2 in omega arith

starts_among : (I : Instance) (S T : SectionList) → AreSections I S → AreSections I T →
    AreAmong (starts_of S.sections) (starts_of T.sections)
starts_among I S T a b t i =
    let s = from_starts S t i in
    let r = same_start I S T a b s.0 s.1 in
    subst (λ (t : ℕ). IsIn t (starts_of T.sections)) (r.2 ∙ s.2) (into_starts T r.0 r.1)

starts_are_one : (I : Instance) (S T : SectionList) → AreSections I S → AreSections I T →
    starts_of S.sections ≡ starts_of T.sections
starts_are_one I S T a b = same_members (starts_of S.sections) (starts_of T.sections)
    (starts_rise S.sections a.sections.rise) (starts_rise T.sections b.sections.rise) (starts_among I S T a b)
    (starts_among I T S b a)

-- ---- the sections, and the places of each buffer
-- sections are known by their starts
from_their_starts : (f : ℕ → List ℕ) (xs : List Section) → ((x : Section) → IsIn x xs → x.members ≡ f x.start) →
    xs ≡ map (λ t. section_with t (f t)) (starts_of xs)
from_their_starts f [] h = refl
from_their_starts f (x ∷ xs) h = joined (ap (section_with x.start) (h x (inl refl)))
    (from_their_starts f xs (λ y i. h y (inr i)))
  where
    joined : {y : Section} {ys : List Section} → x ≡ y → xs ≡ ys → x ∷ xs ≡ y ∷ ys
    joined e g = cc

sections_from_starts : (I : Instance) (S : SectionList) → AreSectionsOf I S →
    S.sections ≡ map (λ t. section_with t (live_at I t)) (starts_of S.sections)
sections_from_starts I S a = from_their_starts (live_at I) S.sections live
  where
    live : (x : Section) → IsIn x S.sections → x.members ≡ live_at I x.start
    live x i =
        let s = place_of S.sections x no_section i in
        subst (λ (x : Section). x.members ≡ live_at I x.start) s.2 (a.live s.0 s.1)

sections_same : (I : Instance) (S T : SectionList) → AreSections I S → AreSections I T → S.sections ≡ T.sections
sections_same I S T a b =
    sections_from_starts I S a.sections
    ∙ (ap (λ ts. map (λ t. section_with t (live_at I t)) ts) (starts_are_one I S T a b)
    ∙ sym (sections_from_starts I T b.sections))

-- lists of places go by the sections
places_same : (I : Instance) (S T : SectionList) → AreSectionsOf I S → AreSectionsOf I T → S.sections ≡ T.sections →
    S.of_buffers ≡ T.of_buffers
places_same I S T a b e = same_lists S.of_buffers T.of_buffers (a.buffers ∙ sym b.buffers) (λ c d lt.
    any_default S.of_buffers c d [] lt
    ∙ (same c (let k = a.buffers in omega arith)
    ∙ any_default T.of_buffers c [] d (let k = a.buffers in let m = b.buffers in omega arith)))
  where
    same : (c : ℕ) → c < length I → sections_of S c ≡ sections_of T c
    same c lt = a.listed c lt
        ∙ (ap (λ (xs : List Section). filter (λ s. is_live (buffer I c) (slice_index_or xs s no_section).start)
        (numbers (length xs))) e ∙ sym (b.listed c lt))

pub one_list : (I : Instance) (S T : SectionList) → AreSections I S → AreSections I T → S ≡ T
one_list I S T a b = joined (sections_same I S T a b)
    (places_same I S T a.sections b.sections (sections_same I S T a b))
  where
    list_with : List Section → List (List ℕ) → SectionList
    list_with sections places = record { sections = sections; of_buffers = places }

    joined : S.sections ≡ T.sections → S.of_buffers ≡ T.of_buffers → S ≡ T
    joined e f = ap (λ xs. list_with xs S.of_buffers) e ∙ ap (list_with T.sections) f
