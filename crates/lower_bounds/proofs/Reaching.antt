-- The best of all sections and moduli is the lower bound.
use Rattle.std.proofs.Common.{◌≡◌, ℕ, zero, suc, ◌<◌, ◌≤◌, ◌==◌, ◌⊎◌, ◌↔◌, inl, inr, Bool, true, false, List, [], ◌∷◌, length, map, find, slice_index, slice_index_or, Some, le_antisymm, refl, sym, subst, ap, ap₂, ◌∙◌, arith}
use Rattle.std.proofs.lemmas.Bool.Decides.{nat_tests}
use Rattle.std.proofs.lemmas.List.{length-map}
use Rattle.std.specs.List.{All}
use Rattle.std.specs.Option.{unwrap_or}
use Rattle.dsa_terms.specs.Bounds.{bound_modulus, heights, highest_at, highest_stack, lower_bound, moduli, stack}
use Rattle.dsa_terms.specs.Buffers.{Instance, IsInstance, IsLive, IsSound, buffer}
use Rattle.dsa_terms.specs.Claims.{IsIn}
use Rattle.dsa_terms.specs.Logs.{greatest}
use Rattle.dsa_terms.proofs.Lists.{from_map, into_map, nil_or_not, greatest_under}
use Rattle.dsa_terms.proofs.Places.{all_from_in, in_at, in_from_all, place_of}
use Rattle.dsa_terms.proofs.NumberTests.{below_or_from}
use Rattle.dsa_start_laws.specs.Reaching.{HasSections, bound_height, bound_moment}
use Rattle.dsa_start_laws.proofs.Stacks.{greatest_all, greatest_is, height_multiple, zero_height}
use Rattle.dsa_model.specs.Buffer.{IsBuffer}
use Rattle.lifetime.specs.Runs.{starts_of}
use Rattle.lifetime.specs.SectionList.{AreSectionsOf, Section, SectionList, count_of, members_of, no_section, start_of}
use Rattle.lifetime.proofs.Belonging.{from_live}
use Rattle.lower_bounds.specs.Best.{IsBest, IsBoundOf, IsFirstToReach, no_bound, stack_at}
use Rattle.lower_bounds.specs.declared.value.Bound.{Bound}
use Rattle.lower_bounds.proofs.Candidates.{is_modulus, one_is_modulus}

-- ---- the best of all
find_at : (p : ℕ → Bool) (xs : List ℕ) (k : ℕ) → k < length xs → p (slice_index xs k) ≡ true →
    ((j : ℕ) → j < k → p (slice_index xs j) ≡ false) → find p xs ≡ Some (slice_index xs k)
find_at p [] k lt t f = absurd (omega arith)
find_at p (x ∷ xs) zero lt t f = rw t refl
find_at p (x ∷ xs) (suc k) lt t f = rw (f 0 (omega arith))
    (find_at p xs k (omega arith) t (λ j jk. f (suc j) (omega arith)))

start_at : (xs : List Section) (s : ℕ) → slice_index (starts_of xs) s ≡ (slice_index_or xs s no_section).start
start_at [] s = refl
start_at (x ∷ xs) zero = refl
start_at (x ∷ xs) (suc s) = start_at xs s

-- the starts of an instance's sections are moments enough
pub sections_are_all : (I : Instance) (S : SectionList) → AreSectionsOf I S → HasSections I (starts_of S.sections)
sections_are_all I S sections t c cn live =
    let r = sections.together t c cn live in (
      start_of S r.0,
      into_map (λ (x : Section). x.start) S.sections (slice_index_or S.sections r.0 no_section)
          (in_at S.sections r.0 no_section r.1),
      λ d dn l. (from_live I (start_of S r.0) d (rw (sections.live r.0 r.1) at (r.2 d dn l))).1,
    )

-- what the laws say of the bound
pub record BoundLaws (I : Instance) : Type 0 where
  pub positive : (t b : ℕ) → IsInstance I → b < length I → IsLive (buffer I b) t → 1 ≤ lower_bound I
  pub most : (t H G : ℕ) → IsIn G (moduli I) → IsIn H (heights I G) → stack I t H G ≤ lower_bound I
  pub among : IsIn (bound_modulus I) (moduli I)
  pub reaches : highest_stack I (bound_modulus I) ≡ lower_bound I
  pub least : (G : ℕ) → IsIn G (moduli I) → highest_stack I G ≡ lower_bound I → bound_modulus I ≤ G
  pub same : (starts : List ℕ) (G : ℕ) → HasSections I starts →
      greatest (map (λ s. highest_at I s G) starts) ≡ highest_stack I G
  pub height : (starts : List ℕ) → HasSections I starts → 1 ≤ lower_bound I →
      IsIn (bound_height I starts) (heights I (bound_modulus I))
      × (stack I (bound_moment I starts) (bound_height I starts) (bound_modulus I) ≡ lower_bound I)
  pub lowest : (starts : List ℕ) (H : ℕ) → IsIn H (heights I (bound_modulus I)) →
      stack I (bound_moment I starts) H (bound_modulus I) ≡ lower_bound I → bound_height I starts ≤ H

module _ (I : Instance) (S : SectionList) (candidates : List ℕ) (b : Bound) (laws : BoundLaws I)
    (sections : AreSectionsOf I S) (buffers : All IsBuffer I) (same : (G : ℕ) → IsIn G candidates ↔ IsIn G (moduli I))
    (best : IsBest I S candidates b) where
  is_instance : IsInstance I
  is_instance = all_from_in IsSound I (λ x i. (in_from_all IsBuffer I buffers x i).sound)

  place : (t : ℕ) → IsIn t (starts_of S.sections) → (s : ℕ) × (s < count_of S) × (start_of S s ≡ t)
  place t i =
      let r = from_map (λ (x : Section). x.start) S.sections t i in
      let q = place_of S.sections r.0 no_section r.1 in
      (q.0, q.1, ap (λ (x : Section). x.start) q.2 ∙ sym r.2)

  has_sections : HasSections I (starts_of S.sections)
  has_sections = sections_are_all I S sections

  highest_is : (G : ℕ) → greatest (map (λ s. highest_at I s G) (starts_of S.sections)) ≡ highest_stack I G
  highest_is G = laws.same (starts_of S.sections) G has_sections

  highest_at_most : (G : ℕ) → IsIn G (moduli I) → highest_stack I G ≤ b.capacity
  highest_at_most G i =
      let k : greatest (map (λ s. highest_at I s G) (starts_of S.sections)) ≤ b.capacity = greatest_under
      (map (λ s. highest_at I s G) (starts_of S.sections)) b.capacity each in
      let e = highest_is G in omega arith
    where
      each : (x : ℕ) → IsIn x (map (λ s. highest_at I s G) (starts_of S.sections)) → x ≤ b.capacity
      each x j =
          let r = from_map (λ s. highest_at I s G) (starts_of S.sections) x j in
          let p = place r.0 r.1 in
          let k = best.most G p.0 ((same G).1 i) p.1 in
          let e : highest_at I (start_of S p.0) G ≡ highest_at I r.0 G = ap (λ t. highest_at I t G) p.2 in
          let f = r.2 in omega arith

  reached_by : (G s : ℕ) → IsIn G candidates → stack_at I S G s ≤ lower_bound I
  unfolding highest_at
  reached_by G s i = greatest_all (λ H. stack I (start_of S s) H G) (heights I G) (lower_bound I)
      (λ H j. laws.most (start_of S s) H G ((same G).0 i) j)

  bound_at_most : lower_bound I ≤ b.capacity
  unfolding lower_bound
  bound_at_most = greatest_under (map (highest_stack I) (moduli I)) b.capacity (λ x i.
      let r = from_map (highest_stack I) (moduli I) x i in let k = highest_at_most r.0 r.1 in let e = r.2 in omega
      arith)

  pub capacity : b.capacity ≡ lower_bound I
  capacity = elim best.found [
    | inl e ↦ (let k = bound_at_most in let c : b.capacity ≡ 0 = ap (λ (b : Bound). b.capacity) e in omega arith)
    | inr r ↦ (let k = bound_at_most in let f = r.2.reached in let g = reached_by b.modulus r.2.place r.1 in omega
        arith)
  ]

  -- nothing found: there are no sections
  no_sections : b ≡ no_bound → S.sections ≡ []
  no_sections e = empty S.sections refl
    where
      empty : (xs : List Section) → S.sections ≡ xs → xs ≡ []
      empty [] f = refl
      empty (x ∷ xs) f = absurd (live (nil_or_not (members_of S 0)))
        where
          some : 0 < count_of S
          some = let k : length S.sections ≡ length (x ∷ xs) = ap length f in omega arith

          live : (members_of S 0 ≡ []) ⊎ ((c : ℕ) × IsIn c (members_of S 0)) → ⊥
          live (inl n) = sections.not_empty 0 some n
          live (inr r) =
              let q = from_live I (start_of S 0) r.0 (rw (sections.live 0 some) at r.1) in
              let k = laws.positive (start_of S 0) r.0 is_instance q.0 q.1 in
              let z = capacity in let c : b.capacity ≡ 0 = ap (λ (b : Bound). b.capacity) e in omega arith

  modulus_some : 1 ≤ bound_modulus I
  modulus_some = (is_modulus I buffers (bound_modulus I) laws.among).some

  modulus_none : b ≡ no_bound → b.modulus ≡ bound_modulus I
  modulus_none e =
      let m : b.modulus ≡ 1 = ap (λ (b : Bound). b.modulus) e in
      let h : highest_stack I 1 ≡ 0 = sym (highest_is 1)
      ∙ ap (λ xs. greatest (map (λ s. highest_at I s 1) (starts_of xs)))
      (no_sections e) in
      let z : lower_bound I ≡ 0 = sym capacity ∙ ap (λ (b : Bound). b.capacity) e in
      let k = laws.least 1 (one_is_modulus I) (h ∙ sym z) in
      let s = modulus_some in omega arith

  modulus_found : (0 < b.capacity) → IsIn b.modulus candidates → IsFirstToReach I S b.modulus (count_of S) b →
      b.modulus ≡ bound_modulus I
  modulus_found pos i first = close (below_or_from (bound_modulus I) b.modulus)
    where
      among : IsIn b.modulus (moduli I)
      among = (same b.modulus).0 i

      at_least : highest_stack I b.modulus ≡ lower_bound I
      at_least =
          let a = highest_at_most b.modulus among in let c = capacity in
          let e = highest_is b.modulus in
          let f : stack_at I S b.modulus first.place ≤ greatest
          (map (λ s. highest_at I s b.modulus) (starts_of S.sections))
          =
          under (map (λ s. highest_at I s b.modulus) (starts_of S.sections)) (stack_at I S b.modulus first.place)
          (into_map (λ s. highest_at I s b.modulus) (starts_of S.sections) (start_of S first.place)
          (into_map (λ (x : Section). x.start) S.sections (slice_index_or S.sections first.place no_section)
          (in_at S.sections first.place no_section first.in_range))) in
          let g = first.reached in omega arith
        where
          under : (xs : List ℕ) (x : ℕ) → IsIn x xs → x ≤ greatest xs
          under [] x i = absurd i
          under (y ∷ ys) x (inl e) = omega arith
          under (y ∷ ys) x (inr i) = let k = under ys x i in omega arith

      not_less : bound_modulus I < b.modulus → ⊥
      not_less less = elim (greatest_is (map (λ s. highest_at I s (bound_modulus I)) (starts_of S.sections))) [
        | inl z ↦ (let e = highest_is (bound_modulus I) in let f = laws.reaches in let c = capacity in absurd
            (omega arith))
        | inr j ↦ (
            let r = from_map (λ s. highest_at I s (bound_modulus I)) (starts_of S.sections)
            (greatest (map (λ s. highest_at I s (bound_modulus I)) (starts_of S.sections))) j in
            let p = place r.0 r.1 in
            elim (best.least (bound_modulus I) p.0 ((same (bound_modulus I)).1 laws.among) less p.1) [
              | inl e ↦ (let k : b.capacity ≡ 0 = ap (λ (b : Bound). b.capacity) e in absurd (omega arith))
              | inr k ↦ (
                  let e = highest_is (bound_modulus I) in let f = laws.reaches in let c = capacity in let g = r.2 in
                  let h : highest_at I (start_of S p.0) (bound_modulus I) ≡ highest_at I r.0 (bound_modulus I) = ap
                  (λ t. highest_at I t (bound_modulus I)) p.2 in absurd (omega arith))
            ])
      ]

      close : (bound_modulus I < b.modulus) ⊎ (b.modulus ≤ bound_modulus I) → b.modulus ≡ bound_modulus I
      close (inl less) = absurd (not_less less)
      close (inr le) = let k = laws.least b.modulus among at_least in omega arith

  pub modulus : b.modulus ≡ bound_modulus I
  modulus = elim best.found [ inl e ↦ modulus_none e | inr r ↦ modulus_found r.0 r.1 r.2 ]

  moment_found : IsFirstToReach I S b.modulus (count_of S) b → b.moment ≡ bound_moment I (starts_of S.sections)
  unfolding bound_moment
  moment_found first = sym (ap (λ o. unwrap_or o 0) (find_at (λ t. highest_at I t (bound_modulus I) == lower_bound I)
      (starts_of S.sections) first.place
      (let k = length-map S.sections (λ (x : Section). x.start) in let z = first.in_range in omega arith) here earlier)
      ∙ (start_at S.sections first.place ∙ first.moment))
    where
      value : (s : ℕ) →
          highest_at I (slice_index (starts_of S.sections) s) (bound_modulus I) ≡ stack_at I S b.modulus s
      value s = ap (λ t. highest_at I t (bound_modulus I)) (start_at S.sections s) ∙ ap (highest_at I (start_of S s))
          (sym modulus)

      equal : (m n : ℕ) → m ≡ n → (m == n) ≡ true
      equal m n h = grind (arith, nat_tests)

      less : (m n : ℕ) → m < n → (m == n) ≡ false
      less m n h = grind (arith, nat_tests)

      here : (highest_at I (slice_index (starts_of S.sections) first.place) (bound_modulus I) == lower_bound I) ≡ true
      here = equal (highest_at I (slice_index (starts_of S.sections) first.place) (bound_modulus I)) (lower_bound I)
          (value first.place ∙ (first.reached ∙ capacity))

      earlier : (s : ℕ) → s < first.place → (highest_at I (slice_index (starts_of S.sections) s) (bound_modulus I) ==
          lower_bound I) ≡ false
      earlier s lt = less (highest_at I (slice_index (starts_of S.sections) s) (bound_modulus I)) (lower_bound I)
          (let k = first.first s lt in let e = value s in let c = capacity in omega arith)

  moment_none : b ≡ no_bound → b.moment ≡ bound_moment I (starts_of S.sections)
  unfolding bound_moment
  moment_none e = ap (λ (b : Bound). b.moment) e ∙ sym
      (ap (λ xs. unwrap_or (find (λ t. highest_at I t (bound_modulus I) == lower_bound I) (starts_of xs)) 0)
      (no_sections e))

  pub moment : b.moment ≡ bound_moment I (starts_of S.sections)
  moment = elim best.found [ inl e ↦ moment_none e | inr r ↦ moment_found r.2 ]

  -- the height at the bound's moment by its modulus
  value_at : (H : ℕ) →
      stack I b.moment H b.modulus ≡ stack I (bound_moment I (starts_of S.sections)) H (bound_modulus I)
  value_at H = ap₂ (λ t G. stack I t H G) moment modulus

  height_found : (0 < b.capacity) → IsFirstToReach I S b.modulus (count_of S) b →
      b.height ≡ bound_height I (starts_of S.sections)
  height_found pos first =
      let r = laws.height (starts_of S.sections) has_sections (let c = capacity in omega arith) in
      le_antisymm
      (first.height.least (bound_height I (starts_of S.sections))
      (value_at (bound_height I (starts_of S.sections)) ∙ (r.1 ∙ sym capacity)))
      (laws.lowest (starts_of S.sections) b.height
      (subst (λ G. IsIn b.height (heights I G)) modulus first.height.among)
      (sym (value_at b.height) ∙ (first.height.reached ∙ capacity)))

  height_none : b ≡ no_bound → b.height ≡ bound_height I (starts_of S.sections)
  height_none e =
      let c : lower_bound I ≡ 0 = sym capacity ∙ ap (λ (b : Bound). b.capacity) e in
      let m = laws.most (bound_moment I (starts_of S.sections)) 0 (bound_modulus I) laws.among
      (zero_height I (bound_modulus I)) in
      let l = laws.lowest (starts_of S.sections) 0 (zero_height I (bound_modulus I)) (omega arith) in
      let h : b.height ≡ 0 = ap (λ (b : Bound). b.height) e in
      omega arith

  pub height : b.height ≡ bound_height I (starts_of S.sections)
  height = elim best.found [ inl e ↦ height_none e | inr r ↦ height_found r.0 r.2 ]

  pub is_bound : IsBoundOf I b
  is_bound = elim best.found [
    | inl e ↦ inl (ap (λ (b : Bound). b.capacity) e)
    | inr r ↦ inr (
      (is_modulus I buffers b.modulus ((same b.modulus).0 r.1)).some,
      height_multiple I b.modulus b.height r.2.height.among,
      sym r.2.height.reached,
    )
  ]
