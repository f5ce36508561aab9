-- What is left to stand, when a buffer is taken from the claim or put back.
use Rattle.std.proofs.Common.{◌≡◌, ◌≢◌, ◌⊎◌, inl, inr, ◌+◌, ◌-◌, ◌*◌, ◌<◌, ◌≤◌, ◌^◌, ◌==◌, ℕ, suc, Bool, true, false, cond, List, [], ◌∷◌, length, slice_index, slice_index_or, lit≤, ◌↔◌, refl, ap, sym, subst, ◌∙◌, arith}
use Rattle.std.specs.List.{All, filter, sum_by}
use Rattle.std.proofs.lemmas.List.Sums.{sum_by-cons}
use Rattle.std.proofs.lemmas.List.{get_or_past}
use Rattle.dsa_terms.specs.Buffers.{Instance, buffer, no_buffer}
use Rattle.dsa_terms.specs.Parts.{whole}
use Rattle.dsa_search_laws.proofs.Members.{buffers_of-whole}
use Rattle.dsa_terms.specs.Claims.{Claim, Entry, IsIn, Rises, child}
use Rattle.dsa_search_laws.proofs.Placing.{in_buffers}
use Rattle.dsa_terms.proofs.Lists.{any_gives, any_from, true_or_false, from_map}
use Rattle.dsa_terms.proofs.NumberTests.{below_or_from, equal, same}
use Rattle.dsa_model.specs.Buffer.{IsBuffer, buffer_limit}
use Rattle.dsa_model.proofs.Instances.{sound_buffer}
use Rattle.lifetime.specs.SectionList.{count_of, members_of, sections_of, AreSectionsOf, SectionList}
use Rattle.skyline.specs.Places.{set_each}
use Rattle.skyline.specs.Loads.{HasLoads}
use Rattle.lifetime.proofs.Lists.{in_or_not}
use Rattle.skyline.proofs.Places.{set_each-in, set_each-out, length-set_each}
use Rattle.canonical_order.proofs.CoverLemmas.{from_child, in_child_by}
use Rattle.canonical_order.specs.Claims.{entry_of, HasBuffer}
use Rattle.skyline.specs.Overloads.{is_left, free_load}
use Rattle.skyline.proofs.SectionFacts.{member_in, members_rise, few_in, listed_in}

-- the test says what membership says
pub left_gives : (l : Claim) (b : ℕ) → is_left l b ≡ true → HasBuffer l b
unfolding is_left
left_gives l b h = let r = any_gives (λ (e : Entry). e.0 == b) l h in subst (λ x. HasBuffer l x)
    (equal r.0.0 b r.2) (in_buffers l r.0 r.1)

pub gives_left : (l : Claim) (b : ℕ) → HasBuffer l b → is_left l b ≡ true
unfolding is_left
gives_left l b i = let r = from_map (λ (e : Entry). e.0) l b i in any_from (λ (e : Entry). e.0 == b) l r.0 r.1
    (same r.0.0 b (sym r.2))

agree : (s t : Bool) → (s ≡ true → t ≡ true) → (t ≡ true → s ≡ true) → s ≡ t
agree true t h k = sym (h refl)
agree false true h k = k refl
agree false false h k = refl

-- a child leaves all but its buffer
left_other : (I : Instance) (l : Claim) (b c : ℕ) → c ≢ b → is_left (child I l (entry_of l b)) c ≡ is_left l c
left_other I l b c ne =
    agree (is_left (child I l (entry_of l b)) c) (is_left l c)
    (λ h. gives_left l c (from_child I l b c (left_gives (child I l (entry_of l b)) c h)).0)
    (λ h. gives_left (child I l (entry_of l b)) c (in_child_by I l b c (left_gives l c h) ne))

not_left : (I : Instance) (l : Claim) (b : ℕ) → is_left (child I l (entry_of l b)) b ≡ false
not_left I l b = elim (true_or_false (is_left (child I l (entry_of l b)) b)) [
  | inl h ↦ absurd ((from_child I l b b (left_gives (child I l (entry_of l b)) b h)).1 refl)
  | inr h ↦ h
]

-- sums over tests that agree, or differ at one item of a list that rises
same_sum : (f : ℕ → ℕ) (p q : ℕ → Bool) (xs : List ℕ) → ((x : ℕ) → IsIn x xs → p x ≡ q x) →
    sum_by f (filter p xs) ≡ sum_by f (filter q xs)
same_sum f p q [] h = refl
same_sum f p q (x ∷ xs) h = go (same_sum f p q xs (λ y i. h y (inr i))) (p x) refl (q x) refl
  where
    go : sum_by f (filter p xs) ≡ sum_by f (filter q xs) → (s : Bool) → p x ≡ s → (t : Bool) → q x ≡ t →
        sum_by f (cond s (x ∷ filter p xs) (filter p xs)) ≡ sum_by f (cond t (x ∷ filter q xs) (filter q xs))
    go ih true e true g = let k = sum_by-cons f x (filter p xs) in let j = sum_by-cons f x (filter q xs) in omega arith
    go ih false e false g = ih
    go ih true e false g = absurd (let k = h x (inl refl) in cc)
    go ih false e true g = absurd (let k = h x (inl refl) in cc)

one_less : (f : ℕ → ℕ) (p q : ℕ → Bool) (xs : List ℕ) (b : ℕ) → Rises xs → IsIn b xs → p b ≡ true → q b ≡ false →
    ((x : ℕ) → x ≢ b → q x ≡ p x) →
    sum_by f (filter p xs) ≡ f b + sum_by f (filter q xs)
one_less f p q [] b r i pb qb h = absurd i
one_less f p q (x ∷ xs) b r i pb qb h = go (λ j. one_less f p q xs b r.1 j pb qb h) i
  where
    first : (e : b ≡ x) → (s : Bool) → p x ≡ s → (t : Bool) → q x ≡ t →
        sum_by f (cond s (x ∷ filter p xs) (filter p xs)) ≡ f b + sum_by f (cond t (x ∷ filter q xs) (filter q xs))
    first e true g false k =
        let j = sum_by-cons f x (filter p xs) in
        let m = same_sum f p q xs (λ y l. sym (h y (λ z. let w = r.0 y l in absurd (omega arith)))) in
        let n = ap f e in omega arith
    first e false g t k = absurd (let w = ap p e in cc)
    first e true g true k = absurd (let w = ap q e in cc)

    later : sum_by f (filter p xs) ≡ f b + sum_by f (filter q xs) → x ≢ b → (s : Bool) → p x ≡ s → (t : Bool) →
        q x ≡ t → sum_by f (cond s (x ∷ filter p xs) (filter p xs)) ≡ f b + sum_by f
        (cond t (x ∷ filter q xs) (filter q xs))
    later ih ne true g true k = let m = sum_by-cons f x (filter p xs) in let j = sum_by-cons f x (filter q xs) in
        omega arith
    later ih ne false g false k = ih
    later ih ne true g false k = absurd (let w = h x ne in cc)
    later ih ne false g true k = absurd (let w = h x ne in cc)

    go : (IsIn b xs → sum_by f (filter p xs) ≡ f b + sum_by f (filter q xs)) → IsIn b (x ∷ xs) →
        sum_by f (filter p (x ∷ xs)) ≡ f b + sum_by f (filter q (x ∷ xs))
    go ih (inl e) = first e (p x) refl (q x) refl
    go ih (inr j) = later (ih j) (λ e. let w = r.0 b j in absurd (omega arith)) (p x) refl (q x) refl

-- the load of a section of the buffer, and of any other one
pub load_with : (I : Instance) (S : SectionList) (l : Claim) (b s : ℕ) → AreSectionsOf I S → b < length I →
    s < count_of S → HasBuffer l b → IsIn s (sections_of S b) →
    free_load I S l s ≡ (buffer I b).size + free_load I S (child I l (entry_of l b)) s
unfolding free_load
load_with I S l b s p lb ls i j =
    one_less (λ c. (buffer I c).size) (is_left l) (is_left (child I l (entry_of l b))) (members_of S s) b
    (members_rise I S p s ls) ((listed_in I S p s b lb ls).0 j) (gives_left l b i) (not_left I l b)
    (λ c ne. left_other I l b c ne)

pub load_without : (I : Instance) (S : SectionList) (l : Claim) (b s : ℕ) → AreSectionsOf I S → b < length I →
    s < count_of S → (IsIn s (sections_of S b) → ⊥) →
    free_load I S l s ≡ free_load I S (child I l (entry_of l b)) s
unfolding free_load
load_without I S l b s p lb ls out =
    same_sum (λ c. (buffer I c).size) (is_left l) (is_left (child I l (entry_of l b))) (members_of S s)
    (λ c i. sym (left_other I l b c
    (λ e. out ((listed_in I S p s b lb ls).1 (subst (λ x. IsIn x (members_of S s)) e i)))))

-- the loads after a push
pub lighter : (I : Instance) (S : SectionList) (l : Claim) (b : ℕ) (loads : List ℕ) → AreSectionsOf I S →
    b < length I → HasBuffer l b → HasLoads I S l loads →
    HasLoads I S (child I l (entry_of l b)) (set_each (λ s. slice_index loads s - (buffer I b).size)
    (sections_of S b) loads)
lighter I S l b loads p lb i h = record {
  count = length-set_each (λ s. slice_index loads s - (buffer I b).size)
      (sections_of S b) loads ∙ h.count;
  each = each;
}
  where
    each : (s : ℕ) → s < count_of S →
        slice_index (set_each (λ s. slice_index loads s - (buffer I b).size) (sections_of S b) loads) s
        ≡ free_load I S (child I l (entry_of l b)) s
    each s ls = go (in_or_not s (sections_of S b))
      where
        go : IsIn s (sections_of S b) ⊎ (IsIn s (sections_of S b) → ⊥) →
            slice_index (set_each (λ s. slice_index loads s - (buffer I b).size) (sections_of S b) loads) s
            ≡ free_load I S (child I l (entry_of l b)) s
        go (inl j) =
            let e = set_each-in (λ s. slice_index loads s - (buffer I b).size) (sections_of S b) loads s j
            (omega (arith, ls, h.count)) in
            let k = h.each s ls in let m = load_with I S l b s p lb ls i j in omega arith
        go (inr out) = set_each-out (λ s. slice_index loads s - (buffer I b).size) (sections_of S b) loads s out
            ∙ h.each s ls ∙ load_without I S l b s p lb ls out

-- and after a pop
pub heavier : (I : Instance) (S : SectionList) (l : Claim) (b : ℕ) (loads : List ℕ) → AreSectionsOf I S →
    b < length I → HasBuffer l b → HasLoads I S (child I l (entry_of l b)) loads →
    HasLoads I S l (set_each (λ s. slice_index loads s + (buffer I b).size) (sections_of S b) loads)
heavier I S l b loads p lb i h = record {
  count = length-set_each (λ s. slice_index loads s + (buffer I b).size)
      (sections_of S b) loads ∙ h.count;
  each = each;
}
  where
    each : (s : ℕ) → s < count_of S →
        slice_index (set_each (λ s. slice_index loads s + (buffer I b).size) (sections_of S b) loads) s
        ≡ free_load I S l s
    each s ls = go (in_or_not s (sections_of S b))
      where
        go : IsIn s (sections_of S b) ⊎ (IsIn s (sections_of S b) → ⊥) →
            slice_index (set_each (λ s. slice_index loads s + (buffer I b).size) (sections_of S b) loads) s
            ≡ free_load I S l s
        go (inl j) =
            let e = set_each-in (λ s. slice_index loads s + (buffer I b).size) (sections_of S b) loads s j
            (omega (arith, ls, h.count)) in
            let k = h.each s ls in let m = load_with I S l b s p lb ls i j in omega arith
        go (inr out) = set_each-out (λ s. slice_index loads s + (buffer I b).size) (sections_of S b) loads s out
            ∙ h.each s ls ∙ sym (load_without I S l b s p lb ls out)

-- ---- limits
past_the_end : (I : Instance) (b : ℕ) → length I ≤ b → buffer I b ≡ no_buffer
unfolding buffer
past_the_end I b le = get_or_past I b no_buffer le

size_limited : (I : Instance) (b : ℕ) → All IsBuffer I → (buffer I b).size ≤ 2 ^ 40
size_limited I b h = go (below_or_from b (length I))
  where
    go : (b < length I) ⊎ (length I ≤ b) → (buffer I b).size ≤ 2 ^ 40
    go (inl lt) = (sound_buffer I b h lt).within_size
    go (inr le) = rw (past_the_end I b le) (lit≤ tt)

sum_limited : (f : ℕ → ℕ) (p : ℕ → Bool) (xs : List ℕ) (K : ℕ) → ((x : ℕ) → f x ≤ K) →
    sum_by f (filter p xs) ≤ length xs * K
sum_limited f p [] K h = omega arith
sum_limited f p (x ∷ xs) K h = go (sum_limited f p xs K h) (p x)
  where
    go : sum_by f (filter p xs) ≤ length xs * K → (t : Bool) → sum_by f (cond t (x ∷ filter p xs) (filter p xs)) ≤ suc
        (length xs) * K
    go ih true = let k = sum_by-cons f x (filter p xs) in let j = h x in omega arith
    go ih false = omega arith

pub load_limited : (I : Instance) (S : SectionList) (l : Claim) (s : ℕ) → All IsBuffer I → length I ≤ buffer_limit →
    AreSectionsOf I S → s < count_of S → free_load I S l s ≤ buffer_limit * 2 ^ 40
unfolding free_load
load_limited I S l s h n p ls =
    let k = sum_limited (λ c. (buffer I c).size) (is_left l) (members_of S s) (2 ^ 40) (λ c. size_limited I c h) in
    let f = few_in I S p s ls in omega arith

-- ---- the loads of a new skyline
pub first_has_loads : (I : Instance) (S : SectionList) (members ls : List ℕ) (flags : List Bool) → AreSectionsOf I S →
    length ls ≡ count_of S → ((s : ℕ) → s < count_of S → slice_index ls s ≡ sum_by (λ b. (buffer I b).size)
    (filter (λ b. slice_index_or flags b false) (members_of S s))) →
    ((c : ℕ) → c < length I → (slice_index_or flags c false ≡ true) ↔ IsIn c members) →
    HasLoads I S (whole I members) ls
unfolding free_load
first_has_loads I S members ls flags p count each marks = record {
  count = count;
  each = λ s ls'. each s ls' ∙ same_sum (λ b. (buffer I b).size) (λ b. slice_index_or flags b false)
      (is_left (whole I members)) (members_of S s)
      (λ c i. agree (slice_index_or flags c false) (is_left (whole I members) c)
      (λ h. gives_left (whole I members) c (subst (IsIn c) (sym (buffers_of-whole I members))
      ((marks c (member_in I S p s c ls' i)).0 h)))
      (λ h. (marks c (member_in I S p s c ls' i)).1 (subst (IsIn c) (buffers_of-whole I members)
      (left_gives (whole I members) c h))));
}
