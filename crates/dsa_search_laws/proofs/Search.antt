-- The search at a smaller capacity, and its work.
use Rattle.std.proofs.Common.{◌≡◌, ℕ, zero, suc, ◌+◌, ◌*◌, ◌≤◌, ◌≢◌, inl, inr, Bool, true, false, cond, ◌==◌, List, [], ◌∷◌, map, length, filter, Option, Some, None, is_some, sym, refl, ap, ◌∙◌, subst, arith, mul-le-mul_right}
use Rattle.std.specs.List.{list_any}
use Rattle.std.proofs.lemmas.Bool.Decides.{nat_tests}
use Rattle.std.specs.Option.{option_or}
use Rattle.dsa_terms.specs.Buffers.{Instance, buffer, IsInstance}
use Rattle.dsa_terms.specs.Claims.{Entry, Claim, IsIn, buffers_of, IsClaim, up, number_of, IsPlacement, IsRefuted, child}
use Rattle.dsa_terms.specs.Search.{is_tall, comes_before, first_some, choices, seated, Rule, not_excluded, first_of, first, work_through, work_of, work}
use Rattle.dsa_terms.proofs.Lists.{any_gives, length-filter_le, length-ordered_by}
use Rattle.dsa_search_laws.specs.Searches.{height, most_work}
use Rattle.dsa_search_laws.proofs.Placing.{above_up, of_child, in_buffers}
use Rattle.dsa_search_laws.proofs.Claims.{number_of-map, not_placed, claim-child, length-child}
use Rattle.dsa_search_laws.proofs.Complete.{put_at, put_at_other, IsComplete, exactly, some_is_placement, seated_none, seated_some, from_choices, tall_is}
use Rattle.dsa_search_laws.proofs.First.{first_is_complete}
use Rattle.dsa_search_laws.proofs.Logs.{places_higher}

-- ---- a smaller capacity
-- two searches through one list that agree on what the first of them comes to
same_search : {X Y : Type 0} (f g : X → Option Y) (xs : List X) (y : Y) → first_some f xs ≡ Some y →
    ((x : X) → IsIn x xs → f x ≡ None → g x ≡ None) → ((x : X) → IsIn x xs → f x ≡ Some y → g x ≡ Some y) →
    first_some g xs ≡ Some y
same_search f g [] y h none some = absurd cc
same_search {X} {Y} f g (x ∷ xs) y h none some =
    go (λ q. same_search f g xs y q (λ z i. none z (inr i)) (λ z i. some z (inr i))) (f x) refl h
  where
    go : (first_some f xs ≡ Some y → first_some g xs ≡ Some y) → (o : Option Y) → f x ≡ o →
        option_or o (first_some f xs) ≡ Some y → option_or (g x) (first_some g xs) ≡ Some y
    go ih None e q = rw (none x (inl refl) e) (ih q)
    go ih (Some v) e q = rw (some x (inl refl) (e ∙ q)) refl

refuted_lower : (I : Instance) (C D : ℕ) (l : Claim) → D ≤ C → IsRefuted I C l → IsRefuted I D l
refuted_lower I C D l le r seats p = not_placed I C l (number_of seats) r
    (places_higher I D C l (number_of seats) le p.places)

-- each buffer of the claim ends at or below D
abbrev pub EndsBy : Instance → ℕ → Claim → (ℕ → ℕ) → Type 0
EndsBy I D l o = (e : Entry) → IsIn e l → o e.0 + (buffer I e.0).size ≤ D

pub lower_of : (I : Instance) (C D : ℕ) (rule : Rule) → IsInstance I → IsComplete I C rule → IsComplete I D rule →
    D ≤ C →
    (k : ℕ) (l : Claim) (seats : List Entry) → length l ≡ k → IsClaim I l → first_of rule k I C l ≡ Some seats →
    EndsBy I D l (number_of seats) → first_of rule k I D l ≡ Some seats
lower_of I C D rule s cc_ cd le zero l seats n c h ends = h
lower_of I C D rule s cc_ cd le (suc k) l seats n c h ends =
    go (lower_of I C D rule s cc_ cd le k) (list_any (is_tall I C) l) refl h (list_any (is_tall I D) l) refl
  where
    placed : IsPlacement I C l seats
    placed = some_is_placement I C rule s (suc k) l seats n c h

    go : ((m : Claim) (seats : List Entry) → length m ≡ k → IsClaim I m → first_of rule k I C m ≡ Some seats →
        EndsBy I D m (number_of seats) → first_of rule k I D m ≡ Some seats) →
        (b : Bool) → list_any (is_tall I C) l ≡ b →
        cond b None (first_some (λ e. seated I l e (first_of rule k I C (child I l e))) (choices I rule l))
        ≡ Some seats →
        (d : Bool) → list_any (is_tall I D) l ≡ d →
        cond d None (first_some (λ e. seated I l e (first_of rule k I D (child I l e))) (choices I rule l)) ≡ Some seats
    go ih true t q d td = absurd cc
    go ih false t q true td = absurd (
        let r = any_gives (is_tall I D) l td in
        let a = tall_is I D r.0 r.2 in let b = above_up I C l (number_of seats) r.0 s placed.places r.1 in
        let e = ends r.0 r.1 in
        omega arith)
    go ih false t q false td = same_search (λ e. seated I l e (first_of rule k I C (child I l e)))
        (λ e. seated I l e (first_of rule k I D (child I l e))) (choices I rule l) seats q none some
      where
        shorter : (e : Entry) → IsIn e l → length (child I l e) ≡ k
        shorter e i = let len = length-child I l e c.rises i in omega arith

        none : (e : Entry) → IsIn e (choices I rule l) → seated I l e (first_of rule k I C (child I l e)) ≡ None →
            seated I l e (first_of rule k I D (child I l e)) ≡ None
        none e j z =
            let i = from_choices I rule l e j in
            let len = shorter e i in
            let at_c : first_of rule (length (child I l e)) I C (child I l e) ≡ None = rw len
            (seated_none I l e (first_of rule k I C (child I l e)) z) in
            let refuted = (exactly I C rule s cc_ (child I l e) (claim-child I l e c)).0 at_c in
            let at_d = (exactly I D rule s cd (child I l e) (claim-child I l e c)).1
            (refuted_lower I C D (child I l e) le refuted) in
            let at_k : first_of rule k I D (child I l e) ≡ None = rw len at at_d in
            rw at_k refl

        some : (e : Entry) → IsIn e (choices I rule l) → seated I l e (first_of rule k I C (child I l e)) ≡ Some seats →
            seated I l e (first_of rule k I D (child I l e)) ≡ Some seats
        some e j z =
            let i = from_choices I rule l e j in
            let r = seated_some I l e (first_of rule k I C (child I l e)) seats z in
            let at_d = ih (child I l e) r.0 (shorter e i) (claim-child I l e c) r.1 (ends_by e r.0 r.2) in
            rw at_d (rw r.1 at z)
          where
            ends_by : (e : Entry) (r : List Entry) → map (λ f. (f.0, put_at e.0 (up I e) (number_of r) f.0)) l ≡ seats →
                EndsBy I D (child I l e) (number_of r)
            ends_by e r q g i =
                let f = of_child I l e g i in
                let a = ends f.0 f.1 in
                let b : number_of seats f.0.0 ≡ put_at e.0 (up I e) (number_of r) f.0.0 = rw (← q)
                (number_of-map (put_at e.0 (up I e) (number_of r)) l f.0 f.1) in
                let d : put_at e.0 (up I e) (number_of r) f.0.0 ≡ number_of r f.0.0 = put_at_other e.0 (up I e)
                (number_of r) f.0.0 f.2 in
                subst (λ (g : Entry). number_of r g.0 + (buffer I g.0).size ≤ D) (sym f.3) (rw (← d, ← b) a)

-- the height of a placement bounds where its buffers end
pub has_seat : (seats : List Entry) (b : ℕ) → IsIn b (buffers_of seats) → IsIn (b, number_of seats b) seats
has_seat [] b i = absurd i
has_seat (x ∷ xs) b i = go (has_seat xs b) (x.0 == b) refl i
  where
    go : (IsIn b (buffers_of xs) → IsIn (b, number_of xs b) xs) → (t : Bool) → (x.0 == b) ≡ t →
        IsIn b (x.0 ∷ buffers_of xs) → IsIn (b, cond t x.1 (number_of xs b)) (x ∷ xs)
    go ih true q j = let h : x.0 ≡ b = (grind (arith, nat_tests)) in
        inl (let e : (b, x.1) ≡ (x.0, x.1) = ap (λ m. (m, x.1)) (sym h) in e)
    go ih false q (inl j) = absurd (let h : x.0 ≢ b = (grind (arith, nat_tests)) in h (sym j))
    go ih false q (inr j) = inr (ih j)

under_height : (I : Instance) (seats : List Entry) (e : Entry) → IsIn e seats →
    e.1 + (buffer I e.0).size ≤ height I seats
under_height I [] e i = absurd i
under_height I (x ∷ xs) e (inl q) = rw q (omega arith)
under_height I (x ∷ xs) e (inr q) = let k = under_height I xs e q in omega arith

pub first_lower : (I : Instance) (C D : ℕ) (l : Claim) (seats : List Entry) → IsInstance I → IsClaim I l →
    first I C l ≡ Some seats → height I seats ≤ D → D ≤ C → first I D l ≡ Some seats
unfolding first
first_lower I C D l seats s c h below le =
    lower_of I C D (not_excluded I) s (first_is_complete I C s) (first_is_complete I D s) le
    (length l) l seats refl c h ends
  where
    placed : IsPlacement I C l seats
    placed = some_is_placement I C (not_excluded I) s (length l) l seats refl c h

    ends : EndsBy I D l (number_of seats)
    ends e i =
        let j : IsIn e.0 (buffers_of seats) = rw placed.same_buffers (in_buffers l e i) in
        let k = under_height I seats (e.0, number_of seats e.0) (has_seat seats e.0 j) in
        omega arith

-- ---- the work
work_through_le : (w : Entry → ℕ) (found : Entry → Bool) (m : ℕ) (es : List Entry) →
    ((e : Entry) → IsIn e es → w e ≤ m) → work_through w found es ≤ length es * m
work_through_le w found m [] h = omega arith
work_through_le w found m (x ∷ xs) h = go (work_through_le w found m xs (λ e i. h e (inr i))) (found x)
  where
    go : work_through w found xs ≤ length xs * m → (b : Bool) →
        w x + cond b 0 (work_through w found xs) ≤ suc (length xs) * m
    go ih true = let k = h x (inl refl) in omega arith
    go ih false = let k = h x (inl refl) in omega arith

pub most_work_pos : (k : ℕ) → 1 ≤ most_work k
most_work_pos zero = omega arith
most_work_pos (suc k) = omega arith

work_of_bounds : (I : Instance) (C k : ℕ) (l : Claim) → IsClaim I l → length l ≡ k →
    (1 ≤ work_of k I C l) × (work_of k I C l ≤ most_work k)
work_of_bounds I C zero l c n = (omega arith, omega arith)
work_of_bounds I C (suc k) l c n = go (work_of_bounds I C k) (list_any (is_tall I C) l)
  where
    rule : Rule
    rule = not_excluded I

    through : ℕ
    through = work_through (λ e. work_of k I C (child I l e)) (λ e. is_some (first_of rule k I C (child I l e)))
        (choices I rule l)

    go : ((m : Claim) → IsClaim I m → length m ≡ k → (1 ≤ work_of k I C m) × (work_of k I C m ≤ most_work k)) →
        (b : Bool) →
        (1 ≤ cond b 1 (1 + through)) × (cond b 1 (1 + through) ≤ 1 + suc k * most_work k)
    go ih true = (omega arith, omega arith)
    go ih false = (
      omega arith,
      (
          let all : through ≤ length (choices I rule l) * most_work k = work_through_le
          (λ e. work_of k I C (child I l e)) (λ e. is_some (first_of rule k I C (child I l e))) (most_work k)
          (choices I rule l)
          (λ e i. (ih (child I l e) (claim-child I l e c)
          (let len = length-child I l e c.rises (from_choices I rule l e i) in omega arith)).1) in
          let a = length-ordered_by (comes_before I) (filter (rule l) l) in
          let b = length-filter_le (rule l) l in
          let count : length (choices I rule l) ≤ suc k = omega arith in
          let more : length (choices I rule l) * most_work k ≤ suc k * most_work k = mul-le-mul_right
          (most_work k) count in
          omega arith),
    )

pub work_bounds : (I : Instance) (C : ℕ) (l : Claim) → IsClaim I l →
    (1 ≤ work I C l) × (work I C l ≤ most_work (length l))
unfolding work
work_bounds I C l c = work_of_bounds I C (length l) l c refl

-- ---- the search and its work as equations, with no count of buffers
same_first : {X Y : Type 0} (f g : X → Option Y) (xs : List X) → ((x : X) → IsIn x xs → f x ≡ g x) →
    first_some f xs ≡ first_some g xs
same_first f g [] h = refl
same_first f g (x ∷ xs) h = rw (h x (inl refl), same_first f g xs (λ y i. h y (inr i))) refl

same_through : (v w : Entry → ℕ) (f g : Entry → Bool) (xs : List Entry) → ((x : Entry) → IsIn x xs → v x ≡ w x) →
    ((x : Entry) → IsIn x xs → f x ≡ g x) → work_through v f xs ≡ work_through w g xs
same_through v w f g [] h k = refl
same_through v w f g (x ∷ xs) h k = rw (
  h x (inl refl),
  k x (inl refl),
  same_through v w f g xs (λ y i. h y (inr i)) (λ y i. k y (inr i)),
) refl

pub first_empty : (I : Instance) (C : ℕ) → first I C [] ≡ Some []
unfolding first
first_empty I C = refl

shorter_by_one : (I : Instance) (l : Claim) (e : Entry) (k : ℕ) → IsClaim I l → length l ≡ suc k →
    IsIn e (choices I (not_excluded I) l) → k ≡ length (child I l e)
shorter_by_one I l e k c n i = let len = length-child I l e c.rises (from_choices I (not_excluded I) l e i) in
    omega arith

pub first_equation : (I : Instance) (C : ℕ) (l : Claim) → IsClaim I l → l ≢ [] →
    first I C l ≡ cond (list_any (is_tall I C) l) None
    (first_some (λ e. seated I l e (first I C (child I l e))) (choices I (not_excluded I) l))
unfolding first
first_equation I C [] c ne = absurd (ne refl)
first_equation I C (x ∷ xs) c ne =
    ap (λ o. cond (list_any (is_tall I C) (x ∷ xs)) None o)
    (same_first (λ e. seated I (x ∷ xs) e (first_of (not_excluded I) (length xs) I C (child I (x ∷ xs) e)))
    (λ e. seated I (x ∷ xs) e (first_of (not_excluded I) (length (child I (x ∷ xs) e)) I C (child I (x ∷ xs) e)))
    (choices I (not_excluded I) (x ∷ xs))
    (λ e i. ap (λ k. seated I (x ∷ xs) e (first_of (not_excluded I) k I C (child I (x ∷ xs) e)))
    (shorter_by_one I (x ∷ xs) e (length xs) c refl i)))

pub work_empty : (I : Instance) (C : ℕ) → work I C [] ≡ 1
unfolding work
work_empty I C = refl

pub work_equation : (I : Instance) (C : ℕ) (l : Claim) → IsClaim I l → l ≢ [] →
    work I C l ≡ cond (list_any (is_tall I C) l) 1
    (1 + work_through (λ e. work I C (child I l e)) (λ e. is_some (first I C (child I l e)))
    (choices I (not_excluded I) l))
unfolding work first
work_equation I C [] c ne = absurd (ne refl)
work_equation I C (x ∷ xs) c ne =
    ap (λ o. cond (list_any (is_tall I C) (x ∷ xs)) 1 (1 + o))
    (same_through (λ e. work_of (length xs) I C (child I (x ∷ xs) e))
    (λ e. work_of (length (child I (x ∷ xs) e)) I C (child I (x ∷ xs) e))
    (λ e. is_some (first_of (not_excluded I) (length xs) I C (child I (x ∷ xs) e)))
    (λ e. is_some (first_of (not_excluded I) (length (child I (x ∷ xs) e)) I C (child I (x ∷ xs) e)))
    (choices I (not_excluded I) (x ∷ xs))
    (λ e i. ap (λ k. work_of k I C (child I (x ∷ xs) e)) (shorter_by_one I (x ∷ xs) e (length xs) c refl i))
    (λ e i. ap (λ k. is_some (first_of (not_excluded I) k I C (child I (x ∷ xs) e)))
    (shorter_by_one I (x ∷ xs) e (length xs) c refl i)))
