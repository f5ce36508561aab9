-- The lower bound: its one line is legal at each smaller capacity, from the least height on, and so it is low.
use Rattle.std.proofs.Common.{◌≡◌, ℕ, zero, suc, ◌+◌, ◌%◌, ◌<◌, ◌≤◌, ◌≢◌, ◌⊎◌, inl, inr, Bool, true, false, ◌==◌, cond, List, [], ◌∷◌, map, length, slice_get, take, find, max, Some, sym, refl, ◌∙◌, subst, arith}
use Rattle.dsa_terms.specs.Buffers.{Buffer, Instance, buffer, is_live, IsInstance, floor}
use Rattle.dsa_terms.specs.Layouts.{IsFeasible}
use Rattle.dsa_terms.specs.Claims.{IsIn}
use Rattle.dsa_terms.specs.Logs.{greatest, Line, IsLegal, IsAccepted}
use Rattle.dsa_terms.specs.Parts.{numbers}
use Rattle.dsa_terms.specs.Bounds.{stack, moduli, heights, moments, highest_at, highest_stack, lower_bound, line_height, stack_line, stack_log}
use Rattle.dsa_terms.proofs.Lists.{from_map, from_filter, into_filter, nil_or_not}
use Rattle.dsa_terms.proofs.Moments.{live_before, sound}
use Rattle.dsa_terms.proofs.NumberTests.{below_or_from, equal, same}
use Rattle.dsa_terms.proofs.Ranges.{into_range}
use Rattle.dsa_start_laws.specs.Piles.{counted_buffers, pile}
use Rattle.dsa_start_laws.specs.Reaching.{IsReached}
use Rattle.dsa_search_laws.proofs.Logs.{in_greatest, accepted_is_infeasible}
use Rattle.dsa_search_laws.proofs.Cuts.{item}
use Rattle.dsa_start_laws.proofs.Piles.{in_counted, over_stack, stack_of_none}
use Rattle.dsa_start_laws.proofs.OverLines.{line_is_legal, height_is_over, height_is_multiple, height_is_least, line_is_whole}

pub found_in : {X : Type 0} (p : X → Bool) (xs : List X) (x : X) → find p xs ≡ Some x → IsIn x xs
found_in p [] x h = absurd cc
found_in {X} p (y ∷ ys) x h = go (found_in p ys x) (p y) h
  where
    go : (find p ys ≡ Some x → IsIn x ys) → (b : Bool) → cond b (Some y) (find p ys) ≡ Some x → IsIn x (y ∷ ys)
    go ih true q = inl cc
    go ih false q = inr (ih q)

pub found_passes : {X : Type 0} (p : X → Bool) (xs : List X) (x : X) → find p xs ≡ Some x → p x ≡ true
found_passes p [] x h = absurd cc
found_passes {X} p (y ∷ ys) x h = go (found_passes p ys x) (p y) refl h
  where
    go : (find p ys ≡ Some x → p x ≡ true) → (b : Bool) → p y ≡ b → cond b (Some y) (find p ys) ≡ Some x → p x ≡ true
    go ih true e q = let z : y ≡ x = cc in rw (← z) e
    go ih false e q = ih q

pub stack_is_accepted : (I : Instance) (t H G C : ℕ) → 1 ≤ G → H % G ≡ 0 → C < stack I t H G →
    IsAccepted I (stack_log I t H G C)
unfolding stack_log
stack_is_accepted I t H G C pos m lt = record {
  same_count = refl;
  legal = legal;
  whole = (
    stack_line I t H G (line_height I t H G C),
    refl,
    line_is_whole I t H G (line_height I t H G C)
        (height_is_least I t H G C H pos m over.1),
  );
}
  where
    over : (counted_buffers I t H G ≢ []) × (C < H + pile I t H G)
    over = over_stack I t H G C lt

    ok : (earlier : List Line) → IsLegal I C earlier (stack_line I t H G (line_height I t H G C))
    ok earlier = line_is_legal I t H G (line_height I t H G C) C earlier pos (height_is_multiple I t H G C pos) over.0
        (height_is_over I t H G C pos)

    legal : (k : ℕ) (line : Line) → slice_get (stack_line I t H G (line_height I t H G C) ∷ []) k ≡ Some line →
        IsLegal I C (take k (stack_line I t H G (line_height I t H G C) ∷ [])) line
    legal zero line h = let e : stack_line I t H G (line_height I t H G C) ≡ line = cc in rw (← e) (ok [])
    legal (suc k) line h = absurd cc

-- ---- the greatest is reached
pub greatest_is : (xs : List ℕ) → (greatest xs ≡ 0) ⊎ IsIn (greatest xs) xs
greatest_is [] = inl refl
greatest_is (x ∷ xs) = go (greatest xs) (greatest_is xs) (cases x (greatest xs))
  where
    cases : (x g : ℕ) → (g ≤ x) ⊎ (x < g)
    cases x g = grind arith

    go : (g : ℕ) → (g ≡ 0) ⊎ IsIn g xs → (g ≤ x) ⊎ (x < g) → (max x g ≡ 0) ⊎ IsIn (max x g) (x ∷ xs)
    go g r (inl le) = inr (inl (omega arith))
    go g (inl z) (inr lt) = absurd (omega arith)
    go g (inr i) (inr lt) = let e : max x g ≡ g = omega arith in
        subst (λ (m : ℕ). (m ≡ 0) ⊎ IsIn m (x ∷ xs)) (sym e) (inr (inr i))

-- the greatest of the images of some items is 0 or that of one of them
pub greatest_of : (f : ℕ → ℕ) (xs : List ℕ) →
    (greatest (map f xs) ≡ 0) ⊎ ((x : ℕ) × IsIn x xs × (greatest (map f xs) ≡ f x))
greatest_of f xs = elim (greatest_is (map f xs)) [
  | inl z ↦ inl z
  | inr i ↦ inr (from_map f xs (greatest (map f xs)) i)
]

pub at_reached : (I : Instance) (t G : ℕ) →
    (highest_at I t G ≡ 0) ⊎ ((H : ℕ) × IsIn H (heights I G) × (highest_at I t G ≡ stack I t H G))
unfolding highest_at
at_reached I t G = greatest_of (λ H. stack I t H G) (heights I G)

highest_reached : (I : Instance) (G : ℕ) →
    (highest_stack I G ≡ 0)
    ⊎ ((t : ℕ) × (H : ℕ) × IsIn H (heights I G) × (highest_stack I G ≡ stack I t H G))
unfolding highest_stack
highest_reached I G = elim (greatest_of (λ t. highest_at I t G) (moments I)) [
  | inl z ↦ inl z
  | inr r ↦ elim (at_reached I r.0 G) [
    | inl z ↦ inl (r.2 ∙ z)
    | inr h ↦ inr (r.0, h.0, h.1, r.2 ∙ h.2)
  ]
]

pub bound_reached : (I : Instance) → (lower_bound I ≡ 0) ⊎ IsReached I (lower_bound I)
unfolding lower_bound
bound_reached I = go (greatest_of (highest_stack I) (moduli I))
  where
    go : (greatest (map (highest_stack I) (moduli I)) ≡ 0)
        ⊎ ((G : ℕ) × IsIn G (moduli I) × (greatest (map (highest_stack I) (moduli I)) ≡ highest_stack I G)) →
        (greatest (map (highest_stack I) (moduli I)) ≡ 0) ⊎ IsReached I (greatest (map (highest_stack I) (moduli I)))
    go (inl z) = inl z
    go (inr r) = elim (highest_reached I r.0) [
      | inl z ↦ inl (r.2 ∙ z)
      | inr m ↦ inr (record {
        modulus = r.0;
        moment = m.0;
        height = m.1;
        among = r.1;
        from = m.2;
        reached = r.2 ∙ m.3;
      })
    ]

aligned : (J : Instance) (b : Buffer) → ((c : ℕ) → c < length J → 1 ≤ (buffer J c).alignment) → IsIn b J →
    1 ≤ b.alignment
unfolding buffer
aligned [] b h i = absurd i
aligned (x ∷ xs) b h (inl q) = rw q (h 0 (omega arith))
aligned (x ∷ xs) b h (inr j) = aligned xs b (λ c lt. h (suc c) (omega arith)) j

-- each modulus in question is at least 1, and each height by it a multiple
modulus_positive : (I : Instance) (G : ℕ) → IsInstance I → IsIn G (moduli I) → 1 ≤ G
unfolding moduli
modulus_positive I G s (inl q) = omega arith
modulus_positive I G s (inr i) = let r = from_map (λ (b : Buffer). b.alignment) I G i in
    let k = aligned I r.0 (λ b lt. (sound I b s).1) r.1 in let q = r.2 in omega arith

pub height_multiple : (I : Instance) (G H : ℕ) → IsIn H (heights I G) → H % G ≡ 0
unfolding heights
height_multiple I G H i = equal (H % G) 0 (from_filter (λ H. H % G == 0) (0 ∷ map floor I) H i).1

pub zero_height : (I : Instance) (G : ℕ) → IsIn 0 (heights I G)
unfolding heights
zero_height I G = into_filter (λ H. H % G == 0) (0 ∷ map floor I) 0 (inl refl) (same (0 % G) 0 (zero_multiple G))
  where
    zero_multiple : (G : ℕ) → 0 % G ≡ 0
    zero_multiple G = omega arith

-- ---- the lower bound is at most each capacity with a layout
pub stack_is_low : (I : Instance) (t H G C : ℕ) → IsInstance I → 1 ≤ G → H % G ≡ 0 → IsFeasible I C →
    stack I t H G ≤ C
unfolding stack_log
stack_is_low I t H G C s pos m f = go (below_or_from C (stack I t H G))
  where
    go : (C < stack I t H G) ⊎ (stack I t H G ≤ C) → stack I t H G ≤ C
    go (inl lt) = absurd
        (accepted_is_infeasible I (stack_log I t H G C) s (stack_is_accepted I t H G C pos m lt) f.0 f.1)
    go (inr le) = le

pub bound_is_low : (I : Instance) (C : ℕ) → IsInstance I → IsFeasible I C → lower_bound I ≤ C
bound_is_low I C s f = elim (bound_reached I) [
  | inl z ↦ omega arith
  | inr r ↦ (let k = stack_is_low I r.moment r.height r.modulus C s (modulus_positive I r.modulus s r.among)
      (height_multiple I r.modulus r.height r.from) f in
      let e = r.reached in omega arith)
]

-- ---- no stack is above the lower bound, and a buffer that is live at some moment lifts it above 0
pub no_stack_past : (I : Instance) (t H G : ℕ) → ((b : ℕ) → IsIn b (counted_buffers I t H G) → ⊥) → stack I t H G ≡ 0
no_stack_past I t H G h = elim (nil_or_not (counted_buffers I t H G)) [
  | inl e ↦ stack_of_none I t H G e
  | inr b ↦ absurd (h b.0 b.1)
]

-- nothing is live at t
abbrev pub IsDead : Instance → ℕ → Type 0
IsDead I t = (b : ℕ) → b < length I → is_live (buffer I b) t ≡ true → ⊥

pub dead_stack : (I : Instance) (t H G : ℕ) → IsDead I t → stack I t H G ≡ 0
dead_stack I t H G d = no_stack_past I t H G (λ b i. let r = in_counted I t H G b i in d b r.0 r.1)

-- what is 0 where nothing is live comes to its greatest at one of the moments
pub under_moments : (I : Instance) (f : ℕ → ℕ) (t : ℕ) → (IsDead I t → f t ≡ 0) → f t ≤ greatest (map f (moments I))
unfolding moments
under_moments I f t z = go (below_or_from t (greatest (map (λ (b : Buffer). b.upper) I)))
  where
    go : (t < greatest (map (λ (b : Buffer). b.upper) I)) ⊎ (greatest (map (λ (b : Buffer). b.upper) I) ≤ t) →
        f t ≤ greatest (map f (numbers (greatest (map (λ (b : Buffer). b.upper) I))))
    go (inl lt) = in_greatest f (numbers (greatest (map (λ (b : Buffer). b.upper) I))) t
        (into_range (greatest (map (λ (b : Buffer). b.upper) I)) 0 t (omega arith) (omega arith))
    go (inr le) =
        let q = z (λ b lt live. let k = live_before (buffer I b) t live in
        let m = in_greatest (λ (b : Buffer). b.upper) I (buffer I b) (item I b lt) in omega arith) in
        omega arith

pub greatest_all : (f : ℕ → ℕ) (xs : List ℕ) (n : ℕ) → ((x : ℕ) → IsIn x xs → f x ≤ n) → greatest (map f xs) ≤ n
greatest_all f [] n h = omega arith
greatest_all f (x ∷ xs) n h = let a = h x (inl refl) in let b = greatest_all f xs n (λ y i. h y (inr i)) in omega arith

pub stack_under_at : (I : Instance) (t H G : ℕ) → IsIn H (heights I G) → stack I t H G ≤ highest_at I t G
unfolding highest_at
stack_under_at I t H G i = in_greatest (λ H. stack I t H G) (heights I G) H i

dead_at : (I : Instance) (t G : ℕ) → IsDead I t → highest_at I t G ≡ 0
unfolding highest_at
dead_at I t G d = let k = greatest_all (λ H. stack I t H G) (heights I G) 0
    (λ H i. let z = dead_stack I t H G d in omega arith) in omega arith

pub at_under_highest : (I : Instance) (t G : ℕ) → highest_at I t G ≤ greatest (map (λ t. highest_at I t G) (moments I))
at_under_highest I t G = under_moments I (λ t. highest_at I t G) t (dead_at I t G)

pub stack_under_bound : (I : Instance) (t H G : ℕ) → IsIn G (moduli I) → IsIn H (heights I G) →
    stack I t H G ≤ lower_bound I
unfolding lower_bound highest_stack
stack_under_bound I t H G i j =
    let c = stack_under_at I t H G j in
    let a = at_under_highest I t G in
    let b = in_greatest (highest_stack I) (moduli I) G i in
    omega arith
