-- What is left where each buffer is dropped that the others do not need.
use Rattle.std.proofs.Common.{◌≡◌, ◌≢◌, ℕ, ◌<◌, ◌⊎◌, inl, inr, true, not, ◌==◌, List, [], ◌∷◌, ◌++◌, length, refl, sym, ◌∙◌, subst, append_assoc}
use Rattle.std.proofs.lemmas.List.{append-nil}
use Rattle.dsa_terms.specs.Buffers.{Buffer, Instance, buffer, IsInstance, IsSound, no_buffer}
use Rattle.dsa_terms.specs.Claims.{IsIn, Rises}
use Rattle.dsa_terms.specs.Layouts.{IsFeasible, IsInfeasible}
use Rattle.dsa_terms.specs.Parts.{numbers, searched}
use Rattle.dsa_terms.proofs.Lists.{from_append, from_filter, from_map, into_filter, left_append, none_or_some, right_append}
use Rattle.dsa_terms.proofs.Moments.{not_true}
use Rattle.dsa_terms.proofs.NumberTests.{apart, differ}
use Rattle.dsa_terms.proofs.Places.{all_from_in}
use Rattle.dsa_terms.proofs.Ranges.{below, rises-filter_numbers, rises-range}
use Rattle.dsa_search_laws.proofs.Parts.{searched_exactly, searched_is_layout}
use Rattle.core_find.specs.Cores.{AreAmong, IsCore, IsLeft, without}
use Rattle.dsa_model.specs.Chosen.{some_of}
use Rattle.core_find.proofs.Some.{fewer_fit, some_of_all}

-- ---- lists
pub to_middle : (xs ys : List ℕ) (x b : ℕ) → IsIn b (xs ++ ys) → IsIn b (xs ++ x ∷ ys)
to_middle xs ys x b i = elim (from_append xs ys b i) [
  | inl j ↦ left_append xs (x ∷ ys) b j
  | inr j ↦ right_append xs (x ∷ ys) b (inr j)
]

pub rises_without : (xs ys : List ℕ) (x : ℕ) → Rises (xs ++ x ∷ ys) → Rises (xs ++ ys)
rises_without [] ys x r = r.1
rises_without (z ∷ zs) ys x r = ((λ y i. r.0 y (to_middle zs ys x y i)), rises_without zs ys x r.1)

-- one that is kept stands before those that follow, whichever list it is put in
pub moved : (xs ys : List ℕ) (x : ℕ) → xs ++ x ∷ ys ≡ (xs ++ x ∷ []) ++ ys
moved xs ys x = sym (append_assoc xs (x ∷ []) ys)

-- ---- who is left
kept_stay : (I : Instance) (C : ℕ) (following kept ms : List ℕ) → IsLeft I C kept following ms → AreAmong kept ms
kept_stay I C [] kept ms h b i = subst (λ (xs : List ℕ). IsIn b xs) (sym h) i
kept_stay I C (x ∷ xs) kept ms (inl h) b i = kept_stay I C xs kept ms h.1 b i
kept_stay I C (x ∷ xs) kept ms (inr h) b i = kept_stay I C xs (kept ++ x ∷ []) ms h.1 b (left_append kept (x ∷ []) b i)

left_are_given : (I : Instance) (C : ℕ) (following kept ms : List ℕ) → IsLeft I C kept following ms →
    AreAmong ms (kept ++ following)
left_are_given I C [] kept ms h b i = left_append kept [] b (subst (λ (xs : List ℕ). IsIn b xs) h i)
left_are_given I C (x ∷ xs) kept ms (inl h) b i = to_middle kept xs x b (left_are_given I C xs kept ms h.1 b i)
left_are_given I C (x ∷ xs) kept ms (inr h) b i =
    subst (λ (ys : List ℕ). IsIn b ys) (sym (moved kept xs x)) (left_are_given I C xs (kept ++ x ∷ []) ms h.1 b i)

left_rise : (I : Instance) (C : ℕ) (following kept ms : List ℕ) → Rises (kept ++ following) →
    IsLeft I C kept following ms → Rises ms
left_rise I C [] kept ms r h = subst (λ (xs : List ℕ). Rises xs) (append-nil kept ∙ sym h) r
left_rise I C (x ∷ xs) kept ms r (inl h) = left_rise I C xs kept ms (rises_without kept xs x r) h.1
left_rise I C (x ∷ xs) kept ms r (inr h) =
    left_rise I C xs (kept ++ x ∷ []) ms (subst (λ (ys : List ℕ). Rises ys) (moved kept xs x) r) h.1

-- ---- they do not fit
left_do_not_fit : (I : Instance) (C : ℕ) (following kept ms : List ℕ) →
    IsInfeasible (some_of I (kept ++ following)) C → IsLeft I C kept following ms → IsInfeasible (some_of I ms) C
left_do_not_fit I C [] kept ms n h =
    subst (λ (xs : List ℕ). IsInfeasible (some_of I xs) C) (append-nil kept ∙ sym h) n
left_do_not_fit I C (x ∷ xs) kept ms n (inl h) = left_do_not_fit I C xs kept ms h.0 h.1
left_do_not_fit I C (x ∷ xs) kept ms n (inr h) =
    left_do_not_fit I C xs (kept ++ x ∷ []) ms
    (subst (λ (ys : List ℕ). IsInfeasible (some_of I ys) C) (moved kept xs x) n) h.1

-- ---- without one of them they do
pub from_without : (b : ℕ) (ms : List ℕ) (c : ℕ) → IsIn c (without b ms) → IsIn c ms × (c ≢ b)
from_without b ms c i =
    let r = from_filter (λ c. not (c == b)) ms c i in (r.0, differ c b (not_true (c == b) r.1))

rest_fits : (I : Instance) (C b : ℕ) (following kept ms : List ℕ) → Rises ms → IsLeft I C kept following ms →
    IsIn b ms → IsIn b kept ⊎ IsFeasible (some_of I (without b ms)) C
rest_fits I C b [] kept ms r h i = inl (subst (λ (xs : List ℕ). IsIn b xs) h i)
rest_fits I C b (x ∷ xs) kept ms r (inl h) i = rest_fits I C b xs kept ms r h.1 i
rest_fits I C b (x ∷ xs) kept ms r (inr h) i = elim (rest_fits I C b xs (kept ++ x ∷ []) ms r h.1 i) [
  | inr f ↦ inr f
  | inl j ↦ elim (from_append kept (x ∷ []) b j) [
    | inl k ↦ inl k
    | inr k ↦ inr (last k)
  ]
]
  where
    others : b ≡ x → AreAmong (without b ms) (kept ++ xs)
    others e c j =
        let r = from_without b ms c j in
        elim (from_append (kept ++ x ∷ []) xs c (left_are_given I C xs (kept ++ x ∷ []) ms h.1 c r.0)) [
          | inr k ↦ right_append kept xs c k
          | inl k ↦ elim (from_append kept (x ∷ []) c k) [
            | inl m ↦ left_append kept xs c m
            | inr m ↦ elim m [ inl q ↦ absurd (r.1 (q ∙ sym e)) | inr z ↦ absurd z ]
          ]
        ]

    last : IsIn b (x ∷ []) → IsFeasible (some_of I (without b ms)) C
    last (inl e) =
        fewer_fit I C (without b ms) (kept ++ xs) (rises-filter_numbers (λ c. not (c == b)) ms r) (others e) h.0
    last (inr z) = absurd z

-- ---- the core
pub core_members : (I : Instance) (C : ℕ) (ms : List ℕ) → IsCore I C ms →
    Rises ms × ((b : ℕ) → IsIn b ms → b < length I)
core_members I C ms h = (
  left_rise I C (numbers (length I)) [] ms (rises-range (length I) 0) h.left,
  λ b i. below (length I) b (left_are_given I C (numbers (length I)) [] ms h.left b i),
)

pub core_does_not_fit : (I : Instance) (C : ℕ) (ms : List ℕ) → IsCore I C ms → IsInfeasible (some_of I ms) C
core_does_not_fit I C ms h =
    left_do_not_fit I C (numbers (length I)) [] ms
    (subst (λ (J : Instance). IsInfeasible J C) (sym (some_of_all I)) h.infeasible) h.left

pub core_rest_fits : (I : Instance) (C b : ℕ) (ms : List ℕ) → IsCore I C ms → IsIn b ms →
    IsFeasible (some_of I (without b ms)) C
core_rest_fits I C b ms h i = elim (rest_fits I C b (numbers (length I)) [] ms (core_members I C ms h).0 h.left i) [
  | inl z ↦ absurd z
  | inr f ↦ f
]

pub core_is_least : (I : Instance) (C b : ℕ) (ms ks : List ℕ) → IsCore I C ms → Rises ks → AreAmong ks ms → IsIn b ms →
    (IsIn b ks → ⊥) → IsFeasible (some_of I ks) C
core_is_least I C b ms ks h r sub i out =
    fewer_fit I C ks (without b ms) r
    (λ c j. into_filter (λ c. not (c == b)) ms c (sub c j) (off c j))
    (core_rest_fits I C b ms h i)
  where
    off : (c : ℕ) → IsIn c ks → not (c == b) ≡ true
    off c j = rw (apart c b (λ e. out (subst (λ (x : ℕ). IsIn x ks) e j))) refl

-- ---- there is one, and no second
one_left : (I : Instance) (C : ℕ) (following kept ms ns : List ℕ) → IsLeft I C kept following ms →
    IsLeft I C kept following ns → ms ≡ ns
one_left I C [] kept ms ns p q = p ∙ sym q
one_left I C (x ∷ xs) kept ms ns (inl p) (inl q) = one_left I C xs kept ms ns p.1 q.1
one_left I C (x ∷ xs) kept ms ns (inl p) (inr q) = absurd (p.0 q.0.0 q.0.1)
one_left I C (x ∷ xs) kept ms ns (inr p) (inl q) = absurd (q.0 p.0.0 p.0.1)
one_left I C (x ∷ xs) kept ms ns (inr p) (inr q) = one_left I C xs (kept ++ x ∷ []) ms ns p.1 q.1

pub one_core : (I : Instance) (C : ℕ) (ms ns : List ℕ) → IsCore I C ms → IsCore I C ns → ms ≡ ns
one_core I C ms ns p q = one_left I C (numbers (length I)) [] ms ns p.left q.left

pub some_are_sound : (I : Instance) (ms : List ℕ) → IsInstance I → ((b : ℕ) → IsIn b ms → b < length I) →
    IsInstance (some_of I ms)
unfolding buffer
some_are_sound I ms s h = all_from_in IsSound (some_of I ms) each
  where
    each : (x : Buffer) → IsIn x (some_of I ms) → IsSound x
    each x i = let r = from_map (buffer I) ms x i in
        subst IsSound (sym r.2) (s r.0 no_buffer (h r.0 r.1))

some_left : (I : Instance) (C : ℕ) (following kept : List ℕ) → IsInstance I →
    ((b : ℕ) → IsIn b (kept ++ following) → b < length I) → (ms : List ℕ) × IsLeft I C kept following ms
some_left I C [] kept s h = (kept, refl)
some_left I C (x ∷ xs) kept s h = elim (none_or_some (searched (some_of I (kept ++ xs)) C)) [
  | inl n ↦ (let r = some_left I C xs kept s fewer in
      (r.0, inl ((searched_exactly (some_of I (kept ++ xs)) C sound).0 n, r.1)))
  | inr f ↦ (let r = some_left I C xs (kept ++ x ∷ []) s
      (λ b i. h b (subst (λ (ys : List ℕ). IsIn b ys) (sym (moved kept xs x)) i)) in
      (r.0, inr ((f.0, searched_is_layout (some_of I (kept ++ xs)) C f.0 sound f.1), r.1)))
]
  where
    fewer : (b : ℕ) → IsIn b (kept ++ xs) → b < length I
    fewer b i = h b (to_middle kept xs x b i)

    sound : IsInstance (some_of I (kept ++ xs))
    sound = some_are_sound I (kept ++ xs) s fewer

pub has_core : (I : Instance) (C : ℕ) → IsInstance I → IsInfeasible I C → (ms : List ℕ) × IsCore I C ms
has_core I C s n =
    let r = some_left I C (numbers (length I)) [] s (λ b i. below (length I) b i) in
    (r.0, record { infeasible = n; left = r.1 })
