-- Lists without the item at one place, and layouts without one buffer.
use Rattle.std.proofs.Common.{◌≡◌, ◌≢◌, ℕ, zero, suc, ◌+◌, ◌-◌, ◌<◌, ◌≤◌, ◌⊎◌, inl, inr, List, [], ◌∷◌, ◌++◌, length, take, drop, slice_index, slice_index_or, All, refl, sym, ap, ◌∙◌, subst, arith}
use Rattle.std.proofs.lemmas.List.Edits.{get_or-remove_above, get_or-remove_below, length-remove}
use Rattle.std.specs.List.{remove}
use Rattle.dsa_terms.specs.Buffers.{Buffer, Instance, buffer, IsLive, no_buffer}
use Rattle.dsa_terms.specs.Claims.{IsIn, Rises}
use Rattle.dsa_terms.specs.Layouts.{IsApart, IsLayout}
use Rattle.dsa_model.specs.Chosen.{some_of}
use Rattle.core_find.proofs.Left.{rises_without}

-- ---- places
-- place i of the others was place j
abbrev IsFrom : ℕ → ℕ → ℕ → Type 0
IsFrom k i j = ((i < k) × (j ≡ i)) ⊎ ((k ≤ i) × (j ≡ i + 1))

was : (k i : ℕ) → (j : ℕ) × IsFrom k i j
was k i = go (cases i k)
  where
    cases : (i k : ℕ) → (i < k) ⊎ (k ≤ i)
    cases i k = grind arith

    go : (i < k) ⊎ (k ≤ i) → (j : ℕ) × IsFrom k i j
    go (inl lt) = (i, inl (lt, refl))
    go (inr le) = (i + 1, inr (le, refl))

was_item : {X : Type 0} (xs : List X) (k i j : ℕ) (d : X) → k < length xs → IsFrom k i j →
    slice_index_or (remove xs k) i d ≡ slice_index_or xs j d
was_item xs k i j d lt (inl f) = get_or-remove_below xs k d i f.0 lt ∙ ap (λ n. slice_index_or xs n d) (sym f.1)
was_item xs k i j d lt (inr f) = get_or-remove_above xs k d i f.0 lt ∙ ap (λ n. slice_index_or xs n d) (sym f.1)

was_buffer : (J : Instance) (k b j : ℕ) → k < length J → IsFrom k b j → buffer (remove J k) b ≡ buffer J j
unfolding buffer
was_buffer J k b j lt f = was_item J k b j no_buffer lt f

was_in : (k i j n m : ℕ) → IsFrom k i j → i < n → n + 1 ≡ m → j < m
was_in k i j n m (inl f) lt e = let q = f.1 in omega arith
was_in k i j n m (inr f) lt e = let q = f.1 in omega arith

was_apart : (k a b i j : ℕ) → IsFrom k a i → IsFrom k b j → a ≢ b → i ≢ j
was_apart k a b i j (inl f) (inl g) ne e = ne (let p = f.1 in let q = g.1 in omega arith)
was_apart k a b i j (inl f) (inr g) ne e = let p = f.1 in let q = g.1 in let l = f.0 in let m = g.0 in omega arith
was_apart k a b i j (inr f) (inl g) ne e = let p = f.1 in let q = g.1 in let l = f.0 in let m = g.0 in omega arith
was_apart k a b i j (inr f) (inr g) ne e = ne (let p = f.1 in let q = g.1 in omega arith)

-- ---- a layout without one buffer is one of the others
pub removed_layout : (J : Instance) (C k : ℕ) (offsets : List ℕ) → k < length J → IsLayout J C offsets →
    IsLayout (remove J k) C (remove offsets k)
removed_layout J C k offsets lt l = record {
  count = (let a = length-remove offsets k there in let b = long in let c = l.count in omega arith);
  aligned = λ b lb. let w = was k b in
      rw (same_buffer b w.0 w.1, same_offset b w.0 w.1) (l.aligned w.0 (within b w.0 w.1 lb));
  above = λ b lb. let w = was k b in
      rw (same_buffer b w.0 w.1, same_offset b w.0 w.1) (l.above w.0 (within b w.0 w.1 lb));
  within = λ b lb. let w = was k b in
      rw (same_buffer b w.0 w.1, same_offset b w.0 w.1) (l.within w.0 (within b w.0 w.1 lb));
  apart = apart;
}
  where
    there : k < length offsets
    there = let c = l.count in omega arith

    long : length (remove J k) + 1 ≡ length J
    long = length-remove J k lt

    within : (b j : ℕ) → IsFrom k b j → b < length (remove J k) → j < length J
    within b j f lb = was_in k b j (length (remove J k)) (length J) f lb long

    same_buffer : (b j : ℕ) → IsFrom k b j → buffer (remove J k) b ≡ buffer J j
    same_buffer b j f = was_buffer J k b j lt f

    same_offset : (b j : ℕ) → IsFrom k b j → slice_index (remove offsets k) b ≡ slice_index offsets j
    same_offset b j f = was_item offsets k b j 0 there f

    apart : (b c t : ℕ) → b < length (remove J k) → c < length (remove J k) → b ≢ c →
        IsLive (buffer (remove J k) b) t → IsLive (buffer (remove J k) c) t →
        IsApart (buffer (remove J k) b) (slice_index (remove offsets k) b)
        (buffer (remove J k) c) (slice_index (remove offsets k) c)
    apart b c t lb lc ne p q =
        let v = was k b in let w = was k c in
        let x = same_buffer b v.0 v.1 in let y = same_buffer c w.0 w.1 in
        rw (x, y, same_offset b v.0 v.1, same_offset c w.0 w.1)
        (l.apart v.0 w.0 t (within b v.0 v.1 lb) (within c w.0 w.1 lc) (was_apart k b c v.0 w.0 v.1 w.1 ne)
        (subst (λ (z : Buffer). IsLive z t) x p) (subst (λ (z : Buffer). IsLive z t) y q))

-- ---- lists without an item
pub some_removed : (I : Instance) (ms : List ℕ) (k : ℕ) → k < length ms →
    some_of I (remove ms k) ≡ remove (some_of I ms) k
some_removed I [] k lt = absurd (omega arith)
some_removed I (m ∷ ms) zero lt = refl
some_removed I (m ∷ ms) (suc k) lt = ap (λ (J : Instance). buffer I m ∷ J) (some_removed I ms k (omega arith))

pub removed_twice : (ms : List ℕ) (i p : ℕ) → i < p → p < length ms →
    remove (remove ms p) i ≡ remove (remove ms i) (p - 1)
removed_twice [] i p lt within = absurd (omega arith)
removed_twice (m ∷ ms) i zero lt within = absurd (omega arith)
removed_twice (m ∷ ms) zero (suc p) lt within = let e : suc p - 1 ≡ p = omega arith in rw e refl
removed_twice (m ∷ ms) (suc i) (suc p) lt within =
    let e : suc p - 1 ≡ suc (p - 1) = omega arith in
    rw e (ap (λ (xs : List ℕ). m ∷ xs) (removed_twice ms i p (omega arith) (omega arith)))

-- a list about one of its places
pub about : (ms : List ℕ) (p : ℕ) → p < length ms → ms ≡ take p ms ++ slice_index_or ms p 0 ∷ drop (suc p) ms
about [] p lt = absurd (omega arith)
about (m ∷ ms) zero lt = refl
about (m ∷ ms) (suc p) lt = ap (λ (xs : List ℕ). m ∷ xs) (about ms p (omega arith))

pub rises_removed : (ms : List ℕ) (p : ℕ) → p < length ms → Rises ms → Rises (remove ms p)
rises_removed ms p lt r =
    rises_without (take p ms) (drop (suc p) ms) (slice_index_or ms p 0) (subst Rises (about ms p lt) r)

pub all_removed : {X : Type 0} (P : X → Type 0) (xs : List X) (p : ℕ) → p < length xs → All P xs → All P (remove xs p)
all_removed P xs p lt all k d lk =
    let w = was p k in
    subst P (sym (was_item xs p k w.0 d lt w.1))
    (all w.0 d (was_in p k w.0 (length (remove xs p)) (length xs) w.1 lk (length-remove xs p lt)))

pub before_removed : (ms : List ℕ) (p : ℕ) → p < length ms → take p (remove ms p) ≡ take p ms
before_removed [] p lt = absurd (omega arith)
before_removed (m ∷ ms) zero lt = refl
before_removed (m ∷ ms) (suc p) lt = ap (λ (xs : List ℕ). m ∷ xs) (before_removed ms p (omega arith))

pub after_removed : (ms : List ℕ) (p : ℕ) → p < length ms → drop p (remove ms p) ≡ drop (suc p) ms
after_removed [] p lt = absurd (omega arith)
after_removed (m ∷ ms) zero lt = refl
after_removed (m ∷ ms) (suc p) lt = after_removed ms p (omega arith)

pub in_removed : (xs : List ℕ) (k x : ℕ) → k < length xs → IsIn x xs → x ≢ slice_index_or xs k 0 → IsIn x (remove xs k)
in_removed [] k x lt i ne = absurd i
in_removed (y ∷ ys) zero x lt (inl e) ne = absurd (ne e)
in_removed (y ∷ ys) zero x lt (inr i) ne = i
in_removed (y ∷ ys) (suc k) x lt (inl e) ne = inl e
in_removed (y ∷ ys) (suc k) x lt (inr i) ne = inr (in_removed ys k x (omega arith) i ne)
