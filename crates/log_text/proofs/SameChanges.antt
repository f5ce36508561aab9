-- A difference is unique: which changes lead from one claim to another is told by the two claims.
use Rattle.std.proofs.Common.{◌≡◌, ℕ, ◌==◌, true, false, ◌<◌, ◌⊎◌, inl, inr, List, [], ◌∷◌, map, All, refl, sym, ap, ◌∙◌, subst, arith}
use Rattle.dsa_terms.specs.Claims.{Claim, Entry, IsIn, Rises, buffers_of}
use Rattle.dsa_terms.proofs.Lists.{from_map, into_map, true_or_false}
use Rattle.dsa_terms.proofs.NumberTests.{differ, equal}
use Rattle.log_text.specs.Changes.{Change, DoesChange, Drops, Puts, buffer_of, carried_out}
use Rattle.log_text.proofs.Differences.{carried_entries}
use Rattle.log_text.proofs.Saying.{in_all}

-- ---- lists that rise by a number of each item
-- what comes later has a greater number
later_is_more : {X : Type 0} (f : X → ℕ) (x : X) (xs : List X) → Rises (map f (x ∷ xs)) → (y : X) → IsIn y xs →
    f x < f y
later_is_more f x xs r y i = r.0 (f y) (into_map f xs y i)

-- two such lists with the same items are equal
same_items : {X : Type 0} (f : X → ℕ) (xs ys : List X) → Rises (map f xs) → Rises (map f ys) →
    ((x : X) → IsIn x xs → IsIn x ys) → ((y : X) → IsIn y ys → IsIn y xs) → xs ≡ ys
same_items f [] [] r s h k = refl
same_items f [] (y ∷ ys) r s h k = absurd (k y (inl refl))
same_items f (x ∷ xs) [] r s h k = absurd (h x (inl refl))
same_items {X = X} f (x ∷ xs) (y ∷ ys) r s h k = longer first
    (same_items f xs ys r.1 s.1 (λ z i. onward z i (h z (inr i))) (λ z i. back z i (k z (inr i))))
  where
    longer : {a b : X} {xs ys : List X} → a ≡ b → xs ≡ ys → a ∷ xs ≡ b ∷ ys
    longer p q = cc

    first : x ≡ y
    first = elim (h x (inl refl)) [
      | inl e ↦ e
      | inr i ↦ elim (k y (inl refl)) [
        | inl e ↦ sym e
        | inr j ↦ absurd (let a = later_is_more f y ys s x i in let b = later_is_more f x xs r y j in omega arith)
      ]
    ]

    onward : (z : X) → IsIn z xs → IsIn z (y ∷ ys) → IsIn z ys
    onward z i (inl e) = absurd (let a = later_is_more f x xs r z i in
        let b : f z ≡ f x = ap f (e ∙ sym first) in omega arith)
    onward z i (inr j) = j

    back : (z : X) → IsIn z ys → IsIn z (x ∷ xs) → IsIn z xs
    back z i (inl e) = absurd (let a = later_is_more f y ys s z i in
        let b : f z ≡ f y = ap f (e ∙ first) in omega arith)
    back z i (inr j) = j

in_or_not : (n : ℕ) (xs : List ℕ) → IsIn n xs ⊎ (IsIn n xs → ⊥)
in_or_not n [] = inr (λ i. i)
in_or_not n (x ∷ xs) = go (true_or_false (n == x)) (in_or_not n xs)
  where
    go : ((n == x) ≡ true) ⊎ ((n == x) ≡ false) → IsIn n xs ⊎ (IsIn n xs → ⊥) → IsIn n (x ∷ xs) ⊎ (IsIn n (x ∷ xs) → ⊥)
    go (inl h) k = inl (inl (equal n x h))
    go (inr h) (inl i) = inl (inr i)
    go (inr h) (inr m) = inr (λ i. elim i [ inl e ↦ differ n x h e | inr j ↦ m j ])

-- ---- what changes say of the claim that results
-- one buffer has one change
one_change : (cs : List Change) (c d : Change) → Rises (map buffer_of cs) → IsIn c cs → IsIn d cs →
    buffer_of c ≡ buffer_of d → c ≡ d
one_change [] c d r i j e = absurd i
one_change (b ∷ bs) c d r (inl p) (inl q) e = p ∙ sym q
one_change (b ∷ bs) c d r (inl p) (inr j) e = absurd (let k = later_is_more buffer_of b bs r d j in
    let m : buffer_of c ≡ buffer_of b = ap buffer_of p in omega arith)
one_change (b ∷ bs) c d r (inr i) (inl q) e = absurd (let k = later_is_more buffer_of b bs r c i in
    let m : buffer_of d ≡ buffer_of b = ap buffer_of q in omega arith)
one_change (b ∷ bs) c d r (inr i) (inr j) e = one_change bs c d r.1 i j e

-- a buffer that is dropped has no entry
dropped_is_gone : (l : Claim) (cs : List Change) (b : ℕ) → Rises (buffers_of l) → Rises (map buffer_of cs) →
    IsIn (Drops b) cs → IsIn b (buffers_of (carried_out l cs)) → ⊥
dropped_is_gone l cs b r s i j =
    let t = from_map (λ (e : Entry). e.0) (carried_out l cs) b j in
    elim ((carried_entries l cs t.0 r s).0 t.1) [
      | inl k ↦ (let q = one_change cs (Drops b) (Puts t.0) s i k t.2 in cc)
      | inr k ↦ k.1 (subst (λ (n : ℕ). IsIn n (map buffer_of cs)) t.2 (into_map buffer_of cs (Drops b) i))
    ]

-- changes that each change the claim stand among any that give the same claim
stands_there : (l : Claim) (cs ds : List Change) → Rises (buffers_of l) → Rises (map buffer_of cs) →
    Rises (map buffer_of ds) → All (DoesChange l) cs → carried_out l cs ≡ carried_out l ds →
    (c : Change) → IsIn c cs → IsIn c ds
stands_there l cs ds r s t a e (Puts f) i =
    elim ((carried_entries l ds f r t).0 (subst (λ (m : Claim). IsIn f m) e ((carried_entries l cs f r s).1 (inl i)))) [
      | inl j ↦ j
      | inr k ↦ absurd (in_all (DoesChange l) cs a (Puts f) i k.0)
    ]
stands_there l cs ds r s t a e (Drops b) i =
    let there = from_map (λ (f : Entry). f.0) l b (in_all (DoesChange l) cs a (Drops b) i) in
    changed there.0 there.1 there.2
  where
    gone : IsIn b (buffers_of (carried_out l ds)) → ⊥
    gone j = dropped_is_gone l cs b r s i (subst (λ (m : Claim). IsIn b (buffers_of m)) (sym e) j)

    into : (f : Entry) → b ≡ f.0 → IsIn f (carried_out l ds) → IsIn b (buffers_of (carried_out l ds))
    into f q j = subst (λ (n : ℕ). IsIn n (buffers_of (carried_out l ds))) (sym q)
        (into_map (λ (g : Entry). g.0) (carried_out l ds) f j)

    is_drop : (d : Change) → IsIn d ds → b ≡ buffer_of d → IsIn (Drops b) ds
    is_drop (Puts g) j q = absurd (gone (into g q ((carried_entries l ds g r t).1 (inl j))))
    is_drop (Drops n) j q = subst (λ (m : ℕ). IsIn (Drops m) ds) (sym q) j

    changed : (f : Entry) → IsIn f l → b ≡ f.0 → IsIn (Drops b) ds
    changed f j q = elim (in_or_not f.0 (map buffer_of ds)) [
      | inl k ↦ (let d = from_map buffer_of ds f.0 k in is_drop d.0 d.1 (q ∙ d.2))
      | inr n ↦ absurd (gone (into f q ((carried_entries l ds f r t).1 (inr (j, n)))))
    ]

-- changes that rise and each change the claim are told by what they make of it
pub same_changes : (l : Claim) (cs ds : List Change) → Rises (buffers_of l) → Rises (map buffer_of cs) →
    Rises (map buffer_of ds) → All (DoesChange l) cs → All (DoesChange l) ds → carried_out l cs ≡ carried_out l ds →
    cs ≡ ds
same_changes l cs ds r s t a b e = same_items buffer_of cs ds s t (stands_there l cs ds r s t a e)
    (stands_there l ds cs r t s b (sym e))
