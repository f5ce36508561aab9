-- Rising lists whose numbers are all in another.
use Rattle.std.proofs.Common.{◌≡◌, ℕ, ◌+◌, ◌<◌, ◌≤◌, ◌==◌, ◌⊎◌, ◌↔◌, inl, inr, IsTrue, true, false, List, [], ◌∷◌, length, drop, slice_index_or, refl, sym, ap, ◌∙◌, arith}
use Rattle.std.proofs.lemmas.Bool.Decides.{nat_tests}
use Rattle.std.proofs.lemmas.List.{drop_all, drop_more}
use Rattle.std.proofs.lemmas.List.Sums.{sum_by-cons}
use Rattle.std.specs.List.{sum_by}
use Rattle.dsa_terms.specs.Claims.{IsIn, Rises}
use Rattle.lifetime.specs.Thin.{AreAmong}
use Rattle.lifetime.proofs.Noting.{rises_drop}

pub among_trans : (xs ys zs : List ℕ) → AreAmong xs ys → AreAmong ys zs → AreAmong xs zs
among_trans xs ys zs h k b i = k b (h b i)

-- ---- answers of a test
pub is_false : (P : Type 0) → (P → ⊥) → IsTrue false ↔ P
is_false P n = (λ h. absurd cc, λ p. absurd (n p))

pub is_true : (P : Type 0) → P → IsTrue true ↔ P
is_true P p = (λ h. p, λ h. refl)

-- ---- one step of a merge
among_same : (p : ℕ) (ps ws : List ℕ) → Rises (p ∷ ps) → AreAmong (p ∷ ps) (p ∷ ws) ↔ AreAmong ps ws
among_same p ps ws r = (forth, back)
  where
    later : (b : ℕ) → p < b → IsIn b (p ∷ ws) → IsIn b ws
    later b lt (inl e) = absurd (omega arith)
    later b lt (inr i) = i

    forth : AreAmong (p ∷ ps) (p ∷ ws) → AreAmong ps ws
    forth h b i = later b (r.0 b i) (h b (inr i))

    back : AreAmong ps ws → AreAmong (p ∷ ps) (p ∷ ws)
    back h b (inl e) = inl e
    back h b (inr i) = inr (h b i)

among_skip : (p w : ℕ) (ps ws : List ℕ) → Rises (p ∷ ps) → w < p → AreAmong (p ∷ ps) (w ∷ ws) ↔ AreAmong (p ∷ ps) ws
among_skip p w ps ws r lt = (forth, λ h b i. inr (h b i))
  where
    at_least : (b : ℕ) → IsIn b (p ∷ ps) → p ≤ b
    at_least b (inl e) = omega arith
    at_least b (inr i) = let k = r.0 b i in omega arith

    later : (b : ℕ) → p ≤ b → IsIn b (w ∷ ws) → IsIn b ws
    later b le (inl e) = absurd (omega arith)
    later b le (inr i) = i

    forth : AreAmong (p ∷ ps) (w ∷ ws) → AreAmong (p ∷ ps) ws
    forth h b i = later b (at_least b i) (h b i)

among_not : (p w : ℕ) (ps ws : List ℕ) → Rises (w ∷ ws) → p < w → AreAmong (p ∷ ps) (w ∷ ws) → ⊥
among_not p w ps ws r lt h = at (h p (inl refl))
  where
    at : IsIn p (w ∷ ws) → ⊥
    at (inl e) = absurd (omega arith)
    at (inr i) = let k = r.0 p i in absurd (omega arith)

-- ---- a merge
-- what is known once the first numbers of the one have been found among the first of the other
pub record IsMerging (part whole : List ℕ) (found i : ℕ) : Type 0 where
  pub within : found ≤ length part
  pub left : AreAmong part whole ↔ AreAmong (drop found part) (drop i whole)

rises_from : (xs : List ℕ) (i x : ℕ) → Rises xs → i < length xs → x ≡ slice_index_or xs i 0 →
    Rises (x ∷ drop (i + 1) xs)
rises_from xs i x r lt e = rw e (rw (drop_more xs i 0 lt) at (rises_drop xs i r))

drop_from : (xs : List ℕ) (i x : ℕ) → i < length xs → x ≡ slice_index_or xs i 0 → drop i xs ≡ x ∷ drop (i + 1) xs
drop_from xs i x lt e = drop_more xs i 0 lt ∙ ap (λ y. y ∷ drop (i + 1) xs) (sym e)

pub all_found : (part whole : List ℕ) (found i : ℕ) → IsMerging part whole found i → found ≡ length part →
    AreAmong part whole
all_found part whole found i m e = m.left.1 (nothing (drop found part) (drop_all found part (omega arith)))
  where
    nothing : (xs : List ℕ) → xs ≡ [] → AreAmong xs (drop i whole)
    nothing [] e = λ b j. absurd j
    nothing (x ∷ xs) e = absurd cc

pub not_found : (part whole : List ℕ) (found i p w : ℕ) → Rises whole → IsMerging part whole found i →
    found < length part → i < length whole → p ≡ slice_index_or part found 0 → w ≡ slice_index_or whole i 0 → p < w →
    AreAmong part whole → ⊥
not_found part whole found i p w r m pn wn pe we lt h =
    among_not p w (drop (found + 1) part) (drop (i + 1) whole) (rises_from whole i w r wn we) lt
    (rw (drop_from part found p pn pe, drop_from whole i w wn we) at (m.left.0 h))

pub merged_same : (part whole : List ℕ) (found i p w : ℕ) → Rises part → IsMerging part whole found i →
    found < length part → i < length whole → p ≡ slice_index_or part found 0 → w ≡ slice_index_or whole i 0 → p ≡ w →
    IsMerging part whole (found + 1) (i + 1)
merged_same part whole found i p w r m pn wn pe we same = record {
  within = omega arith;
  left = (λ h. step.0 (there (m.left.0 h)), λ h. m.left.1 (here (step.1 h)));
}
  where
    step : AreAmong (p ∷ drop (found + 1) part) (p ∷ drop (i + 1) whole) ↔
        AreAmong (drop (found + 1) part) (drop (i + 1) whole)
    step = among_same p (drop (found + 1) part) (drop (i + 1) whole)
        (rises_from part found p r pn pe)

    parts : drop found part ≡ p ∷ drop (found + 1) part
    parts = drop_from part found p pn pe

    wholes : drop i whole ≡ p ∷ drop (i + 1) whole
    wholes = drop_from whole i p wn (same ∙ we)

    there : AreAmong (drop found part) (drop i whole) →
        AreAmong (p ∷ drop (found + 1) part) (p ∷ drop (i + 1) whole)
    there h = rw (parts, wholes) at h

    here : AreAmong (p ∷ drop (found + 1) part) (p ∷ drop (i + 1) whole) →
        AreAmong (drop found part) (drop i whole)
    here h = rw (parts, wholes) h

pub merged_skip : (part whole : List ℕ) (found i p w : ℕ) → Rises part → IsMerging part whole found i →
    found < length part → i < length whole → p ≡ slice_index_or part found 0 → w ≡ slice_index_or whole i 0 → w < p →
    IsMerging part whole found (i + 1)
merged_skip part whole found i p w r m pn wn pe we less = record {
  within = m.within;
  left = (λ h. back (step.0 (there (m.left.0 h))), λ h. m.left.1 (here (step.1 (forth h))));
}
  where
    step : AreAmong (p ∷ drop (found + 1) part) (w ∷ drop (i + 1) whole) ↔
        AreAmong (p ∷ drop (found + 1) part) (drop (i + 1) whole)
    step = among_skip p w (drop (found + 1) part) (drop (i + 1) whole)
        (rises_from part found p r pn pe) less

    parts : drop found part ≡ p ∷ drop (found + 1) part
    parts = drop_from part found p pn pe

    wholes : drop i whole ≡ w ∷ drop (i + 1) whole
    wholes = drop_from whole i w wn we

    there : AreAmong (drop found part) (drop i whole) →
        AreAmong (p ∷ drop (found + 1) part) (w ∷ drop (i + 1) whole)
    there h = rw (parts, wholes) at h

    here : AreAmong (p ∷ drop (found + 1) part) (w ∷ drop (i + 1) whole) →
        AreAmong (drop found part) (drop i whole)
    here h = rw (parts, wholes) h

    back : AreAmong (p ∷ drop (found + 1) part) (drop (i + 1) whole) →
        AreAmong (drop found part) (drop (i + 1) whole)
    back h = rw parts h

    forth : AreAmong (drop found part) (drop (i + 1) whole) →
        AreAmong (p ∷ drop (found + 1) part) (drop (i + 1) whole)
    forth h = rw parts at h

-- the other list has been gone over
pub merged_all : (part whole : List ℕ) (found i : ℕ) → IsMerging part whole found i → length whole ≤ i →
    AreAmong part whole → found ≡ length part
merged_all part whole found i m le h = go (cases found (length part) m.within)
  where
    cases : (m n : ℕ) → m ≤ n → (m ≡ n) ⊎ (m < n)
    cases m n h = grind arith

    go : (found ≡ length part) ⊎ (found < length part) → found ≡ length part
    go (inl e) = e
    go (inr lt) =
        let none : drop i whole ≡ [] = drop_all i whole le in
        let k = rw (none, drop_more part found 0 lt) at (m.left.0 h) in
        absurd (k (slice_index_or part found 0) (inl refl))

pub whole_test : (part whole : List ℕ) (found i : ℕ) → IsMerging part whole found i → length whole ≤ i →
    IsTrue (found == length part) ↔ AreAmong part whole
whole_test part whole found i m le = (
  (λ t. all_found part whole found i m (equal found (length part) t)),
  (λ a. tested found (length part) (merged_all part whole found i m le a)),
)
  where
    equal : (m n : ℕ) → IsTrue (m == n) → m ≡ n
    equal m n h = grind (arith, nat_tests)

    tested : (m n : ℕ) → m ≡ n → IsTrue (m == n)
    tested m n h = grind (arith, nat_tests)

-- ---- weights
-- of two rising lists, the one among the other, both are equal or the one weighs less
pub equal_or_less : (f : ℕ → ℕ) (part whole : List ℕ) → Rises part → Rises whole → AreAmong part whole →
    ((b : ℕ) → IsIn b whole → 1 ≤ f b) → (part ≡ whole) ⊎ (sum_by f part < sum_by f whole)
equal_or_less f [] [] r s a h = inl refl
equal_or_less f (p ∷ ps) [] r s a h = absurd (a p (inl refl))
equal_or_less f [] (w ∷ ws) r s a h = inr
    (let k = sum_by-cons f w ws in let m = h w (inl refl) in omega arith)
equal_or_less f (p ∷ ps) (w ∷ ws) r s a h =
    go (λ k. equal_or_less f ps ws r.1 s.1 k (λ b i. h b (inr i)))
    (λ k. equal_or_less f (p ∷ ps) ws r s.1 k (λ b i. h b (inr i))) (a p (inl refl))
  where
    both : p ≡ w → ps ≡ ws → p ∷ ps ≡ w ∷ ws
    both e g = cc

    go : (AreAmong ps ws → (ps ≡ ws) ⊎ (sum_by f ps < sum_by f ws)) →
        (AreAmong (p ∷ ps) ws → (p ∷ ps ≡ ws) ⊎ (sum_by f (p ∷ ps) < sum_by f ws)) → (p ≡ w) ⊎ IsIn p ws →
        (p ∷ ps ≡ w ∷ ws) ⊎ (sum_by f (p ∷ ps) < sum_by f (w ∷ ws))
    go same skip (inl e) = elim (same ((among_same p ps ws r).0 (rw (← e) at a))) [
      | inl q ↦ inl (both e q)
      | inr q ↦ inr (let k = sum_by-cons f p ps in let m = sum_by-cons f w ws in let z = ap f e in omega arith)
    ]
    go same skip (inr i) = elim (skip ((among_skip p w ps ws r (s.0 p i)).0 a)) [
      | inl q ↦ inr (let k = sum_by-cons f w ws in let m = h w (inl refl) in let z = ap (sum_by f) q in omega arith)
      | inr q ↦ inr (let k = sum_by-cons f w ws in omega arith)
    ]

pub length_is : (xs : List ℕ) → sum_by (λ _. 1) xs ≡ length xs
length_is [] = refl
length_is (x ∷ xs) = let k = sum_by-cons (λ _. 1) x xs in let m = length_is xs in omega arith

pub among_few : (part whole : List ℕ) → Rises part → Rises whole → AreAmong part whole → length part ≤ length whole
among_few part whole r s a = elim (equal_or_less (λ _. 1) part whole r s a (λ b i. omega arith)) [
  | inl e ↦ (let k = ap (λ (xs : List ℕ). length xs) e in omega arith)
  | inr q ↦ (let k = length_is part in let m = length_is whole in omega arith)
]

-- two rising lists, each among the other, are one
pub same_members : (xs ys : List ℕ) → Rises xs → Rises ys → AreAmong xs ys → AreAmong ys xs → xs ≡ ys
same_members xs ys r s h k = elim (equal_or_less (λ _. 1) xs ys r s h (λ b i. omega arith)) [
  | inl e ↦ e
  | inr less ↦ absurd (let a = length_is xs in let b = length_is ys in let c = among_few ys xs s r k in omega arith)
]

-- a longer list is not among a shorter one
pub not_among_fewer : (part whole : List ℕ) → Rises part → Rises whole → length whole < length part →
    AreAmong part whole → ⊥
not_among_fewer part whole r s lt a = let k = among_few part whole r s a in absurd (omega arith)
