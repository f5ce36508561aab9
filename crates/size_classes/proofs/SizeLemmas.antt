-- Classes of sizes as they are computed, and lists that are gone through once.
use Rattle.std.proofs.Common.{◌≡◌, ℕ, ◌+◌, ◌-◌, ◌*◌, ◌^◌, ◌<◌, ◌≤◌, inl, inr, cond, ◌==◌, List, [], ◌∷◌, ◌++◌, length, map, filter, drop, max, refl, sym, ap, ◌∙◌, arith, add-one}
use Rattle.std.proofs.Math.Nat.{pow-succ'}
use Rattle.std.proofs.Math.Pow.{pow_mono}
use Rattle.std.proofs.lemmas.List.{drop_all}
use Rattle.std.proofs.lemmas.List.Elements.{filter-append}
use Rattle.std.proofs.lemmas.List.FromFn.{map-range_with_len_more}
use Rattle.dsa_terms.specs.Buffers.{Buffer, Instance, buffer}
use Rattle.dsa_terms.specs.Logs.{greatest}
use Rattle.dsa_terms.specs.Parts.{numbers}
use Rattle.dsa_terms.proofs.NumberTests.{apart, below_or_from, same}
use Rattle.size_classes.specs.Classes.{class_of, in_class}
use Rattle.size_classes.proofs.Powers.{class_least, size_fits}

-- ---- the class of a size
pub class_is_zero : (size : ℕ) → size ≤ 1 → 0 ≡ class_of size
class_is_zero size le = let k = class_least size 0 (omega arith) in omega arith

pub class_is_next : (size r : ℕ) → 1 < size → 2 ^ r ≤ size - 1 → size - 1 < 2 * 2 ^ r → r + 1 ≡ class_of size
class_is_next size r lt low high = close
    (class_least size (r + 1) (rw add-one (rw (pow-succ' 2 r) (omega arith)))) above
  where
    above : r < class_of size
    above = elim (below_or_from r (class_of size)) [
      | inl k ↦ k
      | inr le ↦ absurd (let f = size_fits size in let m = pow_mono le in omega arith)
    ]

    close : class_of size ≤ r + 1 → r < class_of size → r + 1 ≡ class_of size
    close p q = omega arith

pub class_limit : (size : ℕ) → size ≤ 2 ^ 40 → class_of size ≤ 40
class_limit size le = class_least size 40 le

-- ---- the buffers of a class
numbers_more : (n : ℕ) → numbers (n + 1) ≡ numbers n ++ n ∷ []
numbers_more n = sym (map_id (numbers (n + 1))) ∙ map-range_with_len_more (λ k. k) 0 n n (omega arith)
    ∙ rw (map_id (numbers n)) refl
  where
    map_id : (xs : List ℕ) → map (λ k. k) xs ≡ xs
    map_id [] = refl
    map_id (x ∷ xs) = ap (λ ys. x ∷ ys) (map_id xs)

-- the buffers below n that are of the class
abbrev pub class_below : Instance → ℕ → ℕ → List ℕ
class_below I k n = filter (λ b. class_of (buffer I b).size == k) (numbers n)

pub class_more : (I : Instance) (k n c size : ℕ) (x : Buffer) (members more : List ℕ) → x ≡ buffer I n → size ≡ x.size →
    c ≡ class_of size → c ≡ k → more ≡ members ++ n ∷ [] → members ≡ class_below I k n → more ≡ class_below I k (n + 1)
class_more I k n c size x members more e f g same_class grown h =
    grown ∙ rw (h, numbers_more n, filter-append (λ b. class_of (buffer I b).size == k) (numbers n) (n ∷ []))
    (ap (λ (xs : List ℕ). class_below I k n ++ xs)
    (sym (ap (λ t. cond t (n ∷ []) []) (same (class_of (buffer I n).size) k is))))
  where
    is : class_of (buffer I n).size ≡ k
    is = sym (g ∙ ap class_of (f ∙ ap (λ (b : Buffer). b.size) e)) ∙ same_class

pub class_skip : (I : Instance) (k n c size : ℕ) (x : Buffer) (members : List ℕ) → x ≡ buffer I n → size ≡ x.size →
    c ≡ class_of size → (c ≡ k → ⊥) → members ≡ class_below I k n → members ≡ class_below I k (n + 1)
class_skip I k n c size x members e f g other h =
    h ∙ rw (numbers_more n, filter-append (λ b. class_of (buffer I b).size == k) (numbers n) (n ∷ []))
    (sym (ap (λ t. class_below I k n ++ cond t (n ∷ []) [])
    (apart (class_of (buffer I n).size) k (λ q. other (is ∙ q))) ∙ nil (class_below I k n)))
  where
    is : c ≡ class_of (buffer I n).size
    is = g ∙ ap class_of (f ∙ ap (λ (b : Buffer). b.size) e)

    nil : (xs : List ℕ) → xs ++ [] ≡ xs
    nil [] = refl
    nil (x ∷ xs) = ap (λ ys. x ∷ ys) (nil xs)

pub class_done : (I : Instance) (k n : ℕ) (members : List ℕ) → n ≡ length I → members ≡ class_below I k n →
    members ≡ in_class I k
unfolding in_class
class_done I k n members e h = h ∙ rw e refl

-- ---- the greatest of a list, gone through once
pub greatest_done : (f : ℕ → ℕ) (xs : List ℕ) (i top : ℕ) → length xs ≤ i →
    greatest (map f xs) ≡ max top (greatest (map f (drop i xs))) → top ≡ greatest (map f xs)
greatest_done f xs i top le h = close (h ∙ ap (λ ys. max top (greatest (map f ys))) (drop_all i xs le))
  where
    close : greatest (map f xs) ≡ max top 0 → top ≡ greatest (map f xs)
    close e = omega arith
