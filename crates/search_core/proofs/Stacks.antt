-- Lists that are read from their end.
use Rattle.std.proofs.Common.{◌≡◌, suc, ◌+◌, ◌<◌, List, [], ◌∷◌, ◌++◌, length, drop, reverse, refl, sym, ap, ◌∙◌, arith}
use Rattle.std.proofs.lemmas.List.{reverse-append, length-reverse}
use Rattle.search_core.proofs.Words.{Claim, last_claim}
use Rattle.skyline.proofs.Carrying.{last_of_append}
use Rattle.search_core.specs.Descents.{above_of}

pub reverse_push : {X : Type 0} (xs : List X) (x : X) → reverse (xs ++ x ∷ []) ≡ x ∷ reverse xs
reverse_push xs x = reverse-append xs (x ∷ [])

split_last : (ls : List Claim) → 0 < length ls → (init : List Claim) × (l : Claim) × (ls ≡ init ++ l ∷ [])
split_last [] lt = absurd (omega arith)
split_last (l ∷ []) lt = ([], l, refl)
split_last (l ∷ k ∷ ls) lt = let r = split_last (k ∷ ls) (omega arith) in (l ∷ r.0, r.1, ap (λ ks. l ∷ ks) r.2)

-- the last claim, and then those above it
pub reverse_is : (ls : List Claim) → 0 < length ls → reverse ls ≡ last_claim ls ∷ above_of ls
reverse_is ls lt =
    let r = split_last ls lt in
    let a : reverse ls ≡ r.1 ∷ reverse r.0 = ap reverse r.2 ∙ reverse_push r.0 r.1 in
    let b : last_claim ls ≡ r.1 = ap last_claim r.2 ∙ last_of_append r.0 r.1 in
    let c : above_of ls ≡ reverse r.0 = ap (drop 1) a ∙ refl in
    a ∙ ap (λ (l : Claim). l ∷ reverse r.0) (sym b) ∙ ap (λ ks. last_claim ls ∷ ks) (sym c)

-- a claim was put last
pub above_pushed : (ls : List Claim) (l : Claim) → 0 < length ls → above_of (ls ++ l ∷ []) ≡ last_claim ls ∷ above_of ls
above_pushed ls l lt = ap (drop 1) (reverse_push ls l) ∙ reverse_is ls lt

pub count_above : (ls : List Claim) → 0 < length ls → length (above_of ls) + 1 ≡ length ls
count_above ls lt =
    let a : length (reverse ls) ≡ suc (length (above_of ls)) = ap length (reverse_is ls lt) in
    let b : length (reverse ls) ≡ length ls = length-reverse ls in
    omega arith
