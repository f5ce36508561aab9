-- The cites of a claim, one after another.
use Rattle.std.proofs.Common.{◌≡◌, List, [], ◌∷◌, ◌++◌, map, take}
use Rattle.std.proofs.lemmas.List.{map-append}
use Rattle.std.specs.List.{AllZip}
use Rattle.branching.proofs.Words.{Claim, Entry}

zip_next : {A B : Type 0} (R : A → B → Type 0) (xs : List A) (ys : List B) (x : A) (y : B) → AllZip R xs ys → R x y →
    AllZip R (xs ++ x ∷ []) (ys ++ y ∷ [])
zip_next R [] [] x y h r = (r, tt)
zip_next R [] (b ∷ ys) x y h r = absurd h
zip_next R (a ∷ xs) [] x y h r = absurd h
zip_next R (a ∷ xs) (b ∷ ys) x y h r = (h.0, zip_next R xs ys x y h.1 r)

module _ {A B : Type 0} (f : A → B) (R : Entry → B → Type 0) where
  pub zip_none : (l : Claim) (items : List A) → items ≡ [] → AllZip R (take 0 l) (map f items)
  zip_none l items q = rw q (none l)
    where
      none : (l : Claim) → AllZip R (take 0 l) []
      none [] = tt
      none (e ∷ l) = tt

  pub zip_more : (so_far more : Claim) (e : Entry) (items after : List A) (x : A) → more ≡ so_far ++ e ∷ [] →
      after ≡ items ++ x ∷ [] → R e (f x) → AllZip R so_far (map f items) → AllZip R more (map f after)
  zip_more so_far more e items after x m q r z = rw (m, q, map-append f items (x ∷ []))
      (zip_next R so_far (map f items) e (f x) z r)
