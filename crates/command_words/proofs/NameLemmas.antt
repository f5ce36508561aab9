-- Names of files, two of which are equal.
use Rattle.std.proofs.Common.{◌≡◌, Bool, true, false, List, [], ◌∷◌, Option, Some, map, refl}
use Rattle.std.specs.List.{filter_map, list_any}
use Rattle.std.specs.Str.{bytes_eq}
use Rattle.command_words.specs.Options.{Word}
use Rattle.command_words.specs.Pairs.{has_equal}

any_of_map : {A B : Type 0} (test : B → Bool) (f : A → B) (xs : List A)
    → list_any test (map f xs) ≡ list_any (λ x. test (f x)) xs
any_of_map test f [] = refl
any_of_map test f (x ∷ xs) = rw (any_of_map test f xs) refl

-- the name of the first file is not among those after it, or it is
module _ {A B : Type 0} (name : B → Word) (file : A → Option B) (all after : List A) (used : A)
    (first : all ≡ used ∷ after) where
  pub no_name_again : (its : B) → file used ≡ Some its
      → list_any (λ o. bytes_eq (name its) (name o)) (filter_map file after) ≡ false
      → has_equal (map name (filter_map file all)) ≡ has_equal (map name (filter_map file after))
  no_name_again its is none = rw (first, is, any_of_map (bytes_eq (name its)) name (filter_map file after), none) refl

  pub a_name_again : (its : B) → file used ≡ Some its
      → list_any (λ o. bytes_eq (name its) (name o)) (filter_map file after) ≡ true
      → has_equal (map name (filter_map file all)) ≡ true
  a_name_again its is again = rw (first, is, any_of_map (bytes_eq (name its)) name (filter_map file after), again) refl
