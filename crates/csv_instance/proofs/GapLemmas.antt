-- The gaps of a field's pieces.
use Rattle.std.proofs.Common.{◌≡◌, ◌++◌, ◌∷◌, ◌∙◌, ◌==◌, ◌+◌, ◌<◌, ◌≤◌, ℕ, zero, suc, List, [], false, Option, Some, None, option_map, length, map, drop, get_or, refl, sym, ap, add-one, append_assoc, drop-cons, arith}
use Rattle.std.proofs.lemmas.List.{append-nil, drop_all}
use Rattle.std.specs.List.{slice_split}
use Rattle.csv_instance.specs.Gaps.{all_some, gap_of, gaps_of}
use Rattle.csv_instance.proofs.IdLemmas.{map-map}

nothing_before : {A : Type 0} (o : Option (List A)) → o ≡ option_map (λ more. [] ++ more) o
nothing_before None = refl
nothing_before (Some xs) = refl

-- at first all pieces are left
pub gaps-left : {P : Type 0} (now : P → List ℕ) (field : List ℕ) (pieces : List P) → (length field == 0) ≡ false
    → map now pieces ≡ slice_split (λ c. c == 32) field
    → gaps_of field ≡ option_map (λ more. [] ++ more) (all_some (map (λ piece. gap_of (now piece)) pieces))
gaps-left now field pieces some same =
    rw some (ap (λ ps. all_some (map gap_of ps)) (sym same) ∙ ap all_some (sym (map-map gap_of now pieces))
    ∙ nothing_before _)

-- the pieces from a place on are the one there and those after it
from_place : {P : Type 0} (pieces : List P) (k : ℕ) (d : P) → k < length pieces →
    drop k pieces ≡ get_or pieces k d ∷ drop (k + 1) pieces
from_place pieces k d lt = rw add-one (drop-cons pieces k d lt)

-- an item in front of what comes later is one behind what came before
later_or_before : {A : Type 0} (xs : List A) (x : A) (o : Option (List A)) →
    option_map (λ more. xs ++ more) (option_map (λ more. x ∷ more) o) ≡ option_map (λ more. (xs ++ x ∷ []) ++ more) o
later_or_before xs x None = refl
later_or_before xs x (Some more) = ap Some (sym (append_assoc xs (x ∷ []) more))

-- one piece more that writes a gap
pub gaps-more : {P A : Type 0} (f : P → Option A) (whole : Option (List A)) (pieces : List P) (k : ℕ) (d : P)
    (before after : List A) (x : A) → k < length pieces → Some x ≡ f (get_or pieces k d) → after ≡ before ++ x ∷ []
    → whole ≡ option_map (λ more. before ++ more) (all_some (map f (drop k pieces)))
    → whole ≡ option_map (λ more. after ++ more) (all_some (map f (drop (k + 1) pieces)))
gaps-more f whole pieces k d before after x lt here new e =
    e ∙ rw (from_place pieces k d lt, ← here, new) (later_or_before before x (all_some (map f (drop (k + 1) pieces))))

-- a piece that writes none
pub gaps-none : {P A : Type 0} (f : P → Option A) (whole : Option (List A)) (pieces : List P) (k : ℕ) (d : P)
    (before : List A) → k < length pieces → None ≡ f (get_or pieces k d)
    → whole ≡ option_map (λ more. before ++ more) (all_some (map f (drop k pieces))) → None ≡ whole
gaps-none f whole pieces k d before lt here e = sym (e ∙ rw (from_place pieces k d lt, ← here) refl)

-- no piece is left
pub gaps-end : {P A : Type 0} (f : P → Option A) (whole : Option (List A)) (pieces : List P) (k : ℕ) (before : List A)
    → length pieces ≤ k → whole ≡ option_map (λ more. before ++ more) (all_some (map f (drop k pieces)))
    → Some before ≡ whole
gaps-end f whole pieces k before le e = sym (e ∙ rw (drop_all k pieces le) (ap Some (append-nil before)))
