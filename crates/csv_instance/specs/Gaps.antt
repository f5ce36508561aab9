-- The gaps that a field writes.
use Rattle.std.specs.Prelude.{ℕ, ◌+◌, ◌++◌, codes, decimal, List, [], ◌∷◌, ◌==◌, if◌then◌else◌, Option, Some, option_map, option_and_then, length, take, drop, map, position}
use Rattle.std.specs.List.{slice_split}
use Rattle.std.specs.Option.{option_zip}
use Rattle.dsa_model.specs.Numbers.{written_number}
use Rattle.dsa_model.specs.Limits.{time_limit}

-- all values, where there are all
abbrev pub all_some : {A : Type 0} → List (Option A) → Option (List A)
all_some [] = Some []
all_some (o ∷ os) = option_and_then (λ x. option_map (λ xs. x ∷ xs) (all_some os)) o

-- the gap that a piece writes: two numbers with a hyphen between them
abbrev pub gap_of : List ℕ → Option (ℕ × ℕ)
gap_of piece =
    option_and_then
    (λ k. option_zip (written_number time_limit (take k piece)) (written_number time_limit (drop (k + 1) piece)))
    (position (λ c. c == 45) piece)

-- the gaps that a field writes: none where it is empty, and else one for each piece between its spaces
abbrev pub gaps_of : List ℕ → Option (List (ℕ × ℕ))
gaps_of field = if length field == 0 then Some [] else all_some (map gap_of (slice_split (λ c. c == 32) field))

-- a gap's two moments, as they are written
abbrev pub gap_pair_text : ℕ → ℕ → List ℕ
gap_pair_text from to = decimal from ++ codes "-" ++ decimal to
