-- The lower bound: sizes that are stacked at one moment, from one height on, rounded up to one modulus.
use Rattle.std.specs.Prelude.{ℕ, ◌+◌, ◌-◌, ◌%◌, min, cond, ◌==◌, List, [], ◌∷◌, map, length}
use Rattle.std.specs.List.{filter, reduce}
use Rattle.std.specs.Option.{unwrap_or}
use Rattle.std.specs.Int.{next_multiple_of}
use Rattle.dsa_terms.specs.Buffers.{Buffer, Instance, floor}
use Rattle.dsa_terms.specs.Claims.{Claim}
use Rattle.dsa_terms.specs.Logs.{greatest, stacked, stack_height, Line, Log, Over}
use Rattle.dsa_terms.specs.Parts.{is_empty, numbers, whole}

-- those of the whole claim whose buffers are live at t, cannot start below H, and have a multiple of G for alignment
unfoldable pub counted : Instance → ℕ → ℕ → ℕ → Claim
counted I t H G = stacked I (whole I (numbers (length I))) t H G

-- where they end at least, stacked from H on, and 0 where there are none
unfoldable pub stack : Instance → ℕ → ℕ → ℕ → ℕ
stack I t H G = cond (is_empty (counted I t H G)) 0 (stack_height I H G (counted I t H G))

-- the moduli in question: 1 and the alignments
unfoldable pub moduli : Instance → List ℕ
moduli I = 1 ∷ map (λ (b : Buffer). b.alignment) I

-- the heights in question: those of 0 and the floors that are multiples of G
unfoldable pub heights : Instance → ℕ → List ℕ
heights I G = filter (λ H. H % G == 0) (0 ∷ map floor I)

-- the moments before the last upper; no buffer is live at another
unfoldable pub moments : Instance → List ℕ
moments I = numbers (greatest (map (λ (b : Buffer). b.upper) I))

-- the greatest stack at t by one modulus over all heights
unfoldable pub highest_at : Instance → ℕ → ℕ → ℕ
highest_at I t G = greatest (map (λ H. stack I t H G) (heights I G))

-- the greatest stack over all moments by one modulus
unfoldable pub highest_stack : Instance → ℕ → ℕ
highest_stack I G = greatest (map (λ t. highest_at I t G) (moments I))

-- the lower bound: the greatest stack over all moments, all moduli and all heights in question
unfoldable pub lower_bound : Instance → ℕ
lower_bound I = greatest (map (highest_stack I) (moduli I))

-- the least of some numbers, and the other number where there are none
unfoldable pub least_of : List ℕ → ℕ → ℕ
least_of numbers other = unwrap_or (reduce min numbers) other

-- the least modulus that reaches the lower bound
unfoldable pub bound_modulus : Instance → ℕ
bound_modulus I = least_of (filter (λ G. highest_stack I G == lower_bound I) (moduli I)) 1

-- the least multiple of G from which on they end above C
unfoldable pub line_height : Instance → ℕ → ℕ → ℕ → ℕ → ℕ
line_height I t H G C = next_multiple_of (C + 1 - stack_height I 0 G (counted I t H G)) G

-- the Over line at t by G of the buffers that are counted from H on, with the height and all bounds h
unfoldable pub stack_line : Instance → ℕ → ℕ → ℕ → ℕ → Line
stack_line I t H G h = Over (map (λ e. (e.0, h)) (counted I t H G)) t h G

-- the log of that line alone, as low as it is above C
unfoldable pub stack_log : Instance → ℕ → ℕ → ℕ → ℕ → Log
stack_log I t H G C = record {
  count = length I;
  capacity = C;
  lines = stack_line I t H G (line_height I t H G C) ∷ [];
  final = 0;
}
