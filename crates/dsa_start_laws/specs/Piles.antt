-- The stack of a moment as sums over numbers of buffers, which is how it is computed.
use Rattle.std.specs.Prelude.{ℕ, ◌-◌, ◌%◌, ◌==◌, ◌&&◌, nat_le, List, map, length}
use Rattle.std.specs.List.{filter, sum_by}
use Rattle.std.specs.Int.{next_multiple_of}
use Rattle.dsa_terms.specs.Buffers.{Instance, buffer, is_live, floor}
use Rattle.dsa_terms.specs.Logs.{greatest}
use Rattle.dsa_terms.specs.Parts.{numbers}

-- the numbers of the buffers that are counted at t from H on by G
unfoldable pub counted_buffers : Instance → ℕ → ℕ → ℕ → List ℕ
counted_buffers I t H G =
    filter (λ b. is_live (buffer I b) t && nat_le H (floor (buffer I b)) && ((buffer I b).alignment % G == 0))
    (numbers (length I))

-- the size of b rounded up to a multiple of G
unfoldable pub rounded_size : Instance → ℕ → ℕ → ℕ
rounded_size I G b = next_multiple_of (buffer I b).size G

-- the sum of the counted sizes rounded up to G, less the greatest single rounding
unfoldable pub pile : Instance → ℕ → ℕ → ℕ → ℕ
pile I t H G =
    sum_by (rounded_size I G) (counted_buffers I t H G)
    - greatest (map (λ b. rounded_size I G b - (buffer I b).size) (counted_buffers I t H G))
