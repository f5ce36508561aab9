-- What holds of every row that is drawn.
use Rattle.std.proofs.Common.{◌≡◌, ◌<◌, ◌≤◌, ◌+◌, ◌-◌, ◌*◌, ◌&&◌, ℕ, Bool, true, false, nat_le, cond, Option, Some, None, refl, arith, ◌==◌}
use Rattle.std.proofs.lemmas.Bool.Decides.{nat_tests}
use Rattle.std.proofs.lemmas.Nat.{mod_below}
use Rattle.std.specs.Prelude.{⊤}
use Rattle.dsa_model.specs.Buffer.{buffer_limit}
use Rattle.make_instance.specs.Draws.{state_at}
use Rattle.make_instance.specs.Rows.{gap_in, made_row, row_of}
use Rattle.make_instance.specs.declared.row.Row.{Row}

-- the gap is inside the lifetime, and leaves its first moment
abbrev pub IsGapIn : ℕ → ℕ → Option (ℕ × ℕ) → Type 0
IsGapIn lower upper None = ⊤
IsGapIn lower upper (Some gap) = (lower < gap.0) × (gap.0 < gap.1) × (gap.1 < upper)

-- a row of a buffer without a fault, with small numbers
pub record IsMade (row : Row) : Type 0 where
  pub lasts : row.lower < row.upper
  pub soon : row.upper < 16384
  pub some_size : 0 < row.size
  pub small : row.size ≤ 64
  pub some_alignment : 0 < row.alignment
  pub narrow : row.alignment ≤ 4
  pub gap : IsGapIn row.lower row.upper row.gap

gap_is : (flag lower length : ℕ) → IsGapIn lower (lower + length) (gap_in flag lower length)
gap_is flag lower length = go (flag == 0) (nat_le 3 length) refl
  where
    at_least : nat_le 3 length ≡ true → 3 ≤ length
    at_least e = grind (arith, nat_tests)

    go : (wanted room : Bool) → nat_le 3 length ≡ room
        → IsGapIn lower (lower + length) (cond (wanted && room) (Some (lower + 1, lower + length - 1)) None)
    go false room e = tt
    go true false e = tt
    go true true e = let long = at_least e in (omega arith, omega arith, omega arith)

row_is_made : (lower q r s t : ℕ) → lower < 8192 → q < 16 → r < 64 → s < 4
    → IsMade (row_of lower (1 + q) (1 + r) (1 + s) t)
row_is_made lower q r s t hl hq hr hs = record {
  lasts = omega arith;
  soon = omega arith;
  some_size = omega arith;
  small = omega arith;
  some_alignment = omega arith;
  narrow = omega arith;
  gap = gap_is t lower (1 + q);
}

-- every row is such
pub made : (seed count i : ℕ) → i < count → count ≤ buffer_limit → IsMade (made_row seed count i)
unfolding made_row
made seed count i some few =
    let below = mod_below (state_at seed (5 * i + 1)) (2 * count) (omega arith) in
    row_is_made _ _ _ _ _ (omega arith)
    (mod_below (state_at seed (5 * i + 2)) 16 (omega arith))
    (mod_below (state_at seed (5 * i + 3)) 64 (omega arith))
    (mod_below (state_at seed (5 * i + 4)) 4 (omega arith))
