-- The levels of a child, made from those of the claim above it.
use Rattle.std.specs.Prelude.{◌≡◌, ◌≢◌, ℕ, ◌<◌, List, slice_index}

-- the buffers that have one of these numbers as a level are those that have a level in the claim above, all but b
pub record AreOfChild (levels : List ℕ) (b : ℕ) (numbers : List ℕ) : Type 0 where
  pub own : slice_index numbers b ≡ 0
  pub some : (c : ℕ) → 0 < slice_index numbers c → 0 < slice_index levels c
  pub all : (c : ℕ) → c ≢ b → 0 < slice_index levels c → 0 < slice_index numbers c
