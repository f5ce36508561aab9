-- Which buffers have another one of smaller number that is like them, in every claim.
use Rattle.std.specs.Prelude.{◌≡◌, ℕ, Bool, true, false, List, slice_index_or}
use Rattle.dsa_terms.specs.Buffers.{Instance}
use Rattle.dsa_terms.specs.Claims.{Entry}
use Rattle.dsa_terms.specs.Logs.{is_twin}

-- no entry is a twin before one of buffer b
abbrev pub HasNoTwin : Instance → ℕ → Type 0
HasNoTwin I b = (f e : Entry) → e.0 ≡ b → is_twin I f e ≡ false

-- a buffer that is not marked has no twin; what has no mark counts as marked
abbrev pub AreTwinMarks : Instance → List Bool → Type 0
AreTwinMarks I marks = (b : ℕ) → slice_index_or marks b true ≡ false → HasNoTwin I b
