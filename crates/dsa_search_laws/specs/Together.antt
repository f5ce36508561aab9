-- Buffers of one part.
use Rattle.std.specs.Prelude.{ℕ, List}
use Rattle.dsa_terms.specs.Buffers.{Instance}
use Rattle.dsa_terms.specs.Claims.{IsIn}
use Rattle.dsa_terms.specs.Parts.{parts}

-- the two buffers are in one of the parts
pub record AreTogether (I : Instance) (b c : ℕ) : Type 0 where
  pub part : List ℕ
  pub is_part : IsIn part (parts I)
  pub has_first : IsIn b part
  pub has_second : IsIn c part
