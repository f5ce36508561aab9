-- Parts as the code shows them.
use Rattle.std.specs.Prelude.{◌≡◌, ℕ, ◌<◌, ◌^◌, ◌≢◌, List, [], length}
use Rattle.std.specs.List.{All}
use Rattle.dsa_terms.specs.Buffers.{Instance}
use Rattle.dsa_terms.specs.Claims.{Rises}
use Rattle.dsa_terms.specs.Parts.{parts}

-- the buffers of a part rise, and there is one
pub record IsPart (p : List ℕ) : Type 0 where
  pub rises : Rises p
  pub not_empty : p ≢ []

-- what a list of parts keeps
pub record ArePartsKept (ps : List (List ℕ)) : Type 0 where
  pub each : All IsPart ps
  pub limit : length ps < 2 ^ 32

-- the buffers are those of an instance, wherever the parts are its parts
abbrev pub AreInRange : List (List ℕ) → List ℕ → Type 0
AreInRange ps p = (I : Instance) → ps ≡ parts I → All (λ b. b < length I) p
