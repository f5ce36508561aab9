-- Files and a sink at a moment, as far as they tell.
use Rattle.std.specs.Prelude.{ℕ, List, Option}
use Rattle.dsa_outside.specs.Held.{FileMap}

-- what files hold by name, where that is told, and each name's number of faults, which rises where a call fails
pub record FilesSeen : Type 0 where
  pub held : Option FileMap
  pub faults : List ℕ → ℕ

-- what a sink has taken, where that is told, and its number of faults
pub record SinkSeen : Type 0 where
  pub content : Option (List ℕ)
  pub faults : ℕ
