-- Numbers that come into a rising list and go out of it.
use Rattle.std.specs.Prelude.{◌≡◌, ◌≢◌, ℕ, Bool, List}
use Rattle.dsa_terms.specs.Claims.{Rises}
use Rattle.dsa_terms.specs.Parts.{has}

-- the list has b if it is wanted, and the others as before, in rising order
pub record IsSwitched (old : List ℕ) (b : ℕ) (wanted : Bool) (now : List ℕ) : Type 0 where
  pub rises : Rises now
  pub own : has b now ≡ wanted
  pub others : (c : ℕ) → c ≢ b → has c now ≡ has c old
