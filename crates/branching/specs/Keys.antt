-- What the choices of a claim are ordered by.
use Rattle.std.specs.Prelude.{ℕ}
use Rattle.dsa_terms.specs.Buffers.{Instance}
use Rattle.dsa_terms.specs.Claims.{Entry, up}

-- an entry by its up and its number
abbrev pub key_of : Instance → Entry → ℕ × ℕ
key_of I e = (up I e, e.0)
