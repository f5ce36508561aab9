-- Some buffers of an instance.
use Rattle.std.specs.Prelude.{ℕ, List, map}
use Rattle.dsa_terms.specs.Buffers.{Instance, buffer}

-- the buffers of these numbers, in the order given, as an instance of their own
abbrev pub some_of : Instance → List ℕ → Instance
some_of I members = map (buffer I) members
