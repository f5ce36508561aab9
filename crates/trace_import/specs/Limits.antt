-- What the allocations of a trace are within.
use Rattle.std.specs.Prelude.{ℕ, ◌≤◌, List, length}
use Rattle.dsa_model.specs.Buffer.{alignment_limit, size_limit}
use Rattle.dsa_terms.specs.Claims.{IsIn}
use Rattle.trace_import.specs.Lines.{id_limit}
use Rattle.trace_import.specs.Traces.{Alloc, Trace}

-- the size and the alignment are at least 1 and, like the identifier's length, within their limits
pub record IsWithin (id : List ℕ) (size alignment : ℕ) : Type 0 where
  pub some_size : 1 ≤ size
  pub small : size ≤ size_limit
  pub some_alignment : 1 ≤ alignment
  pub narrow : alignment ≤ alignment_limit
  pub short : length id ≤ id_limit

-- so is each allocation
abbrev pub AreWithin : Trace → Type 0
AreWithin trace = (id : List ℕ) (size alignment : ℕ) → IsIn (Alloc id size alignment) trace → IsWithin id size alignment
