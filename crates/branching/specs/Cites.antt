-- Why the search does not take a buffer of a claim first, or takes it in vain.
use Rattle.std.specs.Prelude.{◌≡◌, true, List, []}
use Rattle.dsa_terms.specs.Buffers.{Instance}
use Rattle.dsa_terms.specs.Claims.{Claim, Entry, IsIn, child}
use Rattle.dsa_terms.specs.Logs.{Cite, ByLine, Below, Twin, Line, IsLegalCite}
use Rattle.dsa_terms.specs.Search.{not_excluded}
use Rattle.canonical_order.specs.Claims.{entry_of}
use Rattle.line_index.specs.Covered.{IsCoveredBy}
use Rattle.branching.specs.declared.notes.Refuted.{Refuted}

-- the line covers the child by the buffer
abbrev pub IsChildCovered : Instance → List Line → Claim → Refuted → Type 0
IsChildCovered I lines l r = IsCoveredBy I lines (child I l (entry_of l r.buffer)) r.line

-- the cite of the entry e: of the line noted for its buffer where no rule excludes it, and else by a rule
abbrev pub IsCiteFor : Instance → Claim → List Refuted → Entry → Cite → Type 0
IsCiteFor I l refuted e (ByLine k) = (not_excluded I l e ≡ true) × (r : Refuted) × IsIn r
    refuted × (r.buffer ≡ e.0) × (r.line ≡ k)
IsCiteFor I l refuted e (Below c) = IsLegalCite I [] l e (Below c)
IsCiteFor I l refuted e (Twin c) = IsLegalCite I [] l e (Twin c)
