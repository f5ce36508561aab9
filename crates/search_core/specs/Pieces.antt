-- What is found of one part.
use Rattle.std.specs.Prelude.{◌≡◌, ℕ, ⊤, List, Some, None, length}
use Rattle.dsa_terms.specs.Buffers.{Instance}
use Rattle.dsa_terms.specs.Parts.{whole}
use Rattle.dsa_terms.specs.Search.{first}
use Rattle.search_core.specs.declared.part.Piece.{Piece}
use Rattle.search_core.specs.Decisions.{IsRefutation}
use Rattle.search_core.specs.Meters.{AreMoreBy, Units}
use Rattle.search_core.specs.declared.part.Piece.TheVariants as piece

-- the first layout of the part, or a log that refutes the capacity where there is none
abbrev pub IsPiece : Instance → ℕ → List ℕ → Piece → Type 0
IsPiece I C p (piece.Seats seats) = first I C (whole I p) ≡ Some seats.items
IsPiece I C p (piece.Refuted log) = (first I C (whole I p) ≡ None) × IsRefutation I C log

-- each line of a refutation took a unit, where there is a number of them
abbrev pub PieceIsCounted : Units → Units → Piece → Type 0
PieceIsCounted before after (piece.Seats seats) = ⊤
PieceIsCounted before after (piece.Refuted log) = AreMoreBy (length log.lines) before after
