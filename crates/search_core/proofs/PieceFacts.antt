-- What is found of the one part of a buffer of size 3, and of the whole instance: a layout within 3, and a log at 2.
use Rattle.std.proofs.Common.{◌≡◌, ℕ, [], ◌∷◌, Some, None, refl, sym, ap, ◌∙◌, arith}
use Rattle.std.specs.Global.{Vec}
use Rattle.search_core.proofs.Words.{Log, searched, whole, first}
use Rattle.branching.proofs.Computing.{computing_first, computing_searched}
use Rattle.search_core.specs.Meters.{Units}
use Rattle.search_core.specs.Outcomes.{IsDecided}
use Rattle.search_core.specs.Pieces.{IsPiece, PieceIsCounted}
use Rattle.search_core.proofs.RefutationFacts.{from_zero, found_at_3, log_of, lone, none_at_3, refuted_at_2}
use Rattle.refute_log.specs.declared.decided.Decided.TheVariants as decided
use Rattle.search_core.specs.declared.part.Piece.TheVariants as piece

seated_at_3 : first lone 3 (whole lone (0 ∷ [])) ≡ Some ((0, 0) ∷ [])
unfolding computing_first
seated_at_3 = refl

not_seated_at_2 : first lone 2 (whole lone (0 ∷ [])) ≡ None
unfolding computing_first
not_seated_at_2 = refl

not_found_at_2 : searched lone 2 ≡ None
unfolding computing_searched
not_found_at_2 = refl

abbrev refutation : Log
refutation = log_of (from_zero ∷ []) 2

-- ---- of the part
module _ (seats : Vec (ℕ × ℕ)) where
  seats_at_3 : seats.items ≡ (0, 0) ∷ [] → IsPiece lone 3 (0 ∷ []) (piece.Seats seats)
  seats_at_3 e = seated_at_3 ∙ ap Some (sym e)

  no_seats_at_2 : IsPiece lone 2 (0 ∷ []) (piece.Seats seats) → ⊥
  no_seats_at_2 h = let e = sym not_seated_at_2 ∙ h in absurd cc

log_at_2 : IsPiece lone 2 (0 ∷ []) (piece.Refuted refutation)
log_at_2 = (not_seated_at_2, refuted_at_2)

no_log_at_3 : (log : Log) → IsPiece lone 3 (0 ∷ []) (piece.Refuted log) → ⊥
no_log_at_3 log h = none_at_3 _ h.1

-- the log is one at 2
another_log_at_1 : IsPiece lone 1 (0 ∷ []) (piece.Refuted refutation) → ⊥
another_log_at_1 h = let k = h.1.capacity in omega arith

-- ---- units for its lines
abbrev used : ℕ → Units
used n = record { most = Some 7; used = n }

one_line_takes_one : PieceIsCounted (used 2) (used 3) (piece.Refuted refutation)
one_line_takes_one = omega arith

not_none : PieceIsCounted (used 2) (used 2) (piece.Refuted refutation) → ⊥
not_none h = omega (arith, h)

seats_take_none : (seats : Vec (ℕ × ℕ)) → PieceIsCounted (used 2) (used 2) (piece.Seats seats)
seats_take_none seats = tt

-- ---- of all parts
layout_at_3 : (offsets : Vec ℕ) → offsets.items ≡ 0 ∷ [] → IsDecided lone 3 (decided.Layout offsets)
layout_at_3 offsets e = found_at_3 ∙ ap Some (sym e)

no_layout_at_2 : (offsets : Vec ℕ) → IsDecided lone 2 (decided.Layout offsets) → ⊥
no_layout_at_2 offsets h = let e = sym not_found_at_2 ∙ h in absurd cc

decided_at_2 : IsDecided lone 2 (decided.Refuted refutation)
decided_at_2 = (not_found_at_2, refuted_at_2)

not_refuted_at_3 : (log : Log) → IsDecided lone 3 (decided.Refuted log) → ⊥
not_refuted_at_3 log h = none_at_3 _ h.1

not_decided_once_spent : IsDecided lone 3 decided.Spent
not_decided_once_spent = tt
