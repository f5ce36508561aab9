use Rattle.std.proofs.Common.{◌≡◌, ℕ, zero, suc, List, [], ◌∷◌, ◌++◌, slice_get, Some, ap}
use Rattle.std.specs.List.{AllZip}
use Rattle.dsa_terms.specs.Buffers.{Instance}
use Rattle.dsa_terms.specs.Claims.{Claim, Entry}
use Rattle.dsa_terms.specs.Logs.{ByLine, Below, Cases, Cite, IsLegal, IsLegalCite, IsLegalReason, Line, Over, Twin}
use Rattle.refute_log.specs.Lines.{line_value}
use Rattle.refute_log.specs.Logs.{OpenLog}
use Rattle.search_tests.proofs.conflicts_tests.eased.Goals as goal

module _ (I : Instance) (C : ℕ) (lines more : List Line) where
  get_before : (k : ℕ) (line : Line) → slice_get lines k ≡ Some line → slice_get (lines ++ more) k ≡ Some line
  get_before k line h = go lines k h
    where
      go : (xs : List Line) (k : ℕ) → slice_get xs k ≡ Some line → slice_get (xs ++ more) k ≡ Some line
      go [] k h = absurd cc
      go (x ∷ xs) zero h = h
      go (x ∷ xs) (suc k) h = go xs k h

  cite_stays : (l : Claim) (e : Entry) (cite : Cite) → IsLegalCite I lines l e cite →
      IsLegalCite I (lines ++ more) l e cite
  cite_stays l e (ByLine k) c = (c.0, get_before k c.0 c.1, c.2)
  cite_stays l e (Below b) c = c
  cite_stays l e (Twin b) c = c

  cites_stay : (l es : Claim) (cites : List Cite) → AllZip (IsLegalCite I lines l) es cites →
      AllZip (IsLegalCite I (lines ++ more) l) es cites
  cites_stay l [] [] z = tt
  cites_stay l [] (y ∷ ys) z = absurd z
  cites_stay l (x ∷ xs) [] z = absurd z
  cites_stay l (x ∷ xs) (y ∷ ys) z = (cite_stays l x y z.0, cites_stay l xs ys z.1)

  reason_stays : (line : Line) → IsLegalReason I C lines line → IsLegalReason I C (lines ++ more) line
  reason_stays (Over l T H G) h = h
  reason_stays (Cases l cites) h = cites_stay l l cites h

  stays_legal : (line : Line) → IsLegal I C lines line → IsLegal I C (lines ++ more) line
  stays_legal line h = record { claim = h.claim; not_empty = h.not_empty; reason = reason_stays line h.reason }

pub ease-requires-clause-legal : goal.ease-requires-clause-legal
ease-requires-clause-legal c =
    rw (
      ap (λ (log : OpenLog). log.lines) c.in_ok-push.ensures.appended,
      ap (λ (log : OpenLog). log.capacity) c.in_ok-push.ensures.appended,
    )
    (stays_legal c.args.instance.now c.args.log.now.capacity c.args.log.now.lines _ (line_value c.args.line)
    (rw c.in_ok-copied.ensures at c.in_ok-push.ensures.legal))
