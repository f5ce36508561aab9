-- Lines that are taken from the front of the list of those that are left.
use Rattle.std.proofs.Common.{◌≡◌, ℕ, ◌+◌, ◌<◌, List, [], ◌∷◌, ◌++◌, length, take, Some, None, slice_index_or, refl, sym, ap, subst, ◌∙◌, arith}
use Rattle.dsa_terms.specs.Buffers.{Instance}
use Rattle.std.proofs.lemmas.List.{length-map}
use Rattle.refute_log.specs.Logs.{Belongs, OpenLog}
use Rattle.refute_log.specs.declared.reason.Reason.{Reason}
use Rattle.log_text.specs.Text.{raw_line_of}
use Rattle.log_text.specs.declared.raw.RawLine.{RawLine}
use Rattle.log_check.specs.declared.fault.CheckFault.TheVariants as fault
use Rattle.log_check.specs.Faults.{illegal_fault, line_of, raw_reason}
use Rattle.log_check.specs.Taking.{IsTaken}
use Rattle.log_check.proofs.Taken.{found_fault, next_taken}

-- the lines in front of the rest are the log
pub record IsTakenUpTo (I : Instance) (C : ℕ) (lines rest : List RawLine) (log : OpenLog) : Type 0 where
  pub front : List RawLine
  pub whole : lines ≡ front ++ rest
  pub are_taken : IsTaken I C lines (length front) log

at_front : {X : Type 0} (xs : List X) (y : X) (ys : List X) → (length xs < length (xs ++ y ∷ ys)) ×
    (y ≡ slice_index_or (xs ++ y ∷ ys) (length xs) y)
at_front [] y ys = (omega arith, refl)
at_front (x ∷ xs) y ys = let h = at_front xs y ys in (omega arith, h.1)

one_more : {X : Type 0} (xs : List X) (y : X) → length (xs ++ y ∷ []) ≡ length xs + 1
one_more [] y = refl
one_more (x ∷ xs) y = let h = one_more xs y in omega arith

moved : {X : Type 0} (xs : List X) (y : X) (ys : List X) → xs ++ y ∷ ys ≡ (xs ++ y ∷ []) ++ ys
moved [] y ys = refl
moved (x ∷ xs) y ys = ap (λ zs. x ∷ zs) (moved xs y ys)

-- one line more
pub next_in_front : (I : Instance) (C : ℕ) (lines rest more : List RawLine) (log new : OpenLog) (line : RawLine) →
    IsTakenUpTo I C lines rest log → rest ≡ line ∷ more → raw_reason I log.capacity log.lines line ≡ None →
    new ≡ record log { lines = log.lines ++ line_of line ∷ [] } → raw_line_of (line_of line) ≡ line → Belongs I new →
    IsTakenUpTo I C lines more new
next_in_front I C lines rest more log new line t e none made text b =
    let w : lines ≡ t.front ++ line ∷ more = t.whole ∙ ap (λ r. t.front ++ r) e in
    let p = at_front t.front line more in
    record {
      front = t.front ++ line ∷ [];
      whole = w ∙ moved t.front line more;
      are_taken = subst (λ n. IsTaken I C lines n new) (sym (one_more t.front line))
          (next_taken I C lines (length t.front) log new line (rw w p.0) (rw w p.1) t.are_taken none made text b);
    }

length_take : {X : Type 0} (xs ys : List X) → length (take (length xs) (xs ++ ys)) ≡ length xs
length_take [] [] = refl
length_take [] (y ∷ ys) = refl
length_take (x ∷ xs) ys = let h = length_take xs ys in omega arith

-- so many lines are in front
count : (I : Instance) (C : ℕ) (lines rest : List RawLine) (log : OpenLog) (t : IsTakenUpTo I C lines rest log) →
    length log.lines ≡ length t.front
count I C lines rest log t =
    ap (λ v. length v.lines) t.are_taken.taken
    ∙ (length-map (take (length t.front) lines) line_of
    ∙ (ap (λ ls. length (take (length t.front) ls)) t.whole ∙ length_take t.front rest))

-- a line that is not legal
pub fault_in_rest : (I : Instance) (C : ℕ) (lines rest more : List RawLine) (log : OpenLog) (line : RawLine)
    (r : Reason) (n : ℕ) → IsTakenUpTo I C lines rest log → rest ≡ line ∷ more → n ≡ length log.lines →
    raw_reason I log.capacity log.lines line ≡ Some r → illegal_fault I C lines ≡ Some (fault.Illegal n r)
fault_in_rest I C lines rest more log line r n t e q some =
    let w : lines ≡ t.front ++ line ∷ more = t.whole ∙ ap (λ r. t.front ++ r) e in
    let p = at_front t.front line more in
    found_fault I C lines (length t.front) log line r (rw w p.0) (rw w p.1) t.are_taken some
    ∙ ap (λ k. Some (fault.Illegal k r)) (sym (q ∙ count I C lines rest log t))
