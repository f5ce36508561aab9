-- Lines that are taken one after another.
use Rattle.std.proofs.Common.{◌≡◌, ℕ, zero, suc, ◌+◌, ◌<◌, List, [], ◌∷◌, ◌++◌, map, length, take, Some, None, slice_get, slice_index_or, option_map, refl, sym, ap, ◌∙◌, arith}
use Rattle.dsa_terms.specs.Buffers.{Instance}
use Rattle.std.proofs.lemmas.List.{map-append}
use Rattle.refute_log.specs.Logs.{Belongs, OpenLog}
use Rattle.refute_log.specs.declared.reason.Reason.{Reason}
use Rattle.log_text.specs.Text.{raw_line_of}
use Rattle.log_text.specs.declared.raw.RawLine.{RawLine}
use Rattle.log_check.specs.declared.fault.CheckFault.TheVariants as fault
use Rattle.log_check.specs.Faults.{illegal_at, illegal_fault, line_of, raw_reason}
use Rattle.log_check.specs.Taking.{IsTaken}
use Rattle.dsa_model.proofs.Ranges.{some_here, some_later}

pub get_at : {X : Type 0} (xs : List X) (k : ℕ) (x : X) → k < length xs → x ≡ slice_index_or xs k x →
    slice_get xs k ≡ Some x
get_at [] k x lt e = absurd (omega arith)
get_at (y ∷ ys) zero x lt e = ap Some (sym e)
get_at (y ∷ ys) (suc k) x lt e = get_at ys k x (omega arith) e

pub take_next : {X : Type 0} (xs : List X) (k : ℕ) (x : X) → slice_get xs k ≡ Some x →
    take (k + 1) xs ≡ take k xs ++ x ∷ []
take_next xs k x h = rw (add_one k) (go xs k x h)
  where
    add_one : (n : ℕ) → n + 1 ≡ suc n
    add_one n = omega arith

    go : {X : Type 0} (xs : List X) (k : ℕ) (x : X) → slice_get xs k ≡ Some x → take (suc k) xs ≡ take k xs ++ x ∷ []
    go [] k x h = absurd cc
    go (y ∷ ys) zero x h = let q : y ≡ x = cc in rw q (take_zero ys x)
      where
        take_zero : {X : Type 0} (ys : List X) (x : X) → (x ∷ take 0 ys) ≡ x ∷ []
        take_zero [] x = refl
        take_zero (z ∷ zs) x = refl
    go (y ∷ ys) (suc k) x h = ap (λ zs. y ∷ zs) (go ys k x h)

-- the reason of the line that comes next
at_next : (I : Instance) (C : ℕ) (lines : List RawLine) (n : ℕ) (log : OpenLog) (line : RawLine) →
    IsTaken I C lines n log → slice_get lines n ≡ Some line →
    illegal_at I C lines n ≡ option_map (fault.Illegal n) (raw_reason I log.capacity log.lines line)
at_next I C lines n log line t h = rw h (rw (ap (λ v. v.capacity) t.taken, ap (λ v. v.lines) t.taken) refl)

-- one line more
pub next_taken : (I : Instance) (C : ℕ) (lines : List RawLine) (n : ℕ) (log new : OpenLog) (line : RawLine) →
    n < length lines → line ≡ slice_index_or lines n line → IsTaken I C lines n log →
    raw_reason I log.capacity log.lines line ≡ None →
    new ≡ record log { lines = log.lines ++ line_of line ∷ [] } → raw_line_of (line_of line) ≡ line → Belongs I new →
    IsTaken I C lines (n + 1) new
next_taken I C lines n log new line lt at t none e text b =
    let h = get_at lines n line lt at in
    let k = take_next lines n line h in
    let q = at_next I C lines n log line t h in
    record {
      left = t.left ∙ some_later (illegal_at I C lines) n (length lines) lt
          (q ∙ ap (option_map (fault.Illegal n)) none);
      taken = e ∙ rw (
        ap (λ v. v.count) t.taken,
        ap (λ v. v.capacity) t.taken,
        ap (λ v. v.lines) t.taken,
        k,
        map-append line_of (take n lines) (line ∷ []),
      ) refl;
      text = rw (
        k,
        map-append line_of (take n lines) (line ∷ []),
        map-append raw_line_of (map line_of (take n lines)) (line_of line ∷ []),
        t.text,
        text,
      ) refl;
      belongs = b;
    }

-- a line that is not legal
pub found_fault : (I : Instance) (C : ℕ) (lines : List RawLine) (n : ℕ) (log : OpenLog) (line : RawLine) (r : Reason) →
    n < length lines → line ≡ slice_index_or lines n line → IsTaken I C lines n log →
    raw_reason I log.capacity log.lines line ≡ Some r → illegal_fault I C lines ≡ Some (fault.Illegal n r)
found_fault I C lines n log line r lt at t some =
    let h = get_at lines n line lt at in
    t.left ∙ some_here (illegal_at I C lines) n (length lines) (fault.Illegal n r) lt
    (at_next I C lines n log line t h ∙ ap (option_map (fault.Illegal n)) some)
