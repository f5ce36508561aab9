-- The text of an accepted log has no fault.
use Rattle.std.proofs.Common.{◌≡◌, ℕ, zero, suc, not, ◌==◌, List, [], ◌∷◌, map, length, take, Option, Some, None, slice_get, option_map, Result, Ok, Err, IfOk, refl, sym, ap, subst, ◌∙◌}
use Rattle.std.specs.Option.{option_or}
use Rattle.std.specs.List.{AllZip}
use Rattle.dsa_terms.specs.Buffers.{Instance, buffer, floor}
use Rattle.dsa_terms.specs.Claims.{Entry, IsWhole}
use Rattle.dsa_terms.specs.Logs.{Line, Over, Cases, claim_of, IsLegal, IsLegalReason, IsLegalCite, Log, IsAccepted}
use Rattle.dsa_terms.specs.Firsts.{when}
use Rattle.dsa_model.specs.Fails.{UnlessNoMemory, IfFault}
use Rattle.dsa_model.specs.declared.fail.Fail.{Fail}
use Rattle.dsa_model.specs.declared.fail.Fail.TheVariants.{Fault, NoMemory}
use Rattle.dsa_terms.proofs.NumberTests.{same, not_below}
use Rattle.canonical_order.specs.Claims.{is_above_floor}
use Rattle.refute_log.specs.Lines.{HasCites}
use Rattle.refute_log.specs.Reasons.{claim_reason, rule_reason}
use Rattle.refute_log.specs.declared.reason.Reason.TheVariants as reason
use Rattle.refute_log.proofs.Legal.{has_no_reason}
use Rattle.log_text.specs.Text.{raw_line_of, raw_log_of}
use Rattle.log_text.specs.declared.raw.RawLine.{RawLine}
use Rattle.log_text.specs.declared.raw.RawLog.{RawLog}
use Rattle.log_check.specs.declared.fault.CheckFault.{CheckFault}
use Rattle.log_check.specs.declared.fault.CheckFault.TheVariants as fault
use Rattle.log_check.specs.Faults.{line_of, has_own_cites, raw_reason, reason_at, illegal_at, illegal_fault, end_fault, check_fault}
use Rattle.dsa_model.proofs.Ranges.{find_none}
use Rattle.dsa_model.proofs.Faults.{neither}
use Rattle.log_check.proofs.Options.{none_of_three, none_from}
use Rattle.log_check.proofs.Texts.{line_back, own_cites}

-- ---- lines that are legal
as_many : {X Y : Type 0} (R : X → Y → Type 0) (xs : List X) (ys : List Y) → AllZip R xs ys → length xs ≡ length ys
as_many R [] [] h = refl
as_many R [] (y ∷ ys) h = absurd h
as_many R (x ∷ xs) [] h = absurd h
as_many R (x ∷ xs) (y ∷ ys) h = ap suc (as_many R xs ys h.1)

has_cites : (I : Instance) (C : ℕ) (earlier : List Line) (line : Line) → IsLegal I C earlier line → HasCites line
has_cites I C earlier line h = go line h.reason
  where
    go : (line : Line) → IsLegalReason I C earlier line → HasCites line
    go (Over l T H G) h = tt
    go (Cases l cites) h = as_many (IsLegalCite I earlier l) l cites h

legal_has_none : (I : Instance) (C : ℕ) (earlier : List Line) (line : Line) → IsLegal I C earlier line →
    raw_reason I C earlier (raw_line_of line) ≡ None
legal_has_none I C earlier line h =
    let k = has_cites I C earlier line h in
    let e = line_back line k in
    let q = neither (claim_reason I (claim_of line)) (rule_reason I C earlier line)
    (has_no_reason I C earlier line h) in
    none_of_three (claim_reason I (claim_of (line_of (raw_line_of line))))
    (when (not (has_own_cites (raw_line_of line))) reason.CitesDiffer)
    (rule_reason I C earlier (line_of (raw_line_of line)))
    (subst (λ l. claim_reason I (claim_of l) ≡ None) (sym e) q.0)
    (ap (λ b. when (not b) reason.CitesDiffer) (own_cites line k))
    (subst (λ l. rule_reason I C earlier l ≡ None) (sym e) q.1)

-- ---- lines of a log
get_mapped : {X Y : Type 0} (f : X → Y) (xs : List X) (k : ℕ) → slice_get (map f xs) k ≡ option_map f (slice_get xs k)
get_mapped f [] k = refl
get_mapped f (x ∷ xs) zero = refl
get_mapped f (x ∷ xs) (suc k) = get_mapped f xs k

abbrev AreLegal : Instance → ℕ → List Line → Type 0
AreLegal I C lines = (k : ℕ) (line : Line) → slice_get lines k ≡ Some line → IsLegal I C (take k lines) line

lines_back : (lines : List Line) (k : ℕ) →
    ((j : ℕ) (line : Line) → slice_get lines j ≡ Some line → HasCites line) →
    map line_of (take k (map raw_line_of lines)) ≡ take k lines
lines_back [] zero h = refl
lines_back [] (suc k) h = refl
lines_back (x ∷ xs) zero h = refl
lines_back (x ∷ xs) (suc k) h =
    rw (line_back x (h 0 x refl), lines_back xs k (λ j line q. h (suc j) line q)) refl

no_reason_at : (I : Instance) (C : ℕ) (lines : List Line) (k : ℕ) → AreLegal I C lines →
    reason_at I C (map raw_line_of lines) k ≡ None
no_reason_at I C lines k h = go (slice_get lines k) refl
  where
    back : map line_of (take k (map raw_line_of lines)) ≡ take k lines
    back = lines_back lines k (λ j line q. has_cites I C (take j lines) line (h j line q))

    go : (o : Option Line) → slice_get lines k ≡ o → reason_at I C (map raw_line_of lines) k ≡ None
    go None q = rw (get_mapped raw_line_of lines k, q) refl
    go (Some line) q = rw (get_mapped raw_line_of lines k, q, back)
        (legal_has_none I C (take k lines) line (h k line q))

none_illegal : (I : Instance) (C : ℕ) (lines : List Line) → AreLegal I C lines →
    illegal_fault I C (map raw_line_of lines) ≡ None
none_illegal I C lines h = none_from (illegal_at I C (map raw_line_of lines)) 0 (length (map raw_line_of lines))
    (λ k lt. ap (option_map (fault.Illegal k)) (no_reason_at I C lines k h))

-- ---- the end
no_end_fault : (I : Instance) (end : ℕ) (line : Line) → HasCites line → IsWhole I (claim_of line) →
    end_fault I end (Some (raw_line_of line)) ≡ None
unfolding is_above_floor
no_end_fault I end line k w = rw (line_back line k) (ap (λ (o : Option Entry).
    option_map (fault.EndNotWhole end) (option_map (λ (e : Entry). e.0) o))
    (find_none (is_above_floor I) (claim_of line) (λ e i. not_below (floor (buffer I e.0)) e.1 (w e i))))

-- ---- logs
no_fault : (I : Instance) (log : Log) → IsAccepted I log → check_fault I (raw_log_of log) ≡ None
no_fault I log h =
    let w = h.whole in
    let k = has_cites I log.capacity (take log.final log.lines) w.0 (h.legal log.final w.0 w.1) in
    let g = get_mapped raw_line_of log.lines log.final ∙ ap (option_map raw_line_of) w.1 in
    none_of_three (when (not (log.count == length I)) (fault.WrongCount log.count (length I)))
    (illegal_fault I log.capacity (map raw_line_of log.lines))
    (end_fault I log.final (slice_get (map raw_line_of log.lines) log.final))
    (ap (λ b. when (not b) (fault.WrongCount log.count (length I))) (same log.count (length I) h.same_count))
    (none_illegal I log.capacity log.lines h.legal)
    (ap (end_fault I log.final) g ∙ no_end_fault I log.final w.0 k w.2)

-- where there is a fault, no log with that text is accepted
pub faulty_is_not_accepted : (I : Instance) (raw : RawLog) (r : Result Log (Fail CheckFault)) →
    IfOk r (λ log. IsAccepted I log) →
    UnlessNoMemory r (λ log. raw_log_of log ≡ raw) (λ fault. check_fault I raw ≡ Some fault) →
    UnlessNoMemory r (λ log. IsAccepted I log) (λ _. (log : Log) → raw_log_of log ≡ raw → IsAccepted I log → ⊥)
faulty_is_not_accepted I raw (Ok log) a s = a
faulty_is_not_accepted I raw (Err (Fault f)) a s = λ log e h.
    let q = no_fault I log h in
    let r : check_fault I (raw_log_of log) ≡ Some f = subst (λ x. check_fault I x ≡ Some f) (sym e) s in
    absurd cc
faulty_is_not_accepted I raw (Err NoMemory) a s = a

-- accepted logs of one text are one
all_back : (lines : List Line) → ((j : ℕ) (line : Line) → slice_get lines j ≡ Some line → HasCites line) →
    map line_of (map raw_line_of lines) ≡ lines
all_back [] h = refl
all_back (x ∷ xs) h = rw (line_back x (h 0 x refl), all_back xs (λ j line q. h (suc j) line q)) refl

same_log : (I : Instance) (g h : Log) → IsAccepted I g → IsAccepted I h → raw_log_of g ≡ raw_log_of h → g ≡ h
same_log I g h a b e = go (ap (λ x. x.count) e) (ap (λ x. x.capacity) e) (ap (λ x. x.end) e)
    (sym (all_back g.lines (cited g a)) ∙ (ap (λ x. map line_of x.lines) e ∙ all_back h.lines (cited h b)))
  where
    cited : (log : Log) → IsAccepted I log → (j : ℕ) (line : Line) → slice_get log.lines j ≡ Some line →
        HasCites line
    cited log a j line q = has_cites I log.capacity (take j log.lines) line (a.legal j line q)

    go : g.count ≡ h.count → g.capacity ≡ h.capacity → g.final ≡ h.final → g.lines ≡ h.lines → g ≡ h
    go p q r s = λ i. record { count = p i; capacity = q i; lines = s i; final = r i }

pub accepted_is_found : (I : Instance) (raw : RawLog) (r : Result Log (Fail CheckFault)) →
    IfOk r (λ log. IsAccepted I log) →
    UnlessNoMemory r (λ log. raw_log_of log ≡ raw) (λ fault. check_fault I raw ≡ Some fault) →
    (log : Log) → raw_log_of log ≡ raw → IsAccepted I log → UnlessNoMemory r (λ found. found ≡ log) (λ _. ⊥)
accepted_is_found I raw (Ok found) a s log e h = same_log I found log a h (s ∙ sym e)
accepted_is_found I raw (Err (Fault f)) a s log e h = faulty_is_not_accepted I raw (Err (Fault f)) a s log e h
accepted_is_found I raw (Err NoMemory) a s log e h = a

pub fault_is_found : (I : Instance) (raw : RawLog) (r : Result Log (Fail CheckFault)) →
    IfOk r (λ log. IsAccepted I log) →
    UnlessNoMemory r (λ log. raw_log_of log ≡ raw) (λ fault. check_fault I raw ≡ Some fault) →
    (fault : CheckFault) → check_fault I raw ≡ Some fault → UnlessNoMemory r (λ _. ⊥) (λ found. found ≡ fault)
fault_is_found I raw (Ok log) a s fault e =
    let q = no_fault I log a in
    let r : check_fault I (raw_log_of log) ≡ Some fault = subst (λ x. check_fault I x ≡ Some fault) (sym s) e in
    absurd cc
fault_is_found I raw (Err (Fault f)) a s fault e = let q : Some f ≡ Some fault = sym s ∙ e in cc
fault_is_found I raw (Err NoMemory) a s fault e = a

-- ---- the first fault
pub illegal_line : (I : Instance) (raw : RawLog) (f : CheckFault) → raw.count ≡ length I →
    illegal_fault I raw.capacity raw.lines ≡ Some f → check_fault I raw ≡ Some f
illegal_line I raw f e h = rw (same raw.count (length I) e)
    (ap (λ o. option_or o (option_or (end_fault I raw.end (slice_get raw.lines raw.end)) None)) h)

pub illegal_lines : (I : Instance) (raw : RawLog) (lines : List RawLine) (fail : Fail CheckFault) →
    raw.count ≡ length I → lines ≡ raw.lines → IfFault (λ f. illegal_fault I raw.capacity lines ≡ Some f) fail →
    IfFault (λ f. check_fault I raw ≡ Some f) fail
illegal_lines I raw lines (Fault f) e q h =
    illegal_line I raw f e (subst (λ ls. illegal_fault I raw.capacity ls ≡ Some f) q h)
illegal_lines I raw lines NoMemory e q h = h
