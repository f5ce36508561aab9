-- Bytes of either version: they say at most one log, have at most one first fault, and not both.
use Rattle.std.proofs.Common.{◌≡◌, ℕ, ◌^◌, ◌≤◌, ◌≢◌, inl, inr, subst, List, [], ◌∷◌, ◌++◌, codes, length, refl, sym, ap, ◌∙◌, arith, append_assoc, append-nil}
use Rattle.std.specs.List.{flat_map}
use Rattle.log_text.specs.Faults.{GoesOn, HasHeader, HasNoRow, HasRow, IsFirstFault, IsVersion, Meets}
use Rattle.log_text.specs.Faults as fault
use Rattle.log_text.specs.Numerals.{numeral}
use Rattle.log_text.specs.RawTexts.{end_text, header_text}
use Rattle.log_text.specs.Says.{AreGood, EndRow, HasBase, HasChanges, IsGood, IsRising, IsWithin, LineRow, Row, SaysBy, row_text}
use Rattle.log_text.specs.Spellings.{Spelled, line_said, lines_said, spelled_log, spelled_text}
use Rattle.log_text.specs.declared.fault.TextFault.{TextFault}
use Rattle.log_text.specs.declared.fault.TextFault.TheVariants.{NotLog, BadVersion, BadLine, NumberTooLarge, NotRising, BadBase, BadChange, NoEnd, AfterEnd}
use Rattle.log_text.specs.declared.raw.RawLine.{RawLine}
use Rattle.log_text.specs.declared.raw.RawLog.{RawLog}
use Rattle.log_text.proofs.PrefixFree.{cut, number_split}
use Rattle.log_text.proofs.Splits.{line_split, lines_split, not_empty, row_split}
use Rattle.log_text.proofs.Unique.{end_form, header_split}

-- ---- faults where a row would begin
-- the fault of a row that has the right form, after these lines, with more bytes after it
data RowFault (lines : List RawLine) (row : Row) (more : List ℕ) : TextFault → Type 0 where
  too_large : (IsWithin row → ⊥) → RowFault lines row more (NumberTooLarge (length lines))
  falls : IsWithin row → (IsRising row → ⊥) → RowFault lines row more (NotRising (length lines))
  no_base : IsWithin row → IsRising row → (HasBase lines row → ⊥) → RowFault lines row more (BadBase (length lines))
  no_change : IsWithin row → IsRising row → HasBase lines row → (HasChanges lines row → ⊥) →
      RowFault lines row more (BadChange (length lines))
  after_end : (last : ℕ) → row ≡ EndRow last → IsWithin row → more ≢ [] → RowFault lines row more AfterEnd

-- the fault of bytes where the next row would begin
data FaultAt (v : ℕ) (lines : List RawLine) (bytes : List ℕ) : TextFault → Type 0 where
  at_end : bytes ≡ [] → FaultAt v lines bytes NoEnd
  at_no_row : bytes ≢ [] → HasNoRow v bytes → FaultAt v lines bytes (BadLine (length lines))
  at_row : (row : Row) (more : List ℕ) (f : TextFault) → HasRow v bytes row more → RowFault lines row more f →
      FaultAt v lines bytes f

-- an end is never one that does not rise, has no base or changes nothing
end_rises : (row : Row) {e : ℕ} → row ≡ EndRow e → IsRising row
end_rises (LineRow line) q = absurd cc
end_rises (EndRow k) q = tt

end_has_base : (lines : List RawLine) (row : Row) {e : ℕ} → row ≡ EndRow e → HasBase lines row
end_has_base lines (LineRow line) q = absurd cc
end_has_base lines (EndRow k) q = tt

end_has_changes : (lines : List RawLine) (row : Row) {e : ℕ} → row ≡ EndRow e → HasChanges lines row
end_has_changes lines (LineRow line) q = absurd cc
end_has_changes lines (EndRow k) q = tt

-- a row has at most one fault
row_fault_unique : (lines : List RawLine) (row : Row) (more : List ℕ) (f g : TextFault) →
    RowFault lines row more f → RowFault lines row more g → f ≡ g
row_fault_unique lines row more f g (too_large a) (too_large b) = refl
row_fault_unique lines row more f g (too_large a) (falls w b) = absurd (a w)
row_fault_unique lines row more f g (too_large a) (no_base w r b) = absurd (a w)
row_fault_unique lines row more f g (too_large a) (no_change w r h b) = absurd (a w)
row_fault_unique lines row more f g (too_large a) (after_end e q w b) = absurd (a w)
row_fault_unique lines row more f g (falls w a) (too_large b) = absurd (b w)
row_fault_unique lines row more f g (falls w a) (falls v b) = refl
row_fault_unique lines row more f g (falls w a) (no_base v r b) = absurd (a r)
row_fault_unique lines row more f g (falls w a) (no_change v r h b) = absurd (a r)
row_fault_unique lines row more f g (falls w a) (after_end e q v b) = absurd (a (end_rises row q))
row_fault_unique lines row more f g (no_base w r a) (too_large b) = absurd (b w)
row_fault_unique lines row more f g (no_base w r a) (falls v b) = absurd (b r)
row_fault_unique lines row more f g (no_base w r a) (no_base v s b) = refl
row_fault_unique lines row more f g (no_base w r a) (no_change v s h b) = absurd (a h)
row_fault_unique lines row more f g (no_base w r a) (after_end e q v b) = absurd (a (end_has_base lines row q))
row_fault_unique lines row more f g (no_change w r h a) (too_large b) = absurd (b w)
row_fault_unique lines row more f g (no_change w r h a) (falls v b) = absurd (b r)
row_fault_unique lines row more f g (no_change w r h a) (no_base v s b) = absurd (b h)
row_fault_unique lines row more f g (no_change w r h a) (no_change v s i b) = refl
row_fault_unique lines row more f g (no_change w r h a) (after_end e q v b) = absurd (a (end_has_changes lines row q))
row_fault_unique lines row more f g (after_end e q w a) (too_large b) = absurd (b w)
row_fault_unique lines row more f g (after_end e q w a) (falls v b) = absurd (b (end_rises row q))
row_fault_unique lines row more f g (after_end e q w a) (no_base v r b) = absurd (b (end_has_base lines row q))
row_fault_unique lines row more f g (after_end e q w a) (no_change v r h b) = absurd (b (end_has_changes lines row q))
row_fault_unique lines row more f g (after_end e q w a) (after_end d p v b) = refl

-- the same row with the same bytes after it
fault_moved : (lines : List RawLine) {x y : Row} {m n : List ℕ} (f : TextFault) → x ≡ y → m ≡ n →
    RowFault lines x m f → RowFault lines y n f
fault_moved lines {x} {y} {m} {n} f p q a = subst (λ (v : List ℕ). RowFault lines y v f) q
    (subst (λ (u : Row). RowFault lines u m f) p a)

same_row : (v : ℕ) (lines : List RawLine) (bytes : List ℕ) (f g : TextFault) (x y : Row) (m n : List ℕ) →
    HasRow v bytes x m → HasRow v bytes y n → RowFault lines x m f → RowFault lines y n g → f ≡ g
same_row v lines bytes f g x y m n p q a b =
    let e = row_split x y m n (sym p.text ∙ q.text) in
    row_fault_unique lines y n f g (fault_moved lines f e.0 e.1 a) b

fault_at_unique : (v : ℕ) (lines : List RawLine) (bytes : List ℕ) (f g : TextFault) → FaultAt v lines bytes f →
    FaultAt v lines bytes g → f ≡ g
fault_at_unique v lines bytes f g (at_end e) (at_end d) = refl
fault_at_unique v lines bytes f g (at_end e) (at_no_row s n) = absurd (s e)
fault_at_unique v lines bytes f g (at_end e) (at_row x m h p a) = absurd (not_empty x m (sym p.text ∙ e))
fault_at_unique v lines bytes f g (at_no_row s n) (at_end e) = absurd (s e)
fault_at_unique v lines bytes f g (at_no_row s n) (at_no_row t m) = refl
fault_at_unique v lines bytes f g (at_no_row s n) (at_row x m h p a) = absurd (n x m p.formed p.text)
fault_at_unique v lines bytes f g (at_row x m h p a) (at_end e) = absurd (not_empty x m (sym p.text ∙ e))
fault_at_unique v lines bytes f g (at_row x m h p a) (at_no_row s n) = absurd (n x m p.formed p.text)
fault_at_unique v lines bytes f g (at_row x m h p a) (at_row y n i q b) =
    same_row v lines bytes h i x y m n p q a b

-- ---- good rows have no fault
sound_row : (v : ℕ) (lines : List RawLine) (row : Row) (more : List ℕ) (f : TextFault) →
    RowFault lines row more f → IsGood v lines row → ((e : ℕ) → row ≡ EndRow e → more ≡ []) → ⊥
sound_row v lines row more f (too_large a) g l = a g.within
sound_row v lines row more f (falls w a) g l = a g.rising
sound_row v lines row more f (no_base w r a) g l = a g.base
sound_row v lines row more f (no_change w r h a) g l = a g.changes
sound_row v lines row more f (after_end e q w a) g l = a (l e q)

no_fault_at : (v : ℕ) (lines : List RawLine) (bytes : List ℕ) (f : TextFault) (row : Row) (more : List ℕ) →
    FaultAt v lines bytes f → bytes ≡ row_text row ++ more → IsGood v lines row →
    ((e : ℕ) → row ≡ EndRow e → more ≡ []) → ⊥
no_fault_at v lines bytes f row more (at_end e) q g l = not_empty row more (sym q ∙ e)
no_fault_at v lines bytes f row more (at_no_row s n) q g l = n row more g.formed q
no_fault_at v lines bytes f row more (at_row x m h p a) q g l =
    let e = row_split x row m more (sym p.text ∙ q) in
    sound_row v lines row more h (fault_moved lines h e.0 e.1 a) g l

-- no good line is at fault
line_no_fault : (v : ℕ) (lines : List RawLine) (bytes : List ℕ) (f : TextFault) (line : Spelled) (more : List ℕ) →
    FaultAt v lines bytes f → IsGood v lines (LineRow line) → bytes ≡ spelled_text line ++ more → ⊥
line_no_fault v lines bytes f line more a g e = no_fault_at v lines bytes f (LineRow line) more a e g
    (λ e q. absurd cc)

-- an end at the end is not at fault
end_no_fault : (v : ℕ) (lines : List RawLine) (bytes : List ℕ) (f : TextFault) (e : ℕ) →
    FaultAt v lines bytes f → e ≤ 2 ^ 60 → bytes ≡ end_text e ++ [] → ⊥
end_no_fault v lines bytes f e a w q = no_fault_at v lines bytes f (EndRow e) [] a q
    (record { formed = tt; within = w; rising = tt; base = tt; changes = tt }) (λ e q. refl)

-- ---- whole texts
-- what is good after a line is good after the same line
good_moved : (v : ℕ) (earlier : List RawLine) {x y : Spelled} (ss : List Spelled) → x ≡ y →
    AreGood v (earlier ++ line_said earlier x ∷ []) ss → AreGood v (earlier ++ line_said earlier y ∷ []) ss
good_moved v earlier ss p a = subst (λ (u : Spelled). AreGood v (earlier ++ line_said earlier u ∷ []) ss) p a

at_moved : (v : ℕ) (earlier : List RawLine) {x y : Spelled} (ss : List Spelled) (r : List ℕ) (f : TextFault) → x ≡ y →
    FaultAt v (lines_said (earlier ++ line_said earlier x ∷ []) ss) r f →
    FaultAt v (lines_said (earlier ++ line_said earlier y ∷ []) ss) r f
at_moved v earlier ss r f p a =
    subst (λ (u : Spelled). FaultAt v (lines_said (earlier ++ line_said earlier u ∷ []) ss) r f) p a

longer : {x y : Spelled} {xs ys : List Spelled} → x ≡ y → xs ≡ ys → x ∷ xs ≡ y ∷ ys
longer h k = cc

-- faults come after the same good lines
lines_same : (v : ℕ) (earlier : List RawLine) (xs ys : List Spelled) (r s : List ℕ) (f g : TextFault) →
    AreGood v earlier xs → AreGood v earlier ys →
    FaultAt v (lines_said earlier xs) r f → FaultAt v (lines_said earlier ys) s g →
    flat_map spelled_text xs ++ r ≡ flat_map spelled_text ys ++ s → (xs ≡ ys) × (r ≡ s)
lines_same v earlier [] [] r s f g a b p q e = (refl, e)
lines_same v earlier [] (y ∷ ys) r s f g a b p q e = absurd (line_no_fault v earlier r f y _ p b.0
    (e ∙ append_assoc (spelled_text y) (flat_map spelled_text ys) s))
lines_same v earlier (x ∷ xs) [] r s f g a b p q e = absurd (line_no_fault v earlier s g x _ q a.0
    (sym e ∙ append_assoc (spelled_text x) (flat_map spelled_text xs) r))
lines_same v earlier (x ∷ xs) (y ∷ ys) r s f g a b p q e =
    let h = sym (append_assoc (spelled_text x) (flat_map spelled_text xs) r)
    ∙ (e ∙ append_assoc (spelled_text y) (flat_map spelled_text ys) s) in
    let one = line_split x y _ _ h in
    let two = lines_same v (earlier ++ line_said earlier y ∷ []) xs ys r s f g (good_moved v earlier xs one.0 a.1) b.1
    (at_moved v earlier xs r f one.0 p) q one.1 in
    (longer one.0 two.0, two.1)

-- good lines and an end are not at fault
lines_no_fault : (v : ℕ) (earlier : List RawLine) (xs ys : List Spelled) (r : List ℕ) (e : ℕ) (f : TextFault) →
    AreGood v earlier xs → AreGood v earlier ys → FaultAt v (lines_said earlier xs) r f → e ≤ 2 ^ 60 →
    flat_map spelled_text xs ++ r ≡ flat_map spelled_text ys ++ (end_text e ++ []) → ⊥
lines_no_fault v earlier [] [] r e f a b p w q = end_no_fault v earlier r f e p w q
lines_no_fault v earlier [] (y ∷ ys) r e f a b p w q = line_no_fault v earlier r f y _ p b.0
    (q ∙ append_assoc (spelled_text y) (flat_map spelled_text ys) (end_text e ++ []))
lines_no_fault v earlier (x ∷ xs) [] r e f a b p w q =
    let t = row_split (LineRow x) (EndRow e) _ _
    (sym (append_assoc (spelled_text x) (flat_map spelled_text xs) r) ∙ q) in
    let n : LineRow x ≡ EndRow e = t.0 in cc
lines_no_fault v earlier (x ∷ xs) (y ∷ ys) r e f a b p w q =
    let h = sym (append_assoc (spelled_text x) (flat_map spelled_text xs) r)
    ∙ (q ∙ append_assoc (spelled_text y) (flat_map spelled_text ys) (end_text e ++ [])) in
    let one = line_split x y _ _ h in
    lines_no_fault v (earlier ++ line_said earlier y ∷ []) xs ys r e f (good_moved v earlier xs one.0 a.1) b.1
    (at_moved v earlier xs r f one.0 p) w one.1

-- ---- the three ways in which bytes say no log
data Way (bytes : List ℕ) : TextFault → Type 0 where
  header_missing : ((v n c : ℕ) (rest : List ℕ) → HasHeader bytes v n c rest → ⊥) → Way bytes NotLog
  unknown_version : (v n c : ℕ) (rest : List ℕ) → HasHeader bytes v n c rest → (IsVersion v → ⊥) →
      Way bytes (BadVersion v)
  row_at_fault : (v : ℕ) (lines : List RawLine) (rest : List ℕ) (f : TextFault) → GoesOn v bytes lines rest →
      FaultAt v lines rest f → Way bytes f

met_at : (bytes : List ℕ) (lines : List RawLine) (row : Row) (more : List ℕ) (f : TextFault) →
    Meets bytes lines row more → RowFault lines row more f → Way bytes f
met_at bytes lines row more f m a = row_at_fault m.version lines m.rest f m.goes_on (at_row row more f m.has_row a)

way : (bytes : List ℕ) (f : TextFault) → IsFirstFault bytes f → Way bytes f
way bytes f (fault.no_header n) = header_missing n
way bytes f (fault.other_version v n c r h u) = unknown_version v n c r h u
way bytes f (fault.no_end v lines g) = row_at_fault v lines [] NoEnd g (at_end refl)
way bytes f (fault.no_row v lines r g s n) = row_at_fault v lines r (BadLine (length lines)) g (at_no_row s n)
way bytes f (fault.too_large lines row more m p) = met_at bytes lines row more _ m (too_large p)
way bytes f (fault.falls lines row more m w r) = met_at bytes lines row more _ m (falls w r)
way bytes f (fault.no_base lines row more m w r b) = met_at bytes lines row more _ m (no_base w r b)
way bytes f (fault.no_change lines row more m w r b n) = met_at bytes lines row more _ m (no_change w r b n)
way bytes f (fault.after_end lines last more m w s) =
    met_at bytes lines (EndRow last) more _ m (after_end last refl w s)

version_fits : (v : ℕ) → IsVersion v → v ≤ 2
version_fits v (inl e) = omega arith
version_fits v (inr e) = omega arith

header_of : (v : ℕ) (bytes : List ℕ) (lines : List RawLine) (rest : List ℕ) → (g : GoesOn v bytes lines rest) →
    HasHeader bytes v g.count g.capacity (flat_map spelled_text g.spelled ++ rest)
header_of v bytes lines rest g = record {
  version_limit = let k = version_fits v g.known in omega arith;
  count_limit = g.count_limit;
  capacity_limit = g.capacity_limit;
  text = g.text;
}

headers_same : (bytes : List ℕ) (v n c w m d : ℕ) (r s : List ℕ) → HasHeader bytes v n c r →
    HasHeader bytes w m d s → (v ≡ w) × (n ≡ m) × (c ≡ d) × (r ≡ s)
headers_same bytes v n c w m d r s p q = header_split v w n m c d r s (sym p.text ∙ q.text)

-- after the good lines that go on, faults come there
at_said : (v : ℕ) (bytes : List ℕ) (lines : List RawLine) (rest : List ℕ) (f : TextFault) →
    (g : GoesOn v bytes lines rest) → FaultAt v lines rest f → FaultAt v (lines_said [] g.spelled) rest f
at_said v bytes lines rest f g a = subst (λ (u : List RawLine). FaultAt v u rest f) g.said a

-- the same version, lines and rest
at_same : {v w : ℕ} (xs ys : List Spelled) {r s : List ℕ} (f : TextFault) → v ≡ w → xs ≡ ys → r ≡ s →
    FaultAt v (lines_said [] xs) r f → FaultAt w (lines_said [] ys) s f
at_same {v} {w} xs ys {r} {s} f o p q a = subst (λ (u : ℕ). FaultAt u (lines_said [] ys) s f) o
    (subst (λ (u : List ℕ). FaultAt v (lines_said [] ys) u f) q
    (subst (λ (u : List Spelled). FaultAt v (lines_said [] u) r f) p a))

-- bytes have at most one first fault
pub first_fault_unique : (bytes : List ℕ) (f g : TextFault) → IsFirstFault bytes f → IsFirstFault bytes g → f ≡ g
first_fault_unique bytes f g a b = both f g (way bytes f a) (way bytes g b)
  where
    rows : (f g : TextFault) (v w : ℕ) (xs ys : List RawLine) (r s : List ℕ) → GoesOn v bytes xs r →
        GoesOn w bytes ys s →
        FaultAt v xs r f → FaultAt w ys s g → f ≡ g
    rows f g v w xs ys r s p q a b =
        let h = headers_same bytes v p.count p.capacity w q.count q.capacity _ _ (header_of v bytes xs r p)
        (header_of w bytes ys s q) in
        let c = at_same p.spelled p.spelled f h.0 refl refl (at_said v bytes xs r f p a) in
        let d = at_said w bytes ys s g q b in
        let e = lines_same w [] p.spelled q.spelled r s f g
        (subst (λ (u : ℕ). AreGood u [] p.spelled) h.0 p.good) q.good
        c d h.3 in
        fault_at_unique w (lines_said [] q.spelled) s f g (at_same p.spelled q.spelled f refl e.0 e.1 c) d

    both : (f g : TextFault) → Way bytes f → Way bytes g → f ≡ g
    both f g (header_missing n) (header_missing m) = refl
    both f g (header_missing n) (unknown_version v m c r h u) = absurd (n v m c r h)
    both f g (header_missing n) (row_at_fault v xs r h p a) =
        absurd (n v p.count p.capacity _ (header_of v bytes xs r p))
    both f g (unknown_version v m c r h u) (header_missing n) = absurd (n v m c r h)
    both f g (unknown_version v m c r h u) (unknown_version w n d s i t) =
        ap BadVersion (headers_same bytes v m c w n d r s h i).0
    both f g (unknown_version v m c r h u) (row_at_fault w xs s i p a) = absurd (u (subst IsVersion (sym
        (headers_same bytes v m c w p.count p.capacity r _ h (header_of w bytes xs s p)).0) p.known))
    both f g (row_at_fault v xs r h p a) (header_missing n) =
        absurd (n v p.count p.capacity _ (header_of v bytes xs r p))
    both f g (row_at_fault w xs s i p a) (unknown_version v m c r h u) = absurd (u (subst IsVersion (sym
        (headers_same bytes v m c w p.count p.capacity r _ h (header_of w bytes xs s p)).0) p.known))
    both f g (row_at_fault v xs r h p a) (row_at_fault w ys s i q b) = rows h i v w xs ys r s p q a b

-- ---- what bytes say
pub log_form : (v n c : ℕ) (spelled : List Spelled) (e : ℕ) (r : List ℕ) → spelled_log v n c spelled e ++ r ≡
    header_text v n c ++ (flat_map spelled_text spelled ++ (end_text e ++ r))
log_form v n c spelled e r = regroup (header_text v n c) (flat_map spelled_text spelled) (end_text e) r
  where
    regroup : (a b c r : List ℕ) → (a ++ b ++ c) ++ r ≡ a ++ (b ++ (c ++ r))
    regroup a b c r = simp append_assoc

its_header : (v : ℕ) (bytes : List ℕ) (raw : RawLog) → IsVersion v → (t : SaysBy v bytes raw) →
    HasHeader bytes v raw.count raw.capacity (flat_map spelled_text t.spelled ++ (end_text raw.end ++ []))
its_header v bytes raw i t = record {
  version_limit = let k = version_fits v i in omega arith;
  count_limit = t.count_limit;
  capacity_limit = t.capacity_limit;
  text = t.text ∙ (sym (append-nil _) ∙ log_form v raw.count raw.capacity t.spelled raw.end []);
}

-- bytes that say a log have no first fault
pub says_no_fault : (v : ℕ) (bytes : List ℕ) (f : TextFault) (raw : RawLog) → IsVersion v → IsFirstFault bytes f →
    SaysBy v bytes raw → ⊥
says_no_fault v bytes f raw i a t = none f (way bytes f a)
  where
    none : (f : TextFault) → Way bytes f → ⊥
    none f (header_missing n) = n v raw.count raw.capacity _ (its_header v bytes raw i t)
    none f (unknown_version w n c r h u) = u (subst IsVersion (sym
        (headers_same bytes w n c v raw.count raw.capacity r _ h (its_header v bytes raw i t)).0) i)
    none f (row_at_fault w xs r g p a) =
        let h = headers_same bytes w p.count p.capacity v raw.count raw.capacity _ _ (header_of w bytes xs r p)
        (its_header v bytes raw i t) in
        lines_no_fault v [] p.spelled t.spelled r raw.end g
        (subst (λ (u : ℕ). AreGood u [] p.spelled) h.0 p.good) t.good
        (at_same p.spelled p.spelled g h.0 refl refl (at_said w bytes xs r g p a)) t.end_limit h.3

pub same_log : (g h : RawLog) → g.count ≡ h.count → g.capacity ≡ h.capacity → g.lines ≡ h.lines → g.end ≡ h.end → g ≡ h
same_log g h p q u v = λ i. record { count = p i; capacity = q i; lines = u i; end = v i }

-- bytes that say a log are not the beginning of others that say one, and say no other log
pub says_one : (v w : ℕ) (x y : List ℕ) (g h : RawLog) (r s : List ℕ) → SaysBy v x g → SaysBy w y h →
    x ++ r ≡ y ++ s → (g ≡ h) × (x ≡ y) × (r ≡ s)
says_one v w x y g h r s p q e =
    let f = sym (ap (λ u. u ++ r) p.text ∙ log_form v g.count g.capacity p.spelled g.end r)
    ∙ (e ∙ (ap (λ u. u ++ s) q.text ∙ log_form w h.count h.capacity q.spelled h.end s)) in
    let one = header_split v w g.count h.count g.capacity h.capacity _ _ f in
    let two = lines_split p.spelled q.spelled _ _ (ends p.spelled q.spelled g.end h.end r s one.3) in
    let three = number_split g.end h.end _ _ refl refl (cut (110 ∷ 100 ∷ 32 ∷ []) _ _ two.1) in
    let k = same_log g h one.1 one.2 (p.lines ∙ (ap (λ u. lines_said [] u) two.0 ∙ sym q.lines)) three.0 in
    (k, p.text ∙ (same_text one.0 one.1 one.2 two.0 three.0 ∙ sym q.text), cut (codes "\n") r s three.1)
  where
    ends : (a b : List Spelled) (m n : ℕ) (r s : List ℕ) →
        flat_map spelled_text a ++ (end_text m ++ r) ≡ flat_map spelled_text b ++ (end_text n ++ s) →
        flat_map spelled_text a ++ (codes "end " ++ (numeral m ++ (codes "\n" ++ r)))
        ≡ flat_map spelled_text b ++ (codes "end " ++ (numeral n ++ (codes "\n" ++ s)))
    ends a b m n r s e = ap (λ u. flat_map spelled_text a ++ u) (sym (end_form m r))
        ∙ (e ∙ ap (λ u. flat_map spelled_text b ++ u) (end_form n s))

    same_text : {v w m n c d : ℕ} {a b : List Spelled} {j k : ℕ} → v ≡ w → m ≡ n → c ≡ d → a ≡ b → j ≡ k →
        spelled_log v m c a j ≡ spelled_log w n d b k
    same_text p q u v w = rw (p, q, u, v, w) refl
