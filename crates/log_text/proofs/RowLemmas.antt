-- Rows that are read, and where no row stands.
use Rattle.std.proofs.Common.{◌≡◌, ◌≢◌, ◌^◌, ◌-◌, ℕ, Option, length, Result, Ok, Err, List, [], ◌∷◌, ◌++◌, codes, refl, sym, ap, ◌∙◌, arith, append_assoc, subst}
use Rattle.std.specs.Option.{unwrap_or}
use Rattle.std.specs.Result.{IsErrAnd}
use Rattle.dsa_model.specs.Fails.{IfFault, UnlessNoMemory}
use Rattle.dsa_model.specs.declared.fail.Fail.{Fail}
use Rattle.dsa_model.specs.declared.fail.Fail.TheVariants as fail
use Rattle.dsa_terms.specs.Claims.{Claim}
use Rattle.log_text.specs.Digits.{Stops}
use Rattle.log_text.specs.Changes.{Change}
use Rattle.log_text.specs.Edits.{AreChangesRead, EndsChanges, HasNoChanges, changes_text}
use Rattle.log_text.specs.Faults.{GoesOn, HasNoRow, HasRow, Meets}
use Rattle.log_text.specs.Faults as fault
use Rattle.log_text.specs.Numerals.{numeral}
use Rattle.log_text.specs.RawTexts.{cite_text, pair_text, spaced}
use Rattle.log_text.specs.Reading.{HasNoField, HasNoList, HasNoNumber, HasNoStart, IsBreak, IsFieldRead, IsItemRead, IsListRead, IsStartRead, capped, capped_cite, capped_pair, over_start}
use Rattle.log_text.specs.Rows.{HasNoBase, HasNoCases, HasNoDifference, HasNoOver, HasNoSpelling, IsCasesRead, IsDifferenceRead, IsFaultAfter, IsGoodRead, IsLineSaid, IsOverRead, IsRowRead, IsSpellingRead, IsUnsaid, row_said, row_value, spelled_value, spelling_value}
use Rattle.log_text.specs.Says.{EndRow, HasBase, HasChanges, IsFormed, IsRising, IsSpellingFormed, IsWithin, LineRow, Row, row_text}
use Rattle.log_text.specs.Spellings.{CasesAs, From, Full, OverAs, Spelling, spelling_of, spelling_text}
use Rattle.log_text.specs.declared.raw.RawCite.{RawCite}
use Rattle.log_text.specs.declared.raw.RawLine.{RawLine}
use Rattle.log_text.specs.declared.fault.TextFault.TheVariants.{BadBase, BadChange, BadLine, NumberTooLarge, NotRising}
use Rattle.log_text.specs.declared.rows.Read.{Read}
use Rattle.log_text.specs.declared.rows.Read.TheVariants as read
use Rattle.log_text.specs.declared.items.NoForm.{NoForm}
use Rattle.log_text.specs.declared.rows.ReadClaim.{ReadClaim}
use Rattle.log_text.specs.declared.rows.ReadLine.{ReadLine}
use Rattle.log_text.specs.declared.said.Said.{Said}
use Rattle.log_text.specs.declared.said.Said.TheVariants as said
use Rattle.log_text.specs.declared.said.Unsaid.TheVariants as unsaid
use Rattle.log_text.proofs.Capped.{within_back, within_same}
use Rattle.log_text.proofs.PrefixFree.{cut, ends_stop, head_of, number_split, tail_of}
use Rattle.log_text.proofs.ReadLemmas.{break_stops, unwrap-fitting}
use Rattle.log_text.proofs.Splits.{cases_form, changes_stop, colon_ends_spelling, full_no_base, over_form, spelling_split}
use Rattle.log_text.proofs.Unique.{end_form}

-- ---- errors that are passed on
pub passed_on : {T E : Type 0} (P : T → Type 0) (Q R : Type 0) (r : Result T (Fail E)) (f : Fail E) →
    IsErrAnd r (λ g. g ≡ f) → IfFault (λ _. Q) f → (Q → R) → UnlessNoMemory r P (λ _. R)
passed_on P Q R (Ok x) f e h k = absurd e
passed_on P Q R (Err fail.NoMemory) f e h k = tt
passed_on P Q R (Err (fail.Fault g)) fail.NoMemory e h k = absurd cc
passed_on P Q R (Err (fail.Fault g)) (fail.Fault x) e h k = k h

-- a fault that was met
pub fault_is : {E : Type 0} (P : E → Type 0) (f : Fail E) (e : E) → f ≡ fail.Fault e → IfFault P f → P e
fault_is P fail.NoMemory e q h = absurd cc
fault_is P (fail.Fault x) e q h = subst P (same q) h
  where
    same : {E : Type 0} {x y : E} → fail.Fault x ≡ fail.Fault y → x ≡ y
    same q = cc

-- another fault for the same reason
pub fault_for : {E : Type 0} {Q R : Type 0} (f : Fail E) → (Q → R) → IfFault (λ _. Q) f → IfFault (λ _. R) f
fault_for fail.NoMemory k h = tt
fault_for (fail.Fault x) k h = k h

-- ---- fields
-- what follows a field that was read
pub field_split : (end old : List ℕ) (v : Option ℕ) (new : List ℕ) → IsBreak end → (p : IsFieldRead end old v new) →
    (n : ℕ) (r : List ℕ) → old ≡ numeral n ++ (end ++ r) → (p.number ≡ n) × (new ≡ r)
field_split end old v new b p n r e =
    let t = number_split p.number n (end ++ new) (end ++ r) (break_stops end new b) (break_stops end r b)
    (sym p.text ∙ e) in (t.0, cut end new r t.1)

pub unwrapped : (end old : List ℕ) (v : Option ℕ) (new : List ℕ) (x : ℕ) → (p : IsFieldRead end old v new) →
    x ≡ unwrap_or v (2 ^ 64 - 1) → x ≡ capped p.number
unwrapped end old v new x p e = e ∙ (ap (λ u. unwrap_or u (2 ^ 64 - 1)) p.value_is ∙ unwrap-fitting p.number)

-- ---- Over lines
pub start_no_height : (old mid : List ℕ) (v : Option ℕ) → IsFieldRead (codes " ") old v mid →
    HasNoField (codes " ") mid → HasNoStart old
start_no_height old mid v p h = λ T H G r e. h H _ (field_split (codes " ") old v mid refl p T _ e).1

pub start_no_modulus : (old mid rest : List ℕ) (v w : Option ℕ) → IsFieldRead (codes " ") old v mid →
    IsFieldRead (codes " ") mid w rest → HasNoField (codes " : ") rest → HasNoStart old
start_no_modulus old mid rest v w p q h = λ T H G r e. h G _
    (field_split (codes " ") mid w rest refl q H _ (field_split (codes " ") old v mid refl p T _ e).1).1

pub start_read : (old mid rest new : List ℕ) (v w u : Option ℕ) (a b c : ℕ) → IsFieldRead (codes " ") old v mid →
    IsFieldRead (codes " ") mid w rest → IsFieldRead (codes " : ") rest u new →
    a ≡ unwrap_or v (2 ^ 64 - 1) → b ≡ unwrap_or w (2 ^ 64 - 1) → c ≡ unwrap_or u (2 ^ 64 - 1) →
    IsStartRead old a b c new
start_read old mid rest new v w u a b c p q s e f g = record {
  T = p.number;
  H = q.number;
  G = s.number;
  text = p.text ∙ ap (λ x. numeral p.number ++ (codes " " ++ x))
      (q.text ∙ ap (λ x. numeral q.number ++ (codes " " ++ x)) s.text);
  moment_is = unwrapped (codes " ") old v mid a p e;
  height_is = unwrapped (codes " ") mid w rest b q f;
  modulus_is = unwrapped (codes " : ") rest u new c s g;
}

-- what follows a start that was read
start_split : (old : List ℕ) (a b c : ℕ) (mid : List ℕ) → IsStartRead old a b c mid → (T H G : ℕ) (r : List ℕ) →
    old ≡ over_start T H G r → mid ≡ r
start_split old a b c mid p T H G r e =
    let one = number_split p.T T _ _ refl refl (sym p.text ∙ e) in
    let two = number_split p.H H _ _ refl refl (cut (codes " ") _ _ one.1) in
    let three = number_split p.G G _ _ refl refl (cut (codes " ") _ _ two.1) in
    cut (codes " : ") mid r three.1

pub over_no_start : (v : ℕ) (old : List ℕ) → HasNoStart old → HasNoOver v old
over_no_start v old h = λ T H G s r f e. h T H G _ e

pub over_no_claim : (v : ℕ) (old : List ℕ) (a b c : ℕ) (mid : List ℕ) → IsStartRead old a b c mid →
    HasNoSpelling v (codes "\n") mid → HasNoOver v old
over_no_claim v old a b c mid p h = λ T H G s r f e. h s r f (start_split old a b c mid p T H G _ e)

pub over_read : (v : ℕ) (old mid new : List ℕ) (a b c : ℕ) (s : Spelling) → IsStartRead old a b c mid →
    IsSpellingRead v (codes "\n") mid s new → IsOverRead v old (OverAs a b c s) new
over_read v old mid new a b c s p q = record {
  T = p.T;
  H = p.H;
  G = p.G;
  spelling = q.spelling;
  formed = q.formed;
  text = p.text ∙ ap (λ u. over_start p.T p.H p.G u) q.text;
  line_is = same p.moment_is p.height_is p.modulus_is q.value_is;
}
  where
    same : {T U H J G K : ℕ} {x y : Spelling} → T ≡ U → H ≡ J → G ≡ K → x ≡ y → OverAs T H G x ≡ OverAs U J K y
    same p q u v = cc

-- ---- claims
-- a claim in full
pub full_read : (v : ℕ) (end old : List ℕ) (l : Claim) (new : List ℕ) → IsListRead pair_text capped_pair end old l new →
    IsSpellingRead v end old (Full l) new
full_read v end old l new p = record {
  spelling = Full p.items;
  formed = p.some;
  text = p.text;
  value_is = ap Full p.values_are;
}

-- neither a claim in full nor a difference
pub no_spelling : (v : ℕ) (end old : List ℕ) → HasNoList pair_text end old →
    (v ≡ 2 → HasNoBase old) → HasNoSpelling v end old
no_spelling v end old h n = λ s r f e. go s r f e
  where
    go : (s : Spelling) (r : List ℕ) → IsSpellingFormed v s → old ≡ spelling_text s ++ (end ++ r) → ⊥
    go (Full l) r f e = h l r f e
    go (From base changes) r f e = n f _ e

-- a difference after its first byte
pub difference_read : (end old mid new : List ℕ) (base : ℕ) (changes : List Change) →
    IsItemRead numeral capped old base mid → AreChangesRead end mid changes new →
    IsDifferenceRead end old (From base changes) new
difference_read end old mid new base changes p t = record {
  base = p.item;
  changes = t.items;
  text = p.text ∙ ap (λ u. numeral p.item ++ u) t.text;
  value_is = same p.value_is t.values_are;
}
  where
    same : {a b : ℕ} {x y : List Change} → a ≡ b → x ≡ y → From a x ≡ From b y
    same p q = cc

-- digits end where a difference's changes begin
changes_stop_here : (end : List ℕ) → EndsChanges end → (changes : List Change) (r : List ℕ) →
    Stops (changes_text changes ++ (end ++ r))
changes_stop_here end l changes r = changes_stop changes (end ++ r) (ends_stop (end ++ r) (l r).ends)

pub no_base_number : (end old : List ℕ) → EndsChanges end → HasNoNumber old → HasNoDifference end old
no_base_number end old l h = λ base changes r q. h base _ (changes_stop_here end l changes r) q

pub no_difference : (end old mid : List ℕ) (base : ℕ) → EndsChanges end → IsItemRead numeral capped old base mid →
    HasNoChanges end mid → HasNoDifference end old
no_difference end old mid base l p h = λ b changes r q.
    h changes r (number_split p.item b mid _ p.stops (changes_stop_here end l changes r) (sym p.text ∙ q)).1

-- the difference with its first byte
pub spelling_read : (end old mid : List ℕ) (s : Spelling) (new : List ℕ) (v : ℕ) → v ≡ 2 → old ≡ 64 ∷ mid →
    IsDifferenceRead end mid s new → IsSpellingRead v end old s new
spelling_read end old mid s new v q e p = record {
  spelling = From p.base p.changes;
  formed = q;
  text = e ∙ ap (λ u. 64 ∷ u) (p.text ∙ sym (append_assoc (numeral p.base) (changes_text p.changes) (end ++ new)));
  value_is = p.value_is;
}

pub none_read : (end old mid : List ℕ) (v : ℕ) → EndsChanges end → old ≡ 64 ∷ mid → HasNoDifference end mid →
    HasNoSpelling v end old
none_read end old mid v l e h = λ s r f q. go s r q
  where
    go : (s : Spelling) (r : List ℕ) → old ≡ spelling_text s ++ (end ++ r) → ⊥
    go (Full k) r q = full_no_base k (end ++ r) (l r) mid (sym q ∙ e)
    go (From base changes) r q = h base changes r (tail_of 64 64 _ _ (sym e ∙ q)
        ∙ append_assoc (numeral base) (changes_text changes) (end ++ r))

-- what is read after the first byte is read with it
pub with_first_byte : (end old mid new : List ℕ) (v : ℕ) (r : Result ReadClaim (Fail NoForm)) → EndsChanges end →
    v ≡ 2 →
    old ≡ 64 ∷ mid →
    UnlessNoMemory r (λ c. IsDifferenceRead end mid (spelling_value c) new) (λ _. HasNoDifference end mid) →
    UnlessNoMemory r (λ c. IsSpellingRead v end old (spelling_value c) new) (λ _. HasNoSpelling v end old)
with_first_byte end old mid new v (Ok c) l q e h = spelling_read end old mid (spelling_value c) new v q e h
with_first_byte end old mid new v (Err (fail.Fault f)) l q e h = none_read end old mid v l e h
with_first_byte end old mid new v (Err fail.NoMemory) l q e h = tt

-- ---- Cases lines
pub cases_no_claim : (v : ℕ) (old : List ℕ) → HasNoSpelling v (codes " : ") old → HasNoCases v old
cases_no_claim v old h = λ s cites r f e. h s _ f.0 e

pub cases_no_cites : (v : ℕ) (old : List ℕ) (s : Spelling) (mid : List ℕ) →
    IsSpellingRead v (codes " : ") old s mid → HasNoList cite_text (codes "\n") mid → HasNoCases v old
cases_no_cites v old s mid p h = λ x cites r f e.
    h cites r f.1 (cut (codes " : ") mid (spaced cite_text cites ++ (codes "\n" ++ r))
    (spelling_split p.spelling x (codes " : " ++ mid)
    (codes " : " ++ (spaced cite_text cites ++ (codes "\n" ++ r))) (colon_ends_spelling mid)
    (colon_ends_spelling (spaced cite_text cites ++ (codes "\n" ++ r))) (sym p.text ∙ e)).1)

pub cases_read : (v : ℕ) (old mid new : List ℕ) (s : Spelling) (cites : List (ℕ × RawCite)) →
    IsSpellingRead v (codes " : ") old s mid → IsListRead cite_text capped_cite (codes "\n") mid cites new →
    IsCasesRead v old (CasesAs s cites) new
cases_read v old mid new s cites p q = record {
  spelling = p.spelling;
  cites = q.items;
  formed = (p.formed, q.some);
  text = p.text ∙ ap (λ u. spelling_text p.spelling ++ (codes " : " ++ u)) q.text;
  line_is = same p.value_is q.values_are;
}
  where
    same : {x y : Spelling} {c d : List (ℕ × RawCite)} → x ≡ y → c ≡ d → CasesAs x c ≡ CasesAs y d
    same p q = cc

-- ---- rows
pub row_over : (v : ℕ) (old mid : List ℕ) (line : ReadLine) (new : List ℕ) → old ≡ codes "over " ++ mid →
    IsOverRead v mid (spelled_value line) new → IsRowRead v old (read.Line line) new
row_over v old mid line new e p = record {
  row = LineRow (OverAs p.T p.H p.G p.spelling);
  is_row = record {
    formed = (p.formed, tt);
    text = e ∙ (ap (λ u. codes "over " ++ u) p.text ∙ sym (over_form p.T p.H p.G p.spelling new));
  };
  value_is = ap LineRow p.line_is;
}

pub row_cases : (v : ℕ) (old mid : List ℕ) (line : ReadLine) (new : List ℕ) → old ≡ codes "case : " ++ mid →
    IsCasesRead v mid (spelled_value line) new → IsRowRead v old (read.Line line) new
row_cases v old mid line new e p = record {
  row = LineRow (CasesAs p.spelling p.cites);
  is_row = record {
    formed = p.formed;
    text = e ∙ (ap (λ u. codes "case : " ++ u) p.text ∙ sym (cases_form p.spelling p.cites new));
  };
  value_is = ap LineRow p.line_is;
}

pub row_end : (v : ℕ) (old mid : List ℕ) (n : Option ℕ) (x : ℕ) (new : List ℕ) → old ≡ codes "end " ++ mid →
    IsFieldRead (codes "\n") mid n new → x ≡ unwrap_or n (2 ^ 64 - 1) → IsRowRead v old (read.End x) new
row_end v old mid n x new e p q = record {
  row = EndRow p.number;
  is_row = record { formed = tt; text = e ∙ (ap (λ u. codes "end " ++ u) p.text ∙ sym (end_form p.number new)) };
  value_is = ap EndRow (unwrapped (codes "\n") mid n new x p q);
}

-- no row stands where what follows each first word is none
no_row : (v : ℕ) (old : List ℕ) → ((r : List ℕ) → old ≡ codes "over " ++ r → HasNoOver v r) →
    ((r : List ℕ) → old ≡ codes "case : " ++ r → HasNoCases v r) →
    ((r : List ℕ) → old ≡ codes "end " ++ r → HasNoField (codes "\n") r) → HasNoRow v old
no_row v old f g h = λ row more p e. go row more p e
  where
    go : (row : Row) (more : List ℕ) → IsFormed v row → old ≡ row_text row ++ more → ⊥
    go (LineRow (OverAs T H G s)) more p e = f _ (e ∙ over_form T H G s more) T H G s more p.0 refl
    go (LineRow (CasesAs s cites)) more p e = g _ (e ∙ cases_form s cites more) s cites more p refl
    go (EndRow k) more p e = h _ (e ∙ end_form k more) k more refl

pub row_no_over : (v : ℕ) (old mid : List ℕ) → old ≡ codes "over " ++ mid → HasNoOver v mid → HasNoRow v old
row_no_over v old mid e h = no_row v old
    (λ r q. subst (HasNoOver v) (cut (codes "over ") mid r (sym e ∙ q)) h)
    (λ r q. absurd (let n : 111 ≡ 99 = head_of _ _ _ _ (sym e ∙ q) in omega arith))
    (λ r q. absurd (let n : 111 ≡ 101 = head_of _ _ _ _ (sym e ∙ q) in omega arith))

-- ---- rows with their faults
-- the row that was read is met after these lines
pub is_met : (v : ℕ) (bytes : List ℕ) (lines : List RawLine) (old : List ℕ) (value : Read) (new : List ℕ) →
    GoesOn v bytes lines old → (p : IsRowRead v old value new) → Meets bytes lines p.row new
is_met v bytes lines old value new g p = record { version = v; rest = old; goes_on = g; has_row = p.is_row }

pub row_none : (v : ℕ) (lines : List RawLine) (old : List ℕ) (k : ℕ) → k ≡ length lines → old ≢ [] → HasNoRow v old →
    IsFaultAfter v lines old (BadLine k)
row_none v lines old k q s n = λ bytes g. rw q (fault.no_row v lines old g s n)

pub row_large : (v : ℕ) (lines : List RawLine) (old : List ℕ) (value : Read) (new : List ℕ) (k : ℕ) → k ≡ length lines →
    IsRowRead v old value new → (IsWithin (row_value value) → ⊥) → IsFaultAfter v lines old (NumberTooLarge k)
row_large v lines old value new k q p h = λ bytes g. rw q
    (fault.too_large lines p.row new (is_met v bytes lines old value new g p)
    (λ w. h (subst IsWithin (sym (p.value_is ∙ within_same p.row w)) w)))

-- within its limits the row is read as it stands
as_it_stands : (v : ℕ) (old : List ℕ) (value : Read) (new : List ℕ) → (p : IsRowRead v old value new) →
    IsWithin (row_value value) → row_value value ≡ p.row
as_it_stands v old value new p w = p.value_is ∙ within_same p.row (within_back p.row (subst IsWithin p.value_is w))

pub row_falls : (v : ℕ) (lines : List RawLine) (old : List ℕ) (value : Read) (new : List ℕ) (k : ℕ) → k ≡ length lines →
    IsRowRead v old value new → IsWithin (row_value value) → (IsRising (row_value value) → ⊥) →
    IsFaultAfter v lines old (NotRising k)
row_falls v lines old value new k q p w h = λ bytes g.
    let e = as_it_stands v old value new p w in rw q
    (fault.falls lines p.row new (is_met v bytes lines old value new g p) (subst IsWithin e w)
    (λ r. h (subst IsRising (sym e) r)))

-- a line with a difference of no earlier line
pub row_no_base : (v : ℕ) (lines : List RawLine) (old : List ℕ) (value : Read) (new : List ℕ) (k : ℕ)
    (line : ReadLine) →
    k ≡ length lines → IsRowRead v old value new → IsWithin (row_value value) → IsRising (row_value value) →
    value ≡ read.Line line → IsUnsaid lines (spelling_of (spelled_value line)) unsaid.NoBase →
    IsFaultAfter v lines old (BadBase k)
row_no_base v lines old value new k line q p w r is h = λ bytes g.
    let e = as_it_stands v old value new p w in
    let f : LineRow (spelled_value line) ≡ p.row = ap row_value (sym is) ∙ e in rw q
    (fault.no_base lines p.row new (is_met v bytes lines old value new g p) (subst IsWithin e w) (subst IsRising e r)
    (λ b. h (subst (HasBase lines) (sym f) b)))

-- a line with changes that change nothing, or leave none
pub row_no_change : (v : ℕ) (lines : List RawLine) (old : List ℕ) (value : Read) (new : List ℕ) (k : ℕ)
    (line : ReadLine) → k ≡ length lines → IsRowRead v old value new → IsWithin (row_value value) →
    IsRising (row_value value) → value ≡ read.Line line →
    IsUnsaid lines (spelling_of (spelled_value line)) unsaid.NoChange → IsFaultAfter v lines old (BadChange k)
row_no_change v lines old value new k line q p w r is h = λ bytes g.
    let e = as_it_stands v old value new p w in
    let f : LineRow (spelled_value line) ≡ p.row = ap row_value (sym is) ∙ e in rw q
    (fault.no_change lines p.row new (is_met v bytes lines old value new g p) (subst IsWithin e w) (subst IsRising e r)
    (subst (HasBase lines) f h.0) (λ c. h.1 (subst (HasChanges lines) (sym f) c)))

row_good : (v : ℕ) (lines : List RawLine) (old : List ℕ) (value : Read) (new : List ℕ) (row : Row) →
    (p : IsRowRead v old value new) → IsWithin (row_value value) → IsRising (row_value value) → row_value value ≡ row →
    HasBase lines row → HasChanges lines row → (x : Said) → x ≡ row_said lines row → IsGoodRead v lines old x new
row_good v lines old value new row p w r is b c x q =
    let e = as_it_stands v old value new p w in
    let f : row ≡ p.row = sym is ∙ e in record {
      row = p.row;
      good = record {
        formed = p.is_row.formed;
        within = subst IsWithin e w;
        rising = subst IsRising e r;
        base = subst (HasBase lines) f b;
        changes = subst (HasChanges lines) f c;
      };
      text = p.is_row.text;
      says = q ∙ ap (row_said lines) f;
    }

-- a good line
pub line_good : (v : ℕ) (lines : List RawLine) (old : List ℕ) (value : Read) (new : List ℕ) (line : ReadLine)
    (x : RawLine) → IsRowRead v old value new → IsWithin (row_value value) → IsRising (row_value value) →
    value ≡ read.Line line → IsLineSaid lines (spelled_value line) x → IsGoodRead v lines old (said.Line x) new
line_good v lines old value new line x p w r is h = row_good v lines old value new (LineRow (spelled_value line)) p w r
    (ap row_value is) h.base h.changes (said.Line x) (ap said.Line h.line_is)

-- an end
pub end_good : (v : ℕ) (lines : List RawLine) (old : List ℕ) (value : Read) (new : List ℕ) (k : ℕ) →
    IsRowRead v old value new → IsWithin (row_value value) → IsRising (row_value value) → value ≡ read.End k →
    IsGoodRead v lines old (said.End k) new
end_good v lines old value new k p w r is = row_good v lines old value new (EndRow k) p w r (ap row_value is) tt tt
    (said.End k) refl
