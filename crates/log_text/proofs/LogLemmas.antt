-- Headers that are read, and what is read of a log so far.
use Rattle.std.proofs.Common.{◌≡◌, ◌≢◌, ◌^◌, ℕ, ◌<◌, ◌≤◌, inl, inr, subst, Option, Some, None, Result, Ok, Err, IfOk, List, [], ◌∷◌, ◌++◌, All, codes, refl, sym, ap, ◌∙◌, arith, append_assoc}
use Rattle.std.proofs.lemmas.List.{append-nil}
use Rattle.std.proofs.lemmas.List.Elements.{All-nil, All-push}
use Rattle.std.specs.List.{flat_map}
use Rattle.dsa_model.specs.Fails.{UnlessNoMemory}
use Rattle.dsa_model.specs.declared.fail.Fail.{Fail}
use Rattle.dsa_model.specs.declared.fail.Fail.TheVariants as fail
use Rattle.log_text.specs.Faults.{GoesOn, HasHeader, IsFirstFault, IsVersion}
use Rattle.log_text.specs.Faults as fault
use Rattle.log_text.specs.RawLogs.{IsRawKept, IsRawLineKept}
use Rattle.log_text.specs.RawTexts.{end_text, header_text}
use Rattle.log_text.specs.Reading.{HasNoField, IsFieldRead}
use Rattle.log_text.specs.Rows.{HasNoHeader, IsGoodRead, IsHeaderRead, IsStarted, row_said}
use Rattle.log_text.specs.Says.{EndRow, IsGood, LineRow, Row, Says, SaysBy, row_text}
use Rattle.log_text.specs.Spellings.{line_said, spelled_text}
use Rattle.log_text.specs.declared.fault.TextFault.{TextFault}
use Rattle.log_text.specs.declared.fault.TextFault.TheVariants.{AfterEnd, BadVersion, NoEnd, NotLog}
use Rattle.log_text.specs.declared.raw.RawLine.{RawLine}
use Rattle.log_text.specs.declared.raw.RawLog.{RawLog}
use Rattle.log_text.specs.declared.said.Said.TheVariants as said
use Rattle.log_text.proofs.FirstFaults.{first_fault_unique}
use Rattle.log_text.proofs.PrefixFree.{cut}
use Rattle.log_text.proofs.ReadLemmas.{fitting_none, fitting_small, fitting_some}
use Rattle.log_text.proofs.RowLemmas.{field_split}
use Rattle.log_text.proofs.Saying.{goes_on_more, line_kept, no_fault_said, says_kept, says_prefix_free, says_text}
use Rattle.log_text.proofs.Unique.{header_form, header_split}

-- ---- headers
pub header_no_count : (old mid rest : List ℕ) (v : Option ℕ) → old ≡ codes "dsalog " ++ mid →
    IsFieldRead (codes " ") mid v rest → HasNoField (codes " ") rest → HasNoHeader old
header_no_count old mid rest v e p h = λ a n c r q.
    h n _ (field_split (codes " ") mid v rest refl p a _
    (cut (codes "dsalog ") _ _ (sym e ∙ (q ∙ header_form a n c r)))).1

pub header_no_capacity : (old mid rest last : List ℕ) (v w : Option ℕ) → old ≡ codes "dsalog " ++ mid →
    IsFieldRead (codes " ") mid v rest → IsFieldRead (codes " ") rest w last → HasNoField (codes "\n") last →
    HasNoHeader old
header_no_capacity old mid rest last v w e p q h = λ a n c r f.
    h c r (field_split (codes " ") rest w last refl q n _
    (field_split (codes " ") mid v rest refl p a _ (cut (codes "dsalog ") _ _
    (sym e ∙ (f ∙ header_form a n c r)))).1).1

header_same : (old : List ℕ) (x y z : Option ℕ) (new : List ℕ) → (p : IsHeaderRead old x y z new) →
    (v n c : ℕ) (r : List ℕ) → HasHeader old v n c r → (p.v ≡ v) × (p.n ≡ n) × (p.c ≡ c) × (new ≡ r)
header_same old x y z new p v n c r h = header_split p.v v p.n n p.c c new r (sym p.text ∙ h.text)

pub no_version : (old : List ℕ) (x y z : Option ℕ) (new : List ℕ) → IsHeaderRead old x y z new → x ≡ None →
    IsFirstFault old NotLog
no_version old x y z new p e = fault.no_header (λ v n c r h. let s = (header_same old x y z new p v n c r h).0 in
    let l : p.v < 2 ^ 64 = rw s h.version_limit in fitting_none p.v (sym e ∙ p.version_is) l)

pub no_count : (old : List ℕ) (x y z : Option ℕ) (new : List ℕ) → IsHeaderRead old x y z new →
    ((n : ℕ) → y ≡ Some n → 2 ^ 60 < n) → IsFirstFault old NotLog
no_count old x y z new p f = fault.no_header (λ v n c r h.
    let s = (header_same old x y z new p v n c r h).1 in
    let l : n ≤ 2 ^ 60 = h.count_limit in
    let m : 2 ^ 60 < p.n = f p.n (p.count_is ∙ fitting_small p.n (omega arith)) in omega arith)

pub no_capacity : (old : List ℕ) (x y z : Option ℕ) (new : List ℕ) → IsHeaderRead old x y z new →
    ((n : ℕ) → z ≡ Some n → 2 ^ 60 < n) → IsFirstFault old NotLog
no_capacity old x y z new p f = fault.no_header (λ v n c r h.
    let s = (header_same old x y z new p v n c r h).2 in
    let l : c ≤ 2 ^ 60 = h.capacity_limit in
    let m : 2 ^ 60 < p.c = f p.c (p.capacity_is ∙ fitting_small p.c (omega arith)) in omega arith)

pub header_read : (old : List ℕ) (x y z : Option ℕ) (a b d : ℕ) (new : List ℕ) → IsHeaderRead old x y z new →
    x ≡ Some a → y ≡ Some b → z ≡ Some d → b ≤ 2 ^ 60 → d ≤ 2 ^ 60 → HasHeader old a b d new
header_read old x y z a b d new p e f g l m =
    let s = fitting_some p.v a (sym e ∙ p.version_is) in
    record {
      version_limit = s.1;
      count_limit = l;
      capacity_limit = m;
      text = p.text ∙ same s.0 (fitting_some p.n b (sym f ∙ p.count_is)).0
          (fitting_some p.c d (sym g ∙ p.capacity_is)).0;
    }
  where
    same : {v n c : ℕ} → a ≡ v → b ≡ n → d ≡ c → header_text v n c ++ new ≡ header_text a b d ++ new
    same e f g = rw (e, f, g) refl

pub other_version : (old : List ℕ) (x y z : Option ℕ) (a b d : ℕ) (new : List ℕ) → IsHeaderRead old x y z new →
    x ≡ Some a → y ≡ Some b → z ≡ Some d → b ≤ 2 ^ 60 → d ≤ 2 ^ 60 → a ≢ 1 → a ≢ 2 →
    IsFirstFault old (BadVersion a)
other_version old x y z a b d new p e f g l m h k =
    fault.other_version a b d new (header_read old x y z a b d new p e f g l m) (unknown a h k)
  where
    unknown : (a : ℕ) → a ≢ 1 → a ≢ 2 → IsVersion a → ⊥
    unknown a h k (inl e) = h e
    unknown a h k (inr e) = k e

pub is_started : (old : List ℕ) (x y z : Option ℕ) (a b d : ℕ) (new : List ℕ) → IsHeaderRead old x y z new →
    x ≡ Some a → y ≡ Some b → z ≡ Some d → b ≤ 2 ^ 60 → d ≤ 2 ^ 60 → IsVersion a → IsStarted old a b d new
is_started old x y z a b d new p e f g l m h =
    record { header = header_read old x y z a b d new p e f g l m; known = h }

-- ---- rows
-- a header with these numbers and these lines were read
pub record IsReadUpTo (version : ℕ) (bytes : List ℕ) (count capacity : ℕ) (lines : List RawLine) (rest : List ℕ) :
    Type 0 where
  pub goes_on : GoesOn version bytes lines rest
  pub count_is : goes_on.count ≡ count
  pub capacity_is : goes_on.capacity ≡ capacity
  pub kept : All IsRawLineKept lines

pub none_yet : (version : ℕ) (bytes : List ℕ) (count capacity : ℕ) (lines : List RawLine) (rest : List ℕ) →
    IsStarted bytes version count capacity rest → lines ≡ [] → IsReadUpTo version bytes count capacity lines rest
none_yet version bytes count capacity lines rest p e = record {
  goes_on = record {
    known = p.known;
    count = count;
    capacity = capacity;
    count_limit = p.header.count_limit;
    capacity_limit = p.header.capacity_limit;
    spelled = [];
    good = tt;
    said = e;
    text = p.header.text;
  };
  count_is = refl;
  capacity_is = refl;
  kept = rw e (All-nil IsRawLineKept);
}

pub up_to_more : (version : ℕ) (bytes : List ℕ) (count capacity : ℕ) (lines : List RawLine) (mid : List ℕ)
    (line : RawLine) (new : List ℕ) (more : List RawLine) → IsReadUpTo version bytes count capacity lines mid →
    IsGoodRead version lines mid (said.Line line) new → more ≡ lines ++ line ∷ [] →
    IsReadUpTo version bytes count capacity more new
unfolding goes_on_more
up_to_more version bytes count capacity lines mid line new more p q e = go q.row q.good q.text q.says
  where
    go : (row : Row) → IsGood version lines row → mid ≡ row_text row ++ new → said.Line line ≡ row_said lines row →
        IsReadUpTo version bytes count capacity more new
    go (EndRow k) g t w = absurd cc
    go (LineRow s) g t w =
        let same : line ≡ line_said lines s = cc in
        let whole : more ≡ lines ++ line_said lines s ∷ [] = e ∙ ap (λ (x : RawLine). lines ++ x ∷ []) same in
        rw whole (record {
          goes_on = goes_on_more version bytes lines mid new s p.goes_on g t;
          count_is = p.count_is;
          capacity_is = p.capacity_is;
          kept = All-push IsRawLineKept lines (line_said lines s) p.kept (line_kept version lines s p.kept g).0;
        })

by_one : (bytes : List ℕ) (raw : RawLog) (v : ℕ) → IsVersion v → SaysBy v bytes raw → Says bytes raw
by_one bytes raw v (inl e) t = inl (says_text bytes raw (subst (λ (w : ℕ). SaysBy w bytes raw) e t))
by_one bytes raw v (inr e) t = inr (subst (λ (w : ℕ). SaysBy w bytes raw) e t)

-- the text of what was read, and an end
written : (v : ℕ) (bytes lines mid new : List ℕ) (m n c d k : ℕ) → bytes ≡ header_text v m c ++ (lines ++ mid) →
    mid ≡ end_text k ++ new → new ≡ [] → m ≡ n → c ≡ d → bytes ≡ header_text v n d ++ lines ++ end_text k
written v bytes lines mid new m n c d k t u e a b = t ∙ joined (header_same a b) (u ∙ (ap (λ x. end_text k ++ x) e
    ∙ append-nil (end_text k)))
  where
    header_same : m ≡ n → c ≡ d → header_text v m c ≡ header_text v n d
    header_same a b = ap (λ (x : ℕ). header_text v x c) a ∙ ap (λ (x : ℕ). header_text v n x) b

    joined : {h i x y : List ℕ} → h ≡ i → x ≡ y → h ++ (lines ++ x) ≡ i ++ lines ++ y
    joined {h} {i} {x} {y} a b = ap (λ (z : List ℕ). z ++ (lines ++ x)) a
        ∙ (ap (λ (z : List ℕ). i ++ (lines ++ z)) b ∙ sym (append_assoc i lines y))

pub whole_text : (version : ℕ) (bytes : List ℕ) (count capacity : ℕ) (lines : List RawLine) (mid : List ℕ) (k : ℕ)
    (new : List ℕ) → IsReadUpTo version bytes count capacity lines mid →
    IsGoodRead version lines mid (said.End k) new → new ≡ [] →
    Says bytes (record { count = count; capacity = capacity; lines = lines; end = k })
whole_text version bytes count capacity lines mid k new p q e =
    by_one bytes (record { count = count; capacity = capacity; lines = lines; end = k }) version p.goes_on.known
    (go q.row q.good q.text q.says)
  where
    go : (row : Row) → IsGood version lines row → mid ≡ row_text row ++ new → said.End k ≡ row_said lines row →
        SaysBy version bytes (record { count = count; capacity = capacity; lines = lines; end = k })
    go (LineRow s) g t w = absurd cc
    go (EndRow j) g t w = let same : k ≡ j = cc in record {
      spelled = p.goes_on.spelled;
      count_limit = subst (λ (n : ℕ). n ≤ 2 ^ 60) p.count_is p.goes_on.count_limit;
      capacity_limit = subst (λ (n : ℕ). n ≤ 2 ^ 60) p.capacity_is p.goes_on.capacity_limit;
      end_limit = subst (λ (n : ℕ). n ≤ 2 ^ 60) (sym same) g.within;
      good = p.goes_on.good;
      lines = p.goes_on.said;
      text = written version bytes (flat_map spelled_text p.goes_on.spelled) mid new p.goes_on.count count
          p.goes_on.capacity capacity k p.goes_on.text (t ∙ ap (λ (n : ℕ). end_text n ++ new) (sym same)) e p.count_is
          p.capacity_is;
    }

-- the bytes stop where a line or the end would begin
pub stops_there : (version : ℕ) (bytes : List ℕ) (count capacity : ℕ) (lines : List RawLine) (rest : List ℕ) →
    IsReadUpTo version bytes count capacity lines rest → rest ≡ [] → IsFirstFault bytes NoEnd
stops_there version bytes count capacity lines rest p e =
    fault.no_end version lines (subst (λ (r : List ℕ). GoesOn version bytes lines r) e p.goes_on)

-- bytes follow the end
pub goes_past : (version : ℕ) (bytes : List ℕ) (count capacity : ℕ) (lines : List RawLine) (mid : List ℕ) (k : ℕ)
    (new : List ℕ) → IsReadUpTo version bytes count capacity lines mid →
    IsGoodRead version lines mid (said.End k) new → new ≢ [] → IsFirstFault bytes AfterEnd
goes_past version bytes count capacity lines mid k new p q n = go q.row q.good q.text q.says
  where
    go : (row : Row) → IsGood version lines row → mid ≡ row_text row ++ new → said.End k ≡ row_said lines row →
        IsFirstFault bytes AfterEnd
    go (LineRow s) g t w = absurd cc
    go (EndRow j) g t w = fault.after_end lines j new
        (record { version = version; rest = mid; goes_on = p.goes_on; has_row = record { formed = tt; text = t } })
        g.within n

-- ---- what the answer is
pub is_complete : (bytes : List ℕ) (r : Result RawLog (Fail TextFault)) →
    UnlessNoMemory r (λ raw. Says bytes raw) (λ f. IsFirstFault bytes f) → (raw : RawLog) → Says bytes raw →
    UnlessNoMemory r (λ found. found ≡ raw) (λ _. ⊥)
is_complete bytes (Ok found) h raw t = (says_prefix_free bytes bytes found raw [] [] h t refl).0
is_complete bytes (Err (fail.Fault f)) h raw t = no_fault_said bytes f raw h t
is_complete bytes (Err fail.NoMemory) h raw t = tt

pub is_cause : (bytes : List ℕ) (r : Result RawLog (Fail TextFault)) →
    UnlessNoMemory r (λ raw. Says bytes raw) (λ f. IsFirstFault bytes f) → (f : TextFault) → IsFirstFault bytes f →
    UnlessNoMemory r (λ _. ⊥) (λ g. g ≡ f)
is_cause bytes (Ok found) h f t = no_fault_said bytes f found t h
is_cause bytes (Err (fail.Fault g)) h f t = first_fault_unique bytes g f h t
is_cause bytes (Err fail.NoMemory) h f t = tt

pub is_kept : (bytes : List ℕ) (r : Result RawLog (Fail TextFault)) →
    UnlessNoMemory r (λ raw. Says bytes raw) (λ f. IsFirstFault bytes f) → IfOk r IsRawKept
is_kept bytes (Ok found) h = says_kept bytes found h
is_kept bytes (Err f) h = tt
