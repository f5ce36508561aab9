-- The rows of a trace's instance, one by one.
use Rattle.std.proofs.Common.{◌≡◌, ◌∙◌, ◌+◌, ◌<◌, ◌≤◌, ◌++◌, ◌∷◌, [], append_assoc, ap, arith, decimal, drop, Err, get_or, Global, IfOk, length, List, map, Ok, refl, Result, rules, suc, sym, Vec, vec_len, zero, ℕ}
use Rattle.std.proofs.lemmas.List.{append-nil, get_or-map, length-map}
use Rattle.csv.specs.Writing.{default_writer, row_text}
use Rattle.csv_instance.specs.Layout.{text_of}
use Rattle.csv_instance.specs.Parse.{parse}
use Rattle.csv_instance.specs.Records.{table_of}
use Rattle.dsa_terms.specs.Buffers.{Buffer}
use Rattle.dsa_model.specs.Limits.{file_limit}
use Rattle.trace_import.specs.Found.{ends_from}
use Rattle.trace_import.specs.ImportText.{import_header, import_row, import_rows, import_text}
use Rattle.trace_import.specs.Kept.{line_value}
use Rattle.trace_import.specs.Requests.{id_of}
use Rattle.trace_import.specs.Traces.{Alloc, Event, Free, end_of, Trace}
use Rattle.trace_import.specs.declared.line.Line.{Line}
use Rattle.trace_import.proofs.EndLemmas.{drop_line, end_at, ends_counted}

pub same_row : (line end size alignment : ℕ) (id a b c d e : List ℕ) → a ≡ 97 ∷ decimal line → b ≡ decimal line →
    c ≡ decimal end → d ≡ decimal size → e ≡ decimal alignment →
    (a ∷ b ∷ c ∷ d ∷ e ∷ id ∷ []) ≡ import_row line end size alignment id
same_row line end size alignment id a b c d e p q r s t = rw (p, q, r, s, t) refl

-- the text begins with the names of the columns
pub import_start : (trace : Trace) (lines : List Line) → map line_value lines ≡ trace →
    import_text trace ≡ row_text default_writer import_header ++ text_of (import_rows 0 (map line_value lines))
unfolding import_text
import_start trace lines e =
    ap (λ es. row_text default_writer import_header ++ text_of (import_rows 0 es)) (sym e)

module _ (lines : List Line) (place : ℕ) (line : Line) (within : place < length lines)
    (at : line ≡ get_or lines place line) where
  abbrev es : List Event
  es = map line_value lines

  its_event : get_or es place (line_value line) ≡ line_value line
  its_event = get_or-map line_value lines place line (line_value line) within ∙ ap line_value (sym at)

  inside : place < length es
  inside = let k = length-map lines line_value in omega arith

  left : drop place es ≡ line_value line ∷ drop (place + 1) es
  left = drop_line es place (line_value line) inside its_event

  -- a line that allocates has a row
  pub row_alloc : (id : List ℕ) (size alignment end : ℕ) (ends : List ℕ) (whole text : List ℕ) →
      line_value line ≡ Alloc id size alignment → ends ≡ ends_from 0 es → end ≡ get_or ends place end →
      whole ≡ text ++ text_of (import_rows place (drop place es)) →
      whole ≡ (text ++ row_text default_writer (import_row place end size alignment id))
      ++ text_of (import_rows (place + 1) (drop (place + 1) es))
  row_alloc id size alignment end ends whole text is listed found w =
      let own : end ≡ end_of place id (drop (place + 1) es) =
      end_at es place (line_value line) end inside its_event (found ∙ ap (λ ns. get_or ns place end) listed)
      ∙ ap (λ e. end_of place (id_of e) (drop (place + 1) es)) is in
      w ∙ ap (λ rest. text ++ text_of (import_rows place rest)) (left ∙ ap (λ e. e ∷ drop (place + 1) es) is)
      ∙ ap (λ n. text ++ (row_text default_writer (import_row place n size alignment id)
      ++ text_of (import_rows (place + 1) (drop (place + 1) es)))) (sym own)
      ∙ sym (append_assoc text (row_text default_writer (import_row place end size alignment id))
      (text_of (import_rows (place + 1) (drop (place + 1) es))))

  -- a line that frees has none
  pub row_free : (id : List ℕ) (whole text : List ℕ) → line_value line ≡ Free id →
      whole ≡ text ++ text_of (import_rows place (drop place es)) →
      whole ≡ text ++ text_of (import_rows (place + 1) (drop (place + 1) es))
  row_free id whole text is w =
      w ∙ ap (λ rest. text ++ text_of (import_rows place rest)) (left ∙ ap (λ e. e ∷ drop (place + 1) es) is)

-- ---- the whole text
-- a line has an end
pub ends_within : (lines : List Line) (ends : Vec ℕ Global) (place : ℕ) → place < length lines →
    ends.items ≡ ends_from 0 (map line_value lines) → place < vec_len ends
ends_within lines ends place within listed =
    let all = ap length listed in
    let each = ends_counted 0 (map line_value lines) in
    let count = length-map lines line_value in
    let items = vec_items ends in
    omega arith
  where
    vec_items : {A B : Type 0} (v : Vec A B) → vec_len v ≡ length v.items
    vec_items v = search rules

-- after the last line no row is left
pub whole_text : (trace : Trace) (lines : List Line) (place : ℕ) (text : List ℕ) → length lines ≤ place →
    import_text trace ≡ text ++ text_of (import_rows place (drop place (map line_value lines))) →
    text ≡ import_text trace
whole_text trace lines place text past is =
    sym (is ∙ ap (λ rest. text ++ text_of (import_rows place rest)) (none (map line_value lines) place
    (let k = length-map lines line_value in omega arith)) ∙ append-nil text)
  where
    none : (es : List Event) (k : ℕ) → length es ≤ k → drop k es ≡ []
    none [] zero h = refl
    none [] (suc k) h = refl
    none (x ∷ xs) zero h = absurd (omega arith)
    none (x ∷ xs) (suc k) h = none xs k (omega arith)

pub parsed_by : {E : Type 0} (r : Result (Vec ℕ Global) E) (text whole : List ℕ) (I : List Buffer) →
    IfOk r (λ bytes. bytes.items ≡ text) → text ≡ whole → parse (table_of whole) ≡ Ok I →
    IfOk r (λ bytes. parse (table_of bytes.items) ≡ Ok I)
parsed_by (Ok bytes) text whole I h e p = ap (λ (t : List ℕ). parse (table_of t)) (h ∙ e) ∙ p
parsed_by (Err f) text whole I h e p = tt

pub short_by : {E : Type 0} (r : Result (Vec ℕ Global) E) (text whole : List ℕ) →
    IfOk r (λ bytes. bytes.items ≡ text) → text ≡ whole → length whole ≤ file_limit →
    IfOk r (λ bytes. length bytes.items ≤ file_limit)
short_by (Ok bytes) text whole h e p = let k = ap length (h ∙ e) in omega arith
short_by (Err f) text whole h e p = tt
