use Rattle.std.proofs.Common.{◌≡◌, ◌<◌, ◌+◌, ◌++◌, ◌∙◌, [], ℕ, List, Option, Some, None, length, map, drop, get_or, sym, ap, append_assoc, arith, refl}
use Rattle.std.proofs.lemmas.Grind.{common_steps}
use Rattle.std.proofs.lemmas.List.{get_or-map, length-map}
use Rattle.csv.specs.Records.{Row, fields_of}
use Rattle.csv.specs.Writing.{default_writer, row_text}
use Rattle.csv_instance.specs.Changed.{Change, change_of, changed_header, changed_row, changed_rows, changed_text}
use Rattle.csv_instance.specs.Layout.{text_of}
use Rattle.csv_instance.specs.Records.{Record}
use Rattle.csv_instance.proofs.ChangedLemmas.{changed_text-at, from_first, later_text, next_change, none_then, to_the_end}
use Rattle.csv_instance.proofs.ChangedBack.{changed_back, changed_parse}
use Rattle.csv_instance.proofs.FailLemmas.{IfOk-map}
use Rattle.csv_instance.proofs.changed.write_changed.Goals.{in-Some+in_ok-write_change-in-Some, in-None+in_ok-write_carried-in-None}
use Rattle.csv_instance.proofs.changed.write_changed.Goals as goal

pub loop-place-init : goal.loop-place-init
loop-place-init c =
    let header = fields_of c.records.result.0.now in
    let rows = map fields_of c.records.result.2.now in
    let changes = c.args.changes.now in
    let empty = c.text_writer-writer.ensures in (
      header,
      row_text default_writer (changed_header header),
      rw c.column_name.ensures at (c.in_ok-write_carried.ensures header c.records.ensures.places [] empty),
      c.records.ensures.places,
      rw c.records.ensures.records refl,
      from_first changes c.requires.rises,
      omega arith,
    )

-- one row more
next_row : (header : Record) (all text : List ℕ) (cs : List Change) (rows : List Row) (p : ℕ) (row : Row)
    (change : Option Change) → p < length rows → row ≡ get_or rows p row → change_of cs p ≡ change →
    all ≡ text ++ text_of (changed_rows header cs p (drop p (map fields_of rows))) →
    all ≡ (text ++ row_text default_writer (changed_row header change (fields_of row)))
    ++ text_of (changed_rows header cs (p + 1) (drop (p + 1) (map fields_of rows)))
next_row header all text cs rows p row change lt is found e =
    let count : p < length (map fields_of rows) = rw (length-map rows fields_of) lt in
    let here : get_or (map fields_of rows) p [] ≡ fields_of row =
    get_or-map fields_of rows p row [] lt ∙ ap fields_of (sym is) in
    let more = text_of (changed_rows header cs (p + 1) (drop (p + 1) (map fields_of rows))) in
    let written : List ℕ = row_text default_writer (changed_row header change (fields_of row)) in
    e ∙ ap (λ (t : List ℕ). text ++ t) (changed_text-at header cs (map fields_of rows) p count
    ∙ rw (here, found) refl)
    ∙ sym (append_assoc text written more)

pub loop-place-preserved : goal.loop-place-preserved
loop-place-preserved c =
    let (header, text, wrote, places, is, from, within) = c.loop-place.invariant in
    let p = c.loop-place.place in
    let n = c.loop-place.next in
    let cs = c.args.changes.now in
    let rows = c.records.result.2.now in
    elim c.match-first_change.branch [
      | in-Some+in_ok-write_change-in-Some w ↦
          let found : change_of (drop n cs) p ≡ Some w.in-Some.change =
          rw (to_the_end n cs) at (sym (c.first_change.ensures (rw (to_the_end n cs) from)) ∙ w.in-Some.is) in
          let next = next_change n p cs w.in-Some.change from found in
          rw (w.writer-is, w.next-is) (
            header,
            text ++ row_text default_writer (changed_row header (Some w.in-Some.change)
                (fields_of w.index-records-place.result)),
            w.in_ok-write_change-in-Some.ensures header places text wrote,
            places,
            next_row header (changed_text c.args.rows.now cs) text (drop n cs) rows p w.index-records-place.result
                (Some w.in-Some.change) c.loop-place-test.true w.index-records-place.is found is
                ∙ ap (λ (rs : List Record). (text ++ row_text default_writer (changed_row header (Some w.in-Some.change)
                (fields_of w.index-records-place.result))) ++ text_of rs)
                (later_text header cs n p (drop (p + 1) (map fields_of rows)) w.in-Some.change from found),
            next.1,
            (let lt = next.0 in omega arith),
          )
      | in-None+in_ok-write_carried-in-None w ↦
          let none : change_of (drop n cs) p ≡ None =
          rw (to_the_end n cs) at (sym (c.first_change.ensures (rw (to_the_end n cs) from)) ∙ w.in-None.is) in
          rw (w.writer-is, w.next-is) (
            header,
            text ++ row_text default_writer (changed_row header None (fields_of w.index-records-place-in-None.result)),
            w.in_ok-write_carried-in-None.ensures header places text wrote,
            places,
            next_row header (changed_text c.args.rows.now cs) text (drop n cs) rows p
                w.index-records-place-in-None.result None c.loop-place-test.true w.index-records-place-in-None.is none
                is,
            none_then p (drop n cs) from none,
            within,
          )
    ]

pub returns-clause-text : goal.returns-clause-text
returns-clause-text c =
    let (header, text, wrote, places, is, from, within) = c.loop-place.invariant in
    let all : changed_text c.args.rows.now c.args.changes.now ≡ text = grind (arith, common_steps) in
    rw all (c.written_text.ensures text wrote)

pub returns-clause-back : goal.returns-clause-back
returns-clause-back c =
    let (header, text, wrote, places, is, from, within) = c.loop-place.invariant in
    let all : changed_text c.args.rows.now c.args.changes.now ≡ text = grind (arith, common_steps) in
    IfOk-map c.written_text.result
    (λ made e. let is : made.items ≡ changed_text c.args.rows.now c.args.changes.now = e ∙ sym all in
    rw is (changed_back c.args.rows.now c.args.changes.now c.records.ensures.parsed))
    (c.written_text.ensures text wrote)

pub returns-clause-parsed : goal.returns-clause-parsed
returns-clause-parsed c =
    let (header, text, wrote, places, is, from, within) = c.loop-place.invariant in
    let all : changed_text c.args.rows.now c.args.changes.now ≡ text = grind (arith, common_steps) in
    IfOk-map c.written_text.result
    (λ made e moments. let is : made.items ≡ changed_text c.args.rows.now c.args.changes.now = e ∙ sym all in
    rw is (changed_parse c.args.rows.now c.args.changes.now c.records.ensures.parsed moments))
    (c.written_text.ensures text wrote)
