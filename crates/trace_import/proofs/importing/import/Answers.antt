use Rattle.std.proofs.Common.{◌≡◌, ◌∙◌, ◌++◌, IfOk, List, ℕ, ap, arith, subst, sym}
use Rattle.csv.specs.Writing.{default_writer, row_text}
use Rattle.trace_import.specs.ImportText.{import_header, import_row, import_text}
use Rattle.trace_import.specs.Kept.{line_value}
use Rattle.trace_import.specs.Traces.{Alloc, imported}
use Rattle.trace_import.proofs.Parses.{text_parses}
use Rattle.trace_import.proofs.RowLemmas.{ends_within, import_start, parsed_by, row_alloc, row_free, short_by, whole_text}
use Rattle.trace_import.proofs.ShortText.{text_short}
use Rattle.trace_import.proofs.importing.import.Goals as goal
use Rattle.trace_import.proofs.importing.import.Goals.{in-Alloc+in_ok-write_row, in_default}

pub loop-place-init : goal.loop-place-init
loop-place-init c = (
  row_text default_writer import_header,
  c.in_ok-writer.ensures,
  import_start c.args.trace.now c.kept-lines.result.now c.kept-lines.ensures.value,
)

pub index-requires : goal.index-requires
index-requires c = ends_within c.kept-lines.result.now c.in_ok-ends.ends c.loop-place.place c.loop-place-test.true
    c.in_ok-ends.ensures

pub loop-place-preserved : goal.loop-place-preserved
loop-place-preserved c =
    let (text, wrote, is) = c.loop-place.invariant in
    elim c.match-lines-place.branch [
      | in-Alloc+in_ok-write_row w ↦ (
        text ++ row_text default_writer (import_row c.loop-place.place w.index.result.now w.in-Alloc.size
            w.in-Alloc.alignment w.as_slice.result.now),
        rw w.writer-is (w.in_ok-write_row.ensures text wrote),
        row_alloc c.kept-lines.result.now c.loop-place.place c.index-lines-place.result c.loop-place-test.true
            c.index-lines-place.is w.as_slice.result.now w.in-Alloc.size w.in-Alloc.alignment w.index.result.now
            c.in_ok-ends.ends.items (import_text c.args.trace.now) text
            (ap line_value w.in-Alloc.is
            ∙ ap (λ i. Alloc i w.in-Alloc.size w.in-Alloc.alignment) (sym w.as_slice.ensures.value))
            c.in_ok-ends.ensures w.index.ensures is,
      )
      | in_default w ↦ (
        text,
        rw w.writer-is wrote,
        row_free c.kept-lines.result.now c.loop-place.place c.index-lines-place.result c.loop-place-test.true
            c.index-lines-place.is w.in_default.field-0.items (import_text c.args.trace.now) text
            (ap line_value w.in_default.is) is,
      )
    ]

pub returns-clause-text : goal.returns-clause-text
returns-clause-text c =
    let (text, wrote, is) = c.loop-place.invariant in
    subst (λ (t : List ℕ). IfOk c.written_text.result (λ made. made.items ≡ t))
    (whole_text c.args.trace.now c.kept-lines.result.now c.loop-place.place text c.loop-place-test.false is)
    (c.written_text.ensures text wrote)

pub returns-clause-traced : goal.returns-clause-traced
returns-clause-traced c = c.kept-lines.ensures.traced

pub returns-clause-parsed : goal.returns-clause-parsed
returns-clause-parsed c =
    let (text, wrote, is) = c.loop-place.invariant in
    parsed_by c.written_text.result text (import_text c.args.trace.now) (imported c.args.trace.now)
    (c.written_text.ensures text wrote) (whole_text c.args.trace.now c.kept-lines.result.now c.loop-place.place text
    c.loop-place-test.false is)
    (text_parses c.args.trace.now c.kept-lines.ensures.within (omega arith) c.kept-lines.ensures.few)

pub returns-clause-short : goal.returns-clause-short
returns-clause-short c =
    let (text, wrote, is) = c.loop-place.invariant in
    short_by c.written_text.result text (import_text c.args.trace.now)
    (c.written_text.ensures text wrote) (whole_text c.args.trace.now c.kept-lines.result.now c.loop-place.place text
    c.loop-place-test.false is)
    (text_short c.args.trace.now c.kept-lines.ensures.within (omega arith) c.kept-lines.ensures.few)
