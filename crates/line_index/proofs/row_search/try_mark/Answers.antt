use Rattle.std.proofs.Common.{◌≡◌, ◌<◌, ◌≤◌, ◌∙◌, List, ap, arith, length, slice_get, slice_index, subst, sym}
use Rattle.dsa_terms.specs.Claims.{Claim, Entry, IsIn}
use Rattle.dsa_terms.specs.Logs.{claim_of}
use Rattle.dsa_terms.proofs.Lists.{same_some}
use Rattle.dsa_search_laws.proofs.Placing.{in_buffers}
use Rattle.refute_log.specs.Lines.{line_value}
use Rattle.line_index.specs.declared.watch_row.Mark.{Mark}
use Rattle.line_index.specs.Looks.{IsLacked, IsUnmet}
use Rattle.line_index.specs.Rows.{IsUnwatched, mark_of, with_note}
use Rattle.line_index.specs.Watches.{IsNoted, row_at}
use Rattle.line_index.specs.Watching.{AreMoved}
use Rattle.line_index.proofs.ItemLemmas.{in_from_get}
use Rattle.line_index.proofs.RowSearch.{lacked_at_mark, moved_away, noted_among, noted_with}
use Rattle.line_index.proofs.WatchLemmas.{covered_by_levels, get_set_same, moved_set}
use Rattle.line_index.proofs.WatchRows.{appended_take, longer_row}
use Rattle.line_index.proofs.row_search.try_mark.Goals as goal
use Rattle.line_index.proofs.row_search.try_mark.Goals.{In_ok-file-in-Unmet, In-Lacks}

unmet : (c : In_ok-file-in-Unmet) → IsUnmet (claim_of (line_value c.line.result.now)) c.args.now.now
    (c.in-Unmet.c, c.in-Unmet.bound)
unmet c = subst (λ (k : Claim). IsUnmet k c.args.now.now (c.in-Unmet.c, c.in-Unmet.bound)) c.claim.ensures
    c.in-Unmet.ensures

in_table : (c : In_ok-file-in-Unmet) → c.mark-mark.result.line < length c.args.table.now.watches
in_table c = (let v = c.len-else-k-len.ensures in let t = c.if-k-len-2.false in omega arith)

unwatched : (c : In_ok-file-in-Unmet) → IsUnwatched c.file.new.self c.args.p c.args.i
unwatched c = moved_away c.args.table.now.watches c.file.new.self.watches _ c.file.new.self.rows c.file.new.self.scale _
    _ c.args.b c.args.p c.args.i c.mark-mark.result _ c.requires.row c.mark-mark.ensures c.requires.in_row
    c.in_ok-file-in-Unmet.ensures.rows c.in_ok-file-in-Unmet.ensures.watches (in_table c) (unmet c)
    (c.requires.met c.mark-mark.result c.mark-mark.ensures)

pub take-requires-in-Unmet-clause-in_row : goal.take-requires-in-Unmet-clause-in_row
take-requires-in-Unmet-clause-in_row c = longer_row _ _ c.args.p c.args.i c.in_ok-file-in-Unmet.ensures.rows
    c.requires.in_row

pub take-requires-in-Unmet-clause-unwatched : goal.take-requires-in-Unmet-clause-unwatched
take-requires-in-Unmet-clause-unwatched c =
    unwatched (goal.at.take-requires-in-Unmet-clause-unwatched c).In_ok-file-in-Unmet

pub returns-then-watch-b-clause-noted : goal.returns-then-watch-b-clause-noted
returns-then-watch-b-clause-noted c = noted_among c.args.log.now.lines _ c.take.new.self.rows c.take.ensures.among

pub returns-in-Covers-clause-some : goal.returns-in-Covers-clause-some
returns-in-Covers-clause-some c = λ I l h. covered_by_levels I l _ c.args.log.now.lines c.mark-mark.result.line
    (line_value c.line.result.now) (let v = c.len.ensures.limit in let t = c.if-k-len.false in omega arith)
    c.line.ensures.value
    (subst (λ (k : Claim). (e : Entry) → IsIn e k → e.1 < slice_index c.args.now.now e.0) c.claim.ensures
    c.in-Covers.ensures) h

pub returns-in_ok-file-in-Unmet-clause-none : goal.returns-in_ok-file-in-Unmet-clause-none
returns-in_ok-file-in-Unmet-clause-none c = λ m at line stands is has.
    let k = (goal.at.returns-in_ok-file-in-Unmet-clause-none c).In_ok-file-in-Unmet in
    let new = c.take-in-Unmet.new.self.watches in
    let mark = c.mark-mark.result in
    let e : Entry = (c.in-Unmet.c, c.in-Unmet.bound) in
    let set = c.take-in-Unmet.ensures.watches ∙ c.in_ok-file-in-Unmet.ensures.watches in
    let same : m ≡ mark = same_some (sym at ∙ c.mark-mark.ensures) in
    let pair : e ≡ (c.args.b, m.bound) = same_some (sym (get_set_same c.args.table.now.watches mark.line e (in_table k))
    ∙ ap (λ (xs : List Entry). slice_get xs mark.line) (sym set)
    ∙ ap (λ (m : Mark). slice_get new m.line) (sym same) ∙ is) in
    subst (λ (f : Entry). slice_index c.args.now.now f.0 ≤ f.1) pair (unmet k).unmet

pub returns-in_ok-file-in-Unmet-clause-moved : goal.returns-in_ok-file-in-Unmet-clause-moved
returns-in_ok-file-in-Unmet-clause-moved c =
    let k = (goal.at.returns-in_ok-file-in-Unmet-clause-moved c).In_ok-file-in-Unmet in
    subst (AreMoved c.args.log.now.lines c.args.now.now c.args.table.now.watches)
    (sym (c.take-in-Unmet.ensures.watches ∙ c.in_ok-file-in-Unmet.ensures.watches))
    (moved_set c.args.log.now.lines _ c.args.table.now.watches c.mark-mark.result.line (line_value c.line.result.now) _
    c.line.ensures.value (in_table k) (unmet k))

-- the new mark has the note of the old one
pub returns-in_ok-file-in-Unmet-clause-noted : goal.returns-in_ok-file-in-Unmet-clause-noted
returns-in_ok-file-in-Unmet-clause-noted c = λ noted.
    let lines = c.args.log.now.lines in
    let mark = c.mark-mark.result in
    let old : IsNoted lines mark = noted c.args.p mark
    (in_from_get (row_at c.args.table.now.rows c.args.p) c.args.i mark c.mark-mark.ensures) in
    noted_among lines c.file.new.self.rows c.take-in-Unmet.new.self.rows c.take-in-Unmet.ensures.among
    (noted_with lines c.args.table.now.rows c.file.new.self.rows (mark_of mark.line c.in-Unmet.bound mark.note)
    c.in_ok-file-in-Unmet.ensures.with (record { line = old.line; stands = old.stands; has = old.has }) noted)

pub returns-in_ok-file-in-Unmet-clause-before : goal.returns-in_ok-file-in-Unmet-clause-before
returns-in_ok-file-in-Unmet-clause-before c = c.take-in-Unmet.ensures.before ∙ appended_take _ _ c.args.p c.args.i
    c.in_ok-file-in-Unmet.ensures.rows c.requires.in_row

lacked : (c : In-Lacks) → IsLacked (claim_of (line_value c.line.result.now)) c.args.now.now
    (c.in-Lacks.c, c.in-Lacks.field-1)
lacked c = subst (λ (k : Claim). IsLacked k c.args.now.now (c.in-Lacks.c, c.in-Lacks.field-1)) c.claim.ensures
    c.in-Lacks.ensures

pub returns-in-Lacks-clause-none : goal.returns-in-Lacks-clause-none
returns-in-Lacks-clause-none c = λ m at line stands is.
    lacked_at_mark c.args.log.now.lines c.args.now.now c.mark-mark.result m (line_value c.line.result.now) line _
    (c.args.b, m.bound) (same_some (sym at ∙ c.mark-mark.ensures)) c.line.ensures.value stands
    (lacked (goal.at.returns-in-Lacks-clause-none c).In-Lacks)

-- the buffer that is lacked is one of the line's
pub returns-in-Lacks-clause-noted : goal.returns-in-Lacks-clause-noted
returns-in-Lacks-clause-noted c = λ noted.
    let mark = c.mark-mark.result in
    let e : Entry = (c.in-Lacks.c, c.in-Lacks.field-1) in
    let f = lacked (goal.at.returns-in-Lacks-clause-noted c).In-Lacks in
    noted_with c.args.log.now.lines c.args.table.now.rows c.set_note.new.self.rows (with_note mark c.in-Lacks.c)
    (c.set_note.ensures.with mark c.mark-mark.ensures)
    (record { line = line_value c.line.result.now; stands = c.line.ensures.value; has = in_buffers _ e f.among }) noted
