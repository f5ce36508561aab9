use Rattle.std.proofs.Common.{refl, subst}
use Rattle.log_text.specs.Faults.{HasNoRow}
use Rattle.log_text.specs.Rows.{IsUnsaid, spelled_value}
use Rattle.log_text.specs.Spellings.{spelling_of}
use Rattle.log_text.proofs.RowLemmas.{end_good, fault_is, line_good, row_falls, row_large, row_none, row_no_base, row_no_change}
use Rattle.log_text.proofs.read.read_good_row.Goals as goal

pub returns-in-Err-Fault : goal.returns-in-Err-Fault
returns-in-Err-Fault c = row_none _ _ _ _ refl c.requires.some
    (fault_is (λ _. HasNoRow c.args.version c.args.cursor.now) _ _ c.in-Err-Fault.field-0-is c.in-Err-Fault.ensures)

pub returns-then-not-is_within : goal.returns-then-not-is_within
returns-then-not-is_within c = row_large _ _ _ _ _ _ refl c.in-Ok.ensures
    (λ w. let t = c.if-not-is_within.ensures.1 w in cc)

pub returns-then-not-is_rising : goal.returns-then-not-is_rising
returns-then-not-is_rising c = row_falls _ _ _ _ _ _ refl c.in-Ok.ensures (c.if-not-is_within.ensures.0 refl)
    (λ r. let t = c.if-not-is_rising.ensures.1 r in cc)

pub returns-in-Ok-line_said : goal.returns-in-Ok-line_said
returns-in-Ok-line_said c = line_good _ _ _ _ _ _ _ c.in-Ok.ensures (c.if-not-is_within.ensures.0 refl)
    (c.if-not-is_rising.ensures.0 refl) c.in-Line.is c.in-Ok-line_said.ensures

pub returns-in-Err-Fault-NoBase : goal.returns-in-Err-Fault-NoBase
returns-in-Err-Fault-NoBase c = row_no_base _ _ _ _ _ _ _ refl c.in-Ok.ensures (c.if-not-is_within.ensures.0 refl)
    (c.if-not-is_rising.ensures.0 refl) c.in-Line.is
    (subst (IsUnsaid c.args.lines.now (spelling_of (spelled_value c.in-Line.spelled)))
    c.in-Err-Fault-NoBase.field-0-0-is
    (fault_is (IsUnsaid c.args.lines.now (spelling_of (spelled_value c.in-Line.spelled))) _ _
    c.in-Err-Fault-NoBase.field-0-is c.in-Err-Fault-NoBase.ensures))

pub returns-in-Err-Fault-NoChange : goal.returns-in-Err-Fault-NoChange
returns-in-Err-Fault-NoChange c = row_no_change _ _ _ _ _ _ _ refl c.in-Ok.ensures (c.if-not-is_within.ensures.0 refl)
    (c.if-not-is_rising.ensures.0 refl) c.in-Line.is
    (subst (IsUnsaid c.args.lines.now (spelling_of (spelled_value c.in-Line.spelled)))
    c.in-Err-Fault-NoChange.field-0-0-is
    (fault_is (IsUnsaid c.args.lines.now (spelling_of (spelled_value c.in-Line.spelled))) _ _
    c.in-Err-Fault-NoChange.field-0-is c.in-Err-Fault-NoChange.ensures))

pub returns-in-End : goal.returns-in-End
returns-in-End c = end_good _ _ _ _ _ _ c.in-Ok.ensures (c.if-not-is_within.ensures.0 refl)
    (c.if-not-is_rising.ensures.0 refl) c.in-End.is
