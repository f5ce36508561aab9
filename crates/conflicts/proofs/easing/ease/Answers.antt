use Rattle.std.proofs.Common.{IfOk, map}
use Rattle.refute_log.specs.Lines.{cite_value, line_value}
use Rattle.conflicts.proofs.Easings.{IsEased, among_of, covers_of, if_eased, lean_of, legal_of, stands_within, within_of}
use Rattle.conflicts.proofs.CasesLines.{if_lower}
use Rattle.conflicts.proofs.OverLines.{over_eased}
use Rattle.conflicts.proofs.easing.ease.Goals as goal

pub ease_over-requires-clause-stands : goal.ease_over-requires-clause-stands
ease_over-requires-clause-stands c =
    let legal = rw c.in-Over.is at c.requires.legal in
    let within = rw c.in-Over.is at c.requires.within in
    stands_within _ _ legal.claim within.0 c.len-count.ensures.buffers c.len-count.ensures.limit

pub ease_cases-requires-clause-stands : goal.ease_cases-requires-clause-stands
ease_cases-requires-clause-stands c =
    let legal = rw c.in-Cases.is at c.requires.legal in
    let within = rw c.in-Cases.is at c.requires.within in
    stands_within _ _ legal.claim within.0 c.len-count.ensures.buffers c.len-count.ensures.limit

pub ease_cases-requires-clause-legal : goal.ease_cases-requires-clause-legal
ease_cases-requires-clause-legal c =
    let legal = rw c.in-Cases.is at c.requires.legal in rw c.as_slice.ensures legal.reason

over_whole : (c : goal.After-drop-claim-inside) →
    IfOk c.ease_over.result (λ x. IsEased c.args.instance.now c.args.log.now.capacity c.args.log.now.lines
    (line_value c.args.line) (line_value x))
over_whole c =
    let legal = rw c.in-Over.is at c.requires.legal in
    let within = rw c.in-Over.is at c.requires.within in
    let s = stands_within c.args.instance.now c.in-Over.claim legal.claim within.0 c.len-count.ensures.buffers
    c.len-count.ensures.limit in
    rw c.in-Over.is (if_eased line_value c.ease_over.result c.args.instance.now c.args.log.now.capacity
    c.args.log.now.lines _ _
    (over_eased c.args.instance.now c.args.log.now.capacity c.in-Over.claim c.in-Over.moment c.in-Over.height
    c.in-Over.modulus s legal.reason c.args.log.now.lines within)
    (rw c.capacity-capacity.ensures.value at c.ease_over.ensures))

cases_whole : (c : goal.After-drop-claim-inside-in-Cases) →
    IfOk c.ease_cases.result (λ x. IsEased c.args.instance.now c.args.log.now.capacity c.args.log.now.lines
    (line_value c.args.line) (line_value x))
cases_whole c =
    let legal = rw c.in-Cases.is at c.requires.legal in
    let within = rw c.in-Cases.is at c.requires.within in
    let s = stands_within c.args.instance.now c.in-Cases.claim legal.claim within.0 c.len-count.ensures.buffers
    c.len-count.ensures.limit in
    let few = rw c.len-lines.ensures.value at c.len-lines.ensures.limit in
    rw c.in-Cases.is (if_lower line_value c.ease_cases.result c.args.instance.now c.args.log.now.capacity
    c.args.log.now.lines c.in-Cases.claim (map cite_value c.in-Cases.cites) s within.0 few c.ease_cases.ensures)

pub returns-in-Over-clause-legal : goal.returns-in-Over-clause-legal
returns-in-Over-clause-legal c = legal_of line_value _ _ _ _ _ (over_whole c)

pub returns-in-Over-clause-within : goal.returns-in-Over-clause-within
returns-in-Over-clause-within c = within_of line_value _ _ _ _ _ (over_whole c)

pub returns-in-Over-clause-covers : goal.returns-in-Over-clause-covers
returns-in-Over-clause-covers c = covers_of line_value _ _ _ _ _ (over_whole c)

pub returns-in-Over-clause-lean : goal.returns-in-Over-clause-lean
returns-in-Over-clause-lean c = lean_of line_value _ _ _ _ _ (over_whole c)

pub returns-in-Over-clause-kind : goal.returns-in-Over-clause-kind
returns-in-Over-clause-kind c =
    rw c.in-Over.is (rw c.capacity-capacity.ensures.value at c.ease_over.ensures)

pub returns-in-Over-clause-among : goal.returns-in-Over-clause-among
returns-in-Over-clause-among c = among_of line_value _ _ _ _ _ (over_whole c)

pub returns-in-Cases-clause-legal : goal.returns-in-Cases-clause-legal
returns-in-Cases-clause-legal c = legal_of line_value _ _ _ _ _ (cases_whole c)

pub returns-in-Cases-clause-within : goal.returns-in-Cases-clause-within
returns-in-Cases-clause-within c = within_of line_value _ _ _ _ _ (cases_whole c)

pub returns-in-Cases-clause-covers : goal.returns-in-Cases-clause-covers
returns-in-Cases-clause-covers c = covers_of line_value _ _ _ _ _ (cases_whole c)

pub returns-in-Cases-clause-lean : goal.returns-in-Cases-clause-lean
returns-in-Cases-clause-lean c = lean_of line_value _ _ _ _ _ (cases_whole c)

pub returns-in-Cases-clause-among : goal.returns-in-Cases-clause-among
returns-in-Cases-clause-among c = among_of line_value _ _ _ _ _ (cases_whole c)
