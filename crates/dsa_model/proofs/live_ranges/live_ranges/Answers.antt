use Rattle.std.proofs.Common.{◌∙◌, sym}
use Rattle.dsa_model.specs.Buffer.{lasting}
use Rattle.dsa_model.proofs.Faults.{gaps_inside, never_live, no_gap_fault}
use Rattle.dsa_model.proofs.Outside.{ever_within, never_within}
use Rattle.dsa_model.proofs.live_ranges.live_ranges.Goals as goal

pub ranges_outside-requires : goal.ranges_outside-requires
ranges_outside-requires c =
    gaps_inside (lasting c.args.lower c.args.upper c.args.gaps.now) (sym c.gap_list_fault.ensures ∙ c.in_default.is)

pub returns-then-is_empty : goal.returns-then-is_empty
returns-then-is_empty c =
    let b = lasting c.args.lower c.args.upper c.args.gaps.now in
    never_live b (sym c.gap_list_fault.ensures ∙ c.in_default.is)
    (never_within b c.in_ok-ranges.ranges.items c.in_ok-ranges.ensures
    (rw c.in_ok-ranges.ranges.ok.0 at (sym c.is_empty.ensures ∙ c.if-is_empty.true)))

pub returns : goal.returns
returns c =
    let b = lasting c.args.lower c.args.upper c.args.gaps.now in (
      no_gap_fault b (sym c.gap_list_fault.ensures ∙ c.in_default.is)
          (ever_within b c.in_ok-ranges.ranges.items c.in_ok-ranges.ensures
          (rw c.in_ok-ranges.ranges.ok.0 at (sym c.is_empty.ensures ∙ c.if-is_empty.false))),
      c.in_ok-ranges.ensures,
    )
