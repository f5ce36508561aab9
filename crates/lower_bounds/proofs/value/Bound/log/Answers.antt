use Rattle.std.proofs.Common.{arith, ◌∙◌}
use Rattle.dsa_terms.specs.Logs.{Over}
use Rattle.lower_bounds.proofs.Lines.{capacity_limit, end_line, few_lifted, height_in, height_is, height_limit, is_above, legal_after, lifted_bounds, line_within, log_is, rises_lifted, whole_of}
use Rattle.lower_bounds.proofs.value.Bound.log.Goals as goal

pub line_height-height-requires-clause-height : goal.line_height-height-requires-clause-height
line_height-height-requires-clause-height c = height_in _ _ _ (is_above _ _ _ c.requires.bound c.requires.below
    (c.bound_is_low.ensures.log c.args.instance.now))

pub from_vec-claim-requires-clause-rises : goal.from_vec-claim-requires-clause-rises
from_vec-claim-requires-clause-rises c = rises_lifted _ _ _ _ _ _ c.in_ok-lifted.ensures.value

pub from_vec-claim-requires-clause-count : goal.from_vec-claim-requires-clause-count
from_vec-claim-requires-clause-count c = few_lifted _ _ _ _ _ _ c.in_ok-lifted.ensures.value
    c.in_ok-lifted.ensures.limit

pub from_vec-claim-requires-clause-bounds : goal.from_vec-claim-requires-clause-bounds
from_vec-claim-requires-clause-bounds c =
    let l = c.line_height-height.ensures.limit in
    let k = height_limit _ _ _ (is_above _ _ _ c.requires.bound c.requires.below
    (c.bound_is_low.ensures.log c.args.instance.now)) c.in_ok-lifted.ensures.buffers in
    lifted_bounds _ _ _ _ _ _ c.in_ok-lifted.ensures.value (omega arith)

pub new-log-requires : goal.new-log-requires
new-log-requires c = capacity_limit _ _ _ (is_above _ _ _ c.requires.bound c.requires.below
    (c.bound_is_low.ensures.log c.args.instance.now)) c.in_ok-lifted.ensures.buffers c.in_ok-lifted.ensures.limit

pub push_legal-requires-clause-within : goal.push_legal-requires-clause-within
push_legal-requires-clause-within c = line_within _ _ _ _ _ (is_above _ _ _ c.requires.bound c.requires.below
    (c.bound_is_low.ensures.log c.args.instance.now)) c.in_ok-lifted.ensures.buffers
    (c.from_vec-claim.ensures ∙ c.in_ok-lifted.ensures.value) c.line_height-height.ensures.limit

pub push_legal-requires-clause-legal : goal.push_legal-requires-clause-legal
push_legal-requires-clause-legal c =
    let a = is_above _ _ _ c.requires.bound c.requires.below (c.bound_is_low.ensures.log c.args.instance.now) in
    legal_after c.args.instance.now c.args.self.now c.args.capacity c.line_height-height.result
    c.from_vec-claim.result c.new-log.result a (c.from_vec-claim.ensures ∙ c.in_ok-lifted.ensures.value)
    (height_is _ _ _ _ a c.line_height-height.ensures.value) c.new-log.ensures.value

pub unreachable-requires : goal.unreachable-requires
unreachable-requires c = c.in-Err.ensures.whole
    (Over c.from_vec-claim.result c.args.self.now.moment c.line_height-height.result c.args.self.now.modulus)
    (end_line c.args.instance.now c.args.capacity c.in_ok-end.end _ c.new-log.result c.push_legal.new.self
    c.new-log.ensures.value c.in_ok-end.ensures.number c.in_ok-end.ensures.appended)
    (whole_of _ c.args.self.now c.line_height-height.result _
    (c.from_vec-claim.ensures ∙ c.in_ok-lifted.ensures.value) c.line_height-height.ensures.limit)

pub returns-clause-value : goal.returns-clause-value
returns-clause-value c =
    let a = is_above _ _ _ c.requires.bound c.requires.below (c.bound_is_low.ensures.log c.args.instance.now) in
    log_is c.args.instance.now c.args.self.now c.args.capacity c.line_height-height.result c.in_ok-end.end
    c.from_vec-claim.result c.new-log.result c.push_legal.new.self c.in-Ok.closed
    (c.from_vec-claim.ensures ∙ c.in_ok-lifted.ensures.value)
    (height_is _ _ _ _ a c.line_height-height.ensures.value)
    c.new-log.ensures.value c.in_ok-end.ensures.number c.in_ok-end.ensures.appended c.in-Ok.ensures.closed
