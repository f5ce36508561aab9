use Rattle.std.proofs.Common.{ap}
use Rattle.refute_log.specs.Lines.{line_value}
use Rattle.refute_log.proofs.Legal.{belongs_next, pushed_view, all_kept_pushed, legal_is_kept}
use Rattle.refute_log.proofs.log.Log.push_legal.Goals as goal

pub invariant_of-self-2 : goal.invariant_of-self-2
invariant_of-self-2 c = record {
  capacity_limit = c.self.invariant.capacity_limit;
  each = all_kept_pushed line_value _ _ _ c.in_ok-push.ensures.items c.self.invariant.each
      (legal_is_kept _ _ _ _ c.len-count.ensures.limit c.requires.within c.requires.legal);
}

pub returns-clause-belongs : goal.returns-clause-belongs
returns-clause-belongs c =
    rw (
      pushed_view line_value c.args.self.now c.self.inside.lines.items c.push.new.self.items c.args.line
          (ap (λ v. v.lines) c.self.view_is) c.in_ok-push.ensures.items,
      ap (λ v. v.capacity) c.self.view_is,
      ap (λ v. v.count) c.self.view_is,
    )
    (belongs_next c.args.instance.now c.args.self.now (line_value c.args.line) c.requires.belongs c.requires.legal)
