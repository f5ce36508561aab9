use Rattle.std.proofs.Common.{◌∙◌, ap, arith}
use Rattle.std.specs.Int.{next_multiple_of}
use Rattle.claim_levels.proofs.Words.{Buffer}
use Rattle.claim_levels.proofs.PlacedLevels.{has_placed, in_instance, level_again, level_high, level_low, limit_low, no_level_again, none_of_placed}
use Rattle.claim_levels.proofs.placed.Placed.level_of.Goals as goal

pub returns-then-c-self-clause-level : goal.returns-then-c-self-clause-level
returns-then-c-self-clause-level g c = λ l h q. none_of_placed _ l g.levels _ _ h c.if-c-self.true

pub returns-then-c-self-clause-again : goal.returns-then-c-self-clause-again
returns-then-c-self-clause-again g c = λ l h i. no_level_again c.args.instance.now l _ _ _ c.if-c-self.true i

pub least_past-least-requires : goal.least_past-least-requires
least_past-least-requires g c =
    let low = c.requires.1.0 in
    let p = c.requires.0 in
    let o = p.limit in
    record {
      b_in = in_instance _ _ _ c.args.self.buffer low (has_placed _ _ _ low);
      c_in = in_instance _ _ _ c.args.c low c.requires.1.1.0;
      limit = omega (arith, o);
      end = p.end;
    }

pub buffer-requires : goal.buffer-requires
buffer-requires g c = in_instance _ _ _ c.args.c c.requires.1.0 c.requires.1.1.0

pub least_offset-requires : goal.least_offset-requires
least_offset-requires g c =
    let m = c.least_past-least.ensures.limit in
    let o = c.requires.0.limit in
    omega (arith, m, o)

pub returns-then-least-level-clause-level : goal.returns-then-least-level-clause-level
returns-then-least-level-clause-level g c =
    level_high c.args.instance.now g.levels c.args.self c.args.c c.args.level _ c.requires.0 c.requires.1.0
    (λ k d i. (c.len-count.ensures.buffers k d i).sound) c.requires.1.1.0 c.if-c-self.false
    c.least_past-least.ensures.value c.if-least-level.true

pub returns-else-least-level-clause-level : goal.returns-else-least-level-clause-level
returns-else-least-level-clause-level g c =
    level_low c.args.instance.now g.levels c.args.self c.args.c c.args.level _ c.requires.0 c.requires.1.0
    (λ k d i. (c.len-count.ensures.buffers k d i).sound) c.requires.1.1.0 c.if-c-self.false
    c.least_past-least.ensures.value c.least_offset.result (c.least_offset.ensures
    ∙ ap (λ (b : Buffer). next_multiple_of c.least_past-least.result b.alignment) c.buffer.ensures.value)
    c.if-least-level.false

pub returns-else-least-level-clause-again : goal.returns-else-least-level-clause-again
returns-else-least-level-clause-again g c = λ l h i. absurd
    (level_again c.args.instance.now g.levels c.args.self c.args.c c.args.level _ c.requires.0 c.requires.1.0
    (λ k d i. (c.len-count.ensures.buffers k d i).sound) c.requires.1.1.0 c.if-c-self.false
    c.least_past-least.ensures.value c.if-least-level.false l h i)

pub returns-else-least-level-clause-limit : goal.returns-else-least-level-clause-limit
returns-else-least-level-clause-limit g c =
    limit_low c.args.instance.now g.levels c.args.self c.args.c c.args.level _ c.requires.0 c.requires.1.0
    (λ k d i. (c.len-count.ensures.buffers k d i).sound) c.requires.1.1.0 c.if-c-self.false
    c.least_past-least.ensures.value c.least_offset.result (c.least_offset.ensures
    ∙ ap (λ (b : Buffer). next_multiple_of c.least_past-least.result b.alignment) c.buffer.ensures.value)
    c.if-least-level.false c.len-count.ensures.buffers c.len-count.ensures.limit
