use Rattle.claim_levels.proofs.RaisingSteps.{put_kept, put_raising, raising_still}
use Rattle.claim_levels.proofs.spreading.raise.Goals as goal

pub returns-in_err-put-clause-raising : goal.returns-in_err-put-clause-raising
returns-in_err-put-clause-raising g c = raising_still c.args.instance.now g.levels c.args.placed.buffer
    c.args.raising.now c.put.new.self c.in_err-put.ensures.unchanged c.requires.1.1.0

pub returns-in_ok-put-clause-raising : goal.returns-in_ok-put-clause-raising
returns-in_ok-put-clause-raising g c =
    put_raising c.args.instance.now g.levels c.args.placed.buffer c.args.raising.now c.args.c c.args.now
    c.level_of-level.result c.requires.1.1.1.0 c.requires.1.1.1.1 c.requires.1.0
    c.level_of-level.ensures.level c.level_of-level.ensures.again c.requires.1.1.0 c.put.new.self c.if-now-level.true
    c.in_ok-put.ensures.numbers c.in_ok-put.ensures.top c.in_ok-put.ensures.changes c.level_of-level.ensures.limit

pub returns-in_ok-put-clause-kept : goal.returns-in_ok-put-clause-kept
returns-in_ok-put-clause-kept g c =
    put_kept c.args.instance.now g.levels c.args.placed.buffer c.args.raising.now c.args.c c.args.now
    c.level_of-level.result c.requires.1.1.1.0 c.requires.1.1.1.1 c.requires.1.0
    c.level_of-level.ensures.level c.level_of-level.ensures.again c.requires.1.1.0 c.put.new.self c.if-now-level.true
    c.in_ok-put.ensures.numbers
