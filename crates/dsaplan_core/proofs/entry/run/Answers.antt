use Rattle.std.proofs.Common.{map, string_bytes}
use Rattle.dsaplan_core.proofs.Headline.{choice, headline}
use Rattle.dsaplan_core.proofs.Serving.{concluded}
use Rattle.dsaplan_core.proofs.entry.run.Goals as goal

pub returns-clause-headline : goal.returns-clause-headline
returns-clause-headline g c = headline (map string_bytes c.args.words.now) (g.F.Files.seen c.args.files.now)
    (g.F.Files.seen c.execute.new.files) (g.S.Sink.seen c.args.out.now) (g.S.Sink.seen c.execute.new.out)
    c.execute.result c.execute.ensures

pub returns-clause-choice : goal.returns-clause-choice
returns-clause-choice g c = choice (map string_bytes c.args.words.now) (g.F.Files.seen c.args.files.now)
    (g.F.Files.seen c.execute.new.files) (g.S.Sink.seen c.args.out.now) (g.S.Sink.seen c.execute.new.out)
    c.execute.result c.execute.ensures

pub returns-clause-complete : goal.returns-clause-complete
returns-clause-complete g c = λ request is calm. concluded (g.F.Files.seen c.args.files.now)
    (g.F.Files.seen c.execute.new.files) (g.S.Sink.seen c.args.out.now) (g.S.Sink.seen c.execute.new.out)
    (map string_bytes c.args.words.now) request is calm c.execute.result c.execute.ensures
