use Rattle.std.proofs.Common.{Err, Ok, map, string_bytes}
use Rattle.dsaplan_core.proofs.Going.{words_go}
use Rattle.dsaplan_core.proofs.entry.execute.Goals as goal

pub returns-in-Ok : goal.returns-in-Ok
returns-in-Ok g c = words_go (g.F.Files.seen c.args.files.now) (g.F.Files.seen c.answer.new.files)
    (g.S.Sink.seen c.args.out.now) (g.S.Sink.seen c.answer.new.out) c.answer.result
    (map string_bytes c.args.words.now) (Ok c.in-Ok.request) c.in-Ok.ensures.value c.answer.ensures

pub returns-in-Err : goal.returns-in-Err
returns-in-Err g c = words_go (g.F.Files.seen c.args.files.now) (g.F.Files.seen c.perform.new.files)
    (g.S.Sink.seen c.args.out.now) (g.S.Sink.seen c.perform.new.out) c.perform.result
    (map string_bytes c.args.words.now) (Err c.in-Err.fault) c.in-Err.ensures.value c.perform.ensures
