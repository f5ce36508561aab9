use Rattle.std.proofs.Common.{refl}
use Rattle.run_status.specs.declared.status.Status.TheVariants.{Usage}
use Rattle.run_course.specs.Course.{Ends, says}
use Rattle.run_course.proofs.Silently.{silently}
use Rattle.dsaplan_core.proofs.misuse.MisuseCommand.conclude.Goals as goal

pub returns-clause-comes : goal.returns-clause-comes
returns-clause-comes g c = silently (g.F.Files.seen c.args._files.now) (g.F.Files.seen c.args._files.now)
    (Ends (says (Usage c.args.self.now.fault))) (Usage c.args.self.now.fault) c.silent.result c.silent.ensures
    (tt, refl)
