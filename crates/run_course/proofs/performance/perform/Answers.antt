use Rattle.std.proofs.Common.{refl, inr}
use Rattle.run_course.specs.Prepares.{outcome_of}
use Rattle.run_course.proofs.Performing.{answers, cut_printing, cut_writing, spoken, tells}
use Rattle.run_course.proofs.Silently.{comes_spoken}
use Rattle.run_course.proofs.performance.perform.Goals as goal

pub returns-in-Err-write : goal.returns-in-Err-write
returns-in-Err-write g c = record {
  files = inr (cut_writing _ _
      (g.F.Files.seen c.conclude.new.files)
      _ (outcome_of c.in-Ok.prepared) c.in-Ok.ensures.files c.in-Ok.ensures.counts c.write.ensures.counts
      c.in-Ok.ensures.comes c.in-Err-write.ensures.begun);
  silent = refl;
}

pub returns-in-Ok-put : goal.returns-in-Ok-put
returns-in-Ok-put g c = answers _ _ _ _ _ c.told-status.result.0
    (spoken (outcome_of c.in-Ok.prepared) c.in-Ok-write.lost c.told-status.result.0
    (comes_spoken (g.F.Files.seen c.args.files.now)
    (g.F.Files.seen c.conclude.new.files) (g.C.Command.course c.args.command.now) (outcome_of c.in-Ok.prepared)
    c.in-Ok.ensures.comes)
    c.told-status.ensures.status)
    (record {
      text = c.told-status.result.1.now;
      tells = tells _ _
          (g.F.Files.seen c.conclude.new.files)
          _ (outcome_of c.in-Ok.prepared) c.in-Ok.ensures.files c.in-Ok.ensures.counts c.write.ensures.counts
          c.in-Ok.ensures.comes c.in-Ok-write.lost _ _ c.in-Ok-write.ensures.left c.told-status.ensures.status
          c.told-status.ensures.text;
      printed = c.in-Ok-put.ensures.put;
    })

pub returns-in-Err-Failed : goal.returns-in-Err-Failed
returns-in-Err-Failed g c =
    let taken = c.in-Err-Failed.ensures.prefix search in
    record {
      status = c.told-status.result.0;
      text = c.told-status.result.1.now;
      tells = tells _ _
          (g.F.Files.seen c.conclude.new.files)
          _ (outcome_of c.in-Ok.prepared) c.in-Ok.ensures.files c.in-Ok.ensures.counts c.write.ensures.counts
          c.in-Ok.ensures.comes c.in-Ok-write.lost _ _ c.in-Ok-write.ensures.left c.told-status.ensures.status
          c.told-status.ensures.text;
      rose = c.in-Err-Failed.ensures.failed search;
      taken = taken.0;
      prefix = taken.1;
    }

pub returns : goal.returns
returns g c = record {
  files = inr (cut_printing _ _
      (g.F.Files.seen c.conclude.new.files)
      _ (outcome_of c.in-Ok.prepared) c.in-Ok.ensures.files c.in-Ok.ensures.counts c.write.ensures.counts
      c.in-Ok.ensures.comes c.in-Ok-write.lost c.in-Ok-write.ensures.left);
  silent = c.in-Err-NoMemory.ensures.no_memory search;
}
