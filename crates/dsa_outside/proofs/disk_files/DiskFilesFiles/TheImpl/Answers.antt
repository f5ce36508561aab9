use Rattle.std.proofs.Common.{refl, inl}
use Rattle.dsa_outside.proofs.Untold.{on_ok, reads_untold, rose_by_one}
use Rattle.dsa_outside.proofs.disk_files.DiskFilesFiles.TheImpl.Goals as goal

pub read-tells : goal.read-tells
read-tells g c = record {
  bytes = reads_untold c.result c.args.name.now c.args.most;
  length = c.ensures.length;
  files = refl;
  failed = λ failed. inl (rose_by_one _ _ (c.ensures.failed failed));
  no_memory = λ short name. c.ensures.no_memory short;
  counts = λ name. c.ensures.counts;
}

pub write-tells : goal.write-tells
write-tells g c = record {
  written = on_ok _ _ refl;
  others = refl;
  failed = λ failed. rose_by_one _ _ (c.ensures.failed failed);
  no_memory = λ short. refl;
  no_memory_counts = λ short name. c.ensures.no_memory short;
  counts = λ name. c.ensures.counts;
}
