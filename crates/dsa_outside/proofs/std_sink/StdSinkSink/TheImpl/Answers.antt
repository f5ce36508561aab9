use Rattle.std.proofs.Common.{refl}
use Rattle.dsa_outside.proofs.Untold.{on_ok, rose_by_one}
use Rattle.dsa_outside.proofs.std_sink.StdSinkSink.TheImpl.Goals as goal

pub put-tells : goal.put-tells
put-tells g c = record {
  put = on_ok _ _ refl;
  prefix = λ failed. (0, refl);
  failed = λ failed. rose_by_one _ _ (c.ensures.failed failed);
  no_memory = λ short. refl;
  no_memory_count = λ short. absurd (c.ensures.cause short);
  count = c.ensures.count;
}
