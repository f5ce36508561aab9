use Rattle.std.proofs.Common.{arith}
use Rattle.dsa_plan.specs.Arrays.{arrays_of}
use Rattle.dsa_plan.specs.Packed.{taken}
use Rattle.dsa_plan.proofs.WithinMore.{tells_packed}
use Rattle.dsa_plan.proofs.arrays.Arrays.pack.Goals as goal

pub returns-in-Ok-clause-value : goal.returns-in-Ok-clause-value
returns-in-Ok-clause-value c =
    tells_packed (arrays_of c.args.self.now) c.in-Ok.instance (taken c.args.steps) c.args.steps
    c.args.offsets.now c.written.new.offsets c.packed_anew.result c.written.result c.in-Ok.ensures.value.0
    c.written.ensures.written c.written.ensures.value (omega arith) c.packed_anew.ensures
