use Rattle.std.proofs.Common.{◌<◌, length, arith}
use Rattle.dsa_terms.proofs.Places.{in_from_all}
use Rattle.core_find.proofs.Some.{rises_few}
use Rattle.core_find.proofs.members.sub_instance.Goals as goal

pub some_of-requires-clause-few : goal.some_of-requires-clause-few
some_of-requires-clause-few c =
    let n = length c.args.instance.now in
    let few = rises_few n 0 c.args.members.now c.requires.rises
    (λ b i. (omega arith, in_from_all (λ b. b < n) c.args.members.now c.requires.in_range b i)) in
    omega (arith, few, c.len-count.ensures.limit)
