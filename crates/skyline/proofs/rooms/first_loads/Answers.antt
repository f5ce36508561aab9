use Rattle.std.proofs.Common.{ap, ◌<◌, sym, subst, length, List, ℕ, arith}
use Rattle.std.specs.List.{All}
use Rattle.dsa_terms.proofs.Places.{in_at}
use Rattle.lifetime.specs.SectionList.{members_of}
use Rattle.skyline.proofs.SectionFacts.{few_in, member_in}
use Rattle.skyline.proofs.rooms.first_loads.Goals as goal

pub load_of-requires-clause-in_range : goal.load_of-requires-clause-in_range
load_of-requires-clause-in_range c =
    subst (λ (x : List ℕ). All (λ b. b < length c.args.instance.now) x) (sym c.members.ensures.value)
    (λ k d lt. member_in c.args.instance.now c.args.sections.now c.requires.sections c.loop-s.s _
    (omega (arith, c.count-s-end.ensures.value)) (in_at (members_of c.args.sections.now c.loop-s.s) k d lt))

pub load_of-requires-clause-few : goal.load_of-requires-clause-few
load_of-requires-clause-few c =
    let e = ap length c.members.ensures.value in
    let k = few_in c.args.instance.now c.args.sections.now c.requires.sections c.loop-s.s
    (omega (arith, c.count-s-end.ensures.value)) in
    omega (arith, e, k, c.len-count.ensures.limit)
