use Rattle.std.proofs.Common.{rules}
use Rattle.lifetime.proofs.Members.{few_members, members_in_range}
use Rattle.load_profile.proofs.loads.loads.Goals as goal

pub load_of-requires-clause-in_range : goal.load_of-requires-clause-in_range
load_of-requires-clause-in_range c =
    members_in_range c.args.instance.now c.args.sections.now c.loop-s.s c.members.result.now c.requires.sections
    (search rules) c.members.ensures.value

pub load_of-requires-clause-few : goal.load_of-requires-clause-few
load_of-requires-clause-few c =
    few_members c.args.instance.now c.args.sections.now c.loop-s.s c.members.result.now c.requires.sections
    (search rules) c.members.ensures.value c.requires.few
