use Rattle.size_classes.proofs.SlotLemmas.{one_slot_is_apart, slots_are_few}
use Rattle.size_classes.proofs.laws.slots_are_coloured.Goals as goal

pub returns-clause-apart : goal.returns-clause-apart
returns-clause-apart c = one_slot_is_apart

pub returns-clause-few : goal.returns-clause-few
returns-clause-few c = slots_are_few
