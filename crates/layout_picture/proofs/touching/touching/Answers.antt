use Rattle.std.proofs.Common.{rules}
use Rattle.std.proofs.lemmas.List.Sorted.{IsNonDecreasingBy-from_sort_by_key}
use Rattle.dsa_model.proofs.Instances.{sound_instance}
use Rattle.layout_picture.specs.Sides.{left_side, lower_side, right_side, upper_side}
use Rattle.layout_picture.specs.declared.touching.Pair.{Pair}
use Rattle.layout_picture.proofs.Following.{some_places}
use Rattle.layout_picture.proofs.PairLemmas.{are_touching}
use Rattle.layout_picture.proofs.Stacking.{some_columns}
use Rattle.layout_picture.proofs.touching.touching.Goals as goal

pub push_meeting-requires-clause-ends : goal.push_meeting-requires-clause-ends
push_meeting-requires-clause-ends c =
    some_columns c.args.instance.now c.args.offsets.now c.args.rectangles.now upper_side
    c.in_ok-stacked.field-0.ends.items c.requires.rectangles c.in_ok-stacked.ensures.ends (λ r lt. lt)

pub push_meeting-requires-clause-begins : goal.push_meeting-requires-clause-begins
push_meeting-requires-clause-begins c = some_columns c.args.instance.now c.args.offsets.now c.args.rectangles.now
    lower_side c.in_ok-stacked.field-0.begins.items c.requires.rectangles c.in_ok-stacked.ensures.begins (λ r lt. lt)

pub push_meeting-requires-2-clause-ends : goal.push_meeting-requires-2-clause-ends
push_meeting-requires-2-clause-ends c = some_places c.args.instance.now c.args.offsets.now
    (right_side c.args.instance.now c.args.offsets.now) c.in_ok-following.field-0.ends.items
    (sound_instance c.args.instance.now c.len.ensures.buffers) c.in_ok-following.ensures.ends (λ b lt. lt)

pub push_meeting-requires-2-clause-begins : goal.push_meeting-requires-2-clause-begins
push_meeting-requires-2-clause-begins c = some_places c.args.instance.now c.args.offsets.now
    (left_side c.args.instance.now c.args.offsets.now) c.in_ok-following.field-0.begins.items
    (sound_instance c.args.instance.now c.len.ensures.buffers) c.in_ok-following.ensures.begins (λ b lt. lt)

pub returns-clause-touching : goal.returns-clause-touching
returns-clause-touching c = are_touching c.args.instance.now c.args.offsets.now c.args.rectangles.now
    c.in_ok-stacked.field-0.ends.items c.in_ok-stacked.field-0.begins.items c.in_ok-following.field-0.ends.items
    c.in_ok-following.field-0.begins.items c.in_ok-pairs.pairs.items c.push_meeting.new.pairs.items
    c.push_meeting-2.new.pairs.items c.sort_unstable_by_key.new.self.items
    (sound_instance c.args.instance.now c.len.ensures.buffers) c.requires.rectangles c.in_ok-pairs.ensures.items
    c.in_ok-stacked.ensures.ends c.in_ok-stacked.ensures.begins c.in_ok-following.ensures.ends
    c.in_ok-following.ensures.begins c.in_ok-push_meeting.ensures c.in_ok-push_meeting-2.ensures
    c.sort_unstable_by_key.ensures.permutation

pub returns-clause-order : goal.returns-clause-order
returns-clause-order c = IsNonDecreasingBy-from_sort_by_key (λ (p : Pair). p.later)
    c.sort_unstable_by_key.new.self.items c.sort_unstable_by_key.ensures.sorted (λ a r q k. search rules)
