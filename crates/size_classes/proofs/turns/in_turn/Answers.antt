use Rattle.std.proofs.Common.{rules, ◌≡◌, map, ℕ, refl}
use Rattle.std.proofs.lemmas.List.{take_all}
use Rattle.size_classes.specs.Slots.{in_turn}
use Rattle.size_classes.proofs.Turning.{keyed_more, sorted_is}
use Rattle.size_classes.proofs.SlotLoop.{member_at}
use Rattle.size_classes.proofs.turns.in_turn.Goals as goal

pub buffer-requires : goal.buffer-requires
buffer-requires c = member_at _ _ _ 0 c.requires c.loop-b-test.true

pub loop-b-preserved : goal.loop-b-preserved
loop-b-preserved c = keyed_more _ _ _ _ 0 _ _ _ _ c.loop-b-test.true refl c.buffer.ensures.value c.lower.ensures.value
    c.in_ok-push.ensures.items c.loop-b.invariant

pub returns : goal.returns
returns c =
    let e : map (λ (k : ℕ × ℕ). k.1) c.sort_unstable.new.self.items ≡ in_turn c.args.instance.now c.args.members.now =
    sorted_is _ _ _ _ c.requires.rises
    (rw (take_all c.loop-b.b-index c.args.members.now c.loop-b-test.false) at c.loop-b.invariant)
    c.sort_unstable.ensures.permutation c.sort_unstable.ensures.sorted in
    rw (← e) (search rules)
