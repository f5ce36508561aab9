use Rattle.std.proofs.Common.{◌∷◌}
use Rattle.log_text.specs.Changes.{Change}
use Rattle.log_text.specs.Edits.{change_value}
use Rattle.log_text.specs.Spellings.{change_text}
use Rattle.log_text.proofs.Left.{map_at, put_next}
use Rattle.log_text.proofs.write_second.put_changes.Goals as goal

pub loop-change-preserved : goal.loop-change-preserved
loop-change-preserved c =
    put_next (λ (x : Change). 32 ∷ change_text x) _ c.loop-change.change-index _ c.loop-change.text.items
    c.put_change.new.text.items _ (map_at change_value c.args.changes.now c.loop-change.change-index _
    c.loop-change-test.true)
    c.in_ok-put_change.ensures c.loop-change.invariant
