use Rattle.std.proofs.Common.{◌≡◌, ◌++◌, ◌∷◌, drop, map}
use Rattle.std.specs.List.{flat_map}
use Rattle.log_text.specs.Changes.{Change}
use Rattle.log_text.specs.Edits.{change_value, changes_text}
use Rattle.log_text.specs.Spellings.{change_text}
use Rattle.log_text.proofs.write_second.put_changes.Given as goal

abbrev pub invariant-loop-change : goal.invariant-loop-change
invariant-loop-change l = l.text.items ++ flat_map (λ (c : Change). 32 ∷ change_text c)
    (drop l.change-index (map change_value l.changes)) ≡ l.fn.text.items ++ changes_text (map change_value l.changes)
