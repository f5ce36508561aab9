use Rattle.std.proofs.Common.{◌-◌, map, drop}
use Rattle.dsa_terms.specs.Claims.{Rises}
use Rattle.log_text.specs.Changes.{buffer_of}
use Rattle.log_text.specs.Edits.{change_value}
use Rattle.log_text.proofs.limits.changes_rise.Given as goal

abbrev pub invariant-loop-place : goal.invariant-loop-place
invariant-loop-place l = Rises (map (λ e. buffer_of (change_value e)) (drop (l.place - 1) l.changes)) →
    Rises (map (λ e. buffer_of (change_value e)) l.changes)
