use Rattle.std.proofs.Common.{◌-◌, map, drop}
use Rattle.dsa_terms.specs.Claims.{Entry, Rises}
use Rattle.log_text.proofs.limits.pairs_rise.Given as goal

abbrev pub invariant-loop-place : goal.invariant-loop-place
invariant-loop-place l = Rises (map (λ (p : Entry). p.0) (drop (l.place - 1) l.pairs)) →
    Rises (map (λ (p : Entry). p.0) l.pairs)
