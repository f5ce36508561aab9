use Rattle.std.proofs.Common.{ℕ, ◌-◌, map, drop}
use Rattle.dsa_terms.specs.Claims.{Rises}
use Rattle.log_text.specs.declared.raw.RawCite.{RawCite}
use Rattle.log_text.proofs.limits.cites_rise.Given as goal

abbrev pub invariant-loop-place : goal.invariant-loop-place
invariant-loop-place l = Rises (map (λ (p : ℕ × RawCite). p.0) (drop (l.place - 1) l.cites)) →
    Rises (map (λ (p : ℕ × RawCite). p.0) l.cites)
