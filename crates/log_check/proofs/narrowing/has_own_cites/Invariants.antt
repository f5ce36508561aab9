use Rattle.std.proofs.Common.{◌≡◌, ℕ, map, drop}
use Rattle.std.specs.Prelude.{bytes_eq}
use Rattle.dsa_terms.specs.Claims.{buffers_of}
use Rattle.log_text.specs.declared.raw.RawCite.{RawCite}
use Rattle.log_check.proofs.narrowing.has_own_cites.Given as goal

abbrev pub invariant-loop-place : goal.invariant-loop-place
invariant-loop-place l =
    bytes_eq (map (λ (p : ℕ × RawCite). p.0) l.cites) (buffers_of l.pairs)
    ≡ bytes_eq (map (λ (p : ℕ × RawCite). p.0) (drop l.place l.cites)) (buffers_of (drop l.place l.pairs))
