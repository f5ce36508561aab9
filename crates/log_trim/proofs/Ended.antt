-- The log of the kept lines, closed at its last line, is the trimmed log.
use Rattle.std.proofs.Common.{◌≡◌, ℕ, ◌-◌, ◌≤◌, length, slice_get, Some, refl, ◌∙◌, arith}
use Rattle.dsa_terms.specs.Buffers.{Instance}
use Rattle.dsa_terms.specs.Claims.{Claim, IsWhole}
use Rattle.dsa_terms.specs.Logs.{IsAccepted, Line, Log, claim_of}
use Rattle.dsa_trim_laws.specs.Trimmed.{kept_lines, needed, trimmed}
use Rattle.dsa_trim_laws.proofs.Picked.{get_in}
use Rattle.refute_log.specs.Logs.{Belongs, OpenLog, ended}
use Rattle.log_trim.specs.Ends.{IsEndClaim}

-- the last line is whole
pub whole_last : (I : Instance) (log : Log) (kept : OpenLog) (n : ℕ) → IsAccepted I (trimmed log) →
    kept.lines ≡ kept_lines (needed log) log.lines → n ≡ length kept.lines →
    (line : Line) × (slice_get kept.lines (n - 1) ≡ Some line) × IsWhole I (claim_of line)
unfolding trimmed
whole_last I log kept n a e len = rw (len, e) a.whole

pub some_lines : (I : Instance) (log : Log) (kept : OpenLog) (n : ℕ) → IsAccepted I (trimmed log) →
    kept.lines ≡ kept_lines (needed log) log.lines → n ≡ length kept.lines → 1 ≤ n
some_lines I log kept n a e len =
    let w = whole_last I log kept n a e len in
    let lt = get_in kept.lines (n - 1) w.0 w.1 in omega arith

pub closed_is : (I : Instance) (log : Log) (kept : OpenLog) (n : ℕ) (closed : Log) → IsAccepted I log →
    Belongs I kept → kept.capacity ≡ log.capacity → kept.lines ≡ kept_lines (needed log) log.lines →
    n ≡ length kept.lines → closed ≡ ended kept (n - 1) → closed ≡ trimmed log
unfolding trimmed
closed_is I log kept n closed a b c e len h = h ∙ (rw (len, e, c, b.same_count, a.same_count) refl)

pub end_claim : (log closed : Log) (l : Claim) → closed ≡ trimmed log →
    ((line : Line) → slice_get log.lines log.final ≡ Some line →
    (last : Line) × (slice_get (trimmed log).lines (trimmed log).final ≡ Some last) × (claim_of last ≡ claim_of line)) →
    IsEndClaim log l → IsEndClaim closed l
end_claim log closed l e law h = let r = law h.line h.there in rw e (record {
  line = r.0;
  there = r.1;
  claim = r.2 ∙ h.claim;
})
