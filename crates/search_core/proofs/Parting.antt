-- The whole claim of a part, and the log that refutes it.
use Rattle.std.proofs.Common.{◌≡◌, ℕ, zero, suc, ◌≤◌, ◌<◌, ◌==◌, List, [], ◌∷◌, length, slice_get, Some, sym, refl, ap, ◌∙◌, subst, inl, inr, arith, All}
use Rattle.std.specs.Int.{next_multiple_of}
use Rattle.search_core.proofs.Words.{Instance, buffer, floor, Claim, Entry, IsIn, Covers, IsWhole, up, Line, Log, claim_of, IsAccepted, parts, whole, into_map, buffers_of-whole, claim_of_part, in_whole, part_is_one, OpenLog, ended, IsCoveredBy}
use Rattle.dsa_search_laws.proofs.PartLists.{got_in}
use Rattle.branching.specs.Logs.{Extends, IsSearchLog}
use Rattle.search_core.specs.Decisions.{IsRefutation}

pub part_in_range : (I : Instance) (p : List ℕ) → IsIn p (parts I) → All (λ b. b < length I) p
part_in_range I p h = all_in p (λ b i.
    (claim_of_part I p h).in_range (b, (buffer I b).lowest)
    (into_map (λ (b : ℕ). let e : Entry = (b, (buffer I b).lowest) in e) p b i))
  where
    all_in : (xs : List ℕ) → ((b : ℕ) → IsIn b xs → b < length I) → All (λ b. b < length I) xs
    all_in [] k n d lt = absurd (omega arith)
    all_in (x ∷ xs) k zero d lt = k x (inl refl)
    all_in (x ∷ xs) k (suc n) d lt = all_in xs (λ b i. k b (inr i)) n d (omega arith)

-- ---- the claim of a line that covers the whole claim is whole: there the up of each buffer is its floor
up_in_whole : (I : Instance) (p : List ℕ) (f : Entry) → IsIn f (whole I p) → up I f ≡ floor (buffer I f.0)
unfolding up floor
up_in_whole I p f i = ap (λ x. next_multiple_of x (buffer I f.0).alignment) (in_whole I p f i).1

covers_whole : (I : Instance) (k : Claim) (p : List ℕ) → Covers I k (whole I p) → IsWhole I k
covers_whole I k p h e i =
    let r = h e i in
    let u = up_in_whole I p r.0 r.1 ∙ ap (λ (b : ℕ). floor (buffer I b)) r.2 in
    let le : e.1 ≤ up I r.0 = r.3 in
    omega (arith, u, le)

pub whole_end : (I : Instance) (lines : List Line) (p : List ℕ) (k : ℕ) → IsCoveredBy I lines (whole I p) k →
    (line : Line) × (slice_get lines k ≡ Some line) × IsWhole I (claim_of line)
whole_end I lines p k c = (c.line, c.stands, covers_whole I (claim_of c.line) p c.covers)

-- ---- the log
pub refutes_part : (I : Instance) (C : ℕ) (p : List ℕ) (log : OpenLog) (closed : Log) (end : ℕ) →
    IsIn p (parts I) → IsSearchLog I C log → Extends (whole I p) [] log.lines →
    closed ≡ ended log end → IsAccepted I closed → IsRefutation I C closed
refutes_part I C p log closed end h s grown q accepted = record {
  accepted = accepted;
  capacity = ap (λ (g : Log). g.capacity) q ∙ s.capacity;
  lean = rw q (record {
    uncovered = s.uncovered;
    lean = rw s.capacity s.lean;
    one_part = λ j k other line e f at_j at_k in_other in_line.
        part_is_one I p e.0 f.0 h (of_part other e j at_j in_other) (of_part line f k at_k in_line);
  });
}
  where
    of_part : (line : Line) (e : Entry) (k : ℕ) → slice_get log.lines k ≡ Some line → IsIn e (claim_of line) →
        IsIn e.0 p
    of_part line e k at in_line =
        let i : IsIn line grown.more = subst (IsIn line) grown.is (got_in log.lines k line at) in
        rw buffers_of-whole at (grown.among line e i in_line)
