-- Logs without needless lines, and brackets with such a log.
use Rattle.std.proofs.Common.{◌≡◌, ℕ, ◌+◌, ◌-◌, ◌≤◌, inl, inr, Bool, true, false, cond, List, [], ◌∷◌, length, Option, None, Some, sym, ap, ◌∙◌, subst, arith}
use Rattle.std.proofs.lemmas.List.{length-map}
use Rattle.dsa_terms.specs.Buffers.{Instance, IsInstance}
use Rattle.dsa_terms.specs.Bounds.{stack_log}
use Rattle.dsa_terms.specs.Layouts.{IsInfeasible}
use Rattle.dsa_terms.specs.Logs.{IsAccepted, Log}
use Rattle.dsa_terms.specs.Trims.{IsTrimOf, moved_line, picked, rank}
use Rattle.dsa_search_laws.proofs.Logs.{accepted_is_infeasible}
use Rattle.dsa_trim_laws.proofs.Picked.{get_in}
use Rattle.min_capacity.specs.Brackets.{Refutes}
use Rattle.min_capacity.specs.declared.brackets.Bracket.{Bracket}
use Rattle.planner.specs.Decides.{IsBoundLog}
use Rattle.packer.specs.Packs.{IsBetween, IsTrimmed, RefutesOneLess, RefutesWithin}
use Rattle.packer.specs.Reached.{IsLogWithin, IsReached}

-- ---- trimming takes lines away alone
picked_fewer : {X : Type 0} (p : ℕ → Bool) (n : ℕ) (xs : List X) → length (picked p n xs) ≤ length xs
picked_fewer p n [] = omega arith
picked_fewer p n (x ∷ xs) = go (picked_fewer p (n + 1) xs) (p n)
  where
    go : length (picked p (n + 1) xs) ≤ length xs → (t : Bool) →
        length (cond t (x ∷ picked p (n + 1) xs) (picked p (n + 1) xs)) ≤ length (x ∷ xs)
    go h true = omega arith
    go h false = omega arith

pub trim_fewer : (log t : Log) → IsTrimOf log t → length t.lines ≤ length log.lines
trim_fewer log t h =
    let e = ap length h.lines ∙ length-map (picked h.is_kept 0 log.lines) (moved_line (rank h.is_kept)) in
    let le = picked_fewer h.is_kept 0 log.lines in
    omega arith

-- ---- a log of one line
pub some_lines : (I : Instance) (log : Log) → IsAccepted I log → 1 ≤ length log.lines
some_lines I log a = let w = a.whole in let lt = get_in log.lines log.final w.0 w.1 in omega arith

pub one_line : (I : Instance) (log : Log) → IsAccepted I log → length log.lines ≤ 1 → IsTrimmed log
one_line I log a le = record {
  last = (let w = a.whole in let lt = get_in log.lines log.final w.0 w.1 in omega arith);
  cited = λ k lt. absurd (omega arith);
}

pub bound_line : (I : Instance) (C : ℕ) (log : Log) → IsBoundLog I C log → length log.lines ≡ 1
unfolding stack_log
bound_line I C log b = ap (λ (l : Log). length l.lines) b.one_line

-- ---- what a log below an end refutes
pub refutes_within : (I : Instance) (low steps : ℕ) (log : Log) → IsInstance I → IsAccepted I log →
    low ≡ log.capacity + 1 → IsTrimmed log → IsLogWithin I steps low (Some log) →
    RefutesWithin I (low - 1) steps log
refutes_within I low steps log s a e t few =
    let q : log.capacity ≡ low - 1 = omega arith in
    record {
      accepted = a;
      its_capacity = q;
      infeasible = subst (IsInfeasible I) q (accepted_is_infeasible I log s a);
      trimmed = t;
      few = few;
    }

-- ---- a bracket with a brief log
few_for_brief : (I : Instance) (steps low : ℕ) (log brief : Log) → length brief.lines ≤ length log.lines →
    (IsBoundLog I (low - 1) log → IsBoundLog I (low - 1) brief) → IsLogWithin I steps low (Some log) →
    IsLogWithin I steps low (Some brief)
few_for_brief I steps low log brief fewer bound (inl b) = inl (bound b)
few_for_brief I steps low log brief fewer bound (inr le) = inr (omega arith)

pub brief_between : (I : Instance) (steps : ℕ) (b : Bracket) (log brief : Log) (now : Option Log) → IsInstance I →
    IsReached I steps b → b.log ≡ Some log → now ≡ Some brief → IsAccepted I brief → brief.capacity ≡ log.capacity →
    IsTrimmed brief → length brief.lines ≤ length log.lines →
    (IsBoundLog I (b.low - 1) log → IsBoundLog I (b.low - 1) brief) → IsBetween I steps (record b { log = now })
brief_between I steps b log brief now s h is now-is a same t fewer bound =
    let refutes = subst (Refutes I b.low) is h.bracket.log in
    let few = few_for_brief I steps b.low log brief fewer bound (subst (IsLogWithin I steps b.low) is h.log) in
    let low = refutes.1 in
    record {
      layout = h.bracket.layout;
      its_height = h.bracket.height;
      refuted_below = subst (RefutesOneLess I b.low steps) (sym now-is)
          (h.positive, refutes_within I b.low steps brief s a (omega arith) t few);
    }

pub some_log : (I : Instance) (steps : ℕ) (b : Bracket) → IsReached I steps b → b.log ≡ None → ⊥
some_log I steps b h none =
    let zero = subst (Refutes I b.low) none h.bracket.log in let some = h.positive in omega (arith, zero, some)
