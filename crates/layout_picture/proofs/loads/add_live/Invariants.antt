use Rattle.std.proofs.Common.{◌≡◌, ◌+◌, ◌<◌, ◌≤◌, ℕ, get_or, cond, false}
use Rattle.layout_picture.proofs.loads.add_live.Given as goal

abbrev pub invariant-loop-k : goal.invariant-loop-k
invariant-loop-k l = record {
  done : (j : ℕ) → j < l.k → get_or l.loads j 0 ≡ get_or l.fn.loads j 0 + cond (get_or l.flags j false) l.size 0;
  later : (j : ℕ) → l.k ≤ j → get_or l.loads j 0 ≡ get_or l.fn.loads j 0;
}
