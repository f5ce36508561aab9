-- What holds where the least capacity stays open.
use Rattle.std.specs.Prelude.{◌≡◌, ℕ}
use Rattle.run_status.specs.declared.status.Status.TheVariants.{Open}
use Rattle.run_course.specs.Course.{Outcome}

-- the fact holds where the outcome leaves the capacity open
abbrev pub IfLeavesOpen : Outcome → Type 0 → Type 0
IfLeavesOpen o P = (low high : ℕ) → o.status ≡ Open low high → P
