-- What a search comes to within a number of steps.
use Rattle.std.specs.Prelude.{ℕ, length, Option}
use Rattle.dsa_terms.specs.Buffers.{Instance}
use Rattle.dsa_terms.specs.Parts.{searched, whole_work}
use Rattle.refute_log.specs.declared.decided.Decided.{Decided}
use Rattle.refute_log.specs.declared.decided.Decided.TheVariants.{Layout, Refuted, Spent}
use Rattle.planner.specs.Decides.{IsAnswered, LeavesNoLayout}
use Rattle.planner.specs.Openings.{AreTooFew}

-- the search's layout; a log by which there is none; or there were fewer steps than the work
abbrev pub EndsSearch : Instance → ℕ → Option ℕ → Decided → Type 0
EndsSearch I C steps (Layout offsets) = IsAnswered (searched I C) I C offsets.items
EndsSearch I C steps (Refuted log) = LeavesNoLayout I C log
EndsSearch I C steps Spent = AreTooFew steps (whole_work I C)

-- how many steps the search took for the answer at least: one for a layout, and one for each line of a log
abbrev pub search_steps : Decided → ℕ
search_steps (Layout offsets) = 1
search_steps (Refuted log) = length log.lines
search_steps Spent = 0
