-- What answers tell beside what they say of an instance: a fault of the arrays, and the height of a layout.
use Rattle.std.specs.Prelude.{ℕ, List, Option, None, Some, Result, Ok, Err}
use Rattle.dsa_model.specs.declared.fail.Fail.{Fail}
use Rattle.dsa_model.specs.declared.fail.Fail.TheVariants as fail
use Rattle.dsa_model.specs.declared.fail.NoMemory.{NoMemory}
use Rattle.min_capacity.specs.Brackets.{bracket_of}
use Rattle.min_capacity.specs.declared.brackets.Least.{Least}
use Rattle.min_capacity.specs.declared.brackets.Least.TheVariants as found
use Rattle.dsa_plan.specs.declared.answers.Answer.{Answer}
use Rattle.dsa_plan.specs.declared.answers.Answer.TheVariants as answer
use Rattle.dsa_plan.specs.declared.answers.LeastAnswer.{LeastAnswer}
use Rattle.dsa_plan.specs.declared.answers.LeastAnswer.TheVariants as least
use Rattle.dsa_plan.specs.declared.fault.ArraysFault.{ArraysFault}
use Rattle.dsa_plan.specs.declared.fault.ArraysFault.TheVariants.{LengthsDiffer, TooMany, BadBuffer}

-- the fault of the arrays that an answer on a capacity tells of
abbrev pub plan_fault : Answer → Option ArraysFault
plan_fault answer.LengthsDiffer = Some LengthsDiffer
plan_fault answer.TooMany = Some TooMany
plan_fault (answer.BadBuffer b f) = Some (BadBuffer b f)
plan_fault _ = None

-- the fault of the arrays that an answer on the least capacity tells of
abbrev pub least_fault : LeastAnswer → Option ArraysFault
least_fault least.LengthsDiffer = Some LengthsDiffer
least_fault least.TooMany = Some TooMany
least_fault (least.BadBuffer b f) = Some (BadBuffer b f)
least_fault _ = None

-- the height of the layout that is in the offsets, with the answers that come with one
abbrev pub least_height : LeastAnswer → Option ℕ
least_height (least.Least C) = Some C
least_height (least.Open low high) = Some high
least_height _ = None

-- the answer on a capacity where no instance is made of the arrays: their fault, or want of memory
abbrev pub plan_failed : Fail ArraysFault → Answer
plan_failed (fail.Fault LengthsDiffer) = answer.LengthsDiffer
plan_failed (fail.Fault TooMany) = answer.TooMany
plan_failed (fail.Fault (BadBuffer b f)) = answer.BadBuffer b f
plan_failed fail.NoMemory = answer.NoMemory

-- the answer on the least capacity there
abbrev pub least_failed : Fail ArraysFault → LeastAnswer
least_failed (fail.Fault LengthsDiffer) = least.LengthsDiffer
least_failed (fail.Fault TooMany) = least.TooMany
least_failed (fail.Fault (BadBuffer b f)) = least.BadBuffer b f
least_failed fail.NoMemory = least.NoMemory

-- the answer on the least capacity, of what is found
abbrev pub least_found : Result Least NoMemory → LeastAnswer
least_found (Ok (found.Exact b)) = least.Least b.high
least_found (Ok (found.Open b)) = least.Open b.low b.high
least_found (Err e) = least.NoMemory

-- the offsets then: the layout that is found, and without one as before
abbrev pub offsets_found : Result Least NoMemory → List ℕ → List ℕ
offsets_found (Ok f) before = (bracket_of f).layout.items
offsets_found (Err e) before = before
