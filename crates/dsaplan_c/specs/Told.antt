-- The statuses, which are the program's exit codes, and the details beside them.
use Rattle.std.specs.Prelude.{ℕ}
use Rattle.dsa_model.specs.declared.buffer_fault.BufferFault.{BufferFault}
use Rattle.dsa_model.specs.declared.buffer_fault.BufferFault.TheVariants as fault
use Rattle.dsa_plan.specs.declared.answers.Answer.{Answer}
use Rattle.dsa_plan.specs.declared.answers.Answer.TheVariants as answer
use Rattle.dsa_plan.specs.declared.answers.LeastAnswer.{LeastAnswer}
use Rattle.dsa_plan.specs.declared.answers.LeastAnswer.TheVariants as least
use Rattle.dsa_plan.specs.declared.fault.NumbersFault.{NumbersFault}
use Rattle.dsa_plan.specs.declared.fault.NumbersFault.TheVariants.{Buffer, TimeTooLarge}
use Rattle.dsaplan_c.specs.declared.detail.Detail.{Detail}

-- the number of a fault of a buffer
abbrev pub fault_number : BufferFault → ℕ
fault_number fault.EmptyLifetime = 3
fault_number fault.ZeroSize = 4
fault_number fault.TooLarge = 5
fault_number fault.ZeroAlignment = 6
fault_number fault.AlignmentTooLarge = 7
fault_number (fault.GapEmpty gap) = 8
fault_number (fault.GapOutside gap) = 9
fault_number fault.TooManyGaps = 10
fault_number fault.NeverLive = 11
fault_number fault.LowestTooLarge = 12

-- the gap that has the fault, and 0 where no gap has
abbrev pub gap_number : BufferFault → ℕ
gap_number (fault.GapEmpty gap) = gap
gap_number (fault.GapOutside gap) = gap
gap_number _ = 0

-- a fault alone
abbrev pub faulty : (buffer number gap : ℕ) → Detail
faulty buffer number gap = record { low = 0; high = 0; buffer = buffer; fault = number; gap = gap }

-- the two ends of the least capacity
abbrev pub ends : (low high : ℕ) → Detail
ends low high = record { low = low; high = high; buffer = 0; fault = 0; gap = 0 }

-- what is told of a bad buffer
abbrev pub bad_buffer : ℕ → NumbersFault → Detail
bad_buffer b TimeTooLarge = faulty b 2 0
bad_buffer b (Buffer f) = faulty b (fault_number f) (gap_number f)

-- the status of an answer on a capacity
abbrev pub plan_status : Answer → ℕ
plan_status answer.Fits = 0
plan_status answer.DoesNotFit = 1
plan_status answer.Open = 2
plan_status answer.LengthsDiffer = 3
plan_status answer.TooMany = 4
plan_status (answer.BadBuffer b f) = 4
plan_status answer.NoMemory = 6

-- what is told beside it
abbrev pub plan_detail : Answer → Detail
plan_detail answer.TooMany = faulty 0 1 0
plan_detail (answer.BadBuffer b f) = bad_buffer b f
plan_detail _ = ends 0 0

-- the status of an answer on the least capacity
abbrev pub least_status : LeastAnswer → ℕ
least_status (least.Least C) = 0
least_status (least.Open low high) = 2
least_status least.LengthsDiffer = 3
least_status least.TooMany = 4
least_status (least.BadBuffer b f) = 4
least_status least.NoMemory = 6

-- what is told beside it
abbrev pub least_detail : LeastAnswer → Detail
least_detail (least.Least C) = ends C C
least_detail (least.Open low high) = ends low high
least_detail least.TooMany = faulty 0 1 0
least_detail (least.BadBuffer b f) = bad_buffer b f
least_detail _ = ends 0 0
