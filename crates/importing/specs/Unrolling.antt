-- How the command goes that unrolls buffers whose moments repeat.
use Rattle.std.specs.Prelude.{◌≡◌, ℕ, List, [], ◌∷◌, length, Result, Ok, Err}
use Rattle.dsa_terms.specs.Buffers.{Instance}
use Rattle.csv_instance.specs.Records.{Record, table_of}
use Rattle.cyclic_plan.specs.Unrolled.{IsUnrolled, unrolled_of, unrolled_text}
use Rattle.cyclic_plan.specs.declared.fault.CycleFault.{CycleFault}
use Rattle.command_words.specs.Options.{Word}
use Rattle.command_words.specs.declared.role.Role.TheVariants as role
use Rattle.run_status.specs.declared.status.Status.TheVariants.{CycleRefused, Unrolled}
use Rattle.run_course.specs.Course.{Concludes, Course, Outcome, Reads, says, writes}

-- the text of the table's instance of one period is written, which has just the layouts that hold at every moment of
-- endless time, and how many buffers it has is told; or the first fault is
abbrev pub Unrolls : (period : ℕ) (output : Word) → List Record → Result Instance CycleFault → Outcome → Type 0
Unrolls period output table (Ok I) o = IsUnrolled period table I
    × (o ≡ writes (record { role = role.Output; name = output; bytes = unrolled_text period table } ∷ [])
    (Unrolled (length I)))
Unrolls period output table (Err fault) o = o ≡ says (CycleRefused fault)

-- how `unroll` goes: it reads the input; the period is in moments
abbrev pub unroll_course : (period : ℕ) (input output : Word) → Course
unroll_course period input output = Reads role.Input input
    (λ bytes. Concludes (Unrolls period output (table_of bytes) (unrolled_of period (table_of bytes))))
