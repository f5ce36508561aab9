-- Lines of statuses, and their exit codes.
use Rattle.std.proofs.Common.{◌≡◌, [], codes, refl}
use Rattle.std.specs.Fmt.{digits}
use Rattle.command_words.specs.declared.fault.UsageFault.TheVariants as usage
use Rattle.command_words.specs.declared.role.Role.TheVariants as role
use Rattle.csv_instance.specs.declared.fault.InstanceFault.TheVariants as instance
use Rattle.csv_instance.specs.declared.fault.OffsetsFault.TheVariants as offsets
use Rattle.cyclic_plan.specs.declared.fault.CycleFault.TheVariants as cycle
use Rattle.dsa_model.specs.declared.buffer_fault.BufferFault.TheVariants as buffer
use Rattle.dsa_model.specs.declared.layout.LayoutFault.TheVariants as layout
use Rattle.log_check.specs.declared.fault.CheckFault.TheVariants as check
use Rattle.log_text.specs.declared.fault.TextFault.TheVariants as text
use Rattle.run_status.specs.Codes.{code_of}
use Rattle.run_status.specs.Lines.{line, refused_text, role_text, wrong_text}
use Rattle.run_status.specs.Spoken.{IsSpoken}
use Rattle.run_status.specs.declared.status.LogCause.TheVariants as refused
use Rattle.run_status.specs.declared.status.Status.TheVariants as status
use Rattle.run_status.specs.declared.status.WrongCause.TheVariants as wrong

-- ---- a yes
feasible : line (status.Feasible 12) ≡ codes "feasible 12\n"
unfolding digits
feasible = refl

least : line (status.Least 12) ≡ codes "least 12\n"
unfolding digits
least = refl

right : line status.Right ≡ codes "right\n"
right = refl

accepted : line (status.Accepted 4) ≡ codes "accepted 4\n"
unfolding digits
accepted = refl

trimmed : line (status.Trimmed 6 5) ≡ codes "trimmed 6 5\n"
unfolding digits
trimmed = refl

upgraded : line (status.Upgraded 5) ≡ codes "upgraded 5\n"
unfolding digits
upgraded = refl

drawn : line (status.Drawn 7) ≡ codes "drawn 7\n"
unfolding digits
drawn = refl

unrolled : line (status.Unrolled 2) ≡ codes "unrolled 2\n"
unfolding digits
unrolled = refl

accepted_code : code_of (status.Accepted 4) ≡ 0
accepted_code = refl

-- ---- a no
infeasible : line (status.Infeasible 11) ≡ codes "infeasible 11\n"
unfolding digits
infeasible = refl

wrong_layout : line (status.Wrong (wrong.Layout (layout.Overlap 0 1 4))) ≡ codes "wrong overlap 0 1 4\n"
unfolding digits
wrong_layout = refl

wrong_offsets : wrong_text (wrong.Offsets (offsets.MissingId 5)) ≡ codes "missing id 5"
unfolding digits
wrong_offsets = refl

refused_text_of_log : line (status.LogRefused (refused.Text text.NoEnd)) ≡ codes "refused no end\n"
refused_text_of_log = refl

refused_log : refused_text (refused.Check (check.EndRange 6)) ≡ codes "end 6"
unfolding digits
refused_log = refl

infeasible_code : code_of (status.Infeasible 11) ≡ 1
infeasible_code = refl

wrong_code : code_of (status.Wrong (wrong.Layout (layout.Above 3))) ≡ 1
wrong_code = refl

-- ---- neither
stays_open : line (status.Open 4 5) ≡ codes "open 4 5\n"
unfolding digits
stays_open = refl

open_code : code_of (status.Open 4 5) ≡ 2
open_code = refl

-- ---- faults
misused : line (status.Usage usage.NoCommand) ≡ codes "usage no command\n"
misused = refl

malformed : line (status.Malformed instance.NoHeader) ≡ codes "malformed no header\n"
malformed = refl

unread : line (status.ReadFault role.Input) ≡ codes "unread --input\n"
unread = refl

too_long : line (status.TooLong role.Layout) ≡ codes "too long --layout\n"
too_long = refl

unwritten : line (status.WriteFault role.Output) ≡ codes "unwritten --output\n"
unwritten = refl

log_role : role_text role.Log ≡ codes "--log"
log_role = refl

too_many : line (status.TooMany 4097) ≡ codes "too many 4097\n"
unfolding digits
too_many = refl

code_of_misuse : code_of (status.Usage usage.NoCommand) ≡ 3
code_of_misuse = refl

malformed_code : code_of (status.Malformed instance.NoHeader) ≡ 4
malformed_code = refl

unwritten_code : code_of (status.WriteFault role.Output) ≡ 5
unwritten_code = refl

too_long_code : code_of (status.TooLong role.Layout) ≡ 7
too_long_code = refl

-- ---- nothing of its own is printed
unprinted : line status.PrintFault ≡ []
unprinted = refl

unprinted_code : code_of status.PrintFault ≡ 5
unprinted_code = refl

no_memory_code : code_of status.NoMemory ≡ 6
no_memory_code = refl

shown_is_spoken : IsSpoken status.Shown
shown_is_spoken = tt

unprinted_is_not : IsSpoken status.PrintFault → ⊥
unprinted_is_not spoken = spoken

-- ---- circles
row_outside : line (status.CycleRefused (cycle.Outside 0)) ≡ codes "cycle row 0 outside\n"
unfolding digits
row_outside = refl

never_live : line (status.CycleRefused (cycle.BadBuffer 0 buffer.EmptyLifetime)) ≡ codes "cycle row 0 empty lifetime\n"
unfolding digits
never_live = refl

no_rows_to_unroll : line (status.CycleRefused (cycle.Instance instance.NoHeader)) ≡ codes "cycle no header\n"
no_rows_to_unroll = refl

cycle_code : code_of (status.CycleRefused (cycle.Outside 0)) ≡ 4
cycle_code = refl
