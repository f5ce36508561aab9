-- The printed line of each status, without the reports that are shown.
use Rattle.std.specs.Prelude.{ℕ, List, [], ◌++◌, codes, decimal}
use Rattle.command_words.specs.declared.role.Role.{Role}
use Rattle.command_words.specs.FaultTexts.{usage_text}
use Rattle.command_words.specs.Options.{option_word}
use Rattle.command_words.specs.Roles.{option_of_role}
use Rattle.run_status.specs.declared.status.Status.{Status}
use Rattle.run_status.specs.declared.status.Status.TheVariants as status
use Rattle.run_status.specs.declared.status.WrongCause.{WrongCause}
use Rattle.run_status.specs.declared.status.WrongCause.TheVariants as wrong
use Rattle.run_status.specs.declared.status.LogCause.{LogCause}
use Rattle.run_status.specs.declared.status.LogCause.TheVariants as refused
use Rattle.csv_instance.specs.FaultTexts.{instance_text, offsets_text}
use Rattle.cyclic_plan.specs.FaultTexts.{cycle_text}
use Rattle.dsa_model.specs.FaultTexts.{layout_fault_text}
use Rattle.log_text.specs.FaultTexts.{text_fault_text}
use Rattle.log_check.specs.FaultTexts.{check_text}
use Rattle.trace_import.specs.FaultTexts.{trace_fault_text}

-- the option that names a file of this role
abbrev pub role_text : Role → List ℕ
role_text role = option_word (option_of_role role)

-- why a layout is wrong
abbrev pub wrong_text : WrongCause → List ℕ
wrong_text (wrong.Offsets fault) = offsets_text fault
wrong_text (wrong.Layout fault) = layout_fault_text fault

-- why a log is refused
abbrev pub refused_text : LogCause → List ℕ
refused_text (refused.Text fault) = text_fault_text fault
refused_text (refused.Check fault) = check_text fault

-- the printed line of a status; a report that is shown has its own text, and two statuses print nothing
abbrev pub line : Status → List ℕ
line (status.Feasible capacity) = codes "feasible " ++ decimal capacity ++ codes "\n"
line (status.Infeasible capacity) = codes "infeasible " ++ decimal capacity ++ codes "\n"
line (status.Least capacity) = codes "least " ++ decimal capacity ++ codes "\n"
line (status.Open low high) = codes "open " ++ decimal low ++ codes " " ++ decimal high ++ codes "\n"
line status.Right = codes "right\n"
line (status.Wrong cause) = codes "wrong " ++ wrong_text cause ++ codes "\n"
line (status.Accepted capacity) = codes "accepted " ++ decimal capacity ++ codes "\n"
line (status.LogRefused cause) = codes "refused " ++ refused_text cause ++ codes "\n"
line (status.Trimmed before after) =
    codes "trimmed " ++ decimal before ++ codes " " ++ decimal after ++ codes "\n"
line (status.Upgraded lines) = codes "upgraded " ++ decimal lines ++ codes "\n"
line (status.Drawn rectangles) = codes "drawn " ++ decimal rectangles ++ codes "\n"
line (status.Imported buffers) = codes "imported " ++ decimal buffers ++ codes "\n"
line (status.TraceRefused fault) = codes "trace " ++ trace_fault_text fault ++ codes "\n"
line (status.Unrolled buffers) = codes "unrolled " ++ decimal buffers ++ codes "\n"
line (status.CycleRefused fault) = codes "cycle " ++ cycle_text fault ++ codes "\n"
line (status.Classed height load) =
    codes "classes " ++ decimal height ++ codes " " ++ decimal load ++ codes "\n"
line (status.NotPlain buffer) = codes "not plain " ++ decimal buffer ++ codes "\n"
line (status.Core members) = codes "core " ++ decimal members ++ codes "\n"
line (status.NoCore capacity) = codes "no core " ++ decimal capacity ++ codes "\n"
line status.Shown = []
line (status.Usage fault) = codes "usage " ++ usage_text fault ++ codes "\n"
line (status.Malformed fault) = codes "malformed " ++ instance_text fault ++ codes "\n"
line (status.ReadFault role) = codes "unread " ++ role_text role ++ codes "\n"
line (status.TooLong role) = codes "too long " ++ role_text role ++ codes "\n"
line (status.WriteFault role) = codes "unwritten " ++ role_text role ++ codes "\n"
line status.PrintFault = []
line (status.TooMany count) = codes "too many " ++ decimal count ++ codes "\n"
line status.NoMemory = []
