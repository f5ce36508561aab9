-- The texts of the faults of buffers of one period, as they are printed.
use Rattle.std.specs.Prelude.{ℕ, List, codes}
use Rattle.dsa_model.specs.FaultTexts.{buffer_text}
use Rattle.csv_instance.specs.FaultTexts.{instance_text, row_fault_text}
use Rattle.cyclic_plan.specs.declared.fault.CycleFault.{CycleFault}
use Rattle.cyclic_plan.specs.declared.fault.CycleFault.TheVariants as fault

-- what is wrong with buffers of one period
abbrev pub cycle_text : CycleFault → List ℕ
cycle_text (fault.Instance told) = instance_text told
cycle_text (fault.Outside row) = row_fault_text row (codes "outside")
cycle_text (fault.BadBuffer row told) = row_fault_text row (buffer_text told)
