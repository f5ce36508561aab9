-- What is promised of a layout and of a log that are written.
use Rattle.std.proofs.Common.{◌≡◌, ◌≢◌, ◌-◌, ◌≤◌, ◌<◌, ℕ, List, Some, IsSome}
use Rattle.dsa_terms.specs.Layouts.{IsLayout}
use Rattle.dsa_terms.specs.Logs.{Log}
use Rattle.dsa_outside.specs.Held.{file_at, with_file}
use Rattle.dsa_outside.specs.Seen.{FilesSeen}
use Rattle.csv_instance.specs.Layout.{layout_text}
use Rattle.log_text.specs.Text.{log_text}
use Rattle.planner.specs.Decides.{LeavesNoLayout}
use Rattle.planner.specs.Openings.{StaysOpen}
use Rattle.packer.specs.Packs.{RefutesWithin}
use Rattle.command_words.specs.Options.{Word}
use Rattle.command_words.specs.Pairs.{name_in}
use Rattle.command_words.specs.declared.role.Role.TheVariants as role
use Rattle.writings.specs.Writings.{ReadsBack}
use Rattle.dsaplan_core.specs.Theorem.{Asked, HoldsLayout, HoldsRefutation}
use Rattle.dsaplan_core.proofs.Held.{first_held, last_held, second_held}

module _ {words : List Word} {old : FilesSeen} (a : Asked words old) (new : FilesSeen) where
  abbrev output : Word
  output = name_in a.pairs role.Output

  abbrev log_name : Word
  log_name = name_in a.pairs role.Log

  -- the file of this name holds these bytes, where that is told
  abbrev Has : Word → List ℕ → Type 0
  Has name bytes = IsSome old.held → file_at new.held name ≡ Some bytes

  -- the layout alone is written
  pub lays_out : (C : ℕ) (offsets : List ℕ) → IsLayout a.instance C offsets →
      new.held ≡ with_file old.held output (layout_text a.table offsets) → HoldsLayout a new C
  lays_out C offsets layout files = record {
    offsets = offsets;
    layout = layout;
    held = last_held old.held new.held output (layout_text a.table offsets) files;
  }

  -- a log without waste is written
  pub refutes : (C : ℕ) (log : Log) → LeavesNoLayout a.instance C log → ReadsBack log → Has log_name (log_text log) →
      HoldsRefutation a new C
  refutes C log refuted readable held = record {
    refutation = log;
    accepted = refuted.accepted;
    its_capacity = refuted.its_capacity;
    infeasible = refuted.infeasible;
    readable = readable;
    held = held;
  }

  -- a log without needless lines is written
  pub refutes_within : (C steps : ℕ) (log : Log) → RefutesWithin a.instance C steps log → ReadsBack log →
      Has log_name (log_text log) → HoldsRefutation a new C
  refutes_within C steps log refuted readable held = record {
    refutation = log;
    accepted = refuted.accepted;
    its_capacity = refuted.its_capacity;
    infeasible = refuted.infeasible;
    readable = readable;
    held = held;
  }

  -- a log alone is written
  pub alone : (log : Log) → new.held ≡ with_file old.held log_name (log_text log) → Has log_name (log_text log)
  alone log files = last_held old.held new.held log_name (log_text log) files

  -- a layout and then a log are written, under two names
  module _ (offsets : List ℕ) (log : Log) (apart : output ≢ log_name)
      (files : new.held ≡ with_file (with_file old.held output (layout_text a.table offsets)) log_name (log_text log))
    where
      pub first : (C : ℕ) → IsLayout a.instance C offsets → HoldsLayout a new C
      first C layout = record {
        offsets = offsets;
        layout = layout;
        held = first_held old.held new.held output log_name (layout_text a.table offsets) (log_text log) apart files;
      }

      pub second : Has log_name (log_text log)
      second = second_held old.held new.held output log_name (layout_text a.table offsets) (log_text log) files

      -- the least capacity stays open between these ends
      pub stays_open : (low high : ℕ) → StaysOpen a.instance low high offsets log → ReadsBack log →
          (1 ≤ low) × (low < high) × HoldsLayout a new high × HoldsRefutation a new (low - 1)
      stays_open low high opened readable = (
        opened.positive,
        opened.ends_apart,
        first high opened.layout,
        refutes (low - 1) log opened.refuted_below readable second,
      )
