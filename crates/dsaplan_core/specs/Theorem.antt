-- The promise of a run in few words. The layout that is written with 'feasible', 'least C' or 'open L H' is aligned,
-- within its capacity and free of overlap at every moment; with 'infeasible C', 'least C' or 'open L H' the written
-- log, at C, at C - 1 unless C is zero, or at L - 1, is accepted, and an accepted log means that no layout fits.
use Rattle.std.specs.Prelude.{◌≡◌, ◌-◌, ◌≤◌, ◌<◌, ℕ, List, IsSome, None, Some, Ok}
use Rattle.dsa_terms.specs.Buffers.{Instance}
use Rattle.dsa_terms.specs.Layouts.{IsLayout, IsInfeasible, IsLeast}
use Rattle.dsa_terms.specs.Logs.{Log, IsAccepted}
use Rattle.dsa_outside.specs.Held.{file_at}
use Rattle.dsa_outside.specs.Seen.{FilesSeen}
use Rattle.csv_instance.specs.Records.{Record}
use Rattle.csv_instance.specs.Layout.{layout_text}
use Rattle.log_text.specs.RawTexts.{IsTextOf}
use Rattle.log_text.specs.Text.{log_text, raw_log_of}
use Rattle.command_words.specs.Options.{Word}
use Rattle.command_words.specs.Pairs.{Pair, name_in, number_at, number_given}
use Rattle.command_words.specs.Requests.{request_of}
use Rattle.command_words.specs.declared.option.OptionName.TheVariants as option
use Rattle.command_words.specs.declared.verb.Verb.{Verb}
use Rattle.command_words.specs.declared.verb.Verb.TheVariants as verb
use Rattle.command_words.specs.declared.role.Role.TheVariants as role
use Rattle.readings.specs.Opens.{IsInput}
use Rattle.run_status.specs.declared.status.Status.{Status}
use Rattle.run_status.specs.declared.status.Status.TheVariants as status

-- what the words ask for: the command with its values, and the instance that its input holds
pub record Asked (words : List Word) (old : FilesSeen) : Type 0 where
  pub verb : Verb
  pub pairs : List Pair
  pub table : List Record
  pub instance : Instance
  pub words_ask : request_of words ≡ Ok (record { verb = verb; pairs = pairs })
  pub input : IsInput old (name_in pairs role.Input) table instance

-- the command decides the capacity: `solve`, and `pack` where it is given
abbrev pub Decides : Verb → List Pair → ℕ → Type 0
Decides verb.Solve pairs C = number_at pairs option.Capacity ≡ C
Decides verb.Pack pairs C = number_given pairs option.Capacity ≡ Some C
Decides verb pairs C = ⊥

-- the command looks for the least capacity: `least`, and `pack` where no capacity is given
abbrev pub SeeksLeast : Verb → List Pair → Type 0
SeeksLeast verb.Least pairs = Unit {0}
SeeksLeast verb.Pack pairs = number_given pairs option.Capacity ≡ None
SeeksLeast verb pairs = ⊥

-- the output holds the text of offsets that are a layout at the capacity: each is aligned, at or above its buffer's
-- lowest and within the capacity, and no two buffers overlap at a moment at which both are live
pub record HoldsLayout {w : List Word} {old : FilesSeen} (a : Asked w old) (new : FilesSeen) (C : ℕ) : Type 0 where
  pub offsets : List ℕ
  pub layout : IsLayout a.instance C offsets
  pub held : IsSome old.held → file_at new.held (name_in a.pairs role.Output) ≡ Some (layout_text a.table offsets)

-- the log's file holds the text of a log that is accepted at the capacity, and no layout fits within it
pub record HoldsRefutation {w : List Word} {old : FilesSeen} (a : Asked w old) (new : FilesSeen) (C : ℕ) : Type 0 where
  pub refutation : Log
  pub accepted : IsAccepted a.instance refutation
  pub its_capacity : refutation.capacity ≡ C
  pub infeasible : IsInfeasible a.instance C
  pub readable : IsTextOf (log_text refutation) (raw_log_of refutation)
  pub held : IsSome old.held → file_at new.held (name_in a.pairs role.Log) ≡ Some (log_text refutation)

-- what the status of a command that decides promises of the files
abbrev pub Headline : List Word → FilesSeen → FilesSeen → Status → Type 0
Headline w old new (status.Feasible C) = (a : Asked w old) × Decides a.verb a.pairs C × HoldsLayout a new C
Headline w old new (status.Infeasible C) = (a : Asked w old) × Decides a.verb a.pairs C × HoldsRefutation a new C
Headline w old new (status.Least C) = (a : Asked w old) × SeeksLeast a.verb a.pairs
    × IsLeast a.instance C × HoldsLayout a new C × (1 ≤ C → HoldsRefutation a new (C - 1))
Headline w old new (status.Open L H) = (a : Asked w old) × (1 ≤ L) × (L < H)
    × HoldsLayout a new H × HoldsRefutation a new (L - 1)
Headline w old new status = Unit {0}
