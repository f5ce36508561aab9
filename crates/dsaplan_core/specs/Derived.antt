-- What is promised of the files that are derived: 'classes' writes a plan by size class, 'core' an irreducible set of
-- buffers that do not fit, 'imported' the instance of the trace, and 'unrolled' that of one period.
use Rattle.std.specs.Prelude.{◌≡◌, ℕ, List, [], ◌∷◌, length, Some, Ok, Err}
use Rattle.std.specs.List.{count_by}
use Rattle.dsa_terms.specs.Buffers.{Instance}
use Rattle.dsa_terms.specs.Layouts.{IsFeasible}
use Rattle.dsa_terms.specs.Logs.{Log}
use Rattle.dsa_outside.specs.Held.{with_file}
use Rattle.dsa_outside.specs.Seen.{FilesSeen}
use Rattle.csv_instance.specs.Records.{table_of}
use Rattle.csv_instance.specs.Layout.{layout_text}
use Rattle.csv_instance.specs.Parse.{parse}
use Rattle.size_classes.specs.Plain.{first_rough}
use Rattle.size_classes.specs.Plans.{class_height, class_plan}
use Rattle.cyclic_plan.specs.Unrolled.{IsUnrolled, unrolled_of, unrolled_text}
use Rattle.trace_import.specs.Faults.{trace_of}
use Rattle.trace_import.specs.ImportText.{import_text}
use Rattle.trace_import.specs.Traces.{IsTraced, Trace, imported, is_alloc}
use Rattle.command_words.specs.Options.{Word}
use Rattle.command_words.specs.Pairs.{Pair, name_in, number_at}
use Rattle.command_words.specs.Requests.{request_of}
use Rattle.command_words.specs.declared.option.OptionName.TheVariants as option
use Rattle.command_words.specs.declared.verb.Verb.{Verb}
use Rattle.command_words.specs.declared.verb.Verb.TheVariants as verb
use Rattle.command_words.specs.declared.role.Role.{Role}
use Rattle.command_words.specs.declared.role.Role.TheVariants as role
use Rattle.run_course.specs.Answers.{with_writes}
use Rattle.run_course.specs.Readings.{IsWholeFile}
use Rattle.run_status.specs.declared.status.Status.{Status}
use Rattle.run_status.specs.declared.status.Status.TheVariants as status
use Rattle.explaining.specs.Explaining.{IsExplained, rows_file}
use Rattle.planning.specs.Planning.{IsPlanned}
use Rattle.writings.specs.Writings.{log_file}
use Rattle.dsaplan_core.specs.Theorem.{Asked}

-- the words ask for this command, and these are all bytes of its file of this role
pub record AskedOf (words : List Word) (old : FilesSeen) (command : Verb) (file : Role) : Type 0 where
  pub pairs : List Pair
  pub bytes : List ℕ
  pub words_ask : request_of words ≡ Ok (record { verb = command; pairs = pairs })
  pub whole : IsWholeFile old file (name_in pairs file) bytes

-- the bytes are this trace, and the output holds the text of its instance, which has a buffer for each line that
-- allocates, and at each moment just the buffers that the trace holds after that line
pub record HoldsImport {words : List Word} {old : FilesSeen} (a : AskedOf words old verb.Import role.Trace)
    (new : FilesSeen) (count : ℕ) : Type 0 where
  pub trace : Trace
  pub read : trace_of a.bytes ≡ Ok trace
  pub its_count : length (imported trace) ≡ count
  pub each : length (imported trace) ≡ count_by is_alloc trace
  pub parsed : parse (table_of (import_text trace)) ≡ Ok (imported trace)
  pub traced : IsTraced trace (imported trace)
  pub files : new.held ≡ with_file old.held (name_in a.pairs role.Output) (import_text trace)

-- the bytes are buffers whose moments repeat with the period; the output holds the text of their instance of one
-- period, which has just the layouts that hold at every moment of endless time
pub record HoldsUnrolled {words : List Word} {old : FilesSeen} (a : AskedOf words old verb.Unroll role.Input)
    (new : FilesSeen) (count : ℕ) : Type 0 where
  pub instance : Instance
  pub given : unrolled_of (number_at a.pairs option.Period) (table_of a.bytes) ≡ Ok instance
  pub its_count : length instance ≡ count
  pub unrolled : IsUnrolled (number_at a.pairs option.Period) (table_of a.bytes) instance
  pub files : new.held ≡ with_file old.held (name_in a.pairs role.Output)
      (unrolled_text (number_at a.pairs option.Period) (table_of a.bytes))

-- what the status promises of a file that is derived from an instance or a trace
abbrev pub Derived : List Word → FilesSeen → FilesSeen → Status → Type 0
Derived words old new (status.Imported count) = (a : AskedOf words old verb.Import role.Trace)
    × HoldsImport a new count
Derived words old new (status.TraceRefused fault) = (a : AskedOf words old verb.Import role.Trace)
    × (trace_of a.bytes ≡ Err fault) × (new.held ≡ old.held)
Derived words old new (status.Unrolled count) = (a : AskedOf words old verb.Unroll role.Input)
    × HoldsUnrolled a new count
Derived words old new (status.CycleRefused fault) = (a : AskedOf words old verb.Unroll role.Input)
    × (unrolled_of (number_at a.pairs option.Period) (table_of a.bytes) ≡ Err fault) × (new.held ≡ old.held)
Derived words old new (status.Classed height load) = (a : Asked words old) × (a.verb ≡ verb.Classes)
    × IsPlanned a.instance load × (class_height a.instance ≡ height)
    × (new.held ≡ with_file old.held (name_in a.pairs role.Output) (layout_text a.table (class_plan a.instance)))
Derived words old new (status.NotPlain b) = (a : Asked words old) × (a.verb ≡ verb.Classes)
    × (first_rough a.instance ≡ Some b) × (new.held ≡ old.held)
Derived words old new (status.Core count) = (a : Asked words old) × (a.verb ≡ verb.Core)
    × ((members : List ℕ) × (refutation : Log) × (length members ≡ count)
    × IsExplained (number_at a.pairs option.Capacity) a.table a.instance members refutation
    × (new.held ≡ with_writes old.held (rows_file (name_in a.pairs role.Output) a.table members
    ∷ log_file (name_in a.pairs role.Log) refutation ∷ [])))
Derived words old new (status.NoCore C) = (a : Asked words old) × (a.verb ≡ verb.Core)
    × (number_at a.pairs option.Capacity ≡ C) × IsFeasible a.instance C × (new.held ≡ old.held)
Derived words old new status = Unit {0}
