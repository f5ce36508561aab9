-- The forms of commands: one row a command.
use Rattle.std.specs.Prelude.{List, [], ◌∷◌, ◌++◌, ◌==◌, Bool, codes, find, is_none, length, map, Option, Some, None}
use Rattle.std.specs.List.{filter_map}
use Rattle.std.specs.Str.{bytes_eq}
use Rattle.dsa_terms.specs.Claims.{IsIn}
use Rattle.dsa_model.specs.Numbers.{written_number}
use Rattle.dsa_model.specs.Limits.{number_limit}
use Rattle.command_words.specs.Options.{Word, option_word}
use Rattle.command_words.specs.Roles.{option_of_role}
use Rattle.command_words.specs.declared.option.OptionName.{OptionName}
use Rattle.command_words.specs.declared.option.OptionName.TheVariants.{Capacity, Steps, Seed, Count, Period}
use Rattle.command_words.specs.declared.role.Role.{Role}
use Rattle.command_words.specs.declared.role.Role.TheVariants.{Input, Layout, Log, Trace, Output}
use Rattle.command_words.specs.declared.verb.Verb.{Verb}
use Rattle.command_words.specs.declared.verb.Verb.TheVariants.{Solve, Least, Pack, Verify, Refute, Trim, Upgrade, Bounds, Inspect, Report, Draw, Trial, Import, Unroll, Classes, Core}
use Rattle.command_words.specs.declared.form.Form as written
use Rattle.command_words.specs.declared.form.Use.{Use}
use Rattle.command_words.specs.declared.form.Use.TheVariants.{Number, Instance, Reads, Writes}

-- the words of a command: its own; what it does with each option that it needs, in the order in which they are missed:
-- it takes a number, reads its input as an instance, reads a file's bytes, or writes a file; and the options, each with
-- a number, that it can go without
pub record Form : Type 0 where
  pub word : Word
  pub needed : List Use
  pub optional : List OptionName

-- the commands that there are
abbrev pub verbs : List Verb
verbs = Solve ∷ Least ∷ Pack ∷ Verify ∷ Refute ∷ Trim ∷ Upgrade ∷ Bounds ∷ Inspect ∷ Report ∷ Draw ∷ Trial ∷ Import
    ∷ Unroll ∷ Classes ∷ Core ∷ []

-- a row of the table of forms
abbrev pub row : Word → List Use → List OptionName → Form
row word needed optional = record { word = word; needed = needed; optional = optional }

-- the form of each command
abbrev pub form_of : Verb → Form
form_of Solve = row (codes "solve") (Number Capacity ∷ Instance ∷ Writes Output ∷ Writes Log ∷ []) (Steps ∷ [])
form_of Least = row (codes "least") (Instance ∷ Writes Output ∷ Writes Log ∷ []) (Steps ∷ [])
form_of Pack = row (codes "pack") (Instance ∷ Writes Output ∷ Writes Log ∷ Number Steps ∷ []) (Capacity ∷ [])
form_of Verify = row (codes "verify") (Number Capacity ∷ Instance ∷ Reads Layout ∷ []) []
form_of Refute = row (codes "refute") (Instance ∷ Reads Log ∷ []) []
form_of Trim = row (codes "trim") (Instance ∷ Reads Log ∷ Writes Output ∷ []) []
form_of Upgrade = row (codes "upgrade") (Instance ∷ Reads Log ∷ Writes Output ∷ []) []
form_of Bounds = row (codes "bounds") (Instance ∷ []) []
form_of Inspect = row (codes "inspect") (Instance ∷ []) []
form_of Report = row (codes "report") (Instance ∷ Reads Layout ∷ []) []
form_of Draw = row (codes "draw") (Instance ∷ Reads Layout ∷ Writes Output ∷ []) []
form_of Trial = row (codes "trial") (Number Seed ∷ Number Count ∷ Number Steps ∷ []) []
form_of Import = row (codes "import") (Reads Trace ∷ Writes Output ∷ []) []
form_of Unroll = row (codes "unroll") (Number Period ∷ Reads Input ∷ Writes Output ∷ []) []
form_of Classes = row (codes "classes") (Instance ∷ Writes Output ∷ []) []
form_of Core = row (codes "core") (Number Capacity ∷ Instance ∷ Writes Output ∷ Writes Log ∷ []) []

-- what the code's form stands for
abbrev pub form_value : written.Form → Form
form_value f = record { word = f.word.now; needed = f.needed.now; optional = f.optional.now }

-- the option that the command does something with
abbrev pub option_of : Use → OptionName
option_of (Number option) = option
option_of Instance = option_of_role Input
option_of (Reads role) = option_of_role role
option_of (Writes role) = option_of_role role

-- the file that is read
abbrev pub read_of : Use → Option Role
read_of Instance = Some Input
read_of (Reads role) = Some role
read_of used = None

-- the file that is written
abbrev pub write_of : Use → Option Role
write_of (Writes role) = Some role
write_of used = None

-- the file that is read or written
abbrev pub file_of : Use → Option Role
file_of (Number option) = None
file_of Instance = Some Input
file_of (Reads role) = Some role
file_of (Writes role) = Some role

-- a value that can't be: an empty name of a file, or a word that writes no number where one is wanted
abbrev pub is_bad : Use → Word → Bool
is_bad (Number option) value = is_none (written_number number_limit value)
is_bad used value = length value == 0

-- the command that has this word
abbrev pub verb_of : Word → Option Verb
verb_of word = find (λ v. bytes_eq (form_of v).word word) verbs

-- what the command does with the option that has this word
abbrev pub use_of : Verb → Word → Option Use
use_of verb word = find (λ u. bytes_eq (option_word (option_of u)) word)
    ((form_of verb).needed ++ map Number (form_of verb).optional)

-- the command reads its input as an instance
abbrev pub ReadsInstance : Verb → Type 0
ReadsInstance v = IsIn Instance (form_of v).needed

-- the files that a command reads, in order
abbrev pub reads_of : Verb → List Role
reads_of verb = filter_map read_of (form_of verb).needed

-- the files that a command writes, in order
abbrev pub writes_of : Verb → List Role
writes_of verb = filter_map write_of (form_of verb).needed
