-- The words of options.
use Rattle.std.specs.Prelude.{ℕ, List, codes}
use Rattle.command_words.specs.declared.option.OptionName.{OptionName}
use Rattle.command_words.specs.declared.option.OptionName.TheVariants.{Capacity, Input, Output, Log, Layout, Trace, Steps, Seed, Count, Period}

-- the bytes of a word
abbrev pub Word : Type 0
Word = List ℕ

-- an option's word
abbrev pub option_word : OptionName → Word
option_word Capacity = codes "--capacity"
option_word Input = codes "--input"
option_word Output = codes "--output"
option_word Log = codes "--log"
option_word Layout = codes "--layout"
option_word Trace = codes "--trace"
option_word Steps = codes "--steps"
option_word Seed = codes "--seed"
option_word Count = codes "--count"
option_word Period = codes "--period"
