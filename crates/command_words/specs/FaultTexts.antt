-- The texts of faults of words, as they are printed.
use Rattle.std.specs.Prelude.{ℕ, List, ◌++◌, codes, decimal}
use Rattle.command_words.specs.Options.{option_word}
use Rattle.command_words.specs.declared.fault.UsageFault.{UsageFault}
use Rattle.command_words.specs.declared.fault.UsageFault.TheVariants as usage

-- what is wrong with words
abbrev pub usage_text : UsageFault → List ℕ
usage_text usage.NoCommand = codes "no command"
usage_text usage.UnknownCommand = codes "unknown command"
usage_text (usage.UnknownOption word) = codes "unknown option " ++ decimal word
usage_text (usage.RepeatedOption word) = codes "repeated option " ++ decimal word
usage_text (usage.MissingValue word) = codes "missing value " ++ decimal word
usage_text (usage.BadValue word) = codes "bad value " ++ decimal word
usage_text (usage.MissingOption option) = codes "missing " ++ option_word option
usage_text usage.SameName = codes "same name"
