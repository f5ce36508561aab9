-- The files of commands: the option that names each, and how long it may be.
use Rattle.std.specs.Prelude.{ℕ, ◌^◌}
use Rattle.command_words.specs.declared.option.OptionName.{OptionName}
use Rattle.command_words.specs.declared.option.OptionName.TheVariants as option
use Rattle.command_words.specs.declared.role.Role.{Role}
use Rattle.command_words.specs.declared.role.Role.TheVariants as role

-- the option that names the file
abbrev pub option_of_role : Role → OptionName
option_of_role role.Input = option.Input
option_of_role role.Layout = option.Layout
option_of_role role.Log = option.Log
option_of_role role.Trace = option.Trace
option_of_role role.Output = option.Output

-- the greatest number of bytes that the file may have
abbrev pub limit_of : Role → ℕ
limit_of role.Log = 2 ^ 40
limit_of other = 2 ^ 26
