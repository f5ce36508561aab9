-- What is printed of the faults of words.
use Rattle.std.proofs.Common.{◌≡◌, codes, refl}
use Rattle.std.specs.Fmt.{digits}
use Rattle.command_words.specs.FaultTexts.{usage_text}
use Rattle.command_words.specs.declared.fault.UsageFault.TheVariants as usage
use Rattle.command_words.specs.declared.option.OptionName.TheVariants as option

no_command : usage_text usage.NoCommand ≡ codes "no command"
no_command = refl

unknown_option : usage_text (usage.UnknownOption 1) ≡ codes "unknown option 1"
unfolding digits
unknown_option = refl

repeated_option : usage_text (usage.RepeatedOption 3) ≡ codes "repeated option 3"
unfolding digits
repeated_option = refl

bad_value : usage_text (usage.BadValue 7) ≡ codes "bad value 7"
unfolding digits
bad_value = refl

missing_option : usage_text (usage.MissingOption option.Layout) ≡ codes "missing --layout"
missing_option = refl

same_name : usage_text usage.SameName ≡ codes "same name"
same_name = refl
