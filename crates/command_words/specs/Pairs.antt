-- The words after the command, taken two by two: options with their values.
use Rattle.std.specs.Prelude.{ℕ, ◌+◌, ◌*◌, ◌-◌, ◌^◌, min, Bool, false, not, ◌||◌, List, [], ◌∷◌, length, Option, Some, None, is_none, is_some, unwrap_or, option_map, find, scan, map}
use Rattle.std.specs.List.{list_any, push}
use Rattle.std.specs.Option.{option_and_then}
use Rattle.std.specs.Str.{bytes_eq}
use Rattle.dsa_terms.specs.Firsts.{when, first_fault}
use Rattle.dsa_model.specs.Numbers.{written_number}
use Rattle.dsa_model.specs.Limits.{number_limit}
use Rattle.command_words.specs.Options.{Word, option_word}
use Rattle.command_words.specs.Roles.{option_of_role}
use Rattle.command_words.specs.Forms.{form_of, is_bad, option_of, use_of}
use Rattle.command_words.specs.declared.form.Use.{Use}
use Rattle.command_words.specs.declared.pair.Pair as written
use Rattle.command_words.specs.declared.option.OptionName.{OptionName}
use Rattle.command_words.specs.declared.role.Role.{Role}
use Rattle.command_words.specs.declared.verb.Verb.{Verb}
use Rattle.command_words.specs.declared.fault.UsageFault.{UsageFault}
use Rattle.command_words.specs.declared.fault.UsageFault.TheVariants as fault
use Rattle.command_words.specs.declared.fault.UsageFault.TheVariants.{MissingOption}

-- a word and the word after it, where there is one
pub record Pair : Type 0 where
  pub option : Word
  pub value : Option Word

-- what the code's pair stands for
abbrev pub pair_value : written.Pair → Pair
pair_value pair = record { option = pair.option.now; value = option_map (λ value. value.now) pair.value }

-- words, two by two
abbrev pub pairs_of : List Word → List Pair
pairs_of [] = []
pairs_of (option ∷ []) = record { option = option; value = None } ∷ []
pairs_of (option ∷ value ∷ words) = record { option = option; value = Some value } ∷ pairs_of words

-- the first fault of a pair, by what the command does with its option, or that it has no such option
abbrev pub option_fault : ℕ → List Pair → Pair → Option Use → Option UsageFault
option_fault place earlier pair None = Some (fault.UnknownOption place)
option_fault place earlier pair (Some used) = first_fault (
    when (list_any (λ (p : Pair). bytes_eq p.option pair.option) earlier) (fault.RepeatedOption place)
    ∷ when (not (is_some pair.value)) (fault.MissingValue place)
    ∷ when (is_bad used (unwrap_or pair.value [])) (fault.BadValue place) ∷ [])

-- the first fault of a pair after the earlier ones; its place is that of its first word, where the command's word has 0
abbrev pub pair_fault : Verb → List Pair → Pair → Option UsageFault
pair_fault v earlier pair = option_fault (min (2 * length earlier + 1) (2 ^ 32 - 1)) earlier pair (use_of v pair.option)

-- the fault of the first pair that has one, after the earlier pairs
abbrev pub pairs_fault : Verb → List Pair → List Pair → Option UsageFault
pairs_fault verb earlier pairs = first_fault (scan push (pair_fault verb) earlier pairs)

-- the value that the pairs give an option
abbrev pub value_of : List Pair → OptionName → Option Word
value_of ps o = option_and_then (λ (p : Pair). p.value) (find (λ (p : Pair). bytes_eq p.option (option_word o)) ps)

-- the first option that the command needs and the pairs don't give
abbrev pub missing_fault : Verb → List Pair → Option UsageFault
missing_fault v ps = option_map MissingOption (find (λ o. is_none (value_of ps o)) (map option_of (form_of v).needed))

-- two of the words are equal
abbrev pub has_equal : List Word → Bool
has_equal [] = false
has_equal (word ∷ words) = list_any (bytes_eq word) words || has_equal words

-- the name that the pairs give a file, and an empty one where they give none
abbrev pub name_in : List Pair → Role → Word
name_in pairs role = unwrap_or (value_of pairs (option_of_role role)) []

-- the number that the pairs give an option, where they give one
abbrev pub number_given : List Pair → OptionName → Option ℕ
number_given pairs option = option_and_then (written_number number_limit) (value_of pairs option)

-- the number that the pairs give an option, and 0 where they give none
abbrev pub number_at : List Pair → OptionName → ℕ
number_at pairs option = unwrap_or (number_given pairs option) 0
