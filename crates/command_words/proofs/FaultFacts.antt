-- Which fault of a command comes first: of one pair, of several, and of the whole.
use Rattle.std.proofs.Common.{◌≡◌, [], ◌∷◌, Some, None, codes, refl}
use Rattle.command_words.specs.Options.{Word}
use Rattle.command_words.specs.Pairs.{Pair, option_fault, pairs_fault}
use Rattle.command_words.specs.Requests.{request_fault}
use Rattle.command_words.specs.declared.option.OptionName.TheVariants as option
use Rattle.command_words.specs.declared.form.Use.TheVariants as used
use Rattle.command_words.specs.declared.role.Role.TheVariants as role
use Rattle.command_words.specs.declared.verb.Verb.TheVariants as verb
use Rattle.command_words.specs.declared.fault.UsageFault.TheVariants as fault

-- an option with its value, and one without
abbrev given : Word → Word → Pair
given word value = record { option = word; value = Some value }

abbrev ungiven : Word → Pair
ungiven word = record { option = word; value = None }

abbrev input : Pair
input = given (codes "--input") (codes "i")

-- ---- one pair, whose first word is the fifth after the command's own: an option that the command has not, one that
-- was there before, one with no value, and one whose value is bad
no_such_option : option_fault 5 [] input None ≡ Some (fault.UnknownOption 5)
no_such_option = refl

with_a_good_value : option_fault 5 (given (codes "--log") (codes "l") ∷ []) input (Some used.Instance) ≡ None
with_a_good_value = refl

-- whatever its value is, and whatever the earlier one's
twice_before_no_value : option_fault 5 (input ∷ []) (ungiven (codes "--input")) (Some used.Instance)
    ≡ Some (fault.RepeatedOption 5)
twice_before_no_value = refl

no_value_at_all : option_fault 5 [] (ungiven (codes "--input")) (Some used.Instance) ≡ Some (fault.MissingValue 5)
no_value_at_all = refl

no_value_of_a_number : option_fault 5 [] (ungiven (codes "--seed")) (Some (used.Number option.Seed))
    ≡ Some (fault.MissingValue 5)
no_value_of_a_number = refl

an_empty_name : option_fault 5 [] (given (codes "--log") []) (Some (used.Writes role.Log)) ≡ Some (fault.BadValue 5)
an_empty_name = refl

no_number : option_fault 5 [] (given (codes "--seed") (codes "1x")) (Some (used.Number option.Seed))
    ≡ Some (fault.BadValue 5)
no_number = refl

-- ---- several pairs: the first of them that has a fault, after two others whose four words are counted
none_of_two : pairs_fault verb.Refute [] (input ∷ given (codes "--log") (codes "l") ∷ []) ≡ None
none_of_two = refl

of_the_second : pairs_fault verb.Refute [] (input ∷ given (codes "--log") [] ∷ ungiven (codes "--x") ∷ [])
    ≡ Some (fault.BadValue 3)
of_the_second = refl

after_two_others : pairs_fault verb.Refute (input ∷ given (codes "--log") (codes "l") ∷ []) (ungiven (codes "--x") ∷ [])
    ≡ Some (fault.UnknownOption 5)
after_two_others = refl

-- the pair that is repeated is the later one
as_the_first_again : pairs_fault verb.Refute [] (input ∷ input ∷ []) ≡ Some (fault.RepeatedOption 3)
as_the_first_again = refl

none_of_no_pairs : pairs_fault verb.Refute [] [] ≡ None
none_of_no_pairs = refl

-- ---- a command: a pair's fault is before an option that is missing, and that is before two equal names
nothing_wrong : request_fault (record { verb = verb.Bounds; pairs = input ∷ [] }) ≡ None
nothing_wrong = refl

unknown_before_missing : request_fault (record { verb = verb.Refute; pairs = input ∷ ungiven (codes "--x") ∷ [] })
    ≡ Some (fault.UnknownOption 3)
unknown_before_missing = refl

missing_before_same_name : request_fault
    (record { verb = verb.Trim; pairs = input ∷ given (codes "--log") (codes "i") ∷ [] })
    ≡ Some (fault.MissingOption option.Output)
missing_before_same_name = refl

same_name : request_fault (record { verb = verb.Refute; pairs = input ∷ given (codes "--log") (codes "i") ∷ [] })
    ≡ Some fault.SameName
same_name = refl
