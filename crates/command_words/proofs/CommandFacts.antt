-- The table of commands, pairs of words, and what they give an option.
use Rattle.std.proofs.Common.{◌≡◌, Bor, List, [], ◌∷◌, ◌++◌, filter, map, Option, Some, None, bytes_eq, codes, refl, inl}
use Rattle.std.specs.List.{filter_map, list_any}
use Rattle.command_words.specs.Options.{Word, option_word}
use Rattle.command_words.specs.Roles.{limit_of, option_of_role}
use Rattle.command_words.specs.Forms.{ReadsInstance, file_of, form_of, form_value, option_of, read_of, reads_of, row, use_of, verb_of, verbs, write_of, writes_of}
use Rattle.command_words.specs.Pairs.{missing_fault, name_in, number_at, number_given, pair_value, pairs_of, value_of}
use Rattle.command_words.specs.Requests.{names_of}
use Rattle.command_words.specs.declared.form.Use.{Use}
use Rattle.command_words.specs.declared.form.Use.TheVariants as used
use Rattle.command_words.specs.declared.option.OptionName.{OptionName}
use Rattle.command_words.specs.declared.option.OptionName.TheVariants as option
use Rattle.command_words.specs.declared.role.Role.{Role}
use Rattle.command_words.specs.declared.role.Role.TheVariants as role
use Rattle.command_words.specs.declared.verb.Verb.{Verb}
use Rattle.command_words.specs.declared.verb.Verb.TheVariants as verb
use Rattle.command_words.specs.declared.fault.UsageFault.TheVariants as fault
use Rattle.command_words.proofs.FileLemmas.{unroll_reads_none}

-- ---- the table

-- each command is found by its word
each_word : map (λ v. verb_of (form_of v).word) verbs ≡ map Some verbs
each_word = refl

-- the files of a command are those that it reads, and then those that it writes
each_file : map (λ v. filter_map file_of (form_of v).needed) verbs ≡ map (λ v. reads_of v ++ writes_of v) verbs
each_file = refl

-- what commands read that have a log or no output
what_is_read : map reads_of (verb.Refute ∷ verb.Trim ∷ verb.Upgrade ∷ verb.Verify ∷ verb.Core ∷ verb.Import ∷ [])
    ≡ (role.Input ∷ role.Log ∷ []) ∷ (role.Input ∷ role.Log ∷ []) ∷ (role.Input ∷ role.Log ∷ [])
    ∷ (role.Input ∷ role.Layout ∷ []) ∷ (role.Input ∷ []) ∷ (role.Trace ∷ []) ∷ []
what_is_read = refl

-- and what they write
what_is_written : map writes_of (verb.Refute ∷ verb.Trim ∷ verb.Upgrade ∷ verb.Verify ∷ verb.Core ∷ verb.Import ∷ [])
    ≡ [] ∷ (role.Output ∷ []) ∷ (role.Output ∷ []) ∷ [] ∷ (role.Output ∷ role.Log ∷ []) ∷ (role.Output ∷ []) ∷ []
what_is_written = refl

-- each option of each command is found by its word
each_option : map (λ v. map (λ u. use_of v (option_word (option_of u))) (form_of v).needed) verbs
    ≡ map (λ v. map Some (form_of v).needed) verbs
each_option = refl

no_command : verb_of (codes "Solve") ≡ None
no_command = refl

trim_writes_its_output : writes_of verb.Trim ≡ role.Output ∷ []
trim_writes_its_output = refl

upgrade_reads_the_log : reads_of verb.Upgrade ≡ role.Input ∷ role.Log ∷ []
upgrade_reads_the_log = refl

draw_reads_the_layout : reads_of verb.Draw ≡ role.Input ∷ role.Layout ∷ []
draw_reads_the_layout = refl

missed_by_draw : map option_of (form_of verb.Draw).needed ≡ option.Input ∷ option.Layout ∷ option.Output ∷ []
missed_by_draw = refl

missed_by_unroll : map option_of (form_of verb.Unroll).needed ≡ option.Period ∷ option.Input ∷ option.Output ∷ []
missed_by_unroll = refl

missed_by_pack : map option_of (form_of verb.Pack).needed
    ≡ option.Input ∷ option.Output ∷ option.Log ∷ option.Steps ∷ []
missed_by_pack = refl

solve_writes_both : writes_of verb.Solve ≡ role.Output ∷ role.Log ∷ []
solve_writes_both = refl

report_reads_both : reads_of verb.Report ≡ role.Input ∷ role.Layout ∷ []
report_reads_both = refl

verify_writes_nothing : writes_of verb.Verify ≡ []
verify_writes_nothing = refl

missed_by_trim : map option_of (form_of verb.Trim).needed ≡ option.Input ∷ option.Log ∷ option.Output ∷ []
missed_by_trim = refl

missed_by_least : map option_of (form_of verb.Least).needed ≡ option.Input ∷ option.Output ∷ option.Log ∷ []
missed_by_least = refl

report_needs_all : (form_of verb.Report).optional ≡ []
report_needs_all = refl

solve_goes_without_steps : (form_of verb.Solve).optional ≡ option.Steps ∷ []
solve_goes_without_steps = refl

missed_by_trial : map option_of (form_of verb.Trial).needed ≡ option.Seed ∷ option.Count ∷ option.Steps ∷ []
missed_by_trial = refl

each_optional : map (λ v. map (λ o. use_of v (option_word o)) (form_of v).optional) verbs
    ≡ map (λ v. map (λ o. Some (used.Number o)) (form_of v).optional) verbs
each_optional = refl

an_output_is_written : write_of (used.Writes role.Output) ≡ Some role.Output
an_output_is_written = refl

an_instance_is_the_input : (read_of used.Instance ≡ Some role.Input) × (option_of used.Instance ≡ option.Input)
an_instance_is_the_input = (refl, refl)

a_log_is_read : file_of (used.Reads role.Log) ≡ Some role.Log
a_log_is_read = refl

a_period_is_no_file : file_of (used.Number option.Period) ≡ None
a_period_is_no_file = refl

draw_reads_an_instance : ReadsInstance verb.Draw
draw_reads_an_instance = inl refl

-- `unroll` reads an input, but as no instance
not_of_unroll : ReadsInstance verb.Unroll → ⊥
not_of_unroll = unroll_reads_none

-- ---- files
abbrev roles : List Role
roles = role.Input ∷ role.Layout ∷ role.Log ∷ role.Trace ∷ role.Output ∷ []

option_of_each_file : map option_of_role roles
    ≡ option.Input ∷ option.Layout ∷ option.Log ∷ option.Trace ∷ option.Output ∷ []
option_of_each_file = refl

most_of_each_file : map limit_of roles ≡ 67108864 ∷ 67108864 ∷ 1099511627776 ∷ 67108864 ∷ 67108864 ∷ []
most_of_each_file = refl

-- the options of which a command takes a number
abbrev number_in : Use → Option OptionName
number_in (used.Number o) = Some o
number_in other = None

abbrev numbers_in : Verb → List OptionName
numbers_in v = filter_map number_in (form_of v).needed ++ (form_of v).optional

-- no file is named by one of these
no_file_is_a_number : map (λ v. filter
    (λ o. list_any (λ r. bytes_eq (option_word o) (option_word (option_of_role r))) roles) (numbers_in v)) verbs
    ≡ map (λ v. []) verbs
no_file_is_a_number = refl

-- ---- forms and pairs of the code
module _ (i o : Bor Word) (u : Bor (List Use)) (n : Bor (List OptionName)) where
  a_form : form_value (record { word = i; needed = u; optional = n }) ≡ row i.now u.now n.now
  a_form = refl

  a_pair : pair_value (record { option = i; value = Some o }) ≡ record { option = i.now; value = Some o.now }
  a_pair = refl

  half_a_pair : pair_value (record { option = i; value = None }) ≡ record { option = i.now; value = None }
  half_a_pair = refl

-- ---- names of files
module _ (i o l a : Word) where
  solve_names : names_of (record {
    verb = verb.Solve;
    pairs = pairs_of (codes "--log" ∷ l ∷ codes "--output" ∷ o ∷ codes "--input" ∷ i ∷ []);
  })
      ≡ i ∷ o ∷ l ∷ []
  solve_names = refl

  least_names : names_of (record {
    verb = verb.Least;
    pairs = pairs_of (codes "--log" ∷ l ∷ codes "--output" ∷ o ∷ codes "--input" ∷ i ∷ []);
  })
      ≡ i ∷ o ∷ l ∷ []
  least_names = refl

  verify_names : names_of (record {
    verb = verb.Verify;
    pairs = pairs_of (codes "--layout" ∷ a ∷ codes "--input" ∷ i ∷ []);
  })
      ≡ i ∷ a ∷ []
  verify_names = refl

  refute_names : names_of (record {
    verb = verb.Refute;
    pairs = pairs_of (codes "--log" ∷ l ∷ codes "--input" ∷ i ∷ []);
  })
      ≡ i ∷ l ∷ []
  refute_names = refl

  trim_names : names_of (record {
    verb = verb.Trim;
    pairs = pairs_of (codes "--output" ∷ o ∷ codes "--log" ∷ l ∷ codes "--input" ∷ i ∷ []);
  })
      ≡ i ∷ l ∷ o ∷ []
  trim_names = refl

  bounds_names : names_of (record { verb = verb.Bounds; pairs = pairs_of (codes "--input" ∷ i ∷ []) }) ≡ i ∷ []
  bounds_names = refl

  report_names : names_of (record {
    verb = verb.Report;
    pairs = pairs_of (codes "--layout" ∷ a ∷ codes "--input" ∷ i ∷ []);
  })
      ≡ i ∷ a ∷ []
  report_names = refl

  trial_names : names_of (record { verb = verb.Trial; pairs = pairs_of (codes "--seed" ∷ i ∷ []) }) ≡ []
  trial_names = refl

-- ---- what the pairs give an option

-- the first of two pairs with one word gives the value
first_value : value_of
    (pairs_of (codes "--log" ∷ codes "a" ∷ codes "--log" ∷ codes "b" ∷ [])) option.Log ≡ Some (codes "a")
first_value = refl

no_value_of_the_other : value_of (pairs_of (codes "--log" ∷ codes "--input" ∷ [])) option.Input ≡ None
no_value_of_the_other = refl

the_log's_name : name_in (pairs_of (codes "--log" ∷ codes "l" ∷ [])) role.Log ≡ codes "l"
the_log's_name = refl

nothing_named : name_in (pairs_of (codes "--log" ∷ [])) role.Log ≡ []
nothing_named = refl

number_at_the_limit : number_given (pairs_of (codes "--steps" ∷ codes "1152921504606846976" ∷ [])) option.Steps
    ≡ Some 1152921504606846976
number_at_the_limit = refl

number_past_the_limit : number_given (pairs_of (codes "--steps" ∷ codes "1152921504606846977" ∷ [])) option.Steps
    ≡ None
number_past_the_limit = refl

no_number : number_at (pairs_of (codes "--seed" ∷ codes "1" ∷ [])) option.Count ≡ 0
no_number = refl

output_is_missed_first : missing_fault verb.Least (pairs_of (codes "--input" ∷ codes "i" ∷ []))
    ≡ Some (fault.MissingOption option.Output)
output_is_missed_first = refl
