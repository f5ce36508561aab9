-- Command lines, and what the definitions say of them.
use Rattle.std.proofs.Common.{◌≡◌, true, false, List, [], ◌∷◌, ◌++◌, length, Option, Some, None, Err, MatchResult, codes, refl}
use Rattle.command_words.specs.Options.{Word}
use Rattle.command_words.specs.Forms.{is_bad, use_of}
use Rattle.command_words.specs.Pairs.{Pair, has_equal, number_at, number_given, pair_fault, pairs_of}
use Rattle.command_words.specs.Requests.{Request, names_of, request_of}
use Rattle.command_words.specs.declared.option.OptionName.TheVariants as option
use Rattle.command_words.specs.declared.form.Use.TheVariants as used
use Rattle.command_words.specs.declared.role.Role.TheVariants as role
use Rattle.command_words.specs.declared.verb.Verb.TheVariants as verb
use Rattle.command_words.specs.declared.fault.UsageFault.{UsageFault}
use Rattle.command_words.specs.declared.fault.UsageFault.TheVariants as fault

-- the words ask for a command, of which this holds
abbrev Asks : List Word → (Request → Type 0) → Type 0
Asks words holds = MatchResult (request_of words) holds (λ _. ⊥)

-- ---- values

greatest_number : is_bad (used.Number option.Capacity) (codes "1152921504606846976") ≡ false
greatest_number = refl

too_great : is_bad (used.Number option.Capacity) (codes "1152921504606846977") ≡ true
too_great = refl

no_name : is_bad (used.Writes role.Log) [] ≡ true
no_name = refl

any_name : is_bad (used.Writes role.Log) (codes "--log") ≡ false
any_name = refl

a_seed_without_digits : is_bad (used.Number option.Seed) (codes "i") ≡ true
a_seed_without_digits = refl

no_steps_at_all : is_bad (used.Number option.Steps) (codes "0") ≡ false
no_steps_at_all = refl

-- ---- options and pairs

an_option_of_solve : use_of verb.Solve (codes "--log") ≡ Some (used.Writes role.Log)
an_option_of_solve = refl

no_option_of_bounds : use_of verb.Bounds (codes "--log") ≡ None
no_option_of_bounds = refl

steps_of_least : use_of verb.Least (codes "--steps") ≡ Some (used.Number option.Steps)
steps_of_least = refl

no_steps_of_trim : use_of verb.Trim (codes "--steps") ≡ None
no_steps_of_trim = refl

a_pair_and_a_half : pairs_of (codes "--input" ∷ codes "i" ∷ codes "--log" ∷ [])
    ≡ record { option = codes "--input"; value = Some (codes "i") }
    ∷ record { option = codes "--log"; value = None } ∷ []
a_pair_and_a_half = refl

-- ---- places of pairs: that of the first word, or the greatest
abbrev unknown : List Pair → Option UsageFault
unknown earlier = pair_fault verb.Bounds earlier (record { option = codes "--log"; value = None })

first_place : unknown [] ≡ Some (fault.UnknownOption 1)
first_place = refl

third_place : unknown (pairs_of (codes "--a" ∷ codes "a" ∷ codes "--b" ∷ codes "b" ∷ [])) ≡ Some (fault.UnknownOption 5)
third_place = refl

last_place : (earlier : List Pair) → length earlier ≡ 2147483646 →
    unknown earlier ≡ Some (fault.UnknownOption 4294967293)
last_place earlier is = rw is refl

place_past_the_last : (earlier : List Pair) → length earlier ≡ 2147483648 →
    unknown earlier ≡ Some (fault.UnknownOption 4294967295)
place_past_the_last earlier is = rw is refl

first_and_last_equal : has_equal (codes "a" ∷ codes "b" ∷ codes "a" ∷ []) ≡ true
first_and_last_equal = refl

none_equal : has_equal (codes "a" ∷ codes "b" ∷ codes "ab" ∷ []) ≡ false
none_equal = refl

-- ---- command lines

no_words : request_of [] ≡ Err fault.NoCommand
no_words = refl

no_such_command : request_of (codes "plan" ∷ []) ≡ Err fault.UnknownCommand
no_such_command = refl

no_such_option : request_of (codes "bounds" ∷ codes "--log" ∷ codes "l" ∷ []) ≡ Err (fault.UnknownOption 1)
no_such_option = refl

no_value : request_of (codes "bounds" ∷ codes "--input" ∷ []) ≡ Err (fault.MissingValue 1)
no_value = refl

twice : request_of (codes "bounds" ∷ codes "--input" ∷ codes "i" ∷ codes "--input" ∷ codes "i" ∷ [])
    ≡ Err (fault.RepeatedOption 3)
twice = refl

twice_before_no_value : request_of (codes "bounds" ∷ codes "--input" ∷ codes "i" ∷ codes "--input" ∷ [])
    ≡ Err (fault.RepeatedOption 3)
twice_before_no_value = refl

-- the words of `solve` with these values
solve_words : (capacity input output log : Word) → List Word
solve_words capacity input output log =
    codes "solve" ∷ codes "--capacity" ∷ capacity ∷ codes "--input" ∷ input ∷ codes "--output" ∷ output
    ∷ codes "--log" ∷ log ∷ []

capacity_too_great : request_of (solve_words (codes "1152921504606846977") (codes "i") (codes "o") (codes "l"))
    ≡ Err (fault.BadValue 1)
unfolding solve_words
capacity_too_great = refl

empty_log : request_of (solve_words (codes "12") (codes "i") (codes "o") []) ≡ Err (fault.BadValue 7)
unfolding solve_words
empty_log = refl

log_over_the_input : request_of (solve_words (codes "12") (codes "i") (codes "o") (codes "i")) ≡ Err fault.SameName
unfolding solve_words
log_over_the_input = refl

log_over_the_output : request_of (solve_words (codes "12") (codes "i") (codes "o") (codes "o")) ≡ Err fault.SameName
unfolding solve_words
log_over_the_output = refl

solve : Asks (solve_words (codes "012") (codes "i") (codes "o") (codes "l")) (λ r.
    (r.verb ≡ verb.Solve) × (number_at r.pairs option.Capacity ≡ 12) × (number_given r.pairs option.Steps ≡ None)
    × (names_of r ≡ codes "i" ∷ codes "o" ∷ codes "l" ∷ []))
unfolding solve_words
solve = (refl, refl, refl, refl)

solve_with_steps : Asks
    (solve_words (codes "12") (codes "i") (codes "o") (codes "l") ++ codes "--steps" ∷ codes "6" ∷ [])
    (λ r. (r.verb ≡ verb.Solve) × (number_given r.pairs option.Steps ≡ Some 6)
    × (names_of r ≡ codes "i" ∷ codes "o" ∷ codes "l" ∷ []))
unfolding solve_words
solve_with_steps = (refl, refl, refl)

steps_of_solve_twice : request_of
    (solve_words (codes "12") (codes "i") (codes "o") (codes "l")
    ++ codes "--steps" ∷ codes "6" ∷ codes "--steps" ∷ codes "6" ∷ [])
    ≡ Err (fault.RepeatedOption 11)
unfolding solve_words
steps_of_solve_twice = refl

too_many_steps : request_of
    (solve_words (codes "12") (codes "i") (codes "o") (codes "l")
    ++ codes "--steps" ∷ codes "1152921504606846977" ∷ [])
    ≡ Err (fault.BadValue 9)
unfolding solve_words
too_many_steps = refl

greatest_steps : Asks
    (solve_words (codes "12") (codes "i") (codes "o") (codes "l")
    ++ codes "--steps" ∷ codes "1152921504606846976" ∷ [])
    (λ r. number_given r.pairs option.Steps ≡ Some 1152921504606846976)
unfolding solve_words
greatest_steps = refl

-- the words of `least` with these values
least_words : (input output log : Word) → List Word
least_words input output log =
    codes "least" ∷ codes "--input" ∷ input ∷ codes "--output" ∷ output ∷ codes "--log" ∷ log ∷ []

least : Asks (least_words (codes "i") (codes "o") (codes "l")) (λ r.
    (r.verb ≡ verb.Least) × (number_given r.pairs option.Steps ≡ None)
    × (names_of r ≡ codes "i" ∷ codes "o" ∷ codes "l" ∷ []))
unfolding least_words
least = (refl, refl, refl)

least_with_no_step : Asks
    (least_words (codes "i") (codes "o") (codes "l") ++ codes "--steps" ∷ codes "0" ∷ [])
    (λ r. (r.verb ≡ verb.Least) × (number_given r.pairs option.Steps ≡ Some 0))
unfolding least_words
least_with_no_step = (refl, refl)

too_many_steps_of_least : request_of
    (least_words (codes "i") (codes "o") (codes "l") ++ codes "--steps" ∷ codes "1152921504606846977" ∷ [])
    ≡ Err (fault.BadValue 7)
unfolding least_words
too_many_steps_of_least = refl

least_without_the_steps : request_of (least_words (codes "i") (codes "o") (codes "l") ++ codes "--steps" ∷ [])
    ≡ Err (fault.MissingValue 7)
unfolding least_words
least_without_the_steps = refl

least_over_the_input : request_of (least_words (codes "i") (codes "i") (codes "l")) ≡ Err fault.SameName
unfolding least_words
least_over_the_input = refl

no_capacity_of_least : request_of (codes "least" ∷ codes "--capacity" ∷ codes "12" ∷ []) ≡ Err (fault.UnknownOption 1)
no_capacity_of_least = refl

-- the words of `verify` with these values
verify_words : (capacity input layout : Word) → List Word
verify_words capacity input layout =
    codes "verify" ∷ codes "--layout" ∷ layout ∷ codes "--input" ∷ input ∷ codes "--capacity" ∷ capacity ∷ []

greatest_capacity : Asks (verify_words (codes "1152921504606846976") (codes "i") (codes "a")) (λ r.
    number_at r.pairs option.Capacity ≡ 1152921504606846976)
unfolding verify_words
greatest_capacity = refl

judged_past_the_limit : request_of (verify_words (codes "1152921504606846977") (codes "i") (codes "a"))
    ≡ Err (fault.BadValue 5)
unfolding verify_words
judged_past_the_limit = refl

no_log : request_of (codes "refute" ∷ codes "--input" ∷ codes "i" ∷ []) ≡ Err (fault.MissingOption option.Log)
no_log = refl

nothing_given : request_of (codes "verify" ∷ []) ≡ Err (fault.MissingOption option.Capacity)
nothing_given = refl

another_order : Asks (verify_words (codes "8") (codes "i") (codes "a")) (λ r.
    (r.verb ≡ verb.Verify) × (number_at r.pairs option.Capacity ≡ 8) × (names_of r ≡ codes "i" ∷ codes "a" ∷ []))
unfolding verify_words
another_order = (refl, refl, refl)

a_value_like_an_option : Asks
    (codes "refute" ∷ codes "--input" ∷ codes "--log" ∷ codes "--log" ∷ codes "l" ∷ [])
    (λ r. (r.verb ≡ verb.Refute) × (names_of r ≡ codes "--log" ∷ codes "l" ∷ []))
a_value_like_an_option = (refl, refl)

bounds : Asks (codes "bounds" ∷ codes "--input" ∷ codes "i" ∷ []) (λ r.
    (r.verb ≡ verb.Bounds) × (names_of r ≡ codes "i" ∷ []))
bounds = (refl, refl)

-- the words of `trim` with these values
trim_words : (input log output : Word) → List Word
trim_words input log output =
    codes "trim" ∷ codes "--input" ∷ input ∷ codes "--log" ∷ log ∷ codes "--output" ∷ output ∷ []

trim : Asks (trim_words (codes "i") (codes "l") (codes "o")) (λ r.
    (r.verb ≡ verb.Trim) × (names_of r ≡ codes "i" ∷ codes "l" ∷ codes "o" ∷ []))
unfolding trim_words
trim = (refl, refl)

trim_over_the_log : request_of (trim_words (codes "i") (codes "l") (codes "l")) ≡ Err fault.SameName
unfolding trim_words
trim_over_the_log = refl

no_output_of_trim : request_of (codes "trim" ∷ codes "--log" ∷ codes "l" ∷ codes "--input" ∷ codes "i" ∷ [])
    ≡ Err (fault.MissingOption option.Output)
no_output_of_trim = refl

-- the words of `report` with these values
report_words : (input layout : Word) → List Word
report_words input layout = codes "report" ∷ codes "--input" ∷ input ∷ codes "--layout" ∷ layout ∷ []

report : Asks (report_words (codes "i") (codes "a")) (λ r.
    (r.verb ≡ verb.Report) × (names_of r ≡ codes "i" ∷ codes "a" ∷ []))
unfolding report_words
report = (refl, refl)

report_of_the_input : request_of (report_words (codes "i") (codes "i")) ≡ Err fault.SameName
unfolding report_words
report_of_the_input = refl

-- the words of `trial` with these values
trial_words : (seed count : Word) → List Word
trial_words seed count = codes "trial" ∷ codes "--seed" ∷ seed ∷ codes "--count" ∷ count ∷ []

trial : Asks (trial_words (codes "1") (codes "2") ++ codes "--steps" ∷ codes "1000" ∷ []) (λ r.
    (r.verb ≡ verb.Trial) × (number_at r.pairs option.Seed ≡ 1) × (number_at r.pairs option.Count ≡ 2)
    × (number_at r.pairs option.Steps ≡ 1000) × (names_of r ≡ []))
unfolding trial_words
trial = (refl, refl, refl, refl, refl)

trial_at_the_limit : Asks
    (trial_words (codes "1152921504606846976") (codes "1152921504606846976")
    ++ codes "--steps" ∷ codes "1152921504606846976" ∷ [])
    (λ r. (number_at r.pairs option.Seed ≡ 1152921504606846976)
    × (number_at r.pairs option.Count ≡ 1152921504606846976)
    × (number_at r.pairs option.Steps ≡ 1152921504606846976))
unfolding trial_words
trial_at_the_limit = (refl, refl, refl)

count_too_great : request_of (trial_words (codes "1") (codes "1152921504606846977")) ≡ Err (fault.BadValue 3)
unfolding trial_words
count_too_great = refl

too_many_steps_of_trial : request_of
    (trial_words (codes "1") (codes "2") ++ codes "--steps" ∷ codes "1152921504606846977" ∷ [])
    ≡ Err (fault.BadValue 5)
unfolding trial_words
too_many_steps_of_trial = refl

no_steps_of_trial : request_of (trial_words (codes "1") (codes "2")) ≡ Err (fault.MissingOption option.Steps)
unfolding trial_words
no_steps_of_trial = refl

nothing_given_to_trial : request_of (codes "trial" ∷ []) ≡ Err (fault.MissingOption option.Seed)
nothing_given_to_trial = refl

seed_too_great : request_of (trial_words (codes "1152921504606846977") (codes "2")) ≡ Err (fault.BadValue 1)
unfolding trial_words
seed_too_great = refl

count_of_a_sign : request_of (trial_words (codes "1") (codes "-2")) ≡ Err (fault.BadValue 3)
unfolding trial_words
count_of_a_sign = refl
