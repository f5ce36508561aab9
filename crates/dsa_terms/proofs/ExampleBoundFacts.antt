-- What loads and lower bounds come to on small instances.
use Rattle.std.proofs.Common.{◌≡◌, [], ◌∷◌, map, refl}
use Rattle.dsa_terms.specs.Buffers.{is_live, buffer, floor}
use Rattle.dsa_terms.specs.Parts.{numbers}
use Rattle.dsa_terms.specs.Plans.{load}
use Rattle.dsa_terms.specs.Logs.{Over, is_stacked, rounded, rounding}
use Rattle.dsa_terms.specs.Bounds.{stack_log, counted, stack, moduli, moments, highest_stack, lower_bound, bound_modulus, heights, highest_at, least_of, stack_line, line_height}
use Rattle.dsa_terms.proofs.Examples.{five, two_of_four, evens, filled, overrun, two_parts, small_below, made}
use Rattle.dsa_terms.specs.Claims.{up}

-- ---- loads, moment by moment
five_loads :
    map (load five) (numbers 22)
    ≡ 12 ∷ 12 ∷ 12 ∷ 12 ∷ 12 ∷ 12 ∷ 12 ∷ 12 ∷ 12 ∷ 8 ∷ 8 ∷ 8 ∷ 8 ∷ 8 ∷ 8 ∷ 8 ∷ 8 ∷ 8 ∷ 8 ∷ 8 ∷ 8 ∷ 0 ∷ []
unfolding load is_live
five_loads = refl

evens_loads : map (load evens) (numbers 2) ≡ 4 ∷ 0 ∷ []
unfolding load is_live
evens_loads = refl

filled_loads : map (load filled) (numbers 11) ≡ 4 ∷ 4 ∷ 4 ∷ 4 ∷ 4 ∷ 4 ∷ 4 ∷ 4 ∷ 4 ∷ 4 ∷ 0 ∷ []
unfolding load is_live
filled_loads = refl

overrun_loads : map (load overrun) (numbers 11) ≡ 4 ∷ 4 ∷ 4 ∷ 4 ∷ 4 ∷ 4 ∷ 8 ∷ 4 ∷ 4 ∷ 4 ∷ 0 ∷ []
unfolding load is_live
overrun_loads = refl

made_loads : map (load made) (numbers 8) ≡ 0 ∷ 0 ∷ 65 ∷ 65 ∷ 65 ∷ 65 ∷ 14 ∷ 0 ∷ []
unfolding load is_live
made_loads = refl

-- ---- lower bounds with their least modulus
five_bound : lower_bound five ≡ 12
unfolding lower_bound highest_stack highest_at heights floor stack counted is_stacked rounded rounding up moduli
    moments is_live buffer
five_bound = refl

five_modulus : bound_modulus five ≡ 1
unfolding bound_modulus least_of lower_bound highest_stack highest_at heights floor stack counted is_stacked rounded
    rounding up moduli moments is_live buffer
five_modulus = refl

two_of_four_bound : lower_bound two_of_four ≡ 7
unfolding lower_bound highest_stack highest_at heights floor stack counted is_stacked rounded rounding up moduli
    moments is_live buffer
two_of_four_bound = refl

two_of_four_modulus : bound_modulus two_of_four ≡ 4
unfolding bound_modulus least_of lower_bound highest_stack highest_at heights floor stack counted is_stacked rounded
    rounding up moduli moments is_live buffer
two_of_four_modulus = refl

evens_bound : lower_bound evens ≡ 4
unfolding lower_bound highest_stack highest_at heights floor stack counted is_stacked rounded rounding up moduli
    moments is_live buffer
evens_bound = refl

evens_modulus : bound_modulus evens ≡ 1
unfolding bound_modulus least_of lower_bound highest_stack highest_at heights floor stack counted is_stacked rounded
    rounding up moduli moments is_live buffer
evens_modulus = refl

filled_bound : lower_bound filled ≡ 4
unfolding lower_bound highest_stack highest_at heights floor stack counted is_stacked rounded rounding up moduli
    moments is_live buffer
filled_bound = refl

filled_modulus : bound_modulus filled ≡ 1
unfolding bound_modulus least_of lower_bound highest_stack highest_at heights floor stack counted is_stacked rounded
    rounding up moduli moments is_live buffer
filled_modulus = refl

overrun_bound : lower_bound overrun ≡ 8
unfolding lower_bound highest_stack highest_at heights floor stack counted is_stacked rounded rounding up moduli
    moments is_live buffer
overrun_bound = refl

overrun_modulus : bound_modulus overrun ≡ 1
unfolding bound_modulus least_of lower_bound highest_stack highest_at heights floor stack counted is_stacked rounded
    rounding up moduli moments is_live buffer
overrun_modulus = refl

two_parts_bound : lower_bound two_parts ≡ 4
unfolding lower_bound highest_stack highest_at heights floor stack counted is_stacked rounded rounding up moduli
    moments is_live buffer
two_parts_bound = refl

two_parts_modulus : bound_modulus two_parts ≡ 1
unfolding bound_modulus least_of lower_bound highest_stack highest_at heights floor stack counted is_stacked rounded
    rounding up moduli moments is_live buffer
two_parts_modulus = refl

small_below_bound : lower_bound small_below ≡ 4
unfolding lower_bound highest_stack highest_at heights floor stack counted is_stacked rounded rounding up moduli
    moments is_live buffer
small_below_bound = refl

small_below_modulus : bound_modulus small_below ≡ 1
unfolding bound_modulus least_of lower_bound highest_stack highest_at heights floor stack counted is_stacked rounded
    rounding up moduli moments is_live buffer
small_below_modulus = refl

made_bound : lower_bound made ≡ 65
unfolding lower_bound highest_stack highest_at heights floor stack counted is_stacked rounded rounding up moduli
    moments is_live buffer
made_bound = refl

made_modulus : bound_modulus made ≡ 1
unfolding bound_modulus least_of lower_bound highest_stack highest_at heights floor stack counted is_stacked rounded
    rounding up moduli moments is_live buffer
made_modulus = refl

-- 14 rounded up to 4 is 16, less the rounding 14; by 3 there is 51 alone
made_stacks : map (highest_stack made) (1 ∷ 3 ∷ 4 ∷ []) ≡ 65 ∷ 51 ∷ 14 ∷ []
unfolding highest_stack highest_at heights floor stack counted is_stacked rounded rounding up moments is_live buffer
made_stacks = refl

evens_stacks : map (highest_stack evens) (1 ∷ 2 ∷ []) ≡ 4 ∷ 3 ∷ []
unfolding highest_stack highest_at heights floor stack counted is_stacked rounded rounding up moments is_live buffer
evens_stacks = refl

-- no buffers: bound 0, modulus 1
none_bound : lower_bound [] ≡ 0
unfolding lower_bound highest_stack highest_at heights floor stack counted is_stacked rounded rounding up moduli
    moments
none_bound = refl

none_modulus : bound_modulus [] ≡ 1
unfolding bound_modulus least_of lower_bound highest_stack highest_at heights floor stack counted is_stacked rounded
    rounding up moduli moments
none_modulus = refl

-- ---- the log of the bound
five_bound_log :
    stack_log five 0 0 1 11
    ≡ record { count = 5; capacity = 11; lines = Over ((0, 0) ∷ (2, 0) ∷ (4, 0) ∷ []) 0 0 1 ∷ []; final = 0 }
unfolding stack_log stack_line line_height counted is_stacked rounded rounding up is_live buffer
five_bound_log = refl

two_of_four_bound_log :
    stack_log two_of_four 0 0 4 6
    ≡ record { count = 2; capacity = 6; lines = Over ((0, 0) ∷ (1, 0) ∷ []) 0 0 4 ∷ []; final = 0 }
unfolding stack_log stack_line line_height counted is_stacked rounded rounding up is_live buffer
two_of_four_bound_log = refl

evens_bound_log :
    stack_log evens 0 0 1 3
    ≡ record { count = 3; capacity = 3; lines = Over ((0, 0) ∷ (1, 0) ∷ (2, 0) ∷ []) 0 0 1 ∷ []; final = 0 }
unfolding stack_log stack_line line_height counted is_stacked rounded rounding up is_live buffer
evens_bound_log = refl

filled_bound_log :
    stack_log filled 0 0 1 3
    ≡ record { count = 2; capacity = 3; lines = Over ((0, 0) ∷ []) 0 0 1 ∷ []; final = 0 }
unfolding stack_log stack_line line_height counted is_stacked rounded rounding up is_live buffer
filled_bound_log = refl

overrun_bound_log :
    stack_log overrun 6 0 1 7
    ≡ record { count = 2; capacity = 7; lines = Over ((0, 0) ∷ (1, 0) ∷ []) 6 0 1 ∷ []; final = 0 }
unfolding stack_log stack_line line_height counted is_stacked rounded rounding up is_live buffer
overrun_bound_log = refl
