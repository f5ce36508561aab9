-- Statuses and details of some answers, and what a caller gives.
use Rattle.std.proofs.Common.{◌≡◌, true, false, [], ◌∷◌, None, Some, refl}
use Rattle.dsa_terms.proofs.Examples.{filled}
use Rattle.dsa_model.specs.declared.buffer_fault.BufferFault.TheVariants.{GapOutside, ZeroSize}
use Rattle.dsa_plan.specs.Arrays.{buffer_at, instance_of}
use Rattle.dsa_plan.specs.declared.answers.Answer.TheVariants as plan_is
use Rattle.dsa_plan.specs.declared.answers.LeastAnswer.TheVariants as least_is
use Rattle.dsa_plan.specs.declared.fault.NumbersFault.TheVariants.{Buffer, TimeTooLarge}
use Rattle.dsaplan_c.specs.Given.{given, steps_of}
use Rattle.dsaplan_c.specs.Told.{ends, faulty, least_detail, least_status, plan_detail, plan_status}

-- ---- what is given
a_gap : instance_of (given (0 ∷ 4 ∷ []) (10 ∷ 6 ∷ []) (4 ∷ 4 ∷ []) (1 ∷ 1 ∷ []) (0 ∷ 0 ∷ [])
    (record { from = 4; to = 6 } ∷ []) (1 ∷ 0 ∷ []))
    ≡ filled
unfolding buffer_at
a_gap = refl

limited : steps_of true 3 ≡ Some 3
limited = refl

not_limited : steps_of false 3 ≡ None
not_limited = refl

-- ---- what is told
fits : plan_status plan_is.Fits ≡ 0
fits = refl

does_not_fit : plan_status plan_is.DoesNotFit ≡ 1
does_not_fit = refl

stays_open : plan_status plan_is.Open ≡ 2
stays_open = refl

lengths_differ : plan_status plan_is.LengthsDiffer ≡ 3
lengths_differ = refl

too_many : plan_detail plan_is.TooMany ≡ faulty 0 1 0
too_many = refl

zero_size : plan_detail (plan_is.BadBuffer 7 (Buffer ZeroSize)) ≡ faulty 7 4 0
zero_size = refl

gap_outside : plan_detail (plan_is.BadBuffer 7 (Buffer (GapOutside 2))) ≡ faulty 7 9 2
gap_outside = refl

a_bad_buffer : plan_status (plan_is.BadBuffer 1 TimeTooLarge) ≡ 4
a_bad_buffer = refl

no_memory : plan_status plan_is.NoMemory ≡ 6
no_memory = refl

least_of_12 : least_detail (least_is.Least 12) ≡ ends 12 12
least_of_12 = refl

open_from_4_to_5 : least_detail (least_is.Open 4 5) ≡ ends 4 5
open_from_4_to_5 = refl

open_is_2 : least_status (least_is.Open 4 5) ≡ 2
open_is_2 = refl

no_least_too_late : least_detail (least_is.BadBuffer 1 TimeTooLarge) ≡ faulty 1 2 0
no_least_too_late = refl

no_least_of_a_bad_buffer : least_status (least_is.BadBuffer 1 TimeTooLarge) ≡ 4
no_least_of_a_bad_buffer = refl

no_least_without_memory : least_status least_is.NoMemory ≡ 6
no_least_without_memory = refl
