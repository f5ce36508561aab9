-- What some answers tell.
use Rattle.std.proofs.Common.{◌≡◌, [], ◌∷◌, None, Some, Err, refl}
use Rattle.dsa_model.specs.declared.fail.Fail.TheVariants as fail
use Rattle.dsa_model.specs.declared.fail.NoMemory.{NoMemory}
use Rattle.dsa_plan.specs.Answers.{least_failed, least_fault, least_found, least_height, offsets_found, plan_failed, plan_fault}
use Rattle.dsa_plan.specs.declared.answers.Answer.TheVariants as answer
use Rattle.dsa_plan.specs.declared.answers.LeastAnswer.TheVariants as least
use Rattle.dsa_plan.specs.declared.fault.ArraysFault.TheVariants.{BadBuffer, LengthsDiffer, TooMany}
use Rattle.dsa_plan.specs.declared.fault.NumbersFault.TheVariants.{TimeTooLarge}

-- ---- faults
none_with_fits : plan_fault answer.Fits ≡ None
none_with_fits = refl

none_without_memory : plan_fault answer.NoMemory ≡ None
none_without_memory = refl

too_many : plan_fault answer.TooMany ≡ Some TooMany
too_many = refl

too_late : plan_fault (answer.BadBuffer 3 TimeTooLarge) ≡ Some (BadBuffer 3 TimeTooLarge)
too_late = refl

none_where_open : least_fault (least.Open 4 5) ≡ None
none_where_open = refl

lengths_differ : least_fault least.LengthsDiffer ≡ Some LengthsDiffer
lengths_differ = refl

-- ---- and back
it_is_too_late : plan_failed (fail.Fault (BadBuffer 3 TimeTooLarge)) ≡ answer.BadBuffer 3 TimeTooLarge
it_is_too_late = refl

memory_runs_out : least_failed fail.NoMemory ≡ least.NoMemory
memory_runs_out = refl

-- ---- heights
of_the_least : least_height (least.Least 12) ≡ Some 12
of_the_least = refl

of_the_upper_end : least_height (least.Open 4 5) ≡ Some 5
of_the_upper_end = refl

of_no_layout : least_height least.TooMany ≡ None
of_no_layout = refl

-- ---- without memory the offsets stay
nothing_found : (x : NoMemory) → least_found (Err x) ≡ least.NoMemory
nothing_found x = refl

as_before : (x : NoMemory) → offsets_found (Err x) (7 ∷ 9 ∷ []) ≡ 7 ∷ 9 ∷ []
as_before x = refl
