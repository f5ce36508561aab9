-- What unrolling two rows comes to, and what a row comes to that begins at the period.
use Rattle.std.proofs.Common.{◌≡◌, List, [], ◌∷◌, Ok, codes, refl, lit≤}
use Rattle.csv_instance.specs.Records.{Record}
use Rattle.cyclic_plan.specs.Cycles.{unrolled}
use Rattle.cyclic_plan.specs.Unrolled.{unrolled_of, unrolled_text}
use Rattle.cyclic_plan.specs.declared.fault.CycleFault.TheVariants as fault
use Rattle.cyclic_plan.proofs.Tables.{unrolled_gives}
use Rattle.dsa_model.specs.Buffer.{buffer_of, is_ever_live}
use Rattle.dsa_terms.specs.Buffers.{Instance, is_live, some_before}
use Rattle.run_status.specs.declared.status.Status.TheVariants.{CycleRefused}
use Rattle.run_course.specs.Course.{Outcome, says}
use Rattle.importing.specs.Unrolling.{Unrolls}
use Rattle.importing.proofs.Unrolling.{unrolled_file}

abbrev columns : Record
columns = codes "id" ∷ codes "lower" ∷ codes "upper" ∷ codes "size" ∷ []

abbrev wrapping : List Record
wrapping =
    columns
    ∷ (codes "A" ∷ codes "8" ∷ codes "2" ∷ codes "4" ∷ [])
    ∷ (codes "B" ∷ codes "2" ∷ codes "8" ∷ codes "4" ∷ []) ∷ []

-- the row that wraps has the whole period, and a gap where it does not live
abbrev of_ten : Instance
of_ten = buffer_of 0 10 4 1 ((2, 8) ∷ []) 0 ∷ buffer_of 2 8 4 1 [] 0 ∷ []

wrapping_unrolls : unrolled_of 10 wrapping ≡ Ok of_ten
unfolding unrolled_of unrolled is_ever_live some_before is_live
wrapping_unrolls = refl

-- two buffers are written
wrapping_is_written : Unrolls 10 (codes "o") wrapping (Ok of_ten)
    (unrolled_file (codes "o") 2 (unrolled_text 10 wrapping))
wrapping_is_written = (unrolled_gives 10 wrapping of_ten (lit≤ tt) wrapping_unrolls, refl)

-- and nothing else may be
nothing_else : (o : Outcome) → Unrolls 10 (codes "o") wrapping (Ok of_ten) o →
    o ≡ unrolled_file (codes "o") 2 (unrolled_text 10 wrapping)
nothing_else o is = is.1

abbrev late : List Record
late = columns ∷ (codes "A" ∷ codes "10" ∷ codes "2" ∷ codes "4" ∷ []) ∷ []

-- a row begins at the period: this is told, and nothing is written
outside_is_told : (o : Outcome) → Unrolls 10 (codes "o") late (unrolled_of 10 late) o →
    o ≡ says (CycleRefused (fault.Outside 0))
unfolding unrolled_of
outside_is_told o is = is
