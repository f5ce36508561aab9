-- How the command goes that plans by size class.
use Rattle.std.specs.Prelude.{◌≡◌, ◌≤◌, ◌⊎◌, ℕ, List, [], ◌∷◌, Some}
use Rattle.dsa_terms.specs.Buffers.{Instance}
use Rattle.dsa_terms.specs.Layouts.{IsLayout, IsLeast}
use Rattle.csv_instance.specs.Records.{Record}
use Rattle.size_classes.specs.Plain.{IsPlain, first_rough}
use Rattle.size_classes.specs.Plans.{AllOf, IsPeakLoad, class_height, class_plan, power_height}
use Rattle.command_words.specs.Options.{Word}
use Rattle.run_status.specs.declared.status.Status.TheVariants.{Classed, NotPlain}
use Rattle.run_course.specs.Course.{Course, Outcome, Concludes, says, writes}
use Rattle.readings.specs.Input.{opened}
use Rattle.writings.specs.Writings.{layout_file}

-- the instance is plain, and its plan by size class a layout at its height, which is at most the sum of two to the
-- power of each class times its count; where all sizes are equal it is the least capacity, and the load of the peak
pub record IsPlanned (I : Instance) (load : ℕ) : Type 0 where
  pub plain : IsPlain I
  pub peak : IsPeakLoad I load
  pub layout : IsLayout I (class_height I) (class_plan I)
  pub powers : class_height I ≤ power_height I
  pub least : (size : ℕ) → AllOf I size → IsLeast I (class_height I) × (class_height I ≡ load)

-- the plan is written, and its height and the load of the peak are told
abbrev pub PlansByClass : (output : Word) → List Record → Instance → Outcome → Type 0
PlansByClass output table I o = (load : ℕ) × IsPlanned I load
    × (o ≡ writes (layout_file output table (class_plan I) ∷ []) (Classed (class_height I) load))

-- the first buffer that is rough is told
abbrev pub RefusesRough : Instance → Outcome → Type 0
RefusesRough I o = (buffer : ℕ) × (first_rough I ≡ Some buffer) × (o ≡ says (NotPlain buffer))

-- what `classes` concludes of the instance of a table
abbrev pub Plans : (output : Word) → List Record → Instance → Outcome → Type 0
Plans output table I o = PlansByClass output table I o ⊎ RefusesRough I o

-- how `classes` goes
abbrev pub classes : (input output : Word) → Course
classes input output = opened input (λ table I. Concludes (Plans output table I))
