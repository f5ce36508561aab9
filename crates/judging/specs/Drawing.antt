-- How the command goes that draws a layout.
use Rattle.std.specs.Prelude.{◌≡◌, ℕ, List, [], ◌∷◌, length}
use Rattle.dsa_terms.specs.Buffers.{Instance}
use Rattle.dsa_terms.specs.Layouts.{IsLayout}
use Rattle.dsa_model.specs.Limits.{number_limit}
use Rattle.csv_instance.specs.Records.{Record}
use Rattle.csv_instance.specs.Offsets.{ids_of}
use Rattle.layout_picture.specs.Rectangles.{rectangles}
use Rattle.layout_picture.specs.Texts.{picture_text}
use Rattle.command_words.specs.Options.{Word}
use Rattle.command_words.specs.declared.role.Role.TheVariants as role
use Rattle.run_status.specs.declared.status.Status.TheVariants.{Drawn}
use Rattle.run_course.specs.Course.{Concludes, Course, Outcome, writes}
use Rattle.readings.specs.Input.{opened}
use Rattle.readings.specs.Judging.{judged}

-- the picture of the offsets is written to the output, and the number of its rectangles is told
abbrev pub drawing : Word → List Record → Instance → List ℕ → Outcome
drawing output table I offsets = writes (record {
  role = role.Output;
  name = output;
  bytes = picture_text I (ids_of table) offsets;
} ∷ []) (Drawn (length (rectangles I offsets)))

-- the offsets are a layout at the greatest capacity, and their picture is written
pub record Draws (output : Word) (table : List Record) (I : Instance) (offsets : List ℕ) (o : Outcome) : Type 0 where
  pub layout : IsLayout I number_limit offsets
  pub drawn : o ≡ drawing output table I offsets

-- how `draw` goes: the layout is judged at the greatest capacity
abbrev pub draw : (input layout output : Word) → Course
draw input layout output =
    opened input (λ table I. judged layout table I number_limit (λ offsets. Concludes (Draws output table I offsets)))
