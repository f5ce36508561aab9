-- From what drawing a layout gives to what the course comes to.
use Rattle.std.proofs.Common.{◌≡◌, ◌∙◌, ◌^◌, ℕ, List, [], ◌∷◌, Result, Ok, Err, IfOk, length, refl, subst, sym}
use Rattle.dsa_terms.specs.Buffers.{Instance}
use Rattle.dsa_terms.specs.Layouts.{IsLayout}
use Rattle.dsa_model.specs.declared.fail.NoMemory.{NoMemory}
use Rattle.csv_instance.specs.Parse.{parse}
use Rattle.csv_instance.specs.Records.{Record}
use Rattle.csv_instance.specs.Offsets.{ids_of}
use Rattle.layout_picture.specs.Rectangles.{EndsWithin, rectangles}
use Rattle.layout_picture.specs.Texts.{picture_text}
use Rattle.command_words.specs.Options.{Word}
use Rattle.command_words.specs.declared.role.Role.TheVariants as role
use Rattle.run_status.specs.declared.status.Status.TheVariants.{Drawn}
use Rattle.run_course.specs.Course.{Outcome, writes}
use Rattle.run_course.specs.Prepares.{outcome_of}
use Rattle.run_course.specs.declared.prepared.Prepared.{Prepared}
use Rattle.judging.specs.Drawing.{drawing}

-- the buffers of a layout end within its capacity
ends_within : (I : Instance) (offsets : List ℕ) → IsLayout I (2 ^ 60) offsets → EndsWithin I offsets
ends_within I offsets legal = record { count = legal.count; within = legal.within }

pub ends_within_of : (J I : Instance) (offsets : List ℕ) → J ≡ I → IsLayout I (2 ^ 60) offsets → EndsWithin J offsets
ends_within_of J I offsets same legal =
    subst (λ (K : Instance). EndsWithin K offsets) (sym same) (ends_within I offsets legal)

-- these bytes are written to the output, and the number of rectangles is told
abbrev pub drawn_file : Word → ℕ → List ℕ → Outcome
drawn_file output count bytes =
    writes (record { role = role.Output; name = output; bytes = bytes } ∷ []) (Drawn count)

pub its_outcome : (output : Word) (table : List Record) (I : Instance) (offsets : List ℕ) (count : ℕ) (bytes : List ℕ) →
    count ≡ length (rectangles I offsets) → bytes ≡ picture_text I (ids_of table) offsets →
    drawn_file output count bytes ≡ drawing output table I offsets
its_outcome output table I offsets count bytes one is = rw (one, is) refl

-- what is prepared comes to, told of each instance that the table tells of, and of one of them
pub each_told : (table : List Record) (a : Outcome) (o : Instance → Outcome) (r : Result Prepared NoMemory) →
    IfOk r (λ p. outcome_of p ≡ a) → ((I : Instance) → parse table ≡ Ok I → a ≡ o I) →
    IfOk r (λ p. (I : Instance) → parse table ≡ Ok I → outcome_of p ≡ o I)
each_told table a o (Ok p) is same = λ I read. is ∙ same I read
each_told table a o (Err e) is same = is

pub told : (table : List Record) (I : Instance) (o : Instance → Outcome) (r : Result Prepared NoMemory) →
    parse table ≡ Ok I → IfOk r (λ p. (J : Instance) → parse table ≡ Ok J → outcome_of p ≡ o J) →
    IfOk r (λ p. outcome_of p ≡ o I)
told table I o (Ok p) read is = is I read
told table I o (Err e) read is = is
