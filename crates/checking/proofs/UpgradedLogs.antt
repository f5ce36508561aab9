-- The outcome of a log that was written in version 2.
use Rattle.std.proofs.Common.{◌≡◌, ℕ, List, [], ◌∷◌, length, refl, subst, sym}
use Rattle.dsa_terms.specs.Logs.{Log}
use Rattle.log_text.specs.Says.{Says}
use Rattle.log_text.specs.Spellings.{log_text2}
use Rattle.log_text.specs.Text.{raw_log_of}
use Rattle.command_words.specs.Options.{Word}
use Rattle.command_words.specs.declared.role.Role.TheVariants as role
use Rattle.run_status.specs.Spoken.{IsSpoken}
use Rattle.run_status.specs.declared.status.Status.TheVariants.{Upgraded}
use Rattle.run_course.specs.Course.{Outcome, writes}
use Rattle.checking.specs.Checking.{Upgrades}

-- these bytes are written to the output, and the number of lines is told
abbrev pub upgraded_file : Word → ℕ → List ℕ → Outcome
upgraded_file output lines bytes =
    writes (record { role = role.Output; name = output; bytes = bytes } ∷ []) (Upgraded lines)

pub its_outcome : (output : Word) (g : Log) (lines : ℕ) (bytes : List ℕ) → lines ≡ length g.lines →
    bytes ≡ log_text2 g → Says bytes (raw_log_of g) → Upgrades output g (upgraded_file output lines bytes)
its_outcome output g lines bytes count its says =
    record { readable = subst (λ (b : List ℕ). Says b (raw_log_of g)) its says; outcome = rw (count, its) refl }

-- such an outcome is spoken
pub upgrades_spoken : (output : Word) (g : Log) (o : Outcome) → Upgrades output g o → IsSpoken o.status
upgrades_spoken output g o holds = subst (λ (o : Outcome). IsSpoken o.status) (sym holds.outcome) tt
