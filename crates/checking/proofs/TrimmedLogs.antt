-- The outcome of a log that was trimmed.
use Rattle.std.proofs.Common.{◌≡◌, ℕ, List, [], ◌∷◌, length, refl, subst, sym}
use Rattle.dsa_terms.specs.Buffers.{Instance}
use Rattle.dsa_terms.specs.Logs.{Log, IsAccepted}
use Rattle.dsa_terms.specs.Trims.{IsTrimOf}
use Rattle.log_text.specs.RawTexts.{IsTextOf}
use Rattle.log_text.specs.Text.{log_text, raw_log_of}
use Rattle.command_words.specs.Options.{Word}
use Rattle.command_words.specs.declared.role.Role.TheVariants as role
use Rattle.run_status.specs.Spoken.{IsSpoken}
use Rattle.run_status.specs.declared.status.Status.TheVariants.{Trimmed}
use Rattle.run_course.specs.Course.{Outcome, writes}
use Rattle.checking.specs.Checking.{Trims}

-- these bytes are written to the output, and the numbers of lines are told
abbrev pub trimmed_file : Word → ℕ → ℕ → List ℕ → Outcome
trimmed_file output before after bytes =
    writes (record { role = role.Output; name = output; bytes = bytes } ∷ []) (Trimmed before after)

pub its_outcome : (output : Word) (I : Instance) (g t : Log) (before after : ℕ) (bytes : List ℕ) → IsTrimOf g t →
    IsAccepted I t → before ≡ length g.lines → after ≡ length t.lines → bytes ≡ log_text t →
    IsTextOf bytes (raw_log_of t) → Trims output I g (trimmed_file output before after bytes)
its_outcome output I g t before after bytes is accepted one two its reads = record {
  trim = t;
  is_trim = is;
  accepted = accepted;
  readable = subst (λ (b : List ℕ). IsTextOf b (raw_log_of t)) its reads;
  outcome = rw (one, two, its) refl;
}

-- such an outcome is spoken
pub trims_spoken : (output : Word) (I : Instance) (g : Log) (o : Outcome) → Trims output I g o → IsSpoken o.status
trims_spoken output I g o holds = subst (λ (o : Outcome). IsSpoken o.status) (sym holds.outcome) tt
