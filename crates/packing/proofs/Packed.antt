-- What packing comes to, as it is written.
use Rattle.std.proofs.Common.{◌≡◌, ℕ, ◌<◌, ◌≤◌, List, Option, None, Some, Result, Ok, Err, IfOk, sym, ap, ◌∙◌, subst, arith}
use Rattle.std.specs.Prelude.{IfSome}
use Rattle.dsa_terms.specs.Buffers.{Instance}
use Rattle.dsa_terms.specs.Logs.{Log}
use Rattle.csv_instance.specs.Records.{Record}
use Rattle.min_capacity.specs.declared.brackets.Bracket.{Bracket}
use Rattle.packer.specs.Packs.{IsPackedOpen, IsPackedTight, RefutesOneLess}
use Rattle.run_status.specs.Spoken.{IsSpoken}
use Rattle.run_status.specs.declared.status.Status.TheVariants.{Least, Open}
use Rattle.run_status.specs.declared.status.Status.{Status}
use Rattle.dsa_model.specs.declared.fail.NoMemory.{NoMemory}
use Rattle.run_course.specs.Course.{Outcome, Write, writes}
use Rattle.run_course.specs.Prepares.{outcome_of}
use Rattle.run_course.specs.declared.prepared.Prepared.{Prepared}
use Rattle.writings.specs.Writings.{Names}
use Rattle.writings.proofs.Answering.{gives_spoken}
use Rattle.packing.specs.Packing.{IsPacked, Packs}
use Rattle.packing.specs.Used.{IfLeavesOpen}

-- the least capacity is found
pub packs_least : (within : Option ℕ) (steps : ℕ) (I : Instance) (b : Bracket) → within ≡ None →
    IsPackedTight I steps b → IsPacked I within steps (Least b.high) (Some b.layout.items) b.log
packs_least within steps I b none h = (
  none,
  record {
    is_least = h.least;
    zero_for_none = h.zero_for_none;
    layout = h.between.layout;
    its_height = h.between.its_height;
    refuted = subst (λ (C : ℕ). RefutesOneLess I C steps b.log) h.ends_met h.between.refuted_below;
  },
)

-- it is left open
pub leaves_open : (within : Option ℕ) (steps : ℕ) (I : Instance) (b : Bracket) → IsPackedOpen I steps b →
    IfSome within (λ C. (b.low ≤ C) × (C < b.high)) →
    IsPacked I within steps (Open b.low b.high) (Some b.layout.items) b.log
leaves_open within steps I b h between = go b.log h.between.refuted_below
  where
    go : (o : Option Log) → RefutesOneLess I b.low steps o →
        IsPacked I within steps (Open b.low b.high) (Some b.layout.items) o
    go None zero = absurd (let some = h.positive in omega arith)
    go (Some log) refuted = record {
      ends_apart = h.ends_apart;
      positive = h.positive;
      ends = record { from_bound = h.from_bound; to_best = h.to_best; between = between };
      layout = h.between.layout;
      its_height = h.between.its_height;
      refuted = refuted.1;
    }

-- each end is spoken
pub packed_spoken : (within : Option ℕ) (steps : ℕ) (names : Names) (table : List Record) (I : Instance) (o : Outcome) →
    Packs within steps names table I o → IsSpoken o.status
packed_spoken within steps names table I =
    gives_spoken (IsPacked I within steps) names table (λ layout log answer. answer) (λ layout log answer. answer)

-- ---- where it is left open
-- a fact holds whatever the outcome
pub of_each : (P : Type 0) (r : Result Prepared NoMemory) → P → IfOk r (λ p. IfLeavesOpen (outcome_of p) P)
of_each P (Ok p) holds = λ low high e. holds
of_each P (Err e) holds = tt

-- and any does where a status is told that leaves nothing open
pub closed_exhausts : (P : Type 0) (ws : List Write) (s : Status) (r : Result Prepared NoMemory) →
    IfOk r (λ p. outcome_of p ≡ writes ws s) → ((low high : ℕ) → s ≡ Open low high → P) →
    IfOk r (λ p. IfLeavesOpen (outcome_of p) P)
closed_exhausts P ws s (Ok p) is closed = λ low high e. closed low high (sym (ap (λ (o : Outcome). o.status) is) ∙ e)
closed_exhausts P ws s (Err e) is closed = tt
