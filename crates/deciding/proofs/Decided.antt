-- What is decided of a capacity, and of the least one.
use Rattle.std.proofs.Common.{ℕ, List, Option, Some, subst, sym}
use Rattle.dsa_terms.specs.Buffers.{Instance}
use Rattle.dsa_terms.specs.Logs.{Log}
use Rattle.csv_instance.specs.Records.{Record}
use Rattle.min_capacity.specs.declared.brackets.Bracket.{Bracket}
use Rattle.min_capacity.specs.declared.brackets.Least.TheVariants as found
use Rattle.planner.specs.LeastCapacity.{AreWithinSteps, HasHalved, IsExactly, IsOpenAfter, IsWithinSteps}
use Rattle.planner.specs.Openings.{IsSpentAt}
use Rattle.run_status.specs.Spoken.{IsSpoken}
use Rattle.run_status.specs.declared.status.Status.TheVariants.{Least, Open}
use Rattle.run_course.specs.Course.{Outcome}
use Rattle.writings.specs.Writings.{Names}
use Rattle.writings.proofs.Answering.{gives_spoken}
use Rattle.deciding.specs.Deciding.{Finds, IsSolved, IsSought, Solves}

-- a capacity is left open
pub undecided : (C : ℕ) (steps : Option ℕ) (I : Instance) (b : Bracket) → IsSpentAt I C steps b →
    IsSolved I C steps (Open b.low b.high) (Some b.layout.items) b.log
undecided C steps I b spent =
    subst (λ (log : Option Log). IsSolved I C steps (Open b.low b.high) (Some b.layout.items) log) (sym spent.its_log)
    (record {
      number = spent.too_few.number;
      given = spent.too_few.given;
      short = record {
        few = spent.too_few.below_work;
        low = spent.low_is_bound;
        high = spent.high_is_best;
        not_below = spent.from_low;
        below = spent.below_high;
      };
      best = spent.layout_is_best;
      stays_open = spent.stays_open;
      by_bound = spent.by_bound;
    })

-- the least capacity is found
pub found_exactly : (steps : Option ℕ) (I : Instance) (b : Bracket) → IsExactly I b → IsWithinSteps I steps b →
    IsSought I steps (Least b.high) (Some b.layout.items) b.log
found_exactly steps I b exact within = record {
  is_least = exact.least;
  zero_for_none = exact.zero_for_none;
  planned = exact.chosen;
  layout = exact.layout;
  its_height = exact.its_height;
  refuted = exact.refuted_below;
  within_steps = subst (λ (low : ℕ). AreWithinSteps I steps low b.layout.items b.log) exact.ends_met within;
}

-- it is left open
pub left_open : (steps : Option ℕ) (I : Instance) (b : Bracket) → IsOpenAfter I steps b → IsWithinSteps I steps b →
    HasHalved I steps (found.Open b) → IsSought I steps (Open b.low b.high) (Some b.layout.items) b.log
left_open steps I b open_after within halved =
    subst (λ (log : Option Log). IsSought I steps (Open b.low b.high) (Some b.layout.items) log)
    (sym open_after.its_log)
    (record {
      number = open_after.too_few.number;
      given = open_after.too_few.given;
      short = record {
        few = open_after.too_few.below_work;
        from_bound = open_after.from_bound;
        to_best = open_after.to_best;
        one_more = subst (λ (k : Option ℕ). HasHalved I k (found.Open b)) open_after.too_few.given halved;
      };
      stays_open = open_after.stays_open;
      within_steps = subst (AreWithinSteps I steps b.low b.layout.items) open_after.its_log within;
    })

-- each end of `solve` is spoken
pub solved_spoken : (C : ℕ) (steps : Option ℕ) (names : Names) (table : List Record) (I : Instance) (o : Outcome) →
    Solves C steps names table I o → IsSpoken o.status
solved_spoken C steps names table I =
    gives_spoken (IsSolved I C steps) names table (λ layout log answer. answer) (λ layout log answer. answer)

-- each end of `least` is spoken
pub found_spoken : (steps : Option ℕ) (names : Names) (table : List Record) (I : Instance) (o : Outcome) →
    Finds steps names table I o → IsSpoken o.status
found_spoken steps names table I =
    gives_spoken (IsSought I steps) names table (λ layout log answer. answer) (λ layout log answer. answer)
