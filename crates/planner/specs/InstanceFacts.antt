-- The facts of an instance.
use Rattle.std.specs.Prelude.{◌≡◌, length}
use Rattle.dsa_terms.specs.Bounds.{bound_modulus, lower_bound}
use Rattle.dsa_terms.specs.Buffers.{Instance}
use Rattle.dsa_terms.specs.Parts.{parts}
use Rattle.dsa_terms.specs.Plans.{layout_height}
use Rattle.dsa_terms.specs.Starts.{best_start}
use Rattle.layout_report.specs.declared.facts.Facts.{Facts}
use Rattle.load_profile.specs.LoadProfile.{IsPeakOf}

-- how many buffers and parts, the peak, the lower bound with the least modulus that reaches it, and the best height
pub record AreFactsOf (I : Instance) (facts : Facts) : Type 0 where
  pub buffers : facts.buffers ≡ length I
  pub peak : IsPeakOf I facts.peak
  pub parts : facts.parts ≡ length (parts I)
  pub bound : facts.bound ≡ lower_bound I
  pub modulus : facts.modulus ≡ bound_modulus I
  pub best : facts.best ≡ layout_height I (best_start I)
