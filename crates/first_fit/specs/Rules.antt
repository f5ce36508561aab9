-- The two rules by which a buffer gets its offset, and the orders that they go over.
use Rattle.std.specs.Prelude.{◌≡◌, ◌<◌, ℕ, List, length}
use Rattle.std.specs.List.{All}
use Rattle.dsa_terms.specs.Buffers.{Instance}
use Rattle.dsa_terms.specs.Fits.{FitRule, best_place, first_place}
use Rattle.dsa_start_laws.specs.Fitting.{HasEach}
use Rattle.first_fit.specs.declared.fits.Fit.{Fit}
use Rattle.first_fit.specs.declared.fits.Fit.TheVariants.{Best, First}

-- where a rule puts a buffer
abbrev pub rule_of : Fit → FitRule
rule_of First = first_place
rule_of Best = best_place

-- each buffer of the instance stands once in the list
pub record IsOrderOf (I : Instance) (order : List ℕ) : Type 0 where
  pub count : length order ≡ length I
  pub in_range : All (λ b. b < length I) order
  pub each : HasEach I order
