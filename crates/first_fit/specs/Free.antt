-- The range that best-fit takes of several.
use Rattle.std.specs.Prelude.{ℕ, ◌≤◌, ◌<◌, cond, Option}
use Rattle.std.specs.declared.option.Option.TheVariants.{None, Some}
use Rattle.dsa_terms.specs.Buffers.{Instance}
use Rattle.dsa_terms.specs.Fits.{Range, holds, is_tighter}
use Rattle.first_fit.specs.declared.spans.Span.{Span}

-- the same addresses, as the definitions have them
abbrev pub range_of : Span → Range
range_of s = record { start = s.start; stop = s.stop }

-- of a range, if there is one, and another the tighter
abbrev pub narrower : Option Range → Range → Option Range
narrower None r = Some r
narrower (Some q) r = cond (is_tighter r q) (Some r) (Some q)

-- the other is passed over where it does not hold b
abbrev pub narrowed : Instance → ℕ → Option Range → Range → Option Range
narrowed I b best r = cond (holds I b r) (narrower best r) best

-- there are addresses, and the first is no higher than that one
pub record IsBelow (x : ℕ) (s : Span) : Type 0 where
  pub some : s.start < s.stop
  pub below : s.start ≤ x
