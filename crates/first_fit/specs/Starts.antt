-- Starting layouts with their heights.
use Rattle.std.specs.Prelude.{◌≡◌, ◌^◌, ◌<◌, ℕ, List, [], map, slice_index_or}
use Rattle.dsa_terms.specs.Buffers.{Instance}
use Rattle.dsa_terms.specs.Fits.{fitted}
use Rattle.dsa_terms.specs.Layouts.{IsLayout}
use Rattle.dsa_terms.specs.Parts.{offsets_of}
use Rattle.dsa_terms.specs.Plans.{layout_height}
use Rattle.first_fit.specs.Orders.{numbers_in_order}
use Rattle.first_fit.specs.Rules.{rule_of}
use Rattle.first_fit.specs.declared.fits.Fit.{Fit}
use Rattle.first_fit.specs.declared.orders.Order.{Order}
use Rattle.first_fit.specs.declared.start_list.Start.{Start}

-- the offsets of a start
abbrev pub offsets_in : Start → List ℕ
offsets_in s = s.offsets.items

-- the offsets of the start at a place
abbrev pub offsets_at : List Start → ℕ → List ℕ
offsets_at starts k = slice_index_or (map offsets_in starts) k []

-- the height is that of the offsets and below 2 ^ 54, and they are a layout at it
pub record IsStart (I : Instance) (s : Start) : Type 0 where
  pub height : s.height ≡ layout_height I (offsets_in s)
  pub limit : s.height < 2 ^ 54
  pub layout : IsLayout I s.height (offsets_in s)

-- the height of a start
abbrev pub height_in : Start → ℕ
height_in s = s.height

-- the offsets of the rule over the order
abbrev pub offsets_by : Instance → Fit × Order → List ℕ
offsets_by I way = offsets_of I (fitted (rule_of way.0) I (numbers_in_order way.1 I) [])
