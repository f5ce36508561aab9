-- The orders in which the starts take the buffers.
use Rattle.std.specs.Prelude.{ℕ, ◌-◌, ◌^◌, Bool, List, length}
use Rattle.dsa_terms.specs.Buffers.{Buffer, Instance, buffer}
use Rattle.dsa_terms.specs.Sorts.{ordered_by}
use Rattle.dsa_terms.specs.Orders.{area, falls_by, rises_by}
use Rattle.dsa_terms.specs.Parts.{numbers}
use Rattle.first_fit.specs.declared.orders.Order.{Order}
use Rattle.first_fit.specs.declared.orders.Order.TheVariants.{AreaFalling, LowerRising, SizeFalling}

-- which of two buffers comes first
abbrev pub before_by : Order → Instance → ℕ → ℕ → Bool
before_by SizeFalling I = falls_by (λ (b : Buffer). b.size) I
before_by LowerRising I = rises_by (λ (b : Buffer). b.lower) I
before_by AreaFalling I = falls_by area I

-- all buffers in that order
abbrev pub numbers_in_order : Order → Instance → List ℕ
numbers_in_order order I = ordered_by (before_by order I) (numbers (length I))

-- a number that rises along the order
abbrev pub order_key : Order → Buffer → ℕ
order_key SizeFalling b = 2 ^ 128 - 1 - b.size
order_key LowerRising b = b.lower
order_key AreaFalling b = 2 ^ 128 - 1 - area b

-- a buffer's key before its number
abbrev pub keyed : Order → Instance → ℕ → ℕ × ℕ
keyed order I b = (order_key order (buffer I b), b)
