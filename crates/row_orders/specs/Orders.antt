-- Orders of the buffers of an instance.
use Rattle.std.specs.Prelude.{ℕ, ◌-◌, List, length}
use Rattle.std.specs.List.{filter, sum_by}
use Rattle.dsa_terms.specs.Buffers.{Buffer, Instance, do_share}
use Rattle.dsa_terms.specs.Sorts.{ordered_by}
use Rattle.dsa_terms.specs.Orders.{area, falls_by}
use Rattle.dsa_terms.specs.Parts.{numbers}
use Rattle.row_orders.specs.declared.orders.Order.{Order}
use Rattle.row_orders.specs.declared.orders.Order.TheVariants.{Area, File, Lifetime, Met, Upper}

-- the sum of the sizes of the buffers of the instance that share a moment with b
unfoldable pub met : Instance → Buffer → ℕ
met I b = sum_by (λ (c : Buffer). c.size) (filter (do_share b) I)

-- what falls along the order: nothing where the buffers stay as they are
abbrev pub measure : Order → Instance → Buffer → ℕ
measure File I b = 0
measure Area I b = area b
measure Met I b = met I b
measure Lifetime I b = b.upper - b.lower
measure Upper I b = b.upper

-- the numbers of all buffers, the greater measure first, and of equal ones the smaller number
abbrev pub numbers_in : Order → Instance → List ℕ
numbers_in order I = ordered_by (falls_by (measure order I) I) (numbers (length I))
