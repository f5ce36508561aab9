-- What is found in another order.
use Rattle.std.specs.Prelude.{ℕ, ⊤, zero, suc, ◌+◌, ◌-◌, ◌/◌}
use Rattle.dsa_terms.specs.Buffers.{Instance}
use Rattle.dsa_terms.specs.Layouts.{IsLayout}
use Rattle.portfolio.specs.declared.elsewhere.Elsewhere.{Elsewhere}
use Rattle.portfolio.specs.declared.elsewhere.Elsewhere.TheVariants.{Layout, Refuted, Spent}

-- a layout is one of the instance itself at the capacity
abbrev pub IsCarriedBack : Instance → ℕ → Elsewhere → Type 0
IsCarriedBack I C (Layout offsets) = IsLayout I C offsets.items
IsCarriedBack I C Refuted = ⊤
IsCarriedBack I C Spent = ⊤

-- the fact holds where the units are used up
abbrev pub IfNoneFound : Elsewhere → Type 0 → Type 0
IfNoneFound (Layout offsets) P = ⊤
IfNoneFound Refuted P = ⊤
IfNoneFound Spent P = P

-- what is left of the units when so many searches in turn, with one more to come after them, have each used what was
-- left, divided by the number of searches still to come
unfoldable pub left_after : (searches units : ℕ) → ℕ
left_after zero units = units
left_after (suc k) units = left_after k (units - units / (k + 2))
