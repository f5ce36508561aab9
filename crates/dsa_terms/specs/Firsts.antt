-- The first fault of several, in order.
use Rattle.std.specs.Prelude.{Bool, if◌then◌else◌, List, [], ◌∷◌, Option}
use Rattle.std.specs.declared.option.Option.TheVariants.{Some, None}
use Rattle.std.specs.Option.{option_or}

-- the fault where the test holds, and else none
abbrev pub when : {F : Type 0} → Bool → F → Option F
when test f = if test then Some f else None

-- the first of these that is a fault
abbrev pub first_fault : {F : Type 0} → List (Option F) → Option F
first_fault [] = None
first_fault (f ∷ fs) = option_or f (first_fault fs)
