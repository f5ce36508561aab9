-- Faults that a clause speaks of.
use Rattle.std.proofs.Common.{◌≡◌, Result, Err, subst}
use Rattle.dsa_model.specs.Fails.{IfFault, UnlessNoMemory}
use Rattle.dsa_model.specs.declared.fail.Fail.{Fail}
use Rattle.dsa_model.specs.declared.fail.Fail.TheVariants.{Fault}

-- what a clause says of the fault that came
pub fault_gives : {T E : Type 0} (P : T → Type 0) (Q : E → Type 0) (r : Result T (Fail E)) (f : Fail E) (e : E) →
    r ≡ Err f → f ≡ Fault e →
    UnlessNoMemory r P Q → Q e
fault_gives P Q r f e is f_is said =
    subst (λ x. IfFault Q x) f_is (subst (λ x. UnlessNoMemory x P Q) is said)
