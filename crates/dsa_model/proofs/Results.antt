-- What holds after a call that failed.
use Rattle.std.proofs.Common.{◌≡◌, Result, Ok, Err, OnErr}
use Rattle.std.specs.Result.{IsErrAnd}
use Rattle.dsa_model.specs.Fails.{IfFault, UnlessNoMemory}
use Rattle.dsa_model.specs.declared.fail.Fail.{Fail}
use Rattle.dsa_model.specs.declared.fail.Fail.TheVariants.{Fault, NoMemory}

pub on_err : {T E P : Type 0} (r : Result T E) → P → OnErr r P
on_err (Ok v) p = tt
on_err (Err e) p = p

-- a fault that is passed on
pub passed_on : {T E : Type 0} (r : Result T (Fail E)) (P : T → Type 0) (Q R : E → Type 0) (e : Fail E) →
    IsErrAnd r (λ f. f ≡ e) → IfFault Q e → ((f : E) → Q f → R f) → UnlessNoMemory r P R
passed_on (Ok v) P Q R e h k l = absurd h
passed_on (Err f) P Q R (Fault x) h k l = rw h (l x k)
passed_on (Err f) P Q R NoMemory h k l = rw h tt
