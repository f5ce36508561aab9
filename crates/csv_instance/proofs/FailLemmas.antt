-- What a failure says, of another fact.
use Rattle.std.proofs.Common.{Result, Ok, Err, IfOk}
use Rattle.dsa_model.specs.Fails.{IfFault, UnlessNoMemory}
use Rattle.dsa_model.specs.declared.fail.Fail.{Fail}
use Rattle.dsa_model.specs.declared.fail.Fail.TheVariants.{Fault, NoMemory}

pub IfFault-map : {E : Type 0} (P Q : E → Type 0) (e : Fail E) → ((f : E) → P f → Q f) → IfFault P e → IfFault Q e
IfFault-map P Q (Fault f) g h = g f h
IfFault-map P Q NoMemory g h = tt

pub UnlessNoMemory-map : {T E : Type 0} {P P2 : T → Type 0} {Q Q2 : E → Type 0} (r : Result T (Fail E))
    → ((x : T) → P x → P2 x) → ((f : E) → Q f → Q2 f) → UnlessNoMemory r P Q → UnlessNoMemory r P2 Q2
UnlessNoMemory-map (Ok x) g k h = g x h
UnlessNoMemory-map (Err (Fault f)) g k h = k f h
UnlessNoMemory-map (Err NoMemory) g k h = tt

pub if_ok-of : {T E : Type 0} {P R : T → Type 0} (Q : E → Type 0) (r : Result T (Fail E)) → ((x : T) → P x → R x)
    → UnlessNoMemory r P Q → IfOk r R
if_ok-of Q (Ok x) g h = g x h
if_ok-of Q (Err f) g h = tt

pub IfOk-map : {T E : Type 0} {P R : T → Type 0} (r : Result T E) → ((x : T) → P x → R x) → IfOk r P → IfOk r R
IfOk-map (Ok x) g h = g x h
IfOk-map (Err f) g h = tt
