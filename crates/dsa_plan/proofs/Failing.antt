-- What is said of an answer, a fault or want of memory, and what follows.
use Rattle.std.proofs.Common.{Result, Ok, Err}
use Rattle.dsa_model.specs.Fails.{IfFault, UnlessNoMemory}
use Rattle.dsa_model.specs.declared.fail.Fail.{Fail}
use Rattle.dsa_model.specs.declared.fail.Fail.TheVariants.{Fault, NoMemory}

pub if_fault : {E : Type 0} (P Q : E → Type 0) (failure : Fail E) → ((f : E) → P f → Q f) → IfFault P failure →
    IfFault Q failure
if_fault P Q (Fault f) h p = h f p
if_fault P Q NoMemory h p = tt

pub unless_no_memory : {T E : Type 0} (P R : T → Type 0) (Q S : E → Type 0) (r : Result T (Fail E)) →
    ((x : T) → P x → R x) → ((f : E) → Q f → S f) → UnlessNoMemory r P Q → UnlessNoMemory r R S
unless_no_memory P R Q S (Ok x) h k p = h x p
unless_no_memory P R Q S (Err failure) h k p = if_fault Q S failure k p
