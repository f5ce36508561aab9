-- From a claim to what is left of it.
use Rattle.std.proofs.Common.{ℕ, refl}
use Rattle.branching.proofs.Words.{Instance, IsInstance, Claim, Covers, child, up_at_or_above, HasBuffer, entry_of, Stands, from_child}

pub is_instance : (I : Instance) (l : Claim) → Stands I l → IsInstance I
is_instance I l s = λ k d h. (s.buffers k d h).sound

pub child_within : (I : Instance) (l : Claim) (b c : ℕ) → HasBuffer (child I l (entry_of l b)) c → HasBuffer l c
child_within I l b c h = (from_child I l b c h).0

pub covers_itself : (I : Instance) (l : Claim) → IsInstance I → Covers I l l
covers_itself I l s e i = (e, i, refl, up_at_or_above I e s)
