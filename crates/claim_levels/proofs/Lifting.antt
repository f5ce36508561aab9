-- A claim and the same one with the lows of its buffers as bounds.
use Rattle.std.proofs.Common.{◌≡◌, ℕ, ◌<◌, ◌≤◌, ◌%◌, inl, inr, sym, subst, arith}
use Rattle.std.specs.Int.{next_multiple_of}
use Rattle.claim_levels.proofs.Words.{Instance, IsInstance, buffer, Claim, Entry, IsIn, Rises, buffers_of, up, into_map, sound, buffers_of-map, HasBuffer, entry_of, entry_in, is_entry}
use Rattle.dsa_terms.proofs.Numbers.{next_cases, next_is_multiple}
use Rattle.claim_levels.specs.Lifted.{lift, lifted}

-- ---- the up of an up is the same
next_of_multiple : (x a : ℕ) → 1 ≤ a → x % a ≡ 0 → next_multiple_of x a ≡ x
next_of_multiple x a pos h = elim (next_cases x a pos) [
  | inl c ↦ c.1
  | inr c ↦ absurd (let k : 0 < x % a = c.0 in omega arith)
]

pub up_of_lift : (I : Instance) (e : Entry) → IsInstance I → up I (lift I e) ≡ up I e
unfolding up
up_of_lift I e s =
    next_of_multiple (next_multiple_of e.1 (buffer I e.0).alignment) (buffer I e.0).alignment (sound I e.0 s).1
    (next_is_multiple e.1 (buffer I e.0).alignment (sound I e.0 s).1)

-- ---- buffers and entries
pub buffers_of-lifted : (I : Instance) (l : Claim) → buffers_of (lifted I l) ≡ buffers_of l
buffers_of-lifted I l = buffers_of-map (up I) l

pub lifted_has : (I : Instance) (l : Claim) (b : ℕ) → HasBuffer l b → HasBuffer (lifted I l) b
lifted_has I l b h = subst (IsIn b) (sym (buffers_of-lifted I l)) h

pub lifted_rises : (I : Instance) (l : Claim) → Rises (buffers_of l) → Rises (buffers_of (lifted I l))
lifted_rises I l r = subst Rises (sym (buffers_of-lifted I l)) r

pub lifted_entry : (I : Instance) (l : Claim) (b : ℕ) → Rises (buffers_of l) → HasBuffer l b →
    lift I (entry_of l b) ≡ entry_of (lifted I l) b
lifted_entry I l b r h =
    is_entry (lifted I l) (lift I (entry_of l b)) (lifted_rises I l r) (into_map (lift I) l (entry_of l b)
    (entry_in l b h))
