-- Buffers that stand, one after another, and the claims that are left.
use Rattle.std.specs.Prelude.{◌≡◌, ℕ, ◌+◌, cond, nat_lt, max, List, [], ◌∷◌}
use Rattle.dsa_terms.specs.Buffers.{Instance, buffer, do_share}
use Rattle.dsa_terms.specs.Claims.{Claim, Entry, IsIn, up, step, child}
use Rattle.canonical_order.specs.Claims.{entry_of, HasBuffer}

-- the claim that is left of `root` after these buffers, the last one first
abbrev pub claim_after : Instance → Claim → List ℕ → Claim
claim_after I root [] = root
claim_after I root (b ∷ bs) = child I (claim_after I root bs) (entry_of (claim_after I root bs) b)

-- the up of b in that claim
abbrev pub offset_after : Instance → Claim → List ℕ → ℕ → ℕ
offset_after I root bs b = up I (entry_of (claim_after I root bs) b)

-- each buffer is one of the claim that was left before it
abbrev pub IsStack : Instance → Claim → List ℕ → Type 0
IsStack I root [] = Unit {0}
IsStack I root (b ∷ bs) = HasBuffer (claim_after I root bs) b × IsStack I root bs

-- each bound is its buffer's lowest
abbrev pub HasLowests : Instance → Claim → Type 0
HasLowests I root = (e : Entry) → IsIn e root → e.1 ≡ (buffer I e.0).lowest

-- how high c has to start by its lowest and the rule of children alone, before its alignment
abbrev pub raised : Instance → Claim → List ℕ → ℕ → ℕ
raised I root [] c = (buffer I c).lowest
raised I root (b ∷ bs) c = max (offset_after I root bs b + step I b c) (raised I root bs c)

-- the greatest top of the standing buffers that share a moment with c
abbrev pub top_under : Instance → Claim → List ℕ → ℕ → ℕ
top_under I root [] c = 0
top_under I root (b ∷ bs) c =
    max (cond (do_share (buffer I b) (buffer I c)) (offset_after I root bs b + (buffer I b).size) 0)
    (top_under I root bs c)

-- the ledge: the offset of the last one, and past it for a smaller number
abbrev pub ledge : Instance → Claim → List ℕ → ℕ → ℕ
ledge I root [] c = 0
ledge I root (b ∷ bs) c = offset_after I root bs b + cond (nat_lt c b) 1 0
