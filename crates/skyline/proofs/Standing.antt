-- The up of a claim after standing buffers is the least multiple above their tops and the ledge.
use Rattle.std.proofs.Common.{◌≡◌, ◌⊎◌, inl, inr, ◌+◌, ◌≤◌, ℕ, zero, suc, Bool, true, false, cond, nat_lt, max, List, [], ◌∷◌, refl, ap, sym, ◌∙◌, arith}
use Rattle.std.specs.Int.{next_multiple_of}
use Rattle.dsa_terms.specs.Buffers.{Instance, IsInstance, buffer, do_share}
use Rattle.dsa_terms.specs.Claims.{Claim, Entry, IsIn, up, step}
use Rattle.dsa_terms.proofs.Numbers.{next_at_or_above, next_is_multiple, next_is_least}
use Rattle.dsa_terms.proofs.Moments.{sound}
use Rattle.dsa_terms.proofs.NumberTests.{less, not_less}
use Rattle.dsa_terms.specs.Parts.{whole}
use Rattle.dsa_search_laws.proofs.Members.{in_whole}
use Rattle.dsa_search_laws.proofs.Placing.{of_child}
use Rattle.canonical_order.proofs.Entries.{entry_in}
use Rattle.skyline.specs.Standing.{claim_after, offset_after, IsStack, raised, top_under, ledge, HasLowests}
use Rattle.canonical_order.specs.Claims.{entry_of, HasBuffer}

both_ways : (x y : ℕ) → x ≤ y → y ≤ x → x ≡ y
both_ways x y h k = omega arith

-- rounding up within a maximum changes nothing
next_of_max : (x z a : ℕ) → 1 ≤ a → next_multiple_of (max (next_multiple_of x a) z) a ≡ next_multiple_of (max x z) a
next_of_max x z a pos =
    both_ways (next_multiple_of (max (next_multiple_of x a) z) a) (next_multiple_of (max x z) a)
    (next_is_least (max (next_multiple_of x a) z) a (next_multiple_of (max x z) a) pos
    (join (next_multiple_of x a) z (next_multiple_of (max x z) a)
    (next_is_least x a (next_multiple_of (max x z) a) pos (under x z (next_multiple_of (max x z) a)
    (next_at_or_above (max x z) a pos)).0 (next_is_multiple (max x z) a pos))
    (under x z (next_multiple_of (max x z) a) (next_at_or_above (max x z) a pos)).1)
    (next_is_multiple (max x z) a pos))
    (next_is_least (max x z) a (next_multiple_of (max (next_multiple_of x a) z) a) pos
    (join x z (next_multiple_of (max (next_multiple_of x a) z) a)
    (after x (next_multiple_of x a) (next_multiple_of (max (next_multiple_of x a) z) a) (next_at_or_above x a pos)
    (under (next_multiple_of x a) z (next_multiple_of (max (next_multiple_of x a) z) a)
    (next_at_or_above (max (next_multiple_of x a) z) a pos)).0)
    (under (next_multiple_of x a) z (next_multiple_of (max (next_multiple_of x a) z) a)
    (next_at_or_above (max (next_multiple_of x a) z) a pos)).1)
    (next_is_multiple (max (next_multiple_of x a) z) a pos))
  where
    under : (x z y : ℕ) → max x z ≤ y → (x ≤ y) × (z ≤ y)
    under x z y h = (omega arith, omega arith)

    join : (x z y : ℕ) → x ≤ y → z ≤ y → max x z ≤ y
    join x z y h k = omega arith

    after : (x y z : ℕ) → x ≤ y → y ≤ z → x ≤ z
    after x y z h k = omega arith

-- a whole claim has the lowests
pub has_lowests : (I : Instance) (p : List ℕ) → HasLowests I (whole I p)
has_lowests I p e i = (in_whole I p e i).1

-- the up of an entry with its lowest
up_of_lowest : (I : Instance) (e : Entry) → e.1 ≡ (buffer I e.0).lowest →
    up I e ≡ next_multiple_of (buffer I e.0).lowest (buffer I e.0).alignment
unfolding up
up_of_lowest I e z = ap (λ x. next_multiple_of x (buffer I e.0).alignment) z

-- the up of an entry of a child
up_of_child : (I : Instance) (c x z r : ℕ) → IsInstance I → x ≡ next_multiple_of r (buffer I c).alignment →
    up I (c, max x z) ≡ next_multiple_of (max z r) (buffer I c).alignment
unfolding up
up_of_child I c x z r s e =
    ap (λ y. next_multiple_of (max y z) (buffer I c).alignment) e ∙ next_of_max r z (buffer I c).alignment
    (sound I c s).1
    ∙ ap (λ y. next_multiple_of y (buffer I c).alignment) (let k : max r z ≡ max z r = omega arith in k)

-- by the rule of children alone
pub up_is_raised : (I : Instance) (root : Claim) (bs : List ℕ) (e : Entry) → IsInstance I → HasLowests I root →
    IsIn e (claim_after I root bs) →
    up I e ≡ next_multiple_of (raised I root bs e.0) (buffer I e.0).alignment
up_is_raised I root [] e s w i = up_of_lowest I e (w e i)
up_is_raised I root (b ∷ bs) e s w i =
    let f = of_child I (claim_after I root bs) (entry_of (claim_after I root bs) b) e i in
    let h = up_is_raised I root bs f.0 s w f.1 in
    let first : e.0 ≡ f.0.0 = ap (λ (x : Entry). x.0) f.3 in
    ap (up I) f.3 ∙ up_of_child I f.0.0 (up I f.0) (offset_after I root bs b + step I b f.0.0)
    (raised I root bs f.0.0) s h
    ∙ ap (λ c. next_multiple_of (max (offset_after I root bs b + step I b c) (raised I root bs c))
    (buffer I c).alignment) (sym first)

-- the offset of a buffer of the claim
pub offset_is_raised : (I : Instance) (root : Claim) (bs : List ℕ) (b : ℕ) → IsInstance I → HasLowests I root →
    HasBuffer (claim_after I root bs) b →
    offset_after I root bs b ≡ next_multiple_of (raised I root bs b) (buffer I b).alignment
offset_is_raised I root bs b s w i = up_is_raised I root bs (entry_of (claim_after I root bs) b) s w
    (entry_in (claim_after I root bs) b i)

-- ---- the rule of children, split into tops and the ledge
-- a step is the size or what the ledge adds
step_cases : (I : Instance) (b c : ℕ) →
    ((do_share (buffer I b) (buffer I c) ≡ true) × (step I b c ≡ (buffer I b).size)) ⊎
    ((do_share (buffer I b) (buffer I c) ≡ false) × (step I b c ≡ cond (nat_lt c b) 1 0))
unfolding step
step_cases I b c = go (do_share (buffer I b) (buffer I c)) refl
  where
    go : (t : Bool) → do_share (buffer I b) (buffer I c) ≡ t →
        ((do_share (buffer I b) (buffer I c) ≡ true) × (cond t (buffer I b).size (cond (nat_lt c b) 1 0) ≡
        (buffer I b).size)) ⊎ ((do_share (buffer I b) (buffer I c) ≡ false) ×
        (cond t (buffer I b).size (cond (nat_lt c b) 1 0) ≡ cond (nat_lt c b) 1 0))
    go true e = inl (e, refl)
    go false e = inr (e, refl)

at_most_one : (t : Bool) → cond t 1 0 ≤ 1
at_most_one true = omega arith
at_most_one false = omega arith

-- the ledge only rises
ledge_step : (y z b c d s : ℕ) → z + s ≤ y → ((s ≡ 0) → d ≤ b) → z + cond (nat_lt c d) 1 0 ≤ y + cond (nat_lt c b) 1 0
ledge_step y z b c d zero le rise = go (nat_lt c d) refl (nat_lt c b) refl
  where
    go : (t : Bool) → nat_lt c d ≡ t → (u : Bool) → nat_lt c b ≡ u → z + cond t 1 0 ≤ y + cond u 1 0
    go true e true f = omega arith
    go false e true f = omega arith
    go false e false f = omega arith
    go true e false f = absurd (let p = less c d e in let q = not_less c b f in let r : d ≤ b = rise refl in
        omega arith)
ledge_step y z b c d (suc s) le rise = let k = at_most_one (nat_lt c d) in omega arith

-- where a step is 0, the two share no moment and the later has no smaller number
no_step : (I : Instance) (d b : ℕ) → IsInstance I → step I d b ≡ 0 → d ≤ b
no_step I d b s h = elim (step_cases I d b) [
  | inl q ↦ absurd (let k = (sound I d s).0 in let e = q.1 in omega arith)
  | inr q ↦ not_below (nat_lt b d) refl (sym q.1 ∙ h)
]
  where
    not_below : (t : Bool) → nat_lt b d ≡ t → cond {A = ℕ} t 1 0 ≡ 0 → d ≤ b
    not_below true e z = absurd (omega arith)
    not_below false e z = not_less b d e

pub ledge_rises : (I : Instance) (root : Claim) (bs : List ℕ) (b c : ℕ) → IsInstance I → HasLowests I root →
    HasBuffer (claim_after I root bs) b →
    ledge I root bs c ≤ offset_after I root bs b + cond (nat_lt c b) 1 0
ledge_rises I root [] b c s w i = omega arith
ledge_rises I root (d ∷ ds) b c s w i =
    let e = offset_is_raised I root (d ∷ ds) b s w i in
    let k = next_at_or_above (raised I root (d ∷ ds) b) (buffer I b).alignment (sound I b s).1 in
    ledge_step (offset_after I root (d ∷ ds) b) (offset_after I root ds d) b c d (step I d b) (omega arith)
    (no_step I d b s)

-- one more buffer: its step is its size within the tops, or what the ledge adds
one_more : (y size more x t f r w : ℕ) → 1 ≤ size → more ≤ 1 → f ≤ y + more → r ≡ max w (max t f) →
    (x ≡ size → max (y + x) r ≡ max w (max (max (y + size) t) (y + more)))
    × (x ≡ more → max (y + x) r ≡ max w (max t (y + more)))
one_more y size more x t f r w big small le e = ((λ h. omega arith), (λ h. omega arith))

split_more : (I : Instance) (root : Claim) (bs : List ℕ) (b c : ℕ) → IsInstance I →
    ledge I root bs c ≤ offset_after I root bs b + cond (nat_lt c b) 1 0 →
    raised I root bs c ≡ max (buffer I c).lowest (max (top_under I root bs c) (ledge I root bs c)) →
    raised I root (b ∷ bs) c ≡ max (buffer I c).lowest (max (top_under I root (b ∷ bs) c) (ledge I root (b ∷ bs) c))
split_more I root bs b c s le h = go (step_cases I b c)
  where
    more : (step I b c ≡ (buffer I b).size → max (offset_after I root bs b + step I b c) (raised I root bs c) ≡ max
        (buffer I c).lowest (max (max (offset_after I root bs b + (buffer I b).size) (top_under I root bs c))
        (offset_after I root bs b + cond (nat_lt c b) 1 0)))
        × (step I b c ≡ cond (nat_lt c b) 1 0 → max (offset_after I root bs b + step I b c) (raised I root bs c) ≡ max
        (buffer I c).lowest (max (top_under I root bs c) (offset_after I root bs b + cond (nat_lt c b) 1 0)))
    more = one_more (offset_after I root bs b) (buffer I b).size (cond (nat_lt c b) 1 0) (step I b c)
        (top_under I root bs c) (ledge I root bs c) (raised I root bs c) (buffer I c).lowest
        (sound I b s).0 (at_most_one (nat_lt c b)) le h

    no_top : (t : ℕ) → t ≡ max 0 t
    no_top t = omega arith

    go : ((do_share (buffer I b) (buffer I c) ≡ true) × (step I b c ≡ (buffer I b).size)) ⊎
        ((do_share (buffer I b) (buffer I c) ≡ false) × (step I b c ≡ cond (nat_lt c b) 1 0)) →
        raised I root (b ∷ bs) c ≡ max (buffer I c).lowest (max (top_under I root (b ∷ bs) c) (ledge I root (b ∷ bs) c))
    go (inl q) = rw q.0 (more.0 q.1)
    go (inr q) = rw q.0 (more.1 q.1
        ∙ ap (λ t. max (buffer I c).lowest (max t (offset_after I root bs b + cond (nat_lt c b) 1 0)))
        (no_top (top_under I root bs c)))

pub raised_is_split : (I : Instance) (root : Claim) (bs : List ℕ) (c : ℕ) → IsInstance I → HasLowests I root →
    IsStack I root bs →
    raised I root bs c ≡ max (buffer I c).lowest (max (top_under I root bs c) (ledge I root bs c))
raised_is_split I root [] c s w h = omega arith
raised_is_split I root (b ∷ bs) c s w h = split_more I root bs b c s (ledge_rises I root bs b c s w h.0)
    (raised_is_split I root bs c s w h.1)

-- the up of a buffer after standing ones is the least multiple at or above their tops and the ledge
pub up_is_over_tops : (I : Instance) (root : Claim) (bs : List ℕ) (e : Entry) → IsInstance I → HasLowests I root →
    IsStack I root bs → IsIn e (claim_after I root bs) →
    up I e
    ≡ next_multiple_of (max (buffer I e.0).lowest (max (top_under I root bs e.0) (ledge I root bs e.0)))
    (buffer I e.0).alignment
up_is_over_tops I root bs e s w h i =
    up_is_raised I root bs e s w i ∙ ap (λ x. next_multiple_of x (buffer I e.0).alignment)
    (raised_is_split I root bs e.0 s w h)
