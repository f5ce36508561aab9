-- Numbers of stacked buffers.
use Rattle.std.proofs.Common.{◌≡◌, ◌^◌, ℕ, zero, suc, ◌+◌, ◌*◌, ◌/◌, ◌%◌, ◌<◌, ◌≤◌, true, length, arith}
use Rattle.std.specs.Int.{next_multiple_of}
use Rattle.dsa_terms.specs.Buffers.{Buffer, Instance}
use Rattle.dsa_terms.specs.Claims.{Claim}
use Rattle.canonical_order.specs.Stands.{Stands}
use Rattle.canonical_order.proofs.CoverLemmas.{length_within}
use Rattle.dsa_terms.proofs.Moments.{and_true}
use Rattle.dsa_terms.proofs.Numbers.{multiple_is, next_is_below}
use Rattle.dsa_terms.proofs.NumberTests.{equal}
use Rattle.dsa_model.specs.Buffer.{IsBuffer, buffer_limit}
use Rattle.refute_log.specs.Stacks.{stacks}

-- a modulus that divides an alignment is no greater
divisor_limit : (a g : ℕ) → 1 ≤ a → a % g ≡ 0 → g ≤ a
divisor_limit a g pos h = let e : g * (a / g) ≡ a = multiple_is a g h in go (a / g) e
  where
    go : (q : ℕ) → g * q ≡ a → g ≤ a
    go zero e = absurd (omega arith)
    go (suc q) e = grind arith

pub rounded_limit : (b : Buffer) (bound T H G r : ℕ) → IsBuffer b → 1 ≤ G → stacks b bound T H G ≡ true →
    r ≡ next_multiple_of b.size G → r ≤ 2 ^ 41
rounded_limit b bound T H G r k pos h e =
    rw e (below_both (next_is_below b.size G pos) k.within_size k.within_alignment
    (divisor_limit b.alignment G k.sound.1 (equal (b.alignment % G) 0 (and_true _ _ h).1)))
  where
    below_both : {m s a g : ℕ} → m < s + g → s ≤ 2 ^ 40 → a ≤ 2 ^ 32 → g ≤ a → m ≤ 2 ^ 41
    below_both m s a g = omega arith

-- a claim of an instance has at most `buffer_limit` buffers
pub few : (I : Instance) (l items : Claim) → Stands I l → items ≡ l → length items ≤ buffer_limit
few I l items s e = rw e (let k : length l ≤ length I = length_within l (length I) s.claim.rises s.claim.in_range in
    let m : length I ≤ buffer_limit = s.count in omega arith)
