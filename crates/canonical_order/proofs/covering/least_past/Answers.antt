use Rattle.std.proofs.Common.{◌≡◌, ◌∙◌, ◌+◌, ℕ, Bool, cond, refl, sym, ap, nat_lt, true, false}
use mir.Val.{bool_byte}
use Rattle.dsa_terms.specs.Buffers.{do_share, buffer}
use Rattle.dsa_terms.specs.Claims.{step}
use Rattle.canonical_order.proofs.covering.least_past.Goals as goal

-- a test as a byte is one where it holds
byte_is : (t : Bool) → bool_byte t ≡ cond t 1 0
byte_is true = refl
byte_is false = refl

pub returns-then-do_share-clause-value : goal.returns-then-do_share-clause-value
unfolding step
returns-then-do_share-clause-value c =
    let s : do_share (buffer c.args.instance.now c.args.b) (buffer c.args.instance.now c.args.c) ≡ true =
    sym c.do_share.ensures ∙ c.if-do_share.true in
    rw s c.requires.end

pub returns-else-do_share-clause-value : goal.returns-else-do_share-clause-value
unfolding step
returns-else-do_share-clause-value c =
    let s : do_share (buffer c.args.instance.now c.args.b) (buffer c.args.instance.now c.args.c) ≡ false =
    sym c.do_share.ensures ∙ c.if-do_share.false in
    rw s (ap (λ (n : ℕ). c.args.low_b + n) (byte_is (nat_lt c.args.c c.args.b)))
