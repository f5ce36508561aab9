use Rattle.std.proofs.Common.{rules, ◌≡◌, true}
use Rattle.dsa_terms.specs.Fits.{holds}
use Rattle.first_fit.specs.Free.{IsBelow, range_of}
use Rattle.first_fit.proofs.Sweeping.{is_kept, is_taken}
use Rattle.first_fit.proofs.places.narrowed.Goals as goal

pub returns-then-other-range-clause-value : goal.returns-then-other-range-clause-value
returns-then-other-range-clause-value c =
    let t : holds c.args.instance.now c.args.b (range_of c.args.range) ≡ true = search rules in
    let q : IsBelow c.args.range.start c.in-Some.other = rw c.in-Some.is at c.requires.below in
    is_kept _ _ _ _ _ c.in-Some.is t q.below c.if-other-range.true

pub returns-else-other-range-clause-value : goal.returns-else-other-range-clause-value
returns-else-other-range-clause-value c =
    let t : holds c.args.instance.now c.args.b (range_of c.args.range) ≡ true = search rules in
    is_taken _ _ _ _ _ c.in-Some.is t c.if-other-range.false
