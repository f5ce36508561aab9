-- What an answer of the search takes at least.
use Rattle.std.proofs.Common.{◌≡◌, ℕ, zero, suc, ◌+◌, ◌^◌, ◌<◌, ◌≤◌, Bool, true, false, cond, nat_le, length, Option, Some, None, refl, ap, arith, min}
use Rattle.search_core.proofs.Words.{Instance, is_at_most}
use Rattle.refute_log.specs.Answers.{Offsets}
use Rattle.refute_log.specs.Decided.{answer_of}
use Rattle.refute_log.specs.declared.decided.Decided.{Decided}
use Rattle.refute_log.specs.declared.decided.Decided.TheVariants.{Layout, Refuted, Spent}
use Rattle.search_core.specs.Decisions.{allowance_of, charge_of, where_numbered}
use Rattle.search_core.specs.Meters.{AreMore, Units, units_counted}
use Rattle.search_core.specs.Outcomes.{LinesAreCounted, UnlessSpent}

none_counted : (allowance n : ℕ) → cond (nat_le allowance allowance) 0 n ≡ 0
none_counted allowance n = let e = is_at_most allowance allowance (omega arith) in rw e refl

at_most : (t : Bool) (n : ℕ) → cond t 0 n ≤ n
at_most true n = omega arith
at_most false n = omega arith

-- where there is a number of units, so many are counted
numbered_is_counted : (most : Option ℕ) (n : ℕ) → where_numbered (allowance_of most) n ≤ units_counted most n
numbered_is_counted None n = let e = none_counted (2 ^ 64) n in omega (arith, e)
numbered_is_counted (Some k) n = at_most (nat_le (2 ^ 64) k) n

counted_within : (most : Option ℕ) (n : ℕ) → units_counted most n ≤ n
counted_within None n = omega arith
counted_within (Some k) n = omega arith

pub is_charged : (I : Instance) (before after : Units) (d : Decided) → before.used ≤ after.used →
    (0 < length I → UnlessSpent (AreMore before after) d) → LinesAreCounted before after d →
    before.used + charge_of I (allowance_of before.most) (answer_of d) ≤ after.used
is_charged I before after (Layout offsets) le taken lines = go (length I) refl
  where
    m : where_numbered (allowance_of before.most) (min 1 (length I)) ≤ units_counted before.most (min 1 (length I))
    m = numbered_is_counted before.most (min 1 (length I))

    go : (k : ℕ) → length I ≡ k →
        before.used + charge_of I (allowance_of before.most) (Offsets offsets.items) ≤ after.used
    go zero e = let c = counted_within before.most (min 1 (length I)) in omega (arith, e, m, c, le)
    go (suc k) e =
        let one : min 1 (length I) ≡ 1 = omega (arith, e) in
        let q = ap (units_counted before.most) one in
        let t = taken (omega (arith, e)) in
        omega (arith, m, q, t)
is_charged I before after (Refuted log) le taken lines =
    let m = numbered_is_counted before.most (length log.lines) in omega (arith, m, lines)
is_charged I before after Spent le taken lines = omega (arith, le)
