-- A search takes no more steps than were given.
use Rattle.std.proofs.Common.{◌≡◌, ℕ, ◌+◌, ◌<◌, ◌≤◌, [], ◌∷◌, length, Option, Some, None, refl, ap, ◌∙◌, arith}
use Rattle.dsa_terms.specs.Buffers.{Instance}
use Rattle.dsa_terms.specs.Starts.{best_start}
use Rattle.refute_log.specs.declared.decided.Decided.{Decided}
use Rattle.refute_log.specs.declared.decided.Decided.TheVariants.{Layout, Refuted, Spent}
use Rattle.search_core.specs.Courses.{at_start, Course}
use Rattle.search_core.specs.Decisions.{allowance_of}
use Rattle.search_core.specs.Meters.{AreMore, AreMoreBy, AreWithin, Units, units_counted}
use Rattle.search_core.specs.Outcomes.{LinesAreCounted, UnlessSpent}
use Rattle.planner.specs.FirstStart.{start_within}
use Rattle.planner.specs.Openings.{AreGiven}
use Rattle.planner.specs.Searches.{search_steps}
use Rattle.planner.proofs.BestStart.{past_starts}
use Rattle.planner.proofs.Opening.{none_high}

given_of : (n : ℕ) (steps : Option ℕ) (before after : Units) → before.most ≡ steps →
    allowance_of after.most ≡ allowance_of before.most → AreWithin after → AreMoreBy n before after → AreGiven steps n
given_of n None before after m same within more = tt
given_of n (Some k) before after m same within more = go after.most refl
  where
    taken : before.used + n ≤ after.used
    taken = let a = ap (λ o. units_counted o n) m in omega (arith, a, more)

    go : (o : Option ℕ) → after.most ≡ o → n ≤ k
    go None e = let w = rw e at within in omega (arith, w, taken)
    go (Some j) e = let w = rw e at within in let s = rw (e, m) at same in omega (arith, w, s, taken)

-- of a search with these steps that had not begun
pub are_given : (I : Instance) (steps budget : Option ℕ) (before after : Course) (n : ℕ) → before ≡ at_start I budget →
    budget ≡ steps → allowance_of after.units.most ≡ allowance_of before.units.most → AreWithin after.units →
    AreMoreBy n before.units after.units → AreGiven steps n
are_given I steps budget before after n e q same within more =
    given_of n steps before.units after.units (ap (λ (v : Course). v.units.most) e ∙ q) same within more

pub none_given : (steps : Option ℕ) → AreGiven steps 0
none_given None = tt
none_given (Some k) = omega arith

-- what one search takes
pub search_keeps : (I : Instance) (steps budget : Option ℕ) (before after : Course) (d : Decided) →
    before ≡ at_start I budget → budget ≡ steps → allowance_of after.units.most ≡ allowance_of before.units.most →
    AreWithin after.units → (0 < length before.subject → UnlessSpent (AreMore before.units after.units) d) →
    LinesAreCounted before.units after.units d → 0 < length I → AreGiven steps (search_steps d)
search_keeps I steps budget before after (Layout offsets) e q same within taken lines some =
    let s = ap (λ (v : Course). length v.subject) e in
    are_given I steps budget before after 1 e q same within (taken (omega (arith, s, some)))
search_keeps I steps budget before after (Refuted log) e q same within taken lines some =
    are_given I steps budget before after (length log.lines) e q same within lines
search_keeps I steps budget before after Spent e q same within taken lines some = none_given steps

-- an instance without buffers has a start within each capacity
pub some_buffers : (I : Instance) (C : ℕ) → start_within I C ≡ None → 0 < length I
some_buffers I C none = go I refl
  where
    go : (J : Instance) → I ≡ J → 0 < length J
    go [] e = let k = none_high I (best_start I) e in let u = past_starts I C none in absurd (omega (arith, k, u))
    go (b ∷ bs) e = omega arith
