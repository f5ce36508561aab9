-- What the steps of halving have come to, and what they have paid for.
use Rattle.std.proofs.Common.{◌≡◌, ℕ, ◌+◌, ◌/◌, ◌<◌, ◌≤◌, ◌^◌, inl, inr, Bool, true, false, [], ◌∷◌, length, nat_le, cond, Option, Some, None, IfSome, refl, sym, ap, ◌∙◌, subst, arith}
use Rattle.std.specs.Prelude.{min}
use Rattle.std.specs.List.{All}
use Rattle.dsa_terms.specs.Bounds.{lower_bound}
use Rattle.dsa_terms.specs.Buffers.{Instance}
use Rattle.dsa_terms.specs.Parts.{whole_work}
use Rattle.dsa_terms.specs.Plans.{layout_height}
use Rattle.dsa_terms.specs.Starts.{best_start, hunted}
use Rattle.dsa_terms.proofs.NumberTests.{not_at_most}
use Rattle.dsa_model.specs.Buffer.{IsBuffer}
use Rattle.dsa_model.proofs.Instances.{sound_instance}
use Rattle.search_core.specs.Courses.{at_start, Course}
use Rattle.search_core.specs.Decisions.{allowance_of, charge_of, IsGiven, turn_of, where_numbered}
use Rattle.search_core.specs.Meters.{AreWithin, units_counted}
use Rattle.min_capacity.specs.Brackets.{ArePaid, bracket_of, IfOpen, IsShort, LayoutComes, LayoutIsPaid, LogIsPaid, Narrows}
use Rattle.min_capacity.specs.declared.brackets.Bracket.{Bracket}
use Rattle.min_capacity.specs.declared.brackets.Least.{Least}
use Rattle.min_capacity.specs.declared.brackets.Least.TheVariants.{Exact, Open}
use Rattle.planner.specs.FirstBracket.{IsFirstBracket, IsLogBelow}
use Rattle.planner.specs.LeastCapacity.{HasHalved, IsByBoundAtLow, IsLayoutWithin, IsLogWithin, IsWithinSteps, work_of_least}
use Rattle.planner.specs.Openings.{AreGiven}
use Rattle.planner.proofs.Finding.{first_work}
use Rattle.planner.proofs.Hunting.{same_hunt}
use Rattle.planner.proofs.Keeping.{are_given}
use Rattle.planner.proofs.Opening.{none_high}

-- ---- what is left where the steps are used up
-- h is what the search counts, g what the plan counts, from the bracket that is left; w and v so from the start
short_by_plan : (steps : Option ℕ) (used h g w v one : ℕ) → allowance_of steps ≤ used → h ≡ g → w ≡ v →
    used + h < w + one → IfSome steps (λ k. k + g < v + one)
short_by_plan None used h g w v one all e f short = tt
short_by_plan (Some k) used h g w v one all e f short = omega (arith, all, e, f, short)

pub has_halved : (I : Instance) (steps budget : Option ℕ) (start : Bracket) (before : Course) (used : ℕ)
    (found : Least) → All IsBuffer I → IsFirstBracket I start → before ≡ at_start I budget → budget ≡ steps →
    Narrows I (IsGiven I) start (bracket_of found) → IfOpen found (allowance_of before.units.most ≤ used) →
    IfOpen found (IsShort (whole_work I) (turn_of I) before.units.used used start (bracket_of found)) →
    HasHalved I steps found
has_halved I steps budget start before used (Exact b) buffers h e q n all short = tt
has_halved I steps budget start before used (Open b) buffers h e q n all short =
    let s = sound_instance I buffers in
    let m : before.units.most ≡ steps = ap (λ (v : Course). v.units.most) e ∙ q in
    let z : before.units.used ≡ 0 = ap (λ (v : Course). v.units.used) e in
    let P : Option ℕ → Type 0 = λ o. allowance_of o ≤ used in
    let below : b.high ≤ layout_height I (best_start I) = let l = h.high in let k = n.high in omega (arith, l, k) in
    short_by_plan steps used _ (hunted I b.low b.high) _ (work_of_least I)
    (whole_work I ((b.low + b.high) / 2)) (subst P m all) (same_hunt I b.low b.high s below) (first_work I start s h)
    (omega (arith, z, short))

-- ---- what the steps have paid for
-- so many units are counted as are charged
counted_is_numbered : (most : Option ℕ) (n : ℕ) → IfSome most (λ k. k < 2 ^ 64) →
    units_counted most n ≤ where_numbered (allowance_of most) n
counted_is_numbered None n range = omega arith
counted_is_numbered (Some k) n range =
    let e = not_at_most (2 ^ 64) k range in let f : cond (nat_le (2 ^ 64) k) 0 n ≡ n = rw e refl in omega (arith, f)

-- the charges of two are the charge of both
numbered_together : (allowance m n : ℕ) →
    where_numbered allowance (m + n) ≡ where_numbered allowance m + where_numbered allowance n
numbered_together allowance m n = go (nat_le (2 ^ 64) allowance)
  where
    go : (t : Bool) → cond t 0 (m + n) ≡ cond t 0 m + cond t 0 n
    go true = refl
    go false = refl

-- none are charged for nothing
none_numbered : (allowance : ℕ) → where_numbered allowance 0 ≡ 0
none_numbered allowance = go (nat_le (2 ^ 64) allowance)
  where
    go : (t : Bool) → ◌≡◌ {A = ℕ} (cond t 0 0) 0
    go true = refl
    go false = refl

-- so many steps stay within the cost
record Costs (allowance cost : ℕ) (IsWithin : ℕ → Type 0) : Type 0 where
  steps : ℕ
  within : IsWithin steps
  charged : where_numbered allowance steps ≤ cost

module _ (I : Instance) (start : Bracket) (allowance : ℕ) (b : Bracket) (h : IsFirstBracket I start)
    (n : Narrows I (IsGiven I) start b) where
  -- no buffers have no layout below the best start
  layout_is_start : I ≡ [] → LayoutComes (IsGiven I) start b → b.layout.items ≡ best_start I
  layout_is_start none (inl l) = l ∙ h.best
  layout_is_start none (inr g) =
      let k = none_high I (best_start I) none in let t = h.high in let below = g.2 in
      absurd (omega (arith, k, t, below))

  layout_costs : {cost : ℕ} → LayoutIsPaid (charge_of I allowance) cost start b →
      Costs allowance cost (λ k. IsLayoutWithin I k b.layout.items)
  layout_costs (inl l) =
      record { steps = 0; within = inl (l ∙ h.best); charged = let z = none_numbered allowance in omega (arith, z) }
  layout_costs {cost} (inr paid) = go I refl
    where
      go : (J : Instance) → I ≡ J → Costs allowance cost (λ k. IsLayoutWithin I k b.layout.items)
      go [] none = record {
        steps = 0;
        within = inl (layout_is_start none n.layout);
        charged = let z = none_numbered allowance in omega (arith, z);
      }
      go (x ∷ xs) some =
          let l = ap (λ (j : Instance). length j) some in
          let one : min 1 (length I) ≡ 1 = omega (arith, l) in
          record {
            steps = 1;
            within = inr (omega arith);
            charged = subst (λ m. where_numbered allowance m ≤ cost) one paid;
          }

  log_costs : {cost : ℕ} → LogIsPaid (charge_of I allowance) cost start b →
      Costs allowance cost (λ k. IsLogWithin I k b.low b.log)
  log_costs (inl l) = record {
    steps = 0;
    within = inl (subst (λ o. IsLogBelow I (lower_bound I) o) (sym l) h.log);
    charged = let z = none_numbered allowance in omega (arith, z);
  }
  log_costs (inr g) = record {
    steps = length g.0.lines;
    within = inr (g.0, g.1, (let l = h.low in let k = g.2 in omega (arith, l, k)), omega arith);
    charged = g.3;
  }

module _ (I : Instance) (steps budget : Option ℕ) (start : Bracket) (before after : Course) (b : Bracket)
    (h : IsFirstBracket I start) (e : before ≡ at_start I budget) (q : budget ≡ steps)
    (range : IfSome steps (λ k. k < 2 ^ 64))
    (same : allowance_of after.units.most ≡ allowance_of before.units.most) (within : AreWithin after.units)
    (n : Narrows I (IsGiven I) start b) where
  given : (m : ℕ) →
      before.units.used + where_numbered (allowance_of before.units.most) m ≤ after.units.used → AreGiven steps m
  given m paid =
      let most : before.units.most ≡ steps = ap (λ (v : Course). v.units.most) e ∙ q in
      let P : Option ℕ → Type 0 = λ o. IfSome o (λ k. k < 2 ^ 64) in
      let c = counted_is_numbered before.units.most m (subst P (sym most) range) in
      are_given I steps budget before after m e q same within (omega (arith, c, paid))

  pub is_within_steps :
      ArePaid (charge_of I (allowance_of before.units.most)) before.units.used after.units.used start b →
      IsWithinSteps I steps b
  is_within_steps paid =
      let layout = layout_costs I start (allowance_of before.units.most) b h n paid.layout in
      let log = log_costs I start (allowance_of before.units.most) b h n paid.log in
      let both = numbered_together (allowance_of before.units.most) layout.steps log.steps in
      let p = paid.paid in
      let c = layout.charged in
      let d = log.charged in
      record {
        layout_steps = layout.steps;
        log_steps = log.steps;
        layout = layout.within;
        log = log.within;
        given = given (layout.steps + log.steps) (omega (arith, both, p, c, d));
      }

pub by_bound_at_low : (I : Instance) (steps : Option ℕ) (b : Bracket) → IsWithinSteps I steps b → IsByBoundAtLow I b
by_bound_at_low I steps b h = go h.log
  where
    go : {k : ℕ} → IsLogWithin I k b.low b.log → IsByBoundAtLow I b
    go (inl l) low = l
    go (inr g) low = let k = g.2 in absurd (omega (arith, k, low))
