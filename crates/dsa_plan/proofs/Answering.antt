-- What the planner's decisions say of the capacity that was asked.
use Rattle.std.proofs.Common.{◌≡◌, ◌^◌, ◌<◌, ◌≤◌, ℕ, inl, inr, min, List, length, Option, None, Some, refl, subst, arith}
use Rattle.std.specs.List.{All}
use Rattle.dsa_terms.specs.Bounds.{lower_bound}
use Rattle.dsa_terms.specs.Buffers.{Instance}
use Rattle.dsa_terms.specs.Logs.{Log}
use Rattle.dsa_terms.specs.Starts.{planned}
use Rattle.dsa_start_laws.proofs.Planned.{planned_exactly, planned_is_layout}
use Rattle.dsa_model.specs.Buffer.{IsBuffer, buffer_limit}
use Rattle.dsa_model.proofs.Instances.{sound_instance}
use Rattle.min_capacity.specs.declared.brackets.Bracket.{Bracket}
use Rattle.planner.specs.Decides.{IsAnswered, LeavesNoLayout}
use Rattle.planner.specs.FirstStart.{start_within}
use Rattle.planner.specs.Openings.{AreGiven, IsSpentAt}
use Rattle.planner.proofs.BestStart.{below_starts}
use Rattle.planner.proofs.Choosing.{le_or_lt, planned_start}
use Rattle.dsa_plan.specs.Plans.{IsAnswer}
use Rattle.dsa_plan.specs.declared.answers.Answer.{Answer}
use Rattle.dsa_plan.specs.declared.answers.Answer.TheVariants.{Fits, DoesNotFit, Open}
use Rattle.dsa_plan.proofs.Capacities.{first_start, within_wide}

-- ---- what holds at the capacity or the limit holds at the capacity
at_wide : (I : Instance) (C c : ℕ) (steps : Option ℕ) (offsets : List ℕ) (answer : Answer) → All IsBuffer I →
    length I ≤ buffer_limit → 2 ^ 60 ≤ C → 2 ^ 60 ≤ c → IsAnswer I c steps offsets answer →
    IsAnswer I C steps offsets answer
at_wide I C c steps offsets Fits all few wide near h =
    let here : planned I C ≡ Some (first_start I) = planned_start I C _ (within_wide I C all few wide) in
    let there : planned I c ≡ Some (first_start I) = planned_start I c _ (within_wide I c all few near) in
    let chosen : planned I C ≡ Some offsets = (let e = h.plan.chosen in cc) in
    record {
      plan = record { chosen = chosen; layout = planned_is_layout I C offsets (sound_instance I all) chosen };
      searched = λ none. absurd (let e = within_wide I C all few wide in cc);
    }
at_wide I C c steps offsets DoesNotFit all few wide near h =
    let there : planned I c ≡ Some (first_start I) = planned_start I c _ (within_wide I c all few near) in
    absurd (let e = h.no_plan in cc)
at_wide I C c steps offsets Open all few wide near h =
    let none = below_starts I c h.below_best in absurd (let e = within_wide I c all few near in cc)
at_wide I C c steps offsets _ all few wide near h = tt

at_capacity : (I : Instance) (C c : ℕ) (steps : Option ℕ) (offsets : List ℕ) (answer : Answer) → All IsBuffer I →
    length I ≤ buffer_limit → c ≡ min C (2 ^ 60) → IsAnswer I c steps offsets answer → IsAnswer I C steps offsets answer
at_capacity I C c steps offsets answer all few e h = elim (le_or_lt C (2 ^ 60)) [
  | inl le ↦ (let same : c ≡ C = omega arith in subst (λ (k : ℕ). IsAnswer I k steps offsets answer) same h)
  | inr lt ↦ at_wide I C c steps offsets answer all few (omega arith) (omega arith) h
]

-- ---- from a decision to an answer
pub fits : (I : Instance) (C c : ℕ) (steps : Option ℕ) (offsets : List ℕ) → All IsBuffer I → length I ≤ buffer_limit →
    c ≡ min C (2 ^ 60) → IsAnswered (planned I c) I c offsets → (c < lower_bound I → ⊥) →
    (start_within I c ≡ None → lower_bound I ≤ c → AreGiven steps 1) → IsAnswer I C steps offsets Fits
fits I C c steps offsets all few e h not_below given = at_capacity I C c steps offsets Fits all few e (record {
  plan = h;
  searched = λ none. given none (elim (le_or_lt (lower_bound I) c) [ inl le ↦ le | inr lt ↦ absurd (not_below lt) ]);
})

-- without a plan no start is within the capacity
no_start : (I : Instance) (c : ℕ) → planned I c ≡ None → start_within I c ≡ None
no_start I c none = go (start_within I c) refl
  where
    go : (o : Option (List ℕ)) → start_within I c ≡ o → o ≡ None
    go None e = refl
    go (Some offsets) e = let p = planned_start I c offsets e in absurd cc

pub does_not_fit : (I : Instance) (C c : ℕ) (steps : Option ℕ) (offsets : List ℕ) (log : Log) → All IsBuffer I →
    length I ≤ buffer_limit → c ≡ min C (2 ^ 60) → LeavesNoLayout I c log →
    (start_within I c ≡ None → lower_bound I ≤ c → AreGiven steps (length log.lines)) →
    IsAnswer I C steps offsets DoesNotFit
does_not_fit I C c steps offsets log all few e h given =
    let none = (planned_exactly I c (sound_instance I all)).1 h.infeasible in
    at_capacity I C c steps offsets DoesNotFit all few e (record {
      no_plan = none;
      infeasible = h.infeasible;
      refutation = log;
      refuted = h;
      searched = given (no_start I c none);
    })

pub stays_open : (I : Instance) (C c : ℕ) (steps : Option ℕ) (offsets : List ℕ) (b : Bracket) → All IsBuffer I →
    length I ≤ buffer_limit → c ≡ min C (2 ^ 60) → IsSpentAt I c steps b → IsAnswer I C steps offsets Open
stays_open I C c steps offsets b all few e h = at_capacity I C c steps offsets Open all few e (record {
  from_bound = (let low = h.low_is_bound in let le = h.from_low in omega arith);
  below_best = (let high = h.high_is_best in let lt = h.below_high in omega arith);
  too_few = h.too_few;
})
