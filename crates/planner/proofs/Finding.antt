-- What halving from the first bracket comes to over the search.
use Rattle.std.proofs.Common.{◌≡◌, ℕ, ◌+◌, ◌-◌, ◌<◌, ◌≤◌, inl, inr, ◌^◌, ◌↔◌, List, [], Option, Some, None, refl, sym, ap, ◌∙◌, subst, arith}
use Rattle.std.specs.List.{All}
use Rattle.dsa_terms.specs.Bounds.{lower_bound}
use Rattle.dsa_terms.specs.Buffers.{Instance, IsInstance}
use Rattle.dsa_terms.specs.Layouts.{IsLeast}
use Rattle.dsa_terms.specs.Logs.{Log}
use Rattle.dsa_terms.specs.Parts.{whole_work}
use Rattle.dsa_terms.specs.Plans.{layout_height}
use Rattle.dsa_terms.specs.Starts.{best_start, planned, starts}
use Rattle.dsa_search_laws.proofs.Plans.{plan_lower}
use Rattle.dsa_model.specs.Buffer.{IsBuffer}
use Rattle.dsa_model.proofs.Instances.{sound_instance}
use Rattle.refute_log.specs.Halvings.{halving}
use Rattle.search_core.specs.Courses.{at_start, Course}
use Rattle.search_core.specs.Decisions.{allowance_of, IsGiven, turn_of}
use Rattle.min_capacity.specs.Brackets.{bracket_of, IfExact, IfOpen, LayoutComes, LogComes, Narrows, Refutes}
use Rattle.min_capacity.specs.declared.brackets.Bracket.{Bracket}
use Rattle.min_capacity.specs.declared.brackets.Least.{Least}
use Rattle.min_capacity.specs.declared.brackets.Least.TheVariants.{Exact, Open}
use Rattle.planner.specs.Decides.{LeavesNoLayout}
use Rattle.planner.specs.FirstBracket.{IsFirstBracket, IsLogBelow}
use Rattle.planner.specs.LeastCapacity.{FindsLeast, IsExactly, IsOpenAfter, RefutesBelow, work_of_least}
use Rattle.planner.specs.Openings.{AreTooFew}
use Rattle.planner.proofs.BestStart.{planned_at_best, planned_below}
use Rattle.planner.proofs.Hunting.{same_hunt}
use Rattle.planner.proofs.Opening.{none_bounded, none_high}
use Rattle.planner.proofs.Refuting.{search_refutes}
use Rattle.planner.proofs.Spending.{too_few}

-- ---- the layout is the plan at the upper end
planned_lower : (I : Instance) (C D : ℕ) (offsets : List ℕ) → IsInstance I → planned I C ≡ Some offsets →
    layout_height I offsets ≤ D → D ≤ C → planned I D ≡ Some offsets
unfolding planned
planned_lower I C D offsets s h low le = plan_lower (starts I) I C D offsets s h low le

chosen : (I : Instance) (start b : Bracket) → IsInstance I → IsFirstBracket I start → Narrows I (IsGiven I) start b →
    planned I b.high ≡ Some b.layout.items
chosen I start b s h n = go n.layout
  where
    go : LayoutComes (IsGiven I) start b → planned I b.high ≡ Some b.layout.items
    go (inl e) =
        let q : b.layout.items ≡ best_start I = e ∙ h.best in
        let t : b.high ≡ layout_height I (best_start I) = sym n.bracket.height ∙ ap (layout_height I) q in
        ap (planned I) t ∙ planned_at_best I ∙ ap Some (sym q)
    go (inr g) =
        let t = h.high in let below = g.2 in
        planned_lower I g.0 b.high b.layout.items s (planned_below I g.0 (omega arith) ∙ g.3)
        (let k = n.bracket.height in omega arith) g.1

-- ---- the log refutes one less than the lower end
bound_log_below : (I : Instance) (low : ℕ) (o : Option Log) → IsLogBelow I (lower_bound I) o → Refutes I low o →
    RefutesBelow I low o
bound_log_below I low None z r = r
bound_log_below I low (Some log) h r =
    let c = h.1.refutation.its_capacity in
    let e = r.1 in
    let same : lower_bound I - 1 ≡ low - 1 = omega arith in
    let P : ℕ → Type 0 = λ n. LeavesNoLayout I n log in
    (omega arith, subst P same h.1.refutation)

refuted_below : (I : Instance) (start b : Bracket) → All IsBuffer I → IsFirstBracket I start →
    Narrows I (IsGiven I) start b → RefutesBelow I b.low b.log
refuted_below I start b buffers h n = go n.log
  where
    P : Option Log → Type 0
    P o = RefutesBelow I b.low o

    Q : Option Log → Type 0
    Q o = Refutes I b.low o

    go : LogComes (IsGiven I) start b → RefutesBelow I b.low b.log
    go (inl e) = subst P (sym e) (bound_log_below I b.low start.log h.log (subst Q e n.bracket.log))
    go (inr g) =
        let r : Refutes I b.low (Some g.0) = subst Q g.1 n.bracket.log in
        let c = r.1 in
        subst P (sym g.1) (omega arith, search_refutes I (b.low - 1) g.0 buffers g.2)

-- ---- the ends have met
none_for_zero : (I : Instance) (start b : Bracket) → All IsBuffer I → IsFirstBracket I start →
    Narrows I (IsGiven I) start b → b.low ≡ b.high → (I ≡ []) ↔ (b.high ≡ 0)
none_for_zero I start b buffers h n met = (
  λ e. sym n.bracket.height ∙ none_high I b.layout.items e,
  λ z. none_bounded I buffers (let l = h.low in let k = n.low in omega arith),
)

exactly : (I : Instance) (start b : Bracket) → All IsBuffer I → IsFirstBracket I start → Narrows I (IsGiven I) start b →
    b.low ≡ b.high → IsLeast I b.high → IsExactly I b
exactly I start b buffers h n met least =
    let P : ℕ → Type 0 = λ C. RefutesBelow I C b.log in
    record {
      ends_met = met;
      least = least;
      chosen = chosen I start b (sound_instance I buffers) h n;
      layout = n.bracket.layout;
      its_height = n.bracket.height;
      refuted_below = subst P met (refuted_below I start b buffers h n);
      zero_for_none = none_for_zero I start b buffers h n met;
    }

-- ---- it stays open
open_after : (I : Instance) (steps : Option ℕ) (start b : Bracket) → All IsBuffer I → IsFirstBracket I start →
    Narrows I (IsGiven I) start b → b.low < b.high → AreTooFew steps (work_of_least I) → IsOpenAfter I steps b
open_after I steps start b buffers h n apart few = go b.log (refuted_below I start b buffers h n) refl
  where
    go : (o : Option Log) → RefutesBelow I b.low o → b.log ≡ o → IsOpenAfter I steps b
    go None z e =
        let none = none_bounded I buffers (let l = h.low in let k = n.low in omega arith) in
        let k = none_high I b.layout.items none in
        let t = n.bracket.height in
        absurd (omega arith)
    go (Some log) r e = record {
      below_log = log;
      its_log = e;
      stays_open = record {
        ends_apart = apart;
        positive = r.0;
        chosen = chosen I start b (sound_instance I buffers) h n;
        layout = n.bracket.layout;
        its_height = n.bracket.height;
        refuted_below = r.1;
      };
      from_bound = let l = h.low in let k = n.low in omega arith;
      to_best = let l = h.high in let k = n.high in omega arith;
      too_few = few;
    }

pub first_work : (I : Instance) (start : Bracket) → IsInstance I → IsFirstBracket I start →
    halving (whole_work I) (turn_of I) start.low start.high ≡ work_of_least I
first_work I start s h =
    let l = h.low in let t = h.high in
    rw (l, t) (same_hunt I (lower_bound I) (layout_height I (best_start I)) s (omega arith))

pub finds : (I : Instance) (steps budget : Option ℕ) (start : Bracket) (before : Course) (used : ℕ) (found : Least) →
    All IsBuffer I → IsFirstBracket I start → before ≡ at_start I budget → budget ≡ steps →
    Narrows I (IsGiven I) start (bracket_of found) →
    IfExact found ((bracket_of found).low ≡ (bracket_of found).high) →
    IfExact found (IsLeast I (bracket_of found).high) →
    IfOpen found ((bracket_of found).low < (bracket_of found).high) →
    IfOpen found (allowance_of before.units.most ≤ used) →
    IfOpen found (used < before.units.used + halving (whole_work I) (turn_of I) start.low start.high) →
    used < 2 ^ 64 → FindsLeast I steps found
finds I steps budget start before used (Exact b) buffers h e q n met least apart all fewer range =
    exactly I start b buffers h n met least
finds I steps budget start before used (Open b) buffers h e q n met least apart all fewer range =
    let w = first_work I start (sound_instance I buffers) h in
    open_after I steps start b buffers h n apart
    (too_few I steps budget before used (work_of_least I) e q all (omega arith) range)
