-- The bracket from the lower bound to the best start, and what stays open in it.
use Rattle.std.proofs.Common.{◌≡◌, ℕ, ◌-◌, ◌<◌, ◌≤◌, length, List, [], ◌∷◌, Option, Some, None, refl, sym, ap, ◌∙◌, subst, arith}
use Rattle.std.specs.List.{All}
use Rattle.dsa_terms.specs.Bounds.{lower_bound}
use Rattle.dsa_terms.specs.Buffers.{Instance, IsLive, buffer, no_buffer}
use Rattle.dsa_terms.specs.Logs.{Log}
use Rattle.dsa_terms.specs.Parts.{whole_work}
use Rattle.dsa_terms.specs.Plans.{layout_height}
use Rattle.dsa_terms.specs.Starts.{best_start, planned}
use Rattle.dsa_start_laws.proofs.BoundModuli.{bound_is_positive}
use Rattle.dsa_model.specs.Buffer.{IsBuffer}
use Rattle.dsa_model.proofs.Instances.{sound_instance}
use Rattle.min_capacity.specs.declared.brackets.Bracket.{Bracket}
use Rattle.planner.specs.Decides.{IsBoundLog, LeavesNoLayout}
use Rattle.planner.specs.FirstBracket.{IsFirstBracket, IsLogBelow}
use Rattle.planner.specs.FirstStart.{start_within}
use Rattle.planner.specs.Openings.{AreTooFew, IsSpentAt}
use Rattle.planner.proofs.BestStart.{past_starts, planned_at_best}

-- ---- a bound of 0
lives_at : (I : Instance) (b : ℕ) → All IsBuffer I → b < length I → (t : ℕ) × IsLive (buffer I b) t
unfolding buffer
lives_at I b h lt = (h b no_buffer lt).lives

-- the lower bound is 0 for no buffers alone
pub none_bounded : (I : Instance) → All IsBuffer I → lower_bound I ≡ 0 → I ≡ []
none_bounded [] h z = refl
none_bounded (b ∷ bs) h z =
    let live = lives_at (b ∷ bs) 0 h (omega arith) in
    let k = bound_is_positive (b ∷ bs) live.0 0 (sound_instance (b ∷ bs) h) (omega arith) live.1 in
    absurd (omega arith)

height_of_none : (offsets : List ℕ) → layout_height [] offsets ≡ 0
unfolding layout_height
height_of_none offsets = refl

pub none_high : (I : Instance) (offsets : List ℕ) → I ≡ [] → layout_height I offsets ≡ 0
none_high I offsets e = ap (λ i. layout_height i offsets) e ∙ height_of_none offsets

-- ---- open at a capacity
pub opens_at : (I : Instance) (C : ℕ) (steps : Option ℕ) (b : Bracket) → All IsBuffer I → IsFirstBracket I b →
    start_within I C ≡ None → lower_bound I ≤ C → AreTooFew steps (whole_work I C) → IsSpentAt I C steps b
opens_at I C steps b buffers h none le few = go b.log h.log refl
  where
    under : C < layout_height I (best_start I)
    under = past_starts I C none

    go : (o : Option Log) → IsLogBelow I (lower_bound I) o → b.log ≡ o → IsSpentAt I C steps b
    go None z e = let k = none_high I (best_start I) (none_bounded I buffers z) in absurd (omega (arith, under))
    go (Some log) below e =
        let one_less : lower_bound I - 1 ≡ b.low - 1 = ap (λ n. n - 1) (sym h.low) in
        let P : ℕ → Type 0 = λ n. LeavesNoLayout I n log in
        let Q : ℕ → Type 0 = λ n. IsBoundLog I n log in
        record {
          bound_log = log;
          its_log = e;
          stays_open = record {
            ends_apart = let l = h.low in let t = h.high in omega (arith, under);
            positive = let l = h.low in let p = below.0 in omega arith;
            chosen = ap (planned I) h.high ∙ planned_at_best I ∙ ap Some (sym h.best);
            layout = h.layout;
            its_height = ap (layout_height I) h.best ∙ sym h.high;
            refuted_below = subst P one_less below.1.refutation;
          };
          low_is_bound = h.low;
          high_is_best = h.high;
          layout_is_best = h.best;
          by_bound = subst Q one_less below.1.by_bound;
          from_low = let l = h.low in omega arith;
          below_high = let t = h.high in omega (arith, under);
          too_few = few;
        }
