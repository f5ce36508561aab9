-- From a bracket that narrowing reaches to what packing comes to.
use Rattle.std.proofs.Common.{◌≡◌, ℕ, ◌+◌, ◌-◌, ◌<◌, ◌≤◌, inl, inr, Some, sym, ◌∙◌, subst, arith}
use Rattle.dsa_terms.specs.Buffers.{Instance}
use Rattle.dsa_terms.specs.Layouts.{IsLeast}
use Rattle.dsa_terms.specs.Logs.{Log}
use Rattle.min_capacity.specs.Brackets.{IsBracket, Refutes}
use Rattle.min_capacity.specs.declared.brackets.Bracket.{Bracket}
use Rattle.narrowing.specs.Narrowed.{IsLogPaid, IsNarrowed}
use Rattle.planner.specs.Decides.{IsBoundLog}
use Rattle.planner.proofs.Opening.{none_high}
use Rattle.packer.specs.Packs.{IsBetween, IsPackedOpen, IsPackedTight, RefutesOneLess, RefutesWithin}
use Rattle.packer.specs.Reached.{IsLogWithin, IsReached}
use Rattle.packer.specs.Starts.{IsOpenFrom}

-- ---- the log is the bound's, or the units have paid for it
its_log : (I : Instance) (steps left before after : ℕ) (start b : Bracket) → IsOpenFrom I start → IsBracket I b →
    after ≤ before + left → left ≤ steps → IsLogPaid before after start b → IsLogWithin I steps b.low b.log
its_log I steps left before after start b h n used le (inl e) =
    let same = e ∙ h.its_log in
    let here = subst (Refutes I b.low) same n.log in
    let there = subst (Refutes I start.low) h.its_log h.bracket.log in
    let c = here.1 in
    let d = there.1 in
    let low : b.low ≡ start.low = omega arith in
    subst (IsLogWithin I steps b.low) (sym same)
    (inl (subst (λ (k : ℕ). IsBoundLog I (k - 1) h.bound_log) (sym low) h.by_bound))
its_log I steps left before after start b h n used le (inr g) =
    let paid = g.3 in subst (IsLogWithin I steps b.low) (sym g.1) (inr (omega arith))

pub reached : (I : Instance) (steps left before after : ℕ) (start b : Bracket) → IsOpenFrom I start →
    IsNarrowed I start b → after ≤ before + left → left ≤ steps → IsLogPaid before after start b → IsReached I steps b
reached I steps left before after start b h n used le paid =
    let low = n.low in
    let high = n.high in
    let some = h.positive in
    let bound = h.at_bound in
    let best = h.to_best in
    record {
      bracket = n.bracket;
      positive = omega arith;
      from_bound = omega arith;
      to_best = omega arith;
      log = its_log I steps left before after start b h n.bracket used le paid;
    }

-- ---- the ends have met, or have not
pub tight : (I : Instance) (steps : ℕ) (found b : Bracket) → IsReached I steps found → IsBetween I steps b →
    b.low ≡ found.low → b.high ≡ found.high → found.low ≡ found.high → IsLeast I found.high → IsPackedTight I steps b
tight I steps found b h between low high met least =
    let some = h.positive in
    record {
      between = between;
      ends_met = low ∙ met ∙ sym high;
      least = subst (IsLeast I) (sym high) least;
      zero_for_none = (λ e. sym between.its_height ∙ none_high I b.layout.items e, λ z. absurd (omega arith));
    }

pub apart : (I : Instance) (steps : ℕ) (found b : Bracket) → IsReached I steps found → IsBetween I steps b →
    b.low ≡ found.low → b.high ≡ found.high → found.low < found.high → IsPackedOpen I steps b
apart I steps found b h between low high lt =
    let some = h.positive in
    let bound = h.from_bound in
    let best = h.to_best in
    record {
      between = between;
      ends_apart = omega arith;
      positive = omega arith;
      from_bound = omega arith;
      to_best = omega arith;
    }

-- ---- a log at the capacity
pub refuted_at : (I : Instance) (C steps : ℕ) (b : Bracket) (log : Log) → IsBetween I steps b → b.log ≡ Some log →
    C < b.low → b.low ≤ C + 1 → RefutesWithin I C steps log
refuted_at I C steps b log between is lt le =
    let below = subst (RefutesOneLess I b.low steps) is between.refuted_below in
    let same : b.low - 1 ≡ C = omega arith in
    subst (λ (n : ℕ). RefutesWithin I n steps log) same below.1
