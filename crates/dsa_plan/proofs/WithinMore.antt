-- What packing within fewer steps says of more.
use Rattle.std.proofs.Common.{◌≡◌, ℕ, ◌-◌, ◌≤◌, ◌⊎◌, List, length, inl, inr, Option, Some, None, Result, Ok, Err, IfOk, subst, sym, arith}
use Rattle.dsa_terms.specs.Buffers.{Instance}
use Rattle.dsa_terms.specs.Layouts.{IsInfeasible}
use Rattle.dsa_terms.specs.Logs.{Log}
use Rattle.dsa_model.specs.declared.fail.NoMemory.{NoMemory}
use Rattle.min_capacity.specs.declared.brackets.Bracket.{Bracket}
use Rattle.min_capacity.specs.declared.brackets.Least.{Least as Found}
use Rattle.min_capacity.specs.declared.brackets.Least.TheVariants as found
use Rattle.planner.specs.Decides.{IsBoundLog}
use Rattle.packer.specs.Packs.{IsPackedOpen, IsPackedTight, Packs, RefutesOneLess, RefutesWithin}
use Rattle.dsa_plan.specs.Answers.{least_found, offsets_found}
use Rattle.dsa_plan.specs.Arrays.{Arrays, instance_of}
use Rattle.dsa_plan.specs.Packed.{IsPackAnswer, IsPackedBetween, IsPackedLeast}
use Rattle.dsa_plan.specs.declared.answers.LeastAnswer.{LeastAnswer}

pub within_more : (I : Instance) (C few many : ℕ) (log : Option Log) → few ≤ many → RefutesOneLess I C few log →
    RefutesOneLess I C many log
within_more I C few many None le h = h
within_more I C few many (Some log) le h = (h.0, one log h.1)
  where
    one : (log : Log) → RefutesWithin I (C - 1) few log → RefutesWithin I (C - 1) many log
    one log h = record {
      accepted = h.accepted;
      its_capacity = h.its_capacity;
      infeasible = h.infeasible;
      trimmed = h.trimmed;
      few = go h.few;
    }
      where
        go : (IsBoundLog I (C - 1) log ⊎ (length log.lines ≤ few)) →
            (IsBoundLog I (C - 1) log ⊎ (length log.lines ≤ many))
        go (inl bound) = inl bound
        go (inr lines) = inr (omega (arith, lines))

-- ---- from a bracket to an answer
pub packed_least : (I : Instance) (few many : ℕ) (b : Bracket) → few ≤ many → IsPackedTight I few b →
    IsPackedLeast I b.high many b.layout.items
packed_least I few many b le h = record {
  refutation = b.log;
  refuted = within_more I b.high few many b.log le
      (subst (λ (k : ℕ). RefutesOneLess I k few b.log) h.ends_met h.between.refuted_below);
  least = h.least;
  layout = h.between.layout;
  its_height = h.between.its_height;
}

pub none_below_one : (I : Instance) (C steps : ℕ) (log : Option Log) → 1 ≤ C → RefutesOneLess I C steps log →
    IsInfeasible I (C - 1)
none_below_one I C steps None some h = absurd (omega (arith, h))
none_below_one I C steps (Some log) some h = h.1.infeasible

pub packed_between : (I : Instance) (few many : ℕ) (b : Bracket) → few ≤ many → IsPackedOpen I few b →
    IsPackedBetween I b.low b.high many b.layout.items
packed_between I few many b le h = record {
  refutation = b.log;
  refuted = within_more I b.low few many b.log le h.between.refuted_below;
  ends_apart = h.ends_apart;
  from_bound = h.from_bound;
  none_below = none_below_one I b.low few b.log h.positive h.between.refuted_below;
  to_best = h.to_best;
  layout = h.between.layout;
  its_height = h.between.its_height;
}

-- ---- from what is found to an answer
packed : (I : Instance) (few many : ℕ) (before : List ℕ) (r : Result Found NoMemory) → few ≤ many →
    IfOk r (Packs I few) → IsPackAnswer I many (offsets_found r before) (least_found r)
packed I few many before (Ok (found.Exact b)) le h = packed_least I few many b le h
packed I few many before (Ok (found.Open b)) le h = packed_between I few many b le h
packed I few many before (Err x) le h = tt

-- the instance, the offsets and the answer are those of the arrays and of what is found
pub tells_packed : (a : Arrays) (I : Instance) (few many : ℕ) (before after : List ℕ) (r : Result Found NoMemory)
    (given : LeastAnswer) → I ≡ instance_of a → after ≡ offsets_found r before → given ≡ least_found r → few ≤ many →
    IfOk r (Packs I few) → IsPackAnswer (instance_of a) many after given
tells_packed a I few many before after r given e f g le h =
    subst (λ (J : Instance). IsPackAnswer J many after given) e
    (subst (λ (offsets : List ℕ). IsPackAnswer I many offsets given) (sym f)
    (subst (λ (x : LeastAnswer). IsPackAnswer I many (offsets_found r before) x) (sym g)
    (packed I few many before r le h)))
