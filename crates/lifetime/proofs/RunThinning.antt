-- What thinning keeps of the runs, from one edge moment to the next.
use Rattle.std.proofs.Common.{◌≡◌, ◌≢◌, ℕ, ◌<◌, ◌≤◌, ◌⊎◌, Bool, true, false, List, [], ◌∷◌, ◌++◌, length, arith}
use Rattle.dsa_terms.specs.Buffers.{Instance}
use Rattle.dsa_model.specs.Lists.{pair_at}
use Rattle.lifetime.specs.Edges.{AreEdges, AreThinnedBefore, IsPassed}
use Rattle.lifetime.specs.SectionList.{Section, section_with}
use Rattle.lifetime.specs.Stretches.{AreThinned}
use Rattle.lifetime.specs.Thin.{AreThinRuns}
use Rattle.lifetime.proofs.KeptStretches.{kept_of_all}
use Rattle.lifetime.proofs.Sweeping.{IsSweeping, MovesOn, moved_changed, moved_same, sweeping_none}
use Rattle.lifetime.proofs.Thinning.{few_kept, thinned_none}

pub record IsThinning (I : Instance) (edges : List (ℕ × ℕ)) (next : ℕ) (live : List ℕ) (kept : List Section) : Type 0
  where
    pub sections : List Section
    pub sweeping : IsSweeping I edges next live sections
    pub thinned : AreThinned sections kept

pub thinning_none : (I : Instance) (edges : List (ℕ × ℕ)) (live : List ℕ) (kept : List Section) → AreEdges I edges →
    live ≡ [] → kept ≡ [] → IsThinning I edges 0 live kept
thinning_none I edges live kept a e f = rw f (record {
  sections = [];
  sweeping = sweeping_none I edges live a e;
  thinned = thinned_none;
})

pub record ThinsOn (I : Instance) (edges : List (ℕ × ℕ)) (first next : ℕ) (live now : List ℕ) (kept : List Section)
    (changed : Bool) : Type 0 where
  pub edges_of_it : AreEdges I edges
  pub before : IsThinning I edges first live kept
  pub in_edges : first < length edges
  pub passed : IsPassed I edges first next changed now

module _ (I : Instance) (edges : List (ℕ × ℕ)) (first next : ℕ) (live now : List ℕ) (kept : List Section)
    (changed : Bool) (t : ThinsOn I edges first next live now kept changed) where
  moves : MovesOn I edges first next live now t.before.sections changed
  moves = record {
    edges_of_it = t.edges_of_it;
    before = t.before.sweeping;
    in_edges = t.in_edges;
    passed = t.passed;
  }

  pub thinning_same : (changed ≡ false) ⊎ (now ≡ []) → IsThinning I edges next now kept
  thinning_same none = record {
    sections = t.before.sections;
    sweeping = moved_same I edges first next live now t.before.sections changed moves none;
    thinned = t.before.thinned;
  }

  pub thinning_more : (more : List Section) (given : List ℕ) → given ≡ now → changed ≡ true → now ≢ [] →
      ((sections : List Section) → AreThinned sections kept →
      AreThinned (sections ++ section_with (pair_at edges first).0 given ∷ []) more) → IsThinning I edges next now more
  thinning_more more given same e some put = record {
    sections = t.before.sections ++ section_with (pair_at edges first).0 now ∷ [];
    sweeping = moved_changed I edges first next live now t.before.sections changed moves e some;
    thinned = rw (← same) (put t.before.sections t.before.thinned);
  }

pub thinned_before : (I : Instance) (edges : List (ℕ × ℕ)) (next : ℕ) (live : List ℕ) (kept : List Section) →
    length edges ≤ next → IsThinning I edges next live kept →
    AreThinnedBefore I edges (length edges) kept × (length kept ≤ length edges)
thinned_before I edges next live kept le t =
    let e : next ≡ length edges = (let w = t.sweeping.within in omega arith) in (
      record { sections = t.sections; runs = rw (← e) t.sweeping.runs; thinned = t.thinned },
      (let k = few_kept t.sections kept t.thinned in let l = t.sweeping.limit in omega arith),
    )

-- past all edges those are all runs
pub thin_runs : (I : Instance) (edges : List (ℕ × ℕ)) (kept given : List Section) →
    AreThinnedBefore I edges (length edges) kept → given ≡ kept → AreThinRuns I given
thin_runs I edges kept given t same = rw same (record {
  runs = t.sections;
  plain = record {
    each = t.runs.each;
    rise = t.runs.rise;
    runs = λ u. (
      (λ i. ((t.runs.runs u).0 i).0),
      (λ b. (t.runs.runs u).1 (b, λ k low high. absurd (omega arith))),
    );
  };
  thinned = kept_of_all t.sections kept t.thinned.stretches t.thinned.apart t.runs.rise;
})
