use Rattle.std.proofs.Common.{rules}
use Rattle.std.proofs.lemmas.List.Filters.{dedup_is}
use Rattle.std.proofs.lemmas.Map.Keys.{IsStrictlyIncreasing-dedup}
use Rattle.dsa_terms.proofs.Places.{rises_from_increasing}
use Rattle.lower_bounds.proofs.Candidates.{all_moduli, moduli_found, moduli_more}
use Rattle.lower_bounds.proofs.moduli.moduli.Goals as goal

pub loop-b-preserved : goal.loop-b-preserved
loop-b-preserved c = moduli_more c.args.instance.now c.loop-b.b _ _ _ c.alignment.result c.loop-b.invariant
    c.buffer.ensures.value c.alignment.ensures.value c.in_ok-push-2.ensures.items

pub returns-clause-rises : goal.returns-clause-rises
returns-clause-rises c = rises_from_increasing _ (rw (dedup_is _ _ _ c.dedup.ensures.filtered)
    (IsStrictlyIncreasing-dedup _ c.sort_unstable.ensures.sorted))

pub returns-clause-limits : goal.returns-clause-limits
returns-clause-limits c = all_moduli c.args.instance.now _ c.len-b-end.ensures.buffers
    (moduli_found c.args.instance.now c.loop-b.b _ _ _ c.loop-b.invariant (search rules)
    c.sort_unstable.ensures.permutation (dedup_is _ _ _ c.dedup.ensures.filtered))

pub returns-clause-same : goal.returns-clause-same
returns-clause-same c =
    moduli_found c.args.instance.now c.loop-b.b _ _ _ c.loop-b.invariant (search rules)
    c.sort_unstable.ensures.permutation (dedup_is _ _ _ c.dedup.ensures.filtered)
