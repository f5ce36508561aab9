use Rattle.std.proofs.lemmas.List.Filters.{dedup_is}
use Rattle.std.proofs.lemmas.List.Kept.{Contains-dedup_nat, Contains-from_dedup}
use Rattle.std.proofs.lemmas.List.Sorted.{Contains-permutation, IsPermutation-sym}
use Rattle.std.proofs.lemmas.Map.Keys.{IsStrictlyIncreasing-dedup}
use Rattle.dsa_terms.proofs.Places.{from_contains, rises_from_increasing, to_contains}
use Rattle.split_sections.proofs.split.distinct.Goals as goal

pub returns-clause-rises : goal.returns-clause-rises
returns-clause-rises c =
    let is = dedup_is _ _ _ c.dedup.ensures.filtered in
    rises_from_increasing _ (rw is (IsStrictlyIncreasing-dedup _ c.sort_unstable.ensures.sorted))

pub returns-clause-same : goal.returns-clause-same
returns-clause-same c x =
    let is = dedup_is _ _ _ c.dedup.ensures.filtered in
    let moved = c.sort_unstable.ensures.permutation in (
      λ i. from_contains _ x (Contains-permutation _ _ x (IsPermutation-sym _ _ moved)
          (Contains-from_dedup _ _ x (rw is at (to_contains _ x i)))),
      λ i. from_contains _ x (rw is (Contains-dedup_nat _ x (Contains-permutation _ _ x moved (to_contains _ x i)))),
    )
