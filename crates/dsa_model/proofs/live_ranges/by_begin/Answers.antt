use Rattle.std.proofs.Common.{◌≡◌, ℕ, rules}
use Rattle.std.proofs.lemmas.List.Sorted.{IsNonDecreasingBy-from_sort_by_key}
use Rattle.dsa_model.proofs.live_ranges.by_begin.Goals as goal

pub returns : goal.returns
returns c =
    let e : c.in_ok-sorted.sorted.items ≡ c.args.gaps.now = search rules in
    record {
      same = rw e at c.sort_unstable_by_key.ensures.permutation;
      rising =
          IsNonDecreasingBy-from_sort_by_key (λ (g : ℕ × ℕ). g.0) _ c.sort_unstable_by_key.ensures.sorted
          (λ a r q k. search rules);
    }
