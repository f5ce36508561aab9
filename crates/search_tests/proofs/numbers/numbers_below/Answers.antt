use Rattle.std.proofs.Common.{◌+◌, ◌<◌, List, sym, subst, ℕ, arith, inl, inr, ◌++◌, [], ◌∷◌}
use Rattle.std.specs.List.{All}
use Rattle.dsa_terms.specs.Claims.{Rises}
use Rattle.dsa_terms.proofs.Lists.{from_append}
use Rattle.dsa_terms.proofs.Places.{all_from_in, in_from_all}
use Rattle.dsa_terms.proofs.Ranges.{rises-push}
use Rattle.search_tests.proofs.numbers.numbers_below.Goals as goal

pub loop-b-preserved : goal.loop-b-preserved
loop-b-preserved c =
    let old = in_from_all (λ b. b < c.loop-b.b) c.loop-b.numbers.items c.loop-b.invariant.below in
    record {
      rises = subst Rises (sym c.in_ok-push.ensures.items)
          (rises-push c.loop-b.numbers.items c.loop-b.b c.loop-b.invariant.rises old);
      below = subst (λ (xs : List ℕ). All (λ b. b < c.loop-b.b + 1) xs) (sym c.in_ok-push.ensures.items)
          (all_from_in (λ b. b < c.loop-b.b + 1) (c.loop-b.numbers.items ++ c.loop-b.b ∷ []) (λ x i.
          elim (from_append c.loop-b.numbers.items (c.loop-b.b ∷ []) x i) [
            | inl j ↦ let k = old x j in omega arith
            | inr j ↦ elim j [ inl e ↦ omega arith | inr j ↦ absurd j ]
          ]));
    }
