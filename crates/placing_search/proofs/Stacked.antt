-- What is swapped and raised in a stack leaves a stack.
use Rattle.std.proofs.Common.{◌≡◌, ◌^◌, ℕ, ◌<◌, ◌≤◌, List, length, sym, ap, ◌∙◌, subst, arith}
use Rattle.std.proofs.Math.ListN.{set, length-set}
use Rattle.std.proofs.lemmas.List.Elements.{All-set}
use Rattle.std.specs.List.{All, swap}
use Rattle.std.specs.Int.{next_multiple_of}
use Rattle.dsa_terms.specs.Buffers.{Buffer, Instance, floor}
use Rattle.dsa_model.specs.Buffer.{IsBuffer}
use Rattle.first_fit.specs.Rules.{IsOrderOf}
use Rattle.placing_search.specs.Stacks.{IsStackOf}
use Rattle.placing_search.specs.declared.stacking.Stack.{Stack}
use Rattle.placing_search.proofs.Climbs.{order_swapped}

-- an offset from a low one on is not too large
pub raised_is_low : (b : Buffer) (from : ℕ) → IsBuffer b → from ≤ 2 ^ 60 → next_multiple_of from b.alignment ≤ 2 ^ 61
raised_is_low b from h le = let pos = h.sound.1 in let most = h.within_alignment in omega arith

pub floor_is_low : (b : Buffer) → IsBuffer b → floor b ≤ 2 ^ 61
unfolding floor
floor_is_low b h = let le = h.within_lowest in raised_is_low b b.lowest h (omega arith)

-- two places of a stack's order change what stands there, and the offset of one buffer to one that is not too large
pub stack_swapped : (I : Instance) (s t : Stack) (a b k low : ℕ) → a < length I → b < length I → low ≤ 2 ^ 61 →
    t.order.items ≡ swap s.order.items a b → length t.ends.items ≡ length I → t.lows.items ≡ set s.lows.items k low →
    t.unstacked.items ≡ s.unstacked.items → t.tops.items ≡ s.tops.items → t.loads.items ≡ s.loads.items →
    IsStackOf I s → IsStackOf I t
stack_swapped I s t a b k low la lb le e f g j i o h =
    let m = h.each_once.count in
    record {
      each_once = order_swapped I s.order.items t.order.items a b (omega arith) (omega arith) e h.each_once;
      end_count = f;
      count = ap length g ∙ length-set s.lows.items k low ∙ h.count;
      bits = ap length j ∙ h.bits;
      columns = ap length i ∙ h.columns;
      load_count = ap length o ∙ h.load_count;
      limit = rw g (All-set (λ (low : ℕ). low ≤ 2 ^ 61) s.lows.items k low le h.limit);
    }

-- the offset of one buffer changes to one that is not too large
pub stack_set : (I : Instance) (s t : Stack) (k low : ℕ) → low ≤ 2 ^ 61 → t.order.items ≡ s.order.items →
    t.ends.items ≡ s.ends.items → t.lows.items ≡ set s.lows.items k low → t.unstacked.items ≡ s.unstacked.items →
    t.tops.items ≡ s.tops.items → t.loads.items ≡ s.loads.items → IsStackOf I s → IsStackOf I t
stack_set I s t k low le e f g j i o h = record {
  each_once = subst (IsOrderOf I) (sym e) h.each_once;
  end_count = ap length f ∙ h.end_count;
  count = ap length g ∙ length-set s.lows.items k low ∙ h.count;
  bits = ap length j ∙ h.bits;
  columns = ap length i ∙ h.columns;
  load_count = ap length o ∙ h.load_count;
  limit = rw g (All-set (λ (low : ℕ). low ≤ 2 ^ 61) s.lows.items k low le h.limit);
}

-- two places get numbers that are in range
pub two_set : (n : ℕ) (xs : List ℕ) (i j a b : ℕ) → a < n → b < n → All (λ x. x < n) xs →
    All (λ x. x < n) (set (set xs i a) j b)
two_set n xs i j a b la lb h =
    All-set (λ (x : ℕ). x < n) (set xs i a) j b lb (All-set (λ (x : ℕ). x < n) xs i a la h)
