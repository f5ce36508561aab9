-- What an answer makes of a bracket.
use Rattle.std.proofs.Common.{◌≡◌, ℕ, ◌+◌, ◌-◌, ◌<◌, ◌≤◌, ◌⊎◌, inl, inr, List, Option, Some, None, refl, ◌∙◌, arith}
use Rattle.dsa_terms.specs.Buffers.{Instance, IsInstance}
use Rattle.dsa_terms.specs.Layouts.{IsLayout}
use Rattle.dsa_terms.specs.Logs.{Log}
use Rattle.dsa_terms.specs.Plans.{layout_height}
use Rattle.dsa_search_laws.proofs.Logs.{accepted_is_infeasible, layout_higher}
use Rattle.dsa_search_laws.proofs.Plans.{layout_under, under_layout_height}
use Rattle.refute_log.specs.Decided.{IfSpent, IsRight}
use Rattle.refute_log.specs.declared.decided.Decided.{Decided}
use Rattle.refute_log.specs.declared.decided.Decided.TheVariants.{Layout, Refuted, Spent}
use Rattle.min_capacity.specs.Brackets.{IsBracket, Refutes}
use Rattle.min_capacity.specs.declared.brackets.Bracket.{Bracket}
use Rattle.narrowing.specs.Narrowed.{after_answer, IsDecidedAt, IsLogPaid, IsNarrowed, LayoutFalls, lines_of}

-- a layout is one at its height
at_height : (I : Instance) (C : ℕ) (offsets : List ℕ) → IsLayout I C offsets →
    IsLayout I (layout_height I offsets) offsets
at_height I C offsets h = record {
  count = h.count;
  aligned = h.aligned;
  above = h.above;
  within = λ b lt. under_layout_height I offsets b lt;
  apart = h.apart;
}

-- no layout ends below a bracket
above_low : (I : Instance) (low C : ℕ) (log : Option Log) (offsets : List ℕ) → IsInstance I → Refutes I low log →
    IsLayout I C offsets → low ≤ C
above_low I low C None offsets sound r l = omega (arith, r)
above_low I low C (Some log) offsets sound r l = elim (cases low C) [
  | inl le ↦ le
  | inr lt ↦ absurd (
      let e = r.1 in
      accepted_is_infeasible I log sound r.0 offsets (layout_higher I C log.capacity offsets (omega arith) l))
]
  where
    cases : (x y : ℕ) → (x ≤ y) ⊎ (y < x)
    cases x y = grind arith

-- the start itself
pub narrowed_at_start : (I : Instance) (b : Bracket) → IsBracket I b → IsNarrowed I b b
narrowed_at_start I b h = record { bracket = h; low = omega arith; high = omega arith; layout = inl refl }

pub narrowed_twice : {I : Instance} {a b c : Bracket} → IsNarrowed I a b → IsNarrowed I b c → IsNarrowed I a c
narrowed_twice {I} {a} {b} {c} h k = record {
  bracket = k.bracket;
  low = let x = h.low in let y = k.low in omega arith;
  high = let x = h.high in let y = k.high in omega arith;
  layout = falls h.layout k.layout;
}
  where
    falls : LayoutFalls a b → LayoutFalls b c → LayoutFalls a c
    falls (inl e) (inl f) = inl (f ∙ e)
    falls (inl e) (inr lt) = inr (let x = h.high in omega (arith, lt))
    falls (inr lt) f = inr (let y = k.high in omega (arith, lt))

-- the bracket narrows
pub narrowed_by_answer : (I : Instance) (C : ℕ) (b : Bracket) (d : Decided) → IsInstance I → IsBracket I b →
    b.low ≤ C → C < b.high → IsRight I C d → IsNarrowed I b (after_answer I C b d)
narrowed_by_answer I C b (Layout offsets) sound h low high laid =
    let under = layout_under I C offsets.items laid in
    let at = at_height I C offsets.items laid in
    let above = above_low I b.low (layout_height I offsets.items) b.log offsets.items sound h.log at in
    record {
      bracket = record {
        ordered = above;
        limit = let k = h.limit in omega (arith, under, high);
        layout = at;
        height = refl;
        log = h.log;
      };
      low = omega arith;
      high = omega (arith, under, high);
      layout = inr (omega (arith, under, high));
    }
narrowed_by_answer I C b (Refuted log) sound h low high right = record {
  bracket = record {
    ordered = omega (arith, high);
    limit = h.limit;
    layout = h.layout;
    height = h.height;
    log = (right.0, let e = right.1 in omega arith);
  };
  low = omega (arith, low);
  high = omega arith;
  layout = inl refl;
}
narrowed_by_answer I C b Spent sound h low high right = narrowed_at_start I b h

-- an answer but Spent decides the capacity
pub decided_by_answer : (I : Instance) (C : ℕ) (b : Bracket) (d : Decided) → (d ≡ Spent → ⊥) → IsRight I C d →
    IsDecidedAt C (after_answer I C b d)
decided_by_answer I C b (Layout offsets) other laid = inl (layout_under I C offsets.items laid)
decided_by_answer I C b (Refuted log) other right = inr (refl, (log, refl, right.1))
decided_by_answer I C b Spent other right = absurd (other refl)

-- a log that comes is paid for
pub paid_by_answer : (I : Instance) (C u v w : ℕ) (start b : Bracket) (d : Decided) → start.low ≤ b.low → b.low ≤ C →
    IsLogPaid u v start b → u ≤ v → v + lines_of d ≤ w → IsLogPaid u w start (after_answer I C b d)
paid_by_answer I C u v w start b (Refuted log) from low paid le lines =
    inr (log, refl, omega arith, omega arith)
paid_by_answer I C u v w start b (Layout offsets) from low paid le lines = still paid
  where
    still : IsLogPaid u v start b → IsLogPaid u w start b
    still (inl e) = inl e
    still (inr g) = inr (g.0, g.1, g.2, let k = g.3 in omega arith)
paid_by_answer I C u v w start b Spent from low paid le lines = still paid
  where
    still : IsLogPaid u v start b → IsLogPaid u w start b
    still (inl e) = inl e
    still (inr g) = inr (g.0, g.1, g.2, let k = g.3 in omega arith)

-- what is left of the bracket and of the units grows less
pub less_left : (I : Instance) (C last u v n : ℕ) (b : Bracket) (d : Decided) → b.low ≤ C → C < b.high →
    IsRight I C d → u ≤ v → v ≤ last → 1 ≤ n → IfSpent d (v ≡ u + n) →
    ((after_answer I C b d).high - (after_answer I C b d).low) + (last - v) < (b.high - b.low) + (last - u)
less_left I C last u v n b (Layout offsets) low high laid le most some spent =
    let under = layout_under I C offsets.items laid in omega (arith, under)
less_left I C last u v n b (Refuted log) low high right le most some spent = omega arith
less_left I C last u v n b Spent low high right le most some spent = omega (arith, spent)
