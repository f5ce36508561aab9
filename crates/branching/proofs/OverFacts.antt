-- A line that refutes a buffer of size 1 that stands at multiples of 4 alone, with the bound 3, at the capacity 4.
use Rattle.std.proofs.Common.{◌≡◌, ◌^◌, zero, suc, ◌<◌, ◌≤◌, List, [], ◌∷◌, inl, inr, refl, arith}
use Rattle.branching.proofs.Words.{buffer, is_live, Covers, Entry, IsClaim, IsIn, up, IsLegal, Line, Over, is_stacked, rounded, rounding, small_below}
use Rattle.claim_levels.proofs.LevelFacts.{rest, root}
use Rattle.branching.specs.Overs.{AreSizesWithin, RefutesAtOnce}

-- buffer 1 at 4 or above ends above 4
abbrev pub over : Line
over = Over ((1, 4) ∷ []) 0 4 1

over_is_claim : IsClaim small_below ((1, 4) ∷ [])
over_is_claim = record { rises = ((λ y i. absurd i), tt); in_range = in_range }
  where
    in_range : (e : Entry) → IsIn e ((1, 4) ∷ []) → e.0 < 2
    in_range e (inl q) = rw q (omega arith)
    in_range e (inr z) = absurd z

pub over_is_legal : (earlier : List Line) → IsLegal small_below 4 earlier over
unfolding is_stacked rounded rounding up is_live buffer
over_is_legal earlier = record {
  claim = over_is_claim;
  not_empty = λ q. cc;
  reason = record {
    modulus = omega arith;
    from_multiple = refl;
    some_stacked = λ q. cc;
    too_high = omega arith;
  };
}

pub over_covers : Covers small_below ((1, 4) ∷ []) rest
unfolding up buffer
over_covers e (inl q) = ((1, 3), inl refl, rw q refl, rw q (omega arith))
over_covers e (inr z) = absurd z

-- buffer 1 can start at 0
pub over_covers_no_root : Covers small_below ((1, 4) ∷ []) root → ⊥
unfolding up buffer
over_covers_no_root h = let c = h (1, 4) (inl refl) in go c.0 c.1 c.2 c.3
  where
    go : (f : Entry) → IsIn f root → f.0 ≡ 1 → 4 ≤ up small_below f → ⊥
    go f (inl q) b le = let k : f.0 ≡ 0 = rw q refl in omega arith
    go f (inr (inl q)) b le = let k : 4 ≤ 0 = rw q at le in omega arith
    go f (inr (inr z)) b le = z

over_refutes : RefutesAtOnce small_below 4 rest over
over_refutes = record {
  legal = over_is_legal;
  within = (bounded, omega arith, omega arith, omega arith);
  covers = over_covers;
}
  where
    bounded : (e : Entry) → IsIn e ((1, 4) ∷ []) → e.1 ≤ 2 ^ 60
    bounded e (inl q) = rw q (omega arith)
    bounded e (inr z) = absurd z

not_the_root : RefutesAtOnce small_below 4 root over → ⊥
not_the_root h = over_covers_no_root h.covers

-- at 5 the buffer ends at the capacity
not_at_5 : RefutesAtOnce small_below 5 rest over → ⊥
unfolding is_stacked rounded rounding up is_live buffer
not_at_5 h = let k : 5 < 5 = (h.legal []).reason.too_high in omega arith

-- ---- sizes
-- the buffers have the sizes 3 and 1
none_above_3 : AreSizesWithin small_below 3
unfolding buffer
none_above_3 zero lt = omega arith
none_above_3 (suc zero) lt = omega arith
none_above_3 (suc (suc b)) lt = absurd (omega arith)

one_above_2 : AreSizesWithin small_below 2 → ⊥
unfolding buffer
one_above_2 h = let k = h 0 (omega arith) in omega (arith, k)
