-- Lines and logs: legal cites and reasons, lean lines, and the lines that a trimmed log keeps.
use Rattle.std.proofs.Common.{◌≡◌, ℕ, zero, suc, ◌+◌, ◌==◌, ◌<◌, ◌≤◌, ◌≢◌, inl, inr, true, false, nat_le, [], ◌∷◌, map, slice_get, Some, refl, ap, ◌∙◌, sym, subst, arith}
use Rattle.dsa_terms.specs.Buffers.{is_live, IsLive, buffer, do_share, have_same_moments, some_before}
use Rattle.dsa_terms.specs.Claims.{Entry, Claim, IsIn, up, step, child, Covers}
use Rattle.dsa_terms.specs.Logs.{is_stacked, rounded, rounding, ends_below, is_twin, ByLine, Below, Twin, Line, Over, Cases, claim_of, IsLegalCite, IsLegalReason, IsLegal, Log}
use Rattle.dsa_terms.specs.Lean.{IsOwnCite, IsLeanOver}
use Rattle.dsa_terms.specs.Trims.{Cites, IsKept, at_end, by_cite, rank, moved_cite, moved_line, picked, IsTrimOf, IsCited}
use Rattle.dsa_terms.proofs.Examples.{evens, over_2, over_1, case_12, over_01, case_all, sample}
use Rattle.dsa_terms.proofs.NumberTests.{equal}

abbrev all_three : Claim
all_three = (0, 0) ∷ (1, 0) ∷ (2, 0) ∷ []

abbrev from_one : Claim
from_one = (1, 1) ∷ (2, 1) ∷ []

differ : (m n : ℕ) → m ≢ n → m ≡ n → ⊥
differ m n ne e = ne e

-- ---- legal cites: the child by 1 is 2 at 3 or above, which line 0 refutes
line_cite : IsLegalCite evens (over_2 ∷ over_1 ∷ []) from_one (1, 1) (ByLine 0)
unfolding child up step do_share some_before is_live buffer
line_cite = (over_2, refl, covers)
  where
    covers : Covers evens ((2, 3) ∷ []) ((2, 3) ∷ [])
    covers e (inl q) = rw q ((2, 3), inl refl, refl, omega arith)
    covers e (inr i) = absurd i

-- line 1 is of buffer 1, which the child by 1 doesn't have; and there is no line 2
other_line_cite : IsLegalCite evens (over_2 ∷ over_1 ∷ []) from_one (1, 1) (ByLine 1) → ⊥
unfolding child up step do_share some_before is_live buffer
other_line_cite (line, got, covers) = close line got covers
  where
    absent : (f : Entry) × IsIn f ((2, 3) ∷ []) × (f.0 ≡ 1) × (4 ≤ up evens f) → ⊥
    absent (f, inl q, n, le) = differ 2 1 (λ h. omega arith) (ap (λ (x : Entry). x.0) (sym q) ∙ n)
    absent (f, inr i, n, le) = i

    close : (line : Line) → Some over_1 ≡ Some line → Covers evens (claim_of line) ((2, 3) ∷ []) → ⊥
    close line got covers =
        let e : over_1 ≡ line = cc in
        absent (subst (λ (l : Line). Covers evens (claim_of l) ((2, 3) ∷ [])) (sym e) covers (1, 4) (inl refl))

late_line_cite : IsLegalCite evens (over_2 ∷ over_1 ∷ []) from_one (1, 1) (ByLine 2) → ⊥
late_line_cite (line, got, covers) = cc

-- 2 ends at the up of 1, which is 4, and 1 does not end below 2
below_cite : IsLegalCite evens [] ((1, 3) ∷ (2, 2) ∷ []) (1, 3) (Below 2)
unfolding ends_below up buffer
below_cite = ((2, 2), inr (inl refl), refl, refl)

above_cite : IsLegalCite evens [] ((1, 3) ∷ (2, 2) ∷ []) (2, 2) (Below 1) → ⊥
unfolding ends_below up buffer
above_cite (f, i, n, h) = no f i n h
  where
    no : (f : Entry) → IsIn f ((1, 3) ∷ (2, 2) ∷ []) → f.0 ≡ 1 → ends_below evens f (2, 2) ≡ true → ⊥
    no f (inl q) n h = let k : false ≡ true = ap (λ (x : Entry). ends_below evens x (2, 2)) (sym q) ∙ h in cc
    no f (inr (inl q)) n h = differ 2 1 (λ h. omega arith) (ap (λ (x : Entry). x.0) (sym q) ∙ n)
    no f (inr (inr i)) n h = i

-- 0 is a twin before 1, and 1 none before 0
twin_cite : IsLegalCite evens [] all_three (1, 0) (Twin 0)
unfolding is_twin have_same_moments some_before is_live up buffer
twin_cite = ((0, 0), inl refl, refl, refl)

later_twin_cite : IsLegalCite evens [] all_three (0, 0) (Twin 1) → ⊥
unfolding is_twin have_same_moments some_before is_live up buffer
later_twin_cite (f, i, n, h) = no f i n h
  where
    no : (f : Entry) → IsIn f all_three → f.0 ≡ 1 → is_twin evens f (0, 0) ≡ true → ⊥
    no f (inl q) n h = differ 0 1 (λ h. omega arith) (ap (λ (x : Entry). x.0) (sym q) ∙ n)
    no f (inr (inl q)) n h = let k : false ≡ true = ap (λ (x : Entry). is_twin evens x (0, 0)) (sym q) ∙ h in cc
    no f (inr (inr (inl q))) n h = differ 2 1 (λ h. omega arith) (ap (λ (x : Entry). x.0) (sym q) ∙ n)
    no f (inr (inr (inr i))) n h = i

-- ---- legal reasons: from 2 on two sizes of 1 rounded up to 2, less one rounding, come to 5
over_01_reason : IsLegalReason evens 4 [] over_01
unfolding is_stacked rounded rounding up is_live buffer
over_01_reason = record {
  modulus = omega arith;
  from_multiple = refl;
  some_stacked = λ q. cc;
  too_high = omega arith;
}

over_01_at_5 : IsLegalReason evens 5 [] over_01 → ⊥
unfolding is_stacked rounded rounding up is_live buffer
over_01_at_5 r = let h = r.too_high in omega arith

-- a cite for each of the three
case_all_reason : IsLegalReason evens 4 (over_2 ∷ over_1 ∷ case_12 ∷ over_01 ∷ []) case_all
unfolding child up step do_share have_same_moments some_before is_live buffer is_twin
case_all_reason = ((case_12, refl, by_case), (((0, 0), inl refl, refl, refl), ((over_01, refl, by_over), tt)))
  where
    by_case : Covers evens from_one from_one
    by_case e (inl q) = rw q ((1, 1), inl refl, refl, omega arith)
    by_case e (inr (inl q)) = rw q ((2, 1), inr (inl refl), refl, omega arith)
    by_case e (inr (inr i)) = absurd i

    by_over : Covers evens (claim_of over_01) (claim_of over_01)
    by_over e (inl q) = rw q ((0, 2), inl refl, refl, omega arith)
    by_over e (inr (inl q)) = rw q ((1, 2), inr (inl refl), refl, omega arith)
    by_over e (inr (inr i)) = absurd i

-- one cite for two buffers
one_cite : IsLegalReason evens 4 (over_2 ∷ over_1 ∷ []) (Cases from_one (ByLine 0 ∷ [])) → ⊥
one_cite r = r.1

-- ---- lean lines
own_cites : IsOwnCite (Below 1) × IsOwnCite (Twin 0)
own_cites = (tt, tt)

line_is_not_own : IsOwnCite (ByLine 0) → ⊥
line_is_not_own h = h

-- size 2 at 3 or above ends above 4, at 2 or above it does not
lean_over : IsLeanOver evens 4 [] ((2, 3) ∷ []) 0 3 1
unfolding is_stacked rounded rounding up is_live buffer
lean_over = record {
  live = λ e i. live e i;
  bounds = λ e i. bounds e i;
  lowest = inr (λ h. let q = h.reason.too_high in omega arith);
}
  where
    live : (e : Entry) → IsIn e ((2, 3) ∷ []) → IsLive (buffer evens e.0) 0
    live e (inl q) = rw q refl
    live e (inr i) = absurd i

    bounds : (e : Entry) → IsIn e ((2, 3) ∷ []) → e.1 ≡ 3
    bounds e (inl q) = rw q refl
    bounds e (inr i) = absurd i

-- at 4 or above it is no lean line, since from 3 on it is legal too
legal_at_3 : IsLegal evens 4 [] (Over ((2, 3) ∷ []) 0 3 1)
unfolding is_stacked rounded rounding up is_live buffer
legal_at_3 = record {
  claim = record { rises = ((λ y i. absurd i), tt); in_range = in_range };
  not_empty = λ q. cc;
  reason = record { modulus = omega arith; from_multiple = refl; some_stacked = λ q. cc; too_high = omega arith };
}
  where
    in_range : (e : Entry) → IsIn e ((2, 3) ∷ []) → e.0 < 3
    in_range e (inl q) = rw q (omega arith)
    in_range e (inr i) = absurd i

not_lean_over : IsLeanOver evens 4 [] ((2, 4) ∷ []) 0 4 1 → ⊥
not_lean_over o = elim o.lowest [ inl q ↦ omega arith | inr f ↦ f legal_at_3 ]

-- ---- what lines cite
all_cites : Cites case_all 2 × Cites case_all 3
all_cites = (inl refl, inr (inr (inl refl)))

-- a twin cite names a buffer, and an Over line cites nothing
not_the_twin : Cites case_all 0 → ⊥
not_the_twin (inl q) = absurd cc
not_the_twin (inr (inl q)) = absurd cc
not_the_twin (inr (inr (inl q))) = absurd cc
not_the_twin (inr (inr (inr i))) = i

over_cites_none : Cites over_01 0 → ⊥
over_cites_none h = h

-- the end is kept, which cites line 2, and that one cites line 0
end_is_kept : IsKept sample 4
end_is_kept = at_end

two_is_kept : IsKept sample 2
two_is_kept = by_cite 4 2 case_all end_is_kept refl (inl refl)

zero_is_kept : IsKept sample 0
zero_is_kept = by_cite 2 0 case_12 two_is_kept refl (inl refl)

-- a line after the end that nothing cites is not kept
abbrev with_rest : Log
with_rest = record { count = 3; capacity = 4; lines = over_2 ∷ over_1 ∷ []; final = 0 }

none_cites : (j k : ℕ) (line : Line) → slice_get with_rest.lines j ≡ Some line → Cites line k → ⊥
none_cites zero k line got cites = let e : over_2 ≡ line = cc in subst (λ (l : Line). Cites l k) (sym e) cites
none_cites (suc zero) k line got cites = let e : over_1 ≡ line = cc in subst (λ (l : Line). Cites l k) (sym e) cites
none_cites (suc (suc j)) k line got cites = absurd cc

end_alone : (k : ℕ) → IsKept with_rest k → k ≡ 0
end_alone k at_end = refl
end_alone k (by_cite j i line before got cites) = absurd (none_cites j i line got cites)

rest_goes : IsTrimOf with_rest (record { count = 3; capacity = 4; lines = over_2 ∷ []; final = 0 })
rest_goes = record {
  is_kept = λ k. k == 0;
  kept = λ k. (λ t. rw (equal k 0 t) at_end, λ h. rw (end_alone k h) refl);
  count = refl;
  capacity = refl;
  lines = refl;
  last = refl;
}

-- line 2 is cited by line 4, and the end by none
two_is_cited : IsCited sample.lines 2
two_is_cited = record { number = 4; line = case_all; later = omega arith; there = refl; cites = inl refl }

end_is_not_cited : IsCited sample.lines 4 → ⊥
end_is_not_cited c = none c.number c.later c.there
  where
    none : (n : ℕ) → 4 < n → slice_get sample.lines n ≡ Some c.line → ⊥
    none zero lt got = omega arith
    none (suc zero) lt got = omega arith
    none (suc (suc zero)) lt got = omega arith
    none (suc (suc (suc zero))) lt got = omega arith
    none (suc (suc (suc (suc zero)))) lt got = omega arith
    none (suc (suc (suc (suc (suc n))))) lt got = cc

-- ---- renumbered and picked: the numbers of lines alone change, and the first line has number 2
moved_cites : map (moved_cite (λ k. k + 7)) (ByLine 2 ∷ Below 2 ∷ Twin 2 ∷ []) ≡ ByLine 9 ∷ Below 2 ∷ Twin 2 ∷ []
moved_cites = refl

moved_case : moved_line (λ k. k + 7) case_all ≡ Cases all_three (ByLine 9 ∷ Twin 0 ∷ ByLine 10 ∷ [])
moved_case = refl

ranks : map (rank (nat_le 2)) (1 ∷ 2 ∷ 3 ∷ 4 ∷ []) ≡ 0 ∷ 0 ∷ 1 ∷ 2 ∷ []
unfolding rank
ranks = refl

moved_over : moved_line (λ k. k + 7) over_01 ≡ over_01
moved_over = refl

picked_third : picked (λ k. k == 4) 2 (over_2 ∷ over_1 ∷ case_12 ∷ over_01 ∷ []) ≡ case_12 ∷ []
picked_third = refl

picked_rest : picked (nat_le 3) 2 (over_2 ∷ over_1 ∷ case_12 ∷ []) ≡ over_1 ∷ case_12 ∷ []
picked_rest = refl
