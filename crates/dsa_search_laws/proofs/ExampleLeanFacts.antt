-- The sample log is lean; lines and logs that are not.
use Rattle.std.proofs.Common.{◌≡◌, ℕ, zero, suc, ◌-◌, ◌<◌, ◌⊎◌, inl, inr, Bool, true, false, not, ◌&&◌, ◌||◌, ◌==◌, List, [], ◌∷◌, map, length, slice_get, take, nat_lt, Option, Some, None, sym, refl, ap, ◌∙◌, arith}
use Rattle.std.specs.List.{list_any, list_all, AllZip}
use Rattle.dsa_terms.specs.Buffers.{Instance, buffer, is_live, have_same_moments, some_before}
use Rattle.dsa_terms.specs.Claims.{Entry, Claim, IsIn, up, Covers}
use Rattle.dsa_terms.specs.Logs.{is_stacked, rounded, rounding, ends_below, is_twin, Cite, ByLine, Below, Twin, Line, Over, Cases, claim_of}
use Rattle.dsa_terms.specs.Parts.{is_cut, are_uncut, are_parted, numbers}
use Rattle.dsa_terms.specs.Lean.{CitesOwn, IsLeanLine, IsLean}
use Rattle.dsa_terms.proofs.Moments.{and_true, not_true}
use Rattle.dsa_terms.proofs.Lists.{all_at}
use Rattle.dsa_terms.proofs.Examples.{evens, one_by_one, over_2, over_1, case_12, over_01, case_all, sample}
use Rattle.dsa_terms.proofs.NumberTests.{equal, is_below}
use Rattle.dsa_terms.proofs.Ranges.{into_range}
use Rattle.dsa_search_laws.specs.PartsByTime.{last_cut, start_of}
use Rattle.dsa_search_laws.proofs.Uncut.{starts_uncut}
use Rattle.dsa_search_laws.proofs.LineTests.{does_cover, covers_exactly, do_rise, is_claim, is_over, has_reason, is_legal, legal, not_legal}

-- ---- tests of a lean line
lowered : Claim → ℕ → ℕ → ℕ → Line
lowered l T H G = Over (map (λ e. (e.0, H - G)) l) T (H - G) G

is_own : Cite → Bool
is_own (ByLine k) = false
is_own (Below c) = true
is_own (Twin c) = true

cites_own : Instance → Claim → Claim → List Cite → Bool
cites_own I l [] [] = true
cites_own I l [] (c ∷ cs) = false
cites_own I l (e ∷ es) [] = false
cites_own I l (e ∷ es) (c ∷ cs) =
    (not (list_any (λ f. ends_below I f e) l || list_any (λ f. is_twin I f e) l) || is_own c) && cites_own I l es cs

lean_line : Instance → ℕ → List Line → Line → Bool
lean_line I C earlier (Over l T H G) =
    list_all (λ (e : Entry). is_live (buffer I e.0) T) l
    && (list_all (λ (e : Entry). e.1 == H) l && ((H == 0) || not (is_legal I C earlier (lowered l T H G))))
lean_line I C earlier (Cases l cites) = cites_own I l l cites

or_true : (a b : Bool) → (a || b) ≡ true → (a ≡ true) ⊎ (b ≡ true)
or_true true b h = inl refl
or_true false b h = inr h

own_is : (I : Instance) (l m : Claim) (cites : List Cite) → cites_own I l m cites ≡ true → AllZip (CitesOwn I l) m cites
unfolding cites_own is_own
own_is I l [] [] h = tt
own_is I l [] (c ∷ cs) h = absurd cc
own_is I l (e ∷ es) [] h = absurd cc
own_is I l (e ∷ es) (c ∷ cs) h =
    let r = and_true (not (list_any (λ f. ends_below I f e) l || list_any (λ f. is_twin I f e) l) || is_own c) _ h in (
      at c (or_true (not (list_any (λ f. ends_below I f e) l || list_any (λ f. is_twin I f e) l)) (is_own c) r.0),
      own_is I l es cs r.1,
    )
  where
    at : (c : Cite) →
        (not (list_any (λ f. ends_below I f e) l || list_any (λ f. is_twin I f e) l) ≡ true) ⊎ (is_own c ≡ true) →
        CitesOwn I l e c
    at c (inl q) t = absurd (let k = not_true
        (list_any (λ f. ends_below I f e) l || list_any (λ f. is_twin I f e) l) q in cc)
    at (ByLine k) (inr q) t = absurd cc
    at (Below d) (inr q) t = tt
    at (Twin d) (inr q) t = tt

lean_is : (I : Instance) (C : ℕ) (earlier : List Line) (line : Line) → lean_line I C earlier line ≡ true →
    IsLeanLine I C earlier line
unfolding lean_line lowered
lean_is I C earlier (Over l T H G) h =
    let a = and_true (list_all (λ (e : Entry). is_live (buffer I e.0) T) l) _ h in
    let b = and_true (list_all (λ (e : Entry). e.1 == H) l) _ a.1 in
    record {
      live = λ e i. all_at (λ (e : Entry). is_live (buffer I e.0) T) l e a.0 i;
      bounds = λ e i. equal e.1 H (all_at (λ (e : Entry). e.1 == H) l e b.0 i);
      lowest = elim (or_true (H == 0) _ b.1) [
        | inl q ↦ inl (equal H 0 q)
        | inr q ↦ inr (not_legal I C earlier (Over (map (λ e. (e.0, H - G)) l) T (H - G) G)
            (not_true (is_legal I C earlier (Over (map (λ e. (e.0, H - G)) l) T (H - G) G)) q))
      ];
    }
lean_is I C earlier (Cases l cites) h = own_is I l l cites h

-- ---- the sample log is lean
lean_0 : lean_line evens 4 [] over_2 ≡ true
unfolding lean_line lowered is_legal has_reason is_over is_claim do_rise is_stacked rounded rounding up is_live buffer
lean_0 = refl

lean_1 : lean_line evens 4 (over_2 ∷ []) over_1 ≡ true
unfolding lean_line lowered is_legal has_reason is_over is_claim do_rise is_stacked rounded rounding up is_live buffer
lean_1 = refl

lean_2 : lean_line evens 4 (over_2 ∷ over_1 ∷ []) case_12 ≡ true
unfolding lean_line cites_own is_own ends_below is_twin have_same_moments some_before up is_live buffer
lean_2 = refl

lean_3 : lean_line evens 4 (over_2 ∷ over_1 ∷ case_12 ∷ []) over_01 ≡ true
unfolding lean_line lowered is_legal has_reason is_over is_claim do_rise is_stacked rounded rounding up is_live buffer
lean_3 = refl

lean_4 : lean_line evens 4 (over_2 ∷ over_1 ∷ case_12 ∷ over_01 ∷ []) case_all ≡ true
unfolding lean_line cites_own is_own ends_below is_twin have_same_moments some_before up is_live buffer
lean_4 = refl

-- no line covers a later one
covers_at : Instance → Option Line → Option Line → Bool
covers_at I None o = false
covers_at I (Some earlier) None = false
covers_at I (Some earlier) (Some line) = does_cover I (claim_of earlier) (claim_of line)

covers_later : Instance → List Line → ℕ → ℕ → Bool
covers_later I lines j k = nat_lt j k && covers_at I (slice_get lines j) (slice_get lines k)

none_covered : Instance → List Line → Bool
none_covered I lines =
    list_all (λ j. list_all (λ k. not (covers_later I lines j k)) (numbers (length lines))) (numbers (length lines))

got_below : {X : Type 0} (xs : List X) (k : ℕ) (x : X) → slice_get xs k ≡ Some x → k < length xs
got_below [] k x h = absurd cc
got_below (y ∷ ys) zero x h = omega arith
got_below (y ∷ ys) (suc k) x h = let r = got_below ys k x h in omega arith

uncovered_is : (I : Instance) (lines : List Line) → none_covered I lines ≡ true →
    (j k : ℕ) (earlier line : Line) → j < k → slice_get lines j ≡ Some earlier → slice_get lines k ≡ Some line →
    Covers I (claim_of earlier) (claim_of line) → ⊥
unfolding none_covered covers_later covers_at
uncovered_is I lines h j k earlier line lt p q c =
    let ns = numbers (length lines) in
    let a = all_at (λ j. list_all (λ k. not (covers_later I lines j k)) ns) ns j h
    (among j (got_below lines j earlier p)) in
    let b = all_at (λ k. not (covers_later I lines j k)) ns k a (among k (got_below lines k line q)) in
    let f = not_true (covers_later I lines j k) b in
    clash (nat_lt j k) (covers_at I (slice_get lines j) (slice_get lines k)) (is_below j k lt)
    (rw (p, q) ((covers_exactly I (claim_of earlier) (claim_of line)).1 c)) f
  where
    among : (n : ℕ) → n < length lines → IsIn n (numbers (length lines))
    among n lt = into_range (length lines) 0 n (omega arith) (omega arith)

    clash : (a b : Bool) → a ≡ true → b ≡ true → (a && b) ≡ false → ⊥
    clash a b x y z = cc

sample_uncovered : none_covered evens sample.lines ≡ true
unfolding none_covered covers_later covers_at does_cover up buffer
sample_uncovered = refl

-- no cut lies between its buffers, which all begin at 0
begins : (b : ℕ) → (buffer evens b).lower ≡ 0
unfolding buffer
begins zero = refl
begins (suc zero) = refl
begins (suc (suc zero)) = refl
begins (suc (suc (suc b))) = refl

uncut : (b c : ℕ) → are_uncut evens b c ≡ true
unfolding start_of
uncut b c = starts_uncut evens b c (ap (last_cut evens) (begins b ∙ sym (begins c)))

lean_lines : (k : ℕ) (line : Line) → slice_get sample.lines k ≡ Some line →
    IsLeanLine evens 4 (take k sample.lines) line
lean_lines zero line h = let e : over_2 ≡ line = cc in rw (← e) (lean_is evens 4 [] over_2 lean_0)
lean_lines (suc zero) line h = let e : over_1 ≡ line = cc in rw (← e) (lean_is evens 4 (over_2 ∷ []) over_1 lean_1)
lean_lines (suc (suc zero)) line h =
    let e : case_12 ≡ line = cc in rw (← e) (lean_is evens 4 (over_2 ∷ over_1 ∷ []) case_12 lean_2)
lean_lines (suc (suc (suc zero))) line h =
    let e : over_01 ≡ line = cc in rw (← e) (lean_is evens 4 (over_2 ∷ over_1 ∷ case_12 ∷ []) over_01 lean_3)
lean_lines (suc (suc (suc (suc zero)))) line h =
    let e : case_all ≡ line = cc in
    rw (← e) (lean_is evens 4 (over_2 ∷ over_1 ∷ case_12 ∷ over_01 ∷ []) case_all lean_4)
lean_lines (suc (suc (suc (suc (suc k))))) line h = absurd cc

sample_is_lean : IsLean evens sample
sample_is_lean = record {
  uncovered = uncovered_is evens sample.lines sample_uncovered;
  lean = lean_lines;
  one_part = λ j k other line e f p q i m. uncut e.0 f.0;
}

-- ---- lines that are not lean
differ : (m n : ℕ) → m < n → m ≡ n → ⊥
differ m n lt h = omega arith

-- a line is cited for a buffer with a twin
not_own :
    IsLeanLine evens 4 (over_2 ∷ over_1 ∷ case_12 ∷ over_01 ∷ [])
    (Cases ((0, 0) ∷ (1, 0) ∷ (2, 0) ∷ []) (ByLine 2 ∷ ByLine 3 ∷ ByLine 3 ∷ [])) → ⊥
unfolding ends_below is_twin have_same_moments some_before up is_live buffer
not_own h = h.1.0 refl

-- one modulus lower it is still over: height 4 where 3 does
lower_passes : is_legal evens 4 [] (Over ((2, 3) ∷ []) 0 3 1) ≡ true
unfolding is_legal has_reason is_over is_claim do_rise is_stacked rounded rounding up is_live buffer
lower_passes = refl

not_lowest : IsLeanLine evens 4 [] (Over ((2, 4) ∷ []) 0 4 1) → ⊥
not_lowest h = elim h.lowest [
  | inl q ↦ differ 0 4 (omega arith) (sym q)
  | inr f ↦ f (legal evens 4 [] (Over ((2, 3) ∷ []) 0 3 1) lower_passes)
]

-- a bound that is not the height, and a buffer that is not live at the moment
not_height : IsLeanLine evens 4 [] (Over ((2, 4) ∷ []) 0 3 1) → ⊥
not_height h = differ 3 4 (omega arith) (sym (h.bounds (2, 4) (inl refl)))

not_at_moment : IsLeanLine evens 4 [] (Over ((2, 3) ∷ []) 1 3 1) → ⊥
unfolding is_live buffer
not_at_moment h = clash (h.live (2, 3) (inl refl))
  where
    clash : false ≡ true → ⊥
    clash h = cc

-- ---- logs that are not lean: a line that an earlier one covers, and lines of two parts
over_4_covered : does_cover evens (claim_of over_2) ((2, 4) ∷ []) ≡ true
unfolding does_cover up buffer
over_4_covered = refl

not_uncovered :
    IsLean evens (record { count = 3; capacity = 4; lines = over_2 ∷ Over ((2, 4) ∷ []) 0 4 1 ∷ []; final = 0 }) → ⊥
not_uncovered h =
    h.uncovered 0 1 over_2 (Over ((2, 4) ∷ []) 0 4 1) (omega arith) refl refl
    ((covers_exactly evens (claim_of over_2) ((2, 4) ∷ [])).0 over_4_covered)

not_one_part :
    IsLean one_by_one (record {
      count = 2;
      capacity = 1;
      lines = Over ((0, 0) ∷ []) 0 0 1 ∷ Over ((1, 0) ∷ []) 1 0 1 ∷ [];
      final = 0;
    }) → ⊥
unfolding are_uncut are_parted is_cut buffer
not_one_part h =
    let u = h.one_part 0 1 (Over ((0, 0) ∷ []) 0 0 1) (Over ((1, 0) ∷ []) 1 0 1) (0, 0) (1, 0) refl refl (inl refl)
    (inl refl) in
    false_is_not_true u
  where
    false_is_not_true : false ≡ true → ⊥
    false_is_not_true u = cc
