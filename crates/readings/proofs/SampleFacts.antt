-- The sample log is accepted for its three buffers, so no layout fits at 4, and its text reads back.
use Rattle.std.proofs.Common.{◌≡◌, ◌≤◌, ◌^◌, ℕ, zero, suc, true, nat_le, List, [], ◌∷◌, All, slice_get, take, Some, inl, inr, refl, lit<, lit≤, arith}
use Rattle.std.proofs.lemmas.List.Elements.{All-cons, All-nil}
use Rattle.std.specs.List.{list_all}
use Rattle.dsa_terms.specs.Buffers.{IsInstance, buffer, do_share, floor, have_same_moments, is_live, some_before}
use Rattle.dsa_terms.specs.Claims.{Claim, Entry, IsIn, IsWhole, child, step, up}
use Rattle.dsa_terms.specs.Layouts.{IsInfeasible}
use Rattle.dsa_terms.specs.Logs.{ByLine, Cite, IsAccepted, IsLegal, Line, Twin, claim_of, ends_below, is_stacked, is_twin, rounded, rounding}
use Rattle.dsa_terms.proofs.Examples.{case_12, case_all, evens, over_01, over_1, over_2, sample}
use Rattle.dsa_terms.proofs.Lists.{all_at}
use Rattle.dsa_terms.proofs.NumberTests.{at_most}
use Rattle.dsa_search_laws.proofs.LineTests.{are_legal_cites, does_cover, do_rise, has_reason, is_claim, is_legal, is_legal_cite, is_over, legal}
use Rattle.dsa_search_laws.proofs.Logs.{accepted_is_infeasible}
use Rattle.refute_log.specs.Lines.{IsCiteWithin, IsLineKept, IsWithin}
use Rattle.refute_log.proofs.Legal.{legal_is_kept}
use Rattle.log_text.specs.RawTexts.{IsTextOf}
use Rattle.log_text.specs.Text.{log_text, raw_log_of}
use Rattle.log_text.proofs.WrittenLogs.{text_is_read_back}

-- ---- its lines are legal
lines_pass : (is_legal evens 4 [] over_2 ≡ true) × (is_legal evens 4 (over_2 ∷ []) over_1 ≡ true)
    × (is_legal evens 4 (over_2 ∷ over_1 ∷ []) case_12 ≡ true)
    × (is_legal evens 4 (over_2 ∷ over_1 ∷ case_12 ∷ []) over_01 ≡ true)
    × (is_legal evens 4 (over_2 ∷ over_1 ∷ case_12 ∷ over_01 ∷ []) case_all ≡ true)
unfolding is_legal has_reason is_over are_legal_cites is_legal_cite does_cover is_claim do_rise child step is_twin
    ends_below have_same_moments do_share some_before is_stacked rounded rounding up is_live buffer
lines_pass = (refl, refl, refl, refl, refl)

are_legal : (k : ℕ) (line : Line) → slice_get sample.lines k ≡ Some line → IsLegal evens 4 (take k sample.lines) line
are_legal zero line h = let e : over_2 ≡ line = cc in rw (← e) (legal evens 4 [] over_2 lines_pass.0)
are_legal (suc zero) line h =
    let e : over_1 ≡ line = cc in rw (← e) (legal evens 4 (over_2 ∷ []) over_1 lines_pass.1)
are_legal (suc (suc zero)) line h =
    let e : case_12 ≡ line = cc in rw (← e) (legal evens 4 (over_2 ∷ over_1 ∷ []) case_12 lines_pass.2)
are_legal (suc (suc (suc zero))) line h =
    let e : over_01 ≡ line = cc in
    rw (← e) (legal evens 4 (over_2 ∷ over_1 ∷ case_12 ∷ []) over_01 lines_pass.3)
are_legal (suc (suc (suc (suc zero)))) line h =
    let e : case_all ≡ line = cc in
    rw (← e) (legal evens 4 (over_2 ∷ over_1 ∷ case_12 ∷ over_01 ∷ []) case_all lines_pass.4)
are_legal (suc (suc (suc (suc (suc k))))) line h = absurd cc

-- ---- so it is accepted
is_whole : IsWhole evens (claim_of case_all)
unfolding buffer floor
is_whole e (inl q) = rw q (omega arith)
is_whole e (inr (inl q)) = rw q (omega arith)
is_whole e (inr (inr (inl q))) = rw q (omega arith)
is_whole e (inr (inr (inr i))) = absurd i

pub sample_is_accepted : IsAccepted evens sample
sample_is_accepted = record { same_count = refl; legal = are_legal; whole = (case_all, refl, is_whole) }

is_instance : IsInstance evens
is_instance zero d lt = (lit≤ tt, lit≤ tt, lit< tt)
is_instance (suc zero) d lt = (lit≤ tt, lit≤ tt, lit< tt)
is_instance (suc (suc zero)) d lt = (lit≤ tt, lit≤ tt, lit< tt)
is_instance (suc (suc (suc k))) d lt = absurd (omega arith)

pub none_at_4 : IsInfeasible evens 4
none_at_4 = accepted_is_infeasible evens sample is_instance sample_is_accepted

-- ---- its text
bounded : (l : Claim) → list_all (λ (e : Entry). nat_le e.1 4) l ≡ true → (e : Entry) → IsIn e l → e.1 ≤ 2 ^ 60
bounded l h e i = let k = at_most e.1 4 (all_at (λ (e : Entry). nat_le e.1 4) l e h i) in omega (arith, k)

kept : (earlier : List Line) (line : Line) → IsWithin line → IsLegal evens 4 earlier line → IsLineKept line
kept earlier line = legal_is_kept evens 4 earlier line (lit≤ tt)

cites_within : (a b : Cite) (cs : List Cite) → IsCiteWithin a → IsCiteWithin b → All IsCiteWithin cs →
    All IsCiteWithin (a ∷ b ∷ cs)
cites_within a b cs p q r = All-cons IsCiteWithin a (b ∷ cs) p (All-cons IsCiteWithin b cs q r)

are_kept : All IsLineKept sample.lines
are_kept zero d lt =
    kept [] over_2 (bounded (claim_of over_2) refl, lit< tt, lit≤ tt, lit≤ tt) (are_legal 0 over_2 refl)
are_kept (suc zero) d lt =
    kept (over_2 ∷ []) over_1 (bounded (claim_of over_1) refl, lit< tt, lit≤ tt, lit≤ tt) (are_legal 1 over_1 refl)
are_kept (suc (suc zero)) d lt = kept (over_2 ∷ over_1 ∷ []) case_12
    (bounded (claim_of case_12) refl, cites_within (ByLine 0) (ByLine 1) [] (lit≤ tt) (lit≤ tt) (All-nil IsCiteWithin))
    (are_legal 2 case_12 refl)
are_kept (suc (suc (suc zero))) d lt = kept (over_2 ∷ over_1 ∷ case_12 ∷ []) over_01
    (bounded (claim_of over_01) refl, lit< tt, lit≤ tt, lit≤ tt) (are_legal 3 over_01 refl)
are_kept (suc (suc (suc (suc zero)))) d lt = kept (over_2 ∷ over_1 ∷ case_12 ∷ over_01 ∷ []) case_all (
  bounded (claim_of case_all) refl,
  cites_within (ByLine 2) (Twin 0) (ByLine 3 ∷ []) (lit≤ tt) (lit≤ tt)
      (All-cons IsCiteWithin (ByLine 3) [] (lit≤ tt) (All-nil IsCiteWithin)),
)
    (are_legal 4 case_all refl)
are_kept (suc (suc (suc (suc (suc k))))) d lt = absurd (omega arith)

pub sample_reads_back : IsTextOf (log_text sample) (raw_log_of sample)
sample_reads_back = text_is_read_back (log_text sample) sample refl (lit≤ tt)
    (record { capacity_limit = lit≤ tt; each = are_kept }) (lit≤ tt)
