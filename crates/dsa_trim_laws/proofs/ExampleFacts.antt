-- Trimmed logs: a line that nothing cites goes, with what only it cites, and the cites are renumbered.
use Rattle.std.proofs.Common.{◌≡◌, ℕ, zero, suc, ◌+◌, ◌<◌, true, nat_lt, [], ◌∷◌, length, map, Some, refl, ap, arith}
use Rattle.std.specs.List.{list_all}
use Rattle.dsa_terms.specs.Claims.{IsIn}
use Rattle.dsa_terms.specs.Logs.{ByLine, Below, Twin, Line, Over, Cases, Log}
use Rattle.dsa_terms.specs.Parts.{has}
use Rattle.dsa_terms.specs.Trims.{IsTrimOf, rank}
use Rattle.dsa_trim_laws.specs.Trimmed.{cited_line, cited, with_cited, needed_from, needed, renumbered, kept_lines, trimmed}
use Rattle.dsa_terms.proofs.Lists.{all_at}
use Rattle.dsa_terms.proofs.NumberTests.{less}
use Rattle.dsa_trim_laws.proofs.Needed.{CitesEarlier, kept_by}
use Rattle.dsa_trim_laws.proofs.Trims.{one_trim}
use Rattle.dsa_terms.proofs.Examples.{over_2, over_1, case_12, over_01, case_all, sample}

-- the sample log after a line that nothing cites
abbrev pub with_extra : Log
with_extra = record {
  count = 3;
  capacity = 4;
  lines = Over ((0, 5) ∷ []) 0 5 1 ∷ over_2 ∷ over_1 ∷ Cases ((1, 1) ∷ (2, 1) ∷ []) (ByLine 1 ∷ ByLine 2 ∷ []) ∷ over_01
      ∷ Cases ((0, 0) ∷ (1, 0) ∷ (2, 0) ∷ []) (ByLine 3 ∷ Twin 0 ∷ ByLine 4 ∷ []) ∷ [];
  final = 5;
}

cites_below : (n : ℕ) (given line : Line) (j : ℕ) → list_all (λ j. nat_lt j n) (cited given) ≡ true →
    Some given ≡ Some line → IsIn j (cited line) → j < 0 + n
cites_below n given line j all h i =
    let e : given ≡ line = cc in
    let lt = less j n (all_at (λ j. nat_lt j n) (cited given) j all (rw e i)) in omega arith

extra_cites_earlier : CitesEarlier 0 with_extra.lines
extra_cites_earlier zero line j h i = cites_below 0 (Over ((0, 5) ∷ []) 0 5 1) line j refl h i
extra_cites_earlier (suc zero) line j h i = cites_below 1 over_2 line j refl h i
extra_cites_earlier (suc (suc zero)) line j h i = cites_below 2 over_1 line j refl h i
extra_cites_earlier (suc (suc (suc zero))) line j h i =
    cites_below 3 (Cases ((1, 1) ∷ (2, 1) ∷ []) (ByLine 1 ∷ ByLine 2 ∷ [])) line j refl h i
extra_cites_earlier (suc (suc (suc (suc zero)))) line j h i = cites_below 4 over_01 line j refl h i
extra_cites_earlier (suc (suc (suc (suc (suc zero))))) line j h i =
    cites_below 5 (Cases ((0, 0) ∷ (1, 0) ∷ (2, 0) ∷ []) (ByLine 3 ∷ Twin 0 ∷ ByLine 4 ∷ [])) line j refl h i
extra_cites_earlier (suc (suc (suc (suc (suc (suc k)))))) line j h i = absurd cc

-- its trim is the sample log: lines 1 to 5 are kept, and no other
pub sample_is_trim : IsTrimOf with_extra sample
unfolding rank needed with_cited has
sample_is_trim = record {
  is_kept = λ k. has k (needed with_extra);
  kept = λ k. (let e = kept_by with_extra k extra_cites_earlier in (e.1, e.0));
  count = refl;
  capacity = refl;
  lines = refl;
  last = refl;
}

-- it is not its own trim
one_less : (n : ℕ) → n + 1 ≡ n → ⊥
one_less n h = omega arith

not_itself : IsTrimOf with_extra with_extra → ⊥
not_itself h =
    one_less 5 (ap (λ (log : Log). length log.lines) (one_trim with_extra with_extra sample h sample_is_trim))

extra_goes : trimmed with_extra ≡ sample
unfolding trimmed kept_lines renumbered needed with_cited has
extra_goes = refl

sample_stays : trimmed sample ≡ sample
unfolding trimmed kept_lines renumbered needed with_cited has
sample_stays = refl

-- what stands after the end is cut off
after_end :
    trimmed (record { count = 3; capacity = 4; lines = over_2 ∷ over_1 ∷ []; final = 0 })
    ≡ record { count = 3; capacity = 4; lines = over_2 ∷ []; final = 0 }
unfolding trimmed kept_lines renumbered needed with_cited has
after_end = refl

-- a line that only a dropped line cites is dropped too
chain_goes :
    trimmed (record { count = 3; capacity = 4; lines = over_2 ∷ over_1 ∷ case_12 ∷ over_01 ∷ []; final = 3 })
    ≡ record { count = 3; capacity = 4; lines = over_01 ∷ []; final = 0 }
unfolding trimmed kept_lines renumbered needed with_cited has
chain_goes = refl

-- how many kept lines come before each line
new_numbers : map (renumbered (needed with_extra)) (1 ∷ 2 ∷ 3 ∷ 4 ∷ 5 ∷ []) ≡ 0 ∷ 1 ∷ 2 ∷ 3 ∷ 4 ∷ []
unfolding renumbered needed with_cited has
new_numbers = refl

-- ---- what lines cite
cited_lines : map cited_line (ByLine 3 ∷ Below 3 ∷ Twin 3 ∷ []) ≡ (3 ∷ []) ∷ [] ∷ [] ∷ []
cited_lines = refl

cited_by_all : cited case_all ≡ 2 ∷ 3 ∷ []
cited_by_all = refl

-- ---- what is needed: the end 4, its lines 2 and 3, and the lines 0 and 1 of line 2
all_needed : needed_from 4 0 sample.lines ≡ 0 ∷ 1 ∷ 2 ∷ 3 ∷ 4 ∷ []
unfolding with_cited has
all_needed = refl

needed_by_three : needed_from 3 0 (over_2 ∷ over_1 ∷ case_12 ∷ over_01 ∷ []) ≡ 3 ∷ []
unfolding with_cited has
needed_by_three = refl

-- of lines 2 to 4, and of line 4 alone
needed_from_two : needed_from 3 2 (case_12 ∷ over_01 ∷ case_all ∷ []) ≡ 3 ∷ []
unfolding with_cited has
needed_from_two = refl

needed_by_end : needed_from 4 4 (case_all ∷ []) ≡ 2 ∷ 3 ∷ 4 ∷ []
unfolding with_cited has
needed_by_end = refl
