-- Worked facts of logs that are carried over to fewer buffers.
use Rattle.std.proofs.Common.{◌≡◌, ◌-◌, [], ◌∷◌, map, refl}
use Rattle.dsa_terms.specs.Logs.{ByLine, Below, Twin, Over, Cases, Log}
use Rattle.dsa_terms.specs.Parts.{has}
use Rattle.dsa_trim_laws.specs.Trimmed.{with_cited, needed, renumbered, kept_lines, trimmed}
use Rattle.core_find.specs.Carried.{carried, place_among, places_among, renamed_cite, renamed_claim, renamed_entry, renamed_line, renamed_log}

-- ---- places among three members, and among two of four
second : place_among 5 (3 ∷ 5 ∷ 8 ∷ []) ≡ 1
unfolding place_among
second = refl

past_the_last : place_among 4 (3 ∷ 5 ∷ 8 ∷ []) ≡ 3
unfolding place_among
past_the_last = refl

two_of_four : places_among (2 ∷ 3 ∷ 5 ∷ 8 ∷ []) (3 ∷ 8 ∷ []) ≡ 2 ∷ 0 ∷ 2 ∷ 1 ∷ []
unfolding place_among
two_of_four = refl

-- ---- each buffer gets a number less by two; bounds and the numbers of lines stay
an_entry : renamed_entry (λ b. b - 2) (3, 7) ≡ (1, 7)
an_entry = refl

a_claim : renamed_claim (λ b. b - 2) ((3, 7) ∷ (5, 1) ∷ []) ≡ (1, 7) ∷ (3, 1) ∷ []
a_claim = refl

the_cites : map (renamed_cite (λ b. b - 2)) (ByLine 5 ∷ Below 5 ∷ Twin 5 ∷ []) ≡ ByLine 5 ∷ Below 3 ∷ Twin 3 ∷ []
the_cites = refl

an_over : renamed_line (λ b. b - 2) (Over ((3, 7) ∷ []) 4 6 3) ≡ Over ((1, 7) ∷ []) 4 6 3
an_over = refl

a_case : renamed_line (λ b. b - 2) (Cases ((3, 7) ∷ (5, 1) ∷ []) (Below 5 ∷ ByLine 3 ∷ []))
    ≡ Cases ((1, 7) ∷ (3, 1) ∷ []) (Below 3 ∷ ByLine 3 ∷ [])
a_case = refl

a_log : renamed_log 6 (λ b. b - 2) (record
    { count = 9; capacity = 4; lines = Over ((3, 7) ∷ []) 4 6 3 ∷ []; final = 0 })
    ≡ record { count = 6; capacity = 4; lines = Over ((1, 7) ∷ []) 4 6 3 ∷ [] }
a_log = refl

-- ---- a log of four buffers whose end names the last three: the line of the first goes
abbrev of_four : Log
of_four = record {
  count = 4;
  capacity = 4;
  lines = Over ((0, 5) ∷ []) 0 5 1 ∷ Over ((3, 3) ∷ []) 2 3 1 ∷ Over ((2, 4) ∷ []) 2 4 1
      ∷ Cases ((2, 1) ∷ (3, 1) ∷ []) (ByLine 1 ∷ ByLine 2 ∷ []) ∷ Over ((1, 2) ∷ (2, 2) ∷ []) 2 2 2
      ∷ Cases ((1, 0) ∷ (2, 0) ∷ (3, 0) ∷ []) (ByLine 3 ∷ Twin 1 ∷ ByLine 4 ∷ []) ∷ [];
  final = 5;
}

of_three : carried (0 ∷ 1 ∷ 2 ∷ 3 ∷ []) (1 ∷ 2 ∷ 3 ∷ []) of_four ≡ record {
  count = 3;
  capacity = 4;
  lines = Over ((2, 3) ∷ []) 2 3 1 ∷ Over ((1, 4) ∷ []) 2 4 1 ∷ Cases ((1, 1) ∷ (2, 1) ∷ []) (ByLine 0 ∷ ByLine 1 ∷ [])
      ∷ Over ((0, 2) ∷ (1, 2) ∷ []) 2 2 2 ∷ Cases ((0, 0) ∷ (1, 0) ∷ (2, 0) ∷ []) (ByLine 2 ∷ Twin 0 ∷ ByLine 3 ∷ [])
      ∷ [];
  final = 4;
}
unfolding carried trimmed kept_lines renumbered needed with_cited has place_among
of_three = refl
