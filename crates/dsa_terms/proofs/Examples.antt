-- Small instances, and logs for one of them, on which the definitions are worked out.
use Rattle.std.specs.Prelude.{ℕ, [], ◌∷◌}
use Rattle.dsa_terms.specs.Buffers.{Buffer, Instance}
use Rattle.dsa_terms.specs.Logs.{ByLine, Twin, Line, Over, Cases, Log}

-- a buffer without gaps
abbrev pub plain : ℕ → ℕ → ℕ → ℕ → Buffer
plain lower upper size alignment = record {
  lower = lower;
  upper = upper;
  size = size;
  alignment = alignment;
  gaps = [];
  lowest = 0;
}

-- five buffers of size 4, up to three of them live at once
abbrev pub five : Instance
five = plain 0 3 4 1 ∷ plain 3 9 4 1 ∷ plain 0 9 4 1 ∷ plain 9 21 4 1 ∷ plain 0 21 4 1 ∷ []

-- two buffers of size 3 aligned to four
abbrev pub two_of_four : Instance
two_of_four = plain 0 1 3 4 ∷ plain 0 1 3 4 ∷ []

-- the load is not enough: two of size 1 at even offsets, and one of size 2
abbrev pub evens : Instance
evens = plain 0 1 1 2 ∷ plain 0 1 1 2 ∷ plain 0 1 2 1 ∷ []

-- a buffer with a gap
abbrev pub gapped : Buffer
gapped = record { lower = 0; upper = 10; size = 4; alignment = 1; gaps = (4, 6) ∷ []; lowest = 0 }

-- a gap that is filled: the other buffer is live in it alone
abbrev pub filled : Instance
filled = gapped ∷ plain 4 6 4 1 ∷ []

-- a gap that is overrun: the other buffer outlasts it
abbrev pub overrun : Instance
overrun = gapped ∷ plain 4 7 4 1 ∷ []

-- two parts: one buffer, and then those of `evens`
abbrev pub two_parts : Instance
two_parts = plain 0 2 1 1 ∷ plain 2 3 1 2 ∷ plain 2 3 1 2 ∷ plain 2 3 2 1 ∷ []

-- a search is better than every start: a small buffer of large alignment belongs below the large one
abbrev pub small_below : Instance
small_below = plain 0 1 3 1 ∷ plain 0 1 1 4 ∷ []

-- the made instance of seed 1 and count 2: alignments that do not divide each other
abbrev pub made : Instance
made = plain 2 7 14 4 ∷ plain 2 6 51 3 ∷ []

-- the starts differ: of the six, best-fit by lower is the best
abbrev pub unlike : Instance
unlike = plain 1 5 1 3 ∷ plain 4 5 4 3 ∷ plain 2 4 5 1 ∷ plain 4 7 1 2 ∷ plain 4 8 5 1 ∷ plain 2 5 2 2 ∷ []

-- a buffer that is followed by another, so that they share no moment
abbrev pub one_by_one : Instance
one_by_one = plain 0 1 3 1 ∷ plain 1 2 5 1 ∷ []

-- a buffer that may not stand below an offset
abbrev pub raised : ℕ → ℕ → ℕ → ℕ → Buffer
raised size alignment lowest upper = record {
  lower = 0;
  upper = upper;
  size = size;
  alignment = alignment;
  gaps = [];
  lowest = lowest;
}

-- two of size 4, the first from 6 on
abbrev pub low : Instance
low = raised 4 1 6 1 ∷ plain 0 1 4 1 ∷ []

-- one of size 3 from 1 on, and one of size 2, which is best put below it
abbrev pub lifted : Instance
lifted = raised 3 1 1 1 ∷ plain 0 1 2 1 ∷ []

-- two of size 3 aligned to four, from 5 and so from 8 on, and one of size 2
abbrev pub high_fours : Instance
high_fours = raised 3 4 5 2 ∷ raised 3 4 5 2 ∷ plain 0 1 2 1 ∷ []

-- two of size 4, the first from 4 on, where the second just fits below it
abbrev pub tied : Instance
tied = raised 4 1 4 1 ∷ plain 0 1 4 1 ∷ []

-- ---- a log of five lines that refutes `evens` at 4
abbrev pub over_2 : Line
over_2 = Over ((2, 3) ∷ []) 0 3 1

abbrev pub over_1 : Line
over_1 = Over ((1, 4) ∷ []) 0 4 1

abbrev pub case_12 : Line
case_12 = Cases ((1, 1) ∷ (2, 1) ∷ []) (ByLine 0 ∷ ByLine 1 ∷ [])

abbrev pub over_01 : Line
over_01 = Over ((0, 2) ∷ (1, 2) ∷ []) 0 2 2

abbrev pub case_all : Line
case_all = Cases ((0, 0) ∷ (1, 0) ∷ (2, 0) ∷ []) (ByLine 2 ∷ Twin 0 ∷ ByLine 3 ∷ [])

-- the whole log
abbrev pub sample : Log
sample = record {
  count = 3;
  capacity = 4;
  lines = over_2 ∷ over_1 ∷ case_12 ∷ over_01 ∷ case_all ∷ [];
  final = 4;
}
