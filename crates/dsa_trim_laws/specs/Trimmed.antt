-- Trimming as it is computed: one pass backward finds the needed lines, and one pass forward takes them over.
use Rattle.std.specs.Prelude.{ℕ, ◌+◌, ◌-◌, cond, List, [], ◌∷◌, ◌++◌, map, length}
use Rattle.std.specs.List.{filter, flat_map}
use Rattle.dsa_terms.specs.Logs.{Cite, ByLine, Below, Twin, Line, Over, Cases, Log}
use Rattle.dsa_terms.specs.Parts.{has, numbers}
use Rattle.dsa_terms.specs.Trims.{moved_line, picked}

-- the line that a cite names
abbrev pub cited_line : Cite → List ℕ
cited_line (ByLine k) = k ∷ []
cited_line (Below c) = []
cited_line (Twin c) = []

-- the numbers of the lines that a line cites
abbrev pub cited : Line → List ℕ
cited (Over l T H G) = []
cited (Cases l cites) = flat_map cited_line cites

-- the needed numbers, and where line n is among them the lines that it cites too
unfoldable pub with_cited : ℕ → Line → List ℕ → List ℕ
with_cited n line needed = cond (has n needed) (cited line ++ needed) needed

-- what the lines from number n on need: the end's line, and each line that a needed one of them cites
abbrev pub needed_from : ℕ → ℕ → List Line → List ℕ
needed_from final n [] = final ∷ []
needed_from final n (line ∷ lines) = with_cited n line (needed_from final (n + 1) lines)

-- the numbers of the lines that the end needs, in a log whose lines cite earlier ones alone
unfoldable pub needed : Log → List ℕ
needed log = needed_from log.final 0 log.lines

-- the number that a kept line gets: how many kept ones come before it
unfoldable pub renumbered : List ℕ → ℕ → ℕ
renumbered needed k = length (filter (λ j. has j needed) (numbers k))

-- the needed lines in order, their cites renumbered
unfoldable pub kept_lines : List ℕ → List Line → List Line
kept_lines needed lines = map (moved_line (renumbered needed)) (picked (λ k. has k needed) 0 lines)

-- the log of the needed lines alone, in order, with their cites renumbered; its end is its last line
unfoldable pub trimmed : Log → Log
trimmed log = record {
  count = log.count;
  capacity = log.capacity;
  lines = kept_lines (needed log) log.lines;
  final = length (kept_lines (needed log) log.lines) - 1;
}
