-- Marks on the lines of a log.
use Rattle.std.specs.Prelude.{◌≡◌, ℕ, ◌<◌, Bool, List, ◌++◌, map, slice_get, Some}
use Rattle.dsa_terms.specs.Claims.{IsIn}
use Rattle.dsa_terms.specs.Logs.{Line}
use Rattle.dsa_terms.specs.Parts.{has, numbers}
use Rattle.dsa_trim_laws.specs.Trimmed.{cited}

-- each line cites earlier ones alone
abbrev pub CiteEarlier : List Line → Type 0
CiteEarlier lines = (k : ℕ) (line : Line) (j : ℕ) → slice_get lines k ≡ Some line → IsIn j (cited line) → j < k

-- for each number below n whether it is one of these
unfoldable pub marks_of : ℕ → List ℕ → List Bool
marks_of n ks = map (λ k. has k ks) (numbers n)

-- ks are marked beside what was marked: where the old marks are those of some numbers, the new ones are those of ks and
-- of these
abbrev pub AreMarkedToo : List ℕ → List Bool → List Bool → Type 0
AreMarkedToo ks old new = (n : ℕ) (marked : List ℕ) → old ≡ marks_of n marked → new ≡ marks_of n (ks ++ marked)
