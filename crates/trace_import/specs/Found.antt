-- What is found for identifiers.
use Rattle.std.specs.Prelude.{◌≡◌, ℕ, ◌+◌, List, [], ◌∷◌, Option, option_map, position}
use Rattle.std.specs.Borrow.{Bor}
use Rattle.std.specs.Map.{lookup}
use Rattle.std.specs.Str.{bytes_eq}
use Rattle.trace_import.specs.Faults.{holder}
use Rattle.trace_import.specs.Requests.{id_of}
use Rattle.trace_import.specs.Traces.{Event, end_of, frees}

-- identifiers, each with the number of a line
abbrev pub Entries : Type 0
Entries = List (Bor (List ℕ) × ℕ)

-- the line that is found for an identifier
abbrev pub found_for : Entries → List ℕ → Option ℕ
found_for entries id = lookup (λ (k : Bor (List ℕ)). bytes_eq id k.now) entries

-- for each identifier the line is found that holds it after these lines
abbrev pub AreHolders : Entries → List Event → Type 0
AreHolders entries before = (id : List ℕ) → found_for entries id ≡ holder before id

-- for each identifier the first line is found that frees it, of lines that begin with that number
abbrev pub AreFrees : Entries → ℕ → List Event → Type 0
AreFrees entries line after =
    (id : List ℕ) → found_for entries id ≡ option_map (λ k. line + k) (position (frees id) after)

-- the ends of what each of the lines would hold, which begin with that number
abbrev pub ends_from : ℕ → List Event → List ℕ
ends_from line [] = []
ends_from line (event ∷ after) = end_of line (id_of event) after ∷ ends_from (line + 1) after
