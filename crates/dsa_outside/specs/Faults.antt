-- Counts of faults by name.
use Rattle.std.specs.Prelude.{ℕ, ◌≤◌, ◌≡◌, List}

-- no name's number has fallen
abbrev pub NoneFell : (List ℕ → ℕ) → (List ℕ → ℕ) → Type 0
NoneFell before now = (name : List ℕ) → before name ≤ now name

-- each name's number is as before
abbrev pub AllStay : (List ℕ → ℕ) → (List ℕ → ℕ) → Type 0
AllStay before now = (name : List ℕ) → now name ≡ before name
