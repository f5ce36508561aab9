-- What files hold by name, where that is told, and what a sink has taken.
use Rattle.std.specs.Prelude.{◌≡◌, ℕ, List, Option, ◌++◌, take, None, Some, IsSome, IsSomeAnd}
use Rattle.std.specs.Option.{option_map, option_and_then}
use Rattle.std.specs.Ordering.{nat_cmp}
use Rattle.std.specs.Cmp.Lexicographic.{slice_cmp}
use Rattle.std.specs.FinMap.{FinMap, get, insert, remove}

-- bytes by name
abbrev pub FileMap : Type 0
FileMap = FinMap (slice_cmp nat_cmp) (List ℕ)

-- the bytes under a name, where what is held is told and the name is there
abbrev pub file_at : Option FileMap → List ℕ → Option (List ℕ)
file_at held name = option_and_then (λ m. get m name) held

-- what is held once the name holds these bytes
abbrev pub with_file : Option FileMap → List ℕ → List ℕ → Option FileMap
with_file held name bytes = option_map (λ m. insert m name bytes) held

-- what all other names hold
abbrev pub without_file : Option FileMap → List ℕ → Option FileMap
without_file held name = option_map (λ m. remove m name) held

-- it is told that the name is not there
abbrev pub IsMissing : Option FileMap → List ℕ → Type 0
IsMissing held name = IsSomeAnd held (λ m. get m name ≡ None)

-- the first `most` bytes under the name, where that is told
abbrev pub IsReadOf : Option FileMap → List ℕ → ℕ → List ℕ → Type 0
IsReadOf held name most bytes = IsSome held → option_map (take most) (file_at held name) ≡ Some bytes

-- the content with these bytes at its end
abbrev pub with_text : Option (List ℕ) → List ℕ → Option (List ℕ)
with_text content bytes = option_map (λ had. had ++ bytes) content
