-- What files hold once one or two are written.
use Rattle.std.proofs.Common.{◌≡◌, ◌≢◌, ℕ, List, Option, None, Some, IsSome, refl, ap, ◌∙◌}
use Rattle.dsa_outside.specs.Held.{FileMap, file_at, with_file}
use Rattle.dsa_outside.proofs.Lookups.{file_at-with_file, file_at-with_other}
use Rattle.command_words.specs.Options.{Word}

-- what is told before a write is told after it
still_told : (held : Option FileMap) (name bytes : List ℕ) → IsSome held → IsSome (with_file held name bytes)
still_told None name bytes told = absurd cc
still_told (Some m) name bytes told = refl

-- the last file that is written holds its bytes
pub last_held : (held now : Option FileMap) (name : Word) (bytes : List ℕ) → now ≡ with_file held name bytes →
    IsSome held → file_at now name ≡ Some bytes
last_held held now name bytes is told = ap (λ h. file_at h name) is ∙ file_at-with_file held name bytes told

-- of two files, the first one holds its bytes, where the second has another name
pub first_held : (held now : Option FileMap) (first second : Word) (bytes more : List ℕ) → first ≢ second →
    now ≡ with_file (with_file held first bytes) second more → IsSome held → file_at now first ≡ Some bytes
first_held held now first second bytes more ne is told =
    ap (λ h. file_at h first) is ∙ file_at-with_other (with_file held first bytes) second more first ne
    ∙ file_at-with_file held first bytes told

-- and the second one holds its own
pub second_held : (held now : Option FileMap) (first second : Word) (bytes more : List ℕ) →
    now ≡ with_file (with_file held first bytes) second more → IsSome held → file_at now second ≡ Some more
second_held held now first second bytes more is told =
    last_held (with_file held first bytes) now second more is (still_told held first bytes told)
