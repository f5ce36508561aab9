-- The field at a place, as the `csv` crate has it and as a list has it.
use Rattle.std.proofs.Common.{◌≡◌, ◌≤◌, ◌<◌, ◌⊎◌, ℕ, zero, suc, List, [], ◌∷◌, Option, Some, None, get_or, length, refl, inl, inr, arith}
use Rattle.std.specs.Option.{option_map_or}
use Rattle.dsa_model.specs.Limits.{file_limit}
use Rattle.csv.specs.Records.{field_at}
use Rattle.csv_instance.specs.Records.{HasShortFields, Record}

pub field-absent : (fields : List (List ℕ)) (i : ℕ) → field_at fields i ≡ None → get_or fields i [] ≡ []
unfolding field_at
field-absent [] i e = refl
field-absent (f ∷ fs) zero e = cc e
field-absent (f ∷ fs) (suc i) e = field-absent fs i e

none_past : (row : Record) (i : ℕ) → (i < length row) ⊎ (get_or row i [] ≡ [])
none_past [] i = inr refl
none_past (f ∷ fs) zero = inl (omega arith)
none_past (f ∷ fs) (suc i) = elim (none_past fs i) [
  | inl h ↦ inl (omega arith)
  | inr e ↦ inr e
]

-- a field of a short row is short
pub short-at : (row : Record) (place : Option ℕ) → HasShortFields row
    → length (option_map_or (λ i. get_or row i []) place []) ≤ file_limit
short-at row None h = omega arith
short-at row (Some i) h = elim (none_past row i) [
  | inl within ↦ h i [] within
  | inr past ↦ rw past (omega arith)
]
