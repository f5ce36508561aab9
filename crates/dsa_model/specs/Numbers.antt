-- Numbers that bytes write.
use Rattle.std.specs.Prelude.{ℕ, List, Bool, ◌&&◌, if◌then◌else◌, Option, Some, None, length, nat_le}
use Rattle.std.specs.Str.{all_ascii_digits}
use Rattle.std.specs.Str.Parse.{digits_value}

-- whether bytes are 1 to 20 digits that write a number of at most `most`
abbrev pub is_number : ℕ → List ℕ → Bool
is_number most bytes = nat_le 1 (length bytes) && nat_le (length bytes) 20 && all_ascii_digits bytes && nat_le
    (digits_value 10 bytes) most

-- the number that bytes write, if they write one of at most `most`
abbrev pub written_number : ℕ → List ℕ → Option ℕ
written_number most bytes = if is_number most bytes then Some (digits_value 10 bytes) else None
