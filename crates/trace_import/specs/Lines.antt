-- The line of a trace that bytes write.
use Rattle.std.specs.Prelude.{ℕ, ◌^◌, Bool, ◌==◌, ◌&&◌, nat_le, if◌then◌else◌, List, [], ◌∷◌, codes, length, Option, Some, None, option_map}
use Rattle.std.specs.List.{list_all, slice_split}
use Rattle.std.specs.Option.{option_zip}
use Rattle.std.specs.Str.{bytes_eq}
use Rattle.dsa_model.specs.Numbers.{written_number}
use Rattle.trace_import.specs.Traces.{Event, Alloc, Free}

-- the byte can stand in an identifier: it is 33 to 126
abbrev pub is_id_byte : ℕ → Bool
is_id_byte c = nat_le 33 c && nat_le c 126

-- the greatest length of an identifier, in bytes
abbrev pub id_limit : ℕ
id_limit = 255

-- the bytes are an identifier
abbrev pub is_id : List ℕ → Bool
is_id id = nat_le 1 (length id) && nat_le (length id) id_limit && list_all is_id_byte id

-- the number that 1 to 20 digits write
abbrev pub number_of : List ℕ → Option ℕ
number_of field = written_number (10 ^ 20) field

-- an allocation with these words
abbrev pub alloc_of : List ℕ → List ℕ → List ℕ → Option Event
alloc_of id size alignment =
    if is_id id
    then option_map (λ (n : ℕ × ℕ). Alloc id n.0 n.1) (option_zip (number_of size) (number_of alignment)) else None

-- the line of these words
abbrev pub event_of : List (List ℕ) → Option Event
event_of (word ∷ id ∷ size ∷ alignment ∷ []) =
    if bytes_eq word (codes "alloc") then alloc_of id size alignment else None
event_of (word ∷ id ∷ []) = if bytes_eq word (codes "free") && is_id id then Some (Free id) else None
event_of words = None

-- the words of bytes, between single spaces
abbrev pub words_of : List ℕ → List (List ℕ)
words_of bytes = slice_split (λ c. c == 32) bytes

-- the line that bytes without NL write
abbrev pub event_in : List ℕ → Option Event
event_in bytes = event_of (words_of bytes)
