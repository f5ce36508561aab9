-- The bytes of an id as XML has them.
use Rattle.std.specs.Prelude.{ℕ, zero, suc, ◌-◌, Bool, not, ◌&&◌, ◌||◌, ◌==◌, nat_le, if◌then◌else◌, List, [], ◌∷◌, ◌++◌, codes, Option, Some, None, encode_utf8}
use Rattle.bstr.specs.Utf8.{decoded}

-- whether XML allows the character
abbrev pub is_allowed : ℕ → Bool
is_allowed c =
    (c == 9) || (c == 10) || (c == 13) || (nat_le 32 c && not (c == 0xFFFE) && not (c == 0xFFFF))

-- what stands for a character: itself in UTF-8, but for the five that XML gives a meaning and the return, which a
-- reader of XML takes for a new line
abbrev pub char_text : ℕ → List ℕ
char_text c =
    if c == 60 then codes "&lt;"
    else if c == 62 then codes "&gt;"
    else if c == 38 then codes "&amp;"
    else if c == 34 then codes "&quot;"
    else if c == 39 then codes "&#39;"
    else if c == 13 then codes "&#13;"
    else encode_utf8 c

-- U+FFFD in UTF-8
abbrev pub replacement : List ℕ
replacement = 0xEF ∷ 0xBF ∷ 0xBD ∷ []

-- the text of a character that XML allows, and U+FFFD for another or for none
abbrev pub found_text : Option ℕ → List ℕ
found_text None = replacement
found_text (Some c) = if is_allowed c then char_text c else replacement

-- for how many bytes that stands: those of the character, or one
abbrev pub found_size : Option ℕ → ℕ → ℕ
found_size None size = 1
found_size (Some c) size = if is_allowed c then size else 1

-- the text of what the bytes begin with
abbrev pub piece_text : List ℕ → List ℕ
piece_text bytes = found_text (decoded bytes).char

-- for how many bytes it stands
abbrev pub piece_size : List ℕ → ℕ
piece_size bytes = found_size (decoded bytes).char (decoded bytes).size

-- the text of the bytes after some that the last piece stands for
abbrev pub escaped_after : ℕ → List ℕ → List ℕ
escaped_after k [] = []
escaped_after (suc k) (b ∷ bytes) = escaped_after k bytes
escaped_after zero (b ∷ bytes) =
    piece_text (b ∷ bytes) ++ escaped_after (piece_size (b ∷ bytes) - 1) bytes

-- the text of an id: that of its characters, with U+FFFD for each byte that begins none which XML allows
unfoldable pub escaped : List ℕ → List ℕ
escaped bytes = escaped_after 0 bytes
