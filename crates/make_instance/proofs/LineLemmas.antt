-- A line of fields that need no quotes is what the `csv` writer writes of them.
use Rattle.std.proofs.Common.{◌≡◌, ◌<◌, ◌^◌, ◌++◌, ◌∷◌, ◌∙◌, ℕ, List, [], true, false, refl, sym, ap, append-nil}
use Rattle.std.specs.Char.{is_ascii_digit}
use Rattle.std.specs.Fmt.{decimal}
use Rattle.std.specs.List.{join_with_byte, list_any}
use Rattle.std.specs.Prelude.{⊤}
use Rattle.csv.specs.Writing.{default_writer, field_text, fields_text, is_blank, needs_byte, row_text}
use Rattle.csv_instance.specs.Records.{Record}
pub use Rattle.csv_instance.proofs.GapTexts.{digit_other, digits_are, none_in_pair, none_of_digits}
use Rattle.make_instance.specs.Made.{record_line, gap_pair_text}

-- a digit needs no quotes
digit_plain : (c : ℕ) → is_ascii_digit c ≡ true → needs_byte default_writer c ≡ false
digit_plain c h =
    rw (digit_other c 44 h refl, digit_other c 34 h refl, digit_other c 13 h refl, digit_other c 10 h refl) refl

-- a field needs no quotes
abbrev pub IsPlain : List ℕ → Type 0
IsPlain field = list_any (needs_byte default_writer) field ≡ false

pub plain_number : (n : ℕ) → n < 2 ^ 64 → IsPlain (decimal n)
plain_number n word = none_of_digits (needs_byte default_writer) digit_plain (decimal n) (digits_are n word)

pub plain_pair : (a b : ℕ) → a < 2 ^ 64 → b < 2 ^ 64 → IsPlain (gap_pair_text a b)
plain_pair a b wa wb = none_in_pair (needs_byte default_writer) a b digit_plain refl wa wb

-- no field needs quotes
abbrev pub ArePlain : Record → Type 0
ArePlain [] = ⊤
ArePlain (f ∷ fs) = IsPlain f × ArePlain fs

plain_text : (f : List ℕ) → IsPlain f → field_text default_writer f ≡ f
plain_text f h = rw h refl

joined : (f : List ℕ) (fs : Record) → ArePlain (f ∷ fs)
    → 44 ∷ join_with_byte 44 (f ∷ fs) ≡ fields_text default_writer (f ∷ fs)
unfolding fields_text
joined f [] h = ap (λ (t : List ℕ). 44 ∷ t)
    (sym (append-nil f) ∙ ap (λ (t : List ℕ). t ++ []) (sym (plain_text f h.0)))
joined f (g ∷ gs) h = ap (λ (t : List ℕ). 44 ∷ (f ++ t)) (joined g gs h.1)
    ∙ ap (λ (t : List ℕ). 44 ∷ (t ++ fields_text default_writer (g ∷ gs))) (sym (plain_text f h.0))

-- two or more such fields
pub line-row : (f g : List ℕ) (fs : Record) → ArePlain (f ∷ g ∷ fs)
    → record_line (f ∷ g ∷ fs) ≡ row_text default_writer (f ∷ g ∷ fs)
unfolding is_blank
line-row f g fs h = ap (λ (t : List ℕ). (f ++ t) ++ (10 ∷ [])) (joined g fs h.1)
    ∙ ap (λ (t : List ℕ). (t ++ fields_text default_writer (g ∷ fs)) ++ (10 ∷ [])) (sym (plain_text f h.0))
