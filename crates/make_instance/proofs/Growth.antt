-- A made text, line by line.
use Rattle.std.proofs.Common.{◌≡◌, ◌+◌, ◌++◌, ◌∷◌, ◌∙◌, ℕ, List, [], codes, map, refl, sym, ap, arith, append_assoc, append-nil}
use Rattle.std.proofs.lemmas.Grind.{flat_map-append}
use Rattle.std.proofs.lemmas.List.FromFn.{map-range_with_len_more}
use Rattle.std.specs.List.{flat_map, range_with_len}
use Rattle.make_instance.specs.Made.{header, record_line, made_record, made_text}

-- the text as far as the first n buffers
unfoldable pub text_to : (seed count n : ℕ) → List ℕ
text_to seed count n = flat_map record_line (header ∷ map (made_record seed count) (range_with_len 0 n))

-- at first there is the header's line
pub text_first : (seed count : ℕ) → codes "id,lower,upper,size,alignment,gaps\n" ≡ text_to seed count 0
unfolding text_to
text_first seed count = refl

-- one more line
pub text_more : (seed count n : ℕ) (text line : List ℕ) → text ≡ text_to seed count n
    → line ≡ record_line (made_record seed count n) → text ++ line ≡ text_to seed count (n + 1)
unfolding text_to
text_more seed count n text line h e =
    let f = made_record seed count in
    let more : map f (range_with_len 0 (n + 1)) ≡ map f (range_with_len 0 n) ++ f n ∷ [] =
    map-range_with_len_more f 0 n n (omega arith) in
    let lines : flat_map record_line (map f (range_with_len 0 n)) ++ line
    ≡ flat_map record_line (map f (range_with_len 0 (n + 1))) =
    ap (λ (t : List ℕ). flat_map record_line (map f (range_with_len 0 n)) ++ t) (e ∙ sym (append-nil _))
    ∙ sym (flat_map-append record_line (map f (range_with_len 0 n)) (f n ∷ []))
    ∙ ap (flat_map record_line) (sym more) in
    ap (λ (t : List ℕ). t ++ line) h
    ∙ append_assoc (record_line header) (flat_map record_line (map f (range_with_len 0 n))) line
    ∙ ap (λ (t : List ℕ). record_line header ++ t) lines

-- at last there is all
pub text_last : (seed count n : ℕ) (text : List ℕ) → n ≡ count → text ≡ text_to seed count n
    → text ≡ made_text seed count
unfolding text_to made_text
text_last seed count n text e h = rw (sym e) h
