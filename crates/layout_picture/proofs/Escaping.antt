-- Ids that are escaped piece by piece.
use Rattle.std.proofs.Common.{◌≡◌, ℕ, zero, suc, ◌-◌, ◌<◌, ◌≤◌, List, [], ◌∷◌, ◌++◌, length, drop, refl, ap, sym, ◌∙◌, arith, append_assoc}
use Rattle.bstr.specs.Utf8.{decoded}
use Rattle.bstr.proofs.lemmas.PieceLemmas.{piece-bounds}
use Rattle.layout_picture.specs.Escape.{escaped, escaped_after, piece_size, piece_text}

after_is_drop : (k : ℕ) (bytes : List ℕ) → escaped_after k bytes ≡ escaped_after 0 (drop k bytes)
after_is_drop zero bytes = refl
after_is_drop (suc k) [] = refl
after_is_drop (suc k) (b ∷ bytes) = after_is_drop k bytes

-- one piece, and what is left
pub one_piece : (bytes : List ℕ) (n : ℕ) → 0 < n → n ≡ piece_size bytes → 0 < length bytes →
    escaped bytes ≡ piece_text bytes ++ escaped (drop n bytes)
unfolding escaped
one_piece [] n p e lt = absurd (omega arith)
one_piece (b ∷ bytes) zero p e lt = absurd (omega arith)
one_piece (b ∷ bytes) (suc n) p e lt =
    ap (λ (k : ℕ). piece_text (b ∷ bytes) ++ escaped_after k bytes)
    (let f : piece_size (b ∷ bytes) - 1 ≡ n = omega arith in f)
    ∙ ap (λ (xs : List ℕ). piece_text (b ∷ bytes) ++ xs) (after_is_drop n bytes)

-- the step of a loop over the pieces
pub piece_put : (bytes rest left : List ℕ) (n : ℕ) (start text more : List ℕ) → 0 < n → n ≡ piece_size rest →
    0 < length rest → left ≡ drop n rest → more ≡ text ++ piece_text rest →
    text ++ escaped rest ≡ start ++ escaped bytes → more ++ escaped left ≡ start ++ escaped bytes
piece_put bytes rest left n start text more p e lt l m h =
    ap (λ (xs : List ℕ). xs ++ escaped left) m
    ∙ append_assoc text (piece_text rest) (escaped left)
    ∙ ap (λ (xs : List ℕ). text ++ (piece_text rest ++ escaped xs)) l
    ∙ ap (λ (xs : List ℕ). text ++ xs) (sym (one_piece rest n p e lt))
    ∙ h

pub all_put : (bytes rest start text : List ℕ) → length rest ≡ 0 → text ++ escaped rest ≡ start ++ escaped bytes →
    text ≡ start ++ escaped bytes
unfolding escaped
all_put bytes [] start text e h = sym (append_nil text) ∙ h
  where
    append_nil : (xs : List ℕ) → xs ++ [] ≡ xs
    append_nil [] = refl
    append_nil (x ∷ xs) = ap (λ ys. x ∷ ys) (append_nil xs)
all_put bytes (x ∷ rest) start text e h = absurd (omega arith)

-- a character that is found takes some of the bytes
pub within_bytes : (bytes : List ℕ) (size : ℕ) → 0 < length bytes → size ≡ (decoded bytes).size →
    (0 < size) × (size ≤ length bytes)
within_bytes bytes size lt e = let k = piece-bounds bytes lt in
    (let a = k.0 in omega arith, let b = k.2 in omega arith)
