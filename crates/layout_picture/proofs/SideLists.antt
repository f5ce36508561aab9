-- Sides one by one, and sides that are moved.
use Rattle.std.proofs.Common.{◌≡◌, ℕ, ◌+◌, ◌<◌, List, [], ◌∷◌, ◌++◌, length, map, take, get_or, refl, ap, sym, ◌∙◌}
use Rattle.std.specs.List.{All}
use Rattle.std.specs.List.Sorted.{IsPermutation}
use Rattle.std.proofs.lemmas.List.{map_push, take_more}
use Rattle.std.proofs.lemmas.List.Sorted.{All-permutation}
use Rattle.dsa_terms.specs.Buffers.{Buffer, Instance, buffer}
use Rattle.dsa_terms.specs.Parts.{numbers}
use Rattle.layout_picture.specs.Sides.{IsSide, left_side, right_side}
use Rattle.layout_picture.specs.declared.rectangle.Rectangle.{Rectangle}
use Rattle.layout_picture.specs.declared.side.Side.{Side}
use Rattle.layout_picture.proofs.Runs.{no_rectangle, numbers_more}

-- a side by its numbers
abbrev pub made_side : ℕ → ℕ → ℕ → ℕ → Side
made_side line from to b = record { line = line; from = from; to = to; buffer = b }

-- what stands past the last side
abbrev pub no_side : Side
no_side = made_side 0 0 0 0

-- the side of one more buffer
pub sides_more : (side : ℕ → Side) (n : ℕ) (before more : List Side) (s : Side) → before ≡ map side (numbers n) →
    more ≡ before ++ s ∷ [] → s ≡ side n → more ≡ map side (numbers (n + 1))
sides_more side n before more s h m e =
    m ∙ ap (λ (xs : List Side). xs ++ s ∷ []) h ∙ ap (λ (s : Side). map side (numbers n) ++ s ∷ []) e
    ∙ sym (ap (map side) (numbers_more n) ∙ map_push side (numbers n) n)

-- the side of one more rectangle
pub stacked_more : (side : Rectangle → Side) (rs : List Rectangle) (i : ℕ) (before more : List Side) →
    before ≡ map side (take i rs) → i < length rs → more ≡ before ++ side (get_or rs i no_rectangle) ∷ [] →
    more ≡ map side (take (i + 1) rs)
stacked_more side rs i before more h lt m =
    m ∙ ap (λ (xs : List Side). xs ++ side (get_or rs i no_rectangle) ∷ []) h
    ∙ sym (ap (map side) (take_more rs i no_rectangle lt) ∙ map_push side (take i rs) (get_or rs i no_rectangle))

pub right_is : (I : Instance) (offsets : List ℕ) (b upper size : ℕ) (x : Buffer) → x ≡ buffer I b → upper ≡ x.upper →
    size ≡ x.size → made_side upper (get_or offsets b 0) (get_or offsets b 0 + size) b ≡ right_side I offsets b
right_is I offsets b upper size x e f g = rw (f, g, e) refl

pub left_is : (I : Instance) (offsets : List ℕ) (b lower size : ℕ) (x : Buffer) → x ≡ buffer I b → lower ≡ x.lower →
    size ≡ x.size → made_side lower (get_or offsets b 0) (get_or offsets b 0 + size) b ≡ left_side I offsets b
left_is I offsets b lower size x e f g = rw (f, g, e) refl

-- sides in another order are sides still
pub still_sides : (xs ys zs : List Side) → All IsSide xs → IsPermutation xs ys → zs ≡ ys → All IsSide zs
still_sides xs ys zs h p e = rw e (All-permutation IsSide xs ys p h)
