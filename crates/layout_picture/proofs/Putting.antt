-- One piece of text after another.
use Rattle.std.proofs.Common.{◌≡◌, ℕ, cond, Bool, true, false, List, [], ◌++◌, length, refl, ap, ap₂, sym, ◌∙◌, append_assoc, append-nil}
use Rattle.layout_picture.specs.Texts.{has_room, id_text}
use Rattle.layout_picture.specs.declared.scale.Area.{Area}

-- the text and then a label in an area
abbrev label : List ℕ → List ℕ → Area → List ℕ
label text id area = text ++ cond (has_room (length id) area) (id_text id area) []

-- and then one more piece
pub then_put : (text more last whole piece : List ℕ) → more ≡ text ++ whole → last ≡ more ++ piece →
    last ≡ text ++ (whole ++ piece)
then_put text more last whole piece h m =
    m ∙ ap (λ (xs : List ℕ). xs ++ piece) h ∙ append_assoc text whole piece

-- a piece where the test holds, and nothing where it does not
pub put_if : (text last piece : List ℕ) (b : Bool) → b ≡ true → last ≡ text ++ piece → last ≡ text ++ cond b piece []
put_if text last piece true e h = h
put_if text last piece false e h = absurd cc

pub put_not : (text last piece : List ℕ) (b : Bool) → b ≡ false → last ≡ text → last ≡ text ++ cond b piece []
put_not text last piece true e h = absurd cc
put_not text last piece false e h = h ∙ sym (append-nil text)

-- the same piece of an equal thing
pub put_same : {X : Type 0} (text more : List ℕ) (f : X → List ℕ) (m n : X) → m ≡ n → more ≡ text ++ f m →
    more ≡ text ++ f n
put_same {X} text more f m n e h = h ∙ ap (λ (k : X). text ++ f k) e

-- an id in its area, where there is room, and nothing where there is not
pub label_put : (text last id own : List ℕ) (area own_area : Area) → id ≡ own → area ≡ own_area →
    has_room (length id) area ≡ true → last ≡ text ++ id_text id area →
    last ≡ text ++ cond (has_room (length own) own_area) (id_text own own_area) []
label_put text last id own area own_area e f h m =
    put_if text last (id_text id area) (has_room (length id) area) h m ∙ ap₂ (label text) e f

pub label_not : (text id own : List ℕ) (area own_area : Area) → id ≡ own → area ≡ own_area →
    has_room (length id) area ≡ false → text ≡ text ++ cond (has_room (length own) own_area) (id_text own own_area) []
label_not text id own area own_area e f h =
    put_not text text (id_text id area) (has_room (length id) area) h refl ∙ ap₂ (label text) e f
