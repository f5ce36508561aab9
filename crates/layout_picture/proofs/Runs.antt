-- Runs of flags, read one by one, and lists by number.
use Rattle.std.proofs.Common.{◌≡◌, ℕ, zero, suc, ◌+◌, ◌<◌, ◌≤◌, Bool, true, false, cond, List, [], ◌∷◌, ◌++◌, length, drop, take, get_or, map, filter, refl, ap, sym, ◌∙◌, arith, append_assoc, append-nil}
use Rattle.std.specs.List.{All, flat_map, range_with_len}
use Rattle.std.proofs.lemmas.List.{flat_map_more, map-append, map_push, take_all, take_more}
use Rattle.dsa_terms.specs.Buffers.{Buffer, Instance, buffer, is_live}
use Rattle.dsa_terms.specs.Parts.{numbers}
use Rattle.dsa_terms.proofs.Lists.{from_flat, from_map}
use Rattle.dsa_terms.proofs.Places.{all_from_in}
use Rattle.dsa_terms.proofs.Ranges.{below}
use Rattle.lifetime.proofs.Lists.{filter_more}
use Rattle.layout_picture.specs.Columns.{columns_of}
use Rattle.layout_picture.specs.Rectangles.{begins_at, flag_at, front, rectangle_at, rectangles, rectangles_from, rectangles_of}
use Rattle.layout_picture.specs.declared.rectangle.Rectangle.{Rectangle}

numbers_from : (n a j : ℕ) → a + n ≡ j → range_with_len a (suc n) ≡ range_with_len a n ++ j ∷ []
numbers_from zero a j e = let k : a ≡ j = omega arith in rw k refl
numbers_from (suc n) a j e = ap (λ (ys : List ℕ). a ∷ ys) (numbers_from n (a + 1) j (omega arith))

-- one more number
pub numbers_more : (n : ℕ) → numbers (n + 1) ≡ numbers n ++ n ∷ []
numbers_more n = let e : n + 1 ≡ suc n = omega arith in rw e (numbers_from n 0 n (omega arith))

-- one more in front
pub front_more : (flags : List Bool) (k : ℕ) → flag_at flags k ≡ true →
    front (drop k flags) ≡ suc (front (drop (suc k) flags))
front_more [] k t = absurd cc
front_more (true ∷ flags) zero t = refl
front_more (false ∷ flags) zero t = absurd cc
front_more (f ∷ flags) (suc k) t = front_more flags k t

-- none
pub front_none : (flags : List Bool) (k : ℕ) → flag_at flags k ≡ false → front (drop k flags) ≡ 0
front_none [] zero t = refl
front_none [] (suc k) t = refl
front_none (true ∷ flags) zero t = absurd cc
front_none (false ∷ flags) zero t = refl
front_none (f ∷ flags) (suc k) t = front_none flags k t

-- one more place of those that pass, each mapped
pub mapped_more : {X : Type 0} (f : ℕ → X) (p : ℕ → Bool) (n : ℕ) (start before more : List X) →
    before ≡ start ++ map f (filter p (numbers n)) → more ≡ before ++ map f (cond (p n) (n ∷ []) []) →
    more ≡ start ++ map f (filter p (numbers (n + 1)))
mapped_more {X} f p n start before more h m =
    m ∙ ap (λ (xs : List X). xs ++ map f (cond (p n) (n ∷ []) [])) h
    ∙ append_assoc start (map f (filter p (numbers n))) (map f (cond (p n) (n ∷ []) []))
    ∙ ap (λ (xs : List X). start ++ xs) (sym (map-append f (filter p (numbers n)) (cond (p n) (n ∷ []) [])))
    ∙ ap (λ (xs : List ℕ). start ++ map f xs) (sym (filter_more p n))

-- where it passes, and where it does not
pub mapped_one : {X : Type 0} (f : ℕ → X) (n : ℕ) (b : Bool) (before more : List X) → b ≡ true →
    more ≡ before ++ f n ∷ [] → more ≡ before ++ map f (cond b (n ∷ []) [])
mapped_one f n true before more t h = h
mapped_one f n false before more t h = absurd cc

pub mapped_none : {X : Type 0} (f : ℕ → X) (n : ℕ) (b : Bool) (before more : List X) → b ≡ false →
    more ≡ before → more ≡ before ++ map f (cond b (n ∷ []) [])
mapped_none f n true before more t h = absurd cc
mapped_none f n false before more t h = h ∙ sym (append-nil before)

-- one more number, and what belongs to it
pub flat_more : {X : Type 0} (f : ℕ → List X) (n : ℕ) (start before more : List X) →
    before ≡ start ++ flat_map f (numbers n) → more ≡ before ++ f n → more ≡ start ++ flat_map f (numbers (n + 1))
flat_more {X} f n start before more h m =
    m ∙ ap (λ (xs : List X). xs ++ f n) h ∙ flat_map_more f start (numbers n) n
    ∙ ap (λ (xs : List ℕ). start ++ flat_map f xs) (sym (numbers_more n))

-- one more item, and what belongs to it
pub put_more : {X Y : Type 0} (f : X → List Y) (xs : List X) (i : ℕ) (d : X) (start text more : List Y) →
    i < length xs →
    text ≡ start ++ flat_map f (take i xs) → more ≡ text ++ f (get_or xs i d) →
    more ≡ start ++ flat_map f (take (i + 1) xs)
put_more {X} {Y} f xs i d start text more lt h m =
    m ∙ ap (λ (ys : List Y). ys ++ f (get_or xs i d)) h ∙ flat_map_more f start (take i xs) (get_or xs i d)
    ∙ ap (λ (ys : List X). start ++ flat_map f ys) (sym (take_more xs i d lt))

-- one more item, and what stands for it
pub push_more : {X Y : Type 0} (f : X → Y) (xs : List X) (i : ℕ) (d : X) (start before more : List Y) → i < length xs →
    before ≡ start ++ map f (take i xs) → more ≡ before ++ f (get_or xs i d) ∷ [] →
    more ≡ start ++ map f (take (i + 1) xs)
push_more {X} {Y} f xs i d start before more lt h m =
    m ∙ ap (λ (ys : List Y). ys ++ f (get_or xs i d) ∷ []) h
    ∙ append_assoc start (map f (take i xs)) (f (get_or xs i d) ∷ [])
    ∙ ap (λ (ys : List Y). start ++ ys)
    (sym (ap (map f) (take_more xs i d lt) ∙ map_push f (take i xs) (get_or xs i d)))

-- at the end all items
pub put_all : {X Y : Type 0} (f : X → List Y) (xs : List X) (i : ℕ) (start text : List Y) → length xs ≤ i →
    text ≡ start ++ flat_map f (take i xs) → text ≡ start ++ flat_map f xs
put_all {X} f xs i start text le h = h ∙ ap (λ (ys : List X). start ++ flat_map f ys) (take_all i xs le)

-- the same flags, however they were made
pub live_are : (flags items : List Bool) (x y : Buffer) (cs ds : List ℕ) → flags ≡ items → items ≡ map (is_live x) cs →
    x ≡ y → cs ≡ ds → flags ≡ map (is_live y) ds
live_are flags items x y cs ds e f g h =
    e ∙ f ∙ ap (λ (z : Buffer). map (is_live z) cs) g ∙ ap (λ (zs : List ℕ). map (is_live y) zs) h

-- the rectangles of a buffer, from its flags
pub rectangles_are : (I : Instance) (offsets : List ℕ) (b : ℕ) (flags : List Bool) (x : Buffer) (size : ℕ) →
    flags ≡ map (is_live (buffer I b)) (columns_of I) → x ≡ buffer I b → size ≡ x.size →
    rectangles_from flags b (get_or offsets b 0) (get_or offsets b 0 + size) ≡ rectangles_of I offsets b
unfolding rectangles_of
rectangles_are I offsets b flags x size f e s = rw (f, s, e) refl

-- a rectangle with its end
abbrev pub made : ℕ → ℕ → ℕ → ℕ → ℕ → Rectangle
made b place top k end = record { buffer = b; first = k; end = end; place = place; top = top }

-- each rectangle is of a buffer of the instance
pub are_of_buffers : (I : Instance) (offsets : List ℕ) (all : List Rectangle) → all ≡ rectangles I offsets →
    All (λ (r : Rectangle). r.buffer < length I) all
unfolding rectangles rectangles_of
are_of_buffers I offsets all e = rw e (all_from_in (λ (r : Rectangle). r.buffer < length I)
    (flat_map (rectangles_of I offsets) (numbers (length I)))
    (λ r i. let q = from_flat (rectangles_of I offsets) (numbers (length I)) r i in
    let lt = below (length I) q.0 q.1 in
    let m = from_map (rectangle_at (map (is_live (buffer I q.0)) (columns_of I)) q.0 (get_or offsets q.0 0)
    (get_or offsets q.0 0 + (buffer I q.0).size))
    (filter (begins_at (map (is_live (buffer I q.0)) (columns_of I)))
    (numbers (length (map (is_live (buffer I q.0)) (columns_of I))))) r q.2 in
    let f : r.buffer ≡ q.0 = ap (λ (r : Rectangle). r.buffer) m.2 in omega arith))

-- what stands past the last rectangle
abbrev pub no_rectangle : Rectangle
no_rectangle = record { buffer = 0; first = 0; end = 0; place = 0; top = 0 }
