-- The whole picture.
use Rattle.std.proofs.Common.{◌≡◌, ℕ, ◌+◌, ◌*◌, ◌^◌, ◌<◌, ◌≤◌, List, ◌++◌, length, map, codes, get_or, Result, Ok, sym, ap, ap₂, subst, ◌∙◌, arith}
use Rattle.std.specs.List.{All}
use Rattle.std.proofs.lemmas.List.{length-map}
use Rattle.dsa_terms.specs.Buffers.{Buffer, Instance}
use Rattle.dsa_terms.specs.Layouts.{IsLayout}
use Rattle.dsa_terms.specs.Plans.{load}
use Rattle.dsa_terms.proofs.Places.{any_default}
use Rattle.dsa_model.specs.Buffer.{buffer_limit, gap_limit}
use Rattle.layout_picture.specs.Colours.{colours_of}
use Rattle.layout_picture.specs.Columns.{columns_of}
use Rattle.layout_picture.specs.Rectangles.{EndsWithin, rectangles}
use Rattle.layout_picture.specs.Texts.{frame_text, head_text, picture_text, plot_text, scale_of}
use Rattle.layout_picture.specs.declared.rectangle.Rectangle.{Rectangle}
use Rattle.layout_picture.specs.declared.scale.Scale.{Scale}

-- the pieces in order
pub whole : (I : Instance) (ids : List (List ℕ)) (offsets columns loads again colours : List ℕ) (all : List Rectangle)
    (s : Scale)
    (text : List ℕ) → columns ≡ columns_of I → loads ≡ map (load I) (columns_of I) → again ≡ loads →
    all ≡ rectangles I offsets → colours ≡ colours_of I offsets → s ≡ scale_of I offsets →
    text ≡ ((head_text s ++ plot_text s I ids colours loads all) ++ frame_text s columns again) ++ codes "</svg>\n" →
    text ≡ picture_text I ids offsets
unfolding picture_text
whole I ids offsets columns loads again colours all s text c l a r k e t = rw (a, c, l, r, k, e) at t

-- each offset is at most 2 ^ 60
pub offsets_within : (I : Instance) (offsets : List ℕ) → EndsWithin I offsets →
    All (λ (offset : ℕ). offset ≤ 2 ^ 60) offsets
offsets_within I offsets h k d lt =
    let z : get_or offsets k d ≡ get_or offsets k 0 = any_default offsets k d 0 lt in
    let kt : k < length I = let c = h.count in omega arith in
    let w = h.within k kt in omega arith

-- loads are as many as the columns
pub few_loads : (f : ℕ → ℕ) (columns items loads lent : List ℕ) → columns ≡ items →
    length items ≤ (2 + 2 * gap_limit) * buffer_limit →
    loads ≡ map f columns → lent ≡ loads → length lent < 2 ^ 32
few_loads f columns items loads lent c few l e =
    let k = ap (λ (xs : List ℕ). length xs) (e ∙ l) in
    let m : length (map f columns) ≡ length columns = length-map columns f in
    let n = ap (λ (xs : List ℕ). length xs) c in omega arith

-- a text has one instance
pub one_instance : {F : Type 0} (I J : Instance) (parsed : Result (List Buffer) F) → parsed ≡ Ok I → parsed ≡ Ok J →
    I ≡ J
one_instance I J parsed e f = let h = sym e ∙ f in cc

-- a scale by its two numbers
abbrev pub units : ℕ → ℕ → Scale
units n h = record { columns = n; height = h }

pub scale_by : (n m h g : ℕ) → n ≡ m → h ≡ g → units n h ≡ units m g
scale_by n m h g e f = ap₂ units e f

-- the offsets of a layout at 2 ^ 60 may be drawn
pub layout_ends : {F : Type 0} (I : Instance) (offsets : List ℕ) (parsed : Result (List Buffer) F) → parsed ≡ Ok I →
    IsLayout I (2 ^ 60) offsets → (J : Instance) → parsed ≡ Ok J → EndsWithin J offsets
layout_ends I offsets parsed e l J f = subst (λ (K : Instance). EndsWithin K offsets) (one_instance I J parsed e f)
    (record { count = l.count; within = l.within })
