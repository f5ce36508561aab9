-- What a small picture shows: columns, points, rectangles and areas, and what lies upon what.
use Rattle.std.proofs.Common.{◌≡◌, ℕ, zero, suc, ◌+◌, ◌-◌, ◌^◌, ◌<◌, ◌≤◌, true, false, inl, inr, List, [], ◌∷◌, map, slice_index, refl, subst, arith}
use Rattle.dsa_terms.specs.Buffers.{Instance, buffer, do_share, is_live, some_before}
use Rattle.dsa_terms.specs.Claims.{IsIn}
use Rattle.lifetime.specs.Runs.{was_live}
use Rattle.layout_picture.specs.Colours.{lie_upon}
use Rattle.layout_picture.specs.Columns.{IsInColumn, columns_of, turns_at}
use Rattle.layout_picture.specs.Laws.{AreApart, HasColumn, HasPoint, IsShownAt}
use Rattle.layout_picture.specs.Rectangles.{EndsWithin, flag_at, rectangles, rectangles_from, rectangles_of, run_end}
use Rattle.layout_picture.specs.declared.rectangle.Rectangle.{Rectangle}
use Rattle.layout_picture.specs.declared.scale.Area.{Area}
use Rattle.layout_picture.proofs.ExampleFacts.{drawn, five, five_offsets, with_gap}

-- ---- columns at 0, 3, 9 and 21: the second one is from 3 up to and not including 9, and the last one has no end
abbrev four_columns : List ℕ
four_columns = 0 ∷ 3 ∷ 9 ∷ 21 ∷ []

at_its_moment : IsInColumn four_columns 3 1
at_its_moment = record { in_range = omega arith; begun = omega arith; not_next = λ lt. omega arith }

before_the_next : IsInColumn four_columns 8 1
before_the_next = record { in_range = omega arith; begun = omega arith; not_next = λ lt. omega arith }

not_at_the_next : IsInColumn four_columns 9 1 → ⊥
not_at_the_next h = let k = h.not_next (omega arith) in omega arith

not_before_it_begins : IsInColumn four_columns 2 1 → ⊥
not_before_it_begins h = let k = h.begun in omega arith

long_after_the_last : IsInColumn four_columns 1000 3
long_after_the_last = record { in_range = omega arith; begun = omega arith; not_next = λ lt. absurd (omega arith) }

no_fifth_column : IsInColumn four_columns 1000 4 → ⊥
no_fifth_column h = let k = h.in_range in omega arith

-- ---- layouts that can be drawn: one of size 4 ends at 2 to the 60th at most
abbrev alone : Instance
alone = with_gap ∷ []

ends_at_the_limit : EndsWithin alone ((2 ^ 60 - 4) ∷ [])
unfolding buffer
ends_at_the_limit = record { count = refl; within = within }
  where
    within : (b : ℕ) → b < 1 → slice_index ((2 ^ 60 - 4) ∷ []) b + (buffer alone b).size ≤ 2 ^ 60
    within zero lt = omega arith
    within (suc b) lt = absurd (omega arith)

ends_past_the_limit : EndsWithin alone ((2 ^ 60 - 3) ∷ []) → ⊥
unfolding buffer
ends_past_the_limit h = let k = h.within 0 (omega arith) in omega arith

one_offset_too_many : EndsWithin alone (0 ∷ 4 ∷ []) → ⊥
one_offset_too_many h = let k = h.count in omega arith

-- ---- past the last column nothing is live; a rectangle for each run, the last run up to the last column
flags_and_past_them : map (flag_at (false ∷ true ∷ [])) (0 ∷ 1 ∷ 2 ∷ []) ≡ false ∷ true ∷ false ∷ []
flags_and_past_them = refl

two_runs : rectangles_from (true ∷ false ∷ true ∷ true ∷ []) 7 8 12 ≡ drawn 7 0 1 8 12 ∷ drawn 7 2 4 8 12 ∷ []
unfolding run_end
two_runs = refl

never_live : rectangles_from (false ∷ false ∷ []) 7 8 12 ≡ []
unfolding run_end
never_live = refl

-- ---- a rectangle of the columns 1 and 2 and the places 4 to 7
has_its_last_column : HasColumn (drawn 0 1 3 4 8) 2
has_its_last_column = record { from = omega arith; to = omega arith }

not_its_end : HasColumn (drawn 0 1 3 4 8) 3 → ⊥
not_its_end h = let k = h.to in omega arith

not_the_column_before : HasColumn (drawn 0 1 3 4 8) 0 → ⊥
not_the_column_before h = let k = h.from in omega arith

has_its_last_place : HasPoint (drawn 0 1 3 4 8) 2 7
has_its_last_place = record { column = has_its_last_column; from = omega arith; to = omega arith }

not_its_top : HasPoint (drawn 0 1 3 4 8) 2 8 → ⊥
not_its_top h = let k = h.to in omega arith

not_below_its_place : HasPoint (drawn 0 1 3 4 8) 2 3 → ⊥
not_below_its_place h = let k = h.from in omega arith

not_past_its_end : HasPoint (drawn 0 1 3 4 8) 3 7 → ⊥
not_past_its_end h = not_its_end h.column

-- ---- areas that touch are apart, beside or above each other
abbrev area : ℕ → ℕ → ℕ → ℕ → Area
area x y width height = record { x = x; y = y; width = width; height = height }

beside : AreApart (area 200 24 400 300) (area 600 24 400 300)
beside = inl (omega arith)

below : AreApart (area 200 24 400 300) (area 200 324 400 300)
below = inr (inr (inl (omega arith)))

one_unit_in_both : AreApart (area 200 24 401 301) (area 600 324 400 300) → ⊥
one_unit_in_both (inl h) = omega arith
one_unit_in_both (inr (inl h)) = omega arith
one_unit_in_both (inr (inr (inl h))) = omega arith
one_unit_in_both (inr (inr (inr h))) = omega arith

-- ---- the second of the five is drawn at 8
second_at_8 : IsShownAt five five_offsets 1 8
unfolding rectangles rectangles_of run_end columns_of turns_at was_live is_live buffer
second_at_8 = record {
  rectangle = drawn 1 1 2 0 4;
  column = 1;
  drawn = inr (inl refl);
  own = refl;
  place = refl;
  top = refl;
  of_moment = before_the_next;
  has = record { from = omega arith; to = omega arith };
}

-- one with a gap from 3 to 6 is not drawn at 4, which is in the second of its columns 0, 3, 6 and 10
not_in_its_gap : IsShownAt alone (8 ∷ []) 0 4 → ⊥
unfolding rectangles rectangles_of run_end columns_of turns_at was_live is_live buffer
not_in_its_gap h = neither h.rectangle h.drawn (subst (HasColumn h.rectangle) (second_alone h.column h.of_moment) h.has)
  where
    second_alone : (k : ℕ) → IsInColumn (0 ∷ 3 ∷ 6 ∷ 10 ∷ []) 4 k → k ≡ 1
    second_alone zero c = let k = c.not_next (omega arith) in absurd (omega arith)
    second_alone (suc zero) c = refl
    second_alone (suc (suc zero)) c = let k = c.begun in absurd (omega arith)
    second_alone (suc (suc (suc zero))) c = let k = c.begun in absurd (omega arith)
    second_alone (suc (suc (suc (suc k)))) c = let k = c.in_range in absurd (omega arith)

    neither : (r : Rectangle) → IsIn r (drawn 0 0 1 8 12 ∷ drawn 0 2 3 8 12 ∷ []) → HasColumn r 1 → ⊥
    neither r (inl e) c = let k = (subst (λ r. HasColumn r 1) e c).to in omega arith
    neither r (inr (inl e)) c = let k = (subst (λ r. HasColumn r 1) e c).from in omega arith
    neither r (inr (inr i)) c = i

-- ---- lying upon: the third of the five begins at 4, where the first ends; the fourth ends there too, and is live
-- later
third_upon_first : lie_upon five five_offsets 2 0 ≡ true
unfolding buffer do_share some_before is_live
third_upon_first = refl

either_way : lie_upon five five_offsets 0 2 ≡ true
unfolding buffer do_share some_before is_live
either_way = refl

not_upon_the_fourth : lie_upon five five_offsets 2 3 ≡ false
unfolding buffer do_share some_before is_live
not_upon_the_fourth = refl

-- the first lies below the fifth, with the third between them
not_upon_the_first : lie_upon five five_offsets 4 0 ≡ false
unfolding buffer do_share some_before is_live
not_upon_the_first = refl
