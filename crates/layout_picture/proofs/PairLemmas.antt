-- All pairs of buffers that touch, and the colours that are left by them.
use Rattle.std.proofs.Common.{◌≡◌, ℕ, ◌%◌, ◌<◌, ◌⊎◌, inl, inr, Bool, true, false, not, ◌==◌, ◌&&◌, ◌||◌, List, [], length, map, filter, get_or, leb, ltb, refl, ap, sym, subst, ◌∙◌, arith}
use Rattle.std.specs.List.{All}
use Rattle.std.specs.List.Sorted.{IsPermutation}
use Rattle.std.proofs.lemmas.Bool.Decides.{nat_tests}
use Rattle.std.proofs.lemmas.List.Elements.{filter_agree}
use Rattle.std.proofs.lemmas.List.Sorted.{IsPermutation-sym}
use Rattle.dsa_terms.specs.Buffers.{Instance, IsInstance}
use Rattle.dsa_terms.specs.Claims.{IsIn}
use Rattle.dsa_terms.specs.Parts.{numbers}
use Rattle.dsa_terms.proofs.Lists.{any_from, any_gives, from_filter, into_filter}
use Rattle.dsa_terms.proofs.Moments.{and_true, both_true}
use Rattle.dsa_terms.proofs.NumberTests.{equal, is_at_most, less, same}
use Rattle.dsa_terms.proofs.Places.{all_from_in, in_permutation}
use Rattle.dsa_terms.proofs.Ranges.{among, below}
use Rattle.layout_picture.specs.Colours.{follow, is_taken, lie_upon, next_colour, overlap, takes, touch}
use Rattle.layout_picture.specs.Rectangles.{rectangles}
use Rattle.layout_picture.specs.Sides.{AreMet, AreTouching, IsMet, IsTouching, colour_left, has_colour, has_later, left_side, lower_side, right_side, upper_side}
use Rattle.layout_picture.specs.declared.rectangle.Rectangle.{Rectangle}
use Rattle.layout_picture.specs.declared.side.Side.{Side}
use Rattle.layout_picture.specs.declared.touching.Pair.{Pair}
use Rattle.layout_picture.proofs.Following.{following_touch, touch_following}
use Rattle.layout_picture.proofs.Stacking.{stacked_touch, touch_stacked}

-- ---- the pairs
touch_is : (I : Instance) (offsets : List ℕ) (b c : ℕ) → touch I offsets b c ≡ true →
    (lie_upon I offsets b c ≡ true) ⊎ ((follow I b c && overlap I offsets b c) ≡ true)
unfolding touch
touch_is I offsets b c h = either (lie_upon I offsets b c) (follow I b c && overlap I offsets b c) h
  where
    either : (p q : Bool) → (p || q) ≡ true → (p ≡ true) ⊎ (q ≡ true)
    either true q e = inl refl
    either false q e = inr e

pub are_touching : (I : Instance) (offsets : List ℕ) (all : List Rectangle) (tops bottoms ends begins : List Side)
    (none mid new sorted : List Pair) → IsInstance I → all ≡ rectangles I offsets → none ≡ [] →
    tops ≡ map upper_side all → bottoms ≡ map lower_side all →
    ends ≡ map (right_side I offsets) (numbers (length I)) → begins ≡ map (left_side I offsets) (numbers (length I)) →
    AreMet tops bottoms none mid → AreMet ends begins mid new → IsPermutation new sorted → AreTouching I offsets sorted
are_touching I offsets all tops bottoms ends begins none mid new sorted good e n t b r l first second p = record {
  each = λ x i. elim (second.each x (in_permutation sorted new x (IsPermutation-sym new sorted p) i)) [
    | inl j ↦ elim (first.each x j) [
      | inl k ↦ absurd (nothing x (subst (IsIn x) n k))
      | inr m ↦ stacked_touch I offsets all x good e (same_sides tops _ bottoms _ x t b m)
    ]
    | inr m ↦ following_touch I offsets x good (same_sides ends _ begins _ x r l m)
  ];
  all = λ x h. in_permutation new sorted x p (elim (touch_is I offsets x.earlier x.later h.touching) [
    | inl k ↦ second.kept x (first.all x (same_sides _ tops _ bottoms x (sym t) (sym b)
        (touch_stacked I offsets all x e h.order h.in_range k)))
    | inr k ↦ second.all x (same_sides _ ends _ begins x (sym r) (sym l)
        (touch_following I offsets x h.order h.in_range k))
  ]);
}
  where
    nothing : (x : Pair) → IsIn x [] → ⊥
    nothing x i = i

    same_sides : (ss ts us vs : List Side) (x : Pair) → ss ≡ ts → us ≡ vs → IsMet ss us x → IsMet ts vs x
    same_sides ss ts us vs x e f m =
        subst (λ (us : List Side). IsMet ts us x) f (subst (λ (ss : List Side). IsMet ss us x) e m)

-- ---- the pairs of the next buffer
earlier_in : (I : Instance) (offsets : List ℕ) (pairs : List Pair) (n : ℕ) → AreTouching I offsets pairs → (p : Pair) →
    IsIn p (filter (has_later n) pairs) → IsTouching I offsets p × (p.later ≡ n)
earlier_in I offsets pairs n h p i =
    let f = from_filter (has_later n) pairs p i in (h.each p f.0, equal p.later n f.1)

pub earlier_within : (I : Instance) (offsets : List ℕ) (pairs : List Pair) (n : ℕ) → AreTouching I offsets pairs →
    All (λ (p : Pair). p.earlier < n) (filter (has_later n) pairs)
earlier_within I offsets pairs n h =
    all_from_in (λ (p : Pair). p.earlier < n) (filter (has_later n) pairs) (λ p i.
    let r = earlier_in I offsets pairs n h p i in let a = r.0.order in let b = r.1 in omega arith)

-- one of them has the colour where it is taken
has_taken : (I : Instance) (offsets : List ℕ) (pairs : List Pair) (colours : List ℕ) (k : ℕ) →
    AreTouching I offsets pairs → length colours < length I →
    has_colour colours (filter (has_later (length colours)) pairs) k ≡ is_taken I offsets colours k
unfolding is_taken
has_taken I offsets pairs colours k h lt = alike _ _ forth back
  where
    n : ℕ
    n = length colours

    alike : (a b : Bool) → (a ≡ true → b ≡ true) → (b ≡ true → a ≡ true) → a ≡ b
    alike true b f g = sym (f refl)
    alike false true f g = g refl
    alike false false f g = refl

    forth : has_colour colours (filter (has_later n) pairs) k ≡ true →
        is_taken I offsets colours k ≡ true
    forth t =
        let r = any_gives (λ (p : Pair). get_or colours p.earlier 0 == k) (filter (has_later n) pairs) t in
        let e = earlier_in I offsets pairs n h r.0 r.1 in
        any_from (takes I offsets colours k) (numbers n) r.0.earlier
        (among n r.0.earlier (let a = e.0.order in let b = e.1 in omega arith))
        (both_true _ _ r.2 (ap (touch I offsets r.0.earlier) (sym e.1) ∙ e.0.touching))

    back : is_taken I offsets colours k ≡ true →
        has_colour colours (filter (has_later n) pairs) k ≡ true
    back t =
        let r = any_gives (takes I offsets colours k) (numbers n) t in
        let q = and_true (get_or colours r.0 0 == k) (touch I offsets r.0 n) r.2 in
        let p : Pair = record { later = n; earlier = r.0 } in
        any_from (λ (p : Pair). get_or colours p.earlier 0 == k) (filter (has_later n) pairs) p
        (into_filter (has_later n) pairs p
        (h.all p (record { order = below n r.0 r.1; in_range = lt; touching = q.1 })) (same n n refl)) q.0

pub left_is_next : (I : Instance) (offsets : List ℕ) (pairs : List Pair) (colours : List ℕ) →
    AreTouching I offsets pairs → length colours < length I →
    colour_left colours (filter (has_later (length colours)) pairs) ≡ next_colour I offsets colours
unfolding colour_left next_colour
left_is_next I offsets pairs colours h lt =
    ap (λ (ks : List ℕ). get_or ks 0 (length colours % 8))
    (filter_agree (λ k. not (has_colour colours (filter (has_later (length colours)) pairs) k))
    (λ k. not (is_taken I offsets colours k))
    (λ k. ap not (has_taken I offsets pairs colours k h lt)) (numbers 8))

-- the same by the pairs that are lent
pub next_is : (I : Instance) (offsets : List ℕ) (pairs lent earlier : List Pair) (colours : List ℕ) (b : ℕ) →
    AreTouching I offsets pairs → lent ≡ pairs → earlier ≡ filter (has_later b) lent → length colours ≡ b →
    b < length I → colour_left colours earlier ≡ next_colour I offsets colours
next_is I offsets pairs lent earlier colours b h e f l lt =
    ap (colour_left colours) (f ∙ ap (filter (has_later b)) e ∙ ap (λ (n : ℕ). filter (has_later n) pairs) (sym l))
    ∙ left_is_next I offsets pairs colours h (omega arith)

pub earlier_are : (I : Instance) (offsets : List ℕ) (pairs lent earlier : List Pair) (colours : List ℕ) (b : ℕ) →
    AreTouching I offsets pairs → lent ≡ pairs → earlier ≡ filter (has_later b) lent → length colours ≡ b →
    All (λ (p : Pair). p.earlier < length colours) earlier
earlier_are I offsets pairs lent earlier colours b h e f l =
    rw (l, f, e) (earlier_within I offsets pairs b h)

-- ---- the part of the pairs
pub later_is : (b : ℕ) (p : Pair) → has_later b p ≡ (leb p.later b && not (ltb p.later b))
later_is b p = same_tests p.later b
  where
    same_tests : (m n : ℕ) → (m == n) ≡ (leb m n && not (ltb m n))
    same_tests m n = grind (arith, nat_tests)

pub up_to : (b : ℕ) (p : Pair) → ltb p.later b ≡ true → leb p.later b ≡ true
up_to b p h = is_at_most p.later b (let k = less p.later b h in omega arith)
