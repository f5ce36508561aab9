-- Rectangles of two buffers are apart, and scaling keeps order.
use Rattle.std.proofs.Common.{◌≡◌, ◌≢◌, ℕ, ◌+◌, ◌-◌, ◌*◌, ◌/◌, ◌<◌, ◌≤◌, ◌⊎◌, inl, inr, max, min, List, get_or, ap, arith}
use Rattle.std.proofs.Math.Nat.{div-mul-le_self, le-div_iff_mul-le}
use Rattle.dsa_terms.specs.Buffers.{Instance}
use Rattle.dsa_terms.specs.Claims.{IsIn}
use Rattle.dsa_terms.specs.Layouts.{IsLayout}
use Rattle.dsa_terms.proofs.NumberTests.{below_or_from}
use Rattle.layout_picture.specs.Columns.{columns_of}
use Rattle.layout_picture.specs.Laws.{AreApart, HasColumn, HasPoint}
use Rattle.layout_picture.specs.Rectangles.{rectangles}
use Rattle.layout_picture.specs.Scale.{area_of, column_width, scaled, x_of, y_of}
use Rattle.layout_picture.specs.declared.rectangle.Rectangle.{Rectangle}
use Rattle.layout_picture.specs.declared.scale.Scale.{Scale}
use Rattle.layout_picture.proofs.Showing.{OfBuffer, of_buffer}

-- ---- scaling
quotient_rises : (a b m : ℕ) → 1 ≤ m → a ≤ b → a / m ≤ b / m
quotient_rises a b m h le =
    (le-div_iff_mul-le {k = m} {x = a / m} {y = b} (omega arith)).1 (let k = div-mul-le_self a m in omega arith)

pub scaled_rises : (u : Scale) (a b : ℕ) → a ≤ b → scaled u a ≤ scaled u b
unfolding scaled
scaled_rises u a b le = quotient_rises (min a u.height * 600) (min b u.height * 600) (max u.height 1) (omega arith)
    (omega arith)

pub y_falls : (u : Scale) (a b : ℕ) → a ≤ b → y_of u b ≤ y_of u a
unfolding y_of
y_falls u a b le = let k = scaled_rises u a b le in omega arith

x_rises : (u : Scale) (j k : ℕ) → j ≤ k → x_of u j ≤ x_of u k
unfolding x_of
x_rises u j k le = product (column_width u) j k le
  where
    product : (w j k : ℕ) → j ≤ k → 200 + j * w ≤ 200 + k * w
    product w j k le = grind arith

-- each column has a width
pub x_grows : (u : Scale) (j k : ℕ) → j < k → x_of u j < x_of u k
unfolding x_of
x_grows u j k lt = product (column_width u) j k (omega arith) lt
  where
    product : (w j k : ℕ) → 1 ≤ w → j < k → 200 + j * w < 200 + k * w
    product w j k some lt = grind arith

-- place 0 is drawn at the base, and the height at the top
pub at_base : (u : Scale) → y_of u 0 ≡ 624
unfolding y_of scaled
at_base u = none (min 0 u.height * 600) (max u.height 1) (omega arith) (omega arith)
  where
    none : (a m : ℕ) → a ≡ 0 → 1 ≤ m → 624 - a / m ≡ 624
    none a m e some = elim (below_or_from (a / m) 1) [
      | inl lt ↦ omega arith
      | inr le ↦ absurd (let k = (le-div_iff_mul-le {k = m} {x = 1} {y = a} some).0 le in omega arith)
    ]

pub at_top : (u : Scale) → 1 ≤ u.height → y_of u u.height ≡ 24
unfolding y_of scaled
at_top u some = all (min u.height u.height * 600) (max u.height 1) (omega arith) (omega arith)
  where
    all : (a m : ℕ) → a ≡ m * 600 → 1 ≤ m → 624 - a / m ≡ 24
    all a m e some = let h = (le-div_iff_mul-le {k = m} {x = 600} {y = a} some).1 (omega arith) in
        elim (below_or_from (a / m) 601) [
          | inl lt ↦ omega arith
          | inr le ↦ absurd (let k = (le-div_iff_mul-le {k = m} {x = 601} {y = a} some).0 le in omega arith)
        ]

pub touches : (u : Scale) (r s : Rectangle) → s.place ≡ r.top → s.place ≤ s.top →
    (area_of u s).y + (area_of u s).height ≡ (area_of u r).y
unfolding area_of
touches u r s e le =
    let k = y_falls u s.place s.top le in
    let z : y_of u s.place ≡ y_of u r.top = ap (y_of u) e in omega arith

-- ---- two rectangles
-- in a column that both have, one ends at or below the other
apart_in : (I : Instance) (C : ℕ) (offsets : List ℕ) (r s : Rectangle) (k : ℕ) → IsLayout I C offsets →
    OfBuffer I offsets r → OfBuffer I offsets s → r.buffer ≢ s.buffer → HasColumn r k → HasColumn s k →
    (r.top ≤ s.place) ⊎ (s.top ≤ r.place)
apart_in I C offsets r s k l o p ne h i =
    elim (l.apart r.buffer s.buffer (get_or (columns_of I) k 0) o.in_range p.in_range
    ne (o.live k h) (p.live k i)) [
      | inl q ↦ inl (let a = o.top in let b = p.place in omega arith)
      | inr q ↦ inr (let a = o.place in let b = p.top in omega arith)
    ]

pub no_point : (I : Instance) (C : ℕ) (offsets : List ℕ) (r s : Rectangle) (k a : ℕ) → IsLayout I C offsets →
    IsIn r (rectangles I offsets) → IsIn s (rectangles I offsets) → r.buffer ≢ s.buffer →
    HasPoint r k a → HasPoint s k a → ⊥
no_point I C offsets r s k a l i j ne h g = elim (apart_in I C offsets r s k l (of_buffer I offsets r i)
    (of_buffer I offsets s j) ne h.column g.column) [
      | inl q ↦ (let b = h.to in let c = g.from in omega arith)
      | inr q ↦ (let b = g.to in let c = h.from in omega arith)
    ]

-- the four ways
left_of : (u : Scale) (r s : Rectangle) → r.first < r.end → r.end ≤ s.first →
    (area_of u r).x + (area_of u r).width ≤ (area_of u s).x
unfolding area_of
left_of u r s lt le = let a = x_rises u r.first r.end (omega arith) in let b = x_rises u r.end s.first le in omega arith

under : (u : Scale) (r s : Rectangle) → s.place ≤ s.top → r.top ≤ s.place →
    (area_of u s).y + (area_of u s).height ≤ (area_of u r).y
unfolding area_of
under u r s own le = let a = y_falls u s.place s.top own in let b = y_falls u r.top s.place le in omega arith

pub drawn_apart : (I : Instance) (C : ℕ) (offsets : List ℕ) (r s : Rectangle) (u : Scale) → IsLayout I C offsets →
    IsIn r (rectangles I offsets) → IsIn s (rectangles I offsets) → r.buffer ≢ s.buffer →
    AreApart (area_of u r) (area_of u s)
drawn_apart I C offsets r s u l i j ne = go (of_buffer I offsets r i) (of_buffer I offsets s j)
    (below_or_from s.first r.end) (below_or_from r.first s.end)
  where
    go : OfBuffer I offsets r → OfBuffer I offsets s → (s.first < r.end) ⊎ (r.end ≤ s.first) →
        (r.first < s.end) ⊎ (s.end ≤ r.first) → AreApart (area_of u r) (area_of u s)
    go o p (inr a) b = inl (left_of u r s o.some a)
    go o p (inl a) (inr b) = inr (inl (left_of u s r p.some b))
    go o p (inl a) (inl b) = elim (apart_in I C offsets r s (max r.first s.first) l o p ne
        (record { from = omega arith; to = let c = o.some in omega arith })
        (record { from = omega arith; to = let c = p.some in omega arith })) [
          | inl q ↦ inr (inr (inr (under u r s (let e = p.place in let f = p.top in omega arith) q)))
          | inr q ↦ inr (inr (inl (under u s r (let e = o.place in let f = o.top in omega arith) q)))
        ]
