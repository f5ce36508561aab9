-- What the picture shows.
use Rattle.std.specs.Prelude.{◌≡◌, ◌≢◌, ℕ, ◌+◌, ◌<◌, ◌≤◌, ◌⊎◌, true, List, slice_index}
use Rattle.dsa_terms.specs.Buffers.{Instance, buffer}
use Rattle.dsa_terms.specs.Claims.{IsIn}
use Rattle.layout_picture.specs.Colours.{colours_of, touch}
use Rattle.layout_picture.specs.Columns.{IsInColumn, columns_of}
use Rattle.layout_picture.specs.Rectangles.{rectangles}
use Rattle.layout_picture.specs.declared.rectangle.Rectangle.{Rectangle}
use Rattle.layout_picture.specs.declared.scale.Area.{Area}

-- column k is one of the rectangle's
pub record HasColumn (r : Rectangle) (k : ℕ) : Type 0 where
  pub from : r.first ≤ k
  pub to : k < r.end

-- the rectangle holds the point in the middle of column k at place a
pub record HasPoint (r : Rectangle) (k a : ℕ) : Type 0 where
  pub column : HasColumn r k
  pub from : r.place ≤ a
  pub to : a < r.top

-- one of the buffer's rectangles, from its offset to its end, has the column of moment t
pub record IsShownAt (I : Instance) (offsets : List ℕ) (b t : ℕ) : Type 0 where
  pub rectangle : Rectangle
  pub column : ℕ
  pub drawn : IsIn rectangle (rectangles I offsets)
  pub own : rectangle.buffer ≡ b
  pub place : rectangle.place ≡ slice_index offsets b
  pub top : rectangle.top ≡ slice_index offsets b + (buffer I b).size
  pub of_moment : IsInColumn (columns_of I) t column
  pub has : HasColumn rectangle column

-- of eight colours, k is that of no lower-numbered buffer that touches buffer c
pub record IsLeft (I : Instance) (offsets : List ℕ) (c k : ℕ) : Type 0 where
  pub in_range : k < 8
  pub not_taken : (b : ℕ) → b < c → touch I offsets b c ≡ true → slice_index (colours_of I offsets) b ≢ k

-- one of the areas ends where the other begins, or before, in one of the two directions
abbrev pub AreApart : Area → Area → Type 0
AreApart p q =
    (p.x + p.width ≤ q.x) ⊎ (q.x + q.width ≤ p.x) ⊎ (p.y + p.height ≤ q.y) ⊎ (q.y + q.height ≤ p.y)
