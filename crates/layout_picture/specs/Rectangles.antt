-- The rectangles of a layout: for each buffer one for each greatest run of columns at which it is live.
use Rattle.std.specs.Prelude.{◌≡◌, ℕ, suc, ◌+◌, ◌-◌, ◌<◌, ◌≤◌, Bool, true, false, not, ◌&&◌, ◌||◌, ◌==◌, List, [], ◌∷◌, map, length, drop, flat_map, slice_index, slice_index_or}
use Rattle.std.specs.List.{filter}
use Rattle.dsa_terms.specs.Buffers.{Instance, buffer, is_live}
use Rattle.dsa_terms.specs.Parts.{numbers}
use Rattle.dsa_model.specs.Limits.{number_limit}
use Rattle.layout_picture.specs.Columns.{columns_of}
use Rattle.layout_picture.specs.declared.rectangle.Rectangle.{Rectangle}

-- there are as many offsets as buffers, and each buffer ends at or below 2 ^ 60
pub record EndsWithin (I : Instance) (offsets : List ℕ) : Type 0 where
  pub count : length offsets ≡ length I
  pub within : (b : ℕ) → b < length I → slice_index offsets b + (buffer I b).size ≤ number_limit

-- whether it is live in column k, and not past the last column
abbrev pub flag_at : List Bool → ℕ → Bool
flag_at flags k = slice_index_or flags k false

-- a run begins in column k: it is live there, and not in the column before, if there is one
abbrev pub begins_at : List Bool → ℕ → Bool
begins_at flags k = flag_at flags k && ((k == 0) || not (flag_at flags (k - 1)))

-- how many of the flags at the front are true
abbrev pub front : List Bool → ℕ
front [] = 0
front (true ∷ flags) = suc (front flags)
front (false ∷ flags) = 0

-- the first column from k on in which it is not live
unfoldable pub run_end : List Bool → ℕ → ℕ
run_end flags k = k + front (drop k flags)

-- the rectangle of a buffer over the run that begins in column k
abbrev pub rectangle_at : List Bool → ℕ → ℕ → ℕ → ℕ → Rectangle
rectangle_at flags b place top k =
    record { buffer = b; first = k; end = run_end flags k; place = place; top = top }

-- one rectangle for each run, from the place up to the top
abbrev pub rectangles_from : List Bool → ℕ → ℕ → ℕ → List Rectangle
rectangles_from flags b place top =
    map (rectangle_at flags b place top) (filter (begins_at flags) (numbers (length flags)))

-- the rectangles of buffer b, from its offset to its end
unfoldable pub rectangles_of : Instance → List ℕ → ℕ → List Rectangle
rectangles_of I offsets b =
    rectangles_from (map (is_live (buffer I b)) (columns_of I)) b (slice_index offsets b)
    (slice_index offsets b + (buffer I b).size)

-- the rectangles of all buffers in order
unfoldable pub rectangles : Instance → List ℕ → List Rectangle
rectangles I offsets = flat_map (rectangles_of I offsets) (numbers (length I))
