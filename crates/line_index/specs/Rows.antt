-- Marks in rows: a row for each buffer and each group of its bounds.
use Rattle.std.specs.Prelude.{◌≡◌, ℕ, ◌+◌, ◌-◌, ◌*◌, ◌/◌, ◌^◌, ◌<◌, ◌≤◌, ◌⊎◌, List, ◌++◌, min, slice_get, Some}
use Rattle.dsa_terms.specs.Claims.{Entry, IsIn}
use Rattle.dsa_model.specs.Buffer.{buffer_limit}
use Rattle.line_index.specs.declared.watch_row.Mark.{Mark}
use Rattle.line_index.specs.Watches.{row_at}

-- how many groups the bounds of a buffer have
abbrev pub groups : ℕ
groups = 16

-- the watches by line, the marks by row, and the scale, by which a bound is multiplied to find its group
pub record WatchedLines : Type 0 where
  pub watches : List Entry
  pub rows : List (List Mark)
  pub scale : ℕ

-- the group of a bound: the bound times the scale, in units of 2^63; the last group has all higher bounds too
abbrev pub group_of : ℕ → ℕ → ℕ
group_of scale bound = min (bound * scale / 2 ^ 63) (groups - 1)

-- the number of the row of a pair
abbrev pub row_of : ℕ → Entry → ℕ
row_of scale e = e.0 * groups + group_of scale e.1

-- the row is one of those of buffer b
pub record IsRowOf (b p : ℕ) : Type 0 where
  pub from : b * groups ≤ p
  pub below : p < b * groups + groups

-- the mark of line k at that bound, with that note
abbrev pub mark_of : ℕ → ℕ → ℕ → Mark
mark_of k bound note = record { bound = bound; line = k; note = note }

-- the mark with another note
abbrev pub with_note : Mark → ℕ → Mark
with_note m note = mark_of m.line m.bound note

-- among the marks is one of line k at the bound of the pair
pub record HasMark (row : List Mark) (k : ℕ) (e : Entry) : Type 0 where
  pub note : ℕ
  pub inside : IsIn (mark_of k e.1 note) row

-- each watch of a number that a buffer may have has a mark in its row
pub record AreFiled (watches : List Entry) (rows : List (List Mark)) (scale : ℕ) : Type 0 where
  pub filed : (k : ℕ) (e : Entry) → slice_get watches k ≡ Some e → e.0 < buffer_limit →
      HasMark (row_at rows (row_of scale e)) k e

-- each row is as it was, with some marks behind it
abbrev pub AreAppended : List (List Mark) → List (List Mark) → Type 0
AreAppended before after = (p : ℕ) → (more : List Mark) × (row_at after p ≡ row_at before p ++ more)

-- each mark is one that was there, or this one
abbrev pub AreWith : Mark → List (List Mark) → List (List Mark) → Type 0
AreWith m before after = (p : ℕ) (x : Mark) → IsIn x (row_at after p) → IsIn x (row_at before p) ⊎ (x ≡ m)

-- each mark is one that was there
abbrev pub AreAmong : List (List Mark) → List (List Mark) → Type 0
AreAmong before after = (p : ℕ) (x : Mark) → IsIn x (row_at after p) → IsIn x (row_at before p)

-- no line has the mark at that place of row p for its watch
abbrev pub IsUnwatched : WatchedLines → ℕ → ℕ → Type 0
IsUnwatched table p i = (m : Mark) (e : Entry) → slice_get (row_at table.rows p) i ≡ Some m →
    slice_get table.watches m.line ≡ Some e → e.1 ≡ m.bound → row_of table.scale e ≡ p → ⊥
