-- The buffers of an instance as the code keeps them.
use Rattle.std.specs.Prelude.{◌≡◌, ℕ, ◌+◌, ◌-◌, ◌<◌, ◌≤◌, ◌&&◌, nat_lt, List, [], length, map, slice_index_or, take}
use Rattle.std.specs.List.{All}
use Rattle.dsa_terms.specs.Buffers.{Instance, buffer, do_share}
use Rattle.dsa_model.specs.Bits.{Reaches, is_set}
use Rattle.dsa_model.specs.Buffer.{IsBuffer, buffer_limit}
use Rattle.dsa_model.specs.Chosen.{some_of}
use Rattle.dsa_model.specs.declared.instance.Row.{Row}

-- the buffers of the rows
abbrev pub instance_of : List Row → Instance
instance_of rows = map (λ (r : Row). r.buffer) rows

-- the words of each row
abbrev pub words_of : List Row → List (List ℕ)
words_of rows = map (λ (r : Row). r.shares.words.items) rows

-- those of the first n buffers are set that share a moment with buffer b, and no others; there is a bit for each buffer
-- that an instance can have
pub record IsNoted (I : Instance) (b : ℕ) (words : List ℕ) (n : ℕ) : Type 0 where
  pub reaches : Reaches words (buffer_limit - 1)
  pub noted : (c : ℕ) → is_set words c ≡ (nat_lt c n && do_share (buffer I b) (buffer I c))

-- the first n rows of the table tell of all buffers
abbrev pub AllNoted : Instance → List (List ℕ) → ℕ → Type 0
AllNoted I table n = (b : ℕ) → b < n → IsNoted I b (slice_index_or table b []) (length I)

-- the rows tell of any two of their buffers whether they share a moment
abbrev pub AreRows : List Row → Type 0
AreRows rows = AllNoted (instance_of rows) (words_of rows) (length (instance_of rows))

-- the row at place last, which is the last, tells of all buffers, and so do the rows before place n; the others tell of
-- the buffers before the last
pub record AreNoted (I : Instance) (rows : List Row) (last n : ℕ) : Type 0 where
  pub view : instance_of rows ≡ I
  pub count : length I ≡ last + 1
  pub own : IsNoted I last (slice_index_or (words_of rows) last []) (last + 1)
  pub done : (b : ℕ) → b < n → IsNoted I b (slice_index_or (words_of rows) b []) (last + 1)
  pub left : (b : ℕ) → n ≤ b → b < last → IsNoted I b (slice_index_or (words_of rows) b []) last

-- a row was put behind rows, and these do not tell of it yet
abbrev pub AreNext : List Row → ℕ → Type 0
AreNext rows last = (last < buffer_limit) × AreNoted (instance_of rows) rows last 0

-- the rows have the first n of these members, and tell of each which of the members share a moment with it
pub record AreChosen (I : Instance) (members : List ℕ) (rows : List Row) (n : ℕ) : Type 0 where
  pub buffers : instance_of rows ≡ some_of I (take n members)
  pub sound : All IsBuffer (instance_of rows)
  pub told : AllNoted (some_of I members) (words_of rows) n
