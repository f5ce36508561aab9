-- The instance that arrays tell of.
use Rattle.std.specs.Prelude.{ℕ, List, [], length, map, sum, slice_index, take, drop}
use Rattle.dsa_terms.specs.Buffers.{Buffer, Instance}
use Rattle.dsa_terms.specs.Parts.{numbers}
use Rattle.dsa_model.specs.Buffer.{buffer_of}
use Rattle.dsa_plan.specs.declared.arrays.Arrays.{Arrays as Declared}

-- an item for each buffer, and in `gaps` all gaps, those of the first buffer first
pub record Arrays : Type 0 where
  pub lower : List ℕ
  pub upper : List ℕ
  pub size : List ℕ
  pub alignment : List ℕ
  pub lowest : List ℕ
  pub gaps : List (ℕ × ℕ)
  pub gap_counts : List ℕ

-- the arrays that a program holds
abbrev pub arrays_of : Declared → Arrays
arrays_of a = record {
  lower = a.lower.now;
  upper = a.upper.now;
  size = a.size.now;
  alignment = a.alignment.now;
  lowest = a.lowest.now;
  gaps = a.gaps.now;
  gap_counts = a.gap_counts.now;
}

-- the arrays of buffers that have no gaps
abbrev pub without_gaps : (lower upper size alignment lowest : List ℕ) → Arrays
without_gaps lower upper size alignment lowest = record {
  lower = lower;
  upper = upper;
  size = size;
  alignment = alignment;
  lowest = lowest;
  gaps = [];
  gap_counts = [];
}

-- how many gaps the buffers before b have together
abbrev pub gaps_before : Arrays → ℕ → ℕ
gaps_before a b = sum (take b a.gap_counts)

-- the gaps of buffer b: as many as its count says, after those of the buffers before it
abbrev pub gaps_at : Arrays → ℕ → List (ℕ × ℕ)
gaps_at a b = take (slice_index a.gap_counts b) (drop (gaps_before a b) a.gaps)

-- buffer b
unfoldable pub buffer_at : Arrays → ℕ → Buffer
buffer_at a b = buffer_of
    (slice_index a.lower b)
    (slice_index a.upper b)
    (slice_index a.size b)
    (slice_index a.alignment b)
    (gaps_at a b)
    (slice_index a.lowest b)

-- all buffers in order
abbrev pub instance_of : Arrays → Instance
instance_of a = map (buffer_at a) (numbers (length a.lower))
