-- How many buffers of an instance ask for more than a size and a lifetime.
use Rattle.std.specs.Prelude.{ℕ, List, ◌++◌, codes, count_by, decimal, length, nat_lt, not}
use Rattle.dsa_terms.specs.Buffers.{Buffer, Instance}
use Rattle.dsa_terms.specs.Parts.{is_empty}
use Rattle.dsa_model.specs.Buffer.{buffer_limit}
use Rattle.column_report.specs.declared.counts.Counts.{Counts}

-- the counts of an instance: its buffers, and those with an alignment above 1, with a gap and with a lowest above 0
abbrev pub counts_of : Instance → Counts
counts_of I = record {
  buffers = length I;
  aligned = count_by (λ (b : Buffer). nat_lt 1 b.alignment) I;
  gaps = count_by (λ (b : Buffer). not (is_empty b.gaps)) I;
  lowest = count_by (λ (b : Buffer). nat_lt 0 b.lowest) I;
}

-- the line of counts
abbrev pub counts_line : Counts → List ℕ
counts_line counts =
    codes "buffers " ++ decimal counts.buffers ++ codes " of " ++ decimal buffer_limit
    ++ codes " aligned " ++ decimal counts.aligned ++ codes " gaps " ++ decimal counts.gaps
    ++ codes " lowest " ++ decimal counts.lowest ++ codes "\n"
