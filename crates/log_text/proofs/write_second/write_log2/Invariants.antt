use Rattle.std.proofs.Common.{◌≡◌, ◌++◌, drop, map}
use Rattle.std.specs.List.{flat_map}
use Rattle.log_text.specs.RawTexts.{header_text}
use Rattle.log_text.specs.Spellings.{spelled_lines, spelled_text}
use Rattle.log_text.specs.Text.{raw_line_of}
use Rattle.log_text.proofs.write_second.write_log2.Given as goal

abbrev pub invariant-loop-k : goal.invariant-loop-k
invariant-loop-k l = l.text.items ++ flat_map spelled_text (drop l.k (spelled_lines (map raw_line_of l.log.lines)))
    ≡ header_text 2 l.log.count l.log.capacity ++ flat_map spelled_text (spelled_lines (map raw_line_of l.log.lines))
