-- The texts of reasons, as they are printed.
use Rattle.std.specs.Prelude.{ℕ, List, ◌++◌, codes, decimal}
use Rattle.refute_log.specs.declared.reason.Reason.{Reason}
use Rattle.refute_log.specs.declared.reason.Reason.TheVariants as reason

-- why a line is not legal
abbrev pub reason_text : Reason → List ℕ
reason_text reason.EmptyClaim = codes "empty claim"
reason_text (reason.BufferRange buffer) = codes "buffer range " ++ decimal buffer
reason_text reason.ZeroModulus = codes "zero modulus"
reason_text reason.NotMultiple = codes "not multiple"
reason_text reason.EmptySet = codes "empty set"
reason_text reason.NotOver = codes "not over"
reason_text reason.CitesDiffer = codes "cites differ"
reason_text (reason.NotEarlier buffer) = codes "not earlier " ++ decimal buffer
reason_text (reason.NotCovered buffer) = codes "not covered " ++ decimal buffer
reason_text (reason.NotBelow buffer) = codes "not below " ++ decimal buffer
reason_text (reason.NotTwin buffer) = codes "not twin " ++ decimal buffer
