-- The report of the facts of an instance.
use Rattle.std.specs.Prelude.{ℕ, List, ◌++◌, codes, decimal, Option, Some, None}
use Rattle.layout_report.specs.declared.facts.Facts.{Facts}

-- two numbers
abbrev pub two_numbers_text : ℕ → ℕ → List ℕ
two_numbers_text first second = decimal first ++ codes " " ++ decimal second

-- a peak's moment and load, or that there is none
abbrev pub peak_text : Option (ℕ × ℕ) → List ℕ
peak_text None = codes "none"
peak_text (Some peak) = two_numbers_text peak.0 peak.1

-- the lines of the buffers and the peak
abbrev pub peak_lines : ℕ → List ℕ → List ℕ
peak_lines buffers peak = codes "buffers " ++ decimal buffers ++ codes "\npeak " ++ peak ++ codes "\n"

-- the lines of the parts, the bound and the best height
abbrev pub bound_lines : ℕ → List ℕ → ℕ → List ℕ
bound_lines parts bound best =
    codes "parts " ++ decimal parts ++ codes "\nbound " ++ bound ++ codes "\nbest " ++ decimal best ++ codes "\n"

-- the five lines of the report
abbrev pub bounds_text : Facts → List ℕ
bounds_text facts =
    peak_lines facts.buffers (peak_text facts.peak)
    ++ bound_lines facts.parts (two_numbers_text facts.bound facts.modulus) facts.best
