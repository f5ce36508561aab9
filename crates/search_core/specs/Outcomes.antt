-- What is found of all parts.
use Rattle.std.specs.Prelude.{◌≡◌, ℕ, ⊤, Some, None, length}
use Rattle.dsa_terms.specs.Buffers.{Instance}
use Rattle.dsa_terms.specs.Parts.{searched}
use Rattle.dsa_model.specs.Counts.{one_more}
use Rattle.refute_log.specs.declared.decided.Decided.{Decided}
use Rattle.refute_log.specs.declared.decided.Decided.TheVariants.{Layout, Refuted, Spent}
use Rattle.search_core.specs.Decisions.{IsRefutation}
use Rattle.search_core.specs.Meters.{AreMoreBy, Units}

-- the first layout of each part, put together, or a log that refutes the capacity where a part has none
abbrev pub IsDecided : Instance → ℕ → Decided → Type 0
IsDecided I C (Layout offsets) = searched I C ≡ Some offsets.items
IsDecided I C (Refuted log) = (searched I C ≡ None) × IsRefutation I C log
IsDecided I C Spent = ⊤

-- the fact holds unless the budget is spent
abbrev pub UnlessSpent : Type 0 → Decided → Type 0
UnlessSpent P (Layout offsets) = P
UnlessSpent P (Refuted log) = P
UnlessSpent P Spent = ⊤

-- each line of a refutation took a unit, where there is a number of them
abbrev pub LinesAreCounted : Units → Units → Decided → Type 0
LinesAreCounted before after (Layout offsets) = ⊤
LinesAreCounted before after (Refuted log) = AreMoreBy (length log.lines) before after
LinesAreCounted before after Spent = ⊤

-- how many answers were Spent after one more answer: at most 2^64 - 1 are counted
abbrev pub spends_after : ℕ → Decided → ℕ
spends_after n (Layout offsets) = n
spends_after n (Refuted log) = n
spends_after n Spent = one_more n
