use Rattle.std.proofs.Common.{◌≡◌, ◌<◌, ℕ, None}
use Rattle.skyline.specs.Overloads.{over}
use Rattle.skyline.specs.Skies.{last_claim}
use Rattle.skyline.proofs.sky.Skyline.overloaded_at.Given as goal

abbrev pub invariant-loop-s : goal.invariant-loop-s
invariant-loop-s l = (k : ℕ) → k < l.s → over l.self.instance l.self.sections (last_claim l.self.claims) l.capacity k
    ≡ None
