use Rattle.std.proofs.Common.{◌≡◌, ◌<◌, ◌^◌, ◌+◌, take}
use Rattle.std.specs.Prelude.{IfSome}
use Rattle.skyline.specs.LowsOf.{least_low}
use Rattle.skyline.proofs.lows_of.least_low.Given as goal

abbrev pub invariant-loop-i : goal.invariant-loop-i
invariant-loop-i l = record {
  value : l.least ≡ least_low l.levels (take l.i l.buffers);
  limit : IfSome l.least (λ h. h < 2 ^ 55);
  over : IfSome l.least (λ h. l.capacity < h + l.load);
}
