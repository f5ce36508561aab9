use Rattle.std.proofs.Common.{◌≡◌, ◌<◌, ◌^◌, ◌+◌, map, take}
use Rattle.std.specs.Prelude.{IfSome}
use Rattle.std.specs.List.{filter}
use Rattle.dsa_terms.specs.Claims.{up}
use Rattle.skyline.specs.Overloads.{is_left, least_of}
use Rattle.canonical_order.specs.Claims.{entry_of}
use Rattle.skyline.specs.Skies.{last_claim}
use Rattle.skyline.proofs.sky.Skyline.least_low.Given as goal

abbrev pub invariant-loop-i : goal.invariant-loop-i
invariant-loop-i l = record {
  value : l.least ≡ least_of (map (λ b. up l.self.instance (entry_of (last_claim l.self.claims) b))
      (filter (is_left (last_claim l.self.claims)) (take l.i l.members)));
  limit : IfSome l.least (λ h. h < 2 ^ 54);
  over : IfSome l.least (λ h. l.capacity < h + l.load);
}
