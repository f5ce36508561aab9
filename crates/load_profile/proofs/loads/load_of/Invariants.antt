use Rattle.std.proofs.Common.{◌≡◌, ◌≤◌, ◌*◌, ◌^◌, take}
use Rattle.load_profile.specs.LoadProfile.{load_of}
use Rattle.load_profile.proofs.loads.load_of.Given as goal

abbrev pub invariant-loop-b : goal.invariant-loop-b
invariant-loop-b l = record {
  value : l.load ≡ load_of l.instance (take l.b-index l.members);
  limit : l.load ≤ l.b-index * 2 ^ 40;
}
