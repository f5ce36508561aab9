-- A claim with the lows of its buffers as bounds.
use Rattle.std.specs.Prelude.{map}
use Rattle.dsa_terms.specs.Buffers.{Instance}
use Rattle.dsa_terms.specs.Claims.{Claim, Entry, up}

-- the entry with its up as its bound
abbrev pub lift : Instance → Entry → Entry
lift I e = (e.0, up I e)

-- the claim with the up of each buffer as its bound
abbrev pub lifted : Instance → Claim → Claim
lifted I l = map (lift I) l
