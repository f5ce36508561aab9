-- The bounds of a whole claim are within those of a log.
use Rattle.std.proofs.Common.{◌<◌, ◌≤◌, ◌^◌, ℕ, List, All, length, arith}
use Rattle.dsa_terms.specs.Buffers.{Instance, buffer}
use Rattle.dsa_terms.specs.Parts.{whole}
use Rattle.dsa_terms.proofs.Places.{in_from_all}
use Rattle.dsa_search_laws.proofs.Members.{in_whole}
use Rattle.dsa_model.specs.Buffer.{IsBuffer}
use Rattle.dsa_model.proofs.Instances.{sound_buffer}
use Rattle.canonical_order.specs.Claims.{IsBoundedBy}

pub whole_is_bounded : (I : Instance) (ks : List ℕ) → All IsBuffer I → All (λ b. b < length I) ks →
    IsBoundedBy (2 ^ 60) (whole I ks)
whole_is_bounded I ks buffers all e i =
    let is = in_whole I ks e i in
    let low : (buffer I e.0).lowest ≤ 2 ^ 40 =
    (sound_buffer I e.0 buffers (in_from_all (λ b. b < length I) ks all e.0 is.0)).within_lowest in
    omega (arith, is.1)
