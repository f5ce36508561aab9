-- What a caller knows of the members of a section.
use Rattle.std.proofs.Common.{◌≡◌, ℕ, ◌<◌, ◌≤◌, List, length, arith}
use Rattle.std.specs.List.{All}
use Rattle.std.proofs.lemmas.List.FromFn.{length-range_with_len}
use Rattle.dsa_terms.specs.Buffers.{Instance, buffer, is_live}
use Rattle.dsa_terms.specs.Parts.{numbers}
use Rattle.dsa_terms.proofs.Lists.{length-filter_le}
use Rattle.dsa_terms.proofs.Places.{all_from_in}
use Rattle.dsa_model.specs.Buffer.{buffer_limit}
use Rattle.lifetime.specs.SectionList.{AreSectionsOf, SectionList, count_of, live_at, members_of, start_of}
use Rattle.lifetime.proofs.Belonging.{from_live}

pub members_in_range : (I : Instance) (S : SectionList) (s : ℕ) (members : List ℕ) → AreSectionsOf I S →
    s < count_of S → members ≡ members_of S s → All (λ b. b < length I) members
members_in_range I S s members a lt e = rw (e, a.live s lt)
    (all_from_in (λ b. b < length I) (live_at I (start_of S s)) (λ b i. (from_live I (start_of S s) b i).0))

pub live_few : (I : Instance) (t : ℕ) → length (live_at I t) ≤ length I
unfolding live_at
live_few I t =
    let k = length-filter_le (λ b. is_live (buffer I b) t) (numbers (length I)) in
    let n : length (numbers (length I)) ≡ length I = length-range_with_len 0 (length I) in
    omega arith

pub few_members : (I : Instance) (S : SectionList) (s : ℕ) (members : List ℕ) → AreSectionsOf I S → s < count_of S →
    members ≡ members_of S s → length I ≤ buffer_limit → length members ≤ buffer_limit
few_members I S s members a lt e few = rw (e, a.live s lt) (let k = live_few I (start_of S s) in omega arith)
