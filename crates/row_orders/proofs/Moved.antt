-- Layouts of buffers under other numbers.
use Rattle.std.proofs.Common.{◌≡◌, ◌≢◌, ℕ, ◌+◌, ◌<◌, ◌≤◌, List, length, map, slice_index, arith}
use Rattle.dsa_terms.specs.Buffers.{Instance, IsLive, buffer}
use Rattle.dsa_terms.specs.Layouts.{IsApart, IsLayout, IsMultiple}
use Rattle.dsa_terms.specs.Parts.{numbers}
use Rattle.dsa_terms.specs.Plans.{layout_height}
use Rattle.dsa_terms.proofs.Lists.{from_map, greatest_under}
use Rattle.dsa_terms.proofs.Ranges.{below}
use Rattle.dsa_search_laws.proofs.Plans.{under_layout_height}

-- each buffer of J, with its offset in `new`, is one of I, with its offset in `old`; no two are the same one
pub record AreMoved (I J : Instance) (to : ℕ → ℕ) (old new : List ℕ) : Type 0 where
  pub count : length new ≡ length J
  pub there : (i : ℕ) → i < length J → to i < length I
  pub differ : (i j : ℕ) → i < length J → j < length J → i ≢ j → to i ≢ to j
  pub alike : (i : ℕ) → i < length J → buffer I (to i) ≡ buffer J i
  pub moved : (i : ℕ) → i < length J → slice_index old (to i) ≡ slice_index new i

pub moved_layout : (I J : Instance) (to : ℕ → ℕ) (C : ℕ) (old new : List ℕ) → AreMoved I J to old new →
    IsLayout I C old → IsLayout J C new
moved_layout I J to C old new m l = record {
  count = m.count;
  aligned = aligned;
  above = above;
  within = within;
  apart = apart;
}
  where
    aligned : (i : ℕ) → i < length J → IsMultiple (slice_index new i) (buffer J i).alignment
    aligned i lt = let k = l.aligned (to i) (m.there i lt) in rw (m.alike i lt, m.moved i lt) at k

    above : (i : ℕ) → i < length J → (buffer J i).lowest ≤ slice_index new i
    above i lt = let k = l.above (to i) (m.there i lt) in rw (m.alike i lt, m.moved i lt) at k

    within : (i : ℕ) → i < length J → slice_index new i + (buffer J i).size ≤ C
    within i lt = let k = l.within (to i) (m.there i lt) in rw (m.alike i lt, m.moved i lt) at k

    apart : (i j t : ℕ) → i < length J → j < length J → i ≢ j → IsLive (buffer J i) t → IsLive (buffer J j) t →
        IsApart (buffer J i) (slice_index new i) (buffer J j) (slice_index new j)
    apart i j t li lj ne p q =
        let k = l.apart (to i) (to j) t (m.there i li) (m.there j lj) (m.differ i j li lj ne)
        (rw (m.alike i li) p) (rw (m.alike j lj) q) in
        rw (m.alike i li, m.alike j lj, m.moved i li, m.moved j lj) at k

pub moved_height : (I J : Instance) (to : ℕ → ℕ) (old new : List ℕ) → AreMoved I J to old new →
    layout_height J new ≤ layout_height I old
unfolding layout_height
moved_height I J to old new m =
    greatest_under (map (λ b. slice_index new b + (buffer J b).size) (numbers (length J))) (layout_height I old) (λ x i.
    let r = from_map (λ b. slice_index new b + (buffer J b).size) (numbers (length J)) x i in
    let lt = below (length J) r.0 r.1 in
    let k = under_layout_height I old (to r.0) (m.there r.0 lt) in
    let z : slice_index new r.0 + (buffer J r.0).size ≤ layout_height I old =
    rw (m.alike r.0 lt, m.moved r.0 lt) at k in
    let e = r.2 in omega arith)
