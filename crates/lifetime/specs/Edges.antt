-- Edges: moments at which a lifetime or a gap begins or ends.
use Rattle.std.specs.Prelude.{◌≡◌, ◌≢◌, ℕ, ◌+◌, ◌*◌, ◌<◌, ◌≤◌, ◌↔◌, Bool, true, false, List, [], ◌∷◌, length, map, slice_index_or}
use Rattle.std.specs.List.{All, filter, flat_map}
use Rattle.std.specs.List.Sorted.{IsNonDecreasingBy}
use Rattle.dsa_terms.specs.Buffers.{Buffer, Instance, buffer}
use Rattle.dsa_terms.specs.Claims.{IsIn, Rises}
use Rattle.dsa_terms.specs.Parts.{has, numbers}
use Rattle.dsa_model.specs.Buffer.{gap_limit}
use Rattle.dsa_model.specs.Lists.{pair_at}
use Rattle.lifetime.specs.SectionList.{Section, live_at, no_section}
use Rattle.lifetime.specs.Runs.{BeginsRun, live_before, starts_of}
use Rattle.lifetime.specs.Stretches.{AreThinned}

-- the ends of the gaps
abbrev pub gap_ends : List (ℕ × ℕ) → List ℕ
gap_ends gaps = flat_map (λ (gap : ℕ × ℕ). gap.0 ∷ gap.1 ∷ []) gaps

-- the ends of a buffer's lifetime and of its gaps
abbrev pub edge_moments : Buffer → List ℕ
edge_moments b = b.lower ∷ b.upper ∷ gap_ends b.gaps

-- the same moments, each before the buffer's number
abbrev pub edges_of : Buffer → ℕ → List (ℕ × ℕ)
edges_of x b = map (λ t. (t, b)) (edge_moments x)

-- all edges of the instance stand there, and their moments never fall; each is of a buffer of the instance, and there
-- are at most two for each buffer and two for each gap that it may have
pub record AreEdges (I : Instance) (edges : List (ℕ × ℕ)) : Type 0 where
  pub sorted : IsNonDecreasingBy (λ (e : ℕ × ℕ). e.0) edges
  pub in_range : All (λ (e : ℕ × ℕ). e.1 < length I) edges
  pub complete : (b t : ℕ) → b < length I → IsIn t (edge_moments (buffer I b)) → IsIn (t, b) edges
  pub limit : length edges ≤ (2 + 2 * gap_limit) * length I

-- from this place on all edges are later than t, and before it none is
pub record IsAfter (edges : List (ℕ × ℕ)) (next t : ℕ) : Type 0 where
  pub within : next ≤ length edges
  pub passed : (k : ℕ) → k < next → (pair_at edges k).0 ≤ t
  pub later : (k : ℕ) → next ≤ k → k < length edges → t < (pair_at edges k).0

-- the edges from the first up to the next are those of one moment, the list has what is live then, and it is told
-- whether that is a change
pub record IsPassed (I : Instance) (edges : List (ℕ × ℕ)) (first next : ℕ) (changed : Bool) (live : List ℕ) : Type 0
  where
    pub after : IsAfter edges next (pair_at edges first).0
    pub later : first < next
    pub are : live ≡ live_at I (pair_at edges first).0
    pub same : changed ≡ false → live_at I (pair_at edges first).0 ≡ live_before I (pair_at edges first).0
    pub differs : changed ≡ true → live_at I (pair_at edges first).0 ≢ live_before I (pair_at edges first).0

-- each section has what is live at its start, and the starts are the moments before the given edge at which runs begin
pub record AreRunsBefore (I : Instance) (edges : List (ℕ × ℕ)) (next : ℕ) (sections : List Section) : Type 0 where
  pub each : (x : Section) → IsIn x sections → x.members ≡ live_at I x.start
  pub rise : Rises (starts_of sections)
  pub runs : (t : ℕ) → IsIn t (starts_of sections) ↔
      (BeginsRun I t × ((k : ℕ) → next ≤ k → k < length edges → t < (pair_at edges k).0))

-- the kept sections are what thinning leaves of the runs that begin before the given edge
pub record AreThinnedBefore (I : Instance) (edges : List (ℕ × ℕ)) (next : ℕ) (kept : List Section) : Type 0 where
  pub sections : List Section
  pub runs : AreRunsBefore I edges next sections
  pub thinned : AreThinned sections kept

-- the section has the buffer
abbrev pub has_member : Section → ℕ → Bool
has_member x b = has b x.members

-- the places of the sections that have the buffer
abbrev pub places_of : List Section → ℕ → List ℕ
places_of sections b = filter (λ s. has_member (slice_index_or sections s no_section) b) (numbers (length sections))
