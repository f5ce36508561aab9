-- What is known of a claim some of whose choices are tried.
use Rattle.std.specs.Prelude.{◌≡◌, ℕ, ◌+◌, Option, is_some, None, List, [], ◌++◌, map, ◌≢◌}
use Rattle.dsa_terms.specs.Buffers.{Instance}
use Rattle.dsa_terms.specs.Claims.{Claim, Entry, IsIn, child}
use Rattle.dsa_terms.specs.Logs.{Line}
use Rattle.dsa_terms.specs.Search.{choices, first, first_some, not_excluded, seated, work, work_through}
use Rattle.canonical_order.specs.Claims.{entry_of}
use Rattle.line_index.specs.Covered.{IsCoveredBy, NoneCovers}
use Rattle.branching.specs.declared.notes.Refuted.{Refuted}
use Rattle.branching.specs.Cites.{IsChildCovered}
use Rattle.branching.specs.Tries.{Tried, rest_of}

-- the layout of the claim with that entry first
abbrev pub try_of : Instance → ℕ → Claim → Entry → Option (List Entry)
try_of I C l e = seated I l e (first I C (child I l e))

-- how many claims the search looks at below the claim, where these entries are its choices
unfoldable pub through : Instance → ℕ → Claim → List Entry → ℕ
through I C l es = work_through (λ e. work I C (child I l e)) (λ e. is_some (first I C (child I l e))) es

-- the buffer of a refuted choice
abbrev pub refuted_buffer : Refuted → ℕ
refuted_buffer r = r.buffer

-- the choices are those of the claim, in order; the first of them are refuted, each by a line, and the claim's first
-- layout is the one that the others give
pub record IsTrying (I : Instance) (C : ℕ) (lines : List Line) (l : Claim) (f : Tried) : Type 0 where
  pub order : map (entry_of l) f.order ≡ choices I (not_excluded I) l
  pub noted : f.order ≡ map refuted_buffer f.refuted ++ rest_of f
  pub covered : (r : Refuted) → IsIn r f.refuted → IsChildCovered I lines l r
  pub left : first I C l ≡ first_some (try_of I C l) (map (entry_of l) (rest_of f))

-- the claim has no layout, and the line of that number covers it
pub record IsKnown (I : Instance) (C : ℕ) (lines : List Line) (l : Claim) (k : ℕ) : Type 0 where
  pub none : first I C l ≡ None
  pub covered : IsCoveredBy I lines l k

-- the choices of a claim that has some buffers: they decide its layout, and its work but for itself; no line covers it
pub record AreChoices (I : Instance) (C : ℕ) (lines : List Line) (l : Claim) (f : Tried) : Type 0 where
  pub not_empty : l ≢ []
  pub fresh : NoneCovers I lines l
  pub trying : IsTrying I C lines l f
  pub work : work I C l ≡ 1 + through I C l (map (entry_of l) (rest_of f))
