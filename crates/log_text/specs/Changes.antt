-- Claims as differences: the changes that lead from one claim to another, and what they make of a claim.
use Rattle.std.specs.Prelude.{ℕ, Bool, ◌==◌, ◌&&◌, ◌≢◌, cond, nat_lt, List, [], ◌∷◌, ◌++◌, map, All}
use Rattle.std.specs.List.{filter, list_any}
use Rattle.dsa_terms.specs.Claims.{Claim, Entry, IsIn, buffers_of}

-- a change of a claim: a buffer with its bound, which is added or gets another one, or a buffer that is dropped
pub data Change : Type 0 where
  Puts : (e : Entry) → Change
  Drops : (b : ℕ) → Change

-- the buffer that is changed
abbrev pub buffer_of : Change → ℕ
buffer_of (Puts e) = e.0
buffer_of (Drops b) = b

-- what the change leaves at its buffer
abbrev pub left_by : Change → Claim
left_by (Puts e) = e ∷ []
left_by (Drops b) = []

-- the entries of buffers below b
abbrev pub below : ℕ → Claim → Claim
below b l = filter (λ e. nat_lt e.0 b) l

-- the entries of buffers above b
abbrev pub above : ℕ → Claim → Claim
above b l = filter (λ e. nat_lt b e.0) l

-- the claim with rising changes carried out: what is below the first changed buffer stays, then comes what the change
-- leaves, then what is above it, with the other changes carried out
abbrev pub carried_out : Claim → List Change → Claim
carried_out l [] = l
carried_out l (c ∷ cs) = below (buffer_of c) l ++ (left_by c ++ carried_out (above (buffer_of c) l) cs)

-- the change drops a buffer that the claim has, or gives one a bound that it does not have there
abbrev pub DoesChange : Claim → Change → Type 0
DoesChange l (Puts e) = IsIn e l → ⊥
DoesChange l (Drops b) = IsIn b (buffers_of l)

-- each change changes the claim, and some buffer is left
pub record AreChanges (l : Claim) (changes : List Change) : Type 0 where
  pub each : All (DoesChange l) changes
  pub some : carried_out l changes ≢ []

-- the claim has that buffer with that bound
abbrev pub has_entry : Entry → Claim → Bool
has_entry e l = list_any (λ f. (f.0 == e.0) && (f.1 == e.1)) l

-- the rising changes that lead from one claim to another: what the other has not is dropped, and what the one has not
-- is put in
abbrev pub difference : Claim → Claim → List Change
difference l [] = map (λ e. Drops e.0) l
difference l (f ∷ m) =
    map (λ e. Drops e.0) (below f.0 l) ++ (cond (has_entry f l) [] (Puts f ∷ []) ++ difference (above f.0 l) m)
