-- Logs: lines, each of which refutes its claim.
use Rattle.std.specs.Prelude.{◌≡◌, ℕ, ◌+◌, ◌-◌, ◌%◌, ◌<◌, ◌≤◌, ◌≢◌, Bool, true, not, ◌==◌, ◌&&◌, nat_le, nat_lt, max, List, [], ◌∷◌, map, length, slice_get, take}
use Rattle.std.specs.declared.option.Option.TheVariants.{Some}
use Rattle.std.specs.List.{filter, sum_by, AllZip}
use Rattle.std.specs.Int.{next_multiple_of}
use Rattle.dsa_terms.specs.Buffers.{Instance, buffer, is_live, have_same_moments}
use Rattle.dsa_terms.specs.Layouts.{IsMultiple}
use Rattle.dsa_terms.specs.Claims.{Claim, Entry, IsIn, IsClaim, up, child, Covers, IsWhole}

-- the entry's buffer is live at moment T, cannot start below H, and has an alignment that is a multiple of G
unfoldable pub is_stacked : Instance → ℕ → ℕ → ℕ → Entry → Bool
is_stacked I T H G e = is_live (buffer I e.0) T && nat_le H (up I e) && ((buffer I e.0).alignment % G == 0)

-- the size of its buffer, rounded up to a multiple of G
unfoldable pub rounded : Instance → ℕ → Entry → ℕ
rounded I G e = next_multiple_of (buffer I e.0).size G

-- what that rounding adds to the size
unfoldable pub rounding : Instance → ℕ → Entry → ℕ
rounding I G e = rounded I G e - (buffer I e.0).size

-- the greatest of the numbers, and 0 for none
abbrev pub greatest : List ℕ → ℕ
greatest [] = 0
greatest (x ∷ xs) = max x (greatest xs)

-- the entries of the claim that are stacked
abbrev pub stacked : Instance → Claim → ℕ → ℕ → ℕ → Claim
stacked I l T H G = filter (is_stacked I T H G) l

-- H with the sizes of a stack rounded up to G, less the greatest single rounding: where the stack ends, at least
abbrev pub stack_height : Instance → ℕ → ℕ → Claim → ℕ
stack_height I H G stack = H + sum_by (rounded I G) stack - greatest (map (rounding I G) stack)

-- some entry is stacked, and the stack ends above C
pub record IsOver (I : Instance) (C T H G : ℕ) (l : Claim) : Type 0 where
  pub modulus : 1 ≤ G
  pub from_multiple : IsMultiple H G
  pub some_stacked : stacked I l T H G ≢ []
  pub too_high : C < stack_height I H G (stacked I l T H G)

-- the buffer of f, put at its up, ends at or below the up of e
unfoldable pub ends_below : Instance → Entry → Entry → Bool
ends_below I f e = not (f.0 == e.0) && nat_le (up I f + (buffer I f.0).size) (up I e)

-- the buffer of f is like that of e, has the smaller number, and an up that is no higher
unfoldable pub is_twin : Instance → Entry → Entry → Bool
is_twin I f e =
    nat_lt f.0 e.0 && have_same_moments (buffer I f.0) (buffer I e.0) && ((buffer I f.0).size == (buffer I e.0).size)
    && ((buffer I f.0).alignment == (buffer I e.0).alignment) && nat_le (up I f) (up I e)

-- why a buffer need not come first: an earlier line, another buffer below it, or a twin
pub data Cite : Type 0 where
  ByLine : (line : ℕ) → Cite
  Below : (other : ℕ) → Cite
  Twin : (other : ℕ) → Cite

-- a line: its claim with how it is refuted, by one stack or by a cite for each of its buffers
pub data Line : Type 0 where
  Over : (claim : Claim) (moment height modulus : ℕ) → Line
  Cases : (claim : Claim) (cites : List Cite) → Line

-- the claim of a line
abbrev pub claim_of : Line → Claim
claim_of (Over l T H G) = l
claim_of (Cases l cites) = l

-- a cite is legal for entry e of claim l: that line covers the child, that buffer ends below e, or that one is a twin
abbrev pub IsLegalCite : Instance → List Line → Claim → Entry → Cite → Type 0
IsLegalCite I earlier l e (ByLine k) =
    (line : Line) × (slice_get earlier k ≡ Some line) × Covers I (claim_of line) (child I l e)
IsLegalCite I earlier l e (Below c) = (f : Entry) × IsIn f l × (f.0 ≡ c) × (ends_below I f e ≡ true)
IsLegalCite I earlier l e (Twin c) = (f : Entry) × IsIn f l × (f.0 ≡ c) × (is_twin I f e ≡ true)

-- what a line says of its claim: the stack is over, or each entry has one legal cite
abbrev pub IsLegalReason : Instance → ℕ → List Line → Line → Type 0
IsLegalReason I C earlier (Over l T H G) = IsOver I C T H G l
IsLegalReason I C earlier (Cases l cites) = AllZip (IsLegalCite I earlier l) l cites

-- a line is legal after the earlier ones
pub record IsLegal (I : Instance) (C : ℕ) (earlier : List Line) (line : Line) : Type 0 where
  pub claim : IsClaim I (claim_of line)
  pub not_empty : claim_of line ≢ []
  pub reason : IsLegalReason I C earlier line

-- a log: how many buffers, the capacity, the lines, and the number of the line that is its end
pub record Log : Type 0 where
  pub count : ℕ
  pub capacity : ℕ
  pub lines : List Line
  pub final : ℕ

-- a log is accepted for an instance: its count is right, each line is legal, and its end's claim is whole
pub record IsAccepted (I : Instance) (log : Log) : Type 0 where
  pub same_count : log.count ≡ length I
  pub legal : (k : ℕ) (line : Line) → slice_get log.lines k ≡ Some line → IsLegal I log.capacity (take k log.lines) line
  pub whole : (line : Line) × (slice_get log.lines log.final ≡ Some line) × IsWhole I (claim_of line)
