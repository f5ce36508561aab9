-- Logs without waste.
use Rattle.std.specs.Prelude.{◌≡◌, ℕ, ◌-◌, ◌<◌, ◌⊎◌, true, List, map, slice_get, take, ◌||◌}
use Rattle.std.specs.declared.option.Option.TheVariants.{Some}
use Rattle.std.specs.List.{list_any, AllZip}
use Rattle.dsa_terms.specs.Buffers.{Instance, buffer, IsLive}
use Rattle.dsa_terms.specs.Claims.{Claim, Entry, IsIn, Covers}
use Rattle.dsa_terms.specs.Logs.{Cite, ByLine, Below, Twin, Line, Over, Cases, claim_of, IsLegal, Log, ends_below, is_twin}
use Rattle.dsa_terms.specs.Parts.{are_uncut}

-- a below or a twin cite
abbrev pub IsOwnCite : Cite → Type 0
IsOwnCite (ByLine k) = ⊥
IsOwnCite (Below c) = Unit {0}
IsOwnCite (Twin c) = Unit {0}

-- where another entry ends below this one or a twin stands before it, its cite is a below or a twin cite
abbrev pub CitesOwn : Instance → Claim → Entry → Cite → Type 0
CitesOwn I l e cite = (list_any (λ f. ends_below I f e) l || list_any (λ f. is_twin I f e) l) ≡ true → IsOwnCite cite

-- an Over line's buffers are live at T with the bound H, and one modulus lower it would not be legal
pub record IsLeanOver (I : Instance) (C : ℕ) (earlier : List Line) (l : Claim) (T H G : ℕ) : Type 0 where
  pub live : (e : Entry) → IsIn e l → IsLive (buffer I e.0) T
  pub bounds : (e : Entry) → IsIn e l → e.1 ≡ H
  pub lowest : (H ≡ 0) ⊎ (IsLegal I C earlier (Over (map (λ e. (e.0, H - G)) l) T (H - G) G) → ⊥)

-- an Over line as low as it can be, or a Cases line that cites below and twin wherever it can
abbrev pub IsLeanLine : Instance → ℕ → List Line → Line → Type 0
IsLeanLine I C earlier (Over l T H G) = IsLeanOver I C earlier l T H G
IsLeanLine I C earlier (Cases l cites) = AllZip (CitesOwn I l) l cites

-- no line is covered by an earlier one, each line is lean, and no cut lies between any two buffers of its claims
pub record IsLean (I : Instance) (log : Log) : Type 0 where
  pub uncovered : (j k : ℕ) (earlier line : Line) → j < k →
      slice_get log.lines j ≡ Some earlier → slice_get log.lines k ≡ Some line →
      Covers I (claim_of earlier) (claim_of line) → ⊥
  pub lean : (k : ℕ) (line : Line) → slice_get log.lines k ≡ Some line →
      IsLeanLine I log.capacity (take k log.lines) line
  pub one_part : (j k : ℕ) (other line : Line) (e f : Entry) →
      slice_get log.lines j ≡ Some other → slice_get log.lines k ≡ Some line →
      IsIn e (claim_of other) → IsIn f (claim_of line) → are_uncut I e.0 f.0 ≡ true
