-- Sections that are too full.
use Rattle.std.specs.Prelude.{ℕ, ◌+◌, ◌≤◌, ◌==◌, Bool, cond, nat_lt, min, List, [], ◌∷◌, map, Option}
use Rattle.std.specs.declared.option.Option.TheVariants.{Some, None}
use Rattle.std.specs.List.{filter, list_any, sum_by}
use Rattle.dsa_terms.specs.Buffers.{Instance, buffer}
use Rattle.dsa_terms.specs.Claims.{Claim, Entry, up}
use Rattle.dsa_terms.specs.Parts.{numbers}
use Rattle.dsa_terms.specs.Search.{first_some}
use Rattle.lifetime.specs.SectionList.{count_of, start_of, members_of, SectionList}
use Rattle.canonical_order.specs.Claims.{entry_of}

-- whether b is in the claim
unfoldable pub is_left : Claim → ℕ → Bool
is_left l b = list_any (λ (e : Entry). e.0 == b) l

-- the sum of the sizes of the members of section s that are in the claim
unfoldable pub free_load : Instance → SectionList → Claim → ℕ → ℕ
free_load I S l s = sum_by (λ b. (buffer I b).size) (filter (is_left l) (members_of S s))

-- the lesser of a number and one that may be there
abbrev pub lower : ℕ → Option ℕ → Option ℕ
lower x None = Some x
lower x (Some y) = Some (min x y)

-- the least of the numbers, and none for no numbers
abbrev pub least_of : List ℕ → Option ℕ
least_of [] = None
least_of (x ∷ xs) = lower x (least_of xs)

-- the least up of the members of section s that are in the claim, and none where none is
unfoldable pub least_up : Instance → SectionList → Claim → ℕ → Option ℕ
least_up I S l s = least_of (map (λ b. up I (entry_of l b)) (filter (is_left l) (members_of S s)))

-- the start and the height, where the load on top of the height passes C
abbrev pub over_at : ℕ → ℕ → ℕ → Option ℕ → Option (ℕ × ℕ)
over_at start load C None = None
over_at start load C (Some H) = cond (nat_lt C (H + load)) (Some (start, H)) None

-- where there is a height, the load on top of it does not pass C
abbrev pub FitsFrom : ℕ → ℕ → Option ℕ → Type 0
FitsFrom load C None = Unit {0}
FitsFrom load C (Some H) = H + load ≤ C

-- the start of section s and the least up of its members that are in the claim, where their sizes on top of it pass C
unfoldable pub over : Instance → SectionList → Claim → ℕ → ℕ → Option (ℕ × ℕ)
over I S l C s = over_at (start_of S s) (free_load I S l s) C (least_up I S l s)

-- the start and the least up of the earliest section whose members in the claim pass C on top of that up
unfoldable pub overloaded : Instance → SectionList → Claim → ℕ → Option (ℕ × ℕ)
overloaded I S l C = first_some (over I S l C) (numbers (count_of S))
