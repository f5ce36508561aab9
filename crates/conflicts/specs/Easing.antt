-- What easing a line may change.
use Rattle.std.specs.Prelude.{◌≡◌, ℕ}
use Rattle.dsa_terms.specs.Buffers.{Instance}
use Rattle.dsa_terms.specs.Logs.{Line, Over, Cases}
use Rattle.conflicts.specs.Eased.{eased_over}

-- an Over line becomes the line of just the buffers that it stacks, from their least height above C on, and a Cases
-- line stays one
abbrev pub IsEasedFrom : Instance → ℕ → Line → Line → Type 0
IsEasedFrom I C (Over l T H G) eased = eased ≡ eased_over I C l T H G
IsEasedFrom I C (Cases l cites) (Over k T H G) = ⊥
IsEasedFrom I C (Cases l cites) (Cases k others) = Unit {0}
