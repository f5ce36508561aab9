-- What is found where a claim is opened.
use Rattle.std.specs.Prelude.{◌≡◌, ℕ, ⊤, Some, [], List, length}
use Rattle.dsa_terms.specs.Buffers.{Instance}
use Rattle.dsa_terms.specs.Claims.{Claim}
use Rattle.dsa_terms.specs.Logs.{Line}
use Rattle.dsa_terms.specs.Search.{first}
use Rattle.branching.specs.Tries.{order_of, untried}
use Rattle.branching.specs.Trying.{IsKnown, AreChoices}
use Rattle.search_core.specs.declared.opening.Opened.{Opened}
use Rattle.search_core.specs.declared.opening.Opened.TheVariants as opened

-- a line that covers the claim, that its choices decide it, or its layout where it has no buffer
abbrev pub IsOpened : Instance → ℕ → List Line → Claim → Opened → Type 0
IsOpened I C lines l (opened.Line k) = IsKnown I C lines l k
IsOpened I C lines l opened.Choices = AreChoices I C lines l (untried (order_of I l) (length lines))
IsOpened I C lines l opened.Empty = first I C l ≡ Some []

-- the fact holds where the choices have to be seen
abbrev pub IfChoices : Type 0 → Opened → Type 0
IfChoices P (opened.Line k) = ⊤
IfChoices P opened.Choices = P
IfChoices P opened.Empty = ⊤

-- how many claims are left to have a line: the one whose choices are to be tried
abbrev pub left_open : Opened → ℕ
left_open (opened.Line k) = 0
left_open opened.Choices = 1
left_open opened.Empty = 0
