-- Lists that are brought into an order.
use Rattle.std.specs.Prelude.{◌≡◌, true, ℕ, cond, ◌==◌, ◌||◌, ◌&&◌, nat_lt, Bool, List, [], ◌∷◌}
use Rattle.dsa_terms.specs.Claims.{IsIn}

-- b with the measure m comes before c with the measure n: m is smaller, or they are equal and b is
abbrev pub comes_first : (m n b c : ℕ) → Bool
comes_first m n b c = nat_lt m n || ((m == n) && nat_lt b c)

-- x put before the first of the list that it comes before
abbrev pub put_by : {X : Type 0} → (X → X → Bool) → X → List X → List X
put_by before x [] = x ∷ []
put_by before x (y ∷ ys) = cond (before x y) (x ∷ y ∷ ys) (y ∷ put_by before x ys)

-- a list brought into order
abbrev pub ordered_by : {X : Type 0} → (X → X → Bool) → List X → List X
ordered_by before [] = []
ordered_by before (x ∷ xs) = put_by before x (ordered_by before xs)

-- each one comes before all later ones
abbrev pub IsOrdered : {X : Type 0} → (X → X → Bool) → List X → Type 0
IsOrdered before [] = Unit {0}
IsOrdered {X} before (x ∷ xs) = ((y : X) → IsIn y xs → before x y ≡ true) × IsOrdered before xs
