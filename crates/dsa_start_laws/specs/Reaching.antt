-- What reaches the lower bound: a stack, and the moment and the height that its log names.
use Rattle.std.specs.Prelude.{◌≡◌, ◌<◌, ℕ, ◌==◌, List, length}
use Rattle.std.specs.List.{filter, find}
use Rattle.std.specs.Option.{unwrap_or}
use Rattle.dsa_terms.specs.Buffers.{Instance, buffer, IsLive}
use Rattle.dsa_terms.specs.Claims.{IsIn}
use Rattle.dsa_terms.specs.Bounds.{stack, moduli, heights, highest_at, lower_bound, least_of, bound_modulus}

-- a modulus and a height in question and a moment at which the stack is so high
pub record IsReached (I : Instance) (value : ℕ) : Type 0 where
  pub modulus : ℕ
  pub moment : ℕ
  pub height : ℕ
  pub among : IsIn modulus (moduli I)
  pub from : IsIn height (heights I modulus)
  pub reached : value ≡ stack I moment height modulus

-- the first of the given moments, the starts of sections, at which that modulus reaches it, and 0 where none does
unfoldable pub bound_moment : Instance → List ℕ → ℕ
bound_moment I starts = unwrap_or (find (λ t. highest_at I t (bound_modulus I) == lower_bound I) starts) 0

-- the least height that reaches it with that modulus at that moment
unfoldable pub bound_height : Instance → List ℕ → ℕ
bound_height I starts =
    least_of
    (filter (λ H. stack I (bound_moment I starts) H (bound_modulus I) == lower_bound I) (heights I (bound_modulus I))) 0

-- for each moment at which something is live there is a given one, as the start of a section, with all of its buffers
abbrev pub HasSections : Instance → List ℕ → Type 0
HasSections I starts =
    (t b : ℕ) → b < length I → IsLive (buffer I b) t →
    (s : ℕ) × IsIn s starts × ((c : ℕ) → c < length I → IsLive (buffer I c) t → IsLive (buffer I c) s)
