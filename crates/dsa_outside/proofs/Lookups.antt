-- What is held after a write, name by name.
use Rattle.std.proofs.Common.{◌≡◌, ◌≢◌, ℕ, cond, false, List, Option, None, Some, IsSome, refl, ap, ◌∙◌, rules}
use Rattle.std.specs.declared.cmp.Ordering.TheVariants.{Less, Equal, Greater}
use Rattle.std.specs.Ordering.{nat_cmp, is_eq, eq_by_cmp}
use Rattle.std.specs.Cmp.Lexicographic.{slice_cmp, nat_list_cmp_total}
use Rattle.std.specs.FinMap.{get, insert, gets, get-insert, nat_cmp-IsAntisymmetric, slice_cmp-IsAntisymmetric}
use Rattle.dsa_outside.specs.Held.{FileMap, file_at, with_file}

-- the name that was set holds the new bytes
get-insert_same : (m : FileMap) (name bytes : List ℕ) → get (insert m name bytes) name ≡ Some bytes
get-insert_same m name bytes = grind (gets, rules)

-- different names compare as different
differ : (x y : List ℕ) → x ≢ y → eq_by_cmp (slice_cmp nat_cmp) x y ≡ false
differ x y ne = elim (slice_cmp nat_cmp x y) as (λ o. slice_cmp nat_cmp x y ≡ o → is_eq o ≡ false) [
  | Less ↦ λ _. refl
  | Equal ↦ λ e. absurd (ne (slice_cmp-IsAntisymmetric nat_cmp-IsAntisymmetric x y e))
  | Greater ↦ λ _. refl
] refl

-- another name holds what it held
get-insert_other : (m : FileMap) (name bytes other : List ℕ) → other ≢ name
    → get (insert m name bytes) other ≡ get m other
get-insert_other m name bytes other ne =
    get-insert nat_list_cmp_total m name bytes other
    ∙ ap (λ b. cond b (Some bytes) (get m other)) (differ other name ne)

-- after a write, that name holds the bytes
pub file_at-with_file : (held : Option FileMap) (name bytes : List ℕ) → IsSome held
    → file_at (with_file held name bytes) name ≡ Some bytes
file_at-with_file None name bytes told = absurd (cc)
file_at-with_file (Some m) name bytes told = get-insert_same m name bytes

-- after a write, another name holds what it held
pub file_at-with_other : (held : Option FileMap) (name bytes other : List ℕ) → other ≢ name
    → file_at (with_file held name bytes) other ≡ file_at held other
file_at-with_other None name bytes other ne = refl
file_at-with_other (Some m) name bytes other ne = get-insert_other m name bytes other ne
