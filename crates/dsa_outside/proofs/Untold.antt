-- What files and sinks say that tell nothing of their content.
use Rattle.std.proofs.Common.{◌≡◌, ℕ, ◌-◌, ◌^◌, ◌<◌, ◌≤◌, ◌⊎◌, inl, inr, List, None, Result, Ok, Err, IfOk, OnOk, Vec, arith}
use Rattle.std.specs.declared.alloc.Global.{Global}
use Rattle.dsa_outside.specs.Held.{IsReadOf}
use Rattle.dsa_model.specs.Counts.{Rose, one_more}

-- the count rose where it is one more
pub rose_by_one : (before now : ℕ) → now ≡ one_more before → Rose before now
rose_by_one before now is = elim (below_the_end before) [
  | inl lt ↦ inl (omega (arith, is, lt))
  | inr end ↦ inr (omega (arith, is, end))
]
  where
    below_the_end : (n : ℕ) → (n < 2 ^ 64 - 1) ⊎ (2 ^ 64 - 1 ≤ n)
    below_the_end n = grind arith

-- what holds, holds after a success
pub on_ok : {T E : Type 0} (r : Result T E) (P : Type 0) → P → OnOk r P
on_ok (Ok v) P p = p
on_ok (Err e) P p = tt

-- of files that are not told, any bytes are read
pub reads_untold : {E : Type 0} (r : Result (Vec ℕ Global) E) (name : List ℕ) (most : ℕ)
    → IfOk r (λ bytes. IsReadOf None name most bytes.items)
reads_untold (Ok v) name most = λ told. absurd (cc)
reads_untold (Err e) name most = tt
