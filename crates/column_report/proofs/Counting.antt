-- Buffers, counted one after another.
use Rattle.std.proofs.Common.{◌≡◌, ◌<◌, ◌+◌, ◌==◌, ℕ, Bool, true, false, not, nat_lt, cond, List, [], ◌∷◌, length, take, count_by, refl, sym, ap, ◌∙◌, suc, arith}
use Rattle.std.proofs.lemmas.Bool.Decides.{nat_tests}
use Rattle.std.proofs.lemmas.List.Sums.{sum_by_more}
use Rattle.std.specs.Int.{from_bool}
use Rattle.dsa_terms.specs.Buffers.{Buffer, Instance, buffer, no_buffer}
use Rattle.dsa_terms.specs.Parts.{is_empty}

-- one buffer more
pub counted : (f : Buffer → Bool) (I : Instance) (b n more : ℕ) (x : Buffer) → b < length I → x ≡ buffer I b →
    n ≡ count_by f (take b I) → more ≡ cond (f x) 1 0 → n + more ≡ count_by f (take (b + 1) I)
unfolding buffer
counted f I b n more x lt is so m =
    let step = sum_by_more (λ y. cond (f y) 1 0) I b no_buffer lt in rw (so, m, is) (sym step)

byte : (b : Bool) → from_bool b ≡ cond b 1 0
byte true = refl
byte false = refl

-- a number above a least one counts as 1
pub number_told : (k told n m : ℕ) → told ≡ from_bool (nat_lt k n) → n ≡ m → told ≡ cond (nat_lt k m) 1 0
number_told k told n m t e = t ∙ rw e (byte (nat_lt k m))

not_zero : (n : ℕ) → (suc n == 0) ≡ false
not_zero n = grind (arith, nat_tests)

some_gap : (gaps : List (ℕ × ℕ)) → not (length gaps == 0) ≡ not (is_empty gaps)
some_gap [] = refl
some_gap (g ∷ gaps) = ap not (not_zero (length gaps))

-- some gaps count as 1
pub gaps_told : (x : Buffer) (told : ℕ) (none : Bool) (gaps : List (ℕ × ℕ)) → told ≡ from_bool (not none) →
    none ≡ (length gaps == 0) → gaps ≡ x.gaps → told ≡ cond (not (is_empty x.gaps)) 1 0
gaps_told x told none gaps t n e = t ∙ (rw (n, e) (byte (not (length x.gaps == 0)) ∙ rw (some_gap x.gaps) refl))
