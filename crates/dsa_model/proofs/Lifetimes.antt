-- Buffers one of which is gone before the other one begins.
use Rattle.std.proofs.Common.{◌≡◌, ◌≤◌, ◌⊎◌, inl, inr, ℕ, Bool, true, false, refl, arith}
use Rattle.dsa_terms.specs.Buffers.{Buffer, do_share, is_live}
use Rattle.dsa_terms.proofs.Moments.{do_share-gives, live_at_or_after, live_before}
use Rattle.dsa_model.specs.Moments.{are_live}

-- the one ends before the other begins, whichever comes first
abbrev pub AreApartInTime : Buffer → Buffer → Type 0
AreApartInTime b c = (b.upper ≤ c.lower) ⊎ (c.upper ≤ b.lower)

never_both : (b c : Buffer) (t : ℕ) → AreApartInTime b c → is_live b t ≡ true → is_live c t ≡ true → ⊥
never_both b c t (inl le) p q =
    let x = live_before b t p in let y = live_at_or_after c t q in omega (arith, le, x, y)
never_both b c t (inr le) p q =
    let x = live_before c t q in let y = live_at_or_after b t p in omega (arith, le, x, y)

pub apart_are_not_live : (b c : Buffer) (t : ℕ) → AreApartInTime b c → are_live b c t ≡ false
apart_are_not_live b c t apart = go (is_live b t) (is_live c t) refl refl
  where
    go : (p q : Bool) → is_live b t ≡ p → is_live c t ≡ q → are_live b c t ≡ false
    go false q e f = rw e refl
    go true false e f = rw (e, f) refl
    go true true e f = absurd (never_both b c t apart e f)

pub apart_do_not_share : (b c : Buffer) → AreApartInTime b c → false ≡ do_share b c
apart_do_not_share b c apart = go (do_share b c) refl
  where
    go : (t : Bool) → do_share b c ≡ t → false ≡ t
    go false e = refl
    go true e = let s = do_share-gives b c e in absurd (never_both b c s.0 apart s.1 s.2)
