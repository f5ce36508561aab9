-- The moments at which a lifetime with gaps is live.
use Rattle.std.proofs.Common.{◌≡◌, ℕ, zero, suc, ◌<◌, ◌≤◌, ◌⊎◌, inl, inr, Bool, true, false, not, ◌||◌, ◌&&◌, nat_le, nat_lt, refl, ap, sym, arith}
use Rattle.std.proofs.lemmas.Bool.Decides.{nat_tests}
use Rattle.std.specs.List.{list_any}
use Rattle.dsa_terms.specs.Buffers.{Buffer, is_live, is_within, some_before, do_share}
use Rattle.dsa_model.specs.Buffer.{is_ever_live}
use Rattle.dsa_model.specs.Moments.{IsLeastFrom}
use Rattle.dsa_terms.proofs.Moments.{live_before, and_true}

-- live from the three tests, and not live from one that fails
pub live_from : (b : Buffer) (t : ℕ) → b.lower ≤ t → t < b.upper → list_any (is_within t) b.gaps ≡ false →
    is_live b t ≡ true
unfolding is_live
live_from b t le lt h = go (list_any (is_within t) b.gaps) h
  where
    go : (c : Bool) → c ≡ false → (nat_le b.lower t && nat_lt t b.upper && not c) ≡ true
    go true h = absurd cc
    go false h = grind (arith, nat_tests)

pub not_live_before : (b : Buffer) (t : ℕ) → t < b.lower → is_live b t ≡ false
unfolding is_live
not_live_before b t lt = go (not (list_any (is_within t) b.gaps))
  where
    go : (c : Bool) → (nat_le b.lower t && nat_lt t b.upper && c) ≡ false
    go c = grind (arith, nat_tests)

pub not_live_after : (b : Buffer) (t : ℕ) → b.upper ≤ t → is_live b t ≡ false
unfolding is_live
not_live_after b t le = go (not (list_any (is_within t) b.gaps))
  where
    go : (c : Bool) → (nat_le b.lower t && nat_lt t b.upper && c) ≡ false
    go c = grind (arith, nat_tests)

-- ---- two buffers
pub not_both : (p q : Bool) → p ≡ false → (p && q) ≡ false
not_both true q h = absurd cc
not_both false q h = refl

pub nor_both : (p q : Bool) → q ≡ false → (p && q) ≡ false
nor_both true q h = h
nor_both false q h = refl

pub both_live : (p q : Bool) → p ≡ true → q ≡ true → (p && q) ≡ true
both_live true q h k = k
both_live false q h k = absurd cc

-- ---- live at some moment
pub some_from : (n t : ℕ) (test : ℕ → Bool) → t < n → test t ≡ true → some_before n test ≡ true
unfolding some_before
some_from zero t test lt h = absurd (omega arith)
some_from (suc n) t test lt h = go (test n) refl (some_before n test) (λ k. some_from n t test k h) (last t n lt)
  where
    last : (t n : ℕ) → t < suc n → (t ≡ n) ⊎ (t < n)
    last t n lt = grind arith

    go : (b : Bool) → test n ≡ b → (c : Bool) → (t < n → c ≡ true) → (t ≡ n) ⊎ (t < n) → (b || c) ≡ true
    go true e c ih k = refl
    go false e c ih (inl k) = absurd (let m : test t ≡ test n = ap test k in cc)
    go false e c ih (inr k) = ih k

pub none_from : (n : ℕ) (test : ℕ → Bool) → ((t : ℕ) → test t ≡ false) → some_before n test ≡ false
unfolding some_before
none_from zero test h = refl
none_from (suc n) test h = rw (h n) (none_from n test h)

pub is_ever : (b : Buffer) (t : ℕ) → is_live b t ≡ true → is_ever_live b ≡ true
unfolding is_ever_live
is_ever b t h = some_from b.upper t (is_live b) (live_before b t h) h

pub is_never : (b : Buffer) → ((t : ℕ) → 0 ≤ t → is_live b t ≡ false) → is_ever_live b ≡ false
unfolding is_ever_live
is_never b h = none_from b.upper (is_live b) (λ t. h t (omega arith))

-- what `first_common` answers
pub never_common : (b c : Buffer) → ((t : ℕ) → (is_live b t && is_live c t) ≡ false) →
    record { moment : (t : ℕ) → 0 ≤ t → (is_live b t && is_live c t) ≡ false; shared : false ≡ do_share b c }
unfolding do_share
never_common b c h =
    record { moment = λ t k. h t; shared = sym (none_from b.upper (λ t. is_live b t && is_live c t) h) }

pub common_at : (b c : Buffer) (t : ℕ) → IsLeastFrom (λ t. is_live b t && is_live c t) 0 t →
    record { moment : IsLeastFrom (λ t. is_live b t && is_live c t) 0 t; shared : true ≡ do_share b c }
unfolding do_share
common_at b c t h = record {
  moment = h;
  shared =
      sym (some_from b.upper t (λ t. is_live b t && is_live c t) (live_before b t (and_true _ _ h.holds).0) h.holds);
}
