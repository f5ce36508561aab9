-- Levels: by buffer one more than its up in a claim, and 0 where it is not in it; a bound below it is met.
use Rattle.std.specs.Prelude.{◌≡◌, ℕ, ◌+◌, ◌<◌, List, [], ◌∷◌, length, slice_index}
use Rattle.std.specs.Coded.{Coded-set, Unit-prop, coded_ℕ, le_prop, ×_prop}
use Rattle.dsa_terms.specs.Buffers.{Instance}
use Rattle.dsa_terms.specs.Claims.{Claim, IsClaim, Rises, buffers_of, up}
use Rattle.canonical_order.specs.Claims.{HasBuffer, entry_of}

-- the number is the up of b in the claim and one more, and 0 where b is not in the claim
pub record IsLevel (I : Instance) (l : Claim) (b level : ℕ) : Type 0 where
  pub inside : HasBuffer l b → level ≡ up I (entry_of l b) + 1
  pub outside : (HasBuffer l b → ⊥) → level ≡ 0

-- a claim of the instance, and the level of each buffer of the instance
pub record AreLevels (I : Instance) (l : Claim) (levels : List ℕ) : Type 0 where
  pub claim : IsClaim I l
  pub count : length levels ≡ length I
  pub each : (b : ℕ) → b < length I → IsLevel I l b (slice_index levels b)

-- that numbers rise has at most one proof
pub Rises-prop : (bs : List ℕ) → IsProp (Rises bs)
Rises-prop [] = Unit-prop
Rises-prop (b ∷ bs) = ×_prop (λ f g i c h. le_prop (f c h) (g c h) i) (Rises-prop bs)

-- and so have levels, which a struct may keep therefore
pub AreLevels-prop : {I : Instance} {l : Claim} {levels : List ℕ} → IsProp (AreLevels I l levels)
AreLevels-prop {I} {l} f g = λ i. record {
  claim = record {
    rises = Rises-prop (buffers_of l) f.claim.rises g.claim.rises i;
    in_range = λ e h. le_prop (f.claim.in_range e h) (g.claim.in_range e h) i;
  };
  count = Coded-set coded_ℕ _ _ f.count g.count i;
  each = λ b lt. record {
    inside = λ h. Coded-set coded_ℕ _ _ ((f.each b lt).inside h) ((g.each b lt).inside h) i;
    outside = λ h. Coded-set coded_ℕ _ _ ((f.each b lt).outside h) ((g.each b lt).outside h) i;
  };
}
