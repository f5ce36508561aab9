-- An instance of which no buffer is rough is plain, and the first rough buffer is not.
use Rattle.std.proofs.Common.{◌≡◌, ◌≤◌, ◌<◌, ◌∙◌, ℕ, ◌+◌, inl, inr, Bool, true, false, not, ◌||◌, cond, List, [], ◌∷◌, length, slice_index_or, nat_lt, Some, None, refl, sym, ap, arith}
use Rattle.std.proofs.lemmas.Iterator.Adapters.{position_from-zero}
use Rattle.std.proofs.lemmas.List.Quantifiers.{position-Some}
use Rattle.std.proofs.lemmas.List.Sums.{position_or_len_is}
use Rattle.std.specs.List.{position_from, position_or_len}
use Rattle.dsa_terms.specs.Buffers.{Buffer, Instance, buffer, no_buffer}
use Rattle.dsa_terms.specs.Claims.{IsIn}
use Rattle.dsa_terms.specs.Parts.{is_empty}
use Rattle.dsa_terms.proofs.Moments.{or_false}
use Rattle.dsa_terms.proofs.NumberTests.{is_below, not_below, not_less}
use Rattle.dsa_terms.proofs.Places.{in_at}
use Rattle.size_classes.specs.Plain.{first_rough, IsPlain, IsPlainAt, is_rough}

none_passes : (p : Buffer → Bool) (i : ℕ) (xs : List Buffer) (x : Buffer) → position_from p i xs ≡ None → IsIn x xs →
    p x ≡ false
none_passes p i [] x h j = absurd j
none_passes p i (y ∷ ys) x h j = go (none_passes p (i + 1) ys x) (p y) refl h j
  where
    go : (position_from p (i + 1) ys ≡ None → IsIn x ys → p x ≡ false) → (b : Bool) → p y ≡ b →
        cond b (Some i) (position_from p (i + 1) ys) ≡ None → IsIn x (y ∷ ys) → p x ≡ false
    go ih true e q k = absurd cc
    go ih false e q (inl k) = ap p k ∙ e
    go ih false e q (inr k) = ih q k

no_gaps : (gaps : List (ℕ × ℕ)) → not (is_empty gaps) ≡ false → gaps ≡ []
no_gaps [] h = refl
no_gaps (g ∷ gs) h = absurd cc

buffer_in : (I : Instance) (b : ℕ) → b < length I → IsIn (buffer I b) I
unfolding buffer
buffer_in I b lt = in_at I b no_buffer lt

is_smooth : (x : Buffer) → is_rough x ≡ false → (x.gaps ≡ []) × (x.alignment ≤ 1) × (x.lowest ≡ 0)
is_smooth x h =
    let r = or_false (not (is_empty x.gaps) || nat_lt 1 x.alignment) (nat_lt 0 x.lowest) h in
    let s = or_false (not (is_empty x.gaps)) (nat_lt 1 x.alignment) r.0 in
    (no_gaps x.gaps s.0, not_less 1 x.alignment s.1, zero_of (not_less 0 x.lowest r.1))
  where
    zero_of : {n : ℕ} → n ≤ 0 → n ≡ 0
    zero_of h = omega arith

pub plain_from : (I : Instance) → first_rough I ≡ None → IsPlain I
unfolding first_rough
plain_from I h b lt =
    is_smooth (buffer I b)
    (none_passes is_rough 0 I (buffer I b) (sym (position_from-zero is_rough I) ∙ h) (buffer_in I b lt))

-- ---- the first that is rough
is_not_smooth : (gaps : List (ℕ × ℕ)) (alignment lowest : ℕ) →
    (not (is_empty gaps) || nat_lt 1 alignment || nat_lt 0 lowest) ≡ true →
    gaps ≡ [] → alignment ≤ 1 → lowest ≡ 0 → ⊥
is_not_smooth [] alignment lowest h is few none =
    absurd (no _ _ (not_below 1 alignment few) (not_below 0 lowest (omega arith)) h)
  where
    no : (a b : Bool) → a ≡ false → b ≡ false → (a || b) ≡ true → ⊥
    no a b e f h = absurd cc
is_not_smooth (g ∷ gs) alignment lowest h is few none = absurd cc

pub first_is_rough : (I : Instance) (b : ℕ) → first_rough I ≡ Some b →
    (b < length I) × (IsPlainAt I b → ⊥) × ((c : ℕ) → c < b → IsPlainAt I c)
unfolding first_rough buffer
first_is_rough I b h =
    let r = position-Some is_rough I b no_buffer h in (
      r.0,
      λ p. is_not_smooth (slice_index_or I b no_buffer).gaps (slice_index_or I b no_buffer).alignment
          (slice_index_or I b no_buffer).lowest r.1 p.0 p.1 p.2,
      λ c lt. is_smooth (slice_index_or I c no_buffer) (r.2 c lt),
    )

rough_place : (I : Instance) (b : ℕ) → b ≤ length I → ((c : ℕ) → c < b → is_rough (buffer I c) ≡ false) →
    (b < length I → is_rough (buffer I b) ≡ true) → position_or_len is_rough I ≡ b
unfolding buffer
rough_place I b le before here = position_or_len_is is_rough I b no_buffer le before here

pub rough_is_first : (I : Instance) (b : ℕ) (x : Buffer) (told : Bool) → b < length I → x ≡ buffer I b →
    told ≡ is_rough x → told ≡ true → ((c : ℕ) → c < b → is_rough (buffer I c) ≡ false) → Some b ≡ first_rough I
unfolding first_rough
rough_is_first I b x told lt e f t before =
    sym (ap (λ k. cond (nat_lt k (length I)) (Some k) None)
    (rough_place I b (omega arith) before (λ l. ap is_rough (sym e) ∙ sym f ∙ t))
    ∙ ap (λ q. cond q (Some b) None) (is_below b (length I) lt))

pub none_is_rough : (I : Instance) (b : ℕ) → b ≡ length I → ((c : ℕ) → c < b → is_rough (buffer I c) ≡ false) →
    None ≡ first_rough I
unfolding first_rough
none_is_rough I b e before =
    sym (ap (λ k. cond (nat_lt k (length I)) (Some k) None)
    (rough_place I b (omega arith) before (λ l. absurd (omega arith)))
    ∙ ap (λ q. cond q (Some b) None) (not_below b (length I) (omega arith)))
