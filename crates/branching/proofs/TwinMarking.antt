-- Which buffers have a twin: those that are like one of smaller number.
use Rattle.std.proofs.Common.{◌≡◌, ℕ, Bool, true, false, zero, suc, ◌<◌, ◌+◌, ◌&&◌, ◌==◌, ◌++◌, ◌⊎◌, nat_lt, nat_le, List, [], ◌∷◌, inl, inr, length, slice_index_or, refl, sym, subst, arith, length-append}
use Rattle.std.proofs.lemmas.Bool.Decides.{nat_tests}
use Rattle.std.specs.List.{list_any}
use Rattle.branching.proofs.Words.{Instance, buffer, have_same_moments, Claim, Entry, up, is_twin}
use Rattle.prune_rules.specs.Twins.{are_alike}
use Rattle.branching.specs.TwinMarks.{AreTwinMarks, HasNoTwin}

-- ---- the test of a twin, from its parts
not_like : (before same size alignment low : Bool) → (size && (alignment && same)) ≡ false →
    (before && same && size && alignment && low) ≡ false
not_like false same size alignment low h = refl
not_like true false size alignment low h = refl
not_like true true false alignment low h = refl
not_like true true true false low h = refl
not_like true true true true low h = absurd cc

no_test : (c b : ℕ) (same size alignment low : Bool) → (c < b → (size && (alignment && same)) ≡ false) →
    (nat_lt c b && same && size && alignment && low) ≡ false
no_test c b same size alignment low h = go (nat_lt c b) refl
  where
    go : (t : Bool) → nat_lt c b ≡ t → (t && same && size && alignment && low) ≡ false
    go false q = refl
    go true q = not_like true same size alignment low (h (grind (arith, nat_tests)))

-- ---- one buffer
pub none_is_twin : (I : Instance) (b : ℕ) → ((c : ℕ) → c < b → are_alike (buffer I c) (buffer I b) ≡ false) →
    HasNoTwin I b
unfolding is_twin
none_is_twin I b h f e q =
    subst (λ n. (nat_lt f.0 n && have_same_moments (buffer I f.0) (buffer I n)
    && ((buffer I f.0).size == (buffer I n).size) && ((buffer I f.0).alignment == (buffer I n).alignment)
    && nat_le (up I f) (up I e)) ≡ false) (sym q)
    (no_test f.0 b (have_same_moments (buffer I f.0) (buffer I b)) ((buffer I f.0).size == (buffer I b).size)
    ((buffer I f.0).alignment == (buffer I b).alignment) (nat_le (up I f) (up I e)) (h f.0))

-- ---- all buffers
last_mark : (marks : List Bool) (mark : Bool) (b : ℕ) → slice_index_or (marks ++ (mark ∷ [])) b true ≡ false →
    (slice_index_or marks b true ≡ false) ⊎ ((b ≡ length marks) × (mark ≡ false))
last_mark [] mark zero h = inr (refl, h)
last_mark [] mark (suc b) h = absurd cc
last_mark (x ∷ xs) mark zero h = inl h
last_mark (x ∷ xs) mark (suc b) h = go (last_mark xs mark b h)
  where
    go : (slice_index_or xs b true ≡ false) ⊎ ((b ≡ length xs) × (mark ≡ false)) →
        (slice_index_or xs b true ≡ false) ⊎ ((suc b ≡ suc (length xs)) × (mark ≡ false))
    go (inl k) = inl k
    go (inr k) = inr (omega (arith, k.0), k.1)

pub one_more : (marks : List Bool) (mark : Bool) (b : ℕ) → b ≡ length marks → b + 1 ≡ length (marks ++ (mark ∷ []))
one_more marks mark b q = rw (length-append marks (mark ∷ [])) (omega arith)

pub marks_next : (I : Instance) (marks : List Bool) (mark : Bool) (b : ℕ) → b ≡ length marks →
    (mark ≡ false → HasNoTwin I b) → AreTwinMarks I marks → AreTwinMarks I (marks ++ (mark ∷ []))
marks_next I marks mark b q h m c k = go (last_mark marks mark c k)
  where
    go : (slice_index_or marks c true ≡ false) ⊎ ((c ≡ length marks) × (mark ≡ false)) → HasNoTwin I c
    go (inl s) = m c s
    go (inr s) = let e : b ≡ c = omega (arith, s.0) in subst (λ n. HasNoTwin I n) e (h s.1)

-- ---- a claim
pub no_twin : (I : Instance) (l : Claim) (b : ℕ) (e : Entry) → e.0 ≡ b → HasNoTwin I b →
    list_any (λ f. is_twin I f e) l ≡ false
no_twin I [] b e q h = refl
no_twin I (x ∷ xs) b e q h = rw (h x e q, no_twin I xs b e q h) refl
