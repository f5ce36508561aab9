-- The least buffer that passes a test, and what it excludes.
use Rattle.std.proofs.Common.{◌≡◌, ℕ, Bool, true, false, cond, ◌||◌, [], ◌∷◌, Some, None, find, option_map, inl, inr, sym, refl}
use Rattle.std.specs.List.{list_any}
use Rattle.branching.proofs.Words.{Instance, Claim, Entry, IsIn, ends_below, is_twin, not_excluded, any_from, least_buffer}

pub least_passes : (test : Entry → Bool) (l : Claim) (c : ℕ) → Some c ≡ least_buffer test l →
    (f : Entry) × IsIn f l × (f.0 ≡ c) × (test f ≡ true)
least_passes test [] c h = absurd cc
least_passes test (x ∷ xs) c h = go (least_passes test xs c) (test x) refl h
  where
    go : (Some c ≡ least_buffer test xs → (f : Entry) × IsIn f xs × (f.0 ≡ c) × (test f ≡ true)) →
        (t : Bool) → test x ≡ t →
        Some c ≡ option_map (λ (e : Entry). e.0) (cond t (Some x) (find test xs)) →
        (f : Entry) × IsIn f (x ∷ xs) × (f.0 ≡ c) × (test f ≡ true)
    go ih true e q = (x, inl refl, (let k : Some x.0 ≡ Some c = sym q in cc), e)
    go ih false e q = let r = ih q in (r.0, inr r.1, r.2, r.3)

pub none_least : (test : Entry → Bool) (l : Claim) → None ≡ least_buffer test l → list_any test l ≡ false
none_least test [] h = refl
none_least test (x ∷ xs) h = go (none_least test xs) (test x) h
  where
    go : (None ≡ least_buffer test xs → list_any test xs ≡ false) → (t : Bool) →
        None ≡ option_map (λ (e : Entry). e.0) (cond t (Some x) (find test xs)) → (t || list_any test xs) ≡ false
    go ih true q = absurd cc
    go ih false q = ih q

-- ---- which buffers a rule excludes
pub below_excludes : (I : Instance) (l : Claim) (e f : Entry) → IsIn f l → ends_below I f e ≡ true →
    not_excluded I l e ≡ false
below_excludes I l e f i h = rw (any_from (λ f. ends_below I f e) l f i h) refl

pub twin_excludes : (I : Instance) (l : Claim) (e f : Entry) → list_any (λ f. ends_below I f e) l ≡ false → IsIn f l →
    is_twin I f e ≡ true → not_excluded I l e ≡ false
twin_excludes I l e f n i h = rw (n, any_from (λ f. is_twin I f e) l f i h) refl

pub no_rule_excludes : (I : Instance) (l : Claim) (e : Entry) → list_any (λ f. ends_below I f e) l ≡ false →
    list_any (λ f. is_twin I f e) l ≡ false → not_excluded I l e ≡ true
no_rule_excludes I l e n m = rw (n, m) refl
