-- The entry of a claim that is before all others, by its levels.
use Rattle.std.proofs.Common.{◌≡◌, ◌≢◌, ◌⊎◌, ℕ, ◌<◌, ◌≤◌, inl, inr, List, [], ◌∷◌, ◌==◌, true, false, length, refl, ap, sym, ◌∙◌, subst, arith}
use Rattle.claim_levels.proofs.Words.{Instance, Claim, Entry, IsIn, up, in_buffers, equal, same, same_or_not, HasBuffer, entry_of, AreLevels, entry_in, is_entry, has_level, level_inside}
use Rattle.claim_levels.specs.Firsts.{IsBefore, IsFirst}
use Rattle.claim_levels.specs.Levels.{AreLeft, IsLeastLevel}

-- ---- the first one by levels
some_entry : (l : Claim) → l ≢ [] → (e : Entry) × IsIn e l
some_entry [] some = absurd (some refl)
some_entry (x ∷ xs) some = (x, inl refl)

pub first_by_level : (I : Instance) (l : Claim) (levels : List ℕ) (b : ℕ) → AreLevels I l levels →
    IsLeastLevel levels b → l ≢ [] → IsFirst I l b
first_by_level I l levels b h least some = record {
  f = entry_of l b;
  among = entry_in l b has;
  is = refl;
  before = before;
}
  where
    has : HasBuffer l b
    has =
        let r = some_entry l some in
        let q = level_inside I l _ h r.0.0 (in_buffers l r.0 r.1) in
        has_level I l levels h b (least.some r.0.0 (omega (arith, q)))

    before : (e : Entry) → IsIn e l → (e ≡ entry_of l b) ⊎ IsBefore I (entry_of l b) e
    before e i =
        let q : e ≡ entry_of l e.0 = is_entry l e h.claim.rises i in
        let u : up I e ≡ up I (entry_of l e.0) = ap (up I) q in
        let p = level_inside I l _ h e.0 (in_buffers l e i) in
        let m = level_inside I l _ h b has in
        elim (least.before e.0 (omega (arith, p))) [
          | inl lt ↦ inr (inl (omega (arith, u, p, m, lt)))
          | inr r ↦ elim (same_or_not e.0 b) [
            | inl n ↦ inl (q ∙ ap (entry_of l) n)
            | inr ne ↦ (let k = r.0 in let le = r.1 in inr (inr (omega (arith, u, p, m, k), apart e.0 ne le)))
          ]
        ]
      where
        apart : (c : ℕ) → c ≢ b → b ≤ c → b < c
        apart c ne le = grind arith

-- ---- whether a claim has a buffer
pub nothing_left : (I : Instance) (l : Claim) (levels left : List ℕ) → AreLevels I l levels → AreLeft levels left →
    left ≡ [] → l ≡ []
nothing_left I [] levels left h a q = refl
nothing_left I (x ∷ xs) levels left h a q = absurd (
    let p = level_inside I _ _ h x.0 (inl refl) in
    subst (IsIn x.0) q (a.all x.0 (omega (arith, p))))

pub something_left : (I : Instance) (l : Claim) (levels left : List ℕ) → AreLevels I l levels → AreLeft levels left →
    left ≢ [] → l ≢ []
something_left I l levels [] h a some q = some refl
something_left I l levels (b ∷ bs) h a some q =
    subst (λ (l : Claim). HasBuffer l b) q (has_level I l levels h b (a.some b (inl refl)))

pub is_nothing : (left : List ℕ) → (length left == 0) ≡ true → left ≡ []
is_nothing [] q = refl
is_nothing (b ∷ bs) q = absurd (let k = equal (length (b ∷ bs)) 0 q in omega (arith, k))

pub is_something : (left : List ℕ) → (length left == 0) ≡ false → left ≢ []
is_something left f q = let t = same (length left) 0 (ap length q) in let k = sym t ∙ f in absurd cc
