-- The claim beside levels is the claim of the levels, with its lows as bounds.
use Rattle.std.proofs.Common.{◌≡◌, ℕ, ◌+◌, ◌-◌, ◌<◌, ◌≤◌, ◌^◌, inl, inr, List, [], ◌∷◌, ◌++◌, length, map, slice_index, ap, sym, ◌∙◌, subst, arith, refl, append-nil, append_assoc, All}
use Rattle.std.proofs.lemmas.List.{get_or_past}
use Rattle.claim_levels.proofs.Words.{Instance, Claim, Entry, IsIn, Rises, buffers_of, up, from_map, below_or_from, buffer_limit, in_buffers, IsBoundedBy, entry_of, AreLevels, length_within, entry_in, is_entry, has_level, level_inside}
use Rattle.dsa_search_laws.proofs.Rising.{rises_same}
use Rattle.claim_levels.specs.Levels.{AreKept, AreLeft}
use Rattle.claim_levels.specs.Lifted.{lift, lifted}
use Rattle.claim_levels.proofs.Lifting.{buffers_of-lifted}

-- an entry by its level
pub by_level : List ℕ → ℕ → Entry
by_level levels b = (b, slice_index levels b - 1)

-- a claim whose bounds are read off levels is a map of its buffers
is_by_level : (levels : List ℕ) (k : Claim) → ((e : Entry) → IsIn e k → e.1 ≡ slice_index levels e.0 - 1) →
    k ≡ map (by_level levels) (buffers_of k)
unfolding by_level
is_by_level levels [] h = refl
is_by_level levels (e ∷ k) h =
    let q : e.1 ≡ slice_index levels e.0 - 1 = h e (inl refl) in
    ap (λ (n : ℕ). let x : Claim = (e.0, n) ∷ k in x) q
    ∙ ap (λ (x : Claim). (e.0, slice_index levels e.0 - 1) ∷ x) (is_by_level levels k (λ f i. h f (inr i)))

pub ground_is_lifted : (I : Instance) (l : Claim) (levels : List ℕ) (ground : Claim) → AreKept levels ground →
    AreLevels I l levels → ground ≡ lifted I l
ground_is_lifted I l levels ground k h =
    is_by_level levels ground (λ e i. let q = k.each e i in omega arith)
    ∙ ap (map (by_level levels)) (same ∙ sym (buffers_of-lifted I l))
    ∙ sym (is_by_level levels (lifted I l) lows)
  where
    same : buffers_of ground ≡ buffers_of l
    same = rises_same (buffers_of ground) (buffers_of l) k.rises h.claim.rises (λ b. (
      (λ i. has_level I l levels h b (let q = k.each (entry_of ground b) (entry_in ground b i) in omega arith)),
      (λ i. k.all b (let q = level_inside I l _ h b i in omega arith)),
    ))

    lows : (e : Entry) → IsIn e (lifted I l) → e.1 ≡ slice_index levels e.0 - 1
    lows e i =
        let r = from_map (lift I) l e i in
        let f : Entry = r.0 in
        let n : e.0 ≡ f.0 = ap (λ (e : Entry). e.0) r.2 in
        let u : e.1 ≡ up I f = ap (λ (e : Entry). e.1) r.2 in
        let v : up I f ≡ up I (entry_of l f.0) = ap (up I) (is_entry l f h.claim.rises r.1) in
        let q : slice_index levels f.0 ≡ up I (entry_of l f.0) + 1 =
        level_inside I l _ h f.0 (in_buffers l f r.1) in
        let m : slice_index levels e.0 ≡ slice_index levels f.0 = ap (slice_index levels) n in
        omega arith

-- ---- what levels keep
pub some_within : (levels : List ℕ) (b : ℕ) → 0 < slice_index levels b → b < length levels
some_within levels b more = elim (below_or_from b (length levels)) [
  | inl lt ↦ lt
  | inr le ↦ absurd (let z : slice_index levels b ≡ 0 = get_or_past levels b 0 le in omega arith)
]

pub entry_within : (levels : List ℕ) (e : Entry) → slice_index levels e.0 ≡ e.1 + 1 → e.0 < length levels
entry_within levels e q = some_within levels e.0 (omega (arith, q))

module _ (levels : List ℕ) (k : Claim) (each : (e : Entry) → IsIn e k → slice_index levels e.0 ≡ e.1 + 1) where
  pub bounds_low : All (λ level. level ≤ 2 ^ 55) levels → IsBoundedBy (2 ^ 60) k
  bounds_low low e i =
      let q = each e i in
      let m = low e.0 0 (entry_within levels e q) in
      omega arith

  pub entries_few : length levels ≤ buffer_limit → Rises (buffers_of k) → length k < 2 ^ 32
  entries_few few r =
      let n = length_within k (length levels) r (λ e i. entry_within levels e (each e i)) in
      omega arith

-- ---- the buffers that have a level, one after another
pub entry_next : (levels whole : List ℕ) (before after : Claim) (b : ℕ) (rest more : List ℕ) → rest ≡ b ∷ more →
    after ≡ before ++ (b, slice_index levels b - 1) ∷ [] →
    before ++ map (by_level levels) rest ≡ map (by_level levels) whole →
    after ++ map (by_level levels) more ≡ map (by_level levels) whole
unfolding by_level
entry_next levels whole before after b rest more q r h =
    let e : Entry = (b, slice_index levels b - 1) in
    ap (λ (k : Claim). k ++ map (by_level levels) more) r
    ∙ append_assoc before (e ∷ []) (map (by_level levels) more)
    ∙ ap (λ (bs : List ℕ). before ++ map (by_level levels) bs) (sym q)
    ∙ h

pub entries_all : (levels whole : List ℕ) (pairs : Claim) (rest : List ℕ) → rest ≡ [] →
    pairs ++ map (by_level levels) rest ≡ map (by_level levels) whole → pairs ≡ map (by_level levels) whole
entries_all levels whole pairs rest q h =
    sym (append-nil pairs) ∙ ap (λ (bs : List ℕ). pairs ++ map (by_level levels) bs) (sym q) ∙ h

pub left_kept : (levels left : List ℕ) (ground : Claim) → length levels ≤ buffer_limit →
    All (λ level. level ≤ 2 ^ 55) levels → AreLeft levels left → ground ≡ map (by_level levels) left →
    AreKept levels ground
unfolding by_level
left_kept levels left ground few low a q = record {
  few = few;
  low = low;
  rises = subst (λ (bs : List ℕ). Rises bs) (sym names) a.rises;
  each = λ e i. (let r = from_map (by_level levels) left e (subst (IsIn e) q i) in
      let n : e.0 ≡ r.0 = ap (λ (e : Entry). e.0) r.2 in
      let m : e.1 ≡ slice_index levels r.0 - 1 = ap (λ (e : Entry). e.1) r.2 in
      let p : slice_index levels e.0 ≡ slice_index levels r.0 = ap (slice_index levels) n in
      let k = a.some r.0 r.1 in
      omega (arith, m, p, k));
  all = λ b more. subst (IsIn b) (sym names) (a.all b more);
}
  where
    back : (bs : List ℕ) → buffers_of (map (by_level levels) bs) ≡ bs
    back [] = refl
    back (b ∷ bs) = ap (λ (xs : List ℕ). b ∷ xs) (back bs)

    names : buffers_of ground ≡ left
    names = ap buffers_of q ∙ back left
