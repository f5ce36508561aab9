-- The list of parts: each is a greatest set that no cut separates, and they stand in order of time.
use Rattle.std.proofs.Common.{◌≡◌, ℕ, zero, suc, ◌<◌, ◌≤◌, ◌≢◌, inl, inr, true, List, [], ◌∷◌, map, length, slice_get, Some, sym, refl, subst, ◌∙◌, arith}
use Rattle.dsa_terms.specs.Buffers.{Instance, buffer, IsInstance}
use Rattle.dsa_terms.specs.Claims.{IsIn, Rises}
use Rattle.dsa_terms.specs.Parts.{are_uncut, parts}
use Rattle.dsa_terms.proofs.Lists.{from_map}
use Rattle.dsa_search_laws.specs.PartsByTime.{start_of, members, IsUncut}
use Rattle.dsa_search_laws.proofs.ByTime.{begins, by_begins, part_is_in, rises-begins}
use Rattle.dsa_search_laws.proofs.Cuts.{cut_between}
use Rattle.dsa_search_laws.proofs.Members.{in_members, member_of}
use Rattle.dsa_search_laws.proofs.Uncut.{from_part, into_part, part_is_of, rises-part, same_part_uncut, starts_uncut, uncut_same_part}

-- ---- one part
pub part_not_empty : (I : Instance) (p : List ℕ) → IsIn p (parts I) → p ≢ []
part_not_empty I p i q =
    let r = part_is_of I p i in
    none r.0 (subst (λ (p : List ℕ). IsIn r.0 p) (sym r.2 ∙ q) (into_part I r.0 r.0 r.1 refl))
  where
    none : (b : ℕ) → IsIn b [] → ⊥
    none b i = i

pub part_in_range : (I : Instance) (p : List ℕ) (b : ℕ) → IsIn p (parts I) → IsIn b p → b < length I
part_in_range I p b i j = let r = part_is_of I p i in (from_part I r.0 b (rw r.2 at j)).0

pub part_rises : (I : Instance) (p : List ℕ) → IsIn p (parts I) → Rises p
part_rises I p i = let r = part_is_of I p i in rw r.2 (rises-part I r.0)

pub parts_cover : (I : Instance) (b : ℕ) → b < length I → (p : List ℕ) × IsIn p (parts I) × IsIn b p
parts_cover I b lt = (members I (start_of I b), part_is_in I b lt, member_of I b lt)

pub part_is_uncut : (I : Instance) (p : List ℕ) (b c : ℕ) → IsInstance I → IsIn p (parts I) → IsIn b p → IsIn c p →
    IsUncut I b c
part_is_uncut I p b c s i j k =
    let r = part_is_of I p i in
    let x = from_part I r.0 b (rw r.2 at j) in
    let y = from_part I r.0 c (rw r.2 at k) in
    same_part_uncut I b c s x.0 y.0 (sym x.1 ∙ y.1)

pub part_is_one : (I : Instance) (p : List ℕ) (b c : ℕ) → IsIn p (parts I) → IsIn b p → IsIn c p →
    are_uncut I b c ≡ true
part_is_one I p b c i j k =
    let r = part_is_of I p i in
    let x = from_part I r.0 b (rw r.2 at j) in
    let y = from_part I r.0 c (rw r.2 at k) in
    starts_uncut I b c (sym x.1 ∙ y.1)

pub part_is_greatest : (I : Instance) (p : List ℕ) (b c : ℕ) → IsIn p (parts I) → IsIn b p → c < length I →
    IsUncut I b c → IsIn c p
part_is_greatest I p b c i j lt u =
    let r = part_is_of I p i in
    let x = from_part I r.0 b (rw r.2 at j) in
    rw r.2 (into_part I r.0 c lt (x.1 ∙ uncut_same_part I b c x.0 lt u))

-- ---- all parts, in order of time
-- each buffer of a list ends before any of a later list begins
abbrev AreInOrder : Instance → List (List ℕ) → Type 0
AreInOrder I [] = Unit {0}
AreInOrder I (p ∷ ps) = ((q : List ℕ) → IsIn q ps → (b c : ℕ) → IsIn b p → IsIn c q →
    (buffer I b).upper ≤ (buffer I c).lower) × AreInOrder I ps

order_of : (I : Instance) (ts : List ℕ) → Rises ts → AreInOrder I (map (members I) ts)
order_of I [] r = tt
order_of I (t ∷ ts) r = (later, order_of I ts r.1)
  where
    later : (q : List ℕ) → IsIn q (map (members I) ts) → (b c : ℕ) → IsIn b (members I t) → IsIn c q →
        (buffer I b).upper ≤ (buffer I c).lower
    later q i b c j k =
        let u = from_map (members I) ts q i in
        let less = r.0 u.0 u.1 in
        let m = in_members I t b j in
        let n = in_members I u.0 c (subst (λ (q : List ℕ). IsIn c q) u.2 k) in
        let begun : start_of I b < start_of I c = (let e = m.1 in let f = n.1 in omega arith) in
        let s = (cut_between I b c m.0 begun).1 in
        let x = s.0 in let y = s.1 in omega arith

pub got_in : {X : Type 0} (xs : List X) (k : ℕ) (x : X) → slice_get xs k ≡ Some x → IsIn x xs
got_in [] k x h = absurd cc
got_in (y ∷ ys) zero x h = inl (let e : y ≡ x = cc in sym e)
got_in (y ∷ ys) (suc k) x h = inr (got_in ys k x h)

order_at : (I : Instance) (ps : List (List ℕ)) → AreInOrder I ps → (j k : ℕ) (p q : List ℕ) (b c : ℕ) → j < k →
    slice_get ps j ≡ Some p → slice_get ps k ≡ Some q → IsIn b p → IsIn c q → (buffer I b).upper ≤ (buffer I c).lower
order_at I [] a j k p q b c lt g h m n = absurd cc
order_at I (x ∷ xs) a j zero p q b c lt g h m n = absurd (omega arith)
order_at I (x ∷ xs) a zero (suc k) p q b c lt g h m n = a.0 q (got_in xs k q h) b c (let e : x ≡ p = cc in rw e m) n
order_at I (x ∷ xs) a (suc j) (suc k) p q b c lt g h m n = order_at I xs a.1 j k p q b c (omega arith) g h m n

parts_order : (I : Instance) → AreInOrder I (parts I)
parts_order I = rw (by_begins I) (order_of I (begins I) (rises-begins I))

pub parts_in_order : (I : Instance) (j k : ℕ) (p q : List ℕ) (b c : ℕ) → j < k → slice_get (parts I) j ≡ Some p →
    slice_get (parts I) k ≡ Some q →
    IsIn b p → IsIn c q → (buffer I b).upper ≤ (buffer I c).lower
parts_in_order I = order_at I (parts I) (parts_order I)
