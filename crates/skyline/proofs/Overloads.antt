-- The first section that is too full.
use Rattle.std.specs.Option.{option_or}
use Rattle.std.proofs.Common.{inl, inr, ◌≡◌, ◌⊎◌, ◌+◌, ◌<◌, ◌≤◌, ℕ, zero, suc, Bool, true, false, cond, List, [], ◌∷◌, ◌++◌, map, length, take, slice_index, min, Option, Some, None, refl, ap, sym, ◌∙◌, arith}
use Rattle.std.specs.List.{filter, range_with_len}
use Rattle.std.proofs.lemmas.List.{take_more}
use Rattle.dsa_terms.specs.Parts.{numbers}
use Rattle.dsa_terms.specs.Search.{first_some}
use Rattle.std.specs.Prelude.{IfNone, IfSome, is_some, nat_lt, reverse, ◌*◌, ◌^◌}
use Rattle.dsa_terms.specs.Buffers.{Instance}
use Rattle.dsa_terms.specs.Claims.{Claim, IsIn, up}
use Rattle.dsa_terms.proofs.Lists.{into_filter, into_map}
use Rattle.dsa_terms.proofs.NumberTests.{is_below, not_below}
use Rattle.dsa_terms.specs.Parts.{whole}
use Rattle.dsa_model.specs.Buffer.{buffer_limit}
use Rattle.lifetime.specs.SectionList.{count_of, start_of, members_of, SectionList}
use Rattle.canonical_order.specs.Claims.{HasBuffer, entry_of}
use Rattle.skyline.specs.Standing.{claim_after}
use Rattle.skyline.specs.Carried.{claims_of}
use Rattle.skyline.specs.Loads.{IsLoaded}
use Rattle.skyline.proofs.Carrying.{last_of_claims}
use Rattle.skyline.proofs.Loads.{gives_left, load_limited}
use Rattle.skyline.specs.Overloads.{FitsFrom, free_load, is_left, lower, least_of, least_up, over_at, over, overloaded}
use Rattle.skyline.specs.Skies.{Sky, last_claim}

lower_twice : (x y : ℕ) (o : Option ℕ) → lower x (lower y o) ≡ lower y (lower x o)
lower_twice x y None = ap (λ z. Some z) (let e : min x y ≡ min y x = omega arith in e)
lower_twice x y (Some z) = ap (λ w. Some w) (let e : min x (min y z) ≡ min y (min x z) = omega arith in e)

-- one more item that passes, and one that doesn't
pub least-more : (f : ℕ → ℕ) (p : ℕ → Bool) (xs : List ℕ) (x : ℕ) → p x ≡ true →
    least_of (map f (filter p (xs ++ x ∷ []))) ≡ lower (f x) (least_of (map f (filter p xs)))
least-more f p [] x h = rw h refl
least-more f p (y ∷ ys) x h = go (least-more f p ys x h) (p y)
  where
    go : least_of (map f (filter p (ys ++ x ∷ []))) ≡ lower (f x) (least_of (map f (filter p ys))) → (t : Bool) →
        least_of (map f (cond t (y ∷ filter p (ys ++ x ∷ [])) (filter p (ys ++ x ∷ [])))) ≡ lower (f x)
        (least_of (map f (cond t (y ∷ filter p ys) (filter p ys))))
    go ih true = ap (lower (f y)) ih ∙ lower_twice (f y) (f x) (least_of (map f (filter p ys)))
    go ih false = ih

pub least-same : (f : ℕ → ℕ) (p : ℕ → Bool) (xs : List ℕ) (x : ℕ) → p x ≡ false →
    least_of (map f (filter p (xs ++ x ∷ []))) ≡ least_of (map f (filter p xs))
least-same f p [] x h = rw h refl
least-same f p (y ∷ ys) x h = go (least-same f p ys x h) (p y)
  where
    go : least_of (map f (filter p (ys ++ x ∷ []))) ≡ least_of (map f (filter p ys)) → (t : Bool) →
        least_of (map f (cond t (y ∷ filter p (ys ++ x ∷ [])) (filter p (ys ++ x ∷ [])))) ≡ least_of
        (map f (cond t (y ∷ filter p ys) (filter p ys)))
    go ih true = ap (lower (f y)) ih
    go ih false = ih

-- the least of some numbers is at most each of them
some_least : (ys : List ℕ) (x : ℕ) → IsIn x ys → least_of ys ≡ None → ⊥
some_least [] x i q = i
some_least (y ∷ ys) x i q = go (least_of ys) q
  where
    go : (o : Option ℕ) → lower y o ≡ None → ⊥
    go None e = let k : Some y ≡ None = e in cc
    go (Some z) e = let k : Some (min y z) ≡ None = e in cc

pub least_is_least : (xs : List ℕ) (h x : ℕ) → least_of xs ≡ Some h → IsIn x xs → h ≤ x
least_is_least [] h x e i = absurd i
least_is_least (y ∷ ys) h x e i = go (least_of ys) refl (λ m q j. least_is_least ys m x q j) e i
  where
    go : (o : Option ℕ) → least_of ys ≡ o → ((m : ℕ) → o ≡ Some m → IsIn x ys → m ≤ x) → lower y o ≡ Some h →
        IsIn x (y ∷ ys) → h ≤ x
    go None q ih e (inl p) = let k : Some y ≡ Some h = e in let z : y ≡ h = cc in omega arith
    go None q ih e (inr j) = absurd (some_least ys x j q)
    go (Some m) q ih e (inl p) = let k : Some (min y m) ≡ Some h = e in let z : min y m ≡ h = cc in omega arith
    go (Some m) q ih e (inr j) =
        let k : Some (min y m) ≡ Some h = e in
        let z : min y m ≡ h = cc in
        let le = ih m refl j in
        omega arith

-- the lesser of two from which a load passes
pub lesser_over : (low : ℕ) (o : Option ℕ) (r load C : ℕ) → Some r ≡ lower low o → C < low + load →
    IfSome o (λ h. C < h + load) → C < r + load
lesser_over low None r load C e h k = let q : Some r ≡ Some low = e in let z : r ≡ low = cc in omega arith
lesser_over low (Some m) r load C e h k =
    let q : Some r ≡ Some (min low m) = e in
    let z : r ≡ min low m = cc in
    omega arith

pub some_of : (o p : Option ℕ) → p ≡ o → IfSome o (λ h. p ≡ Some h)
some_of None p e = tt
some_of (Some h) p e = e

-- a load that fits from one of the numbers fits from the least one
pub fits_from_one : (f : ℕ → ℕ) (p : ℕ → Bool) (xs : List ℕ) (b load C : ℕ) → IsIn b xs → p b ≡ true → f b + load ≤ C →
    FitsFrom load C (least_of (map f (filter p xs)))
fits_from_one f p xs b load C i t le = go (least_of (map f (filter p xs))) refl
  where
    j : IsIn (f b) (map f (filter p xs))
    j = into_map f (filter p xs) b (into_filter p xs b i t)

    go : (o : Option ℕ) → least_of (map f (filter p xs)) ≡ o → FitsFrom load C o
    go None e = tt
    go (Some h) e = let k = least_is_least (map f (filter p xs)) h (f b) e j in omega arith

-- a load that fits from one of the ups fits from the least one
pub fits_from : (I : Instance) (S : SectionList) (l : Claim) (s b load C : ℕ) → IsIn b (members_of S s) →
    HasBuffer l b → up I (entry_of l b) + load ≤ C → FitsFrom load C (least_up I S l s)
unfolding least_up
fits_from I S l s b load C i has le =
    fits_from_one (λ b. up I (entry_of l b)) (is_left l) (members_of S s) b load C i (gives_left l b has) le

pub none_of : (load C : ℕ) (o p : Option ℕ) → p ≡ o → IfNone o (FitsFrom load C p)
none_of load C None p e = rw e tt
none_of load C (Some h) p e = tt

-- ---- the first answer over the numbers
first_from : {Y : Type 0} (f : ℕ → Option Y) (n a s : ℕ) (y : Y) → a ≤ s → s < a + n →
    ((k : ℕ) → a ≤ k → k < s → f k ≡ None) → f s ≡ Some y → first_some f (range_with_len a n) ≡ Some y
first_from f zero a s y le lt h e = absurd (omega arith)
first_from {Y} f (suc n) a s y le lt h e = go (λ l. first_from f n (a + 1) s y l (omega arith)
    (λ k p q. h k (omega arith) q) e) (same a s le)
  where
    same : (a s : ℕ) → a ≤ s → (s ≡ a) ⊎ (a + 1 ≤ s)
    same a s le = grind arith

    go : (a + 1 ≤ s → first_some f (range_with_len (a + 1) n) ≡ Some y) → (s ≡ a) ⊎ (a + 1 ≤ s) →
        option_or (f a) (first_some f (range_with_len (a + 1) n)) ≡ Some y
    go ih (inl q) = rw (ap f (sym q) ∙ e) refl
    go ih (inr l) = rw (h a (omega arith) (omega arith)) (ih l)

pub first_is : {Y : Type 0} (f : ℕ → Option Y) (n s : ℕ) (y : Y) → s < n → ((k : ℕ) → k < s → f k ≡ None) →
    f s ≡ Some y → first_some f (numbers n) ≡ Some y
first_is f n s y lt h e = first_from f n 0 s y (omega arith) (omega arith) (λ k le l. h k l) e

none_from : {Y : Type 0} (f : ℕ → Option Y) (n a : ℕ) → ((k : ℕ) → a ≤ k → k < a + n → f k ≡ None) →
    first_some f (range_with_len a n) ≡ None
none_from f zero a h = refl
none_from f (suc n) a h = rw (h a (omega arith) (omega arith))
    (none_from f n (a + 1) (λ k le lt. h k (omega arith) (omega arith)))

pub none_is : {Y : Type 0} (f : ℕ → Option Y) (n : ℕ) → ((k : ℕ) → k < n → f k ≡ None) → first_some f (numbers n) ≡ None
none_is f n h = none_from f n 0 (λ k le lt. h k (omega arith))

-- one more member, which is left or isn't
pub least_next : (f : ℕ → ℕ) (p : ℕ → Bool) (xs : List ℕ) (i : ℕ) (o : Option ℕ) (v : ℕ) → i < length xs →
    o ≡ least_of (map f (filter p (take i xs))) → p (slice_index xs i) ≡ true →
    Some v ≡ lower (f (slice_index xs i)) o → Some v ≡ least_of (map f (filter p (take (i + 1) xs)))
least_next f p xs i o v lt e t h =
    h ∙ ap (lower (f (slice_index xs i))) e ∙ sym (ap (λ ys. least_of (map f (filter p ys))) (take_more xs i 0 lt)
    ∙ least-more f p (take i xs) (slice_index xs i) t)

pub least_kept : (f : ℕ → ℕ) (p : ℕ → Bool) (xs : List ℕ) (i : ℕ) (o : Option ℕ) → i < length xs →
    o ≡ least_of (map f (filter p (take i xs))) → p (slice_index xs i) ≡ false →
    o ≡ least_of (map f (filter p (take (i + 1) xs)))
least_kept f p xs i o lt e t = e ∙ sym (ap (λ ys. least_of (map f (filter p ys))) (take_more xs i 0 lt)
    ∙ least-same f p (take i xs) (slice_index xs i) t)

-- ---- a section's answer
pub over_none : (I : Instance) (S : SectionList) (l : Claim) (C s : ℕ) → least_up I S l s ≡ None → None ≡ over I S l C s
unfolding over
over_none I S l C s e = sym (ap (over_at (start_of S s) (free_load I S l s) C) e)

pub over_full : (I : Instance) (S : SectionList) (l : Claim) (C s H load start : ℕ) → least_up I S l s ≡ Some H →
    load ≡ free_load I S l s → start ≡ start_of S s → C < H + load → Some (start, H) ≡ over I S l C s
unfolding over
over_full I S l C s H load start e f g lt =
    let t : nat_lt C (H + free_load I S l s) ≡ true = is_below C (H + free_load I S l s) (omega arith) in
    ap (λ x. Some (x, H)) g ∙ sym (ap (over_at (start_of S s) (free_load I S l s) C) e
    ∙ ap (λ b. cond b (Some (start_of S s, H)) None) t)

pub over_fits : (I : Instance) (S : SectionList) (l : Claim) (C s H load : ℕ) → least_up I S l s ≡ Some H →
    load ≡ free_load I S l s → H + load ≤ C → None ≡ over I S l C s
unfolding over
over_fits I S l C s H load e f le =
    let t : nat_lt C (H + free_load I S l s) ≡ false = not_below C (H + free_load I S l s) (omega arith) in
    sym (ap (over_at (start_of S s) (free_load I S l s) C) e ∙ ap (λ b. cond b (Some (start_of S s, H)) None) t)

pub over_from : (I : Instance) (S : SectionList) (l : Claim) (C s load : ℕ) → load ≡ free_load I S l s →
    FitsFrom load C (least_up I S l s) → None ≡ over I S l C s
over_from I S l C s load e h = go (least_up I S l s) refl h
  where
    go : (o : Option ℕ) → least_up I S l s ≡ o → FitsFrom load C o → None ≡ over I S l C s
    go None q h = over_none I S l C s q
    go (Some height) q h = over_fits I S l C s height load q e h

-- ---- the answer over all sections
pub overloaded_found : (I : Instance) (S : SectionList) (l : Claim) (C s : ℕ) (o : Option (ℕ × ℕ)) →
    is_some o ≡ true → o ≡ over I S l C s → s < count_of S → ((k : ℕ) → k < s → over I S l C k ≡ None) →
    o ≡ overloaded I S l C
unfolding overloaded
overloaded_found I S l C s None t e lt h = absurd cc
overloaded_found I S l C s (Some y) t e lt h = sym (first_is (over I S l C) (count_of S) s y lt h (sym e))

pub overloaded_none : (I : Instance) (S : SectionList) (l : Claim) (C n : ℕ) → count_of S ≤ n →
    ((k : ℕ) → k < n → over I S l C k ≡ None) → None ≡ overloaded I S l C
unfolding overloaded
overloaded_none I S l C n le h = sym (none_is (over I S l C) (count_of S) (λ k lt. h k (omega arith)))

-- ---- a load, as a contract sees it
pub load_of_view : (I : Instance) (S : SectionList) (members : List ℕ) (n : ℕ) (stack ledges hs : List ℕ)
    (rows : List (List ℕ)) (flags : List Bool) (ls : List ℕ) (k : Sky) (s : ℕ) →
    record { instance = I; sections = S; claims = claims_of I (whole I members) (reverse (take n stack)) } ≡ k →
    IsLoaded I S members n stack ledges hs rows flags ls → s < count_of k.sections →
    (s < length ls) × ((slice_index ls s ≡ free_load k.instance k.sections (last_claim k.claims) s) ×
    (slice_index ls s ≤ buffer_limit * 2 ^ 40))
load_of_view I S members n stack ledges hs rows flags ls k s e h lt = (
  omega (arith, here, h.loads.count),
  (
    same,
    (let m = load_limited I S (claim_after I (whole I members) (reverse (take n stack))) s
        h.sky.carries.buffers h.sky.carries.count h.sky.carries.belongs here in let d = h.loads.each s here in
        omega arith),
  ),
)
  where
    here : s < count_of S
    here = let q = ap (λ (x : Sky). count_of x.sections) e in omega (arith, q)

    same : slice_index ls s ≡ free_load k.instance k.sections (last_claim k.claims) s
    same = h.loads.each s here ∙ ap (λ l. free_load I S l s)
        (sym (last_of_claims I (whole I members) (reverse (take n stack))))
        ∙ ap (λ (x : Sky). free_load x.instance x.sections (last_claim x.claims) s) e
