-- Lows by levels are those of the claim.
use Rattle.std.proofs.Common.{◌≡◌, ℕ, ◌+◌, ◌<◌, ◌≤◌, inl, inr, Bool, true, false, cond, nat_lt, List, [], ◌∷◌, map, length, slice_index, Option, Some, None, refl, sym, ap, arith}
use Rattle.std.specs.List.{All, filter}
use Rattle.std.proofs.lemmas.Bool.Decides.{nat_tests}
use Rattle.std.proofs.lemmas.List.{get_or_past}
use Rattle.dsa_terms.specs.Buffers.{Instance}
use Rattle.dsa_terms.specs.Claims.{Claim, up}
use Rattle.dsa_terms.proofs.NumberTests.{below_or_from, is_below}
use Rattle.lifetime.specs.SectionList.{members_of, SectionList}
use Rattle.canonical_order.specs.Claims.{entry_of}
use Rattle.canonical_order.specs.Levels.{AreLevels}
use Rattle.canonical_order.proofs.LevelLemmas.{has_level as level_has, level_inside}
use Rattle.skyline.specs.LowsOf.{has_level, least_low, low_of}
use Rattle.skyline.specs.Overloads.{FitsFrom, is_left, least_of, least_up, lower}
use Rattle.skyline.proofs.Loads.{gives_left, left_gives}

-- two tests that agree, and functions that agree where they hold
same_least : (f g : ℕ → ℕ) (p q : ℕ → Bool) → ((b : ℕ) → p b ≡ q b) → ((b : ℕ) → q b ≡ true → f b ≡ g b) →
    (xs : List ℕ) → map f (filter p xs) ≡ map g (filter q xs)
same_least f g p q t e [] = refl
same_least f g p q t e (x ∷ xs) = rw (t x) (go (same_least f g p q t e xs) (q x) (e x))
  where
    go : map f (filter p xs) ≡ map g (filter q xs) → (b : Bool) → (b ≡ true → f x ≡ g x) →
        map f (cond b (x ∷ filter p xs) (filter p xs)) ≡ map g (cond b (x ∷ filter q xs) (filter q xs))
    go ih true h = let k = h refl in cc
    go ih false h = ih

some_more : (n : ℕ) → nat_lt 0 n ≡ true → 0 < n
some_more n h = grind (arith, nat_tests)

both : (s t : Bool) → (s ≡ true → t ≡ true) → (t ≡ true → s ≡ true) → s ≡ t
both true t h k = sym (h refl)
both false true h k = k refl
both false false h k = refl

module _ (I : Instance) (l : Claim) (levels : List ℕ) (h : AreLevels I l levels) where
  leveled_is_left : (b : ℕ) → has_level levels b ≡ is_left l b
  leveled_is_left b = both (has_level levels b) (is_left l b)
      (λ t. gives_left l b (level_has I l levels h b (some_more (slice_index levels b) t)))
      (λ t. is_below 0 (slice_index levels b)
      (let k = level_inside I l levels h b (left_gives l b t) in omega arith))

  low_is_up : (b : ℕ) → is_left l b ≡ true → low_of levels b ≡ up I (entry_of l b)
  low_is_up b t = let k = level_inside I l levels h b (left_gives l b t) in omega arith

  pub least_low_is : (S : SectionList) (s : ℕ) → least_low levels (members_of S s) ≡ least_up I S l s
  unfolding least_up
  least_low_is S s = ap least_of (same_least (low_of levels) (λ b. up I (entry_of l b)) (has_level levels) (is_left l)
      leveled_is_left low_is_up (members_of S s))

-- a load that fits from a number that no level passes fits from the least low
pub fits_from_top : (levels buffers : List ℕ) (top load C : ℕ) → All (λ level. level ≤ top) levels →
    load + top ≤ C → FitsFrom load C (least_low levels buffers)
fits_from_top levels buffers top load C most le = go (filter (has_level levels) buffers)
  where
    low_within : (b : ℕ) → low_of levels b ≤ top
    low_within b = elim (below_or_from b (length levels)) [
      | inl lt ↦ let k = most b 0 lt in omega arith
      | inr past ↦ let k : slice_index levels b ≡ 0 = get_or_past levels b 0 past in omega arith
    ]

    go : (bs : List ℕ) → FitsFrom load C (least_of (map (low_of levels) bs))
    go [] = tt
    go (b ∷ bs) = lesser (least_of (map (low_of levels) bs))
      where
        lesser : (o : Option ℕ) → FitsFrom load C (lower (low_of levels b) o)
        lesser None = let k = low_within b in omega arith
        lesser (Some m) = let k = low_within b in omega arith
