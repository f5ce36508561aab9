-- Sides in order, and those that begin on one.
use Rattle.std.proofs.Common.{◌≡◌, ◌≢◌, ℕ, ◌<◌, ◌≤◌, ◌⊎◌, inl, inr, Bool, true, false, not, cond, ◌==◌, ◌&&◌, ◌||◌, nat_lt, nat_le, nat_cmp, List, Ordering, get_or, refl, sym, arith}
use Rattle.std.proofs.lemmas.Bool.Decides.{nat_tests}
use Rattle.std.specs.Cmp.{IsTotalOrder}
use Rattle.std.specs.List.Sorted.{IsPartitionedBy, IsSortedByKey}
use Rattle.std.specs.Ordering.{is_lt, ordering_then}
use Rattle.std.specs.declared.cmp.Ordering.TheVariants.{Equal, Greater, Less}
use Rattle.std.proofs.lemmas.Cmp.{nat_cmp_total, on_total, then_total}
use Rattle.std.proofs.lemmas.List.Sorted.{ranks_by, sorted_far}
use Rattle.dsa_terms.proofs.NumberTests.{differ, equal, not_less}
use Rattle.layout_picture.specs.Sides.{AreInOrder, IsSide, begins_on, is_before}
use Rattle.layout_picture.specs.declared.side.Side.{Side}

-- ---- sorted by line and place
-- the order of pairs: by the first, and where these are equal by the second
abbrev pub pair_cmp : ℕ × ℕ → ℕ × ℕ → Ordering
pair_cmp a b = ordering_then (nat_cmp a.0 b.0) (nat_cmp a.1 b.1)

pub pairs_total : IsTotalOrder pair_cmp
pairs_total = then_total (on_total (λ (a : ℕ × ℕ). a.0) nat_cmp_total) (on_total (λ (a : ℕ × ℕ). a.1) nat_cmp_total)

-- the line of a side before where it begins
abbrev pub point_of : Side → ℕ × ℕ
point_of s = (s.line, s.from)

not_before : (k l b c : ℕ) → is_lt (ordering_then (nat_cmp l k) (nat_cmp c b)) ≡ false → (k < l) ⊎ ((k ≡ l) × (b ≤ c))
not_before k l b c h = go (nat_lt l k) refl (l == k) refl (nat_lt c b) refl (c == b) h
  where
    more : (m n : ℕ) → n ≤ m → m ≢ n → n < m
    more m n p q = grind arith

    go : (p : Bool) → nat_lt l k ≡ p → (q : Bool) → (l == k) ≡ q → (r : Bool) → nat_lt c b ≡ r → (s : Bool) →
        is_lt (ordering_then (cond p Less (cond q Equal Greater)) (cond r Less (cond s Equal Greater))) ≡ false →
        (k < l) ⊎ ((k ≡ l) × (b ≤ c))
    go true p q e r f s g = absurd cc
    go false p true e true f s g = absurd cc
    go false p true e false f s g = inr (sym (equal l k e), not_less c b f)
    go false p false e r f s g = inl (more l k (not_less l k p) (differ l k e))

pub sorted_sides : (sides : List Side) → IsSortedByKey point_of pair_cmp sides → AreInOrder sides
sorted_sides sides up = record {
  rising = λ j k d le lt. not_before (get_or sides j d).line (get_or sides k d).line
      (get_or sides j d).from (get_or sides k d).from
      (sorted_far (λ s t. is_lt (pair_cmp (point_of s) (point_of t)))
      (ranks_by pairs_total point_of) sides up j k d le lt);
}

-- ---- what comes before a point comes first
pub parted : (sides : List Side) (line at : ℕ) → AreInOrder sides → IsPartitionedBy (is_before line at) sides
parted sides line at h = λ j k d le lt t. earlier (get_or sides j d).line (get_or sides k d).line
    (get_or sides j d).from (get_or sides k d).from (h.rising j k d le lt) t
  where
    earlier : (k l b c : ℕ) → (k < l) ⊎ ((k ≡ l) × (b ≤ c)) → (nat_lt l line || ((l == line) && nat_lt c at)) ≡ true →
        (nat_lt k line || ((k == line) && nat_lt b at)) ≡ true
    earlier k l b c (inl q) t = grind (arith, nat_tests)
    earlier k l b c (inr q) t = let x = q.0 in let y = q.1 in grind (arith, nat_tests)

-- ---- what begins on a side is before its end, and not before its beginning
pub before_more : (s : Side) → IsSide s → (t : Side) → is_before s.line s.from t ≡ true → is_before s.line s.to t ≡ true
before_more s lt t h = more t.line s.line t.from s.from s.to lt h
  where
    more : (l k c b e : ℕ) → b < e → (nat_lt l k || ((l == k) && nat_lt c b)) ≡ true →
        (nat_lt l k || ((l == k) && nat_lt c e)) ≡ true
    more l k c b e lt h = grind (arith, nat_tests)

pub begun_is : (s t : Side) → begins_on s t ≡ (is_before s.line s.to t && not (is_before s.line s.from t))
begun_is s t = same t.line s.line t.from s.from s.to
  where
    same : (l k c b e : ℕ) → ((l == k) && nat_le b c && nat_lt c e)
        ≡ ((nat_lt l k || ((l == k) && nat_lt c e)) && not (nat_lt l k || ((l == k) && nat_lt c b)))
    same l k c b e = grind (arith, nat_tests)
