-- The number that rises along an order.
use Rattle.std.proofs.Common.{◌≡◌, ◌^◌, ℕ, ◌-◌, ◌<◌, ◌≤◌, ◌⊎◌, inl, inr, true, ◌==◌, ◌&&◌, ◌||◌, nat_lt, arith}
use Rattle.std.proofs.Math.Nat.{mul-le-mul}
use Rattle.std.proofs.lemmas.Bool.Decides.{nat_tests}
use Rattle.dsa_terms.specs.Buffers.{Buffer, Instance, buffer}
use Rattle.dsa_terms.specs.Orders.{area, falls_by, rises_by}
use Rattle.dsa_model.specs.Buffer.{IsBuffer}
use Rattle.first_fit.specs.Orders.{before_by, order_key}
use Rattle.first_fit.specs.declared.orders.Order.{Order}
use Rattle.first_fit.specs.declared.orders.Order.TheVariants.{AreaFalling, LowerRising, SizeFalling}

-- the area is within the limits
pub area_limit : (x : Buffer) → IsBuffer x → area x ≤ 2 ^ 102
area_limit x h = let k = mul-le-mul {n₁ = x.size} {m₁ = x.upper - x.lower} {n₂ = 2 ^ 40} {m₂ = 2 ^ 62} h.within_size
    (lifetime x.upper x.lower h.upper_limit) in k
  where
    lifetime : (u l : ℕ) → u < 2 ^ 62 → u - l ≤ 2 ^ 62
    lifetime u l q = omega arith

before_is : (m n b c : ℕ) → (n < m) ⊎ ((m ≡ n) × (b < c)) → (nat_lt n m || ((n == m) && nat_lt b c)) ≡ true
before_is m n b c (inl q) = grind (arith, nat_tests)
before_is m n b c (inr q) = let x = q.0 in let y = q.1 in grind (arith, nat_tests)

-- taken from a greatest number the greater measure leaves less
falls : (M m n b c : ℕ) → m ≤ M → n ≤ M → (M - m < M - n) ⊎ ((M - m ≡ M - n) × (b < c)) → (n < m) ⊎ ((m ≡ n) × (b < c))
falls M m n b c p q (inl h) = inl (omega arith)
falls M m n b c p q (inr h) = inr (omega arith, h.1)

-- the buffer of the lesser key comes first, and of equal keys that of the smaller number
pub comes_first : (order : Order) (I : Instance) (b c : ℕ) → IsBuffer (buffer I b) → IsBuffer (buffer I c) →
    (order_key order (buffer I b) < order_key order (buffer I c))
    ⊎ ((order_key order (buffer I b) ≡ order_key order (buffer I c)) × (b < c)) → before_by order I b c ≡ true
unfolding falls_by rises_by
comes_first SizeFalling I b c x y h = before_is (buffer I b).size (buffer I c).size b c
    (falls (2 ^ 128 - 1) (buffer I b).size (buffer I c).size b c (under (buffer I b).size x.within_size)
    (under (buffer I c).size y.within_size) h)
  where
    under : (n : ℕ) → n ≤ 2 ^ 40 → n ≤ 2 ^ 128 - 1
    under n q = omega arith
comes_first LowerRising I b c x y h = rises (buffer I b).lower (buffer I c).lower h
  where
    rises : (m n : ℕ) → (m < n) ⊎ ((m ≡ n) × (b < c)) → (nat_lt m n || ((m == n) && nat_lt b c)) ≡ true
    rises m n (inl q) = grind (arith, nat_tests)
    rises m n (inr q) = let x = q.0 in let y = q.1 in grind (arith, nat_tests)
comes_first AreaFalling I b c x y h = before_is (area (buffer I b)) (area (buffer I c)) b c
    (falls (2 ^ 128 - 1) (area (buffer I b)) (area (buffer I c)) b c
    (under (area (buffer I b)) (area_limit (buffer I b) x)) (under (area (buffer I c)) (area_limit (buffer I c) y))
    h)
  where
    under : (n : ℕ) → n ≤ 2 ^ 102 → n ≤ 2 ^ 128 - 1
    under n q = omega arith
