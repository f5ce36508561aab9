-- The stack of a moment over numbers of buffers: what is counted, its pile, and the line of it.
use Rattle.std.proofs.Common.{◌≡◌, ℕ, ◌+◌, ◌-◌, ◌%◌, ◌<◌, ◌≤◌, ◌≢◌, Bool, true, false, ◌&&◌, ◌==◌, cond, List, [], ◌∷◌, map, length, filter, sum_by, nat_le, refl, ap, ◌∙◌, arith}
use Rattle.std.specs.Int.{next_multiple_of}
use Rattle.std.proofs.lemmas.List.Sums.{sum_by-cons}
use Rattle.dsa_terms.specs.Buffers.{Instance, buffer, is_live, floor}
use Rattle.dsa_terms.specs.Claims.{Claim, Entry, IsIn, up}
use Rattle.dsa_terms.specs.Logs.{is_stacked, rounded, rounding, greatest, stack_height, Over}
use Rattle.dsa_terms.specs.Parts.{is_empty, numbers, whole}
use Rattle.dsa_terms.specs.Bounds.{counted, stack, line_height, stack_line}
use Rattle.dsa_terms.proofs.Lists.{from_filter, into_filter}
use Rattle.dsa_terms.proofs.Moments.{and_true, both_true}
use Rattle.dsa_terms.proofs.NumberTests.{at_most, is_at_most}
use Rattle.dsa_terms.proofs.Ranges.{from_range, into_range}
use Rattle.dsa_start_laws.specs.Piles.{counted_buffers, rounded_size, pile}

-- ---- the counted buffers
pub in_counted : (I : Instance) (t H G b : ℕ) → IsIn b (counted_buffers I t H G) →
    (b < length I) × (is_live (buffer I b) t ≡ true) × (H ≤ floor (buffer I b))
    × (((buffer I b).alignment % G == 0) ≡ true)
unfolding counted_buffers
in_counted I t H G b i =
    let r = from_filter (λ b. is_live (buffer I b) t && nat_le H (floor (buffer I b))
    && ((buffer I b).alignment % G == 0)) (numbers (length I)) b i in
    let k = from_range (length I) 0 b r.0 in
    let q = and_true (is_live (buffer I b) t && nat_le H (floor (buffer I b))) ((buffer I b).alignment % G == 0) r.1 in
    let p = and_true (is_live (buffer I b) t) (nat_le H (floor (buffer I b))) q.0 in
    ((let z = k.1 in omega arith), p.0, at_most H (floor (buffer I b)) p.1, q.1)

pub into_counted : (I : Instance) (t H G b : ℕ) → b < length I → is_live (buffer I b) t ≡ true →
    H ≤ floor (buffer I b) → ((buffer I b).alignment % G == 0) ≡ true → IsIn b (counted_buffers I t H G)
unfolding counted_buffers
into_counted I t H G b lt live high m =
    into_filter (λ b. is_live (buffer I b) t && nat_le H (floor (buffer I b)) && ((buffer I b).alignment % G == 0))
    (numbers (length I)) b (into_range (length I) 0 b (omega arith) (omega arith))
    (both_true (is_live (buffer I b) t && nat_le H (floor (buffer I b))) ((buffer I b).alignment % G == 0)
    (both_true (is_live (buffer I b) t) (nat_le H (floor (buffer I b))) live (is_at_most H (floor (buffer I b)) high))
    m)

-- ---- a claim that gives each of some buffers a bound: its sums do not depend on the bounds
abbrev pub with_bounds : (ℕ → ℕ) → List ℕ → Claim
with_bounds g p = map (λ b. (b, g b)) p

sum_of_bounds : (I : Instance) (G : ℕ) (g : ℕ → ℕ) (p : List ℕ) →
    sum_by (rounded I G) (with_bounds g p) ≡ sum_by (rounded_size I G) p
unfolding rounded rounded_size
sum_of_bounds I G g [] = refl
sum_of_bounds I G g (b ∷ bs) = rw (
  sum_by-cons (rounded I G) (b, g b) (with_bounds g bs),
  sum_by-cons (rounded_size I G) b bs,
  sum_of_bounds I G g bs,
) refl

roundings_of_bounds : (I : Instance) (G : ℕ) (g : ℕ → ℕ) (p : List ℕ) →
    map (rounding I G) (with_bounds g p) ≡ map (λ b. rounded_size I G b - (buffer I b).size) p
unfolding rounding rounded rounded_size
roundings_of_bounds I G g [] = refl
roundings_of_bounds I G g (b ∷ bs) = ap (λ ys. rounding I G (b, g b) ∷ ys) (roundings_of_bounds I G g bs)

pub greatest_in_sum : (f g : ℕ → ℕ) (xs : List ℕ) → ((x : ℕ) → g x ≤ f x) → greatest (map g xs) ≤ sum_by f xs
greatest_in_sum f g [] h = omega arith
greatest_in_sum f g (x ∷ xs) h = rw (sum_by-cons f x xs) (let k = greatest_in_sum f g xs h in let z = h x in
    omega arith)

-- the stack of such a claim is its height with the pile of the buffers
pub height_of_bounds : (I : Instance) (h G : ℕ) (g : ℕ → ℕ) (p : List ℕ) →
    stack_height I h G (with_bounds g p) ≡ h
    + (sum_by (rounded_size I G) p - greatest (map (λ b. rounded_size I G b - (buffer I b).size) p))
height_of_bounds I h G g p =
    rw (sum_of_bounds I G g p, roundings_of_bounds I G g p) (close h (sum_by (rounded_size I G) p)
    (greatest (map (λ b. rounded_size I G b - (buffer I b).size) p))
    (greatest_in_sum (rounded_size I G) (λ b. rounded_size I G b - (buffer I b).size) p (λ x. omega arith)))
  where
    close : (h s g : ℕ) → g ≤ s → h + s - g ≡ h + (s - g)
    close h s g le = omega arith

-- ---- the definitions over the claim of the counted say the same
filter_of_map : (f : ℕ → Entry) (q : Entry → Bool) (xs : List ℕ) →
    filter q (map f xs) ≡ map f (filter (λ b. q (f b)) xs)
filter_of_map f q [] = refl
filter_of_map f q (x ∷ xs) = go (q (f x)) (filter_of_map f q xs)
  where
    go : (c : Bool) → filter q (map f xs) ≡ map f (filter (λ b. q (f b)) xs) →
        cond c (f x ∷ filter q (map f xs)) (filter q (map f xs)) ≡ map f
        (cond c (x ∷ filter (λ b. q (f b)) xs) (filter (λ b. q (f b)) xs))
    go true ih = ap (λ ys. f x ∷ ys) ih
    go false ih = ih

pub counted_are : (I : Instance) (t H G : ℕ) → counted I t H G ≡ whole I (counted_buffers I t H G)
unfolding counted counted_buffers is_stacked up floor
counted_are I t H G = filter_of_map (λ b. (b, (buffer I b).lowest)) (is_stacked I t H G) (numbers (length I))

counted_height : (I : Instance) (t H G h : ℕ) → stack_height I h G (counted I t H G) ≡ h + pile I t H G
unfolding pile
counted_height I t H G h = ap (stack_height I h G) (counted_are I t H G)
    ∙ height_of_bounds I h G (λ b. (buffer I b).lowest) (counted_buffers I t H G)

pub stack_is_pile : (I : Instance) (t H G : ℕ) →
    stack I t H G ≡ cond (is_empty (counted_buffers I t H G)) 0 (H + pile I t H G)
unfolding stack
stack_is_pile I t H G =
    ap (λ n. cond (is_empty (counted I t H G)) 0 n) (counted_height I t H G H)
    ∙ (ap (λ (l : Claim). cond (is_empty l) 0 (H + pile I t H G)) (counted_are I t H G)
    ∙ ap (λ c. cond c 0 (H + pile I t H G)) (empty (counted_buffers I t H G)))
  where
    empty : (p : List ℕ) → is_empty (whole I p) ≡ is_empty p
    empty [] = refl
    empty (b ∷ bs) = refl

pub line_height_is_pile : (I : Instance) (t H G C : ℕ) →
    line_height I t H G C ≡ next_multiple_of (C + 1 - pile I t H G) G
unfolding line_height
line_height_is_pile I t H G C =
    let e : stack_height I 0 G (counted I t H G) ≡ pile I t H G = counted_height I t H G 0 ∙ omega arith in
    ap (λ n. next_multiple_of (C + 1 - n) G) e

pub stack_line_is_pile : (I : Instance) (t H G h : ℕ) →
    stack_line I t H G h ≡ Over (map (λ b. (b, h)) (counted_buffers I t H G)) t h G
unfolding stack_line
stack_line_is_pile I t H G h =
    ap (λ (l : Claim). Over (map (λ e. (e.0, h)) l) t h G) (counted_are I t H G)
    ∙ ap (λ (l : Claim). Over l t h G) (lifted (counted_buffers I t H G))
  where
    lifted : (p : List ℕ) → map (λ (e : Entry). let f : Entry = (e.0, h) in f) (whole I p) ≡ with_bounds (λ b. h) p
    lifted [] = refl
    lifted (b ∷ bs) = ap (λ (l : Claim). (b, h) ∷ l) (lifted bs)

-- ---- the stack
pub over_stack : (I : Instance) (t H G C : ℕ) → C < stack I t H G →
    (counted_buffers I t H G ≢ []) × (C < H + pile I t H G)
over_stack I t H G C lt = go (counted_buffers I t H G) (rw (stack_is_pile I t H G) at lt)
  where
    go : (p : List ℕ) → C < cond (is_empty p) 0 (H + pile I t H G) → (p ≢ []) × (C < H + pile I t H G)
    go [] q = absurd (omega arith)
    go (b ∷ bs) q = ((λ h. cc), q)

pub stack_of_some : (I : Instance) (t H G : ℕ) → counted_buffers I t H G ≢ [] → stack I t H G ≡ H + pile I t H G
stack_of_some I t H G some = stack_is_pile I t H G ∙ go (counted_buffers I t H G) some
  where
    go : (p : List ℕ) → p ≢ [] → cond (is_empty p) 0 (H + pile I t H G) ≡ H + pile I t H G
    go [] n = absurd (n refl)
    go (b ∷ bs) n = refl

pub stack_of_none : (I : Instance) (t H G : ℕ) → counted_buffers I t H G ≡ [] → stack I t H G ≡ 0
stack_of_none I t H G e =
    stack_is_pile I t H G ∙ ap (λ (p : List ℕ). cond (is_empty p) 0 (H + pile I t H G)) e
