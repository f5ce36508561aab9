-- The tally of a section over all buffers is what is stacked there.
use Rattle.std.proofs.Common.{◌≡◌, ℕ, ◌%◌, ◌<◌, ◌≤◌, ◌⊎◌, inl, inr, Bool, true, false, ◌&&◌, ◌==◌, cond, nat_le, List, [], ◌∷◌, length, map, filter, le_antisymm, sym, refl, ap, ◌∙◌, arith}
use Rattle.dsa_terms.specs.Bounds.{heights, highest_at, stack}
use Rattle.dsa_terms.specs.Buffers.{Instance, IsInstance, buffer, floor, is_live}
use Rattle.dsa_terms.specs.Claims.{IsIn}
use Rattle.dsa_terms.specs.Parts.{numbers}
use Rattle.dsa_terms.proofs.Lists.{from_filter, into_filter, into_map}
use Rattle.dsa_terms.proofs.Numbers.{multiple_along}
use Rattle.dsa_terms.proofs.NumberTests.{equal, same}
use Rattle.dsa_search_laws.proofs.Cuts.{item}
use Rattle.dsa_start_laws.specs.Piles.{counted_buffers, pile}
use Rattle.dsa_start_laws.proofs.Piles.{stack_is_pile}
use Rattle.dsa_start_laws.proofs.Places.{floor_is_multiple}
use Rattle.dsa_start_laws.proofs.Stacks.{greatest_all, stack_under_at}
use Rattle.lifetime.specs.SectionList.{SectionList, start_of}
use Rattle.lower_bounds.specs.Best.{IsLeastHeight, stack_at}
use Rattle.lower_bounds.specs.Stacks.{IsFalling, counted_in, counts_at, is_counted, piled_on, spare_of, stack_in, total_of}
use Rattle.lower_bounds.specs.Tallies.{IsTallest, members_among}
use Rattle.lower_bounds.proofs.Orders.{order_below}
use Rattle.lower_bounds.proofs.Piles.{piled_on_moved}

-- a filter of a filter
filter_twice : (p q : ℕ → Bool) (xs : List ℕ) → filter q (filter p xs) ≡ filter (λ x. p x && q x) xs
filter_twice p q [] = refl
filter_twice p q (x ∷ xs) = go (filter_twice p q xs) (p x)
  where
    go : filter q (filter p xs) ≡ filter (λ x. p x && q x) xs → (b : Bool) →
        filter q (cond b (x ∷ filter p xs) (filter p xs)) ≡ cond (b && q x) (x ∷ filter (λ x. p x && q x) xs)
        (filter (λ x. p x && q x) xs)
    go ih true = ap (λ ys. cond (q x) (x ∷ ys) ys) ih
    go ih false = ih

filter_along : (p q r : ℕ → Bool) (xs : List ℕ) →
    filter (λ x. p x && (q x && r x)) xs ≡ filter (λ x. p x && q x && r x) xs
filter_along p q r [] = refl
filter_along p q r (x ∷ xs) = go (filter_along p q r xs) (p x) (q x) (r x)
  where
    go : filter (λ x. p x && (q x && r x)) xs ≡ filter (λ x. p x && q x && r x) xs → (a b c : Bool) →
        cond (a && (b && c)) (x ∷ filter (λ x. p x && (q x && r x)) xs) (filter (λ x. p x && (q x && r x)) xs)
        ≡ cond (a && b && c) (x ∷ filter (λ x. p x && q x && r x) xs) (filter (λ x. p x && q x && r x) xs)
    go ih true true true = ap (λ ys. x ∷ ys) ih
    go ih true true false = ih
    go ih true false c = ih
    go ih false b c = ih

-- the floor of a buffer whose alignment is a multiple of G is a height in question
height_of_floor : (I : Instance) (G b : ℕ) → IsInstance I → b < length I → is_counted I G b ≡ true →
    IsIn (floor (buffer I b)) (heights I G)
unfolding heights
height_of_floor I G b s lt a =
    into_filter (λ H. H % G == 0) (0 ∷ map floor I) (floor (buffer I b))
    (inr (into_map floor I (buffer I b) (item I b lt)))
    (same (floor (buffer I b) % G) 0 (multiple_along (floor (buffer I b)) (buffer I b).alignment G
    (floor_is_multiple I b s) (equal ((buffer I b).alignment % G) 0 a)))

module _ (I : Instance) (S : SectionList) (G : ℕ) (order : List ℕ) (s : ℕ) (instance : IsInstance I)
    (falling : IsFalling I order) where
  members : List ℕ
  members = members_among I S order s

  stack_is : (H : ℕ) → stack I (start_of S s) H G ≡ stack_in I H G (members_among I S order s)
  unfolding pile counted_buffers counted_in members_among piled_on total_of spare_of
  stack_is H = stack_is_pile I (start_of S s) H G ∙ (moved H ∙ ap (piled_on I H G) (sym (twice H)))
    where
      twice : (H : ℕ) → counted_in I H G (members_among I S order s) ≡ filter (counts_at I (start_of S s) H G) order
      twice H = filter_twice (λ b. is_live (buffer I b) (start_of S s))
          (λ b. nat_le H (floor (buffer I b)) && is_counted I G b) order
          ∙ filter_along (λ b. is_live (buffer I b) (start_of S s)) (λ b. nat_le H (floor (buffer I b)))
          (is_counted I G) order

      moved : (H : ℕ) → piled_on I H G (filter (counts_at I (start_of S s) H G) (numbers (length I)))
          ≡ piled_on I H G (filter (counts_at I (start_of S s) H G) order)
      moved H = piled_on_moved I H G (counts_at I (start_of S s) H G) (numbers (length I)) order falling.all

  in_members : (b : ℕ) → IsIn b (members_among I S order s) → b < length I
  unfolding members_among
  in_members b i = order_below I order b falling
      (from_filter (λ b. is_live (buffer I b) (start_of S s)) order b i).0

  module _ (value height : ℕ) (h : IsTallest I G (members_among I S order s) value height) where
    -- the height is one in question where there is a stack
    among : 1 ≤ value → IsIn height (heights I G)
    among pos = elim h.from [
      | inl z ↦ absurd (omega arith)
      | inr r ↦ rw (← r.3) (height_of_floor I G r.0 instance (in_members r.0 r.1) r.2)
    ]

    pub tallest_is : value ≡ stack_at I S G s
    unfolding highest_at
    tallest_is = le_antisymm (under (zero_or_not value)) (greatest_all (λ H. stack I (start_of S s) H G) (heights I G)
        value (λ H i. let e = stack_is H in let k = h.most H in omega arith))
      where
        zero_or_not : (n : ℕ) → (n ≡ 0) ⊎ (1 ≤ n)
        zero_or_not n = grind arith

        under : (value ≡ 0) ⊎ (1 ≤ value) → value ≤ highest_at I (start_of S s) G
        under (inl z) = omega arith
        under (inr pos) =
            let k = stack_under_at I (start_of S s) height G (among pos) in
            let e = stack_is height in
            let r = h.reached in
            omega arith

    pub tallest_height : 1 ≤ value → IsLeastHeight I (start_of S s) G value height
    tallest_height pos = record {
      among = among pos;
      reached = stack_is height ∙ h.reached;
      least = λ H e. h.lowest H pos (sym (stack_is H) ∙ e);
    }
