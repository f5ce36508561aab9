-- The pairs of sides that meet.
use Rattle.std.proofs.Common.{◌≡◌, ℕ, ◌<◌, ◌≤◌, inl, inr, true, ◌==◌, ◌&&◌, nat_lt, nat_le, max, min, List, ◌++◌, filter, ap₂, sym, subst, ◌∙◌, arith}
use Rattle.std.specs.List.{All, flat_map}
use Rattle.std.specs.List.Sorted.{IsPermutation}
use Rattle.std.proofs.lemmas.Bool.Decides.{nat_tests}
use Rattle.std.proofs.lemmas.List.Sorted.{IsPermutation-sym}
use Rattle.dsa_terms.specs.Claims.{IsIn}
use Rattle.dsa_terms.proofs.Lists.{from_append, from_filter, from_flat, from_map, into_filter, into_flat, into_map, left_append, right_append}
use Rattle.dsa_terms.proofs.NumberTests.{below_or_from}
use Rattle.dsa_terms.proofs.Places.{in_from_all, in_permutation}
use Rattle.layout_picture.specs.Sides.{AreMet, IsMet, IsSide, Meet, begins_on, pair_of, pairs_begun}
use Rattle.layout_picture.specs.declared.side.Side.{Side}
use Rattle.layout_picture.specs.declared.touching.Pair.{Pair}

-- what it is to begin on a side
record Begins (s t : Side) : Type 0 where
  pub line : t.line ≡ s.line
  pub from : s.from ≤ t.from
  pub to : t.from < s.to

told_begins : (s t : Side) → begins_on s t ≡ true → Begins s t
told_begins s t h = let k = told t.line s.line s.from t.from s.to h in record { line = k.0; from = k.1; to = k.2 }
  where
    told : (l k b c e : ℕ) → ((l == k) && nat_le b c && nat_lt c e) ≡ true → (l ≡ k) × (b ≤ c) × (c < e)
    told l k b c e h = (grind (arith, nat_tests), grind (arith, nat_tests), grind (arith, nat_tests))

does_begin : (s t : Side) → t.line ≡ s.line → s.from ≤ t.from → t.from < s.to → begins_on s t ≡ true
does_begin s t e le lt = told t.line s.line s.from t.from s.to e le lt
  where
    told : (l k b c e : ℕ) → l ≡ k → b ≤ c → c < e → ((l == k) && nat_le b c && nat_lt c e) ≡ true
    told l k b c e q le lt = grind (arith, nat_tests)

pair_back : (b c : ℕ) → pair_of b c ≡ pair_of c b
pair_back b c =
    ap₂ (λ (m n : ℕ). let p : Pair = record { later = m; earlier = n } in p)
    (let e : max b c ≡ max c b = omega arith in e) (let e : min b c ≡ min c b = omega arith in e)

-- the pair of a side and one that begins on it is among those put
is_begun : (sides others : List Side) (s t : Side) → IsIn s sides → IsIn t others → begins_on s t ≡ true →
    IsIn (pair_of s.buffer t.buffer) (flat_map (pairs_begun others) sides)
is_begun sides others s t i j h = into_flat (pairs_begun others) sides s (pair_of s.buffer t.buffer) i
    (into_map (λ (t : Side). pair_of s.buffer t.buffer) (filter (begins_on s) others) t
    (into_filter (begins_on s) others t j h))

-- and each of these is of a side and one that begins on it
record IsBegun (sides others : List Side) (p : Pair) : Type 0 where
  pub on : Side
  pub begun : Side
  pub is_side : IsIn on sides
  pub is_other : IsIn begun others
  pub begins : Begins on begun
  pub is : p ≡ pair_of on.buffer begun.buffer

of_begun : (sides others : List Side) (p : Pair) → IsIn p (flat_map (pairs_begun others) sides) → IsBegun sides others p
of_begun sides others p i =
    let r = from_flat (pairs_begun others) sides p i in
    let m = from_map (λ (t : Side). pair_of r.0.buffer t.buffer) (filter (begins_on r.0) others) p r.2 in
    let f = from_filter (begins_on r.0) others m.0 m.1 in
    record {
      on = r.0;
      begun = m.0;
      is_side = r.1;
      is_other = f.0;
      begins = told_begins r.0 m.0 f.1;
      is = m.2;
    }

pub are_met : (ends begins sorted_ends sorted_begins : List Side) (old mid new : List Pair) → All IsSide ends →
    All IsSide begins → IsPermutation ends sorted_ends → IsPermutation begins sorted_begins →
    mid ≡ old ++ flat_map (pairs_begun sorted_begins) sorted_ends →
    new ≡ mid ++ flat_map (pairs_begun sorted_ends) sorted_begins → AreMet ends begins old new
are_met ends begins es bs old mid new some_ends some_begins p q first second = record {
  kept = λ x i. later x (earlier x (left_append old (flat_map (pairs_begun bs) es) x i));
  all = λ x m. subst (λ (y : Pair). IsIn y new) (sym m.is) (met m.end m.begin m.is_end m.is_begin m.meet);
  each = λ x i. elim (from_append mid (flat_map (pairs_begun es) bs) x (subst (IsIn x) second i)) [
    | inl j ↦ elim (from_append old (flat_map (pairs_begun bs) es) x (subst (IsIn x) first j)) [
      | inl k ↦ inl k
      | inr k ↦ inr (of_ends x (of_begun es bs x k))
    ]
    | inr j ↦ inr (of_begins x (of_begun bs es x j))
  ];
}
  where
    earlier : (x : Pair) → IsIn x (old ++ flat_map (pairs_begun bs) es) → IsIn x mid
    earlier x i = subst (IsIn x) (sym first) i

    later : (x : Pair) → IsIn x mid → IsIn x new
    later x i = subst (IsIn x) (sym second) (left_append mid (flat_map (pairs_begun es) bs) x i)

    met : (s t : Side) → IsIn s ends → IsIn t begins → Meet s t → IsIn (pair_of s.buffer t.buffer) new
    met s t i j m =
        let k = in_permutation ends es s p i in let l = in_permutation begins bs t q j in
        elim (below_or_from t.from s.from) [
          | inr le ↦ later _ (earlier _ (right_append old (flat_map (pairs_begun bs) es) _
              (is_begun es bs s t k l (does_begin s t (sym m.line) le m.not_ended))))
          | inl lt ↦ subst (λ (y : Pair). IsIn y new) (pair_back t.buffer s.buffer)
              (subst (IsIn _) (sym second) (right_append mid (flat_map (pairs_begun es) bs) _
              (is_begun bs es t s l k (does_begin t s m.line (omega arith) m.begun))))
        ]

    of_ends : (x : Pair) → IsBegun es bs x → IsMet ends begins x
    of_ends x b = let j = in_permutation bs begins b.begun (IsPermutation-sym begins bs q) b.is_other in record {
      end = b.on;
      begin = b.begun;
      is_end = in_permutation es ends b.on (IsPermutation-sym ends es p) b.is_side;
      is_begin = j;
      meet = record {
        line = sym b.begins.line;
        begun = let some = in_from_all IsSide begins some_begins b.begun j in let a = b.begins.from in omega arith;
        not_ended = b.begins.to;
      };
      is = b.is;
    }

    of_begins : (x : Pair) → IsBegun bs es x → IsMet ends begins x
    of_begins x b = let j = in_permutation es ends b.begun (IsPermutation-sym ends es p) b.is_other in record {
      end = b.begun;
      begin = b.on;
      is_end = j;
      is_begin = in_permutation bs begins b.on (IsPermutation-sym begins bs q) b.is_side;
      meet = record {
        line = b.begins.line;
        begun = b.begins.to;
        not_ended = let some = in_from_all IsSide ends some_ends b.begun j in let a = b.begins.from in omega arith;
      };
      is = b.is ∙ pair_back b.on.buffer b.begun.buffer;
    }
