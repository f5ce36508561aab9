-- The Over line of one buffer at the least height at which it ends above the capacity.
use Rattle.std.proofs.Common.{◌≡◌, ℕ, ◌+◌, ◌-◌, ◌%◌, ◌<◌, ◌≤◌, inl, inr, true, ◌==◌, nat_le, List, [], ◌∷◌, map, filter, length, sym, refl, ◌∙◌, arith, sum_by}
use Rattle.std.proofs.lemmas.Bool.Decides.{nat_tests}
use Rattle.std.specs.Int.{next_multiple_of}
use Rattle.branching.proofs.Words.{Instance, buffer, is_live, Claim, Entry, IsClaim, up, Line, Over, IsLegal, is_stacked, rounded, rounding, greatest, is_at_most, IsBuffer}
use Rattle.dsa_terms.proofs.Numbers.{next_at_or_above, next_is_below}

next_of_one : (x : ℕ) → next_multiple_of x 1 ≡ x
next_of_one x = let a : x ≤ next_multiple_of x 1 = next_at_or_above x 1 (omega arith) in
    let b : next_multiple_of x 1 < x + 1 = next_is_below x 1 (omega arith) in omega arith

pub rounded_is : (I : Instance) (e : Entry) → rounded I 1 e ≡ (buffer I e.0).size
unfolding rounded
rounded_is I e = next_of_one (buffer I e.0).size

pub rounding_is : (I : Instance) (e : Entry) → rounding I 1 e ≡ 0
unfolding rounding
rounding_is I e = let k = rounded_is I e in omega arith

-- one buffer alone, with the height for its bound
abbrev pub Alone : ℕ → ℕ → Claim
Alone b H = (b, H) ∷ []

-- how high the stacked ones reach
reach : Instance → ℕ → List Entry → ℕ
reach I H es = H + sum_by (rounded I 1) es - greatest (map (rounding I 1) es)

one_reaches : (I : Instance) (b H : ℕ) → reach I H (Alone b H) ≡ H + (buffer I b).size
unfolding reach
one_reaches I b H = rw (rounded_is I (b, H), rounding_is I (b, H)) (omega arith)

stacked_alone : (I : Instance) (b T H : ℕ) → IsBuffer (buffer I b) → is_live (buffer I b) T ≡ true →
    filter (is_stacked I T H 1) (Alone b H) ≡ Alone b H
unfolding is_stacked up
stacked_alone I b T H s live =
    let high : nat_le H (next_multiple_of H (buffer I b).alignment) ≡ true = is_at_most H
    (next_multiple_of H (buffer I b).alignment) (next_at_or_above H (buffer I b).alignment s.sound.1) in
    let even : ((buffer I b).alignment % 1 == 0) ≡ true = by_one (buffer I b).alignment in
    rw (live, high, even) refl
  where
    by_one : (a : ℕ) → (a % 1 == 0) ≡ true
    by_one a = grind (arith, nat_tests)

claim_alone : (I : Instance) (b H : ℕ) → b < length I → IsClaim I (Alone b H)
claim_alone I b H h = record {
  rises = ((λ y i. absurd i), tt);
  in_range = λ e i. elim i [ inl q ↦ rw q h | inr j ↦ absurd j ];
}

pub tall_is_legal : (I : Instance) (C b T : ℕ) (earlier : List Line) → IsBuffer (buffer I b) → b < length I →
    is_live (buffer I b) T ≡ true →
    IsLegal I C earlier (Over (Alone b (C + 1 - (buffer I b).size)) T (C + 1 - (buffer I b).size) 1)
unfolding reach
tall_is_legal I C b T earlier s h live = record {
  claim = claim_alone I b H h;
  not_empty = λ q. cc;
  reason = record {
    modulus = omega arith;
    from_multiple = omega arith;
    some_stacked = λ q. (let k : Alone b H ≡ [] = sym stacked ∙ q in cc);
    too_high = rw stacked (let k = one_reaches I b H in omega arith);
  };
}
  where
    H : ℕ
    H = C + 1 - (buffer I b).size

    stacked : filter (is_stacked I T H 1) (Alone b H) ≡ Alone b H
    stacked = stacked_alone I b T H s live
