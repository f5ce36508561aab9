-- A Cases line with lower bounds, which is legal by the two lines.
use Rattle.std.proofs.Common.{◌≡◌, ◌≤◌, inl, inr, [], ◌∷◌, refl, subst, lit≤, arith}
use Rattle.dsa_terms.specs.Buffers.{is_live, buffer, do_share, have_same_moments, some_before}
use Rattle.dsa_terms.specs.Claims.{Claim, Entry, IsIn, child, step, up}
use Rattle.dsa_terms.specs.Lean.{CitesOwn}
use Rattle.dsa_terms.specs.Logs.{ByLine, Cases, IsLegalCite, Over, ends_below, is_twin}
use Rattle.conflicts.specs.Eased.{IsLower, IsLowerCases, IsNoHigher}
use Rattle.conflicts.proofs.ExampleFacts.{four, two_lines}

abbrev lower : Claim
lower = (1, 1) ∷ (2, 1) ∷ []

-- the child by 1 has 2 from 3 on, and the child by 2 has 1 from 3 on, which is met at 4
legal_by_first : IsLegalCite four two_lines lower (1, 1) (ByLine 0)
unfolding child step do_share some_before is_live up buffer
legal_by_first = (
  Over ((2, 3) ∷ []) 0 3 1,
  refl,
  λ e i. elim i [
    | inl q ↦ ((2, 3), inl refl, rw q refl, rw q (lit≤ {m = 3} {n = 3} tt))
    | inr j ↦ absurd j
  ],
)

legal_by_second : IsLegalCite four two_lines lower (2, 1) (ByLine 1)
unfolding child step do_share some_before is_live up buffer
legal_by_second = (
  Over ((1, 4) ∷ []) 0 4 1,
  refl,
  λ e i. elim i [
    | inl q ↦ ((1, 3), inl refl, rw q refl, rw q (lit≤ {m = 4} {n = 4} tt))
    | inr j ↦ absurd j
  ],
)

no_own_of_1 : CitesOwn four lower (1, 1) (ByLine 0)
unfolding ends_below is_twin have_same_moments some_before is_live up buffer
no_own_of_1 t = absurd cc

no_own_of_2 : CitesOwn four lower (2, 1) (ByLine 1)
unfolding ends_below is_twin have_same_moments some_before is_live up buffer
no_own_of_2 t = absurd cc

lower_line : IsLowerCases four two_lines ((1, 2) ∷ (2, 2) ∷ []) (Cases lower (ByLine 0 ∷ ByLine 1 ∷ []))
lower_line = record {
  claim = lower;
  cites = ByLine 0 ∷ ByLine 1 ∷ [];
  is = refl;
  some = λ h. cc;
  lower = record {
    rises = (λ y i. elim i [ inl q ↦ rw q (omega arith) | inr j ↦ absurd j ], (λ y i. absurd i, tt));
    each = λ f i. elim i [
      | inl q ↦ ((1, 2), inl refl, rw q (refl, lit≤ {m = 1} {n = 2} tt))
      | inr j ↦ elim j [
        | inl q ↦ ((2, 2), inr (inl refl), rw q (refl, lit≤ {m = 1} {n = 2} tt))
        | inr n ↦ absurd n
      ]
    ];
  };
  legal = (legal_by_first, (legal_by_second, tt));
  own = (no_own_of_1, (no_own_of_2, tt));
}

-- it has a higher bound than 0
no_higher_line : IsLowerCases four two_lines ((1, 0) ∷ (2, 1) ∷ []) (Cases lower (ByLine 0 ∷ ByLine 1 ∷ [])) → ⊥
no_higher_line h =
    let e : h.claim ≡ lower = (let k = h.is in cc) in
    let f = (subst (λ (k : Claim). IsLower ((1, 0) ∷ (2, 1) ∷ []) k) e h.lower).each (1, 1) (inl refl) in
    none f.0 f.1 f.2
  where
    none : (e : Entry) → IsIn e ((1, 0) ∷ (2, 1) ∷ []) → IsNoHigher e (1, 1) → ⊥
    none e (inl q) n = let k : 1 ≤ 0 = subst (λ (e : Entry). 1 ≤ e.1) q n.1 in absurd (omega arith)
    none e (inr (inl q)) n = let k = n.0 in cc
    none e (inr (inr j)) n = absurd j
