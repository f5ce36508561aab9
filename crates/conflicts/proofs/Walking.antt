-- Walks over the buffers of a claim.
use Rattle.std.proofs.Common.{◌≡◌, ◌≢◌, ◌⊎◌, ◌↔◌, ℕ, ◌<◌, true, false, Bool, List, [], ◌∷◌, ◌++◌, length, replicate, slice_index_or, slice_set, inl, inr, sym, subst, ◌∙◌}
use Rattle.std.proofs.lemmas.List.{get_or-replicate, get_or-set_other, get_or-set_same, get_or_past, length-replicate, length-set}
use Rattle.dsa_terms.specs.Buffers.{Instance}
use Rattle.dsa_terms.specs.Claims.{Claim, IsIn}
use Rattle.dsa_terms.proofs.Lists.{from_append, left_append, right_append}
use Rattle.dsa_terms.proofs.NumberTests.{below_or_from, same_or_not}
use Rattle.dsa_terms.proofs.Places.{in_at}
use Rattle.canonical_order.specs.Claims.{HasBuffer}
use Rattle.conflicts.specs.Walks.{IsMarked, IsWalk}

-- ---- marks
pub marked_within : (marks : List Bool) (b : ℕ) → IsMarked marks b → b < length marks
marked_within marks b m = elim (below_or_from b (length marks)) [
  | inl lt ↦ lt
  | inr le ↦ let q = get_or_past marks b false le in absurd cc
]

no_mark : (n b : ℕ) → slice_index_or (replicate n false) b false ≡ false
no_mark n b = elim (below_or_from b n) [
  | inl lt ↦ get_or-replicate {A = Bool} n b false false lt
  | inr le ↦ get_or_past (replicate n false) b false (rw (length-replicate {A = Bool} n false) le)
]

-- the buffers of which the fact holds are those that are marked and those that are left to mark
abbrev pub AreMarkedBut : (ℕ → Type 0) → List ℕ → List Bool → Type 0
AreMarkedBut P rest marks = (b : ℕ) → (IsMarked marks b ⊎ IsIn b rest) ↔ P b

pub none_marked : (n : ℕ) (bs : List ℕ) → AreMarkedBut (λ b. IsIn b bs) bs (replicate n false)
none_marked n bs b = (
  λ h. elim h [ inl m ↦ (let q = no_mark n b in absurd cc) | inr i ↦ i ],
  λ i. inr i,
)

pub marked_next : (P : ℕ → Type 0) (rest : List ℕ) (x : ℕ) (marks : List Bool) → x < length marks →
    AreMarkedBut P (x ∷ rest) marks → AreMarkedBut P rest (slice_set marks x true)
marked_next P rest x marks lt h b = elim (same_or_not b x) [
  | inl q ↦ (
    λ _. (h b).0 (inr (inl q)),
    λ _. inl (rw q (get_or-set_same marks x true false lt)),
  )
  | inr ne ↦ (
    λ k. (h b).0 (elim k [ inl m ↦ inl (sym (other ne) ∙ m) | inr i ↦ inr (inr i) ]),
    λ p. elim ((h b).1 p) [
      | inl m ↦ inl (other ne ∙ m)
      | inr i ↦ elim i [ inl q ↦ absurd (ne q) | inr j ↦ inr j ]
    ],
  )
]
  where
    other : b ≢ x → slice_index_or (slice_set marks x true) b false ≡ slice_index_or marks b false
    other ne = get_or-set_other marks x b true false ne

-- all of them are marked
pub all_marked : (P : ℕ → Type 0) (marks : List Bool) → AreMarkedBut P [] marks → (b : ℕ) → IsMarked marks b ↔ P b
all_marked P marks h b = (λ m. (h b).0 (inl m), λ p. elim ((h b).1 p) [ inl m ↦ m | inr i ↦ absurd i ])

-- ---- walks
pub item_in : (bs items : List ℕ) (n : ℕ) → items ≡ bs → n < length items → IsIn (slice_index_or items n 0) bs
item_in bs items n q lt = subst (λ (xs : List ℕ). IsIn (slice_index_or items n 0) xs) q (in_at items n 0 lt)

pub index_in : (bs : List ℕ) (n x : ℕ) → x ≡ slice_index_or bs n x → n < length bs → IsIn x bs
index_in bs n x q lt = subst (λ (y : ℕ). IsIn y bs) (sym q) (in_at bs n x lt)

pub nothing_met : (I : Instance) (l : Claim) (unmet : List Bool) → length unmet ≡ length I →
    ((b : ℕ) → IsMarked unmet b ↔ HasBuffer l b) → IsWalk I l unmet []
nothing_met I l unmet count h = record {
  count = count;
  of_claim = λ b i. absurd i;
  marked = λ b m. ((h b).0 m, λ i. absurd i);
  each = λ b i. inl ((h b).1 i);
}

module _ (I : Instance) (l : Claim) (unmet : List Bool) (met : List ℕ) (w : IsWalk I l unmet met) where
  pub meets : (b : ℕ) → IsMarked unmet b → IsWalk I l (slice_set unmet b false) (met ++ b ∷ [])
  meets b m = record {
    count = length-set unmet b false ∙ w.count;
    of_claim = λ c i. elim (from_append met (b ∷ []) c i) [
      | inl j ↦ w.of_claim c j
      | inr j ↦ elim j [ inl q ↦ rw q (w.marked b m).0 | inr k ↦ absurd k ]
    ];
    marked = λ c n. elim (same_or_not c b) [
      | inl q ↦ (let k = get_or-set_same unmet b false false (marked_within unmet b m) in
          let s = subst (λ (x : ℕ). IsMarked (slice_set unmet b false) x) q n in absurd cc)
      | inr ne ↦
          let k = w.marked c (sym (get_or-set_other unmet b c false false ne) ∙ n) in (
            k.0,
            λ i. elim (from_append met (b ∷ []) c i) [
              | inl j ↦ k.1 j
              | inr j ↦ elim j [ inl q ↦ ne q | inr a ↦ a ]
            ],
          )
    ];
    each = λ c h. elim (w.each c h) [
      | inl n ↦ elim (same_or_not c b) [
        | inl q ↦ inr (right_append met (b ∷ []) c (inl q))
        | inr ne ↦ inl (get_or-set_other unmet b c false false ne ∙ n)
      ]
      | inr i ↦ inr (left_append met (b ∷ []) c i)
    ];
  }

  -- what was met is marked again
  pub unmet_again : (after : List Bool) → length after ≡ length unmet →
      ((b : ℕ) → IsMarked after b ↔ (IsMarked unmet b ⊎ IsIn b met)) → IsWalk I l after []
  unmet_again after len h = nothing_met I l after (len ∙ w.count) (λ b. (
    λ m. elim ((h b).0 m) [ inl n ↦ (w.marked b n).0 | inr i ↦ w.of_claim b i ],
    λ i. (h b).1 (w.each b i),
  ))
