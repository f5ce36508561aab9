-- The least level and the first buffer that has it, among buffers that are gone over one after another.
use Rattle.std.proofs.Common.{◌≡◌, ◌⊎◌, ℕ, ◌-◌, ◌<◌, ◌≤◌, ◌^◌, inl, inr, List, [], ◌∷◌, All, slice_index, refl, sym, ap, ◌∙◌, subst, arith}
use Rattle.claim_levels.proofs.Words.{IsIn, Rises, below_or_from}
use Rattle.claim_levels.specs.Levels.{AreLeft, IsLeastLevel}
use Rattle.claim_levels.proofs.RaisingSteps.{under_each}

-- of the buffers that are not in the rest the first one has the least level, if there are any
pub record IsLeading (levels left rest : List ℕ) (first least : ℕ) : Type 0 where
  pub rises : Rises rest
  pub within : (c : ℕ) → IsIn c rest → first ≤ c
  pub is : (least ≡ 2 ^ 64 - 1) ⊎ (IsIn first left × (slice_index levels first ≡ least))
  pub before : (c : ℕ) → IsIn c left → IsIn c rest ⊎ ((least < slice_index levels c)
      ⊎ ((least ≡ slice_index levels c) × (first ≤ c)))

module _ (levels left : List ℕ) where
  pub leads_at_first : Rises left → IsLeading levels left left 0 (2 ^ 64 - 1)
  leads_at_first r = record { rises = r; within = λ c i. omega arith; is = inl refl; before = λ c i. inl i }

  module _ (rest more : List ℕ) (x level first least : ℕ) (q : rest ≡ x ∷ more) (e : level ≡ slice_index levels x)
      (h : IsLeading levels left rest first least) where
    rising : Rises (x ∷ more)
    rising = subst (λ (xs : List ℕ). Rises xs) q h.rises

    -- one that is lower
    pub leads_lower : IsIn x left → level < least → IsLeading levels left more x level
    leads_lower j lt = record {
      rises = rising.1;
      within = λ c i. (let k = rising.0 c i in omega (arith, k));
      is = inr (j, sym e);
      before = λ c i. elim (h.before c i) [
        | inl here ↦ elim (subst (IsIn c) q here) [
          | inl p ↦ inr (inr (e ∙ ap (slice_index levels) (sym p), (omega (arith, p))))
          | inr later ↦ inl later
        ]
        | inr done ↦ inr (inl (elim done [
          | inl k ↦ omega (arith, k, lt)
          | inr k ↦ (let p = k.0 in omega (arith, p, lt))
        ]))
      ];
    }

    -- and one that is not
    pub leads_still : least ≤ level → IsLeading levels left more first least
    leads_still le = record {
      rises = rising.1;
      within = λ c i. h.within c (subst (IsIn c) (sym q) (inr i));
      is = h.is;
      before = λ c i. elim (h.before c i) [
        | inl here ↦ elim (subst (IsIn c) q here) [
          | inl p ↦ inr (no_earlier c p)
          | inr later ↦ inl later
        ]
        | inr done ↦ inr done
      ];
    }
      where
        no_earlier : (c : ℕ) → c ≡ x → (least < slice_index levels c) ⊎ ((least ≡ slice_index levels c) × (first ≤ c))
        no_earlier c p =
            let k : slice_index levels c ≡ slice_index levels x = ap (slice_index levels) p in
            elim (below_or_from least level) [
              | inl lt ↦ inl (omega (arith, lt, e, k))
              | inr ge ↦ inr ((omega (arith, ge, le, e, k)), h.within c (subst (IsIn c) (sym q) (inl p)))
            ]

  -- where none is left
  pub leads_all : (rest : List ℕ) (first least : ℕ) → rest ≡ [] → All (λ level. level ≤ 2 ^ 55) levels →
      AreLeft levels left → IsLeading levels left rest first least → IsLeastLevel levels first
  leads_all rest first least q low a h = record {
    some = λ c more. a.some first (first_is c more).0;
    before = λ c more. (let p = (first_is c more).1 in elim (past c more) [
      | inl lt ↦ inl (omega (arith, p, lt))
      | inr r ↦ (let k = r.0 in inr (omega (arith, p, k), r.1))
    ]);
  }
    where
      past : (c : ℕ) → 0 < slice_index levels c →
          (least < slice_index levels c) ⊎ ((least ≡ slice_index levels c) × (first ≤ c))
      past c more = elim (h.before c (a.all c more)) [ inl i ↦ absurd (subst (IsIn c) q i) | inr p ↦ p ]

      first_is : (c : ℕ) → 0 < slice_index levels c → IsIn first left × (slice_index levels first ≡ least)
      first_is c more = elim h.is [
        | inl top ↦ absurd (let k = under_each levels (2 ^ 55) low c in elim (past c more) [
          | inl lt ↦ omega (arith, top, lt, k)
          | inr r ↦ (let p = r.0 in omega (arith, top, p, k))
        ])
        | inr r ↦ r
      ]
