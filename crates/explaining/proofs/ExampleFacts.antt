-- What `core` concludes of two buffers that are both live at 4: they fit at 8, and not at 7.
use Rattle.std.proofs.Common.{◌≤◌, ◌⊎◌, ◌+◌, ℕ, [], ◌∷◌, refl, inl, inr, lit<, arith}
use Rattle.dsa_terms.specs.Buffers.{buffer, is_live, some_before}
use Rattle.dsa_terms.specs.Layouts.{IsInfeasible, IsLayout}
use Rattle.dsa_model.specs.LayoutFaults as faults
use Rattle.dsa_model.specs.Moments.{first_common}
use Rattle.dsa_model.proofs.LayoutFaults.{layout_exactly}
use Rattle.csv_instance.proofs.FileFacts.{two, two_rows}
use Rattle.run_status.specs.declared.status.Status.TheVariants as status
use Rattle.run_course.specs.Course.{Outcome, says}
use Rattle.writings.proofs.ExampleFacts.{names}
use Rattle.explaining.specs.Explaining.{Explains, ExplainsOrFits, FitsAll}

-- ---- at 8 they fit, and nothing is written
pub laid_at_8 : IsLayout two 8 (0 ∷ 4 ∷ [])
unfolding buffer is_live some_before faults.first_unaligned faults.first_too_low faults.first_above faults.first_overlap
    faults.overlap_after faults.overlap first_common
laid_at_8 = (layout_exactly two 8 (0 ∷ 4 ∷ [])).0 refl

pub fits_at_8 : FitsAll 8 two (says (status.NoCore 8))
fits_at_8 = ((0 ∷ 4 ∷ [], laid_at_8), refl)

concluded_at_8 : ExplainsOrFits 8 names two_rows two (says (status.NoCore 8))
concluded_at_8 = inr fits_at_8

no_core_at_8 : (o : Outcome) → Explains 8 names two_rows two o → ⊥
no_core_at_8 o h = h.2.is_core.infeasible (0 ∷ 4 ∷ []) laid_at_8

-- ---- at 7 they do not
one_above_the_other : (x y : ℕ) → x + 4 ≤ 7 → y + 4 ≤ 7 → (x + 4 ≤ y) ⊎ (y + 4 ≤ x) → ⊥
one_above_the_other x y a b (inl c) = omega (arith, a, b, c)
one_above_the_other x y a b (inr c) = omega (arith, a, b, c)

pub none_at_7 : IsInfeasible two 7
unfolding buffer is_live some_before
none_at_7 offsets l = one_above_the_other _ _ (l.within 0 (lit< tt)) (l.within 1 (lit< tt))
    (l.apart 0 1 4 (lit< tt) (lit< tt) (λ e. omega (arith, e)) refl refl)

not_told_at_7 : (o : Outcome) → FitsAll 7 two o → ⊥
not_told_at_7 o h = none_at_7 h.0.0 h.0.1
