-- Why five buffers do not fit at 11.
use Rattle.std.proofs.Common.{◌≡◌, ℕ, inl, inr, Bool, true, ◌&&◌, nat_le, nat_lt, List, [], ◌∷◌, slice_index_or, Some, None, refl}
use Rattle.std.specs.List.{list_all}
use Rattle.dsa_terms.specs.Buffers.{Buffer, Instance, IsSound, IsInstance, is_live, buffer, do_share, have_same_moments, some_before}
use Rattle.dsa_terms.specs.Claims.{IsIn, up, step, child}
use Rattle.dsa_terms.specs.Layouts.{IsFeasible, IsInfeasible}
use Rattle.dsa_terms.specs.Logs.{ends_below, is_twin}
use Rattle.dsa_terms.specs.Parts.{is_cut, part_of, parts, searched, is_leader, are_parted, are_uncut}
use Rattle.dsa_terms.specs.Search.{is_tall, comes_before, first}
use Rattle.dsa_terms.proofs.Examples.{five}
use Rattle.dsa_terms.proofs.Lists.{all_at}
use Rattle.dsa_terms.proofs.Moments.{and_true}
use Rattle.dsa_terms.proofs.NumberTests.{at_most, less}
use Rattle.dsa_terms.proofs.Places.{in_at}
use Rattle.dsa_search_laws.proofs.Parts.{searched_exactly, searched_is_layout}
use Rattle.core_find.specs.Cores.{IsCore}
use Rattle.dsa_model.specs.Chosen.{some_of}

unfoldable are_sound : Instance → Bool
are_sound I = list_all (λ (b : Buffer). nat_le 1 b.size && (nat_le 1 b.alignment && nat_lt b.lower b.upper)) I

sound_from : (I : Instance) → are_sound I ≡ true → IsInstance I
unfolding are_sound
sound_from I h = λ k d lt. each (slice_index_or I k d) (in_at I k d lt)
  where
    each : (b : Buffer) → IsIn b I → IsSound b
    each b i =
        let a = and_true (nat_le 1 b.size) _
        (all_at (λ (b : Buffer). nat_le 1 b.size && (nat_le 1 b.alignment && nat_lt b.lower b.upper)) I b h i) in
        let c = and_true (nat_le 1 b.alignment) _ a.1 in
        (at_most 1 b.size a.0, at_most 1 b.alignment c.0, less b.lower b.upper c.1)

does_not : (I : Instance) (C : ℕ) → are_sound I ≡ true → searched I C ≡ None → IsInfeasible I C
does_not I C s e = (searched_exactly I C (sound_from I s)).0 e

does : (I : Instance) (C : ℕ) (offsets : List ℕ) → are_sound I ≡ true → searched I C ≡ Some offsets → IsFeasible I C
does I C offsets s e = (offsets, searched_is_layout I C offsets (sound_from I s) e)

-- the first and the fourth are dropped, and the others kept, each since the others that remain fit without it
five_core : IsCore five 11 (1 ∷ 2 ∷ 4 ∷ [])
unfolding are_sound searched parts part_of is_leader are_uncut are_parted is_cut first is_tall comes_before
    ends_below is_twin child up step have_same_moments do_share some_before is_live buffer
five_core = record {
  infeasible = does_not five 11 refl refl;
  left = inl (
    does_not (some_of five (1 ∷ 2 ∷ 3 ∷ 4 ∷ [])) 11 refl refl,
    inr (
      does (some_of five (2 ∷ 3 ∷ 4 ∷ [])) 11 (0 ∷ 0 ∷ 4 ∷ []) refl refl,
      inr (
        does (some_of five (1 ∷ 3 ∷ 4 ∷ [])) 11 (0 ∷ 0 ∷ 4 ∷ []) refl refl,
        inl (
          does_not (some_of five (1 ∷ 2 ∷ 4 ∷ [])) 11 refl refl,
          inr (
            does (some_of five (1 ∷ 2 ∷ [])) 11 (0 ∷ 4 ∷ []) refl refl,
            refl,
          ),
        ),
      ),
    ),
  );
}

-- what fits has no core
no_core_at_12 : (members : List ℕ) → IsCore five 12 members → ⊥
unfolding are_sound searched parts part_of is_leader are_uncut are_parted is_cut first is_tall comes_before
    ends_below is_twin child up step have_same_moments do_share some_before is_live buffer
no_core_at_12 members core =
    let fits = does five 12 (0 ∷ 0 ∷ 4 ∷ 0 ∷ 8 ∷ []) refl refl in core.infeasible fits.0 fits.1
