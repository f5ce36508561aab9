-- The definitions at a small instance.
use Rattle.std.proofs.Common.{◌≡◌, ◌<◌, ◌≤◌, ℕ, zero, suc, [], ◌∷◌, Some, None, slice_index, refl, sym, lit<, lit≤, arith}
use Rattle.dsa_terms.specs.Buffers.{Buffer, Instance, buffer, is_live}
use Rattle.dsa_terms.specs.Plans.{load}
use Rattle.dsa_model.proofs.Live.{not_live_after}
use Rattle.lifetime.specs.SectionList.{SectionList, start_of}
use Rattle.load_profile.specs.LoadProfile.{Exceeds, IsFirstGreatest, IsGreatestOf, IsPeakOf, LoadProfile, load_of, loads_of}

abbrev sized : ℕ → Buffer
sized size = record { lower = 0; upper = 1; size = size; alignment = 1; gaps = []; lowest = 0 }

abbrev three : Instance
three = sized 4 ∷ sized 2 ∷ sized 1 ∷ []

load_of_two : load_of three (0 ∷ 2 ∷ []) ≡ 5
unfolding buffer
load_of_two = refl

load_of_none : load_of three [] ≡ 0
load_of_none = refl

abbrev both : SectionList
both = record {
  sections = record { start = 0; members = 0 ∷ 1 ∷ [] } ∷ record { start = 3; members = 2 ∷ [] } ∷ [];
  of_buffers = [];
}

loads_of_both : loads_of three both ≡ 6 ∷ 1 ∷ []
unfolding buffer
loads_of_both = refl

-- ---- the first of the greatest loads
first_section : IsFirstGreatest both (6 ∷ 1 ∷ []) 2 (0, 6)
first_section = record {
  place = 0;
  in_range = lit< tt;
  start = refl;
  load = refl;
  most = most;
  first = λ s lt. absurd (omega arith);
}
  where
    most : (s : ℕ) → s < 2 → slice_index (6 ∷ 1 ∷ []) s ≤ 6
    most zero lt = lit≤ tt
    most (suc zero) lt = lit≤ tt
    most (suc (suc s)) lt = absurd (omega arith)

not_the_lesser : IsFirstGreatest both (6 ∷ 1 ∷ []) 2 (3, 1) → ⊥
not_the_lesser h = let k : 6 ≤ 1 = h.most 0 (lit< tt) in omega arith

not_the_later : IsFirstGreatest both (6 ∷ 6 ∷ []) 2 (3, 6) → ⊥
not_the_later h = go h.place h.start h.first
  where
    go : (p : ℕ) → start_of both p ≡ 3 → ((s : ℕ) → s < p → slice_index (6 ∷ 6 ∷ []) s < 6) → ⊥
    go zero e f = let k : 0 ≡ 3 = e in omega arith
    go (suc p) e f = let k : 6 < 6 = f 0 (omega arith) in omega arith

greatest_of_both : IsGreatestOf both (6 ∷ 1 ∷ []) 2 (Some (0, 6))
greatest_of_both = first_section

-- the loads of both sections, and the first of the greatest
abbrev profile : LoadProfile
profile = record { loads = 6 ∷ 1 ∷ []; peak = Some (0, 6) }

its_loads : profile.loads ≡ loads_of three both
unfolding buffer
its_loads = refl

its_peak : IsGreatestOf both profile.loads 2 profile.peak
its_peak = first_section

greatest_of_none : IsGreatestOf both (6 ∷ 1 ∷ []) 0 None
greatest_of_none = refl

there_is_one : IsGreatestOf both (6 ∷ 1 ∷ []) 2 None → ⊥
there_is_one e = let k : 2 ≡ 0 = e in omega arith

above : Exceeds 7 (Some (0, 6))
above = lit< tt

above_none : Exceeds 0 None
above_none = tt

as_great : Exceeds 6 (Some (0, 6)) → ⊥
as_great k = let l : 6 < 6 = k in omega arith

-- ---- the peak
first_load : load three 0 ≡ 7
unfolding load is_live
first_load = refl

-- nothing is live after the first moment
later_load : (s : ℕ) → load three (suc s) ≡ 0
unfolding load
later_load s = rw (
  not_live_after (sized 4) (suc s) (omega arith),
  not_live_after (sized 2) (suc s) (omega arith),
  not_live_after (sized 1) (suc s) (omega arith),
) refl

peak_of_three : IsPeakOf three (Some (0, 7))
peak_of_three = (
  record { not_empty = λ e. absurd cc; most = most; earliest = λ s lt. absurd (omega arith) },
  sym first_load,
)
  where
    most : (s : ℕ) → load three s ≤ load three 0
    most zero = omega arith
    most (suc s) = omega (arith, later_load s)

not_six : IsPeakOf three (Some (0, 6)) → ⊥
not_six h = let k = h.1 in omega (arith, first_load)

no_peak_of_three : IsPeakOf three None → ⊥
no_peak_of_three e = let k : 3 ≡ 0 = e in omega arith

no_buffers : IsPeakOf [] None
no_buffers = refl
