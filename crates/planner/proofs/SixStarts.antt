-- Starts by their places: the first that is within a capacity, and the first of least height.
use Rattle.std.proofs.Common.{◌≡◌, ℕ, ◌<◌, ◌≤◌, List, [], map, length, find, nat_le, slice_index_or, Some, None, sym, ap, subst, ◌∙◌, arith}
use Rattle.std.specs.List.{All}
use Rattle.std.proofs.Math.ListN.{length-map}
use Rattle.std.proofs.lemmas.List.{get_or-map}
use Rattle.dsa_terms.specs.Buffers.{Instance}
use Rattle.dsa_terms.specs.Plans.{layout_height}
use Rattle.dsa_terms.specs.Starts.{best_start, lowest_place, starts}
use Rattle.dsa_start_laws.proofs.Planned.{lowest_within, six_starts}
use Rattle.first_fit.specs.Starts.{IsStart, height_in, offsets_in}
use Rattle.first_fit.specs.declared.start_list.Start.{Start}
use Rattle.planner.specs.FirstStart.{IsBestStart, start_within}

-- the code's starts are of any type that has their offsets, and their heights
pub are_six : {X : Type 0} (I : Instance) (offsets : X → List ℕ) (xs : List X) → map offsets xs ≡ starts I →
    length xs ≡ 6
are_six I offsets xs e = sym (length-map xs offsets) ∙ ap length e ∙ six_starts I

pub within_at : {X : Type 0} (I : Instance) (C : ℕ) (offsets : X → List ℕ) (xs : List X) (k : ℕ) (x : X) →
    map offsets xs ≡ starts I → k < length xs → x ≡ slice_index_or xs k x →
    Some (slice_index_or (map offsets xs) k []) ≡ find (λ o. nat_le (layout_height I o) C) (map offsets xs) →
    start_within I C ≡ Some (offsets x)
within_at I C offsets xs k x e lt q f =
    let g : slice_index_or (map offsets xs) k [] ≡ offsets (slice_index_or xs k x) = get_or-map offsets xs k x [] lt in
    let h : offsets x ≡ offsets (slice_index_or xs k x) = ap offsets q in
    rw (← e) (sym f ∙ ap Some (g ∙ sym h))

pub none_within : {X : Type 0} (I : Instance) (C : ℕ) (offsets : X → List ℕ) (xs : List X) → map offsets xs ≡ starts I →
    None ≡ find (λ o. nat_le (layout_height I o) C) (map offsets xs) → start_within I C ≡ None
none_within I C offsets xs e f = rw (← e) (sym f)

-- ---- the best
lowest_in : {X : Type 0} (high : X → ℕ) (xs : List X) → 1 ≤ length xs → lowest_place (map high xs) < length xs
lowest_in high xs some = let l = length-map xs high in rw (← l) (lowest_within (map high xs) (omega arith))

pub lowest_in_range : (xs : List Start) → 0 < length xs → lowest_place (map height_in xs) < length xs
lowest_in_range xs some = lowest_in height_in xs (omega arith)

pub best_is : (I : Instance) (ss : List Start) (s : Start) → map offsets_in ss ≡ starts I →
    map height_in ss ≡ map (layout_height I) (starts I) → All (IsStart I) ss →
    s ≡ slice_index_or ss (lowest_place (map height_in ss)) s → IsBestStart I s
unfolding best_start
best_is I ss s e h sound is =
    let n = are_six I offsets_in ss e in
    let k = lowest_place (map height_in ss) in
    let lt : k < length ss = lowest_in_range ss (omega arith) in
    let P : Start → Type 0 = IsStart I in
    let o : slice_index_or (map offsets_in ss) k [] ≡ offsets_in s =
    get_or-map offsets_in ss k s [] lt ∙ ap offsets_in (sym is) in
    let a : slice_index_or (map offsets_in ss) k [] ≡ slice_index_or (starts I) k [] =
    ap (λ os. slice_index_or os k []) e in
    let b : k ≡ lowest_place (map (layout_height I) (starts I)) = ap lowest_place h in
    record {
      start = subst P (sym is) (sound k s lt);
      best = sym o ∙ a ∙ ap (λ j. slice_index_or (starts I) j []) b;
    }
