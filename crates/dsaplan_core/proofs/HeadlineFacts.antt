-- What the headline promises of `solve` and `least`, and what it cannot promise, on two buffers whose best start ends
-- at 5, and whose lower bound and least capacity are 4.
use Rattle.std.proofs.Common.{◌≡◌, ◌≢◌, ◌<◌, ◌≤◌, ◌∙◌, ℕ, List, [], ◌∷◌, Some, Ok, codes, refl, sym, ap, subst, inl, inr, lit<, arith}
use Rattle.std.specs.FinMap.{insert}
use Rattle.dsa_terms.specs.Buffers.{Instance}
use Rattle.dsa_terms.specs.Layouts.{IsInfeasible, IsLeast}
use Rattle.dsa_terms.proofs.Examples.{small_below}
use Rattle.dsa_outside.specs.Held.{file_at}
use Rattle.dsa_outside.specs.Seen.{FilesSeen}
use Rattle.dsa_outside.proofs.Lookups.{file_at-with_file, file_at-with_other}
use Rattle.planner.proofs.StepFacts.{four_is_least, laid_at_4, refuted_at_3}
use Rattle.command_words.specs.Options.{Word}
use Rattle.command_words.specs.Pairs.{name_in, pairs_of}
use Rattle.command_words.specs.Requests.{Request, request_of}
use Rattle.command_words.specs.declared.role.Role.TheVariants as role
use Rattle.command_words.specs.declared.verb.Verb.TheVariants as verb
use Rattle.readings.specs.Opens.{IsInput}
use Rattle.run_status.specs.declared.status.Status.TheVariants as status
use Rattle.writings.proofs.ExampleFacts.{low_file, low_text, three_file, three_log, three_reads, three_text}
use Rattle.dsaplan_core.specs.Theorem.{Asked, Decides, Headline, HoldsRefutation, SeeksLeast}
use Rattle.dsaplan_core.proofs.WorldFacts.{core_values, first_differs, pack_values, told}
use Rattle.dsaplan_core.proofs.ChoiceFacts.{asking, below_alone, found_files, only_input, refuted_files, seek, seeking, solve_at, solving}

-- ---- what a command decides
-- `solve` decides the capacity that it is given, and no other
solve_decides_no_other : Decides verb.Solve (pairs_of (core_values (codes "8"))) 9 → ⊥
solve_decides_no_other e = let same : 8 ≡ 9 = e in omega (arith, same)

-- `least` decides none, and `solve` looks for none
least_decides_none : (C : ℕ) → Decides verb.Least (pairs_of pack_values) C → ⊥
least_decides_none C h = h

solve_seeks_none : SeeksLeast verb.Solve (pairs_of (core_values (codes "8"))) → ⊥
solve_seeks_none h = h

least_seeks_the_least : SeeksLeast verb.Least (pairs_of pack_values)
least_seeks_the_least = tt

-- words that are no command ask for nothing
nothing_is_asked : (old : FilesSeen) → Asked [] old → ⊥
nothing_is_asked old a = let e = a.words_ask in absurd cc

-- what words ask for is their own request, of the instance that the input holds
its_request : (words : List Word) (r : Request) → request_of words ≡ Ok r → name_in r.pairs role.Input ≡ codes "i" →
    (a : Asked words (told below_alone)) →
    (◌≡◌ {A = Request} (record { verb = a.verb; pairs = a.pairs }) r) × (a.instance ≡ small_below)
its_request words r asked named a =
    let q : Request = record { verb = a.verb; pairs = a.pairs } in
    let same : q ≡ r = (let k = a.words_ask in cc) in
    let name : name_in a.pairs role.Input ≡ codes "i" =
    ap (λ (r : Request). name_in r.pairs role.Input) same ∙ named in (
      same,
      (only_input a.table a.instance
          (subst (λ (n : Word). IsInput (told below_alone) n a.table a.instance) name a.input)).1,
    )

-- ---- the log by which 3 bytes are too few
abbrev asked_3 : Asked (solving (codes "3")) (told below_alone)
asked_3 = asking (solving (codes "3")) (solve_at (codes "3")) refl refl

refuted : (words : List Word) (r : Request) (asked : request_of words ≡ Ok r)
    (named : name_in r.pairs role.Input ≡ codes "i") → name_in r.pairs role.Log ≡ codes "l" → (new : FilesSeen) →
    file_at new.held (codes "l") ≡ Some three_file → HoldsRefutation (asking words r asked named) new 3
refuted words r asked named log new held = record {
  refutation = three_log;
  accepted = refuted_at_3.accepted;
  its_capacity = refuted_at_3.its_capacity;
  infeasible = refuted_at_3.infeasible;
  readable = three_reads;
  held = λ there. ap (file_at new.held) log ∙ held ∙ ap Some (sym three_text);
}

infeasible_at_3 : Headline (solving (codes "3")) (told below_alone) refuted_files (status.Infeasible 3)
infeasible_at_3 = (
  asked_3,
  refl,
  refuted (solving (codes "3")) (solve_at (codes "3")) refl refl refl refuted_files
      (file_at-with_file (Some below_alone) (codes "l") three_file refl),
)

-- so no layout within 3 can be promised, whatever is written
never_feasible_at_3 : (new : FilesSeen) → Headline (solving (codes "3")) (told below_alone) new (status.Feasible 3) → ⊥
never_feasible_at_3 new h =
    let i = (its_request (solving (codes "3")) (solve_at (codes "3")) refl refl h.0).1 in
    subst (λ (I : Instance). IsInfeasible I 3) (sym i) refuted_at_3.infeasible h.2.offsets h.2.layout

-- nor can another capacity than the one that is given
never_at_another : (new : FilesSeen) → Headline (solving (codes "5")) (told below_alone) new (status.Feasible 4) → ⊥
never_at_another new h =
    let q = (its_request (solving (codes "5")) (solve_at (codes "5")) refl refl h.0).0 in
    apart (subst (λ (r : Request). Decides r.verb r.pairs 4) q h.1)
  where
    apart : ◌≡◌ {A = ℕ} 5 4 → ⊥
    apart e = omega arith

-- ---- the least capacity: its layout, and the log at one less
o_is_not_l : codes "o" ≢ codes "l"
o_is_not_l e = first_differs (codes "l") (codes "o") (lit< tt) (sym e)

least_at_4 : Headline seeking (told below_alone) found_files (status.Least 4)
least_at_4 = (
  asking seeking seek refl refl,
  tt,
  four_is_least,
  record {
    offsets = 1 ∷ 0 ∷ [];
    layout = laid_at_4;
    held = λ there. file_at-with_other (Some (insert below_alone (codes "o") low_file)) (codes "l") three_file
        (codes "o") o_is_not_l
        ∙ file_at-with_file (Some below_alone) (codes "o") low_file refl ∙ ap Some (sym low_text);
  },
  λ one. refuted seeking seek refl refl refl found_files
      (file_at-with_file (Some (insert below_alone (codes "o") low_file)) (codes "l") three_file refl),
)

-- 5 is not the least, though a layout fits
never_least_at_5 : (new : FilesSeen) → Headline seeking (told below_alone) new (status.Least 5) → ⊥
never_least_at_5 new h =
    not_least (subst (λ (I : Instance). IsLeast I 5) (its_request seeking seek refl refl h.0).1 h.2)
  where
    not_least : IsLeast small_below 5 → ⊥
    not_least (fits, inl e) = omega (arith, e)
    not_least (fits, inr none) = none (1 ∷ 0 ∷ []) laid_at_4

-- and `solve` never says which is
never_least_by_solve : (new : FilesSeen) (C : ℕ) →
    Headline (solving (codes "4")) (told below_alone) new (status.Least C) → ⊥
never_least_by_solve new C h =
    subst (λ (r : Request). SeeksLeast r.verb r.pairs)
    (its_request (solving (codes "4")) (solve_at (codes "4")) refl refl h.0).0 h.1

-- ---- what stays open lies between two capacities, the lower of which is above 0
never_open_from_0 : (words : List Word) (old new : FilesSeen) (H : ℕ) →
    Headline words old new (status.Open 0 H) → ⊥
never_open_from_0 words old new H h = let k : 1 ≤ 0 = h.1 in omega arith

never_open_at_one : (words : List Word) (old new : FilesSeen) (L : ℕ) → Headline words old new (status.Open L L) → ⊥
never_open_at_one words old new L h = let k : L < L = h.2 in omega arith

-- what is told without a decision promises no files
nothing_promised : (words : List Word) (old new : FilesSeen) → Headline words old new status.Right
nothing_promised words old new = tt
