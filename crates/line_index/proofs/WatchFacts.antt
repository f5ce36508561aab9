-- Worked facts: a line of two bounds, and what it is watched by at some levels.
use Rattle.std.proofs.Common.{◌≡◌, ℕ, zero, suc, ◌+◌, ◌<◌, ◌≤◌, ◌⊎◌, List, [], ◌∷◌, Some, inl, inr, slice_get, slice_index, refl, sym, ap, subst, arith}
use Rattle.dsa_terms.specs.Claims.{Claim, Entry, IsIn}
use Rattle.dsa_terms.specs.Logs.{Line, Over, claim_of}
use Rattle.dsa_terms.proofs.Lists.{same_some}
use Rattle.canonical_order.specs.Claims.{HasBuffer}
use Rattle.line_index.specs.declared.watch_row.Mark.{Mark}
use Rattle.line_index.specs.declared.look.Look.TheVariants.{Covers, Unmet, Lacks}
use Rattle.line_index.specs.Looks.{IsLacked, IsLook, IsUnmet}
use Rattle.line_index.specs.Watches.{AreNoted, AreRaised, AreTheRaised, AreWatched, Fails, HasLevels, IsNoted, LineWatches, RulesOut}

-- the line has the bounds 2 of buffer 0 and 5 of buffer 1
abbrev pub claim : Claim
claim = (0, 2) ∷ (1, 5) ∷ []

abbrev pub lines : List Line
lines = Over claim 0 5 1 ∷ []

-- levels that do not meet the bound of buffer 1, levels that meet both bounds, and levels without buffer 1
abbrev pub low : List ℕ
low = 3 ∷ 4 ∷ []

abbrev pub high : List ℕ
high = 3 ∷ 6 ∷ []

abbrev lone : List ℕ
lone = 3 ∷ 0 ∷ []

-- levels that meet the bound of buffer 1, and not that of buffer 0
abbrev pub other : List ℕ
other = 1 ∷ 6 ∷ []

-- ---- levels
low_has_both : HasLevels low claim
low_has_both f (inl q) = subst (λ (f : Entry). 0 < slice_index low f.0) (sym q) (omega arith)
low_has_both f (inr (inl q)) = subst (λ (f : Entry). 0 < slice_index low f.0) (sym q) (omega arith)
low_has_both f (inr (inr j)) = absurd j

high_has_both : HasLevels high claim
high_has_both f (inl q) = subst (λ (f : Entry). 0 < slice_index high f.0) (sym q) (omega arith)
high_has_both f (inr (inl q)) = subst (λ (f : Entry). 0 < slice_index high f.0) (sym q) (omega arith)
high_has_both f (inr (inr j)) = absurd j

other_has_both : HasLevels other claim
other_has_both f (inl q) = subst (λ (f : Entry). 0 < slice_index other f.0) (sym q) (omega arith)
other_has_both f (inr (inl q)) = subst (λ (f : Entry). 0 < slice_index other f.0) (sym q) (omega arith)
other_has_both f (inr (inr j)) = absurd j

lone_has_one : HasLevels lone claim → ⊥
lone_has_one h = absurd (let k : 0 < slice_index lone 1 = h (1, 5) (inr (inl refl)) in omega arith)

pub raised : AreRaised low high
raised zero lt = (omega arith, omega arith)
raised (suc zero) lt = (omega arith, omega arith)
raised (suc (suc b)) lt = absurd (omega arith)

-- a buffer that is not there any more need not have risen
raised_without : AreRaised low lone
raised_without zero lt = (omega arith, omega arith)
raised_without (suc zero) lt = absurd (omega arith)
raised_without (suc (suc b)) lt = absurd (omega arith)

pub fallen : AreRaised high low → ⊥
fallen h = absurd (let k : slice_index high 1 ≤ slice_index low 1 = (h 1 (omega arith)).1 in omega arith)

come_new : AreRaised lone low → ⊥
come_new h = absurd (let k : 0 < slice_index lone 1 = (h 1 (omega arith)).0 in omega arith)

-- buffer 1 alone is higher
the_raised : AreTheRaised low high ((1, slice_index low 1) ∷ [])
the_raised zero lt = absurd (omega arith)
the_raised (suc zero) lt = inl refl
the_raised (suc (suc b)) lt = absurd (omega arith)

not_left_out : AreTheRaised low high ((0, slice_index low 0) ∷ []) → ⊥
not_left_out h = elim (h 1 (omega arith)) [
  | inl q ↦ absurd (let k = ap (λ (e : Entry). e.0) q in omega (arith, k))
  | inr j ↦ absurd j
]

-- nor with another level before
not_from_another : AreTheRaised low high ((1, slice_index low 1 + 1) ∷ []) → ⊥
not_from_another h = elim (h 1 (omega arith)) [
  | inl q ↦ absurd (let k = ap (λ (e : Entry). e.1) q in omega (arith, k))
  | inr j ↦ absurd j
]

-- ---- what is seen of the claim
unmet_at_low : IsUnmet claim low (1, 5)
unmet_at_low = record { among = inr (inl refl); has = omega arith; unmet = omega arith }

met_at_high : IsUnmet claim high (1, 5) → ⊥
met_at_high u = absurd (let k = u.unmet in omega arith)

-- a level is wanted
not_unmet_without : IsUnmet claim lone (1, 5) → ⊥
not_unmet_without u = absurd (let k = u.has in omega arith)

lacked_by_lone : IsLacked claim lone (1, 5)
lacked_by_lone = record { among = inr (inl refl); none = refl }

not_lacked_by_low : IsLacked claim low (1, 5) → ⊥
not_lacked_by_low l = absurd (let k = l.none in omega arith)

covers_high : IsLook claim high Covers
covers_high e (inl q) = subst (λ (e : Entry). e.1 < slice_index high e.0) (sym q) (omega arith)
covers_high e (inr (inl q)) = subst (λ (e : Entry). e.1 < slice_index high e.0) (sym q) (omega arith)
covers_high e (inr (inr j)) = absurd j

not_low : IsLook claim low Covers → ⊥
not_low h = absurd (let k : 5 < slice_index low 1 = h (1, 5) (inr (inl refl)) in omega arith)

seen_at_low : IsLook claim low (Unmet 1 5)
seen_at_low = unmet_at_low

seen_at_lone : IsLook claim lone (Lacks 1 5)
seen_at_lone = lacked_by_lone

-- ---- watches
fails_at_low : Fails low claim (1, 5)
fails_at_low has = omega arith

pub met_at_other : Fails other claim (1, 5) → ⊥
met_at_other h = absurd (let k : slice_index other 1 ≤ 5 = h other_has_both in omega arith)

rules_out_low : RulesOut low claim (1, 5)
rules_out_low = record { among = inr (inl refl); unmet = λ has. omega arith }

-- without the buffer each entry does
rules_out_lone : RulesOut lone claim (0, 2)
rules_out_lone = record { among = inl refl; unmet = λ has. absurd (lone_has_one has) }

not_high : RulesOut high claim (1, 5) → ⊥
not_high r = absurd (let k : slice_index high 1 ≤ 5 = r.unmet high_has_both in omega arith)

no_entry_of_it : RulesOut low claim (1, 6) → ⊥
no_entry_of_it r = go r.among
  where
    go : IsIn (let e : Entry = (1, 6) in e) claim → ⊥
    go (inl q) = absurd (let k : 6 ≡ 2 = ap (λ (e : Entry). e.1) q in omega arith)
    go (inr (inl q)) = absurd (let k : 6 ≡ 5 = ap (λ (e : Entry). e.1) q in omega arith)
    go (inr (inr j)) = j

-- ---- notes
-- a mark of line k at the bound of buffer 1
abbrev mark : ℕ → ℕ → Mark
mark k note = record { bound = 5; line = k; note = note }

noted_by : (b : ℕ) → (b ≡ 0) ⊎ (b ≡ 1) → IsNoted lines (mark 0 b)
noted_by b either = record { line = Over claim 0 5 1; stands = refl; has = has either }
  where
    has : (b ≡ 0) ⊎ (b ≡ 1) → HasBuffer claim b
    has (inl q) = inl q
    has (inr q) = inr (inl q)

-- the line has no third buffer
not_noted_by : IsNoted lines (mark 0 2) → ⊥
not_noted_by n = elim (subst (λ (x : Line). HasBuffer (claim_of x) 2) (same_some (sym n.stands)) n.has) [
  | inl q ↦ absurd (omega (arith, q))
  | inr i ↦ elim i [ inl q ↦ absurd (omega (arith, q)) | inr j ↦ j ]
]

-- the log has no second line
not_noted_past : IsNoted lines (mark 1 0) → ⊥
not_noted_past n = let e = n.stands in absurd cc

noted : (b : ℕ) → (b ≡ 0) ⊎ (b ≡ 1) → AreNoted lines ((mark 0 b ∷ []) ∷ [])
noted b either zero m (inl q) = subst (IsNoted lines) (sym q) (noted_by b either)
noted b either zero m (inr j) = absurd j
noted b either (suc p) m i = absurd i

second_not_noted : AreNoted lines ((mark 0 1 ∷ mark 0 2 ∷ []) ∷ []) → ⊥
second_not_noted h = not_noted_by (h 0 (mark 0 2) (inr (inl refl)))

-- ---- all of it
abbrev pub watches_of : List Entry → List Mark → LineWatches
watches_of entries row = record { entries = entries; rows = row ∷ [] }

-- the watch is the bound of buffer 1, which is the note of its mark
abbrev pub by_one : LineWatches
by_one = watches_of ((1, 5) ∷ []) (mark 0 1 ∷ [])

-- the note is no buffer of the line
abbrev pub by_third : LineWatches
by_third = watches_of ((1, 5) ∷ []) (mark 0 2 ∷ [])

pub foreign : AreNoted lines by_third.rows → ⊥
foreign h = not_noted_by (h 0 (mark 0 2) (inl refl))

pub noted_by_one : AreNoted lines by_one.rows
noted_by_one = noted 1 (inr refl)

pub watched_at_low : AreWatched lines by_one low 1
watched_at_low = record { within = omega arith; each = each }
  where
    each : (k : ℕ) (line : Line) → k < 1 → slice_get lines k ≡ Some line →
        (e : Entry) × (slice_get ((1, 5) ∷ []) k ≡ Some e) × RulesOut low (claim_of line) e
    each zero line lt at = (
      (1, 5),
      refl,
      subst (λ (x : Line). RulesOut low (claim_of x) (1, 5)) (same_some at)
          rules_out_low,
    )
    each (suc k) line lt at = absurd (omega arith)

one_line_alone : AreWatched lines by_one low 2 → ⊥
one_line_alone w = absurd (let k = w.within in omega arith)

without_watch : AreWatched lines (watches_of [] []) low 1 → ⊥
without_watch w = let r = w.each 0 (Over claim 0 5 1) (omega arith) refl in cc

pub met_by_high : AreWatched lines by_one high 1 → ⊥
met_by_high w =
    let r = w.each 0 (Over claim 0 5 1) (omega arith) refl in
    not_high (subst (RulesOut high claim) (sym (same_some r.1)) r.2)
