-- Worked facts: marks of two buffers in rows, in groups of 3 bytes.
use Rattle.std.proofs.Common.{◌≡◌, ℕ, ◌+◌, ◌/◌, ◌^◌, zero, suc, ◌<◌, List, [], ◌∷◌, Some, inl, inr, slice_get, slice_index_or, refl, sym, ap, ◌∙◌, subst, arith}
use Rattle.dsa_terms.specs.Claims.{Entry}
use Rattle.dsa_terms.proofs.Lists.{same_some}
use Rattle.dsa_model.specs.Buffer.{buffer_limit}
use Rattle.line_index.specs.declared.watch_row.Mark.{Mark}
use Rattle.line_index.specs.Rows.{AreAmong, AreAppended, AreFiled, AreWith, HasMark, IsRowOf, IsUnwatched, WatchedLines, group_of, groups, mark_of, row_of, with_note}
use Rattle.line_index.specs.Watches.{row_at}

-- ---- groups
-- the scale of groups of 3 bytes
abbrev pub by_3 : ℕ
by_3 = 2 ^ 63 / 3 + 1

there_are_sixteen : groups ≡ 16
there_are_sixteen = refl

last_of_the_first_group : group_of by_3 2 ≡ 0
last_of_the_first_group = refl

first_of_the_second_group : group_of by_3 3 ≡ 1
first_of_the_second_group = refl

in_the_last_group : group_of by_3 45 ≡ 15
in_the_last_group = refl

-- higher bounds are in the last group too
far_above : group_of by_3 1000 ≡ 15
far_above = refl

row_of_a_pair : row_of by_3 (1, 5) ≡ 17
row_of_a_pair = refl

last_row_of_buffer_1 : row_of by_3 (1, 1000) ≡ 31
last_row_of_buffer_1 = refl

is_row_of_1 : IsRowOf 1 31
is_row_of_1 = record { from = omega arith; below = omega arith }

row_of_0 : IsRowOf 1 15 → ⊥
row_of_0 r = absurd (let k = r.from in omega arith)

row_of_2 : IsRowOf 1 32 → ⊥
row_of_2 r = absurd (let k = r.below in omega arith)

-- ---- marks
line_of_mark : (mark_of 3 7 2).line ≡ 3
line_of_mark = refl

bound_of_mark : (mark_of 3 7 2).bound ≡ 7
bound_of_mark = refl

note_of_mark : (mark_of 3 7 2).note ≡ 2
note_of_mark = refl

other_note : with_note (mark_of 3 7 2) 4 ≡ mark_of 3 7 4
other_note = refl

has_mark : HasMark (mark_of 0 4 1 ∷ mark_of 2 5 0 ∷ []) 2 (1, 5)
has_mark = record { note = 0; inside = inr (inl refl) }

of_another_line : HasMark (mark_of 0 4 1 ∷ []) 2 (1, 4) → ⊥
of_another_line h = elim h.inside [
  | inl q ↦ absurd (let k : 2 ≡ 0 = ap (λ (m : Mark). m.line) q in omega arith)
  | inr j ↦ j
]

at_another_bound : HasMark (mark_of 0 4 1 ∷ []) 0 (1, 5) → ⊥
at_another_bound h = elim h.inside [
  | inl q ↦ absurd (let k : 5 ≡ 4 = ap (λ (m : Mark). m.bound) q in omega arith)
  | inr j ↦ j
]

-- ---- rows
-- the first line watches the bound 1 of buffer 0, and once watched the bound 2
abbrev watches : List Entry
watches = (0, 1) ∷ []

abbrev table : WatchedLines
table = record { watches = watches; rows = (mark_of 0 2 0 ∷ mark_of 0 1 0 ∷ []) ∷ []; scale = by_3 }

row_that_is_there : row_at table.rows 0 ≡ mark_of 0 2 0 ∷ mark_of 0 1 0 ∷ []
row_that_is_there = refl

row_that_is_not : row_at table.rows 1 ≡ []
row_that_is_not = refl

filed : AreFiled watches table.rows by_3
filed = record { filed = in_row }
  where
    in_row : (k : ℕ) (e : Entry) → slice_get watches k ≡ Some e → e.0 < buffer_limit →
        HasMark (row_at table.rows (row_of by_3 e)) k e
    in_row zero e at lt = subst (λ (e : Entry). HasMark (row_at table.rows (row_of by_3 e)) 0 e) (same_some at)
        (record { note = 0; inside = inr (inl refl) })
    in_row (suc k) e at lt = absurd cc

-- where groups are 1 byte wide, the bound 1 is in the second one
in_another_row : AreFiled watches table.rows (2 ^ 63 + 1) → ⊥
in_another_row h = let r = h.filed 0 (0, 1) refl (omega arith) in r.inside

appended : AreAppended table.rows ((mark_of 0 2 0 ∷ mark_of 0 1 0 ∷ mark_of 1 2 0 ∷ []) ∷ [])
appended zero = (mark_of 1 2 0 ∷ [], refl)
appended (suc p) = ([], refl)

not_with_another_note : AreAppended ((mark_of 0 2 0 ∷ []) ∷ []) ((mark_of 0 2 1 ∷ []) ∷ []) → ⊥
not_with_another_note h =
    let q : slice_index_or ((mark_of 0 2 1 ∷ []) ∷ []) 0 [] ≡ mark_of 0 2 0 ∷ (h 0).0 = (h 0).1 in
    absurd (let k : 1 ≡ 0 = ap first_note q in omega arith)
  where
    first_note : List Mark → ℕ
    first_note [] = 0
    first_note (m ∷ ms) = m.note

with_another_note : AreWith (mark_of 0 2 1) ((mark_of 0 2 0 ∷ []) ∷ []) ((mark_of 0 2 1 ∷ []) ∷ [])
with_another_note zero x (inl q) = inr q
with_another_note zero x (inr j) = absurd j
with_another_note (suc p) x i = absurd i

with_a_third : AreWith (mark_of 0 2 2) ((mark_of 0 2 0 ∷ []) ∷ []) ((mark_of 0 2 1 ∷ []) ∷ []) → ⊥
with_a_third h = elim (h 0 (mark_of 0 2 1) (inl refl)) [
  | inl i ↦ elim i [
    | inl q ↦ absurd (let k : 1 ≡ 0 = ap (λ (m : Mark). m.note) q in omega arith)
    | inr j ↦ j
  ]
  | inr q ↦ absurd (let k : 1 ≡ 2 = ap (λ (m : Mark). m.note) q in omega arith)
]

among : AreAmong table.rows ((mark_of 0 1 0 ∷ []) ∷ [])
among zero x (inl q) = inr (inl q)
among zero x (inr j) = absurd j
among (suc p) x i = absurd i

not_among : AreAmong ((mark_of 0 1 0 ∷ []) ∷ []) table.rows → ⊥
not_among h = elim (h 0 (mark_of 0 2 0) (inl refl)) [
  | inl q ↦ absurd (let k : 2 ≡ 1 = ap (λ (m : Mark). m.bound) q in omega arith)
  | inr j ↦ j
]

stale : IsUnwatched table 0 0
stale m e is at q p =
    let here : mark_of 0 2 0 ≡ m = same_some is in
    let number : m.line ≡ 0 = sym (ap (λ (m : Mark). m.line) here) in
    let there : (let x : Entry = (0, 1) in x) ≡ e =
    same_some (subst (λ (k : ℕ). slice_get watches k ≡ Some e) number at) in
    absurd (let k : 1 ≡ 2 = ap (λ (e : Entry). e.1) there ∙ q ∙ sym (ap (λ (m : Mark). m.bound) here) in omega arith)

watched : IsUnwatched table 0 1 → ⊥
watched h = h (mark_of 0 1 0) (0, 1) refl refl refl refl
