-- Marks in rows, and the watches that are filed in them.
use Rattle.std.proofs.Common.{◌≡◌, ℕ, zero, suc, ◌<◌, ◌⊎◌, inl, inr, List, [], ◌∷◌, ◌++◌, length, length-append, slice_get, slice_index_or, slice_set, take, Some, sym, ap, ◌∙◌, subst, refl, arith}
use Rattle.std.proofs.lemmas.List.{append-nil, get_or-set_other, get_or-set_same, get_or_past, take-append-le, get_or_read, length-set}
use Rattle.std.specs.List.{swap_remove}
use Rattle.dsa_terms.specs.Claims.{Entry, IsIn}
use Rattle.dsa_terms.proofs.Lists.{left_append, right_append, same_some}
use Rattle.dsa_terms.proofs.NumberTests.{below_or_from, same_or_not}
use Rattle.dsa_terms.proofs.Places.{from_contains}
use Rattle.dsa_model.specs.Buffer.{buffer_limit}
use Rattle.line_index.specs.declared.watch_row.Mark.{Mark}
use Rattle.line_index.specs.Rows.{AreAmong, AreAppended, AreFiled, AreWith, HasMark, IsUnwatched, mark_of, row_of, with_note}
use Rattle.line_index.specs.Watches.{row_at}
use Rattle.refute_log.proofs.Legal.{get_before}
use Rattle.line_index.proofs.ItemLemmas.{get_more, in_set, in_swap_remove}
use Rattle.line_index.proofs.WatchLemmas.{get_set_other, get_set_same}

-- some mark
abbrev pub mark_of_none : Mark
mark_of_none = mark_of 0 0 0

-- ---- all rows
pub same_row : (rows : List (List Mark)) (p : ℕ) → row_at (rows ++ [] ∷ []) p ≡ row_at rows p
same_row [] zero = refl
same_row [] (suc p) = refl
same_row (r ∷ rs) zero = refl
same_row (r ∷ rs) (suc p) = same_row rs p

pub appended_from : (rows same after : List (List Mark)) → ((p : ℕ) → row_at same p ≡ row_at rows p) →
    AreAppended same after → AreAppended rows after
appended_from rows same after q a p = let r = a p in (r.0, r.1 ∙ ap (λ (xs : List Mark). xs ++ r.0) (q p))

pub with_from : (rows same after : List (List Mark)) (m : Mark) → ((p : ℕ) → row_at same p ≡ row_at rows p) →
    AreWith m same after → AreWith m rows after
with_from rows same after m q a p x i = elim (a p x i) [
  | inl there ↦ inl (subst (IsIn x) (q p) there)
  | inr is ↦ inr is
]

-- one row gets a mark behind the others
pub appended_row : (rows : List (List Mark)) (b : ℕ) (old row : List Mark) (m : Mark) → b < length rows →
    old ≡ slice_index_or rows b old → row ≡ old ++ m ∷ [] → AreAppended rows (slice_set rows b row)
appended_row rows b old row m lt e q c = elim (same_or_not c b) [
  | inr other ↦ ([], get_or-set_other rows b c row [] other ∙ sym (append-nil (row_at rows c)))
  | inl same ↦ (
    m ∷ [],
    ap (row_at (slice_set rows b row)) same ∙ get_or-set_same rows b row [] lt ∙ q
        ∙ ap (λ (xs : List Mark). xs ++ m ∷ []) (get_or_read rows b old lt e [] ∙ ap (row_at rows) (sym same)),
  )
]

pub in_appended : (rows after : List (List Mark)) (b : ℕ) (m : Mark) → AreAppended rows after → IsIn m (row_at rows b) →
    IsIn m (row_at after b)
in_appended rows after b m h i = let r = h b in
    subst (IsIn m) (sym r.1) (left_append (row_at rows b) r.0 m i)

pub in_new_row : (rows : List (List Mark)) (b : ℕ) (old row : List Mark) (m : Mark) → b < length rows →
    row ≡ old ++ m ∷ [] → IsIn m (row_at (slice_set rows b row) b)
in_new_row rows b old row m lt q = subst (IsIn m) (sym (get_or-set_same rows b row [] lt ∙ q))
    (right_append old (m ∷ []) m (inl refl))

-- a mark in a row is one that was in that row, or in the one that was written
pub from_row : (rows : List (List Mark)) (p : ℕ) (row : List Mark) (q : ℕ) (x : Mark) → p < length rows →
    IsIn x (row_at (slice_set rows p row) q) → IsIn x (row_at rows q) ⊎ ((q ≡ p) × IsIn x row)
from_row rows p row q x lt i = elim (same_or_not q p) [
  | inr other ↦ inl (subst (IsIn x) (get_or-set_other rows p q row [] other) i)
  | inl same ↦ inr (
    same,
    subst (IsIn x) (ap (row_at (slice_set rows p row)) same ∙ get_or-set_same rows p row [] lt) i,
  )
]

-- one row gets a mark more, or another one for one of its own
pub with_row : (rows : List (List Mark)) (p : ℕ) (old row : List Mark) (m : Mark) → p < length rows →
    old ≡ slice_index_or rows p old → ((x : Mark) → IsIn x row → IsIn x old ⊎ (x ≡ m)) →
    AreWith m rows (slice_set rows p row)
with_row rows p old row m lt e new q x i = elim (from_row rows p row q x lt i) [
  | inl there ↦ inl there
  | inr here ↦ elim (new x here.1) [
    | inr is ↦ inr is
    | inl before ↦ inl (subst (IsIn x) (get_or_read rows p old lt e [] ∙ ap (row_at rows) (sym here.0)) before)
  ]
]

pub among_row : (rows : List (List Mark)) (p : ℕ) (old row : List Mark) → p < length rows →
    old ≡ slice_index_or rows p old → ((x : Mark) → IsIn x row → IsIn x old) → AreAmong rows (slice_set rows p row)
among_row rows p old row lt e new q x i = elim (from_row rows p row q x lt i) [
  | inl there ↦ there
  | inr here ↦ subst (IsIn x) (get_or_read rows p old lt e [] ∙ ap (row_at rows) (sym here.0)) (new x here.1)
]

-- ---- watches in rows
-- a line more gets a watch of no buffer
pub filed_more : (watches more : List Entry) (rows : List (List Mark)) (scale : ℕ) (e : Entry) →
    more ≡ watches ++ e ∷ [] → e.0 ≡ buffer_limit → AreFiled watches rows scale → AreFiled more rows scale
filed_more watches more rows scale e q none h = record {
  filed = λ k f at lt. elim (get_more watches e f k (ap (λ (xs : List Entry). slice_get xs k) (sym q) ∙ at)) [
    | inl before ↦ h.filed k f before lt
    | inr last ↦ absurd (let b : f.0 ≡ e.0 = ap (λ (e : Entry). e.0) last in omega arith)
  ];
}

pub filed_same : (watches : List Entry) (rows after : List (List Mark)) (scale : ℕ) →
    ((p : ℕ) → row_at after p ≡ row_at rows p) → AreFiled watches rows scale → AreFiled watches after scale
filed_same watches rows after scale q h = record {
  filed = λ k e at lt. subst (λ (xs : List Mark). HasMark xs k e) (sym (q (row_of scale e))) (h.filed k e at lt);
}

pub filed_appended : (watches : List Entry) (rows after : List (List Mark)) (scale : ℕ) → AreAppended rows after →
    AreFiled watches rows scale → AreFiled watches after scale
filed_appended watches rows after scale a h = record {
  filed = λ k e at lt.
      (let r = h.filed k e at lt in
      record {
        note = r.note;
        inside = in_appended rows after (row_of scale e) (mark_of k e.1 r.note) a r.inside;
      });
}

-- a line gets another watch, of which there is a mark
pub filed_set : (watches : List Entry) (rows : List (List Mark)) (scale k note : ℕ) (e : Entry) → k < length watches →
    IsIn (mark_of k e.1 note) (row_at rows (row_of scale e)) → AreFiled watches rows scale →
    AreFiled (slice_set watches k e) rows scale
filed_set watches rows scale k note e lt i h = record { filed = filed }
  where
    filed : (j : ℕ) (f : Entry) → slice_get (slice_set watches k e) j ≡ Some f → f.0 < buffer_limit →
        HasMark (row_at rows (row_of scale f)) j f
    filed j f at below = elim (same_or_not j k) [
      | inr other ↦ h.filed j f (sym (get_set_other watches k j e other) ∙ at) below
      | inl same ↦
          let q : f ≡ e = same_some (sym at ∙ ap (slice_get (slice_set watches k e)) same
          ∙ get_set_same watches k e lt) in
          subst (λ (g : Entry). HasMark (row_at rows (row_of scale g)) j g) (sym q)
          (subst (λ (n : ℕ). HasMark (row_at rows (row_of scale e)) n e) (sym same)
          (record { note = note; inside = i }))
    ]

-- a row is written that keeps a mark for each watch
module _ (watches : List Entry) (rows : List (List Mark)) (scale p : ℕ) (old row : List Mark)
    (lt : p < length rows) (e : old ≡ slice_index_or rows p old) (h : AreFiled watches rows scale) where
  filed_row : ((k : ℕ) (f : Entry) → slice_get watches k ≡ Some f → row_of scale f ≡ p → HasMark old k f →
      HasMark row k f) → AreFiled watches (slice_set rows p row) scale
  filed_row keeps = record {
    filed = λ k f at below. elim (same_or_not (row_of scale f) p) [
      | inr other ↦ subst (λ (xs : List Mark). HasMark xs k f)
          (sym (get_or-set_other rows p (row_of scale f) row [] other)) (h.filed k f at below)
      | inl same ↦ subst (λ (xs : List Mark). HasMark xs k f)
          (sym (ap (row_at (slice_set rows p row)) same ∙ get_or-set_same rows p row [] lt))
          (keeps k f at same (subst (λ (xs : List Mark). HasMark xs k f)
          (ap (row_at rows) same ∙ sym (get_or_read rows p old lt e [])) (h.filed k f at below)))
    ];
  }

  -- a mark that no line has for its watch is taken out
  pub filed_taken : (i : ℕ) → i < length old → ((m : Mark) → row ≡ swap_remove old i m) →
      IsUnwatched (record { watches = watches; rows = rows; scale = scale }) p i →
      AreFiled watches (slice_set rows p row) scale
  filed_taken i inside q unwatched = filed_row keeps
    where
      keeps : (k : ℕ) (f : Entry) → slice_get watches k ≡ Some f → row_of scale f ≡ p → HasMark old k f →
          HasMark row k f
      keeps k f at same r =
          let m = mark_of k f.1 r.note in
          elim (in_swap_remove old i m m inside r.inside) [
            | inl still ↦ record { note = r.note; inside = subst (IsIn m) (sym (q m)) still }
            | inr taken ↦ absurd (unwatched m f
                (ap (λ (xs : List Mark). slice_get xs i) (sym (get_or_read rows p old lt e [])) ∙ taken) at refl same)
          ]

  -- a mark gets another note
  pub filed_noted : (i note : ℕ) (m : Mark) → i < length old → slice_get old i ≡ Some m →
      row ≡ slice_set old i (with_note m note) → AreFiled watches (slice_set rows p row) scale
  filed_noted i note m inside is q = filed_row keeps
    where
      keeps : (k : ℕ) (f : Entry) → slice_get watches k ≡ Some f → row_of scale f ≡ p → HasMark old k f →
          HasMark row k f
      keeps k f at same r =
          let x = mark_of k f.1 r.note in
          let new = with_note m note in
          elim (in_set old i new x inside r.inside) [
            | inl still ↦ record { note = r.note; inside = subst (IsIn x) (sym q) still }
            | inr here ↦
                let one : x ≡ m = same_some (sym here ∙ is) in
                record {
                  note = note;
                  inside = subst (λ (y : Mark). IsIn (with_note y note) row) (sym one) (subst (IsIn new) (sym q)
                      (from_contains (slice_set old i new) new (
                        i,
                        (let n = length-set old i new in omega arith),
                        get_or-set_same old i new new inside,
                      )));
                }
          ]

-- ---- the places before
pub before_taken : (rows : List (List Mark)) (p i : ℕ) (old row : List Mark) → p < length rows →
    old ≡ slice_index_or rows p old → take i row ≡ take i old →
    take i (row_at (slice_set rows p row) p) ≡ take i (row_at rows p)
before_taken rows p i old row lt e q = ap (take i) (get_or-set_same rows p row [] lt) ∙ q
    ∙ ap (take i) (get_or_read rows p old lt e [])

pub row_within : (rows : List (List Mark)) (p i : ℕ) → i < length (row_at rows p) → p < length rows
row_within rows p i lt = elim (below_or_from p (length rows)) [
  | inl below ↦ below
  | inr past ↦ absurd (let z : length (row_at rows p) ≡ 0 = ap length (get_or_past rows p [] past) in omega arith)
]

pub within_old : (rows : List (List Mark)) (p i : ℕ) (old : List Mark) → old ≡ slice_index_or rows p old →
    i < length (row_at rows p) → i < length old
within_old rows p i old e lt =
    let q : length old ≡ length (row_at rows p) = ap length (get_or_read rows p old (row_within rows p i lt) e []) in
    omega arith

pub longer_row : (rows after : List (List Mark)) (p i : ℕ) → AreAppended rows after → i < length (row_at rows p) →
    i < length (row_at after p)
longer_row rows after p i h lt =
    let r = h p in
    let q = ap length r.1 in
    let n = length-append (row_at rows p) r.0 in
    omega arith

pub appended_get : (rows after : List (List Mark)) (p i : ℕ) → AreAppended rows after → i < length (row_at rows p) →
    slice_get (row_at after p) i ≡ slice_get (row_at rows p) i
appended_get rows after p i h lt = let r = h p in
    ap (λ (xs : List Mark). slice_get xs i) r.1 ∙ get_before (row_at rows p) r.0 i lt

pub appended_take : (rows after : List (List Mark)) (p i : ℕ) → AreAppended rows after → i < length (row_at rows p) →
    take i (row_at after p) ≡ take i (row_at rows p)
appended_take rows after p i h lt = let r = h p in
    ap (take i) r.1 ∙ take-append-le i (row_at rows p) r.0 (omega arith)
