-- The rows of a buffer that are gone through, the last first, and each row from behind.
use Rattle.std.proofs.Common.{◌≡◌, ℕ, ◌+◌, ◌-◌, ◌*◌, ◌/◌, ◌^◌, ◌<◌, ◌≤◌, ◌⊎◌, inl, inr, List, [], ◌∷◌, ◌++◌, length, min, slice_get, slice_index, slice_set, take, Some, sym, ap, ◌∙◌, subst, arith}
use Rattle.std.proofs.lemmas.List.{take_more}
use Rattle.std.proofs.Math.Nat.{mul-le-mul_right}
use Rattle.std.proofs.lemmas.Option.{get_or_from_slice_get, slice_get_within}
use Rattle.dsa_terms.specs.Claims.{Claim, Entry, IsIn}
use Rattle.dsa_terms.specs.Logs.{Line, claim_of}
use Rattle.dsa_terms.proofs.Lists.{from_append, same_some}
use Rattle.dsa_terms.proofs.NumberTests.{below_or_last}
use Rattle.canonical_order.specs.Claims.{HasBuffer}
use Rattle.canonical_order.proofs.Entries.{entry_in}
use Rattle.line_index.specs.declared.watch_row.Mark.{Mark}
use Rattle.line_index.specs.Looks.{IsLacked, IsUnmet}
use Rattle.line_index.specs.Rows.{AreAmong, AreAppended, AreWith, HasMark, IsRowOf, IsUnwatched, mark_of, row_of}
use Rattle.line_index.specs.Watches.{AreNoted, Fails, IsNoted, row_at}
use Rattle.line_index.specs.Watching.{AreMoved, FailAt, FailInRow, FailsAtMark}
use Rattle.line_index.proofs.ItemLemmas.{in_from_get}
use Rattle.line_index.proofs.WatchLemmas.{get_set_same, lacked_fails}
use Rattle.line_index.proofs.WatchRows.{appended_get}

-- ---- notes
pub noted_among : (lines : List Line) (before after : List (List Mark)) → AreAmong before after →
    AreNoted lines before → AreNoted lines after
noted_among lines before after a h p m i = h p m (a p m i)

pub noted_with : (lines : List Line) (before after : List (List Mark)) (m : Mark) → AreWith m before after →
    IsNoted lines m → AreNoted lines before → AreNoted lines after
noted_with lines before after m a noted h p x i = elim (a p x i) [
  | inl there ↦ h p x there
  | inr is ↦ subst (IsNoted lines) (sym is) noted
]

-- a line whose note has no level covers nothing there
pub passed_fails : (lines : List Line) (watches : List Entry) (rows : List (List Mark)) (levels : List ℕ) (b p i : ℕ)
    (m : Mark) → AreNoted lines rows → slice_get (row_at rows p) i ≡ Some m → slice_index levels m.note ≡ 0 →
    FailsAtMark lines watches levels b m
passed_fails lines watches rows levels b p i m noted is zero line stands at =
    let n = noted p m (in_from_get (row_at rows p) i m is) in
    let same : n.line ≡ line = same_some (sym n.stands ∙ stands) in
    let has : HasBuffer (claim_of line) m.note =
    subst (λ (x : Line). HasBuffer (claim_of x) m.note) same n.has in
    λ levelled. absurd (let lt : 0 < slice_index levels m.note = levelled (m.note, _)
    (entry_in (claim_of line) m.note has) in omega arith)

-- ---- rows of a buffer
last_group : (n m : ℕ) → min n m ≤ m
last_group n m = grind arith

low_group : (n m k : ℕ) → n ≤ k → min n m ≤ min k m
low_group n m k le = grind arith

pub buffer_of_row : (scale b p : ℕ) (e : Entry) → IsRowOf b p → row_of scale e ≡ p → e.0 ≡ b
buffer_of_row scale b p e r q =
    let f = r.from in
    let t = r.below in
    let k = last_group (e.1 * scale / 2 ^ 63) 15 in
    omega arith

div_rises : (m n : ℕ) → m ≤ n → m / 2 ^ 63 ≤ n / 2 ^ 63
div_rises m n le = omega arith

-- the row of a higher bound is no lower
pub row_rises : (scale : ℕ) (e f : Entry) → e.0 ≡ f.0 → e.1 ≤ f.1 → row_of scale e ≤ row_of scale f
row_rises scale e f same le =
    let k = low_group (e.1 * scale / 2 ^ 63) 15 (f.1 * scale / 2 ^ 63)
    (div_rises (e.1 * scale) (f.1 * scale) (mul-le-mul_right scale le)) in
    omega arith

module _ (lines : List Line) (scale : ℕ) (levels : List ℕ) (b low : ℕ) where
  -- each watch of b with a bound in the range fails, or is in a row below n
  abbrev pub FailOrBelow : List Entry → ℕ → Type 0
  FailOrBelow watches n = (k : ℕ) (line : Line) (e : Entry) → slice_get lines k ≡ Some line →
      slice_get watches k ≡ Some e → e.0 ≡ b → low ≤ e.1 → e.1 < slice_index levels b →
      Fails levels (claim_of line) e ⊎ (row_of scale e < n)

  pub fail_or_below_last : (watches : List Entry) (high last : ℕ) → high ≡ slice_index levels b →
      low < high → last ≡ row_of scale (b, high - 1) → FailOrBelow watches (last + 1)
  fail_or_below_last watches high last top lt q k line e at stands same from below =
      inr (let le : row_of scale e ≤ row_of scale (b, high - 1) =
      row_rises scale e (b, high - 1) same (omega arith) in omega arith)

  pub fail_or_below_next : (watches after : List Entry) (n p : ℕ) → n ≡ p + 1 → AreMoved lines levels watches after →
      FailInRow lines after scale levels b low p → FailOrBelow watches n → FailOrBelow after p
  fail_or_below_next watches after n p next moved row h k line e at stands same from below =
      elim (moved k line at) [
        | inr u ↦ inl (subst (Fails levels (claim_of line)) (same_some (sym u.1 ∙ stands)) (λ has. u.2.unmet))
        | inl still ↦ elim (h k line e at (sym still ∙ stands) same from below) [
          | inl fails ↦ inl fails
          | inr lt ↦ elim (below_or_last (row_of scale e) p (omega arith)) [
            | inl less ↦ inr less
            | inr here ↦ inl (row k line e at stands here from below)
          ]
        ]
      ]

  pub fail_at_end : (watches : List Entry) (n first : ℕ) → first ≡ row_of scale (b, low) → n ≤ first →
      FailOrBelow watches n → FailAt lines watches levels b low
  fail_at_end watches n first q le h k line e at stands same from below =
      elim (h k line e at stands same from below) [
        | inl fails ↦ fails
        | inr lt ↦ absurd (let up : row_of scale (b, low) ≤ row_of scale e =
            row_rises scale (b, low) e (sym same) from in omega arith)
      ]

  -- ---- one row that is gone through from behind
  -- each watch in row p with a bound in the range fails, or has a mark at one of the first n places of the row
  abbrev pub FailOrBefore : List Entry → List (List Mark) → ℕ → ℕ → Type 0
  FailOrBefore watches rows p n = (k : ℕ) (line : Line) (e : Entry) → slice_get lines k ≡ Some line →
      slice_get watches k ≡ Some e → row_of scale e ≡ p → low ≤ e.1 → e.1 < slice_index levels b →
      Fails levels (claim_of line) e ⊎ HasMark (take n (row_at rows p)) k e

  -- the mark at the last of these places was looked at
  pub fail_or_before : (watches after : List Entry) (rows more : List (List Mark)) (p n i : ℕ) (m : Mark) →
      n ≡ i + 1 → IsRowOf b p → slice_get (row_at rows p) i ≡ Some m → AreMoved lines levels watches after →
      take i (row_at more p) ≡ take i (row_at rows p) →
      (low ≤ m.bound → m.bound < slice_index levels b → FailsAtMark lines after levels b m) →
      FailOrBefore watches rows p n → FailOrBefore after more p i
  fail_or_before watches after rows more p n i m next row is moved kept seen h k line e at stands q from below =
      elim (moved k line at) [
        | inr u ↦ inl (subst (Fails levels (claim_of line)) (same_some (sym u.1 ∙ stands)) (λ has. u.2.unmet))
        | inl same ↦ elim (h k line e at (sym same ∙ stands) q from below) [
          | inl fails ↦ inl fails
          | inr there ↦
              let x = mark_of k e.1 there.note in
              elim (from_append (take i (row_at rows p)) (m ∷ []) x
              (subst (IsIn x) (ap (λ (n : ℕ). take n (row_at rows p)) next
              ∙ take_more (row_at rows p) i m (slice_get_within (row_at rows p) i m is)
              ∙ ap (λ (m : Mark). take i (row_at rows p) ++ m ∷ []) (get_or_from_slice_get (row_at rows p) i m m is))
              there.inside)) [
                | inl before ↦ inr (record { note = there.note; inside = subst (IsIn x) (sym kept) before })
                | inr last ↦ elim last [
                  | inl this ↦ inl (here x.note this)
                  | inr nothing ↦ absurd nothing
                ]
              ]
        ]
      ]
    where
      here : (note : ℕ) → mark_of k e.1 note ≡ m → Fails levels (claim_of line) e
      here note this =
          let number : k ≡ m.line = ap (λ (m : Mark). m.line) this in
          let bound : e.1 ≡ m.bound = ap (λ (m : Mark). m.bound) this in
          let same : e ≡ (b, m.bound) = pair e (buffer_of_row scale b p e row q) bound in
          subst (Fails levels (claim_of line)) (sym same) (seen (omega arith) (omega arith) line
          (ap (slice_get lines) (sym number) ∙ at) (ap (slice_get after) (sym number) ∙ stands ∙ ap Some same))
        where
          pair : (e : Entry) → e.0 ≡ b → e.1 ≡ m.bound → e ≡ (b, m.bound)
          pair e p q = ap (λ (c : ℕ). let x : Entry = (c, e.1) in x) p ∙ ap (λ (n : ℕ). let x : Entry = (b, n) in x) q

-- ---- what is needed to take out or look at a mark
-- the line of the mark has another watch
pub stale : (watches : List Entry) (rows : List (List Mark)) (scale b p i : ℕ) (mark : Mark) (watch : Entry) →
    IsRowOf b p → slice_get (row_at rows p) i ≡ Some mark → slice_get watches mark.line ≡ Some watch →
    (watch.0 ≡ b → watch.1 ≡ mark.bound → ⊥) →
    IsUnwatched (record { watches = watches; rows = rows; scale = scale }) p i
stale watches rows scale b p i mark watch row is had other m e at stands bound q =
    let same : m ≡ mark = same_some (sym at ∙ is) in
    let one : e ≡ watch = same_some (sym stands ∙ ap (λ (m : Mark). slice_get watches m.line) same ∙ had) in
    let buffer : e.0 ≡ b = buffer_of_row scale b p e row q in
    absurd (other (ap (λ (e : Entry). e.0) (sym one) ∙ buffer)
    (ap (λ (e : Entry). e.1) (sym one) ∙ bound ∙ ap (λ (m : Mark). m.bound) same))

-- the line of a mark whose bound is met has another watch by now, whose bound is not met
pub moved_away : (watches after : List Entry) (rows more : List (List Mark)) (scale : ℕ) (levels : List ℕ) (k : Claim)
    (b p i : ℕ) (mark : Mark) (e : Entry) → IsRowOf b p → slice_get (row_at rows p) i ≡ Some mark →
    i < length (row_at rows p) → AreAppended rows more → after ≡ slice_set watches mark.line e →
    mark.line < length watches → IsUnmet k levels e → mark.bound < slice_index levels b →
    IsUnwatched (record { watches = after; rows = more; scale = scale }) p i
moved_away watches after rows more scale levels k b p i mark e row is inside a q lt u met =
    stale after more scale b p i mark e row (appended_get rows more p i a inside ∙ is)
    (ap (λ (xs : List Entry). slice_get xs mark.line) q ∙ get_set_same watches mark.line e lt) (λ buffer bound.
    (let level : slice_index levels e.0 ≡ slice_index levels b = ap (slice_index levels) buffer in
    let le : slice_index levels e.0 ≤ e.1 = u.unmet in
    omega arith))

pub lacked_at_mark : (lines : List Line) (levels : List ℕ) (mark m : Mark) (seen line : Line) (f e : Entry) → m ≡ mark →
    slice_get lines mark.line ≡ Some seen → slice_get lines m.line ≡ Some line → IsLacked (claim_of seen) levels f →
    Fails levels (claim_of line) e
lacked_at_mark lines levels mark m seen line f e q at stands lacked = lacked_fails levels (claim_of line) e f
    (subst (λ (x : Line). IsLacked (claim_of x) levels f) (same_some (sym at
    ∙ ap (λ (m : Mark). slice_get lines m.line) (sym q) ∙ stands)) lacked)
