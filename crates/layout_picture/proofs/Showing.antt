-- What is drawn is what is live, and the other way round.
use Rattle.std.proofs.Common.{◌≡◌, ℕ, zero, suc, ◌+◌, ◌-◌, ◌<◌, ◌≤◌, ◌⊎◌, inl, inr, Bool, true, false, not, ◌&&◌, ◌||◌, ◌==◌, List, [], ◌∷◌, cond, length, map, filter, drop, get_or, refl, ap, ap₂, sym, subst, ◌∙◌, arith}
use Rattle.std.specs.Bool.{beq}
use Rattle.std.specs.List.{list_any, sum_by}
use Rattle.std.proofs.lemmas.Bool.Decides.{nat_tests}
use Rattle.std.proofs.lemmas.List.{get_or-map, get_or_past, length-map}
use Rattle.dsa_terms.specs.Buffers.{Buffer, Instance, buffer, is_live, IsLive, no_buffer}
use Rattle.dsa_terms.specs.Claims.{IsIn, Rises}
use Rattle.dsa_terms.specs.Logs.{greatest}
use Rattle.dsa_terms.specs.Parts.{numbers}
use Rattle.dsa_terms.specs.Plans.{load}
use Rattle.dsa_terms.proofs.Lists.{any_from, from_filter, from_flat, from_map, into_filter, into_flat, into_map, true_or_false}
use Rattle.dsa_terms.proofs.Moments.{live_before}
use Rattle.dsa_terms.proofs.NumberTests.{below_or_from}
use Rattle.dsa_terms.proofs.Places.{in_at, place_of}
use Rattle.dsa_terms.proofs.Ranges.{among, below}
use Rattle.lifetime.specs.Runs.{was_live}
use Rattle.lifetime.proofs.Lists.{rises-numbers, rises_at}
use Rattle.layout_picture.specs.Columns.{IsInColumn, columns_of, turns_at}
use Rattle.layout_picture.specs.Laws.{HasColumn, IsShownAt}
use Rattle.layout_picture.specs.Rectangles.{begins_at, flag_at, front, rectangle_at, rectangles, rectangles_of, run_end}
use Rattle.layout_picture.specs.declared.rectangle.Rectangle.{Rectangle}
use Rattle.layout_picture.proofs.Runs.{front_more}
use Rattle.layout_picture.proofs.Turns.{in_greatest}

-- ---- runs of flags
front_stops : (flags : List Bool) → get_or flags (front flags) false ≡ false
front_stops [] = refl
front_stops (true ∷ flags) = front_stops flags
front_stops (false ∷ flags) = refl

front_holds : (flags : List Bool) (i : ℕ) → i < front flags → get_or flags i false ≡ true
front_holds [] i lt = absurd (omega arith)
front_holds (true ∷ flags) zero lt = refl
front_holds (true ∷ flags) (suc i) lt = front_holds flags i (omega arith)
front_holds (false ∷ flags) i lt = absurd (omega arith)

dropped : (flags : List Bool) (k i : ℕ) → get_or (drop k flags) i false ≡ get_or flags (k + i) false
dropped flags zero i = ap (λ (n : ℕ). get_or flags n false) (let e : i ≡ 0 + i = omega arith in e)
dropped [] (suc k) i = sym (get_or_past [] (suc k + i) false (omega arith))
dropped (f ∷ flags) (suc k) i = dropped flags k i
    ∙ ap (λ (n : ℕ). get_or (f ∷ flags) n false) (let e : suc (k + i) ≡ suc k + i = omega arith in e)

-- the column after a run is not live, and all columns of the run are
pub run_stops : (flags : List Bool) (k : ℕ) → flag_at flags (run_end flags k) ≡ false
unfolding run_end
run_stops flags k = sym (dropped flags k (front (drop k flags))) ∙ front_stops (drop k flags)

pub run_holds : (flags : List Bool) (j k : ℕ) → j ≤ k → k < run_end flags j → flag_at flags k ≡ true
unfolding run_end
run_holds flags j k le lt =
    ap (λ (n : ℕ). get_or flags n false) (let e : k ≡ j + (k - j) = omega arith in e)
    ∙ sym (dropped flags j (k - j)) ∙ front_holds (drop j flags) (k - j) (omega arith)

-- a run has at least the column in which it begins
pub run_begins : (flags : List Bool) (k : ℕ) → flag_at flags k ≡ true → k < run_end flags k
unfolding run_end
run_begins flags k t = let e = front_more flags k t in omega arith

-- each live column is in a run
pub record InRun (flags : List Bool) (k : ℕ) : Type 0 where
  pub start : ℕ
  pub begins : begins_at flags start ≡ true
  pub from : start ≤ k
  pub to : k < run_end flags start

pub in_run : (flags : List Bool) (k : ℕ) → flag_at flags k ≡ true → InRun flags k
in_run flags zero t = record {
  start = 0;
  begins = first (flag_at flags 0) t;
  from = omega arith;
  to = run_begins flags 0 t;
}
  where
    first : (b : Bool) → b ≡ true → (b && ((0 == 0) || not (flag_at flags (0 - 1)))) ≡ true
    first true e = refl
    first false e = absurd cc
in_run flags (suc k) t = elim (true_or_false (flag_at flags k)) [
  | inl e ↦ (let r = in_run flags k e in record {
    start = r.start;
    begins = r.begins;
    from = let a = r.from in omega arith;
    to = further r.start (run_end flags r.start) refl r.to;
  })
  | inr e ↦ record {
    start = suc k;
    begins = later (flag_at flags (suc k)) (flag_at flags (suc k - 1)) t
        (ap (λ (n : ℕ). flag_at flags n) (let z : suc k - 1 ≡ k = omega arith in z) ∙ e);
    from = omega arith;
    to = run_begins flags (suc k) t;
  }
]
  where
    later : (b p : Bool) → b ≡ true → p ≡ false → (b && ((suc k == 0) || not p)) ≡ true
    later true false e f = grind (arith, nat_tests)
    later true true e f = absurd cc
    later false p e f = absurd cc

    further : (j end : ℕ) → run_end flags j ≡ end → k < end → suc k < end
    further j end e lt = elim (below_or_from (suc k) end) [
      | inl h ↦ h
      | inr h ↦ absurd (let z : end ≡ suc k = omega arith in
          let s : flag_at flags (suc k) ≡ false = ap (λ (n : ℕ). flag_at flags n) (sym (e ∙ z)) ∙ run_stops flags j in
          let q : true ≡ false = sym t ∙ s in cc)
    ]

-- ---- columns and moments
before : (u : ℕ) (x : Buffer) → was_live x u ≡ true → u ≤ x.upper
unfolding was_live
before zero x e = omega arith
before (suc u) x e = let k = live_before x u e in omega arith

pub in_columns : (I : Instance) (b u : ℕ) → b < length I → turns_at u (buffer I b) ≡ true → IsIn u (columns_of I)
unfolding columns_of turns_at buffer
in_columns I b u lt h =
    into_filter (λ t. list_any (turns_at t) I) (numbers (greatest (map (λ (b : Buffer). b.upper) I) + 1)) u
    (among _ u (let w = within u (get_or I b no_buffer) h in
    let g = in_greatest I (get_or I b no_buffer) (in_at I b no_buffer lt) in omega arith))
    (any_from (turns_at u) I (get_or I b no_buffer) (in_at I b no_buffer lt) h)
  where
    either : (p q : Bool) → not (beq p q) ≡ true → (p ≡ true) ⊎ (q ≡ true)
    either true q e = inl refl
    either false true e = inr refl
    either false false e = absurd cc

    within : (u : ℕ) (x : Buffer) → not (beq (was_live x u) (is_live x u)) ≡ true → u ≤ x.upper
    within u x e = elim (either (was_live x u) (is_live x u) e) [
      | inl p ↦ before u x p
      | inr q ↦ (let k = live_before x u q in omega arith)
    ]

-- what is live at t began to be live at t or before
began : (x : Buffer) (t : ℕ) → is_live x t ≡ true → (u : ℕ) × (u ≤ t) × (turns_at u x ≡ true)
unfolding turns_at was_live
began x zero e = (0, omega arith, turned (is_live x 0) e)
  where
    turned : (q : Bool) → q ≡ true → not (beq false q) ≡ true
    turned true e = refl
    turned false e = absurd cc
began x (suc t) e = elim (true_or_false (is_live x t)) [
  | inl p ↦ (let r = began x t p in (r.0, let a = r.1 in omega arith, r.2))
  | inr p ↦ (suc t, omega arith, turned (is_live x t) (is_live x (suc t)) p e)
]
  where
    turned : (p q : Bool) → p ≡ false → q ≡ true → not (beq p q) ≡ true
    turned false true e f = refl
    turned true q e f = absurd cc
    turned false false e f = absurd cc

-- from the first moment on each moment has a column
column_from : (m : ℕ) (ms : List ℕ) (t : ℕ) → m ≤ t → (k : ℕ) × IsInColumn (m ∷ ms) t k
column_from m [] t le = (0, record { in_range = omega arith; begun = le; not_next = λ lt. absurd (omega arith) })
column_from m (n ∷ ms) t le = elim (below_or_from t n) [
  | inl lt ↦ (0, record { in_range = omega arith; begun = le; not_next = λ h. lt })
  | inr h ↦ (let r = column_from n ms t h in (
    suc r.0,
    record {
      in_range = let a = r.1.in_range in omega arith;
      begun = r.1.begun;
      not_next = λ l. let z : suc r.0 + 1 ≡ suc (r.0 + 1) = omega arith in rw z (r.1.not_next (omega arith));
    },
  ))
]

column_of : (ms : List ℕ) (t u : ℕ) → Rises ms → IsIn u ms → u ≤ t → (k : ℕ) × IsInColumn ms t k
column_of [] t u r i le = absurd i
column_of (m ∷ ms) t u r (inl e) le = column_from m ms t (omega arith)
column_of (m ∷ ms) t u r (inr i) le = column_from m ms t (let k = r.0 u i in omega arith)

-- between two columns nothing turns
pub none_between : (ms : List ℕ) (t k u : ℕ) → Rises ms → IsInColumn ms t k → get_or ms k 0 < u → u ≤ t → IsIn u ms → ⊥
none_between ms t k u r c lt le i = elim (below_or_from k p.0) [
  | inl h ↦ (let n = c.not_next (let a = p.1 in omega arith) in let o = up (k + 1) p.0 (omega arith) p.1 in
      let e : get_or ms p.0 0 ≡ u = p.2 in omega arith)
  | inr h ↦ (let o = up p.0 k h c.in_range in let e : get_or ms p.0 0 ≡ u = p.2 in omega arith)
]
  where
    p : (j : ℕ) × (j < length ms) × (get_or ms j 0 ≡ u)
    p = place_of ms u 0 i

    same_or_less : (i j : ℕ) → i ≤ j → (i ≡ j) ⊎ (i < j)
    same_or_less i j le = grind arith

    up : (i j : ℕ) → i ≤ j → j < length ms → get_or ms i 0 ≤ get_or ms j 0
    up i j le lt = elim (same_or_less i j le) [
      | inl e ↦ (let z = ap (λ (n : ℕ). get_or ms n 0) e in omega arith)
      | inr h ↦ (let z = rises_at ms i j 0 r h lt in omega arith)
    ]

stays : (x : Buffer) (m d : ℕ) → ((u : ℕ) → m < u → u ≤ m + d → turns_at u x ≡ true → ⊥) →
    is_live x (m + d) ≡ is_live x m
unfolding turns_at was_live
stays x m zero h = ap (is_live x) (let e : m + 0 ≡ m = omega arith in e)
stays x m (suc d) h =
    ap (is_live x) (let e : m + suc d ≡ suc (m + d) = omega arith in e)
    ∙ same (is_live x (m + d)) (is_live x (suc (m + d))) (h (suc (m + d)) (omega arith) (omega arith))
    ∙ stays x m d (λ u lt le. h u lt (omega arith))
  where
    same : (p q : Bool) → (not (beq p q) ≡ true → ⊥) → q ≡ p
    same true true h = refl
    same false false h = refl
    same true false h = absurd (h refl)
    same false true h = absurd (h refl)

pub columns_rise : (I : Instance) → Rises (columns_of I)
unfolding columns_of
columns_rise I = rises-numbers (λ t. list_any (turns_at t) I) _

-- a buffer is live at a moment where it is live in the moment's column
pub live_in_column : (I : Instance) (b t k : ℕ) → b < length I → IsInColumn (columns_of I) t k →
    is_live (buffer I b) t ≡ is_live (buffer I b) (get_or (columns_of I) k 0)
live_in_column I b t k lt c =
    let le = c.begun in
    ap (is_live (buffer I b)) (let e : t ≡ get_or (columns_of I) k 0 + (t - get_or (columns_of I) k 0) = omega arith in
    e)
    ∙ stays (buffer I b) (get_or (columns_of I) k 0) (t - get_or (columns_of I) k 0)
    (λ u h l q. none_between (columns_of I) t k u (columns_rise I) c h (omega arith) (in_columns I b u lt q))

-- ---- rectangles
-- the flags of a buffer
abbrev pub flags_of : Instance → ℕ → List Bool
flags_of I b = map (is_live (buffer I b)) (columns_of I)

flag_is : (I : Instance) (b k : ℕ) → k < length (columns_of I) →
    flag_at (flags_of I b) k ≡ is_live (buffer I b) (get_or (columns_of I) k 0)
flag_is I b k lt = get_or-map (is_live (buffer I b)) (columns_of I) k 0 false lt

in_flags : (flags : List Bool) (k : ℕ) → flag_at flags k ≡ true → k < length flags
in_flags flags k t = elim (below_or_from k (length flags)) [
  | inl lt ↦ lt
  | inr le ↦ absurd (let e : true ≡ false = sym t ∙ get_or_past flags k false le in cc)
]

in_moments : (I : Instance) (b k : ℕ) → flag_at (flags_of I b) k ≡ true → k < length (columns_of I)
in_moments I b k t =
    let e : length (flags_of I b) ≡ length (columns_of I) = length-map (columns_of I) (is_live (buffer I b)) in
    let lt = in_flags (flags_of I b) k t in omega arith

-- a rectangle is that of a buffer, from its offset to its end, and the buffer is live in each of its columns
pub record OfBuffer (I : Instance) (offsets : List ℕ) (r : Rectangle) : Type 0 where
  pub in_range : r.buffer < length I
  pub place : r.place ≡ get_or offsets r.buffer 0
  pub top : r.top ≡ get_or offsets r.buffer 0 + (buffer I r.buffer).size
  pub some : r.first < r.end
  pub in_columns : (k : ℕ) → HasColumn r k → k < length (columns_of I)
  pub live : (k : ℕ) → HasColumn r k → is_live (buffer I r.buffer) (get_or (columns_of I) k 0) ≡ true

pub of_buffer : (I : Instance) (offsets : List ℕ) (r : Rectangle) → IsIn r (rectangles I offsets) → OfBuffer I offsets r
unfolding rectangles rectangles_of
of_buffer I offsets r i =
    let q = from_flat (rectangles_of I offsets) (numbers (length I)) r i in
    let m = from_map (rectangle_at (flags_of I q.0) q.0 (get_or offsets q.0 0)
    (get_or offsets q.0 0 + (buffer I q.0).size))
    (filter (begins_at (flags_of I q.0)) (numbers (length (flags_of I q.0)))) r q.2 in
    let f = from_filter (begins_at (flags_of I q.0)) (numbers (length (flags_of I q.0))) m.0 m.1 in
    subst (OfBuffer I offsets) (sym m.2)
    (made q.0 m.0 (below (length I) q.0 q.1) (first (flag_at (flags_of I q.0) m.0) _ f.1))
  where
    first : (p q : Bool) → (p && q) ≡ true → p ≡ true
    first true q e = refl
    first false q e = absurd cc

    made : (b j : ℕ) → b < length I → flag_at (flags_of I b) j ≡ true →
        OfBuffer I offsets (rectangle_at (flags_of I b) b (get_or offsets b 0)
        (get_or offsets b 0 + (buffer I b).size) j)
    made b j lt t = record {
      in_range = lt;
      place = refl;
      top = refl;
      some = run_begins (flags_of I b) j t;
      in_columns = λ k h. in_moments I b k (run_holds (flags_of I b) j k h.from h.to);
      live = λ k h. sym (flag_is I b k (in_moments I b k (run_holds (flags_of I b) j k h.from h.to)))
          ∙ run_holds (flags_of I b) j k h.from h.to;
    }

is_drawn : (I : Instance) (offsets : List ℕ) (b j : ℕ) → b < length I → begins_at (flags_of I b) j ≡ true →
    j < length (flags_of I b) →
    IsIn (rectangle_at (flags_of I b) b (get_or offsets b 0) (get_or offsets b 0 + (buffer I b).size) j)
    (rectangles I offsets)
unfolding rectangles rectangles_of
is_drawn I offsets b j lt h k =
    into_flat (rectangles_of I offsets) (numbers (length I)) b _ (among (length I) b lt)
    (into_map (rectangle_at (flags_of I b) b (get_or offsets b 0) (get_or offsets b 0 + (buffer I b).size))
    (filter (begins_at (flags_of I b)) (numbers (length (flags_of I b)))) j
    (into_filter (begins_at (flags_of I b)) (numbers (length (flags_of I b))) j (among _ j k) h))

-- ---- the law of moments
pub shown : (I : Instance) (offsets : List ℕ) (b t : ℕ) → b < length I → IsLive (buffer I b) t → IsShownAt I offsets b t
shown I offsets b t lt live =
    let u = began (buffer I b) t live in
    let c = column_of (columns_of I) t u.0 (columns_rise I) (in_columns I b u.0 lt u.2) u.1 in
    let f : flag_at (flags_of I b) c.0 ≡ true =
    flag_is I b c.0 c.1.in_range ∙ sym (live_in_column I b t c.0 lt c.1) ∙ live in
    let r = in_run (flags_of I b) c.0 f in
    record {
      rectangle = rectangle_at (flags_of I b) b (get_or offsets b 0) (get_or offsets b 0 + (buffer I b).size) r.start;
      column = c.0;
      drawn = is_drawn I offsets b r.start lt r.begins
          (let z = in_flags (flags_of I b) c.0 f in let a = r.from in omega arith);
      own = refl;
      place = refl;
      top = refl;
      of_moment = c.1;
      has = record { from = r.from; to = r.to };
    }

pub lives : (I : Instance) (offsets : List ℕ) (b t : ℕ) → b < length I → IsShownAt I offsets b t → IsLive (buffer I b) t
lives I offsets b t lt s =
    let o = of_buffer I offsets s.rectangle s.drawn in
    live_in_column I b t s.column lt s.of_moment
    ∙ ap (λ (c : ℕ). is_live (buffer I c) (get_or (columns_of I) s.column 0)) (sym s.own) ∙ o.live s.column s.has

-- ---- the load between columns
same_filter : (p q : Buffer → Bool) (I : Instance) →
    ((b : ℕ) → b < length I → p (get_or I b no_buffer) ≡ q (get_or I b no_buffer)) → filter p I ≡ filter q I
same_filter p q [] h = refl
same_filter p q (x ∷ I) h = ap₂ (λ (b : Bool) (J : Instance). cond b (x ∷ J) J) (h 0 (omega arith))
    (same_filter p q I (λ b lt. h (suc b) (omega arith)))

-- the load at a moment is that of its column
pub load_in_column : (I : Instance) (t k : ℕ) → IsInColumn (columns_of I) t k →
    load I t ≡ load I (get_or (columns_of I) k 0)
unfolding load buffer
load_in_column I t k c = ap (λ (J : Instance). sum_by (λ (b : Buffer). b.size) J)
    (same_filter (λ b. is_live b t) (λ b. is_live b (get_or (columns_of I) k 0)) I (λ b lt. own b lt))
  where
    own : (b : ℕ) → b < length I →
        is_live (get_or I b no_buffer) t ≡ is_live (get_or I b no_buffer) (get_or (columns_of I) k 0)
    own b lt = live_in_column I b t k lt c
