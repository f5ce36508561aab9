-- The instance of a trace holds what the trace does.
use Rattle.std.proofs.Common.{◌≡◌, ℕ, suc, ◌+◌, ◌-◌, ◌<◌, ◌≤◌, inl, inr, true, ◌&&◌, List, [], ◌∷◌, ◌++◌, length, map, slice_get, nat_le, nat_lt, Some, refl, sym, ap, ◌∙◌, subst, arith}
use Rattle.std.specs.List.{position_or_len}
use Rattle.dsa_terms.specs.Buffers.{Buffer, is_live, IsInstance, IsLive, IsSound}
use Rattle.dsa_terms.specs.Claims.{IsIn, Rises}
use Rattle.dsa_terms.proofs.Lists.{from_map, right_append}
use Rattle.dsa_terms.proofs.Moments.{both_true, live_at_or_after, live_before}
use Rattle.dsa_terms.proofs.NumberTests.{below_or_from, is_at_most, is_below}
use Rattle.dsa_terms.proofs.Places.{all_from_in}
use Rattle.trace_import.specs.Traces.{allocated, Alloc, AreSound, Event, Free, frees, HasLive, imported, imported_from, IsHeld, IsTraced, Trace}
use Rattle.trace_import.proofs.Events.{first_free, first_within, get_after, get_here, length_split, none_before_first, Split, split_at}

-- ---- the buffers of lines
pub record Origin (line : ℕ) (es : List Event) (b : Buffer) : Type 0 where
  pub before : List Event
  pub after : List Event
  pub id : List ℕ
  pub size : ℕ
  pub alignment : ℕ
  pub lines : es ≡ before ++ Alloc id size alignment ∷ after
  pub is : b ≡ allocated (line + length before) id size alignment after

pub origin_of : (es : List Event) (line : ℕ) (b : Buffer) → IsIn b (imported_from line es) → Origin line es b
origin_of [] line b i = absurd i
origin_of (Alloc id size alignment ∷ es) line b (inl e) = record {
  before = [];
  after = es;
  id = id;
  size = size;
  alignment = alignment;
  lines = refl;
  is = e ∙ ap (λ l. allocated l id size alignment es) (zero_more line);
}
  where
    zero_more : (line : ℕ) → line ≡ line + 0
    zero_more line = omega arith
origin_of (Alloc other s a ∷ es) line b (inr i) =
    let r = origin_of es (line + 1) b i in
    record {
      before = Alloc other s a ∷ r.before;
      after = r.after;
      id = r.id;
      size = r.size;
      alignment = r.alignment;
      lines = ap (λ xs. Alloc other s a ∷ xs) r.lines;
      is = r.is ∙ ap (λ l. allocated l r.id r.size r.alignment r.after) (one_more line (length r.before));
    }
  where
    one_more : (line n : ℕ) → line + 1 + n ≡ line + suc n
    one_more line n = omega arith
origin_of (Free other ∷ es) line b i =
    let r = origin_of es (line + 1) b i in
    record {
      before = Free other ∷ r.before;
      after = r.after;
      id = r.id;
      size = r.size;
      alignment = r.alignment;
      lines = ap (λ xs. Free other ∷ xs) r.lines;
      is = r.is ∙ ap (λ l. allocated l r.id r.size r.alignment r.after) (one_more line (length r.before));
    }
  where
    one_more : (line n : ℕ) → line + 1 + n ≡ line + suc n
    one_more line n = omega arith

pub into_imported : (before : List Event) (first line : ℕ) (id : List ℕ) (size alignment : ℕ) (after : List Event) →
    line ≡ first + length before →
    IsIn (allocated line id size alignment after) (imported_from first (before ++ Alloc id size alignment ∷ after))
into_imported [] first line id size alignment after e =
    inl (ap (λ l. allocated l id size alignment after) (omega arith))
into_imported (Alloc other s a ∷ xs) first line id size alignment after e =
    inr (into_imported xs (first + 1) line id size alignment after (omega arith))
into_imported (Free other ∷ xs) first line id size alignment after e =
    into_imported xs (first + 1) line id size alignment after (omega arith)

-- ---- moments
live_from_to : (line : ℕ) (id : List ℕ) (size alignment : ℕ) (after : List Event) (t : ℕ) → line ≤ t →
    t < line + 1 + position_or_len (frees id) after → IsLive (allocated line id size alignment after) t
unfolding is_live
live_from_to line id size alignment after t le lt =
    both_true (nat_le line t && nat_lt t (line + 1 + position_or_len (frees id) after)) true
    (both_true (nat_le line t) (nat_lt t (line + 1 + position_or_len (frees id) after)) (is_at_most line t le)
    (is_below t (line + 1 + position_or_len (frees id) after) lt)) refl

held_is_live : (trace : Trace) (t line size alignment : ℕ) → t < length trace → IsHeld trace t line size alignment →
    HasLive (imported trace) t line size alignment
unfolding imported
held_is_live trace t line size alignment within h = go (split_at trace line (Alloc h.id size alignment) h.allocates)
  where
    go : Split trace line (Alloc h.id size alignment) → HasLive (imported_from 0 trace) t line size alignment
    go s = record {
      buffer = allocated line h.id size alignment s.after;
      among = subst (λ (es : List Event). IsIn (allocated line h.id size alignment s.after) (imported_from 0 es))
          (sym s.whole)
          (into_imported s.before 0 line h.id size alignment s.after (let p = s.place in omega arith));
      its_line = refl;
      its_size = refl;
      its_alignment = refl;
      live = live_from_to line h.id size alignment s.after t h.started (elim
          (below_or_from t (line + 1 + position_or_len (frees h.id) s.after)) [
            | inl lt ↦ lt
            | inr le ↦ absurd (freed le)
          ]);
    }
      where
        freed : line + 1 + position_or_len (frees h.id) s.after ≤ t → ⊥
        freed le =
            let n : length trace ≡ length s.before + 1 + length s.after =
            ap length s.whole ∙ length_split s.before s.after (Alloc h.id size alignment) in
            let there = first_free h.id s.after (let p = s.place in omega arith) in
            h.unfreed (line + 1 + position_or_len (frees h.id) s.after) (omega arith) le
            (ap (λ es. slice_get es (line + 1 + position_or_len (frees h.id) s.after)) s.whole
            ∙ get_after s.before s.after (Alloc h.id size alignment) (position_or_len (frees h.id) s.after)
            (line + 1 + position_or_len (frees h.id) s.after) (let p = s.place in omega arith)
            ∙ there)

live_is_held : (trace : Trace) (t line size alignment : ℕ) → HasLive (imported trace) t line size alignment →
    IsHeld trace t line size alignment
unfolding imported
live_is_held trace t line size alignment h = go (origin_of trace 0 h.buffer h.among)
  where
    go : Origin 0 trace h.buffer → IsHeld trace t line size alignment
    go o = record {
      id = o.id;
      allocates = (rw (at, its_size, its_alignment) at here);
      started = (let k = live_at_or_after h.buffer t h.live in let e = h.its_line in omega arith);
      unfreed = unfreed;
    }
      where
        b_line : h.buffer.lower ≡ 0 + length o.before
        b_line = ap (λ (b : Buffer). b.lower) o.is

        at : length o.before ≡ line
        at = let e = h.its_line in let k = b_line in omega arith

        its_size : o.size ≡ size
        its_size = sym (ap (λ (b : Buffer). b.size) o.is) ∙ h.its_size

        its_alignment : o.alignment ≡ alignment
        its_alignment = sym (ap (λ (b : Buffer). b.alignment) o.is) ∙ h.its_alignment

        here : slice_get trace (length o.before) ≡ Some (Alloc o.id o.size o.alignment)
        here = ap (λ es. slice_get es (length o.before)) o.lines
            ∙ get_here o.before o.after (Alloc o.id o.size o.alignment)

        ends : h.buffer.upper ≡ 0 + length o.before + 1 + position_or_len (frees o.id) o.after
        ends = ap (λ (b : Buffer). b.upper) o.is

        unfreed : (f : ℕ) → line < f → f ≤ t → slice_get trace f ≡ Some (Free o.id) → ⊥
        unfreed f lt le q =
            let before_end = live_before h.buffer t h.live in
            none_before_first o.id o.after (f - line - 1)
            (let a = at in let e = ends in omega arith)
            (sym (get_after o.before o.after (Alloc o.id o.size o.alignment) (f - line - 1) f
            (let a = at in omega arith))
            ∙ ap (λ es. slice_get es f) (sym o.lines) ∙ q)

-- ---- one buffer for each line
pub from_line : (es : List Event) (line : ℕ) (b : Buffer) → IsIn b (imported_from line es) → line ≤ b.lower
from_line es line b i =
    let o = origin_of es line b i in
    let e : b.lower ≡ line + length o.before = ap (λ (b : Buffer). b.lower) o.is in omega arith

lowers_rise : (es : List Event) (line : ℕ) → Rises (map (λ (b : Buffer). b.lower) (imported_from line es))
lowers_rise [] line = tt
lowers_rise (Alloc id size alignment ∷ es) line = (first, lowers_rise es (line + 1))
  where
    first : (y : ℕ) → IsIn y (map (λ (b : Buffer). b.lower) (imported_from (line + 1) es)) → line < y
    first y i =
        let r = from_map (λ (b : Buffer). b.lower) (imported_from (line + 1) es) y i in
        let k = from_line es (line + 1) r.0 r.1 in
        let e = r.2 in omega arith
lowers_rise (Free id ∷ es) line = lowers_rise es (line + 1)

imported_rises : (trace : Trace) → Rises (map (λ (b : Buffer). b.lower) (imported trace))
unfolding imported
imported_rises trace = lowers_rise trace 0

held_exactly : (trace : Trace) (t line size alignment : ℕ) → t < length trace →
    (IsHeld trace t line size alignment → HasLive (imported trace) t line size alignment)
    × (HasLive (imported trace) t line size alignment → IsHeld trace t line size alignment)
held_exactly trace t line size alignment lt =
    (held_is_live trace t line size alignment lt, live_is_held trace t line size alignment)

nothing_later : (trace : Trace) (t : ℕ) (b : Buffer) → length trace ≤ t → IsIn b (imported trace) → IsLive b t → ⊥
unfolding imported
nothing_later trace t b le i live =
    let o = origin_of trace 0 b i in
    let e : b.upper ≡ 0 + length o.before + 1 + position_or_len (frees o.id) o.after =
    ap (λ (b : Buffer). b.upper) o.is in
    let n : length trace ≡ length o.before + 1 + length o.after =
    ap length o.lines ∙ length_split o.before o.after (Alloc o.id o.size o.alignment) in
    let w = first_within o.id o.after in
    let k = live_before b t live in omega arith

pub imported_traced : (trace : Trace) → IsTraced trace (imported trace)
imported_traced trace = record {
  held = held_exactly trace;
  one_each = imported_rises trace;
  over = nothing_later trace;
}

pub imported_sound : (trace : Trace) → AreSound trace → IsInstance (imported trace)
unfolding imported
imported_sound trace h = all_from_in IsSound (imported_from 0 trace) each
  where
    each : (b : Buffer) → IsIn b (imported_from 0 trace) → IsSound b
    each b i =
        let o = origin_of trace 0 b i in
        let s = h o.id o.size o.alignment (subst (λ (es : List Event). IsIn (Alloc o.id o.size o.alignment) es)
        (sym o.lines) (right_append o.before (Alloc o.id o.size o.alignment ∷ o.after)
        (Alloc o.id o.size o.alignment) (inl refl))) in
        subst IsSound (sym o.is) (s.0, s.1, (omega arith))
