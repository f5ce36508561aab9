-- Lines of a trace by their place, and those that free an identifier.
use Rattle.std.proofs.Common.{◌≡◌, ℕ, zero, suc, ◌+◌, ◌<◌, ◌≤◌, true, false, not, List, [], ◌∷◌, ◌++◌, length, slice_get, slice_index_or, Some, refl, sym, ap, ◌∙◌, arith}
use Rattle.std.proofs.lemmas.List.Sums.{fails_before_first, passes_at_first, prefix_len-le-length}
use Rattle.std.proofs.lemmas.Slice.Eq.{bytes_eq-Decides}
use Rattle.std.specs.List.{position_or_len}
use Rattle.std.specs.Str.{bytes_eq}
use Rattle.csv_instance.proofs.Basics.{text_same}
use Rattle.trace_import.specs.Traces.{Event, Alloc, Free, frees}

-- ---- places
pub record Split (es : List Event) (k : ℕ) (e : Event) : Type 0 where
  pub before : List Event
  pub after : List Event
  pub whole : es ≡ before ++ e ∷ after
  pub place : length before ≡ k

pub split_at : (es : List Event) (k : ℕ) (e : Event) → slice_get es k ≡ Some e → Split es k e
split_at [] k e h = absurd cc
split_at (x ∷ xs) zero e h =
    let q : x ≡ e = cc in record { before = []; after = xs; whole = ap (λ y. y ∷ xs) q; place = refl }
split_at (x ∷ xs) (suc k) e h =
    let r = split_at xs k e h in
    record {
      before = x ∷ r.before;
      after = r.after;
      whole = ap (λ ys. x ∷ ys) r.whole;
      place = (let p = r.place in omega arith);
    }

pub get_here : (before after : List Event) (e : Event) → slice_get (before ++ e ∷ after) (length before) ≡ Some e
get_here [] after e = refl
get_here (x ∷ xs) after e = get_here xs after e

pub get_after : (before after : List Event) (e : Event) (i j : ℕ) → j ≡ length before + 1 + i →
    slice_get (before ++ e ∷ after) j ≡ slice_get after i
get_after [] after e i zero q = absurd (omega arith)
get_after [] after e i (suc j) q = ap (slice_get after) (down i j q)
  where
    down : (i j : ℕ) → suc j ≡ 0 + 1 + i → j ≡ i
    down i j q = omega arith
get_after (x ∷ xs) after e i zero q = absurd (omega arith)
get_after (x ∷ xs) after e i (suc j) q = get_after xs after e i j (omega arith)

pub length_split : (before after : List Event) (e : Event) →
    length (before ++ e ∷ after) ≡ length before + 1 + length after
length_split [] after e = omega arith
length_split (x ∷ xs) after e = let k = length_split xs after e in omega arith

pub get_is : (es : List Event) (k : ℕ) (e d : Event) → slice_get es k ≡ Some e → slice_index_or es k d ≡ e
get_is [] k e d h = absurd cc
get_is (x ∷ xs) zero e d h = cc
get_is (x ∷ xs) (suc k) e d h = get_is xs k e d h

pub get_within : (es : List Event) (k : ℕ) (d : Event) → k < length es → slice_get es k ≡ Some (slice_index_or es k d)
get_within [] k d lt = absurd (omega arith)
get_within (x ∷ xs) zero d lt = refl
get_within (x ∷ xs) (suc k) d lt = get_within xs k d (omega arith)

-- ---- frees
pub same_bytes : (xs ys : List ℕ) → bytes_eq xs ys ≡ true → xs ≡ ys
same_bytes xs ys h = (bytes_eq-Decides xs ys).0 h

pub bytes_same : (xs : List ℕ) → bytes_eq xs xs ≡ true
bytes_same xs = text_same xs

pub frees_is : (id : List ℕ) (e : Event) → frees id e ≡ true → e ≡ Free id
frees_is id (Alloc other size alignment) h = absurd cc
frees_is id (Free other) h = ap Free (sym (same_bytes id other h))

pub frees_own : (id : List ℕ) → frees id (Free id) ≡ true
frees_own id = bytes_same id

-- ---- the first line that frees
pub first_free : (id : List ℕ) (after : List Event) → position_or_len (frees id) after < length after →
    slice_get after (position_or_len (frees id) after) ≡ Some (Free id)
first_free id after lt =
    let d = Free [] in
    get_within after (position_or_len (frees id) after) d lt
    ∙ ap Some (frees_is id (slice_index_or after (position_or_len (frees id) after) d)
    (passes_at_first (frees id) after d lt))

pub none_before_first : (id : List ℕ) (after : List Event) (i : ℕ) → i < position_or_len (frees id) after →
    slice_get after i ≡ Some (Free id) → ⊥
none_before_first id after i lt h =
    let fails : frees id (slice_index_or after i (Free [])) ≡ false =
    fails_before_first (frees id) after i (Free []) lt in
    let here : slice_index_or after i (Free []) ≡ Free id = get_is after i (Free id) (Free []) h in
    let passes : frees id (slice_index_or after i (Free [])) ≡ true = ap (frees id) here ∙ frees_own id in
    absurd (cc (fails, passes))

pub first_within : (id : List ℕ) (after : List Event) → position_or_len (frees id) after ≤ length after
first_within id after = prefix_len-le-length (λ e. not (frees id e)) after
