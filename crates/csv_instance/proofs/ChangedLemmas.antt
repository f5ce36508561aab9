-- The changes of rows, row by row.
use Rattle.std.proofs.Common.{◌≡◌, ◌≢◌, ◌≤◌, ◌<◌, ◌+◌, ◌∷◌, ◌++◌, ◌∙◌, ◌==◌, ℕ, List, [], Some, None, drop, take, ◌-◌, get_or, inl, inr, length, refl, sym, ap, subst, arith}
use Rattle.std.proofs.lemmas.Bool.{cases_Bool, eqb-true}
use Rattle.std.proofs.lemmas.List.{drop_all, drop_more, length-drop, take_all}
use Rattle.csv.specs.Writing.{default_writer, row_text}
use Rattle.dsa_terms.specs.Claims.{IsIn, Rises}
use Rattle.dsa_terms.proofs.NumberTests.{apart, below_or_from, differ}
use Rattle.csv_instance.specs.Changed.{AreFrom, Change, change_of, changed_numbers, changed_row, changed_rows}
use Rattle.csv_instance.specs.Layout.{text_of}
use Rattle.csv_instance.specs.Records.{Record}

-- changes that rise are changes from any number on that is below them
rises_from : (n : ℕ) (cs : List Change) → ((y : ℕ) → IsIn y (changed_numbers cs) → n ≤ y) → Rises (changed_numbers cs)
    → AreFrom n cs
rises_from n [] low r = tt
rises_from n (c ∷ cs) low r =
    (low c.0 (inl refl), rises_from (c.0 + 1) cs (λ y i. let h = r.0 y i in omega arith) r.1)

pub from_first : (cs : List Change) → Rises (changed_numbers cs) → AreFrom 0 cs
from_first cs r = rises_from 0 cs (λ y i. omega arith) r

from_less : (m n : ℕ) (cs : List Change) → m ≤ n → AreFrom n cs → AreFrom m cs
from_less m n [] le h = tt
from_less m n (c ∷ cs) le h = (let k = h.0 in omega arith, h.1)

-- no change of a row before them
pub none_before : (m n : ℕ) (cs : List Change) → m < n → AreFrom n cs → change_of cs m ≡ None
none_before m n [] lt h = refl
none_before m n (c ∷ cs) lt h =
    let least = h.0 in
    rw (apart c.0 m (λ e. omega arith)) (none_before m (c.0 + 1) cs (omega arith) h.1)

-- nor one of this row, where the first is of another
pub none_here : (n : ℕ) (cs : List Change) (d : Change) → AreFrom n cs → (get_or cs 0 d).0 ≢ n → change_of cs n ≡ None
none_here n [] d h other = refl
none_here n (c ∷ cs) d h other =
    let least = h.0 in
    rw (apart c.0 n other) (none_before n (c.0 + 1) cs (let lt : n < c.0 + 1 = omega arith in lt) h.1)

-- a change of this row is the first
pub first_here : (n : ℕ) (cs : List Change) (x : Change) → AreFrom n cs → change_of cs n ≡ Some x →
    (c : Change) × (more : List Change) × (cs ≡ c ∷ more) × (c.0 ≡ n) × AreFrom (n + 1) more
first_here n [] x h e = cc e
first_here n (c ∷ cs) x h e = elim (cases_Bool (c.0 == n)) [
  | inl same ↦
      let is = eqb-true c.0 n same in
      (c, cs, refl, is, subst (λ (k : ℕ). AreFrom (k + 1) cs) is h.1)
  | inr other ↦ cc (rw (other, none_before n (c.0 + 1) cs (let least = h.0 in omega arith) h.1) at e)
]

-- where there is none, they are changes of later rows
pub none_then : (n : ℕ) (cs : List Change) → AreFrom n cs → change_of cs n ≡ None → AreFrom (n + 1) cs
none_then n [] h e = tt
none_then n (c ∷ cs) h e = elim (cases_Bool (c.0 == n)) [
  | inl same ↦ cc (rw same at e)
  | inr other ↦ let ne = differ c.0 n other in let least = h.0 in (grind arith, h.1)
]

-- a change of an earlier row changes no later one
pub later_rows : (header : Record) (c : Change) (cs : List Change) (n : ℕ) (rows : List Record) → c.0 < n →
    changed_rows header (c ∷ cs) n rows ≡ changed_rows header cs n rows
later_rows header c cs n [] lt = refl
later_rows header c cs n (row ∷ rows) lt =
    let later = later_rows header c cs (n + 1) rows (omega arith) in
    rw (apart c.0 n (λ e. omega arith)) (ap (λ (rs : List Record). changed_row header (change_of cs n) row ∷ rs) later)

-- the text of the rows from a place on
pub changed_text-at : (header : Record) (cs : List Change) (rows : List Record) (p : ℕ) → p < length rows →
    text_of (changed_rows header cs p (drop p rows))
    ≡ row_text default_writer (changed_row header (change_of cs p) (get_or rows p []))
    ++ text_of (changed_rows header cs (p + 1) (drop (p + 1) rows))
changed_text-at header cs rows p lt =
    ap (λ (rs : List Record). text_of (changed_rows header cs p rs)) (drop_more rows p [] lt)

-- a change of this row is the first of those that are left, and the others are of later rows
pub next_change : (n p : ℕ) (cs : List Change) (x : Change) → AreFrom p (drop n cs) →
    change_of (drop n cs) p ≡ Some x → (n < length cs) × AreFrom (p + 1) (drop (n + 1) cs)
next_change n p cs x from e = elim (below_or_from n (length cs)) [
  | inl lt ↦
      let (c, more, is, same, later) = first_here p (drop n cs) x from e in
      let tail : more ≡ drop (n + 1) cs =
      (let next : get_or cs n c ∷ drop (n + 1) cs ≡ c ∷ more = sym (drop_more cs n c lt) ∙ is in cc) in
      (lt, subst (λ (ms : List Change). AreFrom (p + 1) ms) tail later)
  | inr le ↦ let none : change_of [] p ≡ Some x = rw (drop_all n cs le) at e in cc none
]

pub later_text : (header : Record) (cs : List Change) (n p : ℕ) (rows : List Record) (x : Change) →
    AreFrom p (drop n cs) → change_of (drop n cs) p ≡ Some x →
    changed_rows header (drop n cs) (p + 1) rows ≡ changed_rows header (drop (n + 1) cs) (p + 1) rows
later_text header cs n p rows x from e =
    let (c, more, is, same, later) = first_here p (drop n cs) x from e in
    let lt = (next_change n p cs x from e).0 in
    let tail : more ≡ drop (n + 1) cs = (let next : get_or cs n c ∷ drop (n + 1) cs ≡ c ∷ more =
    sym (drop_more cs n c lt) ∙ is in cc) in
    ap (λ (ms : List Change). changed_rows header ms (p + 1) rows) is
    ∙ later_rows header c more (p + 1) rows (omega arith)
    ∙ ap (λ (ms : List Change). changed_rows header ms (p + 1) rows) tail

-- what a slice from a place to the end has
pub to_the_end : (n : ℕ) (cs : List Change) → take (length cs - n) (drop n cs) ≡ drop n cs
to_the_end n cs = let long = length-drop n cs in take_all (length cs - n) (drop n cs) (omega arith)
