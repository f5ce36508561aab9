-- The records that are left of a text, from a state of the reader.
use Rattle.std.proofs.Common.{◌≡◌, ◌<◌, ◌+◌, ◌⊎◌, ◌∷◌, ◌∙◌, ℕ, zero, suc, List, Option, Some, None, [], length, refl, sym, ap, inl, inr, arith}
use Rattle.std.proofs.lemmas.Bool.{cases_Bool}
use Rattle.dsa_terms.proofs.Lists.{same_some}
use Rattle.csv.specs.Machine.{Read, next_record, ends_at_end, step, is_end, fields_after, field_after}
use Rattle.csv.specs.Reading.{records_from}
use Rattle.csv_instance.specs.Gives.{records_left}
use Rattle.csv.specs.declared.parser.Config.{Config}
use Rattle.csv.specs.declared.parser.State.{State}
use Rattle.csv.specs.declared.parser.State.TheVariants as st

-- a read either takes a byte or more, or ends the text
abbrev Falls : List ℕ → Read → Type 0
Falls xs p = (length p.2 < length xs) ⊎ ((p.1 ≡ st.StartRecord) × (p.2 ≡ []))

falls_more : (c : ℕ) (xs : List ℕ) (p : Read) → Falls xs p → Falls (c ∷ xs) p
falls_more c xs p (inl h) = inl (omega arith)
falls_more c xs p (inr h) = inr h

read_falls : (cfg : Config) (s : State) (fields : List (List ℕ)) (field xs : List ℕ) (p : Read)
    → next_record cfg s fields field xs ≡ Some p → Falls xs p
unfolding next_record
read_falls cfg s fields field [] p e = elim (cases_Bool (ends_at_end s)) [
  | inl ends ↦ let q = same_some (rw ends at e) in
      inr (sym (ap (λ (r : Read). r.1) q), sym (ap (λ (r : Read). r.2) q))
  | inr on ↦ cc (rw on at e)
]
read_falls cfg s fields field (c ∷ xs) p e = elim (cases_Bool (is_end (step cfg s c).1)) [
  | inl ends ↦ let q = same_some (rw ends at e) in
      inl (let h : length p.2 ≡ length xs = sym (ap (λ (r : Read). length r.2) q) in omega arith)
  | inr on ↦ falls_more c xs p
      (read_falls cfg (step cfg s c).0 (fields_after (step cfg s c).1 fields field)
      (field_after (step cfg s c).1 c field) xs p (rw on at e))
]

-- nothing is left at the end of a text
pub at_end : (cfg : Config) (n : ℕ) → records_from cfg n st.StartRecord [] ≡ []
unfolding records_from next_record
at_end cfg zero = refl
at_end cfg (suc n) = refl

pub from_some : (cfg : Config) (n : ℕ) (s : State) (xs : List ℕ) (p : Read) → next_record cfg s [] [] xs ≡ Some p
    → records_from cfg (suc n) s xs ≡ p.0 ∷ records_from cfg n p.1 p.2
unfolding records_from
from_some cfg n s xs p e = rw e refl

pub from_none : (cfg : Config) (n : ℕ) (s : State) (xs : List ℕ) → next_record cfg s [] [] xs ≡ None
    → records_from cfg (suc n) s xs ≡ []
unfolding records_from
from_none cfg n s xs e = rw e refl

pub option_cases : {A : Type 0} (o : Option A) → (o ≡ None) ⊎ ((x : A) × (o ≡ Some x))
option_cases None = inl refl
option_cases (Some x) = inr (x, refl)

-- how many turns there are makes no difference, where they are more than the bytes
turns : (cfg : Config) (n m : ℕ) (s : State) (xs : List ℕ) → length xs < n → length xs < m
    → records_from cfg n s xs ≡ records_from cfg m s xs
turns cfg zero m s xs h k = absurd (omega arith)
turns cfg (suc n) zero s xs h k = absurd (omega arith)
turns cfg (suc n) (suc m) s xs h k = elim (option_cases (next_record cfg s [] [] xs)) [
  | inl none ↦ from_none cfg n s xs none ∙ sym (from_none cfg m s xs none)
  | inr some ↦
      let (p, e) = some in
      let rest : records_from cfg n p.1 p.2 ≡ records_from cfg m p.1 p.2 = elim (read_falls cfg s [] [] xs p e) [
        | inl less ↦ turns cfg n m p.1 p.2 (omega arith) (omega arith)
        | inr done ↦ rw (done.0, done.1) (at_end cfg n ∙ sym (at_end cfg m))
      ] in
      from_some cfg n s xs p e ∙ ap (λ (t : List (List (List ℕ))). p.0 ∷ t) rest ∙ sym (from_some cfg m s xs p e)
]

-- a read that finds a record takes the first of those that are left
pub left-some : (cfg : Config) (s : State) (xs : List ℕ) (p : Read) → next_record cfg s [] [] xs ≡ Some p
    → records_left cfg s xs ≡ p.0 ∷ records_left cfg p.1 p.2
left-some cfg s xs p e = elim (read_falls cfg s [] [] xs p e) [
  | inl less ↦
      turns cfg (length xs + 1) (suc (length xs)) s xs (omega arith) (omega arith) ∙ from_some cfg (length xs) s xs p e
      ∙ ap (λ (t : List (List (List ℕ))). p.0 ∷ t) (turns cfg (length xs) (length p.2 + 1) p.1 p.2 less (omega arith))
  | inr done ↦
      turns cfg (length xs + 1) (suc (length xs)) s xs (omega arith) (omega arith) ∙ from_some cfg (length xs) s xs p e
      ∙ ap (λ (t : List (List (List ℕ))). p.0 ∷ t) (rw (done.0, done.1) (at_end cfg (length xs) ∙ sym (at_end cfg 1)))
]

-- and one that finds none has none left
pub left-none : (cfg : Config) (s : State) (xs : List ℕ) → next_record cfg s [] [] xs ≡ None
    → records_left cfg s xs ≡ []
left-none cfg s xs e = turns cfg (length xs + 1) (suc (length xs)) s xs (omega arith) (omega arith)
    ∙ from_none cfg (length xs) s xs e

-- the same, with the parts of the read named
pub left-first : (cfg : Config) (s s2 : State) (xs z : List ℕ) (fields : List (List ℕ)) (p : Read)
    → next_record cfg s [] [] xs ≡ Some p → fields ≡ p.0 → p.1 ≡ s2 → p.2 ≡ z
    → records_left cfg s xs ≡ fields ∷ records_left cfg s2 z
left-first cfg s s2 xs z fields p e same state rest = left-some cfg s xs p e ∙ rw (same, state, rest) refl
