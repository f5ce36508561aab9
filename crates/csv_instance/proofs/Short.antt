-- The records of a text are no longer than the text.
use Rattle.std.proofs.Common.{◌≡◌, ◌≤◌, ◌+◌, ◌++◌, ◌∷◌, ℕ, zero, suc, List, [], Some, length, sym, ap, inl, inr, arith, length-append}
use Rattle.std.proofs.lemmas.Bool.{cases_Bool}
use Rattle.std.proofs.lemmas.List.Elements.{All-append, All-nil}
use Rattle.std.specs.List.{All}
use Rattle.dsa_terms.proofs.Lists.{same_some}
use Rattle.dsa_model.specs.Limits.{file_limit}
use Rattle.csv.specs.Machine.{Read, field_after, fields_after, is_end, ends_at_end, next_record, step}
use Rattle.csv.specs.Reading.{default_config, records_from, strip_bom, is_bom}
use Rattle.csv.specs.declared.parser.Action.{Action}
use Rattle.csv.specs.declared.parser.Action.TheVariants as act
use Rattle.csv.specs.declared.parser.Config.{Config}
use Rattle.csv.specs.declared.parser.State.{State}
use Rattle.csv.specs.declared.parser.State.TheVariants as st
use Rattle.csv_instance.specs.Records.{HasShortFields, table_of}
use Rattle.csv_instance.proofs.Left.{from_none, from_some, option_cases}

abbrev Within : ℕ → List (List ℕ) → Type 0
Within n fields = All (λ field. length field ≤ n) fields

pub all_cons : {X : Type 0} (P : X → Type 0) (x : X) (xs : List X) → P x → All P xs → All P (x ∷ xs)
all_cons P x xs h t zero d k = h
all_cons P x xs h t (suc i) d k = t i d (omega arith)

pub all_tail : {X : Type 0} (P : X → Type 0) (x : X) (xs : List X) → All P (x ∷ xs) → All P xs
all_tail P x xs h i d k = h (suc i) d (omega arith)

pub all_middle : {X : Type 0} (P : X → Type 0) (front : List X) (x : X) (more : List X) → All P (front ++ x ∷ more)
    → P x
all_middle P [] x more h = h 0 x (omega arith)
all_middle P (y ∷ front) x more h = all_middle P front x more (all_tail P y (front ++ x ∷ more) h)

pub all_later : {X : Type 0} (P : X → Type 0) (front more : List X) → All P (front ++ more) → All P more
all_later P [] more h = h
all_later P (y ∷ front) more h = all_later P front more (all_tail P y (front ++ more) h)

one_more : (n : ℕ) (fields : List (List ℕ)) (field : List ℕ) → Within n fields → length field ≤ n
    → Within n (fields ++ field ∷ [])
one_more n fields field h short = All-append (λ f. length f ≤ n) fields (field ∷ []) h
    (all_cons (λ f. length f ≤ n) field [] short (All-nil (λ f. length f ≤ n)))

after_short : (n : ℕ) (a : Action) (fields : List (List ℕ)) (field : List ℕ) → Within n fields → length field ≤ n
    → Within n (fields_after a fields field)
after_short n act.EndField fields field h short = one_more n fields field h short
after_short n act.EndRecord fields field h short = one_more n fields field h short
after_short n act.Skip fields field h short = h
after_short n act.Copy fields field h short = h

field_short : (n m : ℕ) (a : Action) (c : ℕ) (field : List ℕ) → length field + suc m ≤ n
    → length (field_after a c field) + m ≤ n
field_short n m act.Copy c field h = omega (arith, length-append field (c ∷ []))
field_short n m act.EndField c field h = omega arith
field_short n m act.Skip c field h = omega arith
field_short n m act.EndRecord c field h = omega arith

next_short : (n : ℕ) (cfg : Config) (s : State) (fields : List (List ℕ)) (field xs : List ℕ) (p : Read)
    → Within n fields → length field + length xs ≤ n
    → next_record cfg s fields field xs ≡ Some p → Within n p.0 × (length p.2 ≤ length xs)
unfolding next_record
next_short n cfg s fields field [] p h short e = elim (cases_Bool (ends_at_end s)) [
  | inl ends ↦
      let q = same_some (rw ends at e) in
      let parts : p.0 ≡ fields ++ field ∷ [] = sym (ap (λ (r : Read). r.0) q) in
      let rest : length p.2 ≡ 0 = sym (ap (λ (r : Read). length r.2) q) in
      (rw parts (one_more n fields field h (omega arith)), omega arith)
  | inr on ↦ cc (rw on at e)
]
next_short n cfg s fields field (c ∷ xs) p h short e = elim (cases_Bool (is_end (step cfg s c).1)) [
  | inl ends ↦
      let q = same_some (rw ends at e) in
      let parts : p.0 ≡ fields_after (step cfg s c).1 fields field = sym (ap (λ (r : Read). r.0) q) in
      let rest : length p.2 ≡ length xs = sym (ap (λ (r : Read). length r.2) q) in
      (rw parts (after_short n (step cfg s c).1 fields field h (omega arith)), omega arith)
  | inr on ↦
      let more = next_short n cfg (step cfg s c).0 (fields_after (step cfg s c).1 fields field)
      (field_after (step cfg s c).1 c field) xs p
      (after_short n (step cfg s c).1 fields field h (omega arith))
      (field_short n (length xs) (step cfg s c).1 c field short) (rw on at e) in
      (more.0, omega (arith, more.1))
]

records_short : (n : ℕ) (cfg : Config) (turns : ℕ) (s : State) (xs : List ℕ) → length xs ≤ n
    → All (Within n) (records_from cfg turns s xs)
unfolding records_from
records_short n cfg zero s xs short = All-nil (Within n)
records_short n cfg (suc turns) s xs short = elim (option_cases (next_record cfg s [] [] xs)) [
  | inl none ↦ rw (from_none cfg turns s xs none) (All-nil (Within n))
  | inr some ↦
      let (p, e) = some in
      let (first, rest) = next_short n cfg s [] [] xs p (All-nil (λ f. length f ≤ n)) (omega arith) e in
      rw (from_some cfg turns s xs p e)
      (all_cons (Within n) p.0 (records_from cfg turns p.1 p.2) first
      (records_short n cfg turns p.1 p.2 (omega arith)))
]

records_few : (cfg : Config) (turns : ℕ) (s : State) (xs : List ℕ) → length (records_from cfg turns s xs) ≤ turns
unfolding records_from
records_few cfg zero s xs = omega arith
records_few cfg (suc turns) s xs = elim (option_cases (next_record cfg s [] [] xs)) [
  | inl none ↦ rw (from_none cfg turns s xs none) (omega arith)
  | inr some ↦
      let (p, e) = some in
      rw (from_some cfg turns s xs p e) (let rest = records_few cfg turns p.1 p.2 in omega arith)
]

strip_shorter : (xs : List ℕ) → length (strip_bom xs) ≤ length xs
unfolding strip_bom
strip_shorter [] = omega arith
strip_shorter (a ∷ []) = omega arith
strip_shorter (a ∷ b ∷ []) = omega arith
strip_shorter (a ∷ b ∷ c ∷ xs) = elim (cases_Bool (is_bom a b c)) [
  | inl mark ↦ rw mark (omega arith)
  | inr other ↦ rw other (omega arith)
]

-- no field of a file is longer than a file may be
pub table_short : (bytes : List ℕ) → length bytes ≤ file_limit → All HasShortFields (table_of bytes)
table_short bytes short = let less = strip_shorter bytes in
    records_short file_limit default_config (length (strip_bom bytes) + 1) st.StartRecord (strip_bom bytes)
    (omega arith)

-- a file has no more records than bytes, and one
pub table_few : (bytes : List ℕ) → length (table_of bytes) ≤ length bytes + 1
table_few bytes = let less = strip_shorter bytes in
    let few = records_few default_config (length (strip_bom bytes) + 1) st.StartRecord (strip_bom bytes) in omega arith
