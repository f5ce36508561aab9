-- The offsets that a layout file gives.
use Rattle.std.proofs.Common.{◌≡◌, ◌∙◌, ◌≤◌, ℕ, zero, suc, List, [], ◌∷◌, true, Option, None, Some, Result, Ok, Err, Vec, Global, ◌+◌, arith, find, length, map, option_and_then, sym, ap, subst, unwrap_or, inl, inr}
use Rattle.std.proofs.lemmas.Bool.{cases_Bool}
use Rattle.std.proofs.lemmas.Bool.Decides.{nat_tests}
use Rattle.std.proofs.lemmas.Grind.{common_steps}
use Rattle.std.proofs.lemmas.List.{length-map}
use Rattle.std.specs.Str.Parse.{digits_value}
use Rattle.dsa_terms.specs.Buffers.{Buffer}
use Rattle.dsa_model.specs.Fails.{UnlessNoMemory}
use Rattle.dsa_model.specs.declared.fail.Fail.{Fail}
use Rattle.dsa_model.specs.Numbers.{is_number, written_number}
use Rattle.dsa_model.specs.Limits.{number_limit}
use Rattle.csv_instance.specs.Columns.{field_of}
use Rattle.csv_instance.specs.Parse.{parse, row_buffer}
use Rattle.csv_instance.specs.declared.columns.Column.TheVariants.{Id, Offset}
use Rattle.csv_instance.proofs.FailLemmas.{UnlessNoMemory-map}
use Rattle.csv_instance.proofs.TableLemmas.{answered}
use Rattle.csv_instance.specs.Offsets.{AreOffsets, ids_of, is_of, offset_in, offset_of, parsed_offsets}
use Rattle.csv_instance.specs.Records.{Record}

-- a table without a fault has an id for each record after the header
pub ids-count : (table : List Record) (b : List Buffer) → parse table ≡ Ok b → length table ≡ length (ids_of table) + 1
ids-count [] b e = cc e
ids-count (header ∷ rows) b e = let same = length-map rows (λ row. field_of header row Id) in omega (arith, same)

-- and a buffer
pub buffers-count : (table : List Record) (I : List Buffer) → parse table ≡ Ok I → length table ≡ length I + 1
buffers-count [] I e = cc e
buffers-count (header ∷ rows) I e =
    let same = length-map rows (row_buffer header) in
    let all = ap length (answered _ (map (row_buffer header) rows) I e) in
    omega (arith, same, all)

same_ok : {F : Type 0} (a b : List ℕ) → ◌≡◌ {A = Result (List ℕ) F} (Ok a) (Ok b) → a ≡ b
same_ok a b e = cc

no_fault : {F : Type 0} (g : F) (b : List ℕ) → Err g ≡ Ok b → ⊥
no_fault g b e = cc e

-- what reads as these offsets gives no others, and no fault
pub reads-back : {F : Type 0} (x : Result (List ℕ) F) (os : List ℕ) (r : Result (Vec ℕ Global) (Fail F)) → x ≡ Ok os
    → UnlessNoMemory r (λ v. x ≡ Ok v.items) (λ g. x ≡ Err g) → UnlessNoMemory r (λ v. v.items ≡ os) (λ _. ⊥)
reads-back x os r e h = UnlessNoMemory-map r (λ v same. same_ok v.items os (sym same ∙ e))
    (λ g bad. no_fault g os (sym bad ∙ e)) h

-- one for each id
pub offsets-count : (ids : List (List ℕ)) (table : List Record) (os : List ℕ) → parsed_offsets ids table ≡ Ok os
    → length os ≡ length ids
offsets-count ids [] os e = cc e
offsets-count ids (header ∷ rows) os e = sym (ap length (answered _ (map (offset_of header rows) ids) os e))
    ∙ length-map ids (offset_of header rows)

within : (most : ℕ) (field : List ℕ) → is_number most field ≡ true → digits_value 10 field ≤ most
within most field is = grind (arith, nat_tests, common_steps)

number_within : (most : ℕ) (field : List ℕ) → unwrap_or (written_number most field) 0 ≤ most
number_within most field = elim (cases_Bool (is_number most field)) [
  | inl is ↦ rw is (within most field is)
  | inr other ↦ rw other (omega arith)
]

offset_within : (header : Record) (rows : List Record) (id : List ℕ) → offset_of header rows id ≤ number_limit
offset_within header rows id = go (find (is_of header id) rows)
  where
    go : (o : Option Record) → unwrap_or (option_and_then (offset_in header) o) 0 ≤ number_limit
    go None = omega arith
    go (Some row) = number_within number_limit (field_of header row Offset)

all_mapped : (f : List ℕ → ℕ) (ids : List (List ℕ)) → ((id : List ℕ) → f id ≤ number_limit) → AreOffsets (map f ids)
all_mapped f [] h k d within = absurd (omega arith)
all_mapped f (id ∷ ids) h zero d within = h id
all_mapped f (id ∷ ids) h (suc k) d within = all_mapped f ids h k d (omega arith)

-- each at most the greatest offset
pub offsets-limit : (ids : List (List ℕ)) (table : List Record) (os : List ℕ) → parsed_offsets ids table ≡ Ok os
    → AreOffsets os
offsets-limit ids [] os e = cc e
offsets-limit ids (header ∷ rows) os e = subst AreOffsets (answered _ (map (offset_of header rows) ids) os e)
    (all_mapped (offset_of header rows) ids (offset_within header rows))
