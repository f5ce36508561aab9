-- What small rows hold, what is found in small layout files, and what is read and written.
use Rattle.std.proofs.Common.{◌≡◌, ◌<◌, ◌≤◌, List, ℕ, zero, suc, inl, [], ◌∷◌, true, false, length, replicate, sum_by, Some, None, Vec, Global, codes, refl, ap, lit<, lit≤, arith}
use Rattle.std.specs.Borrow.{Bor}
use Rattle.csv.specs.Machine.{next_record}
use Rattle.csv.specs.Reading.{default_config, records_from}
use Rattle.csv.specs.Writing.{default_writer}
use Rattle.csv.specs.declared.iter.ByteRecordsIntoIter.{ByteRecordsIntoIter}
use Rattle.csv.specs.declared.parser.State.TheVariants as state
use Rattle.csv.specs.declared.reader.Trim.TheVariants as trim
use Rattle.csv.specs.declared.writer.Writer.{Writer}
use Rattle.dsa_model.specs.Buffer.{buffer_limit}
use Rattle.dsa_model.specs.Limits.{file_limit}
use Rattle.csv_instance.specs.Found.{AreColumns, AreFound, AreOf, by_buffer, found_for}
use Rattle.csv_instance.specs.Gives.{Gives, records_left}
use Rattle.csv_instance.specs.Offsets.{layout_row_fault}
use Rattle.csv_instance.specs.RowSteps.{id_fault}
use Rattle.csv_instance.specs.Records.{HasShortFields, Record}
use Rattle.csv_instance.specs.Row.{AreNumbers, length_fault}
use Rattle.csv_instance.specs.Wrote.{Wrote}
use Rattle.csv_instance.specs.declared.fault.InstanceFault.TheVariants as fault
use Rattle.csv_instance.specs.declared.fault.OffsetsFault.TheVariants as offsets

abbrev plain : Record
plain = codes "id" ∷ codes "lower" ∷ codes "upper" ∷ codes "size" ∷ []

abbrev first_row : Record
first_row = codes "A" ∷ codes "2" ∷ codes "5" ∷ codes "4" ∷ []

-- ---- rows
numbers_of_first : AreNumbers plain first_row (record { lower = 2; upper = 5; size = 4; alignment = 1; lowest = 0 })
numbers_of_first = record { lower = refl; upper = refl; size = refl; alignment = refl; lowest = refl }

two_of_them_changed : AreNumbers plain first_row
    (record { lower = 5; upper = 2; size = 4; alignment = 1; lowest = 0 }) → ⊥
two_of_them_changed n = let e : Some 2 ≡ Some 5 = n.lower in cc

past_the_last : length_fault buffer_limit 4 3 0 ≡ Some fault.TooManyBuffers
past_the_last = refl

few_fields : length_fault 4095 4 3 0 ≡ Some (fault.FieldCount 4095)
few_fields = refl

no_id : length_fault 5 4 4 0 ≡ Some (fault.EmptyId 5)
no_id = refl

long_id : length_fault 5 4 4 256 ≡ Some (fault.IdTooLong 5)
long_id = refl

longest_id : length_fault 5 4 4 255 ≡ None
longest_id = refl

-- the same of rows
row_of_a_long_id : id_fault plain [] (replicate 256 65 ∷ [] ∷ [] ∷ [] ∷ []) ≡ Some (fault.IdTooLong 0)
row_of_a_long_id = refl

row_past_the_last : (rows : List Record) → length rows ≡ buffer_limit →
    id_fault plain rows [] ≡ Some fault.TooManyBuffers
row_past_the_last rows many = rw many refl

short : HasShortFields (codes "A" ∷ [])
short zero d lt = lit≤ tt
short (suc k) d lt = absurd (omega arith)

not_short : (field : List ℕ) → file_limit < length field → HasShortFields (field ∷ []) → ⊥
not_short field long h = let k : length field ≤ file_limit = h 0 field (lit< tt) in omega arith

-- ---- layout files
abbrev solution : Record
solution = codes "offset" ∷ codes "id" ∷ []

abbrev solved : List Record
solved = (codes "7" ∷ codes "B" ∷ []) ∷ []

columns_of_solution : AreColumns solution (record { count = 2; id = 1; offset = 0 })
columns_of_solution = record { count = refl; id = refl; offset = refl }

changed_columns : AreColumns solution (record { count = 2; id = 0; offset = 1 }) → ⊥
changed_columns c = let e : Some 1 ≡ Some 0 = c.id in cc

few_offsets : layout_row_fault (codes "B" ∷ []) solution [] (codes "7" ∷ []) ≡ Some (offsets.FieldCount 0)
few_offsets = refl

apart : (m n : ℕ) → n < m → m ≡ n → ⊥
apart m n lt e = omega arith

module _ (k : Vec ℕ Global) (id : k.items ≡ codes "B") where
  one_entry : AreOf solution solved ((k, 7) ∷ [])
  one_entry = rw id refl

  another_offset : AreOf solution solved ((k, 8) ∷ []) → ⊥
  another_offset h = apart 8 7 (lit< tt) (ap (sum_by (λ (p : List ℕ × ℕ). p.1)) h)

  its_offset : found_for ((k, 7) ∷ []) (codes "B") ≡ Some 7
  its_offset = rw id refl

  not_found : found_for ((k, 7) ∷ []) (codes "A") ≡ None
  not_found = rw id refl

  one_buffer : by_buffer (k ∷ []) ((k, 7) ∷ []) ≡ Some 7 ∷ []
  one_buffer = rw id refl

  found : AreFound (codes "A" ∷ codes "B" ∷ []) (solution ∷ solved) ((k, 7) ∷ [])
  found = record {
    header = solution;
    rows = solved;
    records = refl;
    header_good = refl;
    rows_good = refl;
    entries_are = one_entry;
  }

  no_header : AreFound (codes "B" ∷ []) [] ((k, 7) ∷ []) → ⊥
  no_header f = let e = f.records in cc

-- ---- reading and writing
two_fields : records_left default_config state.StartRecord (codes "a,b\n") ≡ (codes "a" ∷ codes "b" ∷ []) ∷ []
unfolding records_from next_record
two_fields = refl

within_a_field : records_left default_config state.InField (codes ",b") ≡ ([] ∷ codes "b" ∷ []) ∷ []
unfolding records_from next_record
within_a_field = refl

-- a reader at the start of a text
abbrev at_start : ByteRecordsIntoIter (Bor (List ℕ)) → ℕ → ByteRecordsIntoIter (Bor (List ℕ))
at_start it left = record it {
  rdr = record it.rdr {
    trim = trim.None;
    first = true;
    config = default_config;
    state = state.StartRecord;
    failed = false;
    bom_checked = true;
    at = 0;
    filled = 0;
  };
  left = left;
}

gives_one : (it : ByteRecordsIntoIter (Bor (List ℕ))) → it.rdr.rdr.now ≡ codes "a,b\n" →
    Gives (at_start it 1) ((codes "a" ∷ codes "b" ∷ []) ∷ [])
gives_one it text = record {
  plain = refl;
  ready = inl refl;
  turns = lit< tt;
  config = refl;
  rest = codes "a,b\n";
  source = rw text refl;
  gives = rw two_fields refl;
}

no_turns : (it : ByteRecordsIntoIter (Bor (List ℕ))) (left : List Record) → Gives (at_start it 0) left → ⊥
no_turns it left g = let k = g.turns in omega arith

-- a writer that has some bytes of its text in its buffer
abbrev after : Writer (Vec ℕ Global) → ℕ → Writer (Vec ℕ Global)
after w fields = record w {
  wtr = record w.wtr { buf = codes ",b\n" };
  cfg = default_writer;
  fields = fields;
  wrote = false;
}

wrote_one : (w : Writer (Vec ℕ Global)) → w.wtr.inner.items ≡ codes "a" → Wrote (after w 0) (codes "a,b\n")
wrote_one w bytes = record { setup = refl; between = refl; clean = refl; holds = rw bytes refl }

within_a_record : (w : Writer (Vec ℕ Global)) (text : List ℕ) → Wrote (after w 1) text → ⊥
within_a_record w text h = apart 1 0 (lit< tt) h.between
