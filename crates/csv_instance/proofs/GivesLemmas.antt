-- What an iterator over the records of a slice is to give.
use Rattle.std.proofs.Common.{Result, Ok, Err, IfOk, ◌≡◌, ◌<◌, ◌∷◌, ◌++◌, ◌∙◌, ℕ, List, true, false, Some, None, [], refl, sym, ap, inl, inr, append_assoc, Bor}
use Rattle.dsa_terms.proofs.Lists.{same_some}
use Rattle.std.specs.List.{All}
use Rattle.csv.specs.Records.{Row, fields_of}
use Rattle.csv.specs.Reading.{Reached, ReadRecord, RowStep, default_config, source_of, strip_bom}
use Rattle.csv.specs.declared.error.Error.{Error}
use Rattle.csv.specs.declared.iter.ByteRecordsIntoIter.{ByteRecordsIntoIter}
use Rattle.csv.specs.declared.reader.Reader.{Reader}
use Rattle.csv.specs.declared.reader.Trim.TheVariants as trim
use Rattle.csv.specs.declared.parser.State.TheVariants as st
use Rattle.csv.proofs.ReadFacts.{rows-end, rows-more}
use Rattle.csv_instance.specs.Records.{HasShortFields, Record, table_of}
use Rattle.csv_instance.specs.Gives.{GaveRecord, Gives, records_left}
use Rattle.csv_instance.proofs.Left.{left-first, left-none}
use Rattle.csv_instance.proofs.Short.{all_middle, all_tail}

-- a step that gives a record gives the first of them
pub gives-some : (a b : ByteRecordsIntoIter (Bor (List ℕ))) (left : List Record) (fields : Record) → Gives a left
    → ReadRecord (λ (s : Bor (List ℕ)). Some s.now) a.rdr b.rdr true fields → b.rdr.first ≡ true → 0 < b.left
    → (more : List Record) × (left ≡ fields ∷ more) × Gives b more
unfolding Reached
gives-some a b left fields g read first turns =
    let (z, at_z, reached) =
    rows-more (λ (s : Bor
    (List ℕ)). Some s.now) a.rdr b.rdr fields default_config a.rdr.state g.rest g.rest [] g.config g.source
    (refl, refl) read in
    let (p, next, same, end) = reached in
    let first_is : left ≡ fields ∷ records_left default_config b.rdr.state z =
    g.gives ∙ left-first default_config a.rdr.state b.rdr.state g.rest z fields p next same end.0 end.1 in (
      records_left default_config b.rdr.state z,
      first_is,
      record {
        plain = read.3 ∙ g.plain;
        ready = inl first;
        turns = turns;
        config = read.2 ∙ g.config;
        rest = z;
        source = at_z;
        gives = refl;
      },
    )

-- and one that gives none comes where there are none
pub gives-none : (a b : ByteRecordsIntoIter (Bor (List ℕ))) (left : List Record) → Gives a left
    → ReadRecord (λ (s : Bor (List ℕ)). Some s.now) a.rdr b.rdr false [] → left ≡ []
gives-none a b left g read =
    g.gives ∙ left-none default_config a.rdr.state g.rest
    (rows-end (λ (s : Bor (List ℕ)). Some s.now) a.rdr b.rdr [] default_config g.rest g.config g.source read)

-- what was given next, if it is a record that has P, is the first of the records that were left
pub gave-first : (a b : ByteRecordsIntoIter (Bor (List ℕ))) (left : List Record) (row : Result Row Error)
    (P : Record → Type 0) → Gives a left → RowStep (λ (s : Bor (List ℕ)). Some s.now) a.rdr b.rdr b.left (Some row)
    → GaveRecord row P → (fields : Record) × P fields × (more : List Record) × (left ≡ fields ∷ more) × Gives b more
gave-first a b left (Ok row) P g s h = let (more, first, on) = gives-some a b left (fields_of row) g s.0 s.1 s.2 in
    (fields_of row, h, more, first, on)
gave-first a b left (Err e) P g s h = absurd h

-- and no longer than those
pub gave-short : (a b : ByteRecordsIntoIter (Bor (List ℕ))) (left : List Record) (row : Result Row Error) → Gives a left
    → RowStep (λ (s : Bor (List ℕ)). Some s.now) a.rdr b.rdr b.left (Some row) → All HasShortFields left
    → IfOk row (λ r. HasShortFields (fields_of r))
gave-short a b left (Ok row) g s short =
    let (more, first, on) = gives-some a b left (fields_of row) g s.0 s.1 s.2 in
    all_middle HasShortFields [] (fields_of row) more (rw first at short)
gave-short a b left (Err e) g s short = tt

-- a record that has P is one that has what P makes of it
pub gave-map : {P Q : Record → Type 0} (row : Result Row Error) → ((fields : Record) → P fields → Q fields)
    → GaveRecord row P → GaveRecord row Q
gave-map (Ok row) g h = g (fields_of row) h
gave-map (Err e) g h = absurd h

pub gave-some : {P : Record → Type 0} (row : Result Row Error) → GaveRecord row P → (fields : Record) × P fields
gave-some (Ok row) h = (fields_of row, h)
gave-some (Err e) h = absurd h

-- it gives one list of records
pub gives-same : (it : ByteRecordsIntoIter (Bor (List ℕ))) (left other : List Record) → Gives it left → Gives it other
    → left ≡ other
gives-same it left other g h = g.gives ∙ ap (records_left default_config it.rdr.state)
    (same_some (sym g.source ∙ h.source)) ∙ sym h.gives

-- an iterator over a fresh reader of a slice gives the records of the slice
pub gives-all : (it : ByteRecordsIntoIter (Bor (List ℕ))) (r : Reader (Bor (List ℕ))) (bytes : List ℕ) → it.rdr ≡ r
    → 0 < it.left
    → r.trim ≡ trim.None → r.has_headers ≡ false → r.headers ≡ None → r.config ≡ default_config
    → source_of (λ (s : Bor (List ℕ)). Some s.now) r ≡ Some (strip_bom bytes) → r.state ≡ st.StartRecord
    → Gives it (table_of bytes)
gives-all it r bytes is turns plain named headers config source start = record {
  plain = rw is plain;
  ready = rw is (inr (inr (named, headers)));
  turns = turns;
  config = rw is config;
  rest = strip_bom bytes;
  source = rw is source;
  gives = rw (is, start) refl;
}

-- one more of the records is seen
pub seen-more : (all seen left more : List Record) (fields : Record) → all ≡ seen ++ left → left ≡ fields ∷ more
    → all ≡ (seen ++ (fields ∷ [])) ++ more
seen-more all seen left more fields is first = is ∙ ap (λ t. seen ++ t) first
    ∙ sym (append_assoc seen (fields ∷ []) more)

-- the records that are left, with the first of them named
pub put-first : (all seen left more : List Record) (fields : Record) → all ≡ seen ++ left → left ≡ fields ∷ more
    → all ≡ seen ++ (fields ∷ more)
put-first all seen left more fields is first = is ∙ ap (λ t. seen ++ t) first

-- what is wrong with the next record, whatever comes after, is wrong with all
pub next-bad : {V F : Type 0} (a b : ByteRecordsIntoIter (Bor (List ℕ))) (left : List Record) (row : Result Row Error)
    (parsed : List Record → Result V F) (all seen : List Record) (f : F) → Gives a left
    → RowStep (λ (s : Bor (List ℕ)). Some s.now) a.rdr b.rdr b.left (Some row) → all ≡ seen ++ left
    → GaveRecord row (λ fields. (rest : List Record) → parsed (seen ++ fields ∷ rest) ≡ Err f) → parsed all ≡ Err f
next-bad a b left row parsed all seen f gives s is h =
    let (fields, bad, more, first, on) =
    gave-first a b left row (λ fields. (rest : List Record) → parsed (seen ++ fields ∷ rest) ≡ Err f) gives s h in
    ap parsed (put-first all seen left more fields is first) ∙ bad more

-- and one that is taken is seen, while the others are left
pub next-taken : (a b : ByteRecordsIntoIter (Bor (List ℕ))) (left : List Record) (row : Result Row Error)
    (longer seen : List Record) → Gives a left
    → RowStep (λ (s : Bor (List ℕ)). Some s.now) a.rdr b.rdr b.left (Some row) → All HasShortFields left
    → GaveRecord row (λ fields. longer ≡ seen ++ fields ∷ [])
    → (more : List Record) × Gives b more × All HasShortFields more
    × ((all : List Record) → all ≡ seen ++ left → all ≡ longer ++ more)
next-taken a b left row longer seen gives s short h =
    let (fields, taken, more, first, on) =
    gave-first a b left row (λ fields. longer ≡ seen ++ fields ∷ []) gives s h in (
      more,
      on,
      all_tail HasShortFields fields more (rw first at short),
      λ all is. seen-more all seen left more fields is first ∙ ap (λ (t : List Record). t ++ more) (sym taken),
    )
