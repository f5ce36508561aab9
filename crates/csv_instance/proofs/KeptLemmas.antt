-- What the rows that were read say, by row.
use Rattle.std.proofs.Common.{◌≡◌, ◌∙◌, ◌<◌, ◌≤◌, ◌+◌, ℕ, List, get_or, length, map, sym, ap, vec_len, arith}
use Rattle.std.proofs.lemmas.List.{get_or-map, length-map}
use Rattle.std.proofs.lemmas.List.Elements.{All-get_or}
use Rattle.csv.specs.Records.{Row, fields_of}
use Rattle.dsa_terms.specs.Buffers.{Buffer, buffer, no_buffer}
use Rattle.dsa_model.specs.Buffer.{buffer_limit}
use Rattle.csv_instance.specs.Records.{Record}
use Rattle.csv_instance.specs.KeptRows.{IsKeptRows, records_of}
use Rattle.csv_instance.specs.Parse.{row_buffer}
use Rattle.csv_instance.specs.Rows.{AreKeptValues, value_of, values_of}
use Rattle.csv_instance.specs.declared.row.RowValues.{RowValues}
use Rattle.csv_instance.specs.declared.row_list.Rows.TheInside.{Inside}
use Rattle.csv_instance.proofs.IdLemmas.{map-map}

-- there are as many values as records after the header
pub kept_count : (a : Inside) → IsKeptRows a → length (records_of a) ≡ length a.values.items + 1
kept_count a k =
    let values = length-map a.values.items value_of in
    let buffers = length-map a.rows.items (λ (row : Row). row_buffer (fields_of a.header) (fields_of row)) in
    let rows = length-map a.rows.items fields_of in
    let same = ap length k.values in
    omega arith

pub kept_values : (a : Inside) → IsKeptRows a → values_of (records_of a) ≡ map value_of a.values.items
kept_values a k = sym (k.values ∙ map-map (row_buffer (fields_of a.header)) fields_of a.rows.items)

-- a row has a value
pub kept_within : (a : Inside) (r : ℕ) (table : List Record) → IsKeptRows a → records_of a ≡ table →
    r + 1 < length table → r < vec_len a.values
kept_within a r table k is within =
    let count = kept_count a k in
    let all = ap length is in
    omega (arith, a.values.ok.0)

-- and there are few
pub kept_few : (a : Inside) → IsKeptRows a → vec_len a.values ≤ buffer_limit
kept_few a k =
    let count = kept_count a k in
    let rows = length-map a.rows.items fields_of in
    omega (arith, a.values.ok.0, k.few)

-- the value of a row
pub kept_value : (a : Inside) (r : ℕ) (v : RowValues) → IsKeptRows a → r + 1 < length (records_of a) →
    v ≡ get_or a.values.items r v → buffer (values_of (records_of a)) r ≡ value_of v
unfolding buffer
kept_value a r v k within is =
    let count = kept_count a k in
    ap (λ (bs : List Buffer). get_or bs r no_buffer) (kept_values a k)
    ∙ get_or-map value_of a.values.items r v no_buffer (omega arith)
    ∙ ap value_of (sym is)

-- and its limits
pub kept_limits : (a : Inside) (r : ℕ) (v : RowValues) → IsKeptRows a → r + 1 < length (records_of a) →
    v ≡ get_or a.values.items r v → AreKeptValues v
kept_limits a r v k within is =
    let count = kept_count a k in
    rw is (All-get_or AreKeptValues a.values.items r v (omega arith) k.limits)
