-- What a row of a layout file answers, case by case.
use Rattle.std.proofs.Common.{◌≡◌, ◌∙◌, ◌||◌, ◌+◌, ◌++◌, ℕ, List, [], ◌∷◌, Bool, true, false, Some, None, Vec, Global, length, map, position, get_or, unwrap_or, refl, sym, ap, eq-eqb, inl, inr}
use Rattle.std.proofs.lemmas.Bool.{cases_Bool}
use Rattle.std.proofs.lemmas.Iterator.Adapters.{position_from-zero}
use Rattle.std.proofs.lemmas.List.{length-map, map-append}
use Rattle.std.specs.List.{list_any, position_from}
use Rattle.std.specs.Map.{keys_of}
use Rattle.std.specs.Str.{bytes_eq}
use Rattle.dsa_model.specs.Numbers.{written_number}
use Rattle.dsa_model.proofs.Faults.{map_none}
use Rattle.dsa_model.specs.Limits.{number_limit}
use Rattle.indexmap.specs.IndexMap.{insert_entry}
use Rattle.csv_instance.specs.Columns.{field_of}
use Rattle.csv_instance.specs.Found.{AreColumns, AreOf, Entries}
use Rattle.csv_instance.specs.Offsets.{layout_row_fault, layout_row_faults, offset_in}
use Rattle.csv_instance.specs.Records.{Record}
use Rattle.csv_instance.specs.declared.columns.Column.TheVariants.{Id}
use Rattle.csv_instance.specs.declared.fault.OffsetsFault.TheVariants as fault
use Rattle.csv_instance.specs.declared.offset_row.OffsetColumns.{OffsetColumns}
use Rattle.csv_instance.proofs.IdLemmas.{all_none, map-map, position-map}

pub list_any-map : {A B : Type 0} (p : B → Bool) (g : A → B) (xs : List A)
    → list_any p (map g xs) ≡ list_any (λ x. p (g x)) xs
list_any-map p g [] = refl
list_any-map p g (x ∷ xs) = ap (λ (t : Bool). p (g x) || t) (list_any-map p g xs)

-- the ids alone
ids_are : (header : Record) (before : List Record) (entries : Entries) → AreOf header before entries
    → map (λ k. k.items) (keys_of entries) ≡ map (λ e. field_of header e Id) before
ids_are header before entries are =
    sym (map-map (λ k. k.items) (λ e. e.0) entries) ∙ map-map {A = Vec ℕ Global × ℕ} {B = List ℕ × ℕ} (λ p. p.0)
    (λ e. (e.0.items, e.1)) entries
    ∙ ap (λ (ps : List (List ℕ × ℕ)). map (λ p. p.0) ps) are
    ∙ sym (map-map {B = List ℕ × ℕ} (λ p. p.0)
    (λ row. (field_of header row Id, unwrap_or (offset_in header row) 0)) before)

pub count_is : (header : Record) (before : List Record) (entries : Entries) → AreOf header before entries
    → length entries ≡ length before
count_is header before entries are =
    sym (length-map entries (λ (e : Vec ℕ Global × ℕ). (e.0.items, e.1))) ∙ ap length are
    ∙ length-map before (λ (row : Record). (field_of header row Id, unwrap_or (offset_in header row) 0))

module _ (keys : List (Vec ℕ Global)) (header : Record) (before : List Record) (row : Record) (columns : OffsetColumns)
    (entries : Entries)
    (a : AreColumns header columns) (are : AreOf header before entries) (even : length row ≡ columns.count) where
  id_is : field_of header row Id ≡ get_or row columns.id []
  id_is = rw a.id refl

  known_is : list_any (bytes_eq (field_of header row Id)) (map (λ k. k.items) keys)
      ≡ list_any (λ k. bytes_eq (get_or row columns.id []) k.items) keys
  known_is = list_any-map (bytes_eq (field_of header row Id)) (λ k. k.items) keys
      ∙ ap (λ (id : List ℕ). list_any (λ k. bytes_eq id k.items) keys) id_is

  place_is : position (λ earlier. bytes_eq (field_of header row Id) (field_of header earlier Id)) before
      ≡ position (λ k. bytes_eq (get_or row columns.id []) k.items) (keys_of entries)
  place_is =
      position-map (bytes_eq (field_of header row Id)) (λ earlier. field_of header earlier Id) before
      ∙ ap (position (bytes_eq (field_of header row Id))) (sym (ids_are header before entries are))
      ∙ sym (position-map (bytes_eq (field_of header row Id)) (λ k. k.items) (keys_of entries))
      ∙ ap (λ (id : List ℕ). position (λ k. bytes_eq id k.items) (keys_of entries)) id_is

  value_is : offset_in header row ≡ written_number number_limit (get_or row columns.offset [])
  value_is = rw a.offset refl

  same_length : length row ≡ length header
  same_length = even ∙ a.count

  pub row-unknown : list_any (λ k. bytes_eq (get_or row columns.id []) k.items) keys ≡ false
      → layout_row_fault (map (λ k. k.items) keys) header before row ≡ Some (fault.UnknownId (length before))
  row-unknown u = rw (eq-eqb _ _ same_length, known_is ∙ u) refl

  module _ (u : list_any (λ k. bytes_eq (get_or row columns.id []) k.items) keys ≡ true) where
    pub row-again : (k : ℕ) → position (λ k. bytes_eq (get_or row columns.id []) k.items) (keys_of entries) ≡ Some k
        → layout_row_fault (map (λ k. k.items) keys) header before row ≡ Some (fault.DuplicateId (length before) k)
    row-again k d = rw (eq-eqb _ _ same_length, known_is ∙ u, place_is ∙ d) refl

    pub row-number : position (λ k. bytes_eq (get_or row columns.id []) k.items) (keys_of entries) ≡ None
        → written_number number_limit (get_or row columns.offset []) ≡ None
        → layout_row_fault (map (λ k. k.items) keys) header before row ≡ Some (fault.BadNumber (length before))
    row-number d n = rw (eq-eqb _ _ same_length, known_is ∙ u, place_is ∙ d, value_is ∙ n) refl

    pub row-fine : (o : ℕ) → position (λ k. bytes_eq (get_or row columns.id []) k.items) (keys_of entries) ≡ None
        → written_number number_limit (get_or row columns.offset []) ≡ Some o
        → (layout_row_fault (map (λ k. k.items) keys) header before row ≡ None) × (offset_in header row ≡ Some o)
    row-fine o d n = (rw (eq-eqb _ _ same_length, known_is ∙ u, place_is ∙ d, value_is ∙ n) refl, value_is ∙ n)

-- a key that is new goes last
insert_new : (es : Entries) (k : Vec ℕ Global) (v i : ℕ) → position_from (λ q. bytes_eq k.items q.items) i (keys_of es)
    ≡ None
    → insert_entry (λ a b. bytes_eq a.items b.items) es k v ≡ es ++ (k, v) ∷ []
insert_new [] k v i h = refl
insert_new (e ∷ es) k v i h = elim (cases_Bool (bytes_eq k.items e.0.items)) [
  | inl same ↦ cc (rw same at h)
  | inr other ↦ rw other (ap (λ (t : Entries). e ∷ t) (insert_new es k v (i + 1) (rw other at h)))
]

-- the entries after one more row without a fault
pub entries-more : (ids : List (List ℕ)) (header : Record) (before : List Record) (row : Record)
    (columns : OffsetColumns) (old new : Entries) (id : Vec ℕ Global) (offset : ℕ)
    → AreColumns header columns → AreOf header before old → layout_row_fault ids header before row ≡ None
    → offset_in header row ≡ Some offset
    → id.items ≡ get_or row columns.id [] → new ≡ insert_entry (λ a b. bytes_eq a.items b.items) old id offset
    → AreOf header (before ++ row ∷ []) new
entries-more ids header before row columns old new id offset a are fine value is grown =
    let same : id.items ≡ field_of header row Id = is ∙ sym (rw a.id refl) in
    let fresh : position (λ earlier. bytes_eq (field_of header row Id) (field_of header earlier Id)) before ≡ None =
    map_none (fault.DuplicateId (length before)) _
    (all_none (layout_row_faults ids header before row) fine).1.1.0 in
    let none : position_from (λ q. bytes_eq id.items q.items) 0 (keys_of old) ≡ None =
    sym (position_from-zero (λ q. bytes_eq id.items q.items) (keys_of old))
    ∙ position-map (bytes_eq id.items) (λ k. k.items) (keys_of old)
    ∙ ap (position (bytes_eq id.items)) (ids_are header before old are)
    ∙ sym (position-map (bytes_eq id.items) (λ earlier. field_of header earlier Id) before) ∙ rw same fresh in
    let view : Vec ℕ Global × ℕ → List ℕ × ℕ = λ e. (e.0.items, e.1) in
    let entry : Record → List ℕ × ℕ = λ r. (field_of header r Id, unwrap_or (offset_in header r) 0) in
    let last : (id.items, offset) ≡ entry row = rw (same, value) refl in
    ap (map view) (grown ∙ insert_new old id offset 0 none) ∙ map-append view old ((id, offset) ∷ [])
    ∙ ap (λ (t : List (List ℕ × ℕ)). t ++ (id.items, offset) ∷ []) are
    ∙ ap (λ (p : List ℕ × ℕ). map entry before ++ p ∷ []) last ∙ sym (map-append entry before (row ∷ []))
