-- The place of an id among those seen so far.
use Rattle.std.proofs.Common.{◌≡◌, ◌∙◌, ◌+◌, ℕ, List, [], ◌∷◌, Bool, Option, Some, None, map, position, cond, option_map, length, true, false, inl, inr, ◌++◌, if◌then◌else◌, refl, sym, ap}
use Rattle.std.proofs.lemmas.Iterator.Adapters.{position_from-zero}
use Rattle.std.proofs.lemmas.Bool.{cases_Bool}
use Rattle.std.proofs.lemmas.List.{map-append}
use Rattle.std.specs.List.{list_any, position_from}
use Rattle.std.specs.Option.{option_or}
use Rattle.std.specs.Str.{bytes_eq}
use Rattle.csv_instance.specs.Columns.{field_of}
use Rattle.csv_instance.specs.Parse.{id_limit}
use Rattle.csv_instance.specs.Row.{length_fault}
use Rattle.csv_instance.specs.RowSteps.{id_fault, id_faults}
use Rattle.csv_instance.specs.declared.fault.InstanceFault.{InstanceFault}
use Rattle.csv_instance.specs.declared.fault.InstanceFault.TheVariants as fault
use Rattle.dsa_model.specs.Buffer.{first_fault, when, buffer_limit}
use Rattle.dsa_model.proofs.Faults.{neither, map_none}
use Rattle.std.specs.Prelude.{⊤, IfOk, Result, Ok, Err, ◌==◌, not, nat_lt}
use Rattle.std.specs.Result.{is_ok}
use Rattle.csv_instance.specs.Records.{Record}
use Rattle.csv_instance.specs.declared.columns.Column.TheVariants.{Id}

position_from-map : {A B : Type 0} (p : B → Bool) (g : A → B) (i : ℕ) (xs : List A)
    → position_from (λ x. p (g x)) i xs ≡ position_from p i (map g xs)
position_from-map p g i [] = refl
position_from-map p g i (x ∷ xs) = ap (λ (r : Option ℕ). cond (p (g x)) (Some i) r) (position_from-map p g (i + 1) xs)

pub position-map : {A B : Type 0} (p : B → Bool) (g : A → B) (xs : List A)
    → position (λ x. p (g x)) xs ≡ position p (map g xs)
position-map p g xs = position_from-zero (λ x. p (g x)) xs ∙ position_from-map p g 0 xs
    ∙ sym (position_from-zero p (map g xs))

pub map-map : {A B C : Type 0} (f : B → C) (g : A → B) (xs : List A) → map (λ x. f (g x)) xs ≡ map f (map g xs)
map-map f g [] = refl
map-map f g (x ∷ xs) = ap (λ (t : List _). f (g x) ∷ t) (map-map f g xs)

-- an id stands among the keys where it stands among the rows
pub same-place : {K R E B : Type 0} (p : B → Bool) (g : K → B) (f : E → B) (h : R → E) (keys : List K) (rows : List R)
    → map g keys ≡ map (λ r. f (h r)) rows
    → position (λ k. p (g k)) keys ≡ position (λ e. p (f e)) (map h rows)
same-place p g f h keys rows e =
    position-map p g keys ∙ ap (λ (t : List _). position p t) (e ∙ map-map f h rows)
    ∙ sym (position-map p f (map h rows))

-- the first of five is the first of four, or else the last
first_of_five : {A : Type 0} (a b c d e : Option A)
    → first_fault (a ∷ b ∷ c ∷ d ∷ e ∷ []) ≡ option_or (first_fault (a ∷ b ∷ c ∷ d ∷ [])) e
first_of_five (Some x) b c d e = refl
first_of_five None (Some x) c d e = refl
first_of_five None None (Some x) d e = refl
first_of_five None None None (Some x) e = refl
first_of_five None None None None (Some x) = refl
first_of_five None None None None None = refl

-- a row's fault is one of its lengths, or else an earlier row has its id
pub id_fault_by : (header : Record) (before : List Record) (row : Record) (number : ℕ) (id : List ℕ)
    (lengths : Option InstanceFault) (earlier : Option ℕ)
    → number ≡ length before → id ≡ field_of header row Id
    → lengths ≡ length_fault number (length header) (length row) (length id)
    → position (λ e. bytes_eq id (field_of header e Id)) before ≡ earlier
    → option_or lengths (option_map (fault.DuplicateId number) earlier) ≡ id_fault header before row
id_fault_by header before row number id lengths earlier n i l p =
    rw (l, ← p, n, i) (sym (first_of_five (when (length before == buffer_limit) fault.TooManyBuffers)
    (when (not (length row == length header)) (fault.FieldCount (length before)))
    (when (length (field_of header row Id) == 0) (fault.EmptyId (length before)))
    (when (nat_lt id_limit (length (field_of header row Id))) (fault.IdTooLong (length before)))
    (option_map (fault.DuplicateId (length before))
    (position (λ e. bytes_eq (field_of header row Id) (field_of header e Id)) before))))

abbrev pub AllNone : {A : Type 0} → List (Option A) → Type 0
AllNone [] = ⊤
AllNone (o ∷ os) = (o ≡ None) × AllNone os

pub all_none : {A : Type 0} (os : List (Option A)) → first_fault os ≡ None → AllNone os
all_none [] e = tt
all_none (o ∷ os) e = let (h, t) = neither o (first_fault os) e in (h, all_none os t)

-- and the other way round
pub none_first : {F : Type 0} (os : List (Option F)) → AllNone os → first_fault os ≡ None
none_first [] h = refl
none_first (o ∷ os) h = rw h.0 (none_first os h.1)

pub none_when : {F : Type 0} (f : F) (b : Bool) → b ≡ false → when b f ≡ None
none_when f b h = rw h refl

pub none_mapped : {A F : Type 0} (f : A → F) (o : Option A) → o ≡ None → option_map f o ≡ None
none_mapped f o h = rw h refl

-- a row without such a fault has an id that no row before it has
pub new_id : (header : Record) (rows : List Record) (row : Record) → id_fault header rows row ≡ None
    → position (λ e. bytes_eq (field_of header row Id) (field_of header e Id)) rows ≡ None
new_id header rows row e =
    map_none (fault.DuplicateId (length rows)) _ (all_none (id_faults header rows row) e).1.1.1.1.0

none_from : {K : Type 0} (p : K → Bool) (i : ℕ) (xs : List K) → position_from p i xs ≡ None → list_any p xs ≡ false
none_from p i [] e = refl
none_from p i (x ∷ xs) e = elim (cases_Bool (p x)) [
  | inl same ↦ cc (rw same at e)
  | inr other ↦ rw other (none_from p (i + 1) xs (rw other at e))
]

pub none_any : {K : Type 0} (p : K → Bool) (xs : List K) → position p xs ≡ None → list_any p xs ≡ false
none_any p xs e = none_from p 0 xs (sym (position_from-zero p xs) ∙ e)

-- the keys after a new id
pub ids-more : {K R : Type 0} (g : K → List ℕ) (f : R → List ℕ) (keys : List K) (rows : List R) (key : K) (row : R)
    → map g keys ≡ map f rows
    → list_any (λ k. bytes_eq (g key) (g k)) keys ≡ false → g key ≡ f row → (new : List K)
    → new ≡ (if list_any (λ k. bytes_eq (g key) (g k)) keys then keys else keys ++ key ∷ [])
    → map g new ≡ map f (rows ++ row ∷ [])
ids-more g f keys rows key row same none id new is =
    let grown : new ≡ keys ++ key ∷ [] = rw none at is in
    rw grown (map-append g keys (key ∷ []) ∙ rw (same, id) (sym (map-append f rows (row ∷ []))))

pub if_ok : {T E P : Type 0} (r : Result T E) → is_ok r ≡ true → IfOk r (λ _. P) → P
if_ok (Ok x) e h = h
if_ok (Err x) e h = cc e
