-- The first fault of a row is that of the first step in which one is found.
use Rattle.std.proofs.Common.{◌≡◌, ◌++◌, ◌∷◌, ◌∙◌, ℕ, List, [], Option, Some, None, length, option_map, refl, sym, ap}
use Rattle.std.specs.Option.{option_or}
use Rattle.dsa_model.specs.Buffer.{buffer_fault, first_fault}
use Rattle.dsa_model.specs.declared.buffer_fault.BufferFault.{BufferFault}
use Rattle.dsa_model.proofs.Faults.{neither}
use Rattle.csv_instance.specs.Parse.{row_buffer, row_fault}
use Rattle.csv_instance.specs.Rows.{row_form_fault}
use Rattle.csv_instance.specs.Records.{Record}
use Rattle.csv_instance.specs.RowSteps.{content_fault, form_fault, form_faults, id_fault, id_faults}
use Rattle.csv_instance.specs.declared.fault.InstanceFault.{InstanceFault}
use Rattle.csv_instance.specs.declared.fault.InstanceFault.TheVariants as fault
use Rattle.csv_instance.proofs.Basics.{option_or-assoc}

-- the first fault of two lists is that of the first, or else that of the second
first_append : {F : Type 0} (xs ys : List (Option F)) →
    first_fault (xs ++ ys) ≡ option_or (first_fault xs) (first_fault ys)
first_append [] ys = refl
first_append (x ∷ xs) ys =
    ap (option_or x) (first_append xs ys) ∙ option_or-assoc x (first_fault xs) (first_fault ys)

-- how a row is written: its length and id, and then its numbers and gaps
form_steps : (header : Record) (before : List Record) (row : Record) →
    row_form_fault header before row ≡ option_or (id_fault header before row) (form_fault header (length before) row)
form_steps header before row = first_append (id_faults header before row) (form_faults header (length before) row)

-- a row: its length and id, and then what it says
row_steps : (header : Record) (before : List Record) (row : Record) →
    row_fault header before row ≡ option_or (id_fault header before row) (content_fault header (length before) row)
row_steps header before row =
    let told = option_map (fault.BadBuffer (length before)) (buffer_fault (row_buffer header row)) in
    ap (λ (o : Option InstanceFault). option_or o told) (form_steps header before row)
    ∙ sym (option_or-assoc (id_fault header before row) (form_fault header (length before) row) told)

-- ---- a row without a fault has none in any step
pub form_parts : (header : Record) (before : List Record) (row : Record) → row_form_fault header before row ≡ None →
    (id_fault header before row ≡ None) × (form_fault header (length before) row ≡ None)
form_parts header before row e =
    neither (id_fault header before row) (form_fault header (length before) row)
    (sym (form_steps header before row) ∙ e)

pub row_parts : (header : Record) (before : List Record) (row : Record) → row_fault header before row ≡ None →
    (id_fault header before row ≡ None) × (content_fault header (length before) row ≡ None)
row_parts header before row e =
    neither (id_fault header before row) (content_fault header (length before) row)
    (sym (row_steps header before row) ∙ e)

-- ---- the fault of a step
pub form-id : (header : Record) (rows : List Record) (row : Record) (f : InstanceFault)
    → id_fault header rows row ≡ Some f → row_form_fault header rows row ≡ Some f
form-id header rows row f e = form_steps header rows row ∙ rw e refl

pub form-content : (header : Record) (rows : List Record) (row : Record) (o : Option InstanceFault)
    → id_fault header rows row ≡ None → form_fault header (length rows) row ≡ o → row_form_fault header rows row ≡ o
form-content header rows row o e g = form_steps header rows row ∙ rw (e, g) refl

pub row-content : (header : Record) (rows : List Record) (row : Record) (o : Option InstanceFault)
    → id_fault header rows row ≡ None → content_fault header (length rows) row ≡ o → row_fault header rows row ≡ o
row-content header rows row o e g = row_steps header rows row ∙ rw (e, g) refl

-- what is wrong with a row's content is what is wrong with its numbers and gaps, or else with its buffer
pub content-buffer : (header : Record) (number : ℕ) (row : Record) (f : BufferFault)
    → form_fault header number row ≡ None → buffer_fault (row_buffer header row) ≡ Some f
    → content_fault header number row ≡ Some (fault.BadBuffer number f)
content-buffer header number row f e b = rw (e, b) refl

pub content-none : (header : Record) (number : ℕ) (row : Record) → form_fault header number row ≡ None
    → buffer_fault (row_buffer header row) ≡ None → content_fault header number row ≡ None
content-none header number row e b = rw (e, b) refl
