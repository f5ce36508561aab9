-- A record whose first field does not begin with a byte order mark, and which has more fields, has a text that does
-- not begin with one.
use Rattle.std.proofs.Common.{◌≡◌, ◌++◌, ◌∷◌, ◌∙◌, ◌==◌, ℕ, List, [], false, refl, sym, ap, inl, inr, append_assoc, nat_eq}
use Rattle.std.proofs.lemmas.Bool.{cases_Bool, eqb-true}
use Rattle.std.specs.List.{list_any, starts_with}
use Rattle.csv.specs.Reading.{strip_bom}
use Rattle.csv.specs.Writing.{default_writer, field_text, fields_text, needs_byte, row_text, is_blank}
use Rattle.csv_instance.specs.Records.{Record}

-- the bytes of a byte order mark
abbrev pub mark : List ℕ
mark = 239 ∷ 187 ∷ 191 ∷ []

strip_other : (a : ℕ) (xs : List ℕ) → (a == 239) ≡ false → strip_bom (a ∷ xs) ≡ a ∷ xs
unfolding strip_bom
strip_other a [] e = refl
strip_other a (b ∷ []) e = refl
strip_other a (b ∷ c ∷ xs) e = rw e refl

strip_second : (a b : ℕ) (xs : List ℕ) → (b == 187) ≡ false → strip_bom (a ∷ b ∷ xs) ≡ a ∷ b ∷ xs
unfolding strip_bom
strip_second a b [] e = refl
strip_second a b (c ∷ xs) e = elim (cases_Bool (a == 239)) [
  | inl same ↦ rw (same, e) refl
  | inr other ↦ rw other refl
]

strip_third : (a b c : ℕ) (xs : List ℕ) → (c == 191) ≡ false → strip_bom (a ∷ b ∷ c ∷ xs) ≡ a ∷ b ∷ c ∷ xs
unfolding strip_bom
strip_third a b c xs e = elim (cases_Bool (a == 239)) [
  | inl same ↦ elim (cases_Bool (b == 187)) [
    | inl same2 ↦ rw (same, same2, e) refl
    | inr other2 ↦ rw
        (same, other2) refl
  ]
  | inr other ↦ rw other refl
]

plain_text : (f rest : List ℕ) → starts_with nat_eq f mark ≡ false → strip_bom (f ++ (44 ∷ rest)) ≡ f ++ (44 ∷ rest)
plain_text [] rest h = strip_other 44 rest refl
plain_text (a ∷ []) rest h = strip_second a 44 rest refl
plain_text (a ∷ b ∷ []) rest h = strip_third a b 44 rest refl
plain_text (a ∷ b ∷ c ∷ f) rest h = elim (cases_Bool (a == 239)) [
  | inl same ↦ elim (cases_Bool (b == 187)) [
    | inl same2 ↦ elim (cases_Bool (c == 191)) [
      | inl same3 ↦ cc (rw (eqb-true a 239 same, eqb-true b 187 same2, eqb-true c 191 same3) at h)
      | inr other3 ↦ strip_third a b c (f ++ (44 ∷ rest)) other3
    ]
    | inr other2 ↦ strip_second a b (c ∷ (f ++ (44 ∷ rest))) other2
  ]
  | inr other ↦ strip_other a (b ∷ c ∷ (f ++ (44 ∷ rest))) other
]

field_plain : (f rest : List ℕ) → starts_with nat_eq f mark ≡ false
    → strip_bom (field_text default_writer f ++ (44 ∷ rest)) ≡ field_text default_writer f ++ (44 ∷ rest)
field_plain f rest h = elim (cases_Bool (list_any (needs_byte default_writer) f)) [
  | inl needs ↦ rw needs (strip_other 34 _ refl)
  | inr plain ↦ rw plain (plain_text f rest h)
]

-- such a record's text, and what comes after it
pub no_mark : (f g : List ℕ) (fs : Record) (tail : List ℕ) → starts_with nat_eq f mark ≡ false
    → strip_bom (row_text default_writer (f ∷ g ∷ fs) ++ tail) ≡ row_text default_writer (f ∷ g ∷ fs) ++ tail
unfolding is_blank fields_text
no_mark f g fs tail h =
    let more = (field_text default_writer g ++ fields_text default_writer fs) ++ (10 ∷ []) in
    let text : row_text default_writer (f ∷ g ∷ fs) ++ tail ≡ field_text default_writer f ++ (44 ∷ (more ++ tail)) =
    ap (λ t. t ++ tail) (append_assoc (field_text default_writer f)
    (44 ∷ (field_text default_writer g ++ fields_text default_writer fs)) (10 ∷ []))
    ∙ append_assoc (field_text default_writer f) (44 ∷ more) tail in
    ap strip_bom text ∙ field_plain f (more ++ tail) h ∙ sym text
