-- Some rows of a table that is an instance are an instance too: that of their buffers.
use Rattle.std.proofs.Common.{◌≡◌, ◌≢◌, ℕ, suc, ◌+◌, ◌-◌, ◌<◌, ◌≤◌, ◌⊎◌, inl, inr, Bool, false, not, ◌==◌, List, [], ◌∷◌, ◌++◌, length, map, position, slice_index_or, None, Ok, option_map, is_some, refl, sym, ap, ◌∙◌, subst, arith}
use Rattle.std.proofs.lemmas.Iterator.Adapters.{position_from-zero}
use Rattle.std.proofs.lemmas.List.{get_or-map, length-map}
use Rattle.std.specs.List.{position_from}
use Rattle.std.specs.Str.{bytes_eq}
use Rattle.dsa_terms.specs.Buffers.{Buffer, buffer, no_buffer}
use Rattle.dsa_terms.specs.Claims.{IsIn, Rises}
use Rattle.dsa_terms.proofs.Lists.{from_append, left_append, none_passes, right_append}
use Rattle.dsa_terms.proofs.NumberTests.{apart, differ}
use Rattle.dsa_model.specs.Buffer.{buffer_fault, buffer_limit}
use Rattle.dsa_model.proofs.Faults.{map_none, neither, not_so}
use Rattle.csv_instance.specs.Columns.{field_of}
use Rattle.csv_instance.specs.Gaps.{gaps_of}
use Rattle.csv_instance.specs.Parse.{bad_column, parse, row_buffer, row_fault, rows_fault}
use Rattle.csv_instance.specs.Records.{Record}
use Rattle.csv_instance.specs.RowSteps.{content_fault, form_fault, form_faults, id_fault, id_faults}
use Rattle.csv_instance.specs.declared.columns.Column.TheVariants.{Gaps, Id}
use Rattle.csv_instance.specs.declared.fault.InstanceFault.TheVariants as fault
use Rattle.csv_instance.proofs.IdLemmas.{all_none, none_any}
use Rattle.csv_instance.proofs.RowStepLemmas.{row-content, row_parts}
use Rattle.csv_instance.proofs.TableLemmas.{answered, faultless, parse-good}
use Rattle.dsa_model.specs.Chosen.{some_of}
use Rattle.csv_instance.specs.Chosen.{rows_at}

-- ---- one row after fewer rows
none_from_any : {K : Type 0} (p : K → Bool) (i : ℕ) (xs : List K) → ((x : K) → IsIn x xs → p x ≡ false) →
    position_from p i xs ≡ None
none_from_any p i [] h = refl
none_from_any p i (x ∷ xs) h = rw (h x (inl refl)) (none_from_any p (i + 1) xs (λ y j. h y (inr j)))

abbrev AreRowsOf : List Record → List Record → Type 0
AreRowsOf xs ys = (row : Record) → IsIn row xs → IsIn row ys

-- an id that none of the rows before has none of fewer rows has
still_new : (id : List ℕ) (header : Record) (before fewer : List Record) → AreRowsOf fewer before →
    position (λ e. bytes_eq id (field_of header e Id)) before ≡ None →
    position (λ e. bytes_eq id (field_of header e Id)) fewer ≡ None
still_new id header before fewer h e =
    position_from-zero (λ e. bytes_eq id (field_of header e Id)) fewer
    ∙ none_from_any (λ e. bytes_eq id (field_of header e Id)) 0 fewer
    (λ row i. none_passes (λ e. bytes_eq id (field_of header e Id)) before row
    (none_any (λ e. bytes_eq id (field_of header e Id)) before e) (h row i))

-- a row's content has no fault whatever its number
content_stays : (header : Record) (m n : ℕ) (row : Record) → content_fault header m row ≡ None →
    content_fault header n row ≡ None
content_stays header m n row e =
    let (form, told) = neither (form_fault header m row)
    (option_map (fault.BadBuffer m) (buffer_fault (row_buffer header row))) e in
    let all = all_none (form_faults header m row) form in
    let a = map_none (fault.BadNumber m) (bad_column header row) all.0 in
    let b = not_so (not (is_some (gaps_of (field_of header row Gaps)))) (fault.BadGap m) all.1.0 in
    let c = map_none (fault.BadBuffer m) (buffer_fault (row_buffer header row)) told in
    rw (a, b, c) refl

id_stays : (header : Record) (before fewer : List Record) (row : Record) → AreRowsOf fewer before →
    length fewer < buffer_limit → id_fault header before row ≡ None → id_fault header fewer row ≡ None
id_stays header before fewer row h room e =
    let all = all_none (id_faults header before row) e in
    let a = apart (length fewer) buffer_limit (λ q. omega arith) in
    let b = not_so (not (length row == length header)) (fault.FieldCount (length before)) all.1.0 in
    let c = not_so (length (field_of header row Id) == 0) (fault.EmptyId (length before)) all.1.1.0 in
    let d = not_so _ (fault.IdTooLong (length before)) all.1.1.1.0 in
    let f = still_new (field_of header row Id) header before fewer h
    (map_none (fault.DuplicateId (length before)) _ all.1.1.1.1.0) in
    rw (a, b, c, d, f) refl

not_the_limit : (header : Record) (before : List Record) (row : Record) → id_fault header before row ≡ None →
    length before ≢ buffer_limit
not_the_limit header before row e =
    differ (length before) buffer_limit
    (not_so (length before == buffer_limit) fault.TooManyBuffers (all_none (id_faults header before row) e).0)

-- ---- rows that are left out
-- the first list is the second with some rows left out
abbrev pub IsThinned : List Record → List Record → Type 0
IsThinned [] rows = Unit {0}
IsThinned (x ∷ xs) [] = ⊥
IsThinned (x ∷ xs) (y ∷ ys) = ((x ≡ y) × IsThinned xs ys) ⊎ IsThinned (x ∷ xs) ys

rows_stay : (header : Record) (rows before some fewer : List Record) → rows_fault header before rows ≡ None →
    IsThinned some rows → AreRowsOf fewer before → length fewer ≤ length before → length before ≤ buffer_limit →
    rows_fault header fewer some ≡ None
rows_stay header rows before [] fewer e t h le lim = refl
rows_stay header [] before (x ∷ xs) fewer e t h le lim = absurd t
rows_stay header (y ∷ ys) before (x ∷ xs) fewer e (inl t) h le lim =
    let here = neither (row_fault header before y) (rows_fault header (before ++ y ∷ []) ys) e in
    let both = row_parts header before y here.0 in
    let ne = not_the_limit header before y both.0 in
    let i : id_fault header fewer x ≡ None = subst (λ (r : Record). id_fault header fewer r ≡ None) (sym t.0)
    (id_stays header before fewer y h (omega arith) both.0) in
    let c : content_fault header (length fewer) x ≡ None =
    subst (λ (r : Record). content_fault header (length fewer) r ≡ None) (sym t.0)
    (content_stays header (length before) (length fewer) y both.1) in
    let rest = rows_stay header ys (before ++ y ∷ []) xs (fewer ++ x ∷ []) here.1 t.1 (more t.0)
    (longer (length_last before y) (length_last fewer x)) (within (length_last before y) ne) in
    rw (row-content header fewer x None i c) rest
  where
    length_last : (zs : List Record) (z : Record) → length (zs ++ z ∷ []) ≡ length zs + 1
    length_last [] z = omega arith
    length_last (w ∷ ws) z = let k = length_last ws z in omega arith

    longer : length (before ++ y ∷ []) ≡ length before + 1 → length (fewer ++ x ∷ []) ≡ length fewer + 1 →
        length (fewer ++ x ∷ []) ≤ length (before ++ y ∷ [])
    longer a b = omega arith

    within : length (before ++ y ∷ []) ≡ length before + 1 → length before ≢ buffer_limit →
        length (before ++ y ∷ []) ≤ buffer_limit
    within a ne = grind arith

    more : x ≡ y → AreRowsOf (fewer ++ x ∷ []) (before ++ y ∷ [])
    more q row i = elim (from_append fewer (x ∷ []) row i) [
      | inl j ↦ left_append before (y ∷ []) row (h row j)
      | inr j ↦ right_append before (y ∷ []) row (elim j [ inl k ↦ inl (k ∙ q) | inr z ↦ absurd z ])
    ]
rows_stay header (y ∷ ys) before (x ∷ xs) fewer e (inr t) h le lim =
    let here = neither (row_fault header before y) (rows_fault header (before ++ y ∷ []) ys) e in
    let both = row_parts header before y here.0 in
    let ne = not_the_limit header before y both.0 in
    rows_stay header ys (before ++ y ∷ []) (x ∷ xs) fewer here.1 t
    (λ row i. left_append before (y ∷ []) row (h row i))
    (longer (length_last before y)) (within (length_last before y) ne)
  where
    length_last : (zs : List Record) (z : Record) → length (zs ++ z ∷ []) ≡ length zs + 1
    length_last [] z = omega arith
    length_last (w ∷ ws) z = let k = length_last ws z in omega arith

    longer : length (before ++ y ∷ []) ≡ length before + 1 → length fewer ≤ length (before ++ y ∷ [])
    longer a = omega arith

    within : length (before ++ y ∷ []) ≡ length before + 1 → length before ≢ buffer_limit →
        length (before ++ y ∷ []) ≤ buffer_limit
    within a ne = grind arith

-- ---- the rows of some numbers
same_each : {Y : Type 0} (f g : ℕ → Y) (ks : List ℕ) → ((k : ℕ) → IsIn k ks → f k ≡ g k) → map f ks ≡ map g ks
same_each f g [] h = refl
same_each f g (k ∷ ks) h = rw (h k (inl refl)) (ap (λ ys. g k ∷ ys) (same_each f g ks (λ j i. h j (inr i))))

thinned : (rows : List Record) (a : ℕ) (ks : List ℕ) → Rises ks →
    ((k : ℕ) → IsIn k ks → (a ≤ k) × (k < a + length rows)) →
    IsThinned (map (λ k. slice_index_or rows (k - a) []) ks) rows
thinned rows a [] r h = tt
thinned [] a (k ∷ ks) r h = absurd (let q = h k (inl refl) in omega (arith, q.0, q.1))
thinned (y ∷ ys) a (k ∷ ks) r h = go (cases a k (h k (inl refl)).0)
    (λ e. thinned ys (a + 1) ks r.1 (λ j i. later e j i))
    (λ lt. thinned ys (a + 1) (k ∷ ks) r (λ j i. all_later lt j i))
  where
    cases : (a k : ℕ) → a ≤ k → (k ≡ a) ⊎ (a + 1 ≤ k)
    cases a k le = grind arith

    later : k ≡ a → (j : ℕ) → IsIn j ks → (a + 1 ≤ j) × (j < a + 1 + length ys)
    later e j i = let q = h j (inr i) in let p = r.0 j i in (omega arith, (let z = q.1 in omega arith))

    all_later : a + 1 ≤ k → (j : ℕ) → IsIn j (k ∷ ks) → (a + 1 ≤ j) × (j < a + 1 + length ys)
    all_later lt j (inl e) = let q = h j (inl e) in (omega arith, (let z = q.1 in omega arith))
    all_later lt j (inr i) = let q = h j (inr i) in let p = r.0 j i in (omega arith, (let z = q.1 in omega arith))

    shift : (j : ℕ) → a + 1 ≤ j → slice_index_or ys (j - (a + 1)) [] ≡ slice_index_or (y ∷ ys) (j - a) []
    shift j le = let e : j - a ≡ suc (j - (a + 1)) = omega arith in rw e refl

    first : k ≡ a → slice_index_or (y ∷ ys) (k - a) [] ≡ y
    first q = let e : k - a ≡ 0 = omega arith in rw e refl

    go : (k ≡ a) ⊎ (a + 1 ≤ k) →
        (k ≡ a → IsThinned (map (λ k. slice_index_or ys (k - (a + 1)) []) ks) ys) →
        (a + 1 ≤ k → IsThinned (map (λ k. slice_index_or ys (k - (a + 1)) []) (k ∷ ks)) ys) →
        IsThinned (map (λ k. slice_index_or (y ∷ ys) (k - a) []) (k ∷ ks)) (y ∷ ys)
    go (inl e) here skip = inl (
      first e,
      subst (λ (xs : List Record). IsThinned xs ys)
          (same_each (λ k. slice_index_or ys (k - (a + 1)) []) (λ k. slice_index_or (y ∷ ys) (k - a) []) ks
          (λ j i. shift j (later e j i).0))
          (here e),
    )
    go (inr lt) here skip = inr (subst (λ (xs : List Record). IsThinned xs ys)
        (same_each (λ k. slice_index_or ys (k - (a + 1)) []) (λ k. slice_index_or (y ∷ ys) (k - a) []) (k ∷ ks)
        (λ j i. shift j (all_later lt j i).0))
        (skip lt))

at_row : (f : Record → Buffer) (rows : List Record) (k : ℕ) → k < length rows →
    buffer (map f rows) k ≡ f (slice_index_or rows k [])
unfolding buffer
at_row f rows k lt = get_or-map f rows k [] no_buffer lt

map-map_some : (header : Record) (rows : List Record) (members : List ℕ) →
    ((b : ℕ) → IsIn b members → b < length rows) →
    map (row_buffer header) (rows_at rows members) ≡ some_of (map (row_buffer header) rows) members
map-map_some header rows [] h = refl
map-map_some header rows (k ∷ ks) h =
    rw (one k (h k (inl refl))) (ap (λ (bs : List Buffer). buffer (map (row_buffer header) rows) k ∷ bs)
    (map-map_some header rows ks (λ j i. h j (inr i))))
  where
    one : (k : ℕ) → k < length rows →
        row_buffer header (slice_index_or rows k []) ≡ buffer (map (row_buffer header) rows) k
    one k lt = sym (at_row (row_buffer header) rows k lt)

pub some_parse : (header : Record) (rows : List Record) (I : List Buffer) (members : List ℕ) →
    parse (header ∷ rows) ≡ Ok I → Rises members → ((b : ℕ) → IsIn b members → b < length I) →
    parse (header ∷ rows_at rows members) ≡ Ok (some_of I members)
some_parse header rows I members e r h =
    let both = faultless header rows I e in
    let is : map (row_buffer header) rows ≡ I = answered _ (map (row_buffer header) rows) I e in
    let within : (b : ℕ) → IsIn b members → b < length rows = (λ b i. let k = h b i in
    let n = length-map rows (row_buffer header) in let m = ap length is in omega arith) in
    let thin : IsThinned (rows_at rows members) rows = subst (λ (xs : List Record). IsThinned xs rows)
    (same_each (λ k. slice_index_or rows (k - 0) []) (λ k. slice_index_or rows k []) members (λ k i. minus k))
    (thinned rows 0 members r (λ k i. (omega arith, (let w = within k i in omega arith)))) in
    parse-good header (rows_at rows members) both.0
    (rows_stay header rows [] (rows_at rows members) [] both.1 thin (λ row i. absurd i) (omega arith) (omega arith))
    ∙ ap Ok (map-map_some header rows members within ∙ ap (λ (J : List Buffer). some_of J members) is)
  where
    minus : (k : ℕ) → slice_index_or rows (k - 0) [] ≡ slice_index_or rows k []
    minus k = let e : k - 0 ≡ k = omega arith in rw e refl
