-- Rows as a text of either version spells them: no text is the beginning of another one, up to what may follow.
use Rattle.std.proofs.Common.{◌≡◌, ℕ, ◌⊎◌, inl, inr, true, false, List, [], ◌∷◌, ◌++◌, codes, refl, sym, ap, ◌∙◌, arith, append_assoc}
use Rattle.std.specs.List.{flat_map}
use Rattle.dsa_terms.specs.Claims.{Claim}
use Rattle.log_text.specs.Changes.{Change, Drops, Puts}
use Rattle.log_text.specs.Edits.{EndsSpelling, changes_text}
use Rattle.log_text.specs.Digits.{Stops, is_digit}
use Rattle.log_text.specs.Numerals.{numeral}
use Rattle.log_text.specs.RawTexts.{cite_text, pair_text, spaced}
use Rattle.log_text.specs.Says.{EndRow, LineRow, Row, row_text}
use Rattle.log_text.specs.Spellings.{CasesAs, From, Full, OverAs, Spelled, Spelling, change_text, spelled_text, spelling_text}
use Rattle.log_text.specs.declared.raw.RawCite.{RawCite}
use Rattle.log_text.proofs.PrefixFree.{cut, ends_stop, head_of, number_split, pairs_are_items, spaced_split, tail_of}
use Rattle.log_text.proofs.Unique.{cites_are_items, end_form, newline_ends}

-- ---- changes
pub change_begins : (c : Change) → (d : ℕ) × (ds : List ℕ) × (change_text c ≡ d ∷ ds) × ((is_digit d ≡ true) ⊎ (d ≡ 45))
change_begins (Puts e) = let t = pairs_are_items.begins e in (t.0, t.1, t.2, inl t.3)
change_begins (Drops b) = (45, numeral b, refl, inr refl)

pub digit_clash : (c d : ℕ) → is_digit c ≡ true → is_digit d ≡ false → c ≡ d → ⊥
digit_clash c d p q e = let n : is_digit c ≡ is_digit d = ap is_digit e in cc

pub change_split : (x y : Change) (r s : List ℕ) → Stops r → Stops s → change_text x ++ r ≡ change_text y ++ s →
    (x ≡ y) × (r ≡ s)
change_split (Puts e) (Puts f) r s p q h = let t = pairs_are_items.splits e f r s p q h in (ap Puts t.0, t.1)
change_split (Puts e) (Drops b) r s p q h = absurd (let t = pairs_are_items.begins e in
    digit_clash t.0 45 t.3 refl (head_of _ _ _ _ (sym (ap (λ u. u ++ r) t.2) ∙ h)))
change_split (Drops b) (Puts f) r s p q h = absurd (let t = pairs_are_items.begins f in
    digit_clash t.0 45 t.3 refl (head_of _ _ _ _ (sym (ap (λ u. u ++ s) t.2) ∙ sym h)))
change_split (Drops a) (Drops b) r s p q h = let t = number_split a b r s p q (tail_of 45 45 _ _ h) in
    (ap Drops t.0, t.1)

pub newline_ends_spelling : (r : List ℕ) → EndsSpelling (10 ∷ r)
newline_ends_spelling r = record {
  ends = newline_ends r;
  no_change = λ c more e. let n : 10 ≡ 32 = head_of _ _ _ _ e in omega arith;
  no_base = λ cs e. let n : 10 ≡ 64 = head_of _ _ _ _ e in omega arith;
}

pub colon_ends_spelling : (r : List ℕ) → EndsSpelling (codes " : " ++ r)
colon_ends_spelling r = record {
  ends = (refl, λ e. refl);
  no_change = λ c more e. go c more (change_begins c) (tail_of 32 32 _ _ e);
  no_base = λ cs e. let n : 32 ≡ 64 = head_of _ _ _ _ e in omega arith;
}
  where
    go : (c : Change) (more : List ℕ) →
        (d : ℕ) × (ds : List ℕ) × (change_text c ≡ d ∷ ds) × ((is_digit d ≡ true) ⊎ (d ≡ 45)) →
        58 ∷ 32 ∷ r ≡ change_text c ++ more → ⊥
    go c more (d, ds, t, inl q) e = digit_clash d 58 q refl (sym (head_of 58 d _ _ (e ∙ ap (λ u. u ++ more) t)))
    go c more (d, ds, t, inr q) e = let n : 58 ≡ d = head_of 58 d _ _ (e ∙ ap (λ u. u ++ more) t) in omega arith

pub changes_stop : (cs : List Change) (r : List ℕ) → Stops r → Stops (changes_text cs ++ r)
changes_stop [] r h = h
changes_stop (c ∷ cs) r h = refl

pub changes_split : (xs ys : List Change) (r s : List ℕ) → EndsSpelling r → EndsSpelling s →
    changes_text xs ++ r ≡ changes_text ys ++ s → (xs ≡ ys) × (r ≡ s)
changes_split [] [] r s p q e = (refl, e)
changes_split [] (y ∷ ys) r s p q e = absurd (p.no_change y _
    (e ∙ ap (λ u. 32 ∷ u) (append_assoc (change_text y) (changes_text ys) s)))
changes_split (x ∷ xs) [] r s p q e = absurd (q.no_change x _
    (sym e ∙ ap (λ u. 32 ∷ u) (append_assoc (change_text x) (changes_text xs) r)))
changes_split (x ∷ xs) (y ∷ ys) r s p q e =
    let g = sym (append_assoc (change_text x) (changes_text xs) r)
    ∙ (tail_of 32 32 _ _ e ∙ append_assoc (change_text y) (changes_text ys) s) in
    let one = change_split x y _ _ (changes_stop xs r (ends_stop r p.ends))
    (changes_stop ys s (ends_stop s q.ends)) g in
    let two = changes_split xs ys r s p q one.1 in
    (longer one.0 two.0, two.1)
  where
    longer : {x y : Change} {xs ys : List Change} → x ≡ y → xs ≡ ys → x ∷ xs ≡ y ∷ ys
    longer h k = cc

-- ---- claims
-- a claim in full has no base
pub full_no_base : (l : Claim) (r : List ℕ) → EndsSpelling r → (cs : List ℕ) → spaced pair_text l ++ r ≡ 64 ∷ cs → ⊥
full_no_base [] r p cs e = p.no_base cs e
full_no_base (x ∷ l) r p cs e = let t = pairs_are_items.begins x in
    digit_clash t.0 64 t.3 refl (head_of t.0 64 _ cs
    (sym (ap (λ u. (u ++ flat_map (λ y. 32 ∷ pair_text y) l) ++ r) t.2) ∙ e))

-- a claim is told from what follows it, and a difference from a claim in full
pub spelling_split : (x y : Spelling) (r s : List ℕ) → EndsSpelling r → EndsSpelling s →
    spelling_text x ++ r ≡ spelling_text y ++ s → (x ≡ y) × (r ≡ s)
spelling_split (Full k) (Full l) r s p q e =
    let t = spaced_split pair_text pairs_are_items k l r s p.ends q.ends e in (ap Full t.0, t.1)
spelling_split (Full k) (From b cs) r s p q e = absurd (full_no_base k r p _ e)
spelling_split (From a cs) (Full l) r s p q e = absurd (full_no_base l s q _ (sym e))
spelling_split (From a x) (From b y) r s p q e =
    let f = sym (append_assoc (numeral a) (changes_text x) r)
    ∙ (tail_of 64 64 _ _ e ∙ append_assoc (numeral b) (changes_text y) s) in
    let one = number_split a b _ _ (changes_stop x r (ends_stop r p.ends)) (changes_stop y s (ends_stop s q.ends)) f in
    let two = changes_split x y r s p q one.1 in
    (same one.0 two.0, two.1)
  where
    same : {a b : ℕ} {x y : List Change} → a ≡ b → x ≡ y → From a x ≡ From b y
    same h k = cc

-- ---- lines
pub over_form : (T H G : ℕ) (x : Spelling) (r : List ℕ) → spelled_text (OverAs T H G x) ++ r ≡
    codes "over " ++ (numeral T ++ (codes " " ++ (numeral H ++
    (codes " " ++ (numeral G ++ (codes " : " ++ (spelling_text x ++ (codes "\n" ++ r))))))))
over_form T H G x r = regroup (codes "over ") (numeral T) (codes " ") (numeral H) (codes " ") (numeral G) (codes " : ")
    (spelling_text x) (codes "\n") r
  where
    regroup : (a b c d e f g h i r : List ℕ) → (a ++ b ++ c ++ d ++ e ++ f ++ g ++ h ++ i) ++ r ≡
        a ++ (b ++ (c ++ (d ++ (e ++ (f ++ (g ++ (h ++ (i ++ r))))))))
    regroup a b c d e f g h i r = simp append_assoc

pub cases_form : (x : Spelling) (cites : List (ℕ × RawCite)) (r : List ℕ) → spelled_text (CasesAs x cites) ++ r ≡
    codes "case : " ++ (spelling_text x ++ (codes " : " ++ (spaced cite_text cites ++ (codes "\n" ++ r))))
cases_form x cites r = regroup (codes "case : ") (spelling_text x) (codes " : ") (spaced cite_text cites) (codes "\n") r
  where
    regroup : (a b c d e r : List ℕ) → (a ++ b ++ c ++ d ++ e) ++ r ≡ a ++ (b ++ (c ++ (d ++ (e ++ r))))
    regroup a b c d e r = simp append_assoc

over_split : (x y : Spelling) (T U H J G K : ℕ) (r s : List ℕ) →
    spelled_text (OverAs T H G x) ++ r ≡ spelled_text (OverAs U J K y) ++ s →
    (OverAs T H G x ≡ OverAs U J K y) × (r ≡ s)
over_split x y T U H J G K r s e =
    let f = cut (codes "over ") _ _ (sym (over_form T H G x r) ∙ (e ∙ over_form U J K y s)) in
    let one = number_split T U _ _ refl refl f in
    let two = number_split H J _ _ refl refl (cut (codes " ") _ _ one.1) in
    let three = number_split G K _ _ refl refl (cut (codes " ") _ _ two.1) in
    let four = spelling_split x y (codes "\n" ++ r) (codes "\n" ++ s) (newline_ends_spelling r)
    (newline_ends_spelling s) (cut (codes " : ") _ _ three.1) in
    (same one.0 two.0 three.0 four.0, cut (codes "\n") r s four.1)
  where
    same : {x y : Spelling} {T U H J G K : ℕ} → T ≡ U → H ≡ J → G ≡ K → x ≡ y → OverAs T H G x ≡ OverAs U J K y
    same p q u v = cc

cases_split : (x y : Spelling) (c d : List (ℕ × RawCite)) (r s : List ℕ) →
    spelled_text (CasesAs x c) ++ r ≡ spelled_text (CasesAs y d) ++ s → (CasesAs x c ≡ CasesAs y d) × (r ≡ s)
cases_split x y c d r s e =
    let f = cut (codes "case : ") _ _ (sym (cases_form x c r) ∙ (e ∙ cases_form y d s)) in
    let one = spelling_split x y _ _ (colon_ends_spelling (spaced cite_text c ++ (codes "\n" ++ r)))
    (colon_ends_spelling (spaced cite_text d ++ (codes "\n" ++ s))) f in
    let two = spaced_split cite_text cites_are_items c d (codes "\n" ++ r) (codes "\n" ++ s) (newline_ends r)
    (newline_ends s) (cut (codes " : ") _ _ one.1) in
    (same one.0 two.0, cut (codes "\n") r s two.1)
  where
    same : {x y : Spelling} {c d : List (ℕ × RawCite)} → x ≡ y → c ≡ d → CasesAs x c ≡ CasesAs y d
    same p q = cc

-- a line is told from what follows it
pub line_split : (x y : Spelled) (r s : List ℕ) → spelled_text x ++ r ≡ spelled_text y ++ s → (x ≡ y) × (r ≡ s)
line_split (OverAs T H G x) (OverAs U J K y) r s e = over_split x y T U H J G K r s e
line_split (OverAs T H G x) (CasesAs y d) r s e =
    absurd (let n : 111 ≡ 99 = head_of _ _ _ _ (sym (over_form T H G x r) ∙ (e ∙ cases_form y d s)) in omega arith)
line_split (CasesAs x c) (OverAs U J K y) r s e =
    absurd (let n : 99 ≡ 111 = head_of _ _ _ _ (sym (cases_form x c r) ∙ (e ∙ over_form U J K y s)) in omega arith)
line_split (CasesAs x c) (CasesAs y d) r s e = cases_split x y c d r s e

-- a line begins otherwise than an end
pub line_begins : (x : Spelled) (r : List ℕ) → (c : ℕ) × (cs : List ℕ) × (spelled_text x ++ r ≡ c ∷ cs) × (c ≡ 101 → ⊥)
line_begins (OverAs T H G x) r = (111, _, over_form T H G x r, λ e. omega arith)
line_begins (CasesAs x c) r = (99, _, cases_form x c r, λ e. omega arith)

pub no_end : (x : Spelled) (r s : List ℕ) → spelled_text x ++ r ≡ 101 ∷ s → ⊥
no_end x r s e = let t = line_begins x r in t.3 (head_of _ _ _ _ (sym t.2 ∙ e))

-- a row is told from what follows it
pub row_split : (x y : Row) (r s : List ℕ) → row_text x ++ r ≡ row_text y ++ s → (x ≡ y) × (r ≡ s)
row_split (LineRow x) (LineRow y) r s e = let t = line_split x y r s e in (ap LineRow t.0, t.1)
row_split (LineRow x) (EndRow j) r s e = absurd (no_end x r _ (e ∙ end_form j s))
row_split (EndRow k) (LineRow y) r s e = absurd (no_end y s _ (sym e ∙ end_form k r))
row_split (EndRow k) (EndRow j) r s e =
    let one = number_split k j _ _ refl refl (cut (codes "end ") _ _ (sym (end_form k r) ∙ (e ∙ end_form j s))) in
    (ap EndRow one.0, cut (codes "\n") r s one.1)

-- bytes that begin with a row are not at an end
pub not_empty : (row : Row) (more : List ℕ) → row_text row ++ more ≡ [] → ⊥
not_empty (LineRow line) more e = let t = line_begins line more in let q : t.0 ∷ t.1 ≡ [] = sym t.2 ∙ e in cc
not_empty (EndRow k) more e = let q = sym (end_form k more) ∙ e in cc

-- lines and an end
pub lines_split : (xs ys : List Spelled) (u v : List ℕ) →
    flat_map spelled_text xs ++ (101 ∷ u) ≡ flat_map spelled_text ys ++ (101 ∷ v) → (xs ≡ ys) × (u ≡ v)
lines_split [] [] u v e = (refl, tail_of 101 101 u v e)
lines_split [] (y ∷ ys) u v e = absurd (no_end y _ u (sym
    (e ∙ append_assoc (spelled_text y) (flat_map spelled_text ys) (101 ∷ v))))
lines_split (x ∷ xs) [] u v e = absurd (no_end x _ v (sym
    (append_assoc (spelled_text x) (flat_map spelled_text xs) (101 ∷ u)) ∙ e))
lines_split (x ∷ xs) (y ∷ ys) u v e =
    let g = sym (append_assoc (spelled_text x) (flat_map spelled_text xs) (101 ∷ u))
    ∙ (e ∙ append_assoc (spelled_text y) (flat_map spelled_text ys) (101 ∷ v)) in
    let one = line_split x y _ _ g in
    let two = lines_split xs ys u v one.1 in
    (longer one.0 two.0, two.1)
  where
    longer : {x y : Spelled} {xs ys : List Spelled} → x ≡ y → xs ≡ ys → x ∷ xs ≡ y ∷ ys
    longer h k = cc
