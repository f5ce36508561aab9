-- A log is known by its numbers, where each Cases line has as many cites as buffers.
use Rattle.std.proofs.Common.{◌≡◌, ℕ, suc, List, [], ◌∷◌, ◌++◌, codes, map, length, refl, sym, ap, ◌∙◌, arith, append_assoc, All}
use Rattle.std.proofs.lemmas.List.Elements.{All-head, All-tail}
use Rattle.std.specs.List.{flat_map, zip}
use Rattle.dsa_terms.specs.Claims.{Entry, buffers_of}
use Rattle.dsa_terms.specs.Logs.{Line, Over, Cases, Cite, ByLine, Below, Twin, Log}
use Rattle.refute_log.specs.Lines.{HasCites}
use Rattle.log_text.specs.Numerals.{numeral}
use Rattle.log_text.specs.RawTexts.{header_text, line_text, raw_text}
use Rattle.log_text.specs.Text.{log_text, raw_cite_of, raw_line_of, raw_log_of}
use Rattle.log_text.specs.declared.raw.RawCite.{RawCite}
use Rattle.log_text.specs.declared.raw.RawLine.TheVariants as raw_line
use Rattle.log_text.specs.declared.raw.RawLog.{RawLog}
use Rattle.log_text.proofs.FirstFaults.{same_log as same_raw}
use Rattle.log_text.proofs.PrefixFree.{cut, head_of, number_split, tail_of}
use Rattle.log_text.proofs.Saying.{full_lines_split}
use Rattle.log_text.proofs.Unique.{header_split}

same_cite : (x y : Cite) → raw_cite_of x ≡ raw_cite_of y → x ≡ y
same_cite (ByLine j) (ByLine k) e = let q : j ≡ k = cc in ap ByLine q
same_cite (ByLine j) (Below k) e = absurd cc
same_cite (ByLine j) (Twin k) e = absurd cc
same_cite (Below j) (ByLine k) e = absurd cc
same_cite (Below j) (Below k) e = let q : j ≡ k = cc in ap Below q
same_cite (Below j) (Twin k) e = absurd cc
same_cite (Twin j) (ByLine k) e = absurd cc
same_cite (Twin j) (Below k) e = absurd cc
same_cite (Twin j) (Twin k) e = let q : j ≡ k = cc in ap Twin q

zip_cancel : (bs : List ℕ) (x y : List Cite) → length bs ≡ length x → length bs ≡ length y →
    zip bs (map raw_cite_of x) ≡ zip bs (map raw_cite_of y) → x ≡ y
zip_cancel [] [] [] h k e = refl
zip_cancel [] [] (c ∷ cs) h k e = absurd (omega arith)
zip_cancel [] (c ∷ cs) y h k e = absurd (omega arith)
zip_cancel (b ∷ bs) [] y h k e = absurd (omega arith)
zip_cancel (b ∷ bs) (c ∷ cs) [] h k e = absurd (omega arith)
zip_cancel (b ∷ bs) (c ∷ cs) (d ∷ ds) h k e =
    longer (same_cite c d (ap (λ (p : ℕ × RawCite). p.1) (head_of _ _ _ _ e)))
    (zip_cancel bs cs ds (omega arith) (omega arith) (tail_of _ _ _ _ e))
  where
    longer : {c d : Cite} {cs ds : List Cite} → c ≡ d → cs ≡ ds → c ∷ cs ≡ d ∷ ds
    longer p q = cc

same_line : (x y : Line) → HasCites x → HasCites y → raw_line_of x ≡ raw_line_of y → x ≡ y
same_line (Over k T H G) (Over l U J K) a b e = cc
same_line (Over k T H G) (Cases l y) a b e = absurd cc
same_line (Cases k x) (Over l U J K) a b e = absurd cc
same_line (Cases k x) (Cases l y) a b e = go (claims e) (cites e)
  where
    claims : {k l : List Entry} {x y : List (ℕ × RawCite)} → raw_line.Cases k x ≡ raw_line.Cases l y → k ≡ l
    claims e = cc

    cites : {k l : List Entry} {x y : List (ℕ × RawCite)} → raw_line.Cases k x ≡ raw_line.Cases l y → x ≡ y
    cites e = cc

    length-buffers : (l : List Entry) → length (buffers_of l) ≡ length l
    length-buffers [] = refl
    length-buffers (e ∷ es) = ap suc (length-buffers es)

    cites_same : (k l : List Entry) (x y : List Cite) → length k ≡ length x → length l ≡ length y → k ≡ l →
        zip (buffers_of k) (map raw_cite_of x) ≡ zip (buffers_of l) (map raw_cite_of y) → x ≡ y
    cites_same k l x y a b p q = zip_cancel (buffers_of l) x y (length-buffers l ∙ (ap length (sym p) ∙ a))
        (length-buffers l ∙ b) (ap (λ (m : List Entry). zip (buffers_of m) (map raw_cite_of x)) (sym p) ∙ q)

    go : k ≡ l → zip (buffers_of k) (map raw_cite_of x) ≡ zip (buffers_of l) (map raw_cite_of y) → Cases k x ≡ Cases l y
    go p q = let r = cites_same k l x y a b p q in cc

same_lines : (xs ys : List Line) → All HasCites xs → All HasCites ys → map raw_line_of xs ≡ map raw_line_of ys → xs ≡ ys
same_lines [] [] a b e = refl
same_lines [] (y ∷ ys) a b e = absurd cc
same_lines (x ∷ xs) [] a b e = absurd cc
same_lines (x ∷ xs) (y ∷ ys) a b e =
    longer (same_line x y (All-head HasCites x xs a) (All-head HasCites y ys b) (head_of _ _ _ _ e))
    (same_lines xs ys (All-tail HasCites x xs a) (All-tail HasCites y ys b) (tail_of _ _ _ _ e))
  where
    longer : {x y : Line} {xs ys : List Line} → x ≡ y → xs ≡ ys → x ∷ xs ≡ y ∷ ys
    longer p q = cc

same_log : (g h : Log) → g.count ≡ h.count → g.capacity ≡ h.capacity → g.lines ≡ h.lines → g.final ≡ h.final → g ≡ h
same_log g h p q u v = λ i. record { count = p i; capacity = q i; lines = u i; final = v i }

log_form : (log : RawLog) (r : List ℕ) → raw_text log ++ r ≡
    header_text 1 log.count log.capacity ++ (flat_map line_text log.lines ++
    (codes "end " ++ (numeral log.end ++ (codes "\n" ++ r))))
log_form log r = regroup (header_text 1 log.count log.capacity) (flat_map line_text log.lines) (codes "end ")
    (numeral log.end) (codes "\n") r
  where
    regroup : (a b c d e r : List ℕ) → (a ++ b ++ (c ++ d ++ e)) ++ r ≡ a ++ (b ++ (c ++ (d ++ (e ++ r))))
    regroup a b c d e r = simp append_assoc

-- no text of a log that is given by its numbers is the beginning of another log's
pub log_split : (g h : RawLog) (r s : List ℕ) → raw_text g ++ r ≡ raw_text h ++ s → (g ≡ h) × (r ≡ s)
log_split g h r s e =
    let one = header_split 1 1 g.count h.count g.capacity h.capacity _ _ (sym (log_form g r) ∙ (e ∙ log_form h s)) in
    let two = full_lines_split g.lines h.lines _ _ one.3 in
    let three = number_split g.end h.end _ _ refl refl (cut (110 ∷ 100 ∷ 32 ∷ []) _ _ two.1) in
    (same_raw g h one.1 one.2 two.0 three.0, cut (codes "\n") r s three.1)

-- no text of a log is the beginning of another log's
pub text_split : (g h : Log) (r s : List ℕ) → All HasCites g.lines → All HasCites h.lines →
    log_text g ++ r ≡ log_text h ++ s → (g ≡ h) × (r ≡ s)
text_split g h r s a b e =
    let t = log_split (raw_log_of g) (raw_log_of h) r s e in (
      same_log g h (ap (λ x. x.count) t.0) (ap (λ x. x.capacity) t.0)
          (same_lines g.lines h.lines a b (ap (λ x. x.lines) t.0)) (ap (λ x. x.end) t.0),
      t.1,
    )
