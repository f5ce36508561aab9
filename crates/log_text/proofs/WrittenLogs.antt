-- What every closed log keeps makes its text one that is read back.
use Rattle.std.proofs.Common.{◌≡◌, ◌≢◌, ◌^◌, ℕ, ◌≤◌, inl, inr, List, [], ◌∷◌, map, length, refl, sym, ap, subst, arith, All}
use Rattle.std.proofs.lemmas.List.Elements.{All-cons, All-head, All-map, All-nil, All-tail, All-weaker}
use Rattle.std.specs.List.{zip}
use Rattle.dsa_terms.specs.Claims.{Entry, IsIn, Rises, buffers_of}
use Rattle.dsa_terms.specs.Logs.{Line, Over, Cases, Cite, ByLine, Below, Twin, Log}
use Rattle.canonical_order.specs.Claims.{IsBoundedBy}
use Rattle.refute_log.specs.Lines as lines
use Rattle.refute_log.specs.Logs.{IsKeptLog}
use Rattle.log_text.specs.RawLogs.{IsRawCiteWithin, IsRawLineKept, IsPairWithin}
use Rattle.log_text.specs.RawTexts.{HasCite, IsTextOf}
use Rattle.log_text.specs.Text.{log_text, raw_cite_of, raw_line_of, raw_log_of}
use Rattle.log_text.specs.declared.raw.RawCite.{RawCite}

pairs_within : (l : List Entry) → IsBoundedBy (2 ^ 60) l → ((e : Entry) → IsIn e l → e.0 ≤ 2 ^ 60) → All IsPairWithin l
pairs_within [] b n = All-nil IsPairWithin
pairs_within (e ∷ es) b n = All-cons IsPairWithin e es (n e (inl refl), b e (inl refl))
    (pairs_within es (λ f i. b f (inr i)) (λ f i. n f (inr i)))

cite_within : (b : ℕ) (c : Cite) → b ≤ 2 ^ 60 → lines.IsCiteWithin c → IsRawCiteWithin (b, raw_cite_of c)
cite_within b (ByLine k) h w = (h, w)
cite_within b (Below k) h w = (h, w)
cite_within b (Twin k) h w = (h, w)

cites_within : (l : List Entry) (cites : List Cite) → ((e : Entry) → IsIn e l → e.0 ≤ 2 ^ 60) →
    All lines.IsCiteWithin cites → All IsRawCiteWithin (zip (buffers_of l) (map raw_cite_of cites))
cites_within [] cites n w = All-nil IsRawCiteWithin
cites_within (e ∷ es) [] n w = All-nil IsRawCiteWithin
cites_within (e ∷ es) (c ∷ cs) n w =
    All-cons IsRawCiteWithin (e.0, raw_cite_of c) (zip (buffers_of es) (map raw_cite_of cs))
    (cite_within e.0 c (n e (inl refl)) (All-head lines.IsCiteWithin c cs w))
    (cites_within es cs (λ f i. n f (inr i)) (All-tail lines.IsCiteWithin c cs w))

-- the cites are of the claim's buffers
cited_buffers : (l : List Entry) (cites : List Cite) → length l ≡ length cites →
    map (λ (p : ℕ × RawCite). p.0) (zip (buffers_of l) (map raw_cite_of cites)) ≡ buffers_of l
cited_buffers [] cites h = refl
cited_buffers (e ∷ es) [] h = absurd (omega arith)
cited_buffers (e ∷ es) (c ∷ cs) h = ap (λ (bs : List ℕ). e.0 ∷ bs) (cited_buffers es cs (omega arith))

some_cite : (l : List Entry) (cites : List Cite) → l ≢ [] → length l ≡ length cites →
    zip (buffers_of l) (map raw_cite_of cites) ≢ []
some_cite [] cites n h = absurd (n refl)
some_cite (e ∷ es) [] n h = absurd (omega arith)
some_cite (e ∷ es) (c ∷ cs) n h = λ q. cc

line_kept : (line : Line) → lines.IsLineKept line → IsRawLineKept (raw_line_of line)
line_kept (Over l T H G) k = record {
  not_empty = k.not_empty;
  rising = k.rises;
  within =
      (k.within.1, k.within.2, k.within.3, pairs_within l k.within.0 k.buffers);
}
line_kept (Cases l cites) k = record {
  not_empty = k.not_empty;
  rising = (k.rises, subst Rises (sym (cited_buffers l cites k.cites)) k.rises);
  within = (pairs_within l k.within.0 k.buffers, cites_within l cites k.buffers k.within.1);
}

line_cited : (line : Line) → lines.IsLineKept line → HasCite (raw_line_of line)
line_cited (Over l T H G) k = tt
line_cited (Cases l cites) k = some_cite l cites k.not_empty k.cites

-- the text of a log that keeps what every log keeps is one of its numbers
pub text_is_read_back : (text : List ℕ) (log : Log) → text ≡ log_text log → log.count ≤ 2 ^ 60 →
    IsKeptLog log.capacity log.lines → log.final ≤ 2 ^ 60 → IsTextOf text (raw_log_of log)
text_is_read_back text log e n k f = record {
  kept = record {
    count_limit = n;
    capacity_limit = k.capacity_limit;
    end_limit = f;
    lines = All-map IsRawLineKept raw_line_of log.lines (All-weaker lines.IsLineKept
        (λ line. IsRawLineKept (raw_line_of line)) line_kept log.lines k.each);
  };
  cited = All-map HasCite raw_line_of log.lines (All-weaker lines.IsLineKept (λ line. HasCite (raw_line_of line))
      line_cited log.lines k.each);
  text = e;
}
