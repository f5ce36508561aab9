-- What is known of a log that bytes say: each of its Cases lines has a cite, it has no more lines than bytes, and its
-- text of version 2 says it too.
use Rattle.std.proofs.Common.{◌≡◌, ◌≤◌, ◌+◌, ◌^◌, ℕ, List, [], ◌∷◌, ◌++◌, length, All, sym, ap, subst, inr, arith}
use Rattle.std.specs.List.{flat_map}
use Rattle.std.proofs.lemmas.List.{length-append}
use Rattle.std.proofs.lemmas.List.Elements.{All-nil}
use Rattle.log_text.specs.RawLogs.{IsRawLineKept}
use Rattle.log_text.specs.RawTexts.{HasCite, end_text, header_text}
use Rattle.log_text.specs.Says.{Says, SaysBy}
use Rattle.log_text.specs.Spellings.{CasesAs, OverAs, Spelled, line_said, lines_said, raw_text2, spelled_text}
use Rattle.log_text.specs.declared.raw.RawLine.{RawLine}
use Rattle.log_text.specs.declared.raw.RawLog.{RawLog}
use Rattle.log_text.proofs.Saying.{by_version, lines_kept, says_kept, text2_says}

said_count : (earlier : List RawLine) (ss : List Spelled) → length (lines_said earlier ss) ≡ length earlier + length ss
said_count earlier [] = omega arith
said_count earlier (s ∷ ss) =
    let more = said_count (earlier ++ line_said earlier s ∷ []) ss in
    let one = length-append earlier (line_said earlier s ∷ []) in
    omega (arith, more, one)

some_byte : (s : Spelled) → 1 ≤ length (spelled_text s)
some_byte (OverAs T H G s) = omega arith
some_byte (CasesAs s cites) = omega arith

many_bytes : (ss : List Spelled) → length ss ≤ length (flat_map spelled_text ss)
many_bytes [] = omega arith
many_bytes (s ∷ ss) =
    let one = some_byte s in
    let rest = many_bytes ss in
    let both = length-append (spelled_text s) (flat_map spelled_text ss) in
    omega (arith, one, rest, both)

-- what stands between is no longer than the whole
within : (front mid back bytes : List ℕ) → bytes ≡ (front ++ mid) ++ back → length mid ≤ length bytes
within front mid back bytes is =
    let whole = ap (λ (bs : List ℕ). length bs) is in
    let one = length-append (front ++ mid) back in
    let two = length-append front mid in
    omega (arith, whole, one, two)

said_short : (v : ℕ) (bytes : List ℕ) (raw : RawLog) → SaysBy v bytes raw → length raw.lines ≤ length bytes
said_short v bytes raw t =
    let lines = ap (λ (ls : List RawLine). length ls) t.lines in
    let count = said_count [] t.spelled in
    let many = many_bytes t.spelled in
    let inside = within (header_text v raw.count raw.capacity) (flat_map spelled_text t.spelled) (end_text raw.end)
    bytes t.text in
    omega (arith, lines, count, many, inside)

pub says_short : (bytes : List ℕ) (raw : RawLog) → Says bytes raw → length raw.lines ≤ length bytes
says_short bytes raw says = let t = by_version bytes raw says in said_short t.0 bytes raw t.2

pub says_cited : (bytes : List ℕ) (raw : RawLog) → Says bytes raw → All HasCite raw.lines
says_cited bytes raw says =
    let t = by_version bytes raw says in
    subst (λ (ls : List RawLine). All HasCite ls) (sym t.2.lines)
    (lines_kept t.0 [] t.2.spelled (All-nil IsRawLineKept) (All-nil HasCite) t.2.good).1

pub says_again : (bytes : List ℕ) (raw : RawLog) → Says bytes raw → length bytes ≤ 2 ^ 60 → Says (raw_text2 raw) raw
says_again bytes raw says short =
    let lines = says_short bytes raw says in
    inr (text2_says raw (says_kept bytes raw says) (says_cited bytes raw says) (omega (arith, lines, short)))
