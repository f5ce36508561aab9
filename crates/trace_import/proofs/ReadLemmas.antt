-- Reading, line after line.
use Rattle.std.proofs.Common.{◌≡◌, ◌∙◌, ◌==◌, ◌+◌, ◌≤◌, ◌++◌, ◌∷◌, [], ℕ, ap, arith, Err, length, length-append, List, None, Ok, Option, refl, Some, sym}
use Rattle.std.specs.Option.{option_map_or}
use Rattle.dsa_model.specs.Fails.{IfFault}
use Rattle.dsa_model.specs.declared.fail.Fail.{Fail}
use Rattle.csv_instance.proofs.FailLemmas.{IfFault-map}
use Rattle.trace_import.specs.Faults.{event_fault, pieces_of, read_from, trace_of, with_event}
use Rattle.trace_import.specs.Found.{AreHolders, Entries}
use Rattle.trace_import.specs.Lines.{event_in}
use Rattle.trace_import.specs.Traces.{Event}
use Rattle.trace_import.specs.declared.fault.TraceFault.{TraceFault}
use Rattle.trace_import.proofs.FoundLemmas.{no_holders}
use Rattle.trace_import.proofs.Splits.{first_piece}

-- these lines are read, and the rest of the bytes is not
pub record IsReadUpTo (bytes rest : List ℕ) (lines : List Event) (found : Entries) : Type 0 where
  pub left : trace_of bytes ≡ read_from (Ok lines) (pieces_of rest)
  pub live : AreHolders found lines
  pub short : length lines + length rest ≤ length bytes

pub none_read : (bytes : List ℕ) (lines : List Event) (live : Entries) → lines ≡ [] → live ≡ [] →
    IsReadUpTo bytes bytes lines live
unfolding trace_of
none_read bytes lines live e l = rw (e, l) record {
  left = refl;
  live = no_holders;
  short = omega arith;
}

-- the first piece is read
next_line : (lines : List Event) (line : List ℕ) (pieces : List (List ℕ)) (first : List ℕ) (others : List (List ℕ)) →
    pieces ≡ first ∷ others →
    read_from (Ok lines) (line ∷ pieces) ≡ read_from (with_event lines (event_in line)) pieces
next_line lines line [] first others e = absurd cc
next_line lines line (piece ∷ pieces) first others e = refl

one_read : (rest line after : List ℕ) (lines : List Event) → pieces_of rest ≡ line ∷ pieces_of after →
    read_from (Ok lines) (pieces_of rest) ≡ read_from (with_event lines (event_in line)) (pieces_of after)
one_read rest line after lines e =
    let r = first_piece (λ c. c == 10) after in
    ap (read_from (Ok lines)) e ∙ next_line lines line (pieces_of after) r.0 r.1.0 r.1.1

pub more_read : (bytes rest line after : List ℕ) (lines more : List Event) (live now : Entries) →
    IsReadUpTo bytes rest lines live → pieces_of rest ≡ line ∷ pieces_of after →
    length rest ≡ length line + 1 + length after → with_event lines (event_in line) ≡ Ok more →
    length more ≡ length lines + 1 → AreHolders now more → IsReadUpTo bytes after more now
more_read bytes rest line after lines more live now h split shorter good count holders = record {
  left = h.left ∙ one_read rest line after lines split ∙ ap (λ r. read_from r (pieces_of after)) good;
  live = holders;
  short = let s = h.short in omega arith;
}

pub fault_read : (bytes rest line after : List ℕ) (lines : List Event) (live : Entries) (f : TraceFault) →
    IsReadUpTo bytes rest lines live → pieces_of rest ≡ line ∷ pieces_of after →
    with_event lines (event_in line) ≡ Err f → trace_of bytes ≡ Err f
fault_read bytes rest line after lines live f h split bad =
    h.left ∙ one_read rest line after lines split ∙ ap (λ r. read_from r (pieces_of after)) bad

-- the failure of a line is that of the bytes
pub failure_read : (bytes rest line after : List ℕ) (lines : List Event) (found : Entries) (failure : Fail TraceFault) →
    IsReadUpTo bytes rest lines found → pieces_of rest ≡ line ∷ pieces_of after →
    IfFault (λ f. with_event lines (event_in line) ≡ Err f) failure → IfFault (λ f. trace_of bytes ≡ Err f) failure
failure_read bytes rest line after lines found failure h split bad =
    IfFault-map (λ f. with_event lines (event_in line) ≡ Err f) (λ f. trace_of bytes ≡ Err f) failure
    (λ f b. fault_read bytes rest line after lines found f h split b) bad

-- a line more is one line more
pub longer : (lines : List Event) (o : Option Event) (more : List Event) → with_event lines o ≡ Ok more →
    length more ≡ length lines + 1
longer lines None more e = absurd cc
longer lines (Some event) more e = go (event_fault lines event) e
  where
    go : (o : Option TraceFault) → option_map_or Err o (Ok (lines ++ event ∷ [])) ≡ Ok more →
        length more ≡ length lines + 1
    go None q =
        let same : (lines ++ event ∷ []) ≡ more = cc in
        ap length (sym same) ∙ length-append lines (event ∷ [])
    go (Some f) q = absurd cc
