-- A trace with one more line.
use Rattle.std.proofs.Common.{◌≡◌, ◌∙◌, ◌+◌, ◌<◌, ◌++◌, ◌∷◌, [], ℕ, true, count_by, Err, is_some, length, List, map, None, Ok, refl, rules, Some, sym, ap, arith, vec_len}
use Rattle.std.proofs.lemmas.List.{length-map, map_push}
use Rattle.std.specs.declared.alloc.Global.{Global}
use Rattle.std.specs.declared.vec.Vec.{Vec}
use Rattle.dsa_terms.proofs.NumberTests.{not_at_most}
use Rattle.dsa_model.specs.Buffer.{buffer_limit}
use Rattle.csv_instance.proofs.Basics.{counted_last}
use Rattle.trace_import.specs.Faults.{holder, number_fault, place_fault, with_event}
use Rattle.trace_import.specs.Kept.{line_value}
use Rattle.trace_import.specs.Traces.{Alloc, Event, Free, is_alloc}
use Rattle.trace_import.specs.declared.fault.TraceFault.{TraceFault}
use Rattle.trace_import.specs.declared.line.Line.{Line}

-- ---- what is wrong with a line
pub with_fault : (before : List Event) (event : Event) (f : TraceFault) → number_fault (length before) event ≡ None →
    place_fault before event ≡ Some f → with_event before (Some event) ≡ Err f
with_fault before event f good bad = rw (good, bad) refl

pub with_none : (before : List Event) (event : Event) → number_fault (length before) event ≡ None →
    place_fault before event ≡ None → with_event before (Some event) ≡ Ok (before ++ event ∷ [])
with_none before event good none = rw (good, none) refl

pub has_room : (before : List Event) (id : List ℕ) (size alignment : ℕ) → holder before id ≡ None →
    count_by is_alloc before < buffer_limit → place_fault before (Alloc id size alignment) ≡ None
has_room before id size alignment h n =
    rw (h, not_at_most buffer_limit (count_by is_alloc before) n) refl

pub is_live : (before : List Event) (id : List ℕ) → is_some (holder before id) ≡ true →
    place_fault before (Free id) ≡ None
is_live before id h = rw h refl

-- ---- what is kept
pub pushed : (lines more : List Line) (line : Line) (event : Event) → more ≡ lines ++ line ∷ [] →
    line_value line ≡ event → map line_value more ≡ map line_value lines ++ event ∷ []
pushed lines more line event e v =
    ap (map line_value) e ∙ map_push line_value lines line ∙ ap (λ (x : Event). map line_value lines ++ x ∷ []) v

pub counted_alloc : (before : List Event) (id : List ℕ) (size alignment : ℕ) →
    count_by is_alloc (before ++ Alloc id size alignment ∷ []) ≡ count_by is_alloc before + 1
counted_alloc before id size alignment = counted_last is_alloc before (Alloc id size alignment)

pub counted_free : (before : List Event) (id : List ℕ) →
    count_by is_alloc (before ++ Free id ∷ []) ≡ count_by is_alloc before
counted_free before id = let n = counted_last is_alloc before (Free id) in omega arith

-- a trace has as many lines as it keeps
pub line_count : (lines : Vec Line Global) (trace : List Event) (count : ℕ) → count ≡ vec_len lines →
    map line_value lines.items ≡ trace → count ≡ length trace
line_count lines trace count e view = e ∙ vec_items lines ∙ sym (length-map lines.items line_value) ∙ ap length view
  where
    vec_items : {A B : Type 0} (v : Vec A B) → vec_len v ≡ length v.items
    vec_items v = search rules
