-- What a trace that was accepted is within.
use Rattle.std.proofs.Common.{◌≡◌, ◌<◌, ◌≤◌, ◌+◌, ◌++◌, ◌∷◌, ◌==◌, ℕ, inl, inr, List, [], Bool, true, false, not, ◌&&◌, cond, count_by, Option, None, Some, Ok, Err, length, nat_le, option_map, refl, ap, subst, arith}
use Rattle.std.proofs.lemmas.List.Sums.{sum_by-cons}
use Rattle.std.specs.List.{list_all, onto_first, slice_split}
use Rattle.std.specs.Option.{option_map_or}
use Rattle.dsa_terms.specs.Firsts.{when}
use Rattle.dsa_terms.proofs.Lists.{from_append}
use Rattle.dsa_terms.proofs.Moments.{and_true}
use Rattle.dsa_terms.proofs.NumberTests.{above, at_most}
use Rattle.dsa_model.specs.Buffer.{alignment_limit, size_limit, buffer_limit}
use Rattle.dsa_model.proofs.Faults.{neither, not_so}
use Rattle.csv_instance.specs.Parse.{parse}
use Rattle.csv_instance.specs.Records.{table_of}
use Rattle.csv_instance.proofs.Basics.{counted_last, not_false}
use Rattle.csv_instance.proofs.IdLemmas.{all_none}
use Rattle.trace_import.specs.Limits.{AreWithin, IsWithin}
use Rattle.trace_import.specs.Requests.{id_of}
use Rattle.trace_import.specs.Traces.{Alloc, Event, Free, imported, imported_from, is_alloc, Trace}
use Rattle.trace_import.specs.Faults.{at_end, event_fault, holder, is_to, number_fault, pieces_of, place_fault, read_from, trace_of, with_event}
use Rattle.trace_import.specs.ImportText.{import_text}
use Rattle.trace_import.specs.Lines.{event_in, id_limit, is_id, is_id_byte}
use Rattle.trace_import.specs.declared.fault.TraceFault.{TraceFault}
use Rattle.trace_import.specs.declared.fault.TraceFault.TheVariants as fault
use Rattle.trace_import.proofs.Parses.{text_parses}
use Rattle.trace_import.proofs.Words.{identified}

-- ---- one more line
record IsGood (es : List Event) : Type 0 where
  within : AreWithin es
  few : count_by is_alloc es ≤ buffer_limit

is_to_gives : (most n : ℕ) → is_to most n ≡ true → (1 ≤ n) × (n ≤ most)
is_to_gives most n h = let r = and_true (nat_le 1 n) (nat_le n most) h in (at_most 1 n r.0, at_most n most r.1)

-- the length of an identifier
pub id_short : (id : List ℕ) → is_id id ≡ true → length id ≤ id_limit
id_short id h =
    let r = and_true (nat_le 1 (length id) && nat_le (length id) id_limit) (list_all is_id_byte id) h in
    at_most (length id) id_limit (and_true (nat_le 1 (length id)) (nat_le (length id) id_limit) r.0).1

-- an allocation without a fault of its numbers is within its limits
pub numbers_within : (line : ℕ) (id : List ℕ) (size alignment : ℕ) → is_id id ≡ true →
    number_fault line (Alloc id size alignment) ≡ None → IsWithin id size alignment
numbers_within line id size alignment identifies h =
    let all = all_none (
    when (not (is_to size_limit size)) (fault.BadSize line)
    ∷ when (not (is_to alignment_limit alignment)) (fault.BadAlignment line)
    ∷ []) h in
    let s = is_to_gives size_limit size
    (not_false (is_to size_limit size) (not_so (not (is_to size_limit size)) (fault.BadSize line) all.0)) in
    let a = is_to_gives alignment_limit alignment
    (not_false (is_to alignment_limit alignment)
    (not_so (not (is_to alignment_limit alignment)) (fault.BadAlignment line) all.1.0)) in
    record {
      some_size = s.0;
      small = s.1;
      some_alignment = a.0;
      narrow = a.1;
      short = id_short id identifies;
    }

-- there is room for one more allocation
pub room : (before : List Event) (id : List ℕ) (size alignment : ℕ) →
    place_fault before (Alloc id size alignment) ≡ None → count_by is_alloc before < buffer_limit
room before id size alignment h =
    let all = all_none (
    option_map (fault.StillLive (length before)) (holder before id)
    ∷ when (nat_le buffer_limit (count_by is_alloc before)) (fault.TooManyBuffers (length before))
    ∷ []) h in
    above buffer_limit (count_by is_alloc before)
    (not_so (nat_le buffer_limit (count_by is_alloc before)) (fault.TooManyBuffers (length before)) all.1.0)

-- a line more keeps the limits
pub within_more : (before : List Event) (id : List ℕ) (size alignment : ℕ) → AreWithin before →
    IsWithin id size alignment → AreWithin (before ++ Alloc id size alignment ∷ [])
within_more before id size alignment g w i s a j =
    elim (from_append before (Alloc id size alignment ∷ []) (Alloc i s a) j) [
      | inl k ↦ g i s a k
      | inr k ↦ elim k [
        | inl q ↦ (let p : i ≡ id = cc in let u : s ≡ size = cc in let v : a ≡ alignment = cc in rw (p, u, v) w)
        | inr z ↦ absurd z
      ]
    ]

pub within_freed : (before : List Event) (id : List ℕ) → AreWithin before → AreWithin (before ++ Free id ∷ [])
within_freed before id g i s a j = elim (from_append before (Free id ∷ []) (Alloc i s a) j) [
  | inl k ↦ g i s a k
  | inr k ↦ absurd (elim k [ inl q ↦ cc | inr z ↦ z ])
]

one_more : (before : List Event) (e : Event) → IsGood before → is_id (id_of e) ≡ true → event_fault before e ≡ None →
    IsGood (before ++ e ∷ [])
one_more before (Free id) g identifies h = record {
  within = within_freed before id g.within;
  few = let n = counted_last is_alloc before (Free id) in let f = g.few in omega arith;
}
one_more before (Alloc id size alignment) g identifies h =
    let both = neither (number_fault (length before) (Alloc id size alignment))
    (place_fault before (Alloc id size alignment)) h in
    let free = room before id size alignment both.1 in
    record {
      within = within_more before id size alignment g.within
          (numbers_within (length before) id size alignment identifies both.0);
      few = let n = counted_last is_alloc before (Alloc id size alignment) in omega arith;
    }

-- ---- all lines
ended : (before : List Event) (last : List ℕ) (trace : Trace) → at_end before last ≡ Ok trace → before ≡ trace
ended before [] trace e = cc
ended before (x ∷ xs) trace e = absurd cc

not_after_a_fault : (f : TraceFault) (pieces : List (List ℕ)) (trace : Trace) → read_from (Err f) pieces ≡ Ok trace → ⊥
not_after_a_fault f pieces trace e = cc

-- what a list of lines gives that ends well, from what each good line keeps
module _ (Q : List Event → Type 0) (step : (before : List Event) (e : Event) (piece : List ℕ) → Q before →
    event_in piece ≡ Some e → event_fault before e ≡ None → Q (before ++ e ∷ [])) where
  reads_keep : (pieces : List (List ℕ)) (before trace : List Event) → Q before →
      read_from (Ok before) pieces ≡ Ok trace → Q trace
  reads_keep [] before trace g e = let q : before ≡ trace = cc in subst Q q g
  reads_keep (last ∷ []) before trace g e = subst Q (ended before last trace e) g
  reads_keep (piece ∷ next ∷ pieces) before trace g e =
      line (event_in piece) refl (λ more h q. reads_keep (next ∷ pieces) more trace h q) e
    where
      judged : (event : Event) (o : Option TraceFault) → event_in piece ≡ Some event → event_fault before event ≡ o →
          ((more : List Event) → Q more → read_from (Ok more) (next ∷ pieces) ≡ Ok trace → Q trace) →
          read_from (option_map_or Err o (Ok (before ++ event ∷ []))) (next ∷ pieces) ≡ Ok trace → Q trace
      judged event None w n ih q = ih (before ++ event ∷ []) (step before event piece g w n) q
      judged event (Some f) w n ih q = absurd (not_after_a_fault f (next ∷ pieces) trace q)

      line : (o : Option Event) → event_in piece ≡ o →
          ((more : List Event) → Q more → read_from (Ok more) (next ∷ pieces) ≡ Ok trace → Q trace) →
          read_from (with_event before o) (next ∷ pieces) ≡ Ok trace → Q trace
      line None w ih q = absurd (not_after_a_fault (fault.BadLine (length before)) (next ∷ pieces) trace q)
      line (Some event) w ih q = judged event (event_fault before event) w refl ih q

no_events : IsGood []
no_events = record { within = λ i s a j. absurd j; few = omega arith }

-- ---- how many
allocs_are : (es : List Event) (line : ℕ) → length (imported_from line es) ≡ count_by is_alloc es
allocs_are [] line = refl
allocs_are (Alloc id s a ∷ es) line =
    let k = allocs_are es (line + 1) in
    let c = sum_by-cons (λ e. cond (is_alloc e) 1 0) (Alloc id s a) es in omega arith
allocs_are (Free id ∷ es) line =
    let k = allocs_are es (line + 1) in
    let c = sum_by-cons (λ e. cond (is_alloc e) 1 0) (Free id) es in omega arith

pub imported_count : (trace : Trace) → length (imported trace) ≡ count_by is_alloc trace
unfolding imported
imported_count trace = allocs_are trace 0

pub accepted_fits : (bytes : List ℕ) (trace : Trace) → trace_of bytes ≡ Ok trace →
    AreWithin trace × (length (imported trace) ≤ buffer_limit)
unfolding trace_of imported
accepted_fits bytes trace e =
    let g = reads_keep IsGood (λ before e piece g w n. one_more before e g (identified piece e w) n)
    (pieces_of bytes) [] trace no_events e in
    (g.within, (let k = allocs_are trace 0 in let f = g.few in omega arith))

-- ---- how many lines
lines_short : (pieces : List (List ℕ)) (before trace : List Event) → read_from (Ok before) pieces ≡ Ok trace →
    length trace ≤ length before + length pieces
lines_short [] before trace e = let q : before ≡ trace = cc in let k = ap length q in omega arith
lines_short (last ∷ []) before trace e = let k = ap length (ended before last trace e) in omega arith
lines_short (piece ∷ next ∷ pieces) before trace e =
    line (event_in piece) (λ more q. lines_short (next ∷ pieces) more trace q) e
  where
    length_last : (zs : List Event) (z : Event) → length (zs ++ z ∷ []) ≡ length zs + 1
    length_last [] z = omega arith
    length_last (w ∷ ws) z = let k = length_last ws z in omega arith

    judged : (event : Event) (o : Option TraceFault) →
        ((more : List Event) → read_from (Ok more) (next ∷ pieces) ≡ Ok trace →
        length trace ≤ length more + length (next ∷ pieces)) →
        read_from (option_map_or Err o (Ok (before ++ event ∷ []))) (next ∷ pieces) ≡ Ok trace →
        length trace ≤ length before + length (piece ∷ next ∷ pieces)
    judged event None ih q =
        let k = ih (before ++ event ∷ []) q in let n = length_last before event in omega arith
    judged event (Some f) ih q = absurd (not_after_a_fault f (next ∷ pieces) trace q)

    line : (o : Option Event) →
        ((more : List Event) → read_from (Ok more) (next ∷ pieces) ≡ Ok trace →
        length trace ≤ length more + length (next ∷ pieces)) →
        read_from (with_event before o) (next ∷ pieces) ≡ Ok trace →
        length trace ≤ length before + length (piece ∷ next ∷ pieces)
    line None ih q = absurd (not_after_a_fault (fault.BadLine (length before)) (next ∷ pieces) trace q)
    line (Some event) ih q = judged event (event_fault before event) ih q

onto_first_length : (x : ℕ) (parts : List (List ℕ)) → length (onto_first x parts) ≤ length parts + 1
onto_first_length x [] = omega arith
onto_first_length x (p ∷ ps) = omega arith

split_length : (p : ℕ → Bool) (xs : List ℕ) → length (slice_split p xs) ≤ length xs + 1
split_length p [] = omega arith
split_length p (x ∷ xs) = go (split_length p xs) (p x)
  where
    go : length (slice_split p xs) ≤ length xs + 1 → (b : Bool) →
        length (cond b ([] ∷ slice_split p xs) (onto_first x (slice_split p xs))) ≤ length (x ∷ xs) + 1
    go ih true = omega arith
    go ih false = let k = onto_first_length x (slice_split p xs) in omega arith

pub accepted_is_short : (bytes : List ℕ) (trace : Trace) → trace_of bytes ≡ Ok trace →
    length trace ≤ length bytes + 1
unfolding trace_of
accepted_is_short bytes trace e =
    let k = lines_short (pieces_of bytes) [] trace e in
    let n = split_length (λ c. c == 10) bytes in omega arith

pub accepted_parses : (bytes : List ℕ) (trace : Trace) → length bytes ≤ 67108864 → trace_of bytes ≡ Ok trace →
    parse (table_of (import_text trace)) ≡ Ok (imported trace)
accepted_parses bytes trace short e =
    let f = accepted_fits bytes trace e in
    text_parses trace f.0 (let k = accepted_is_short bytes trace e in omega arith) f.1
