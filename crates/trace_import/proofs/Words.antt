-- Words of lines.
use Rattle.std.proofs.Common.{◌≡◌, ◌∙◌, ◌==◌, ◌&&◌, ◌^◌, ◌<◌, ◌≤◌, ℕ, List, [], ◌∷◌, Bool, true, false, cond, codes, is_some, option_map, Option, None, Some, nat_le, length, refl, sym, ap, arith}
use Rattle.std.proofs.lemmas.Bool.Decides.{nat_tests}
use Rattle.std.proofs.lemmas.Str.Parse.{digits_value_short}
use Rattle.std.specs.Char.{is_ascii_digit}
use Rattle.std.specs.List.{list_all}
use Rattle.std.specs.Option.{option_zip}
use Rattle.std.specs.Str.{all_ascii_digits, bytes_eq}
use Rattle.std.specs.Str.Parse.{digits_value}
use Rattle.dsa_model.specs.Numbers.{is_number}
use Rattle.dsa_model.proofs.NumberLemmas.{own}
use Rattle.dsa_terms.proofs.Moments.{and_true}
use Rattle.dsa_terms.proofs.NumberTests.{is_at_most}
use Rattle.trace_import.specs.Lines.{event_in, event_of, id_limit, is_id, is_id_byte, number_of, words_of}
use Rattle.trace_import.specs.Requests.{AreAllocWords, AreFreeWords, id_of}
use Rattle.trace_import.specs.Traces.{Alloc, Event, Free}
use Rattle.trace_import.proofs.Splits.{one_piece, unmarked}

-- ---- identifiers
pub id_from : (id : List ℕ) → (length id == 0) ≡ false → length id ≤ 255 →
    list_all is_id_byte id ≡ is_id id
id_from id some short = rw (long (length id) some, is_at_most (length id) 255 short) refl
  where
    long : (n : ℕ) → (n == 0) ≡ false → nat_le 1 n ≡ true
    long n h = grind (arith, nat_tests)

id_is_word : (id : List ℕ) → is_id id ≡ true → words_of id ≡ id ∷ []
id_is_word id h = unmarked (λ c. c == 32) is_id_byte apart id
    (and_true (nat_le 1 (length id) && nat_le (length id) id_limit) (list_all is_id_byte id) h).1
  where
    apart : (c : ℕ) → is_id_byte c ≡ true → (c == 32) ≡ false
    apart c e = grind (arith, nat_tests)

-- ---- numbers
digits_are : (bytes : List ℕ) → list_all is_ascii_digit bytes ≡ all_ascii_digits bytes
digits_are [] = refl
digits_are (c ∷ cs) = ap (λ b. is_ascii_digit c && b) (digits_are cs)

-- twenty digits write a number of at most that
within_form : (bytes : List ℕ) → length bytes ≤ 20 → all_ascii_digits bytes ≡ true →
    nat_le (digits_value 10 bytes) (10 ^ 20) ≡ true
within_form bytes short digits =
    let k : digits_value 10 bytes < 10 ^ 20 = digits_value_short own bytes 20 digits short in
    is_at_most (digits_value 10 bytes) (10 ^ 20) (omega arith)

some_cond : (b : Bool) (n : ℕ) → is_some (cond b (Some n) None) ≡ b
some_cond true n = refl
some_cond false n = refl

pub number_from : (bytes : List ℕ) → (length bytes == 0) ≡ false → length bytes ≤ 20 →
    list_all is_ascii_digit bytes ≡ is_some (number_of bytes)
number_from bytes some short =
    digits_are bytes ∙ sym (form (all_ascii_digits bytes) refl)
    ∙ sym (some_cond (is_number (10 ^ 20) bytes) (digits_value 10 bytes))
  where
    long : (n : ℕ) → (n == 0) ≡ false → nat_le 1 n ≡ true
    long n h = grind (arith, nat_tests)

    form : (b : Bool) → all_ascii_digits bytes ≡ b → is_number (10 ^ 20) bytes ≡ b
    form true h = rw (long (length bytes) some, is_at_most (length bytes) 20 short, h, within_form bytes short h) refl
    form false h = rw (long (length bytes) some, is_at_most (length bytes) 20 short, h) refl

number_form : (field : List ℕ) → is_some (number_of field) ≡ true → is_number (10 ^ 20) field ≡ true
number_form field h = sym (some_cond (is_number (10 ^ 20) field) (digits_value 10 field)) ∙ h

pub number_is : (field : List ℕ) → is_some (number_of field) ≡ true → number_of field ≡ Some (digits_value 10 field)
number_is field h = rw (number_form field h) refl

number_is_word : (field : List ℕ) → is_some (number_of field) ≡ true → words_of field ≡ field ∷ []
number_is_word field h = unmarked (λ c. c == 32) is_ascii_digit apart field
    (digits_are field ∙ digits (nat_le 1 (length field) && nat_le (length field) 20) (all_ascii_digits field)
    (nat_le (digits_value 10 field) (10 ^ 20)) (number_form field h))
  where
    digits : (a b c : Bool) → (a && b && c) ≡ true → b ≡ true
    digits a b c e = (and_true a b (and_true (a && b) c e).0).1

    apart : (c : ℕ) → is_ascii_digit c ≡ true → (c == 32) ≡ false
    apart c e = grind (arith, nat_tests)

-- ---- lines that free
pub free_written : (id : List ℕ) → is_id id ≡ true → AreFreeWords (codes "free" ∷ words_of id) id
free_written id h = record {
  writes = rw (id_is_word id h, h) refl;
  identifies = h;
}

pub free_not : (id : List ℕ) → is_id id ≡ false → event_of (codes "free" ∷ words_of id) ≡ None
free_not id h = go (words_of id) (one_piece (λ c. c == 32) id)
  where
    go : (words : List (List ℕ)) → ((piece : List ℕ) → words ≡ piece ∷ [] → piece ≡ id) →
        event_of (codes "free" ∷ words) ≡ None
    go [] one = refl
    go (x ∷ []) one = rw (one x refl, h) refl
    go (x ∷ y ∷ []) one = refl
    go (x ∷ y ∷ z ∷ []) one = refl
    go (x ∷ y ∷ z ∷ w ∷ more) one = refl

-- ---- lines that allocate
pub alloc_written : (rest id others size alignment : List ℕ) → words_of rest ≡ id ∷ words_of others →
    words_of others ≡ size ∷ words_of alignment → is_id id ≡ true → is_some (number_of size) ≡ true →
    is_some (number_of alignment) ≡ true → AreAllocWords (codes "alloc" ∷ words_of rest) id size alignment
alloc_written rest id others size alignment first second identifies sized aligned = record {
  writes = rw (
    first,
    second,
    number_is_word alignment aligned,
    identifies,
    number_is size sized,
    number_is alignment aligned,
  ) refl;
  identifies = identifies;
  sized = sized;
  aligned = aligned;
}

pub alloc_not : (rest id others size alignment : List ℕ) → words_of rest ≡ id ∷ words_of others →
    words_of others ≡ size ∷ words_of alignment →
    (is_id id && is_some (number_of size) && is_some (number_of alignment)) ≡ false →
    event_of (codes "alloc" ∷ words_of rest) ≡ None
alloc_not rest id others size alignment first second h =
    rw (first, second) (go (words_of alignment) (one_piece (λ c. c == 32) alignment))
  where
    by : (a : Bool) (s t : Option ℕ) → (a && is_some s && is_some t) ≡ false →
        cond a (option_map (λ (n : ℕ × ℕ). Alloc id n.0 n.1) (option_zip s t)) None ≡ None
    by false s t e = refl
    by true None t e = refl
    by true (Some n) None e = refl
    by true (Some n) (Some m) e = absurd cc

    go : (words : List (List ℕ)) → ((piece : List ℕ) → words ≡ piece ∷ [] → piece ≡ alignment) →
        event_of (codes "alloc" ∷ id ∷ size ∷ words) ≡ None
    go [] one = refl
    go (x ∷ []) one = rw (one x refl) (by (is_id id) (number_of size) (number_of alignment) h)
    go (x ∷ y ∷ more) one = refl

pub alloc_unnamed : (a b c : Bool) → a ≡ false → (a && b && c) ≡ false
alloc_unnamed false b c h = refl
alloc_unnamed true b c h = absurd cc

pub alloc_unsized : (a b c : Bool) → b ≡ false → (a && b && c) ≡ false
alloc_unsized false b c h = refl
alloc_unsized true false c h = refl
alloc_unsized true true c h = absurd cc

pub alloc_unaligned : (a b c : Bool) → c ≡ false → (a && b && c) ≡ false
alloc_unaligned false b c h = refl
alloc_unaligned true false c h = refl
alloc_unaligned true true c h = h

-- ---- other lines
pub other_word : (word : List ℕ) (words : List (List ℕ)) → bytes_eq word (codes "alloc") ≡ false →
    bytes_eq word (codes "free") ≡ false → event_of (word ∷ words) ≡ None
other_word word [] a f = refl
other_word word (x ∷ []) a f = rw f refl
other_word word (x ∷ y ∷ []) a f = refl
other_word word (x ∷ y ∷ z ∷ []) a f = rw a refl
other_word word (x ∷ y ∷ z ∷ w ∷ more) a f = refl

-- ---- the identifier of a line
words_identify : (words : List (List ℕ)) (event : Event) → event_of words ≡ Some event → is_id (id_of event) ≡ true
words_identify [] event e = absurd cc
words_identify (a ∷ []) event e = absurd cc
words_identify (a ∷ id ∷ []) event e = go (bytes_eq a (codes "free") && is_id id) refl e
  where
    go : (b : Bool) → (bytes_eq a (codes "free") && is_id id) ≡ b → cond b (Some (Free id)) None ≡ Some event →
        is_id (id_of event) ≡ true
    go true h q =
        let same : Free id ≡ event = cc in
        ap (λ (x : Event). is_id (id_of x)) (sym same) ∙ (and_true (bytes_eq a (codes "free")) (is_id id) h).1
    go false h q = absurd cc
words_identify (a ∷ b ∷ c ∷ []) event e = absurd cc
words_identify (a ∷ id ∷ size ∷ alignment ∷ []) event e =
    outer (bytes_eq a (codes "alloc")) (is_id id) refl (number_of size) (number_of alignment) e
  where
    inner : (s t : Option ℕ) →
        option_map (λ (n : ℕ × ℕ). Alloc id n.0 n.1) (option_zip s t) ≡ Some event → id_of event ≡ id
    inner None t q = absurd cc
    inner (Some n) None q = absurd cc
    inner (Some n) (Some m) q = let same : Alloc id n m ≡ event = cc in ap id_of (sym same)

    outer : (b i : Bool) → is_id id ≡ i → (s t : Option ℕ) →
        cond b (cond i (option_map (λ (n : ℕ × ℕ). Alloc id n.0 n.1) (option_zip s t)) None) None ≡ Some event →
        is_id (id_of event) ≡ true
    outer true true h s t q = ap is_id (inner s t q) ∙ h
    outer true false h s t q = absurd cc
    outer false i h s t q = absurd cc
words_identify (a ∷ b ∷ c ∷ d ∷ more ∷ others) event e = absurd cc

pub identified : (bytes : List ℕ) (event : Event) → event_in bytes ≡ Some event → is_id (id_of event) ≡ true
identified bytes event e = words_identify (words_of bytes) event e

pub line_not : (line word rest : List ℕ) → words_of line ≡ word ∷ words_of rest →
    bytes_eq word (codes "alloc") ≡ false → bytes_eq word (codes "free") ≡ false → event_in line ≡ None
line_not line word rest e a f = rw e (other_word word (words_of rest) a f)
