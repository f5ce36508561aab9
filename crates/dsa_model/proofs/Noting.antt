-- The rows are noted in turn what the last one tells of them.
use Rattle.std.proofs.Common.{◌≡◌, ◌≢◌, ◌+◌, ◌<◌, ◌⊎◌, inl, inr, ℕ, Bool, false, ◌&&◌, ◌||◌, ◌==◌, List, [], length, slice_index_or, slice_set, sym, refl, ap, ◌∙◌, subst, arith}
use Rattle.std.proofs.lemmas.Bool.Decides.{nat_tests}
use Rattle.std.proofs.Math.Seq.{map-set_same}
use Rattle.std.proofs.lemmas.List.{get_or-set_other, get_or-set_same, get_or_default, length-map, map-set}
use Rattle.dsa_terms.specs.Buffers.{Instance, buffer, do_share}
use Rattle.dsa_terms.proofs.NumberTests.{below_or_last}
use Rattle.dsa_model.specs.Bits.{is_set}
use Rattle.dsa_model.specs.Rows.{AreNoted, IsNoted, instance_of, words_of}
use Rattle.dsa_model.specs.declared.instance.Row.{Row}
use Rattle.dsa_model.proofs.Sharing.{noted_next, row_count, shared_both, within, words_at}

pub noted_in_turn : (I : Instance) (rows : List Row) (last n : ℕ) (d e next : Row) (bit : Bool) →
    (let own = slice_index_or rows last d in let row = slice_index_or rows n e in
    AreNoted I rows last n → n < last → bit ≡ is_set own.shares.words.items n → next.buffer ≡ row.buffer →
    length next.shares.words.items ≡ length row.shares.words.items →
    ((c : ℕ) → is_set next.shares.words.items c ≡ (is_set row.shares.words.items c || (c == last && bit))) →
    AreNoted I (slice_set rows n next) last (n + 1))
noted_in_turn I rows last n d e next bit h lt is same count value = record {
  view = buffers ∙ h.view;
  count = h.count;
  own = rw (other last (omega (arith, lt))) h.own;
  done = λ b le. step b (below_or_last b n le);
  left = λ b le below. rw (other b (omega (arith, le))) (h.left b (omega (arith, le)) below);
}
  where
    own : Row
    own = slice_index_or rows last d

    row : Row
    row = slice_index_or rows n e

    rows_count : length rows ≡ last + 1
    rows_count = row_count rows I h.view ∙ h.count

    last_within : last < length rows
    last_within = omega (arith, rows_count)

    within_rows : n < length rows
    within_rows = omega (arith, rows_count, lt)

    buffers : instance_of (slice_set rows n next) ≡ instance_of rows
    buffers = map-set_same (λ (r : Row). r.buffer) rows n next e same

    words : words_of (slice_set rows n next) ≡ slice_set (words_of rows) n next.shares.words.items
    words = map-set (λ (r : Row). r.shares.words.items) rows n next

    words_count : length (words_of rows) ≡ last + 1
    words_count = length-map rows (λ (r : Row). r.shares.words.items) ∙ rows_count

    other : (b : ℕ) → b ≢ n →
        slice_index_or (words_of (slice_set rows n next)) b [] ≡ slice_index_or (words_of rows) b []
    other b ne = ap (λ t. slice_index_or t b []) words
        ∙ get_or-set_other (words_of rows) n b next.shares.words.items [] ne

    here : slice_index_or (words_of (slice_set rows n next)) n [] ≡ next.shares.words.items
    here = ap (λ t. slice_index_or t n []) words
        ∙ get_or-set_same (words_of rows) n next.shares.words.items [] (omega (arith, words_count, lt))

    old : IsNoted I n row.shares.words.items last
    old = subst (λ w. IsNoted I n w last) (words_at rows n row within_rows (get_or_default rows n e row within_rows))
        (h.left n (omega arith) lt)

    told : bit ≡ do_share (buffer I n) (buffer I last)
    told = is ∙ ap (λ w. is_set w n) (sym
        (words_at rows last own last_within (get_or_default rows last d own last_within)))
        ∙ h.own.noted n ∙ within n (last + 1) _ (omega (arith, lt)) ∙ shared_both (buffer I last) (buffer I n)

    step : (b : ℕ) → (b < n) ⊎ (b ≡ n) →
        IsNoted I b (slice_index_or (words_of (slice_set rows n next)) b []) (last + 1)
    step b (inl less) = rw (other b (omega (arith, less))) (h.done b less)
    step b (inr q) = rw (q, here) (noted_next I n last row.shares.words.items next.shares.words.items bit old count
        value told)

-- a row whose buffer shares no moment with the last one stays as it is
pub kept_in_turn : (I : Instance) (rows : List Row) (last n : ℕ) (d : Row) → (let own = slice_index_or rows last d in
    AreNoted I rows last n → n < last → is_set own.shares.words.items n ≡ false → AreNoted I rows last (n + 1))
kept_in_turn I rows last n d h lt is = record {
  view = h.view;
  count = h.count;
  own = h.own;
  done = λ b le. step b (below_or_last b n le);
  left = λ b le below. h.left b (omega (arith, le)) below;
}
  where
    own : Row
    own = slice_index_or rows last d

    last_within : last < length rows
    last_within = let q = row_count rows I h.view ∙ h.count in omega (arith, q)

    told : false ≡ do_share (buffer I n) (buffer I last)
    told = sym is ∙ ap (λ w. is_set w n) (sym
        (words_at rows last own last_within (get_or_default rows last d own last_within)))
        ∙ h.own.noted n ∙ within n (last + 1) _ (omega (arith, lt)) ∙ shared_both (buffer I last) (buffer I n)

    same : (c : ℕ) (set : Bool) → set ≡ (set || (c == last && false))
    same c set = grind (arith, nat_tests)

    step : (b : ℕ) → (b < n) ⊎ (b ≡ n) → IsNoted I b (slice_index_or (words_of rows) b []) (last + 1)
    step b (inl less) = h.done b less
    step b (inr q) = rw q (noted_next I n last _ _ false (h.left n (omega arith) lt) refl (λ c. same c _) told)
