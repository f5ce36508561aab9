-- Which buffers share a moment, and the bits that tell of it.
use Rattle.std.proofs.Common.{◌≡◌, ◌≢◌, ◌+◌, ◌<◌, ◌≤◌, ◌⊎◌, inl, inr, ℕ, Bool, true, false, ◌&&◌, ◌||◌, ◌==◌, nat_lt, List, [], ◌∷◌, ◌++◌, length, length-append, slice_index_or, All, sym, refl, ap, ◌∙◌, subst, arith}
use Rattle.std.proofs.lemmas.Bool.Decides.{nat_tests}
use Rattle.std.proofs.Math.Seq.{get_or-append_seam}
use Rattle.std.proofs.lemmas.Bool.{cases_eq, cases_lt}
use Rattle.std.proofs.lemmas.List.{get_or-map, get_or_append_left, length-map, map_push, with_items_is}
use Rattle.std.proofs.lemmas.List.Elements.{All-push}
use Rattle.dsa_terms.specs.Buffers.{Buffer, Instance, buffer, do_share, no_buffer}
use Rattle.dsa_terms.proofs.Moments.{do_share-gives, do_share-false}
use Rattle.dsa_terms.proofs.NumberTests.{below_or_last}
use Rattle.dsa_model.specs.Bits.{is_set}
use Rattle.dsa_model.specs.Buffer.{IsBuffer, buffer_limit}
use Rattle.dsa_model.specs.Rows.{AllNoted, AreNext, AreNoted, AreRows, IsNoted, instance_of, words_of}
use Rattle.dsa_model.specs.declared.instance.Row.{Row}
use Rattle.std.specs.Global.{Vec}
use Rattle.std.specs.Vec.{with_items}

-- a buffer shares a moment with itself
pub shares_with_itself : (b : Buffer) → IsBuffer b → do_share b b ≡ true
shares_with_itself b s = go (do_share b b) refl
  where
    go : (t : Bool) → do_share b b ≡ t → t ≡ true
    go true q = refl
    go false q = absurd (let m = s.lives in do_share-false b b m.0 q m.1 m.1)

-- the one shares a moment with the other where the other does with the one
pub shared_both : (b c : Buffer) → do_share b c ≡ do_share c b
shared_both b c = go (do_share b c) (do_share c b) refl refl
  where
    one : (b c : Buffer) → do_share b c ≡ true → do_share c b ≡ false → ⊥
    one b c p q = let s = do_share-gives b c p in do_share-false c b s.0 q s.2 s.1

    go : (t u : Bool) → do_share b c ≡ t → do_share c b ≡ u → t ≡ u
    go true true p q = refl
    go true false p q = absurd (one b c p q)
    go false true p q = absurd (one c b q p)
    go false false p q = refl

-- ---- bits that are set one after another
one_more : (c n : ℕ) (t bit : Bool) → (c ≡ n → bit ≡ t) →
    (nat_lt c n && t || (c == n && bit)) ≡ (nat_lt c (n + 1) && t)
one_more c n t bit h = go (cases_eq c n)
  where
    go : (c ≡ n) ⊎ (c ≢ n) → (nat_lt c n && t || (c == n && bit)) ≡ (nat_lt c (n + 1) && t)
    go (inl q) = let same = h q in grind (arith, nat_tests)
    go (inr ne) = grind (arith, nat_tests)

pub within : (c n : ℕ) (t : Bool) → c < n → (nat_lt c n && t) ≡ t
within c n t lt = grind (arith, nat_tests)

past : (c n : ℕ) (t u : Bool) → n ≤ c → (nat_lt c n && t) ≡ (nat_lt c n && u)
past c n t u le = grind (arith, nat_tests)

pub noted_next : (I : Instance) (b n : ℕ) (words new : List ℕ) (bit : Bool) → IsNoted I b words n →
    length new ≡ length words → ((c : ℕ) → is_set new c ≡ (is_set words c || (c == n && bit))) →
    bit ≡ do_share (buffer I b) (buffer I n) → IsNoted I b new (n + 1)
noted_next I b n words new bit h same value is = record {
  reaches = rw same h.reaches;
  noted = λ c. value c ∙ ap (λ t. t || (c == n && bit)) (h.noted c)
      ∙ one_more c n (do_share (buffer I b) (buffer I c)) bit (λ q. rw q is);
}

-- ---- what the rows tell, where one is put behind them
pub all_pushed : (I : Instance) (table : List (List ℕ)) (words : List ℕ) (n : ℕ) → length table ≡ n →
    AllNoted I table n → IsNoted I n words (length I) → AllNoted I (table ++ words ∷ []) (n + 1)
all_pushed I table words n count all last b lt = go (below_or_last b n lt)
  where
    go : (b < n) ⊎ (b ≡ n) → IsNoted I b (slice_index_or (table ++ words ∷ []) b []) (length I)
    go (inl l) = rw (get_or_append_left table (words ∷ []) [] b (rw count l)) (all b l)
    go (inr q) =
        rw q (subst (λ w. IsNoted I n w (length I))
        (sym (subst (λ k. slice_index_or (table ++ words ∷ []) k [] ≡ words) count
        (get_or-append_seam table words [] []))) last)

-- a buffer put last changes nothing of the others
before_next : (I : Instance) (next : Buffer) (b : ℕ) → b < length I → buffer (I ++ next ∷ []) b ≡ buffer I b
unfolding buffer
before_next I next b lt = get_or_append_left I (next ∷ []) no_buffer b lt

at_next : (I : Instance) (next : Buffer) → buffer (I ++ next ∷ []) (length I) ≡ next
unfolding buffer
at_next I next = get_or-append_seam I next [] no_buffer

noted_before_next : (I : Instance) (next : Buffer) (b : ℕ) (words : List ℕ) → b < length I →
    IsNoted I b words (length I) → IsNoted (I ++ next ∷ []) b words (length I)
noted_before_next I next b words lt h = record {
  reaches = h.reaches;
  noted = λ c. h.noted c ∙ same c (cases_lt c (length I));
}
  where
    same : (c : ℕ) → (c < length I) ⊎ (length I ≤ c) →
        (nat_lt c (length I) && do_share (buffer I b) (buffer I c))
        ≡ (nat_lt c (length I) && do_share (buffer (I ++ next ∷ []) b) (buffer (I ++ next ∷ []) c))
    same c (inl l) = rw (before_next I next b lt, before_next I next c l) refl
    same c (inr le) = past c (length I) _ _ le

-- what is found of the next buffer and one before it
next_shares : (I : Instance) (next : Buffer) (c : ℕ) (bit : Bool) → c < length I →
    bit ≡ do_share (buffer I c) next →
    bit ≡ do_share (buffer (I ++ next ∷ []) (length I)) (buffer (I ++ next ∷ []) c)
next_shares I next c bit lt is =
    rw (at_next I next, before_next I next c lt) (is ∙ shared_both (buffer I c) next)

next_shares_with_itself : (I : Instance) (next : Buffer) → IsBuffer next →
    true ≡ do_share (buffer (I ++ next ∷ []) (length I)) (buffer (I ++ next ∷ []) (length I))
next_shares_with_itself I next is = rw (at_next I next) (sym (shares_with_itself next is))

-- ---- what is looked up in a row
pub words_at : (rows : List Row) (b : ℕ) (row : Row) → b < length rows → row ≡ slice_index_or rows b row →
    slice_index_or (words_of rows) b [] ≡ row.shares.words.items
words_at rows b row lt at =
    get_or-map (λ (r : Row). r.shares.words.items) rows b row [] lt
    ∙ ap (λ (r : Row). r.shares.words.items) (sym at)

pub row_count : (rows : List Row) (I : Instance) → instance_of rows ≡ I → length rows ≡ length I
row_count rows I view = sym (length-map rows (λ (r : Row). r.buffer)) ∙ ap length view

pub row_noted : (rows : List Row) (I : Instance) (b : ℕ) (row : Row) → instance_of rows ≡ I → AreRows rows →
    b < length I → row ≡ slice_index_or rows b row → IsNoted I b row.shares.words.items (length I)
row_noted rows I b row view all lt at =
    subst (λ (J : Instance). IsNoted J b row.shares.words.items (length J)) view
    (subst (λ words. IsNoted (instance_of rows) b words (length (instance_of rows)))
    (words_at rows b row (rw (row_count rows I view) lt) at) (all b (rw view lt)))

pub looked_up : (I : Instance) (b c : ℕ) (words : List ℕ) (bit : Bool) → IsNoted I b words (length I) → c < length I →
    bit ≡ is_set words c → bit ≡ do_share (buffer I b) (buffer I c)
looked_up I b c words bit h lt is = is ∙ h.noted c ∙ within c (length I) _ lt

-- ---- a buffer that is put behind rows
pub next_by_row : (rows : List Row) (next : Buffer) (c : ℕ) (row : Row) (bit : Bool) → c < length rows →
    row ≡ slice_index_or rows c row → bit ≡ do_share row.buffer next →
    bit ≡ do_share (buffer (instance_of rows ++ next ∷ []) (length rows)) (buffer (instance_of rows ++ next ∷ []) c)
unfolding buffer
next_by_row rows next c row bit lt at is =
    subst (λ n. bit ≡ do_share (buffer (instance_of rows ++ next ∷ []) n) (buffer (instance_of rows ++ next ∷ []) c))
    count
    (next_shares (instance_of rows) next c bit (rw count lt)
    (is ∙ ap (λ b. do_share b next) (ap (λ (r : Row). r.buffer) at
    ∙ sym (get_or-map (λ (r : Row). r.buffer) rows c row no_buffer lt))))
  where
    count : length (instance_of rows) ≡ length rows
    count = length-map rows (λ (r : Row). r.buffer)

pub next_noted : (rows : List Row) (next : Buffer) (words new : List ℕ) (n : ℕ) → IsBuffer next → n ≡ length rows →
    IsNoted (instance_of rows ++ next ∷ []) (length rows) words n → length new ≡ length words →
    ((c : ℕ) → is_set new c ≡ (is_set words c || (c == length rows && true))) →
    IsNoted (instance_of rows ++ next ∷ []) (length rows) new (length rows + 1)
next_noted rows next words new n is at h same value =
    noted_next J (length rows) (length rows) words new true (subst (IsNoted J (length rows) words) at h) same value
    (subst (λ k. true ≡ do_share (buffer J k) (buffer J k)) (length-map rows (λ (r : Row). r.buffer))
    (next_shares_with_itself (instance_of rows) next is))
  where
    J : Instance
    J = instance_of rows ++ next ∷ []

-- ---- a row is put behind the rows, and then noted in each of them
pub put_behind : (v : Vec Row) (old now : List Row) (I : Instance) (last : Row) (place : ℕ) → instance_of v.items ≡ I →
    length I < buffer_limit → AreRows v.items → old ≡ v.items →
    IsNoted (instance_of old ++ last.buffer ∷ []) (length old) last.shares.words.items (length old + 1) →
    now ≡ v.items ++ last ∷ [] → place ≡ v.len → AreNext now place
put_behind v old now I last place view few told same own is at = rw (is, at, v.ok.0) (
  rw (row_count rows I view) few,
  record {
    view = refl;
    count = rw (buffers, length-append, count) refl;
    own = rw (buffers, at_last, ← same) own;
    done = λ b lt. absurd (omega (arith, lt));
    left = λ b le lt. rw (buffers, before b lt, ← count)
        (noted_before_next (instance_of rows) last.buffer b _ (rw count lt) (told b (rw count lt)));
  },
)
  where
    rows : List Row
    rows = v.items

    count : length (instance_of rows) ≡ length rows
    count = length-map rows (λ (r : Row). r.buffer)

    buffers : instance_of (rows ++ last ∷ []) ≡ instance_of rows ++ last.buffer ∷ []
    buffers = map_push (λ (r : Row). r.buffer) rows last

    words : words_of (rows ++ last ∷ []) ≡ words_of rows ++ last.shares.words.items ∷ []
    words = map_push (λ (r : Row). r.shares.words.items) rows last

    word_count : length (words_of rows) ≡ length rows
    word_count = length-map rows (λ (r : Row). r.shares.words.items)

    at_last : slice_index_or (words_of (rows ++ last ∷ [])) (length rows) [] ≡ last.shares.words.items
    at_last = ap (λ t. slice_index_or t (length rows) []) words
        ∙ subst (λ n. slice_index_or (words_of rows ++ last.shares.words.items ∷ []) n [] ≡ last.shares.words.items)
        word_count (get_or-append_seam (words_of rows) last.shares.words.items [] [])

    before : (b : ℕ) → b < length rows →
        slice_index_or (words_of (rows ++ last ∷ [])) b [] ≡ slice_index_or (words_of rows) b []
    before b lt = ap (λ t. slice_index_or t b []) words
        ∙ get_or_append_left (words_of rows) (last.shares.words.items ∷ []) [] b (rw word_count lt)

pub all_noted : (I : Instance) (rows : List Row) (last : ℕ) → AreNoted I rows last last → AreRows rows
all_noted I rows last h = rw (h.view) (λ b lt. go b (below_or_last b last (rw (← h.count) lt)))
  where
    go : (b : ℕ) → (b < last) ⊎ (b ≡ last) → IsNoted I b (slice_index_or (words_of rows) b []) (length I)
    go b (inl lt) = rw (h.count) (h.done b lt)
    go b (inr q) = rw (h.count, q) h.own

pub pushed : (v : Vec Row) (rows given new : List Row) (I : Instance) (last : Row) → instance_of rows ≡ I →
    length I < buffer_limit → All IsBuffer (instance_of rows) → IsBuffer last.buffer → v.items ≡ rows ++ last ∷ [] →
    given ≡ v.items → instance_of new ≡ instance_of given → AreRows new → let now = (with_items v new).items in
    (length now ≤ buffer_limit) × All IsBuffer (instance_of now) × AreRows now
pushed v rows given new I last view few all sound is lent kept noted = rw written (
  rw (← length-map new (λ (r : Row). r.buffer), buffers, length-append, length-map rows (λ (r : Row). r.buffer))
      few_now,
  rw buffers (All-push IsBuffer (instance_of rows) last.buffer all sound),
  noted,
)
  where
    same : instance_of new ≡ instance_of v.items
    same = kept ∙ ap instance_of lent

    buffers : instance_of new ≡ instance_of rows ++ last.buffer ∷ []
    buffers = same ∙ ap instance_of is ∙ map_push (λ (r : Row). r.buffer) rows last

    few_now : length rows + 1 ≤ buffer_limit
    few_now = rw (row_count rows I view) (omega (arith, few))

    written : (with_items v new).items ≡ new
    written = with_items_is v new (sym (length-map new (λ (r : Row). r.buffer)) ∙ ap length same
        ∙ length-map v.items (λ (r : Row). r.buffer) ∙ sym v.ok.0)
