-- Rows of some of the buffers of an instance, with what they tell taken over from the instance's own rows.
use Rattle.std.proofs.Common.{◌≡◌, ◌+◌, ◌<◌, ◌≤◌, ℕ, Bool, List, [], ◌∷◌, ◌++◌, length, slice_index, slice_index_or, take, All, sym, ap, ◌∙◌, arith}
use Rattle.std.proofs.lemmas.List.{get_or-map, length-map, length-take-le, map_push, take_more}
use Rattle.std.proofs.lemmas.List.Elements.{All-push}
use Rattle.dsa_terms.specs.Buffers.{Instance, buffer, do_share, no_buffer}
use Rattle.dsa_model.specs.Buffer.{IsBuffer}
use Rattle.dsa_model.specs.Chosen.{some_of}
use Rattle.dsa_model.specs.Rows.{AreChosen, IsNoted, words_of, instance_of}
use Rattle.dsa_model.specs.declared.instance.Row.{Row}
use Rattle.dsa_model.proofs.Sharing.{all_pushed}

-- ---- a member of the instance
-- a member's number is a buffer's
member_in : (I : Instance) (members : List ℕ) (c : ℕ) → All (λ b. b < length I) members → c < length members →
    slice_index members c < length I
member_in I members c all lt = all c 0 lt

-- the buffer at a place of the chosen ones
pub chosen_at : (I : Instance) (members : List ℕ) (c : ℕ) → c < length members →
    buffer (some_of I members) c ≡ buffer I (slice_index members c)
unfolding buffer
chosen_at I members c lt = get_or-map (buffer I) members c 0 no_buffer lt

-- a buffer by its row
row_buffer : (base : List Row) (I : Instance) (b : ℕ) (row : Row) → instance_of base ≡ I → b < length I →
    row ≡ slice_index_or base b row → row.buffer ≡ buffer I b
unfolding buffer
row_buffer base I b row view lt at =
    ap (λ (r : Row). r.buffer) at
    ∙ sym (get_or-map (λ (r : Row). r.buffer) base b row no_buffer
    (rw (← length-map base (λ (r : Row). r.buffer), view) lt))
    ∙ ap (λ (J : Instance). slice_index_or J b no_buffer) view

-- what is found of two members is so of the places where they stand
pub of_members : (I : Instance) (members : List ℕ) (b c : ℕ) (bit : Bool) → b < length members → c < length members →
    bit ≡ do_share (buffer I (slice_index members b)) (buffer I (slice_index members c)) →
    bit ≡ do_share (buffer (some_of I members) b) (buffer (some_of I members) c)
of_members I members b c bit lb lc is = rw (chosen_at I members b lb, chosen_at I members c lc) is

-- ---- the rows of the members, one after another
chosen_count : (I : Instance) (members : List ℕ) (rows : List Row) (n : ℕ) → n ≤ length members →
    AreChosen I members rows n → length rows ≡ n
chosen_count I members rows n within h =
    sym (length-map rows (λ (r : Row). r.buffer)) ∙ ap length h.buffers
    ∙ length-map (take n members) (buffer I) ∙ length-take-le n members within

pub chosen_next : (base rows now : List Row) (I : Instance) (members : List ℕ) (n : ℕ) (row next : Row) →
    instance_of base ≡ I → All (λ b. b < length I) members → n < length members →
    row ≡ slice_index_or base (slice_index members n) row → next.buffer ≡ row.buffer → IsBuffer next.buffer →
    IsNoted (some_of I members) n next.shares.words.items (length members) → now ≡ rows ++ next ∷ [] →
    AreChosen I members rows n → AreChosen I members now (n + 1)
chosen_next base rows now I members n row next view all lt at same sound tells is h =
    rw is record {
      buffers = pushed ∙ rw (h.buffers, source) (sym (ap (some_of I) (take_more members n 0 lt)
          ∙ map_push (buffer I) (take n members) (slice_index members n)));
      sound = rw pushed (All-push IsBuffer (instance_of rows) next.buffer h.sound sound);
      told = rw words (all_pushed (some_of I members) (words_of rows) next.shares.words.items n count h.told
          (rw count_all tells));
    }
  where
    pushed : instance_of (rows ++ next ∷ []) ≡ instance_of rows ++ next.buffer ∷ []
    pushed = map_push (λ (r : Row). r.buffer) rows next

    words : words_of (rows ++ next ∷ []) ≡ words_of rows ++ next.shares.words.items ∷ []
    words = map_push (λ (r : Row). r.shares.words.items) rows next

    source : next.buffer ≡ buffer I (slice_index members n)
    source = same ∙ row_buffer base I (slice_index members n) row view (member_in I members n all lt) at

    count : length (words_of rows) ≡ n
    count = length-map rows (λ (r : Row). r.shares.words.items) ∙ chosen_count I members rows n (omega (arith, lt)) h

    count_all : length (some_of I members) ≡ length members
    count_all = length-map members (buffer I)
