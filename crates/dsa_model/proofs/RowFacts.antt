-- Worked facts of the rows of an instance.
use Rattle.std.proofs.Common.{◌≡◌, ℕ, zero, suc, ◌-◌, ◌/◌, ◌%◌, ◌^◌, ◌==◌, ◌<◌, ◌≤◌, ◌⊎◌, inl, inr, ◌&&◌, Bool, true, false, List, [], ◌∷◌, nat_lt, length, map, replicate, slice_index_or, refl, ◌∙◌, ap, subst, arith}
use Rattle.std.proofs.lemmas.Bool.{cases_lt}
use Rattle.std.proofs.lemmas.Bool.Decides.{nat_tests}
use Rattle.std.proofs.lemmas.Nat.Bits.{bit_at_above, bit_at-zero}
use Rattle.dsa_model.proofs.BitLemmas.{no_word}
use Rattle.dsa_terms.specs.Buffers.{Instance, buffer, do_share, is_live, some_before}
use Rattle.dsa_model.specs.Bits.{Reaches, is_set}
use Rattle.dsa_model.specs.Buffer.{lasting}
use Rattle.dsa_model.specs.Rows.{AllNoted, AreChosen, AreNext, AreRows, IsNoted, instance_of, words_of}
use Rattle.dsa_model.specs.declared.instance.Row.{Row}

-- ---- bits: 5 has those of the places 0 and 2, and 1 in the second word that of place 64
of_one_word : map (is_set (5 ∷ [])) (0 ∷ 1 ∷ 2 ∷ 3 ∷ []) ≡ true ∷ false ∷ true ∷ false ∷ []
unfolding is_set
of_one_word = refl

of_two_words : map (is_set (0 ∷ 1 ∷ [])) (0 ∷ 63 ∷ 64 ∷ 65 ∷ []) ≡ false ∷ false ∷ true ∷ false ∷ []
unfolding is_set
of_two_words = refl

-- a word reaches as far as place 63
to_63 : Reaches (0 ∷ []) 63
to_63 = omega arith

not_to_64 : Reaches (0 ∷ []) 64 → ⊥
not_to_64 h = omega arith

-- ---- rows
its_buffers : (first second : Row) → instance_of (first ∷ second ∷ []) ≡ first.buffer ∷ second.buffer ∷ []
its_buffers first second = refl

its_words : (first second : Row) →
    words_of (first ∷ second ∷ []) ≡ first.shares.words.items ∷ second.shares.words.items ∷ []
its_words first second = refl

-- two buffers that share moment 2, and one that shares no moment with the first
three : Instance
three = lasting 0 3 [] ∷ lasting 2 4 [] ∷ lasting 3 5 [] ∷ []

-- 63 words without a bit, so that with one more there is a bit for each buffer that an instance can have
unfoldable rest : List ℕ
rest = replicate 63 0

no_other_bit : (word c : ℕ) → word < 2 ^ 3 → 3 ≤ c → is_set (word ∷ rest) c ≡ false
unfolding is_set rest
no_other_bit word c small past = go (cases_lt c 64)
  where
    go : (c < 64) ⊎ (64 ≤ c) → is_set (word ∷ rest) c ≡ false
    go (inl lt) =
        let first : c / 64 ≡ 0 = omega arith in
        let place : c % 64 ≡ c = omega arith in
        rw (first, place) (ap (λ t. t == 1) (bit_at_above word 3 c small past))
    go (inr le) =
        let place : c / 64 ≡ suc (c / 64 - 1) = omega arith in
        rw (place, no_word 63 (c / 64 - 1)) (ap (λ t. t == 1) (bit_at-zero (c % 64)))

not_below : (c n : ℕ) (t : Bool) → n ≤ c → false ≡ (nat_lt c n && t)
not_below c n t le = grind (arith, nat_tests)

noted_three : (b word : ℕ) → word < 2 ^ 3 → is_set (word ∷ rest) 0 ≡ do_share (buffer three b) (buffer three 0) →
    is_set (word ∷ rest) 1 ≡ do_share (buffer three b) (buffer three 1) →
    is_set (word ∷ rest) 2 ≡ do_share (buffer three b) (buffer three 2) → IsNoted three b (word ∷ rest) 3
unfolding rest
noted_three b word small first second third = record { reaches = omega arith; noted = noted }
  where
    noted : (c : ℕ) → is_set (word ∷ rest) c ≡ (nat_lt c 3 && do_share (buffer three b) (buffer three c))
    noted zero = first
    noted (suc zero) = second
    noted (suc (suc zero)) = third
    noted (suc (suc (suc c))) = no_other_bit word _ small (omega arith)
        ∙ not_below (suc (suc (suc c))) 3 _ (omega arith)

-- the first shares a moment with the second, the second with all three
first_tells : IsNoted three 0 (3 ∷ rest) 3
unfolding three buffer do_share some_before is_live is_set rest
first_tells = noted_three 0 3 (omega arith) refl refl refl

second_tells : IsNoted three 1 (7 ∷ rest) 3
unfolding three buffer do_share some_before is_live is_set rest
second_tells = noted_three 1 7 (omega arith) refl refl refl

third_tells : IsNoted three 2 (6 ∷ rest) 3
unfolding three buffer do_share some_before is_live is_set rest
third_tells = noted_three 2 6 (omega arith) refl refl refl

-- the third does not share a moment with the first, and does with itself
not_all_bits : IsNoted three 2 (7 ∷ rest) 3 → ⊥
unfolding three buffer do_share some_before is_live is_set rest
not_all_bits h = let noted = h.noted 0 in absurd cc

not_without_itself : IsNoted three 2 (2 ∷ rest) 3 → ⊥
unfolding three buffer do_share some_before is_live is_set rest
not_without_itself h = let noted = h.noted 2 in absurd cc

-- one word is too short
not_in_one_word : (I : Instance) (b n : ℕ) → IsNoted I b (0 ∷ []) n → ⊥
not_in_one_word I b n h = let reaches = h.reaches in absurd (omega arith)

-- of any rows with these buffers and words
all_tell : AllNoted three ((3 ∷ rest) ∷ (7 ∷ rest) ∷ (6 ∷ rest) ∷ []) 3
unfolding three
all_tell zero lt = first_tells
all_tell (suc zero) lt = second_tells
all_tell (suc (suc zero)) lt = third_tells
all_tell (suc (suc (suc b))) lt = absurd (omega arith)

are_rows : (rows : List Row) → instance_of rows ≡ three →
    words_of rows ≡ (3 ∷ rest) ∷ (7 ∷ rest) ∷ (6 ∷ rest) ∷ [] → AreRows rows
unfolding three
are_rows rows buffers words = rw (buffers, words) all_tell

no_rows : (rows : List Row) → instance_of rows ≡ three →
    words_of rows ≡ (3 ∷ rest) ∷ (7 ∷ rest) ∷ (7 ∷ rest) ∷ [] → AreRows rows → ⊥
unfolding three
no_rows rows buffers words told = not_all_bits (tells 2 (omega arith))
  where
    all : AllNoted (instance_of rows) (words_of rows) 3
    all = subst (AllNoted (instance_of rows) (words_of rows)) (ap length buffers) told

    tells : AllNoted three ((3 ∷ rest) ∷ (7 ∷ rest) ∷ (7 ∷ rest) ∷ []) 3
    tells = subst (λ t. AllNoted three t 3) words (subst (λ J. AllNoted J (words_of rows) 3) buffers all)

-- ---- what is noted of the third, after the first two: nothing of itself
not_itself_yet : IsNoted three 2 (6 ∷ rest) 2 → ⊥
unfolding three buffer do_share some_before is_live is_set rest
not_itself_yet h = let noted = h.noted 2 in absurd cc

-- ---- the third put behind the first two, which tell of each other and not yet of it
noted_two : (b : ℕ) → is_set (3 ∷ rest) 0 ≡ do_share (buffer three b) (buffer three 0) →
    is_set (3 ∷ rest) 1 ≡ do_share (buffer three b) (buffer three 1) → IsNoted three b (3 ∷ rest) 2
unfolding is_set rest
noted_two b first second = record { reaches = omega arith; noted = noted }
  where
    noted : (c : ℕ) → is_set (3 ∷ rest) c ≡ (nat_lt c 2 && do_share (buffer three b) (buffer three c))
    noted zero = first
    noted (suc zero) = second
    noted (suc (suc zero)) = refl
    noted (suc (suc (suc c))) = no_other_bit 3 (suc (suc (suc c))) (omega arith) (omega arith)
        ∙ not_below (suc (suc (suc c))) 2 _ (omega arith)

two_tell : (b : ℕ) → b < 2 → IsNoted three b (slice_index_or ((3 ∷ rest) ∷ (3 ∷ rest) ∷ (6 ∷ rest) ∷ []) b []) 2
unfolding three buffer do_share some_before is_live is_set rest
two_tell zero lt = noted_two 0 refl refl
two_tell (suc zero) lt = noted_two 1 refl refl
two_tell (suc (suc b)) lt = absurd (omega arith)

third_is_next : (rows : List Row) → instance_of rows ≡ three →
    words_of rows ≡ (3 ∷ rest) ∷ (3 ∷ rest) ∷ (6 ∷ rest) ∷ [] → AreNext rows 2
unfolding three
third_is_next rows buffers words = (
  omega arith,
  record {
    view = refl;
    count = ap length buffers;
    own = rw (buffers, words) third_tells;
    done = λ b lt. absurd (omega arith);
    left = λ b from lt. rw (buffers, words) (two_tell b lt);
  },
)

-- where the second tells of it, it has been told already
told_already : (rows : List Row) → instance_of rows ≡ three →
    words_of rows ≡ (3 ∷ rest) ∷ (7 ∷ rest) ∷ (6 ∷ rest) ∷ [] → AreNext rows 2 → ⊥
unfolding three buffer do_share some_before is_live is_set rest
told_already rows buffers words h =
    let own : IsNoted three 1 (7 ∷ rest) 2 =
    rw words at (rw buffers at (h.1.left 1 (omega arith) (omega arith))) in
    let noted = own.noted 2 in
    absurd cc

-- the last is at place 2
not_at_three : (rows : List Row) → instance_of rows ≡ three → AreNext rows 3 → ⊥
unfolding three
not_at_three rows buffers h = let e = ap length buffers in let k = h.1.count in absurd (omega arith)

-- ---- rows of some of the buffers
-- no rows are the first 0 of any
none_chosen : (members : List ℕ) → AreChosen three members [] 0
none_chosen members = record {
  buffers = refl;
  sound = λ k d lt. absurd (omega arith);
  told = λ b lt. absurd (omega arith);
}

-- the rows of the first alone are not those of the first two
not_both : (members : List ℕ) (first : Row) → AreChosen three (0 ∷ 1 ∷ members) (first ∷ []) 2 → ⊥
not_both members first h = let e = ap length h.buffers in absurd (omega (arith, e))
