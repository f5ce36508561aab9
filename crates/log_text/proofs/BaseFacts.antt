-- Worked cases of what the text of version 2 chooses: the base of a difference, and where one is written.
use Rattle.std.specs.Prelude.{cond}
use Rattle.std.proofs.Common.{◌≡◌, ◌<◌, ◌≤◌, ℕ, Bool, List, [], ◌∷◌, ◌++◌, codes, length, refl, ap}
use Rattle.dsa_terms.specs.Claims.{Claim}
use Rattle.dsa_terms.proofs.NumberTests.{is_below, not_below}
use Rattle.log_text.specs.Changes.{Drops, Puts, difference}
use Rattle.log_text.specs.Numerals.{numeral}
use Rattle.log_text.specs.Spellings.{From, Full, OverAs, claim_said, raw_text2, shorter, spelled_lines, spelling_text}
use Rattle.log_text.specs.declared.raw.RawLine.{RawLine}
use Rattle.log_text.specs.declared.raw.RawLine.TheVariants as raw_line

-- ---- claims that grow, the first of them twice
abbrev one : Claim
one = (0, 0) ∷ (2, 0) ∷ (4, 0) ∷ []

abbrev two : Claim
two = (0, 0) ∷ (1, 0) ∷ (2, 0) ∷ (4, 0) ∷ []

abbrev three : Claim
three = (0, 0) ∷ (1, 0) ∷ (2, 0) ∷ (3, 0) ∷ (4, 0) ∷ []

abbrev growing : List RawLine
growing = raw_line.Over 0 0 1 one ∷ raw_line.Over 0 0 1 one ∷ raw_line.Over 0 0 1 two ∷ raw_line.Over 0 0 1 three ∷ []

-- the base is the line before, though line 0 is one for each
the_base_is_the_line_before : spelled_lines growing ≡
    OverAs 0 0 1 (Full one) ∷ OverAs 0 0 1 (From 0 []) ∷ OverAs 0 0 1 (From 1 (Puts (1, 0) ∷ []))
    ∷ OverAs 0 0 1 (From 2 (Puts (3, 0) ∷ [])) ∷ []
unfolding numeral
the_base_is_the_line_before = refl

its_text : raw_text2 (record { count = 5; capacity = 11; lines = growing; end = 0 }) ≡
    codes "dsalog 2 5 11\n" ++ codes "over 0 0 1 : 0=0 2=0 4=0\n" ++ codes "over 0 0 1 : @0\n"
    ++ codes "over 0 0 1 : @1 1=0\n" ++ codes "over 0 0 1 : @2 3=0\n" ++ codes "end 0\n"
unfolding numeral
its_text = refl

-- for the third line the first would do as well: it says the same claim in as many bytes
line_0_says_it_too : claim_said growing (From 0 (Puts (1, 0) ∷ [])) ≡ claim_said growing (From 1 (Puts (1, 0) ∷ []))
line_0_says_it_too = refl

-- the line that is named, and not the one before
the_line_that_is_named : claim_said (raw_line.Over 0 0 1 one ∷ raw_line.Over 0 0 1 ((0, 0) ∷ []) ∷ [])
    (From 0 (Puts (1, 0) ∷ []))
    ≡ two
the_line_that_is_named = refl

in_as_many_bytes : length (spelling_text (From 0 (Puts (1, 0) ∷ [])))
    ≡ length (spelling_text (From 1 (Puts (1, 0) ∷ [])))
unfolding numeral
in_as_many_bytes = refl

-- ---- a claim that comes back: the line before is its base, though the first has it whole
the_line_before_though_another_is_shorter :
    spelled_lines (raw_line.Over 0 0 1 one ∷ raw_line.Over 0 0 1 ((0, 0) ∷ []) ∷ raw_line.Over 0 0 1 one ∷ []) ≡
    OverAs 0 0 1 (Full one) ∷ OverAs 0 0 1 (Full ((0, 0) ∷ [])) ∷
    OverAs 0 0 1 (From 1 (Puts (2, 0) ∷ Puts (4, 0) ∷ [])) ∷ []
unfolding numeral
the_line_before_though_another_is_shorter = refl

-- ---- a difference as short as the claim in full
abbrev falling : List RawLine
falling = raw_line.Over 0 0 1 ((2, 0) ∷ (10, 10) ∷ []) ∷ raw_line.Over 0 0 1 ((10, 10) ∷ []) ∷
    raw_line.Over 0 0 1 ((0, 0) ∷ []) ∷ []

as_long : length (spelling_text (From 0 (difference ((2, 0) ∷ (10, 10) ∷ []) ((10, 10) ∷ []))))
    ≡ length (spelling_text (Full ((10, 10) ∷ [])))
unfolding numeral
as_long = refl

so_it_is_in_full : spelled_lines falling ≡ OverAs 0 0 1 (Full ((2, 0) ∷ (10, 10) ∷ []))
    ∷ OverAs 0 0 1 (Full ((10, 10) ∷ [])) ∷ OverAs 0 0 1 (Full ((0, 0) ∷ [])) ∷ []
unfolding numeral
so_it_is_in_full = refl

its_text_in_full : raw_text2 (record { count = 11; capacity = 9; lines = falling; end = 2 }) ≡
    codes "dsalog 2 11 9\n" ++ codes "over 0 0 1 : 2=0 10=10\n" ++ codes "over 0 0 1 : 10=10\n"
    ++ codes "over 0 0 1 : 0=0\n" ++ codes "end 2\n"
unfolding numeral
its_text_in_full = refl

-- one byte less, and it is a difference
one_byte_less : shorter 0 ((2, 0) ∷ (10, 100) ∷ []) ((10, 100) ∷ []) ≡ From 0 (Drops 2 ∷ [])
unfolding numeral
one_byte_less = refl

-- ---- any claims
-- where neither has fewer bytes the claim is in full
as_long_is_in_full : (k : ℕ) (l m : Claim) →
    length (spelling_text (Full m)) ≤ length (spelling_text (From k (difference l m))) → shorter k l m ≡ Full m
as_long_is_in_full k l m h = ap (λ (t : Bool). cond t (From k (difference l m)) (Full m))
    (not_below (length (spelling_text (From k (difference l m)))) (length (spelling_text (Full m))) h)

shorter_is_a_difference : (k : ℕ) (l m : Claim) →
    length (spelling_text (From k (difference l m))) < length (spelling_text (Full m)) →
    shorter k l m ≡ From k (difference l m)
shorter_is_a_difference k l m h = ap (λ (t : Bool). cond t (From k (difference l m)) (Full m))
    (is_below (length (spelling_text (From k (difference l m)))) (length (spelling_text (Full m))) h)
