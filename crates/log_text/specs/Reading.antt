-- What the parts of the reader give, and when one gives nothing.
use Rattle.std.specs.Prelude.{◌≡◌, codes, ℕ, ◌-◌, ◌^◌, false, true, ◌≢◌, cond, nat_lt, min, Option, Some, None, List, [], ◌∷◌, ◌++◌, map}
use Rattle.dsa_terms.specs.Claims.{Entry}
use Rattle.log_text.specs.Digits.{Ends, Stops, is_digit}
use Rattle.log_text.specs.Numerals.{numeral}
use Rattle.log_text.specs.RawTexts.{spaced}
use Rattle.log_text.specs.declared.raw.RawCite.{RawCite}
use Rattle.log_text.specs.declared.raw.RawCite.TheVariants as raw_cite

-- the number where it fits 64 bits
unfoldable pub fitting : ℕ → Option ℕ
fitting n = cond (nat_lt n (2 ^ 64)) (Some n) None

-- the number, or the greatest of 64 bits where it is above that
abbrev pub capped : ℕ → ℕ
capped n = min n (2 ^ 64 - 1)

-- both numbers of a pair
abbrev pub capped_pair : Entry → Entry
capped_pair e = (capped e.0, capped e.1)

-- both numbers of a cite with its buffer
abbrev pub capped_cite : ℕ × RawCite → ℕ × RawCite
capped_cite (b, raw_cite.Line k) = (capped b, raw_cite.Line (capped k))
capped_cite (b, raw_cite.Below c) = (capped b, raw_cite.Below (capped c))
capped_cite (b, raw_cite.Twin c) = (capped b, raw_cite.Twin (capped c))

-- a number was read, and no digit follows
pub record IsNumberRead (old : List ℕ) (value : Option ℕ) (new : List ℕ) : Type 0 where
  pub number : ℕ
  pub text : old ≡ numeral number ++ new
  pub stops : Stops new
  pub value_is : value ≡ fitting number

-- no number stands here, up to where digits end
abbrev pub HasNoNumber : List ℕ → Type 0
HasNoNumber old = (n : ℕ) (r : List ℕ) → Stops r → old ≡ numeral n ++ r → ⊥

-- no digit begins this text, and it is not empty
abbrev pub IsBreak : List ℕ → Type 0
IsBreak [] = ⊥
IsBreak (c ∷ cs) = is_digit c ≡ false

-- a number and the bytes that have to follow it were read
pub record IsFieldRead (end old : List ℕ) (value : Option ℕ) (new : List ℕ) : Type 0 where
  pub number : ℕ
  pub text : old ≡ numeral number ++ (end ++ new)
  pub value_is : value ≡ fitting number

-- no number with these bytes after it stands here
abbrev pub HasNoField : List ℕ → List ℕ → Type 0
HasNoField end old = (n : ℕ) (r : List ℕ) → old ≡ numeral n ++ (end ++ r) → ⊥

-- a number, a mark and a number were read
pub record IsMarkedRead (old : List ℕ) (first mark second : ℕ) (new : List ℕ) : Type 0 where
  pub before : ℕ
  pub after : ℕ
  pub text : old ≡ numeral before ++ (mark ∷ (numeral after ++ new))
  pub no_digit : is_digit mark ≡ false
  pub stops : Stops new
  pub first_is : first ≡ capped before
  pub second_is : second ≡ capped after

-- no number, mark and number stand here
abbrev pub HasNoMarked : List ℕ → Type 0
HasNoMarked old = (a b x : ℕ) (r : List ℕ) → is_digit x ≡ false → Stops r →
    old ≡ numeral a ++ (x ∷ (numeral b ++ r)) → ⊥

-- an item was read
pub record IsItemRead {X : Type 0} (text_of : X → List ℕ) (fit : X → X) (old : List ℕ) (value : X)
    (new : List ℕ) : Type 0 where
  pub item : X
  pub text : old ≡ text_of item ++ new
  pub stops : Stops new
  pub value_is : value ≡ fit item

-- no item stands here
abbrev pub HasNoItem : {X : Type 0} → (X → List ℕ) → List ℕ → Type 0
HasNoItem {X} text_of old = (x : X) (r : List ℕ) → Stops r → old ≡ text_of x ++ r → ⊥

-- the text begins with a digit
abbrev pub BeginsDigit : List ℕ → Type 0
BeginsDigit [] = ⊥
BeginsDigit (c ∷ cs) = is_digit c ≡ true

-- these bytes end a list, whatever follows
abbrev pub IsListEnd : List ℕ → Type 0
IsListEnd end = (r : List ℕ) → Ends (end ++ r)

-- a list of items and the bytes that have to follow it were read
pub record IsListRead {X : Type 0} (text_of : X → List ℕ) (fit : X → X) (end old : List ℕ) (values : List X)
    (new : List ℕ) : Type 0 where
  pub items : List X
  pub some : items ≢ []
  pub text : old ≡ spaced text_of items ++ (end ++ new)
  pub values_are : values ≡ map fit items

-- no list of items, one or more, with these bytes after it stands here
abbrev pub HasNoList : {X : Type 0} → (X → List ℕ) → List ℕ → List ℕ → Type 0
HasNoList {X} text_of end old = (xs : List X) (r : List ℕ) → xs ≢ [] → old ≡ spaced text_of xs ++ (end ++ r) → ⊥

-- the three numbers of an Over line, up to its claim
abbrev pub over_start : ℕ → ℕ → ℕ → List ℕ → List ℕ
over_start T H G r = numeral T ++ (codes " " ++ (numeral H ++ (codes " " ++ (numeral G ++ (codes " : " ++ r)))))

-- the three numbers were read
pub record IsStartRead (old : List ℕ) (moment height modulus : ℕ) (new : List ℕ) : Type 0 where
  pub T : ℕ
  pub H : ℕ
  pub G : ℕ
  pub text : old ≡ over_start T H G new
  pub moment_is : moment ≡ capped T
  pub height_is : height ≡ capped H
  pub modulus_is : modulus ≡ capped G

-- no three numbers stand here
abbrev pub HasNoStart : List ℕ → Type 0
HasNoStart old = (T H G : ℕ) (r : List ℕ) → old ≡ over_start T H G r → ⊥
