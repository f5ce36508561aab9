-- What the code's changes stand for, and what is read of changes.
use Rattle.std.specs.Prelude.{◌≡◌, ℕ, List, ◌∷◌, ◌++◌, map, flat_map}
use Rattle.log_text.specs.Changes.{Change, Drops, Puts}
use Rattle.log_text.specs.Digits.{Ends}
use Rattle.log_text.specs.Reading.{capped, capped_pair}
use Rattle.log_text.specs.Spellings.{change_text}
use Rattle.log_text.specs.declared.changes.Edit.{Edit}
use Rattle.log_text.specs.declared.changes.Edit.TheVariants as edit

-- the change that the code's one stands for
abbrev pub change_value : Edit → Change
change_value (edit.Puts b x) = Puts (b, x)
change_value (edit.Drops b) = Drops b

-- each number of a change
abbrev pub capped_change : Change → Change
capped_change (Puts e) = Puts (capped_pair e)
capped_change (Drops b) = Drops (capped b)

-- the changes, each after a space
abbrev pub changes_text : List Change → List ℕ
changes_text cs = flat_map (λ c. 32 ∷ change_text c) cs

-- what may follow a claim: no digit, no change after a space, and no base
pub record EndsSpelling (r : List ℕ) : Type 0 where
  pub ends : Ends r
  pub no_change : (c : Change) (more : List ℕ) → r ≡ 32 ∷ (change_text c ++ more) → ⊥
  pub no_base : (cs : List ℕ) → r ≡ 64 ∷ cs → ⊥

-- these bytes end changes, whatever follows
abbrev pub EndsChanges : List ℕ → Type 0
EndsChanges end = (r : List ℕ) → EndsSpelling (end ++ r)

-- changes and the bytes that have to follow them were read
pub record AreChangesRead (end old : List ℕ) (values : List Change) (new : List ℕ) : Type 0 where
  pub items : List Change
  pub text : old ≡ changes_text items ++ (end ++ new)
  pub values_are : values ≡ map capped_change items

-- no changes with these bytes after them stand here
abbrev pub HasNoChanges : List ℕ → List ℕ → Type 0
HasNoChanges end old = (xs : List Change) (r : List ℕ) → old ≡ changes_text xs ++ (end ++ r) → ⊥
