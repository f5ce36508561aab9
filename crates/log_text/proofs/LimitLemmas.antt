-- Differences within their limits, and those whose changes rise.
use Rattle.std.proofs.Common.{◌≡◌, ◌↔◌, ◌^◌, ◌≤◌, ℕ, Bool, IsTrue, List, [], ◌∷◌, map, All, sym, subst, ◌∙◌}
use Rattle.std.proofs.lemmas.List.Elements.{All-cons, All-head, All-map, All-nil, All-tail}
use Rattle.dsa_terms.specs.Claims.{Rises}
use Rattle.log_text.specs.Changes.{buffer_of}
use Rattle.log_text.specs.Edits.{change_value}
use Rattle.log_text.specs.Says.{IsChangeWithin, IsLineRising, IsSpellingRising, IsSpellingWithin}
use Rattle.log_text.specs.Spellings.{CasesAs, From, Spelled, Spelling}
use Rattle.log_text.specs.declared.changes.Edit.{Edit}
use Rattle.log_text.specs.declared.raw.RawCite.{RawCite}
use Rattle.log_text.proofs.SaidLemmas.{map_map}

all_unmap : {X Y : Type 0} (P : Y → Type 0) (f : X → Y) (xs : List X) → All P (map f xs) → All (λ x. P (f x)) xs
all_unmap P f [] a = All-nil (λ x. P (f x))
all_unmap P f (x ∷ xs) a = All-cons (λ x. P (f x)) x xs (All-head P (f x) (map f xs) a)
    (all_unmap P f xs (All-tail P (f x) (map f xs) a))

pub difference_within : (r : Bool) (s : Spelling) (base : ℕ) (items : List Edit) →
    s ≡ From base (map change_value items) →
    base ≤ 2 ^ 60 → IsTrue r ↔ All (λ e. IsChangeWithin (change_value e)) items → IsTrue r ↔ IsSpellingWithin s
difference_within r s base items q b h = subst (λ (x : Spelling). IsTrue r ↔ IsSpellingWithin x) (sym q) (
  λ t. (b, All-map IsChangeWithin change_value items (h.0 t)),
  λ w. h.1 (all_unmap IsChangeWithin change_value items w.1),
)

pub difference_rises : (r : Bool) (s : Spelling) (base : ℕ) (items : List Edit) →
    s ≡ From base (map change_value items) →
    IsTrue r ↔ Rises (map (λ e. buffer_of (change_value e)) items) → IsTrue r ↔ IsSpellingRising s
difference_rises r s base items q h = subst (λ (x : Spelling). IsTrue r ↔ IsSpellingRising x) (sym q) (
  λ t. subst Rises (sym (map_map buffer_of change_value items)) (h.0 t),
  λ w. h.1 (subst Rises (map_map buffer_of change_value items) w),
)

pub cases_rise : (r : Bool) (line s : Spelled) (spelling : Spelling) (cites xs : List (ℕ × RawCite)) → line ≡ s →
    s ≡ CasesAs spelling cites → IsSpellingRising spelling → xs ≡ cites →
    IsTrue r ↔ Rises (map (λ (p : ℕ × RawCite). p.0) xs) → IsTrue r ↔ IsLineRising line
cases_rise r line s spelling cites xs p q i e h = subst (λ (x : Spelled). IsTrue r ↔ IsLineRising x) (sym (p ∙ q)) (
  λ t. (i, subst (λ (ys : List (ℕ × RawCite)). Rises (map (λ (p : ℕ × RawCite). p.0) ys)) e (h.0 t)),
  λ w. h.1 (subst (λ (ys : List (ℕ × RawCite)). Rises (map (λ (p : ℕ × RawCite). p.0) ys)) (sym e) w.1),
)
