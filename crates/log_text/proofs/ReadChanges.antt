-- Changes that are read one by one, and where none stand.
use Rattle.std.proofs.Common.{◌≡◌, ℕ, List, [], ◌∷◌, ◌++◌, map, refl, sym, ap, ◌∙◌, append_assoc}
use Rattle.std.proofs.lemmas.List.{append-nil}
use Rattle.std.proofs.lemmas.List.Concat.{flat_map-append}
use Rattle.log_text.specs.Changes.{Change, Drops, Puts}
use Rattle.log_text.specs.Digits.{Stops}
use Rattle.log_text.specs.Edits.{AreChangesRead, EndsChanges, HasNoChanges, capped_change, change_value, changes_text}
use Rattle.dsa_terms.specs.Claims.{Entry}
use Rattle.log_text.specs.Numerals.{numeral}
use Rattle.log_text.specs.RawTexts.{pair_text}
use Rattle.log_text.specs.Reading.{HasNoItem, HasNoNumber, IsItemRead, capped, capped_pair}
use Rattle.log_text.specs.Spellings.{change_text}
use Rattle.log_text.specs.declared.changes.Edit.{Edit}
use Rattle.log_text.proofs.PrefixFree.{ends_stop, head_of, pairs_are_items, tail_of}
use Rattle.log_text.proofs.Splits.{change_split, changes_stop, digit_clash}

-- these changes were read
pub record IsChangesSoFar (old : List ℕ) (values : List Change) (mid : List ℕ) : Type 0 where
  pub items : List Change
  pub text : old ≡ changes_text items ++ mid
  pub stops : Stops mid
  pub values_are : values ≡ map capped_change items

pub none_so_far : (old : List ℕ) → Stops old → IsChangesSoFar old [] old
none_so_far old s = record { items = []; text = refl; stops = s; values_are = refl }

-- one more
pub change_more : (old : List ℕ) (edits : List Edit) (mid y : List ℕ) (v : Edit) (more : List Edit) (new : List ℕ) →
    IsChangesSoFar old (map change_value edits) mid → mid ≡ 32 ∷ y →
    IsItemRead change_text capped_change y (change_value v) new →
    more ≡ edits ++ v ∷ [] → IsChangesSoFar old (map change_value more) new
change_more old edits mid y v more new p q s e = record {
  items = p.items ++ s.item ∷ [];
  text = p.text ∙ (ap (λ u. changes_text p.items ++ u) (q ∙ ap (λ u. 32 ∷ u) s.text)
      ∙ sym (one_text p.items s.item new));
  stops = s.stops;
  values_are = ap (λ (u : List Edit). map change_value u) e
      ∙ (values_more edits v ∙ (joined p.values_are s.value_is ∙ sym (capped_more p.items s.item)));
}
  where
    one_text : (xs : List Change) (x : Change) (r : List ℕ) →
        changes_text (xs ++ x ∷ []) ++ r ≡ changes_text xs ++ (32 ∷ (change_text x ++ r))
    one_text xs x r = ap (λ u. u ++ r) (flat_map-append (λ c. 32 ∷ change_text c) xs (x ∷ []))
        ∙ regroup (changes_text xs) (change_text x) r
      where
        regroup : (a b r : List ℕ) → (a ++ ((32 ∷ b) ++ [])) ++ r ≡ a ++ (32 ∷ (b ++ r))
        regroup a b r = ap (λ u. (a ++ u) ++ r) (append-nil (32 ∷ b)) ∙ append_assoc a (32 ∷ b) r

    values_more : (xs : List Edit) (x : Edit) →
        map change_value (xs ++ x ∷ []) ≡ map change_value xs ++ change_value x ∷ []
    values_more [] x = refl
    values_more (y ∷ ys) x = ap (λ (u : List Change). change_value y ∷ u) (values_more ys x)

    capped_more : (xs : List Change) (x : Change) →
        map capped_change (xs ++ x ∷ []) ≡ map capped_change xs ++ capped_change x ∷ []
    capped_more [] x = refl
    capped_more (y ∷ ys) x = ap (λ (u : List Change). capped_change y ∷ u) (capped_more ys x)

    joined : {xs ys : List Change} {x y : Change} → xs ≡ ys → x ≡ y → xs ++ x ∷ [] ≡ ys ++ y ∷ []
    joined p q = cc

-- the end was read
pub changes_read : (end old : List ℕ) (values : List Change) (mid new : List ℕ) → IsChangesSoFar old values mid →
    mid ≡ end ++ new → AreChangesRead end old values new
changes_read end old values mid new p e = record {
  items = p.items;
  text = p.text ∙ ap (λ u. changes_text p.items ++ u) e;
  values_are = p.values_are;
}

-- neither the end nor a further change stands there
pub no_changes : (end old : List ℕ) (values : List Change) (mid : List ℕ) → EndsChanges end →
    IsChangesSoFar old values mid →
    ((r : List ℕ) → mid ≡ end ++ r → ⊥) →
    ((c : Change) (more : List ℕ) → Stops more → mid ≡ 32 ∷ (change_text c ++ more) → ⊥) → HasNoChanges end old
no_changes end old values mid l p n h = λ xs r e. go p.items xs r (sym p.text ∙ e)
  where
    go : (items xs : List Change) (r : List ℕ) → changes_text items ++ mid ≡ changes_text xs ++ (end ++ r) → ⊥
    go [] [] r e = n r e
    go [] (x ∷ xs) r e = h x (changes_text xs ++ (end ++ r))
        (changes_stop xs (end ++ r) (ends_stop (end ++ r) (l r).ends))
        (e ∙ ap (λ u. 32 ∷ u) (append_assoc (change_text x) (changes_text xs) (end ++ r)))
    go (x ∷ items) [] r e = (l r).no_change x (changes_text items ++ mid)
        (sym e ∙ ap (λ u. 32 ∷ u) (append_assoc (change_text x) (changes_text items) mid))
    go (x ∷ items) (y ∷ ys) r e =
        let g = sym (append_assoc (change_text x) (changes_text items) mid)
        ∙ (tail_of 32 32 _ _ e ∙ append_assoc (change_text y) (changes_text ys) (end ++ r)) in
        let one = change_split x y _ _ (changes_stop items mid p.stops)
        (changes_stop ys (end ++ r) (ends_stop (end ++ r) (l r).ends)) g in
        go items ys r one.1

pub no_space : (end old : List ℕ) (values : List Change) (mid : List ℕ) → EndsChanges end →
    IsChangesSoFar old values mid →
    ((r : List ℕ) → mid ≡ end ++ r → ⊥) → ((r : List ℕ) → mid ≡ 32 ∷ r → ⊥) → HasNoChanges end old
no_space end old values mid l p n h = no_changes end old values mid l p n (λ c more s e. h _ e)

pub no_change : (end old : List ℕ) (values : List Change) (mid y : List ℕ) → EndsChanges end →
    IsChangesSoFar old values mid →
    ((r : List ℕ) → mid ≡ end ++ r → ⊥) → mid ≡ 32 ∷ y → HasNoItem change_text y → HasNoChanges end old
no_change end old values mid y l p n q h = no_changes end old values mid l p n
    (λ c more s e. h c more s (tail_of 32 32 _ _ (sym q ∙ e)))

-- ---- one change
pub drop_read : (old mid : List ℕ) (n : ℕ) (new : List ℕ) → old ≡ 45 ∷ mid → IsItemRead numeral capped mid n new →
    IsItemRead change_text capped_change old (Drops n) new
drop_read old mid n new e p = record {
  item = Drops p.item;
  text = e ∙ ap (λ u. 45 ∷ u) p.text;
  stops = p.stops;
  value_is = ap Drops p.value_is;
}

pub drop_none : (old mid : List ℕ) → old ≡ 45 ∷ mid → HasNoNumber mid → HasNoItem change_text old
drop_none old mid e h (Puts x) r s q = let t = pairs_are_items.begins x in
    digit_clash t.0 45 t.3 refl (head_of _ _ _ _ (sym (ap (λ u. u ++ r) t.2) ∙ (sym q ∙ e)))
drop_none old mid e h (Drops b) r s q = h b r s (tail_of 45 45 _ _ (sym e ∙ q))

pub put_read : (old mid : List ℕ) (v : Entry) (new : List ℕ) → mid ≡ old → IsItemRead pair_text capped_pair mid v new →
    IsItemRead change_text capped_change old (Puts v) new
put_read old mid v new e p = record {
  item = Puts p.item;
  text = sym e ∙ p.text;
  stops = p.stops;
  value_is = ap Puts p.value_is;
}
