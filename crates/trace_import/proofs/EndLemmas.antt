-- The ends of what lines hold, from the last line on.
use Rattle.std.proofs.Math.Seq.{drop-cons}
use Rattle.std.proofs.lemmas.List.{get_or-map, length-map, reverse-append, reverse-reverse}
use Rattle.std.proofs.Common.{add-one, ◌≡◌, ◌∙◌, ◌+◌, ◌-◌, ◌<◌, ◌≤◌, ◌++◌, ◌∷◌, [], ℕ, ap, arith, Bool, cond, drop, false, get_or, length, length-drop, List, map, nat_lt, None, not, Option, option_map, position, refl, reverse, Some, subst, sym, true, unwrap_or, zero, suc}
use Rattle.std.proofs.lemmas.Iterator.Adapters.{position_from-zero}
use Rattle.std.specs.Borrow.{Bor}
use Rattle.std.specs.HashMap.{HashMap}
use Rattle.std.specs.List.{position_from, position_or_len}
use Rattle.std.specs.Str.{bytes_eq}
use Rattle.dsa_terms.proofs.NumberTests.{not_less}
use Rattle.trace_import.specs.Found.{AreFrees, Entries, ends_from, found_for}
use Rattle.trace_import.specs.Kept.{line_value}
use Rattle.trace_import.specs.Requests.{id_of}
use Rattle.trace_import.specs.Traces.{Alloc, Event, Free, end_of, frees, is_alloc}
use Rattle.trace_import.specs.declared.line.Line.{Line}
use Rattle.trace_import.proofs.Events.{first_within}
use Rattle.trace_import.proofs.FoundLemmas.{Changes, found_after, turned}

-- the ends of the lines from that one on are listed, the last line first, and the lines that free are found
pub record AreEnds (es : List Event) (line : ℕ) (found : Entries) (listed : List ℕ) : Type 0 where
  pub frees : AreFrees found line (drop line es)
  pub ends : listed ≡ reverse (ends_from line (drop line es))

-- ---- the first line that frees
position_after : (t : Event → Bool) (i : ℕ) (xs : List Event) →
    position_from t (i + 1) xs ≡ option_map (λ k. k + 1) (position_from t i xs)
position_after t i [] = refl
position_after t i (x ∷ xs) = go (t x) (position_after t (i + 1) xs)
  where
    go : (b : Bool) → position_from t (i + 1 + 1) xs ≡ option_map (λ k. k + 1) (position_from t (i + 1) xs) →
        cond b (Some (i + 1)) (position_from t (i + 1 + 1) xs)
        ≡ option_map (λ k. k + 1) (cond b (Some i) (position_from t (i + 1) xs))
    go true h = refl
    go false h = h

position_next : (t : Event → Bool) (x : Event) (xs : List Event) →
    position t (x ∷ xs) ≡ cond (t x) (Some 0) (option_map (λ k. k + 1) (position t xs))
position_next t x xs =
    position_from-zero t (x ∷ xs) ∙ ap (cond (t x) (Some 0)) (position_after t 0 xs)
    ∙ sym (ap (λ o. cond (t x) (Some 0) (option_map (λ k. k + 1) o)) (position_from-zero t xs))

frees_next : (line : ℕ) (id : List ℕ) (e : Event) (after : List Event) →
    option_map (λ k. line + k) (position (frees id) (e ∷ after))
    ≡ cond (frees id e) (Some line) (option_map (λ k. line + 1 + k) (position (frees id) after))
frees_next line id e after =
    ap (option_map (λ k. line + k)) (position_next (frees id) e after) ∙ go (frees id e) (position (frees id) after)
  where
    none_more : (line : ℕ) → line + 0 ≡ line
    none_more line = omega arith

    one_more : (line k : ℕ) → line + (k + 1) ≡ line + 1 + k
    one_more line k = omega arith

    go : (b : Bool) (o : Option ℕ) →
        option_map (λ k. line + k) (cond b (Some 0) (option_map (λ k. k + 1) o))
        ≡ cond b (Some line) (option_map (λ k. line + 1 + k) o)
    go true o = ap Some (none_more line)
    go false None = refl
    go false (Some k) = ap Some (one_more line k)

-- ---- the end of what a line holds
pub end_found : (line : ℕ) (id : List ℕ) (after : List Event) (count : ℕ) (found : Entries) →
    AreFrees found (line + 1) after → count ≡ line + 1 + length after →
    unwrap_or (found_for found id) count ≡ end_of line id after
end_found line id after count found h e =
    ap (λ o. unwrap_or o count) (h id) ∙ go (nat_lt (position_or_len (frees id) after) (length after)) refl
  where
    go : (b : Bool) → nat_lt (position_or_len (frees id) after) (length after) ≡ b →
        unwrap_or (option_map (λ k. line + 1 + k) (cond b (Some (position_or_len (frees id) after)) None)) count
        ≡ end_of line id after
    go true lt = refl
    go false ge =
        let past = not_less (position_or_len (frees id) after) (length after) ge in
        let within = first_within id after in
        omega arith

-- ---- one line more
module _ {S : Type 0} (old new : HashMap (Bor (List ℕ)) ℕ S) (line : ℕ) (e : Event) (after : List Event)
    (h : AreFrees old.entries (line + 1) after) where
  pub frees_freed : is_alloc e ≡ false → Changes old new (id_of e) (Some line) → AreFrees new.entries line (e ∷ after)
  frees_freed free change q = go e free change
    where
      go : (e : Event) → is_alloc e ≡ false → Changes old new (id_of e) (Some line) →
          found_for new.entries q ≡ option_map (λ k. line + k) (position (frees q) (e ∷ after))
      go (Alloc id s a) f c = absurd cc
      go (Free id) f c =
          found_after old new id (Some line) c q
          ∙ ap (cond (bytes_eq id q) (Some line)) (h q)
          ∙ ap (λ (b : Bool). cond b (Some line) (option_map (λ k. line + 1 + k) (position (frees q) after)))
          (turned id q)
          ∙ sym (frees_next line q (Free id) after)

pub frees_kept : (found : Entries) (line : ℕ) (e : Event) (after : List Event) → AreFrees found (line + 1) after →
    is_alloc e ≡ true → AreFrees found line (e ∷ after)
frees_kept found line (Alloc id s a) after h f q = h q ∙ sym (frees_next line q (Alloc id s a) after)
frees_kept found line (Free id) after h f q = absurd cc

pub ends_none : (es : List Event) (line : ℕ) (found : Entries) (ends : List ℕ) → line ≡ length es → found ≡ [] →
    ends ≡ [] → AreEnds es line found ends
ends_none es line found ends n f e =
    rw (n, f, e) (let past = drop_all es in record {
      frees = λ id. rw past refl;
      ends = rw past refl;
    })
  where
    drop_all : (es : List Event) → drop (length es) es ≡ []
    drop_all [] = refl
    drop_all (x ∷ xs) = drop_all xs

-- what is left from a line on is that line, and what is left after it
pub drop_line : (es : List Event) (line : ℕ) (e : Event) → line < length es → get_or es line e ≡ e →
    drop line es ≡ e ∷ drop (line + 1) es
drop_line es line e lt h =
    rw (add-one line) (drop-cons es line e lt ∙ ap (λ x. x ∷ drop (suc line) es) h)

pub ends_more : (es : List Event) (line : ℕ) (e : Event) (found : Entries) (ends more : List ℕ) (end : ℕ) →
    drop line es ≡ e ∷ drop (line + 1) es → AreFrees found line (e ∷ drop (line + 1) es) →
    ends ≡ reverse (ends_from (line + 1) (drop (line + 1) es)) → end ≡ end_of line (id_of e) (drop (line + 1) es) →
    more ≡ ends ++ end ∷ [] → AreEnds es line found more
ends_more es line e found ends more end d f h is m =
    rw (m, h, is) record {
      frees = subst (AreFrees found line) (sym d) f;
      ends = rw d (sym (reverse-append (end_of line (id_of e) (drop (line + 1) es) ∷ [])
          (ends_from (line + 1) (drop (line + 1) es))));
    }

-- ---- the end at a line
end_from : (line : ℕ) (es : List Event) (k : ℕ) (e : Event) (end : ℕ) → k < length es → get_or es k e ≡ e →
    end ≡ get_or (ends_from line es) k end → end ≡ end_of (line + k) (id_of e) (drop (suc k) es)
end_from line [] k e end lt h q = absurd (omega arith)
end_from line (x ∷ xs) zero e end lt h q =
    q ∙ ap (λ y. end_of line (id_of y) xs) h ∙ ap (λ l. end_of l (id_of e) xs) (none_more line)
  where
    none_more : (line : ℕ) → line ≡ line + 0
    none_more line = omega arith
end_from line (x ∷ xs) (suc k) e end lt h q =
    end_from (line + 1) xs k e end (omega arith) h q
    ∙ ap (λ l. end_of l (id_of e) (drop (suc k) xs)) (one_more line k)
  where
    one_more : (line k : ℕ) → line + 1 + k ≡ line + suc k
    one_more line k = omega arith

pub end_at : (es : List Event) (k : ℕ) (e : Event) (end : ℕ) → k < length es → get_or es k e ≡ e →
    end ≡ get_or (ends_from 0 es) k end → end ≡ end_of k (id_of e) (drop (k + 1) es)
end_at es k e end lt h q =
    end_from 0 es k e end lt h q ∙ ap (λ l. end_of l (id_of e) (drop (suc k) es)) (none_less k)
    ∙ ap (λ n. end_of k (id_of e) (drop n es)) (sym (add-one k))
  where
    none_less : (k : ℕ) → 0 + k ≡ k
    none_less k = omega arith

pub ends_counted : (line : ℕ) (es : List Event) → length (ends_from line es) ≡ length es
ends_counted line [] = refl
ends_counted line (x ∷ xs) = let k = ends_counted (line + 1) xs in omega arith

-- ---- a turn of the loop
module _ (lines : List Line) (place : ℕ) (line : Line) (some : 0 < place) (within : place ≤ length lines)
    (at : line ≡ get_or lines (place - 1) line) where
  abbrev es : List Event
  es = map line_value lines

  abbrev rest : List Event
  rest = drop (place - 1 + 1) es

  same_place : place ≡ place - 1 + 1
  same_place = omega arith

  pub line_left : drop (place - 1) es ≡ line_value line ∷ rest
  line_left = drop_line es (place - 1) (line_value line)
      (let k = length-map lines line_value in omega arith)
      (get_or-map line_value lines (place - 1) line (line_value line) (omega arith) ∙ ap line_value (sym at))

  end_is : (found : Entries) (id : List ℕ) (count : ℕ) → AreFrees found place (drop place es) → count ≡ length lines →
      unwrap_or (found_for found id) count ≡ end_of (place - 1) id rest
  end_is found id count h n =
      end_found (place - 1) id rest count found (subst (λ k. AreFrees found k (drop k es)) same_place h)
      (let k = length-map lines line_value in let d = length-drop (place - 1 + 1) es in omega arith)

  pub turn_kept : (found : Entries) (ends more : List ℕ) (id : List ℕ) (end count : ℕ) → AreEnds es place found ends →
      count ≡ length lines → is_alloc (line_value line) ≡ true → id ≡ id_of (line_value line) →
      end ≡ unwrap_or (found_for found id) count → more ≡ ends ++ end ∷ [] → AreEnds es (place - 1) found more
  turn_kept found ends more id end count h n alloc own e m =
      ends_more es (place - 1) (line_value line) found ends more end line_left
      (frees_kept found (place - 1) (line_value line) rest
      (subst (λ k. AreFrees found k (drop k es)) same_place h.frees) alloc)
      (subst (λ k. ends ≡ reverse (ends_from k (drop k es))) same_place h.ends)
      (e ∙ end_is found id count h.frees n ∙ ap (λ i. end_of (place - 1) i rest) own) m

  pub turn_freed : {S : Type 0} (old new : HashMap (Bor (List ℕ)) ℕ S) (ends more : List ℕ) (id key : List ℕ)
      (end count : ℕ) → AreEnds es place old.entries ends → count ≡ length lines → is_alloc (line_value line) ≡ false →
      id ≡ id_of (line_value line) → key ≡ id_of (line_value line) → Changes old new key (Some (place - 1)) →
      end ≡ unwrap_or (found_for old.entries id) count → more ≡ ends ++ end ∷ [] →
      AreEnds es (place - 1) new.entries more
  turn_freed old new ends more id key end count h n free own same change e m =
      ends_more es (place - 1) (line_value line) new.entries ends more end line_left
      (frees_freed old new (place - 1) (line_value line) rest
      (subst (λ k. AreFrees old.entries k (drop k es)) same_place h.frees) free
      (subst (λ i. Changes old new i (Some (place - 1))) same change))
      (subst (λ k. ends ≡ reverse (ends_from k (drop k es))) same_place h.ends)
      (e ∙ end_is old.entries id count h.frees n ∙ ap (λ i. end_of (place - 1) i rest) own) m

pub ends_all : (es : List Event) (line : ℕ) (found : Entries) (ends : List ℕ) → AreEnds es line found ends → line ≡ 0 →
    reverse ends ≡ ends_from 0 es
ends_all es line found ends h n =
    ap reverse (h.ends ∙ ap (λ k. reverse (ends_from k (drop k es))) n) ∙ reverse-reverse (ends_from 0 es)

pub not_freed : (b : Bool) → not b ≡ false → b ≡ true
not_freed true h = refl
not_freed false h = absurd cc

pub is_freed : (b : Bool) → not b ≡ true → b ≡ false
is_freed true h = absurd cc
is_freed false h = refl
