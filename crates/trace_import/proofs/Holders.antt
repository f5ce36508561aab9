-- The line that holds an identifier, as lines come one after another.
use Rattle.std.proofs.Common.{◌≡◌, ◌∙◌, ◌+◌, ◌&&◌, ◌||◌, ℕ, suc, List, [], ◌∷◌, ◌++◌, Bool, true, false, not, cond, Option, None, Some, length, refl, ap, arith}
use Rattle.std.specs.List.{list_any}
use Rattle.std.specs.Option.{option_or}
use Rattle.std.specs.Str.{bytes_eq}
use Rattle.dsa_model.specs.Buffer.{when}
use Rattle.trace_import.specs.Faults.{holder, holder_from}
use Rattle.trace_import.specs.Traces.{Alloc, Event, Free, frees}

any_last : (id : List ℕ) (es : List Event) (e : Event) →
    list_any (frees id) (es ++ e ∷ []) ≡ (list_any (frees id) es || frees id e)
any_last id [] e = go (frees id e)
  where
    go : (b : Bool) → (b || false) ≡ b
    go true = refl
    go false = refl
any_last id (x ∷ xs) e = go (frees id x) (any_last id xs e)
  where
    go : (b : Bool) → list_any (frees id) (xs ++ e ∷ []) ≡ (list_any (frees id) xs || frees id e) →
        (b || list_any (frees id) (xs ++ e ∷ [])) ≡ ((b || list_any (frees id) xs) || frees id e)
    go true h = refl
    go false h = h

-- a line more that allocates holds its identifier, and the others are held as before
alloc_from : (line : ℕ) (id : List ℕ) (es : List Event) (other : List ℕ) (s a : ℕ) →
    holder_from line id (es ++ Alloc other s a ∷ [])
    ≡ cond (bytes_eq id other) (Some (line + length es)) (holder_from line id es)
alloc_from line id [] other s a = go (bytes_eq id other)
  where
    none_more : (line : ℕ) → line ≡ line + 0
    none_more line = omega arith

    go : (b : Bool) → option_or None (when (b && true) line) ≡ cond b (Some (line + 0)) None
    go true = ap Some (none_more line)
    go false = refl
alloc_from line id (Alloc o t b ∷ es) other s a =
    rw (alloc_from (line + 1) id es other s a, any_last id es (Alloc other s a))
    (go (bytes_eq id other) (bytes_eq id o) (list_any (frees id) es))
  where
    one_more : (line n : ℕ) → line + 1 + n ≡ line + suc n
    one_more line n = omega arith

    go : (x y z : Bool) →
        option_or (cond x (Some (line + 1 + length es)) (holder_from (line + 1) id es))
        (when (y && not (z || false)) line)
        ≡ cond x (Some (line + suc (length es))) (option_or (holder_from (line + 1) id es) (when (y && not z) line))
    go true y z = ap Some (one_more line (length es))
    go false y true = refl
    go false y false = refl
alloc_from line id (Free o ∷ es) other s a = alloc_from (line + 1) id es other s a ∙ go (bytes_eq id other)
  where
    one_more : (line n : ℕ) → line + 1 + n ≡ line + suc n
    one_more line n = omega arith

    go : (x : Bool) → cond x (Some (line + 1 + length es)) (holder_from (line + 1) id es)
        ≡ cond x (Some (line + suc (length es))) (holder_from (line + 1) id es)
    go true = ap Some (one_more line (length es))
    go false = refl

-- a line more that frees leaves its identifier to none, and the others are held as before
free_from : (line : ℕ) (id : List ℕ) (es : List Event) (other : List ℕ) →
    holder_from line id (es ++ Free other ∷ []) ≡ cond (bytes_eq id other) None (holder_from line id es)
free_from line id [] other = go (bytes_eq id other) None
  where
    go : (b : Bool) (o : Option ℕ) → o ≡ cond b o o
    go true o = refl
    go false o = refl
free_from line id (Alloc o t b ∷ es) other =
    rw (free_from (line + 1) id es other, any_last id es (Free other))
    (go (bytes_eq id other) (bytes_eq id o) (list_any (frees id) es))
  where
    go : (x y z : Bool) →
        option_or (cond x None (holder_from (line + 1) id es)) (when (y && not (z || x)) line)
        ≡ cond x None (option_or (holder_from (line + 1) id es) (when (y && not z) line))
    go true true true = refl
    go true true false = refl
    go true false z = refl
    go false y true = refl
    go false y false = refl
free_from line id (Free o ∷ es) other = free_from (line + 1) id es other

pub holder_alloc : (es : List Event) (id other : List ℕ) (s a : ℕ) →
    holder (es ++ Alloc other s a ∷ []) id ≡ cond (bytes_eq id other) (Some (length es)) (holder es id)
unfolding holder
holder_alloc es id other s a =
    alloc_from 0 id es other s a
    ∙ ap (λ n. cond (bytes_eq id other) (Some n) (holder_from 0 id es)) (none_less (length es))
  where
    none_less : (n : ℕ) → 0 + n ≡ n
    none_less n = omega arith

pub holder_free : (es : List Event) (id other : List ℕ) →
    holder (es ++ Free other ∷ []) id ≡ cond (bytes_eq id other) None (holder es id)
unfolding holder
holder_free es id other = free_from 0 id es other

pub holder_none : (id : List ℕ) → holder [] id ≡ None
unfolding holder
holder_none id = refl
