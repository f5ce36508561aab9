-- The line that holds an identifier, by what is held.
use Rattle.std.proofs.Common.{◌≡◌, ◌∙◌, ◌+◌, ◌<◌, ◌&&◌, ◌||◌, ◌∷◌, [], ap, arith, Bool, false, length, List, None, not, Option, refl, slice_get, Some, suc, subst, sym, true, zero, ℕ}
use Rattle.std.specs.List.{list_any}
use Rattle.std.specs.Option.{option_or}
use Rattle.std.specs.Str.{bytes_eq}
use Rattle.std.proofs.lemmas.Slice.Eq.{bytes_eq-Decides}
use Rattle.dsa_model.specs.Buffer.{when}
use Rattle.dsa_terms.proofs.Moments.{and_true}
use Rattle.trace_import.specs.Faults.{holder, holder_from}
use Rattle.trace_import.specs.Laws.{HoldsAfter}
use Rattle.trace_import.specs.Traces.{Alloc, Event, Free, frees}
use Rattle.trace_import.proofs.Events.{bytes_same, frees_is, frees_own}

-- the line allocates the identifier, and none after it frees it
pub record IsAlive (es : List Event) (k : ℕ) (id : List ℕ) : Type 0 where
  pub size : ℕ
  pub alignment : ℕ
  pub allocates : slice_get es k ≡ Some (Alloc id size alignment)
  pub unfreed : (f : ℕ) → k < f → slice_get es f ≡ Some (Free id) → ⊥

-- a line that there is has a number below the count
pub get_inside : (es : List Event) (k : ℕ) (e : Event) → slice_get es k ≡ Some e → k < length es
get_inside [] k e h = absurd cc
get_inside (x ∷ xs) zero e h = omega arith
get_inside (x ∷ xs) (suc k) e h = let r = get_inside xs k e h in omega arith

pub holds_after : (es : List Event) (line : ℕ) (id : List ℕ) → IsAlive es line id → HoldsAfter es line id
holds_after es line id a = record {
  size = a.size;
  alignment = a.alignment;
  held = record {
    id = id;
    allocates = a.allocates;
    started = let k = get_inside es line (Alloc id a.size a.alignment) a.allocates in omega arith;
    unfreed = λ f lt le h. a.unfreed f lt h;
  };
  its_id = refl;
}

pub alive_then : (es : List Event) (line : ℕ) (id : List ℕ) → HoldsAfter es line id → IsAlive es line id
alive_then es line id h = record {
  size = h.size;
  alignment = h.alignment;
  allocates = h.held.allocates ∙ ap (λ i. Some (Alloc i h.size h.alignment)) h.its_id;
  unfreed = λ f lt q. h.held.unfreed f lt (let k = get_inside es f (Free id) q in omega arith)
      (q ∙ ap (λ i. Some (Free i)) (sym h.its_id));
}

-- ---- lines that free
any_at : (es : List Event) (f : ℕ) (id : List ℕ) → slice_get es f ≡ Some (Free id) → list_any (frees id) es ≡ true
any_at [] f id h = absurd cc
any_at (x ∷ xs) zero id h = let q : x ≡ Free id = cc in rw q (rw (frees_own id) refl)
any_at (x ∷ xs) (suc f) id h = go (frees id x) (any_at xs f id h)
  where
    go : (b : Bool) → list_any (frees id) xs ≡ true → (b || list_any (frees id) xs) ≡ true
    go true h = refl
    go false h = h

none_any : (es : List Event) (id : List ℕ) → ((f : ℕ) → slice_get es f ≡ Some (Free id) → ⊥) →
    list_any (frees id) es ≡ false
none_any [] id h = refl
none_any (x ∷ xs) id h = go (frees id x) refl (none_any xs id (λ f q. h (suc f) q))
  where
    go : (b : Bool) → frees id x ≡ b → list_any (frees id) xs ≡ false → (b || list_any (frees id) xs) ≡ false
    go true e r = absurd (h 0 (ap Some (frees_is id x e)))
    go false e r = r

-- ---- what is found is alive
later : (x : Event) (es : List Event) (k : ℕ) (id : List ℕ) → IsAlive es k id → IsAlive (x ∷ es) (suc k) id
later x es k id a = record {
  size = a.size;
  alignment = a.alignment;
  allocates = a.allocates;
  unfreed = unfreed;
}
  where
    unfreed : (f : ℕ) → suc k < f → slice_get (x ∷ es) f ≡ Some (Free id) → ⊥
    unfreed zero lt q = absurd (omega arith)
    unfreed (suc f) lt q = a.unfreed f (omega arith) q

sooner : (x : Event) (es : List Event) (k : ℕ) (id : List ℕ) → IsAlive (x ∷ es) (suc k) id → IsAlive es k id
sooner x es k id a = record {
  size = a.size;
  alignment = a.alignment;
  allocates = a.allocates;
  unfreed = λ f lt q. a.unfreed (suc f) (omega arith) q;
}

pub found_alive : (base : ℕ) (id : List ℕ) (es : List Event) (n : ℕ) → holder_from base id es ≡ Some n →
    (k : ℕ) × ((n ≡ base + k) × IsAlive es k id)
found_alive base id [] n h = absurd cc
found_alive base id (Free o ∷ es) n h =
    let r = found_alive (base + 1) id es n h in
    (suc r.0, ((let e = r.1.0 in omega arith), later (Free o) es r.0 id r.1.1))
found_alive base id (Alloc o s a ∷ es) n h =
    go (holder_from (base + 1) id es) refl (bytes_eq id o && not (list_any (frees id) es)) refl
    (λ m q. found_alive (base + 1) id es m q) h
  where
    here : (bytes_eq id o && not (list_any (frees id) es)) ≡ true → IsAlive (Alloc o s a ∷ es) 0 id
    here b =
        let both = and_true (bytes_eq id o) (not (list_any (frees id) es)) b in
        let same : id ≡ o = (bytes_eq-Decides id o).0 both.0 in
        record {
          size = s;
          alignment = a;
          allocates = ap (λ i. Some (Alloc i s a)) (sym same);
          unfreed = unfreed both.1;
        }
      where
        unfreed : not (list_any (frees id) es) ≡ true → (f : ℕ) → 0 < f →
            slice_get (Alloc o s a ∷ es) f ≡ Some (Free id) → ⊥
        unfreed none zero lt q = absurd (omega arith)
        unfreed none (suc f) lt q = let k = any_at es f id q in let m = ap not k in absurd cc

    go : (r : Option ℕ) → holder_from (base + 1) id es ≡ r → (b : Bool) →
        (bytes_eq id o && not (list_any (frees id) es)) ≡ b →
        ((m : ℕ) → holder_from (base + 1) id es ≡ Some m → (k : ℕ) × ((m ≡ base + 1 + k) × IsAlive es k id)) →
        option_or r (when b base) ≡ Some n → (k : ℕ) × ((n ≡ base + k) × IsAlive (Alloc o s a ∷ es) k id)
    go (Some m) q b t ih e =
        let r = ih m q in
        let same : m ≡ n = cc in
        (suc r.0, ((let p = r.1.0 in omega arith), later (Alloc o s a) es r.0 id r.1.1))
    go None q true t ih e =
        let same : base ≡ n = cc in (0, (omega arith, here t))
    go None q false t ih e = absurd cc

pub alive_found : (base : ℕ) (id : List ℕ) (es : List Event) (k : ℕ) → IsAlive es k id →
    (m : ℕ) × (holder_from base id es ≡ Some m)
alive_found base id [] k a = absurd (let h = a.allocates in cc)
alive_found base id (x ∷ es) zero a = go x (let h = a.allocates in cc)
  where
    none : list_any (frees id) es ≡ false
    none = none_any es id (λ f q. a.unfreed (suc f) (omega arith) q)

    by : (r : Option ℕ) → (m : ℕ) × (option_or r (when true base) ≡ Some m)
    by None = (base, refl)
    by (Some m) = (m, refl)

    go : (y : Event) → y ≡ Alloc id a.size a.alignment → (m : ℕ) × (holder_from base id (y ∷ es) ≡ Some m)
    go (Alloc o s b) e =
        let same : o ≡ id = cc in
        let r = by (holder_from (base + 1) id es) in
        (r.0, rw (same, bytes_same id, none) r.1)
    go (Free o) e = absurd cc
alive_found base id (Alloc o s b ∷ es) (suc k) a =
    let r = alive_found (base + 1) id es k (sooner (Alloc o s b) es k id a) in (r.0, rw r.1 refl)
alive_found base id (Free o ∷ es) (suc k) a = alive_found (base + 1) id es k (sooner (Free o) es k id a)

-- ---- the holder
pub holder_holds : (es : List Event) (id : List ℕ) (line : ℕ) → holder es id ≡ Some line → IsAlive es line id
unfolding holder
holder_holds es id line h =
    let r = found_alive 0 id es line h in
    subst (λ n. IsAlive es n id) (let e = r.1.0 in omega arith) r.1.1

pub holder_of_none : (es : List Event) (id : List ℕ) (line : ℕ) → holder es id ≡ None → IsAlive es line id → ⊥
unfolding holder
holder_of_none es id line h a = let r = alive_found 0 id es line a in let q = r.1 in absurd cc
