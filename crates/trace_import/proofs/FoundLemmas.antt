-- What is found for identifiers after a change.
use Rattle.std.proofs.Common.{◌≡◌, ◌∙◌, ◌++◌, ◌∷◌, [], ℕ, Bool, true, false, cond, List, None, Option, Some, length, refl, sym, ap}
use Rattle.std.specs.Borrow.{Bor}
use Rattle.std.specs.HashMap.{HashMap, UpdatesBy}
use Rattle.std.specs.Str.{bytes_eq}
use Rattle.std.proofs.lemmas.Map.Text.{hash_map_updates_str}
use Rattle.std.proofs.lemmas.Slice.Eq.{bytes_eq-Decides}
use Rattle.trace_import.specs.Faults.{holder}
use Rattle.trace_import.specs.Found.{AreHolders, found_for}
use Rattle.trace_import.specs.Traces.{Alloc, Event, Free}
use Rattle.trace_import.proofs.Events.{bytes_same}
use Rattle.trace_import.proofs.Holders.{holder_alloc, holder_free, holder_none}

-- two texts are tested either way round
pub turned : (a b : List ℕ) → bytes_eq a b ≡ bytes_eq b a
turned a b = go (bytes_eq a b) (bytes_eq b a) refl refl
  where
    go : (x y : Bool) → bytes_eq a b ≡ x → bytes_eq b a ≡ y → x ≡ y
    go true true p q = refl
    go false false p q = refl
    go true false p q =
        let same : a ≡ b = (bytes_eq-Decides a b).0 p in
        let k : bytes_eq b a ≡ true = ap (bytes_eq b) same ∙ bytes_same b in cc
    go false true p q =
        let same : b ≡ a = (bytes_eq-Decides b a).0 q in
        let k : bytes_eq a b ≡ true = ap (bytes_eq a) same ∙ bytes_same a in cc

module _ {S : Type 0} (m n : HashMap (Bor (List ℕ)) ℕ S) (id : List ℕ) where
  abbrev pub Changes : Option ℕ → Type 0
  Changes w = UpdatesBy (λ (x y : Bor (List ℕ)). bytes_eq x.now y.now) (λ (k : Bor (List ℕ)). bytes_eq id k.now) m n w

  pub found_after : (w : Option ℕ) → Changes w → (q : List ℕ) →
      found_for n.entries q ≡ cond (bytes_eq id q) w (found_for m.entries q)
  found_after w h q = hash_map_updates_str id m n w h q

  pub holders_alloc : (before : List Event) (size alignment : ℕ) → Changes (Some (length before)) →
      AreHolders m.entries before → AreHolders n.entries (before ++ Alloc id size alignment ∷ [])
  holders_alloc before size alignment h a q =
      found_after (Some (length before)) h q
      ∙ ap (cond (bytes_eq id q) (Some (length before))) (a q)
      ∙ ap (λ (b : Bool). cond b (Some (length before)) (holder before q)) (turned id q)
      ∙ sym (holder_alloc before q id size alignment)

  pub holders_free : (before : List Event) → Changes None → AreHolders m.entries before →
      AreHolders n.entries (before ++ Free id ∷ [])
  holders_free before h a q =
      found_after None h q
      ∙ ap (cond (bytes_eq id q) None) (a q)
      ∙ ap (λ (b : Bool). cond b None (holder before q)) (turned id q)
      ∙ sym (holder_free before q id)

pub no_holders : AreHolders [] []
no_holders q = sym (holder_none q)
