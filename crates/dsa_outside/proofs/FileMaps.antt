-- How a map from texts to bytes stands for files.
use Rattle.std.proofs.Common.{◌≡◌, ℕ, Bool, true, false, cond, List, [], ◌∷◌, map, Some, None, refl, sym, ◌∙◌, ap, string_bytes, String, Vec}
use Rattle.std.specs.declared.alloc.Global.{Global}
use Rattle.std.specs.declared.cmp.Ordering.{Ordering}
use Rattle.std.specs.declared.cmp.Ordering.TheVariants.{Less, Equal, Greater}
use Rattle.std.specs.Option.{option_map}
use Rattle.std.specs.Ordering.{nat_cmp, is_eq, match_ordering, eq_by_cmp}
use Rattle.std.specs.String.{string_cmp}
use Rattle.std.specs.Cmp.Lexicographic.{slice_cmp, nat_list_cmp_total}
use Rattle.std.specs.BTreeMap.{BTreeMap, get_by_text, is_at, insert_entry}
use Rattle.std.specs.Map.{lookup}
use Rattle.std.specs.FinMap.{get, insert, remove, from_entries, find, put, get-from_entries, get-insert, get-remove, same_map, nat_cmp-IsAntisymmetric, slice_cmp-IsAntisymmetric}
use Rattle.std.specs.FinMap.Entries.{find-put}
use Rattle.dsa_outside.specs.Held.{FileMap}
use Rattle.dsa_outside.specs.MemoryState.{file_map}

-- an entry of the map that holds the files
abbrev Entry : Type 0
Entry = String Global × Vec ℕ Global

-- the name and the bytes of an entry
abbrev shown : Entry → List ℕ × List ℕ
shown e = (string_bytes e.0, e.1.items)

-- two maps that answer alike are equal
pub same_files : (m n : FileMap) → ((q : List ℕ) → get m q ≡ get n q) → m ≡ n
same_files = same_map nat_list_cmp_total (slice_cmp-IsAntisymmetric nat_cmp-IsAntisymmetric)

-- the bytes found under a name in the entries as shown are those of the entry at that name
find_shown : (es : List Entry) (q : List ℕ) → find (slice_cmp nat_cmp) q (map shown es)
    ≡ option_map (λ v. v.items) (lookup (is_at (λ k. slice_cmp nat_cmp q (string_bytes k))) es)
find_shown [] q = refl
find_shown (e ∷ es) q = elim (is_eq (slice_cmp nat_cmp q (string_bytes e.0))) as
    (λ b. cond b (Some e.1.items) (find (slice_cmp nat_cmp) q (map shown es))
    ≡ option_map (λ v. v.items) (cond b (Some e.1) (lookup (is_at (λ k. slice_cmp nat_cmp q (string_bytes k))) es))) [
      | true ↦ refl
      | false ↦ find_shown es q
    ]

-- looking a name up in the files is looking its text up in the map
pub get-file_map : (m : BTreeMap (String Global) (Vec ℕ Global)) (q : List ℕ)
    → get (file_map m) q ≡ option_map (λ v. v.items) (get_by_text m q)
get-file_map m q = get-from_entries nat_list_cmp_total (map shown m.entries) q ∙ find_shown m.entries q

-- an entry inserted is a name and bytes put among those shown
put_shown : (es : List Entry) (k : String Global) (v : Vec ℕ Global) → map shown (insert_entry string_cmp es k v)
    ≡ put (slice_cmp nat_cmp) (string_bytes k) v.items (map shown es)
put_shown [] k v = refl
put_shown (e ∷ es) k v = elim (slice_cmp nat_cmp (string_bytes k) (string_bytes e.0)) as
    (λ o. map shown (match_ordering o ((k, v) ∷ e ∷ es) ((e.0, v) ∷ es) (e ∷ insert_entry string_cmp es k v)) ≡ by o) [
      | Less ↦ refl
      | Equal ↦ refl
      | Greater ↦ ap (λ l. shown e ∷ l) (put_shown es k v)
    ]
  where
    by : Ordering → List (List ℕ × List ℕ)
    by o = match_ordering o
        ((string_bytes k, v.items) ∷ map shown (e ∷ es))
        ((string_bytes e.0, v.items) ∷ map shown es)
        (shown e ∷ put (slice_cmp nat_cmp) (string_bytes k) v.items (map shown es))

-- a name and bytes put among entries are inserted into their map
from_entries-put : (es : List (List ℕ × List ℕ)) (k v : List ℕ)
    → from_entries {R = slice_cmp nat_cmp} (put (slice_cmp nat_cmp) k v es) ≡ insert (from_entries es) k v
from_entries-put es k v = same_files _ _ (λ q.
    get-from_entries nat_list_cmp_total (put (slice_cmp nat_cmp) k v es) q
    ∙ find-put (slice_cmp nat_cmp) nat_list_cmp_total q k v es
    ∙ ap (cond (eq_by_cmp (slice_cmp nat_cmp) q k) (Some v)) (sym (get-from_entries nat_list_cmp_total es q))
    ∙ sym (get-insert nat_list_cmp_total (from_entries es) k v q))

-- inserting a text into the map sets that name's file
pub file_map-insert : (m n : BTreeMap (String Global) (Vec ℕ Global)) (k : String Global) (v : Vec ℕ Global)
    → n.entries ≡ insert_entry string_cmp m.entries k v → file_map n ≡ insert (file_map m) (string_bytes k) v.items
file_map-insert m n k v is =
    ap (λ es. from_entries (map shown es)) is
    ∙ ap from_entries (put_shown m.entries k v)
    ∙ from_entries-put (map shown m.entries) (string_bytes k) v.items

-- a test that was true is not asked again
cond_again : {A : Type 0} (b : Bool) (x y z : A) → cond b x (cond b y z) ≡ cond b x z
cond_again true x y z = refl
cond_again false x y z = refl

-- what the other names hold does not depend on what one name was given
pub remove-insert : (m : FileMap) (k v : List ℕ) → remove (insert m k v) k ≡ remove m k
remove-insert m k v = same_files _ _ (λ q.
    get-remove nat_list_cmp_total (insert m k v) k q
    ∙ ap (cond (eq_by_cmp (slice_cmp nat_cmp) q k) None) (get-insert nat_list_cmp_total m k v q)
    ∙ cond_again (eq_by_cmp (slice_cmp nat_cmp) q k) None (Some v) (get m q)
    ∙ sym (get-remove nat_list_cmp_total m k q))
