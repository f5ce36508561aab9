-- Lists whose items go together, and lists that are made item by item.
use Rattle.std.proofs.Common.{◌≡◌, ℕ, zero, suc, ◌+◌, ◌<◌, ◌≤◌, Bool, List, [], ◌∷◌, ◌++◌, drop, filter, length, map, slice_index_or, inl, inr, sym, refl, ap, subst, ◌∙◌, arith}
use Rattle.std.proofs.lemmas.List.{append-nil, append_assoc, drop_all}
use Rattle.std.specs.List.{All, AllZip}
use Rattle.dsa_terms.specs.Claims.{Claim, Entry, IsIn}

-- ---- one item after another
pub mapped_next : {A B : Type 0} (f : A → B) (l : List A) (n : ℕ) (x : A) (y : B) (items after : List B) →
    drop n l ≡ x ∷ drop (n + 1) l → y ≡ f x → after ≡ items ++ y ∷ [] → items ++ map f (drop n l) ≡ map f l →
    after ++ map f (drop (n + 1) l) ≡ map f l
mapped_next f l n x y items after at r q h =
    rw (q, r, append_assoc items (f x ∷ []) (map f (drop (n + 1) l))) (rw at at h)

pub mapped_all : {A B : Type 0} (f : A → B) (l : List A) (n : ℕ) (items : List B) → length l ≤ n →
    items ++ map f (drop n l) ≡ map f l → items ≡ map f l
mapped_all f l n items le h = sym (append-nil items) ∙ rw (drop_all n l le) at h

pub map_next : {A B : Type 0} (f : A → B) (xs after : List A) (x : A) → after ≡ xs ++ x ∷ [] →
    map f after ≡ map f xs ++ f x ∷ []
map_next {A = A} f xs after x q = rw q (go xs)
  where
    go : (xs : List A) → map f (xs ++ x ∷ []) ≡ map f xs ++ f x ∷ []
    go [] = refl
    go (y ∷ ys) = rw (go ys) refl

-- ---- what holds place by place
pub zip_second : {A B : Type 0} (R : A → B → Type 0) (P : B → Type 0) (xs : List A) (ys : List B) →
    ((x : A) (y : B) → R x y → P y) → AllZip R xs ys → All P ys
zip_second R P [] [] h z k d lt = absurd (omega arith)
zip_second R P [] (y ∷ ys) h z k d lt = absurd z
zip_second R P (x ∷ xs) [] h z k d lt = absurd z
zip_second R P (x ∷ xs) (y ∷ ys) h z zero d lt = h x y z.0
zip_second R P (x ∷ xs) (y ∷ ys) h z (suc k) d lt = zip_second R P xs ys h z.1 k d (omega arith)

-- what holds of the pairs carries over where the first items change
pub zip_mapped : {A B : Type 0} (g : A → A) (P R : A → B → Type 0) (xs : List A) (ys : List B) →
    ((x : A) (y : B) → IsIn x xs → P x y → R (g x) y) → AllZip P xs ys → AllZip R (map g xs) ys
zip_mapped g P R [] [] h z = tt
zip_mapped g P R [] (y ∷ ys) h z = absurd z
zip_mapped g P R (x ∷ xs) [] h z = absurd z
zip_mapped g P R (x ∷ xs) (y ∷ ys) h z = (h x y (inl refl) z.0, zip_mapped g P R xs ys (λ x y i. h x y (inr i)) z.1)

-- the first of what is left belongs to what is left
pub zip_left : {B : Type 0} (R : Entry → B → Type 0) (l : Claim) (ys : List B) (n : ℕ) (e : Entry) (y : B) →
    drop n l ≡ e ∷ drop (n + 1) l → drop n ys ≡ y ∷ drop (n + 1) ys → R e y →
    (AllZip R (drop n l) (drop n ys) → AllZip R l ys) → AllZip R (drop (n + 1) l) (drop (n + 1) ys) → AllZip R l ys
zip_left R l ys n e y p q r h z = h (rw (p, q) (r, z))

-- nothing is left
pub zip_done : {B : Type 0} (R : Entry → B → Type 0) (l : Claim) (ys : List B) (n : ℕ) → length l ≤ n → length ys ≤ n →
    (AllZip R (drop n l) (drop n ys) → AllZip R l ys) → AllZip R l ys
zip_done R l ys n p q h = h (rw (drop_all n l p, drop_all n ys q) tt)

pub mapped_place : {A B : Type 0} (f : A → B) (xs : List A) (n : ℕ) (d : A) → n < length xs →
    drop n (map f xs) ≡ f (slice_index_or xs n d) ∷ drop (n + 1) (map f xs)
mapped_place {A = A} f xs n d lt = rw (add_one n) (go xs n lt)
  where
    add_one : (n : ℕ) → n + 1 ≡ suc n
    add_one n = omega arith

    none : {X : Type 0} (xs : List X) → xs ≡ drop 0 xs
    none [] = refl
    none (x ∷ xs) = refl

    go : (xs : List A) (n : ℕ) → n < length xs → drop n (map f xs) ≡ f (slice_index_or xs n d) ∷ drop (suc n) (map f xs)
    go [] n lt = absurd (omega arith)
    go (x ∷ xs) zero lt = ap (λ ys. f x ∷ ys) (none (map f xs))
    go (x ∷ xs) (suc n) lt = go xs n (omega arith)

-- ---- lists that grow beside the entries of a claim
-- with whatever belongs to the entries that are left, the list belongs to the claim
abbrev pub Grows : {B : Type 0} → (Entry → B → Type 0) → Claim → ℕ → List B → Type 0
Grows {B = B} R l n ys = (rest : List B) → AllZip R (drop n l) rest → AllZip R l (ys ++ rest)

pub grows_next : {A B : Type 0} (R : Entry → B → Type 0) (f : A → B) (l : Claim) (n : ℕ) (e : Entry)
    (items after : List A) (y : A) →
    drop n l ≡ e ∷ drop (n + 1) l → after ≡ items ++ y ∷ [] → R e (f y) → Grows R l n (map f items) →
    Grows R l (n + 1) (map f after)
grows_next R f l n e items after y at q r h rest z =
    rw (map_next f items after y q, append_assoc (map f items) (f y ∷ []) rest) (h (f y ∷ rest) (rw at (r, z)))

pub grows_all : {B : Type 0} (R : Entry → B → Type 0) (l : Claim) (n : ℕ) (ys : List B) → length l ≤ n →
    Grows R l n ys → AllZip R l ys
grows_all R l n ys le h = subst (λ zs. AllZip R l zs) (append-nil ys) (h [] (rw (drop_all n l le) tt))

pub zip_entry : {A B : Type 0} (R : Entry → B → Type 0) (f : A → B) (l : Claim) (xs : List A) (n : ℕ) (d : A) →
    n < length l → n < length xs → AllZip R l (map f xs) → R (slice_index_or l n (0, 0)) (f (slice_index_or xs n d))
zip_entry R f [] xs n d lt lu z = absurd (omega arith)
zip_entry R f (x ∷ xs) [] n d lt lu z = absurd (omega arith)
zip_entry R f (x ∷ xs) (y ∷ ys) zero d lt lu z = z.0
zip_entry R f (x ∷ xs) (y ∷ ys) (suc n) d lt lu z = zip_entry R f xs ys n d (omega arith) (omega arith) z.1

-- ---- the entries that pass a test
pub filter_all : (p : Entry → Bool) (l : Claim) (n : ℕ) (items : Claim) → length l ≤ n →
    items ++ filter p (drop n l) ≡ filter p l → items ≡ filter p l
filter_all p l n items le h = sym (append-nil items) ∙ rw (drop_all n l le) at h
