-- Legal lines stay legal where their buffers get other numbers, which rise as the old ones do.
use Rattle.std.proofs.Common.{◌≡◌, ℕ, ◌+◌, ◌<◌, ◌⊎◌, inl, inr, Bool, true, false, not, cond, ◌==◌, nat_lt, max, List, [], ◌∷◌, map, length, filter, refl, sym, ap, ◌∙◌, subst, arith}
use Rattle.std.proofs.lemmas.List.Sums.{sum_by-cons}
use Rattle.std.specs.List.{AllZip, sum_by}
use Rattle.dsa_terms.specs.Buffers.{Instance, buffer}
use Rattle.dsa_terms.specs.Claims.{Claim, Covers, Entry, IsClaim, IsIn, IsWhole, Rises, buffers_of, child, step, up}
use Rattle.dsa_terms.specs.Logs.{Cite, ByLine, Below, Twin, Line, Over, Cases, IsLegal, IsLegalCite, IsLegalReason, IsOver, claim_of, ends_below, is_stacked, is_twin, rounded, rounding}
use Rattle.dsa_terms.proofs.Lists.{from_filter, from_map, into_map}
use Rattle.dsa_terms.proofs.NumberTests.{apart, is_below, not_below, same}
use Rattle.dsa_terms.proofs.Places.{get_map}
use Rattle.core_find.specs.Carried.{renamed_cite, renamed_claim, renamed_entry, renamed_line}

-- ---- lists whose items are mapped
filter_over : {X Y : Type 0} (f : X → Y) (p : X → Bool) (q : Y → Bool) (xs : List X) →
    ((x : X) → IsIn x xs → q (f x) ≡ p x) → filter q (map f xs) ≡ map f (filter p xs)
filter_over f p q [] h = refl
filter_over f p q (x ∷ xs) h = rw (h x (inl refl)) (go (filter_over f p q xs (λ y i. h y (inr i))) (p x))
  where
    go : filter q (map f xs) ≡ map f (filter p xs) → (b : Bool) →
        cond b (f x ∷ filter q (map f xs)) (filter q (map f xs)) ≡ map f (cond b (x ∷ filter p xs) (filter p xs))
    go ih true = ap (λ ys. f x ∷ ys) ih
    go ih false = ih

map_over : {X Y Z : Type 0} (f : X → Y) (g : Y → Z) (h : X → Z) (xs : List X) →
    ((x : X) → IsIn x xs → g (f x) ≡ h x) → map g (map f xs) ≡ map h xs
map_over f g h [] e = refl
map_over f g h (x ∷ xs) e = rw (e x (inl refl), map_over f g h xs (λ y i. e y (inr i))) refl

sum_over : {X Y : Type 0} (f : X → Y) (g : Y → ℕ) (h : X → ℕ) (xs : List X) →
    ((x : X) → IsIn x xs → g (f x) ≡ h x) → sum_by g (map f xs) ≡ sum_by h xs
sum_over f g h [] e = refl
sum_over f g h (x ∷ xs) e =
    let rest = sum_over f g h xs (λ y i. e y (inr i)) in
    let first = e x (inl refl) in
    let new = sum_by-cons g (f x) (map f xs) in
    let old = sum_by-cons h x xs in
    omega arith

none_over : {X Y : Type 0} (f : X → Y) (xs : List X) → map f xs ≡ [] → xs ≡ []
none_over f [] h = refl
none_over f (x ∷ xs) h = absurd cc

order_kept : (b c x y : ℕ) → (b < c → x < y) → (c < b → y < x) → (b ≡ c → x ≡ y) →
    ((x == y) ≡ (b == c)) × (nat_lt x y ≡ nat_lt b c)
order_kept b c x y less more equal = go (cases b c)
  where
    cases : (b c : ℕ) → (b < c) ⊎ ((c < b) ⊎ (b ≡ c))
    cases b c = grind arith

    go : (b < c) ⊎ ((c < b) ⊎ (b ≡ c)) → ((x == y) ≡ (b == c)) × (nat_lt x y ≡ nat_lt b c)
    go (inl lt) = let new = less lt in
        (apart x y (omega arith) ∙ sym (apart b c (omega arith)), is_below x y new ∙ sym (is_below b c lt))
    go (inr (inl gt)) = let new = more gt in (
      apart x y (omega arith) ∙ sym (apart b c (omega arith)),
      not_below x y (omega arith) ∙ sym (not_below b c (omega arith)),
    )
    go (inr (inr e)) = let new = equal e in
        (same x y new ∙ sym (same b c e), not_below x y (omega arith) ∙ sym (not_below b c (omega arith)))

-- ---- buffers with other numbers
-- the buffers of these numbers of J are in K under the new numbers, which rise as the old ones do
pub record AreRenamed (J K : Instance) (bs : List ℕ) (to : ℕ → ℕ) : Type 0 where
  pub alike : (b : ℕ) → IsIn b bs → buffer K (to b) ≡ buffer J b
  pub there : (b : ℕ) → IsIn b bs → to b < length K
  pub rise : (b c : ℕ) → IsIn b bs → IsIn c bs → b < c → to b < to c

-- the buffers of the claim are among these
abbrev pub IsOf : List ℕ → Claim → Type 0
IsOf bs l = (e : Entry) → IsIn e l → IsIn e.0 bs

pub claim_of-renamed : (to : ℕ → ℕ) (line : Line) → claim_of (renamed_line to line) ≡ renamed_claim to (claim_of line)
claim_of-renamed to (Over l T H G) = refl
claim_of-renamed to (Cases l cites) = refl

module _ (J K : Instance) (bs : List ℕ) (to : ℕ → ℕ) (are : AreRenamed J K bs to) where
  same_order : (b c : ℕ) → IsIn b bs → IsIn c bs →
      ((to b == to c) ≡ (b == c)) × (nat_lt (to b) (to c) ≡ nat_lt b c)
  same_order b c i j = order_kept b c (to b) (to c) (are.rise b c i j) (are.rise c b j i) (λ e. ap to e)

  same_up : (e : Entry) → IsIn e.0 bs → up K (renamed_entry to e) ≡ up J e
  unfolding up
  same_up e i = rw (are.alike e.0 i) refl

  same_step : (b c : ℕ) → IsIn b bs → IsIn c bs → step K (to b) (to c) ≡ step J b c
  unfolding step
  same_step b c i j = rw (are.alike b i, are.alike c j, (same_order c b j i).1) refl

  -- ---- children and what covers them
  same_child : (l : Claim) (e : Entry) → IsOf bs l → IsIn e.0 bs →
      child K (renamed_claim to l) (renamed_entry to e) ≡ renamed_claim to (child J l e)
  unfolding child
  same_child l e h i =
      ap (map below) (filter_over (renamed_entry to) (λ f. not (f.0 == e.0)) (λ f. not (f.0 == to e.0)) l
      (λ f j. ap not (same_order f.0 e.0 (h f j) i).0))
      ∙ map_over (renamed_entry to) below (λ f. renamed_entry to (before f)) others each
      ∙ sym (map_over before (renamed_entry to) (λ f. renamed_entry to (before f)) others (λ f j. refl))
    where
      before : Entry → Entry
      before f = (f.0, max (up J f) (up J e + step J e.0 f.0))

      below : Entry → Entry
      below f = (f.0, max (up K f) (up K (renamed_entry to e) + step K (to e.0) f.0))

      others : Claim
      others = filter (λ f. not (f.0 == e.0)) l

      each : (f : Entry) → IsIn f others → below (renamed_entry to f) ≡ renamed_entry to (before f)
      each f j =
          let k = h f (from_filter (λ f. not (f.0 == e.0)) l f j).0 in
          rw (same_up f k, same_up e i, same_step e.0 f.0 i k) refl

  covers_renamed : (k l : Claim) → IsOf bs l → Covers J k l → Covers K (renamed_claim to k) (renamed_claim to l)
  covers_renamed k l h c e i =
      let x = from_map (renamed_entry to) k e i in
      let f = c x.0 x.1 in
      let number = ap (λ (y : Entry). y.0) x.2 in
      let bound = ap (λ (y : Entry). y.1) x.2 in
      let least = same_up f.0 (h f.0 f.1) in
      let le = f.3 in
      (renamed_entry to f.0, into_map (renamed_entry to) l f.0 f.1, ap to f.2 ∙ sym number, omega arith)

  child_is_of : (l : Claim) (e : Entry) → IsOf bs l → IsOf bs (child J l e)
  unfolding child
  child_is_of l e h x i =
      let f = from_map (λ (f : Entry). (f.0, max (up J f) (up J e + step J e.0 f.0)))
      (filter (λ f. not (f.0 == e.0)) l) x i in
      subst (λ b. IsIn b bs) (sym (ap (λ (y : Entry). y.0) f.2))
      (h f.0 (from_filter (λ f. not (f.0 == e.0)) l f.0 f.1).0)

  -- ---- cites
  same_below : (f e : Entry) → IsIn f.0 bs → IsIn e.0 bs →
      ends_below K (renamed_entry to f) (renamed_entry to e) ≡ ends_below J f e
  unfolding ends_below
  same_below f e i j = rw ((same_order f.0 e.0 i j).0, same_up f i, same_up e j, are.alike f.0 i) refl

  same_twin : (f e : Entry) → IsIn f.0 bs → IsIn e.0 bs →
      is_twin K (renamed_entry to f) (renamed_entry to e) ≡ is_twin J f e
  unfolding is_twin
  same_twin f e i j =
      rw ((same_order f.0 e.0 i j).1, same_up f i, same_up e j, are.alike f.0 i, are.alike e.0 j) refl

  cite_renamed : (earlier : List Line) (l : Claim) (e : Entry) (cite : Cite) → IsOf bs l → IsIn e.0 bs →
      IsLegalCite J earlier l e cite →
      IsLegalCite K (map (renamed_line to) earlier) (renamed_claim to l) (renamed_entry to e) (renamed_cite to cite)
  cite_renamed earlier l e (ByLine k) h i q = (
    renamed_line to q.0,
    get_map (renamed_line to) earlier k q.0 q.1,
    rw (claim_of-renamed to q.0, same_child l e h i)
        (covers_renamed (claim_of q.0) (child J l e) (child_is_of l e h) q.2),
  )
  cite_renamed earlier l e (Below c) h i q = (
    renamed_entry to q.0,
    into_map (renamed_entry to) l q.0 q.1,
    ap to q.2,
    same_below q.0 e (h q.0 q.1) i ∙ q.3,
  )
  cite_renamed earlier l e (Twin c) h i q = (
    renamed_entry to q.0,
    into_map (renamed_entry to) l q.0 q.1,
    ap to q.2,
    same_twin q.0 e (h q.0 q.1) i ∙ q.3,
  )

  cites_renamed : (earlier : List Line) (l m : Claim) (cites : List Cite) → IsOf bs l → IsOf bs m →
      AllZip (IsLegalCite J earlier l) m cites →
      AllZip (IsLegalCite K (map (renamed_line to) earlier) (renamed_claim to l)) (renamed_claim to m)
      (map (renamed_cite to) cites)
  cites_renamed earlier l [] [] h k z = z
  cites_renamed earlier l [] (c ∷ cs) h k z = absurd z
  cites_renamed earlier l (e ∷ es) [] h k z = absurd z
  cites_renamed earlier l (e ∷ es) (c ∷ cs) h k z = (
    cite_renamed earlier l e c h (k e (inl refl)) z.0,
    cites_renamed earlier l es cs h (λ f i. k f (inr i)) z.1,
  )

  -- ---- stacks
  same_stacked : (T H G : ℕ) (e : Entry) → IsIn e.0 bs →
      is_stacked K T H G (renamed_entry to e) ≡ is_stacked J T H G e
  unfolding is_stacked
  same_stacked T H G e i = rw (same_up e i, are.alike e.0 i) refl

  same_rounded : (G : ℕ) (e : Entry) → IsIn e.0 bs → rounded K G (renamed_entry to e) ≡ rounded J G e
  unfolding rounded
  same_rounded G e i = rw (are.alike e.0 i) refl

  same_rounding : (G : ℕ) (e : Entry) → IsIn e.0 bs → rounding K G (renamed_entry to e) ≡ rounding J G e
  unfolding rounding
  same_rounding G e i = rw (same_rounded G e i, are.alike e.0 i) refl

  over_renamed : (C T H G : ℕ) (l : Claim) → IsOf bs l → IsOver J C T H G l → IsOver K C T H G (renamed_claim to l)
  over_renamed C T H G l h o = record {
    modulus = o.modulus;
    from_multiple = o.from_multiple;
    some_stacked = λ e. o.some_stacked (none_over (renamed_entry to) stack (sym stacked ∙ e));
    too_high = rw (
      stacked,
      sum_over (renamed_entry to) (rounded K G) (rounded J G) stack (λ e i. same_rounded G e (inside e i)),
      map_over (renamed_entry to) (rounding K G) (rounding J G) stack (λ e i. same_rounding G e (inside e i)),
    ) o.too_high;
  }
    where
      stack : Claim
      stack = filter (is_stacked J T H G) l

      stacked : filter (is_stacked K T H G) (renamed_claim to l) ≡ renamed_claim to stack
      stacked = filter_over (renamed_entry to) (is_stacked J T H G) (is_stacked K T H G) l
          (λ e i. same_stacked T H G e (h e i))

      inside : (e : Entry) → IsIn e stack → IsIn e.0 bs
      inside e i = h e (from_filter (is_stacked J T H G) l e i).0

  -- ---- lines
  reason_renamed : (C : ℕ) (earlier : List Line) (line : Line) → IsOf bs (claim_of line) →
      IsLegalReason J C earlier line → IsLegalReason K C (map (renamed_line to) earlier) (renamed_line to line)
  reason_renamed C earlier (Over l T H G) h q = over_renamed C T H G l h q
  reason_renamed C earlier (Cases l cites) h q = cites_renamed earlier l l cites h h q

  rise_renamed : (l : Claim) → IsOf bs l → Rises (buffers_of l) → Rises (buffers_of (renamed_claim to l))
  rise_renamed [] h s = tt
  rise_renamed (e ∷ l) h s = (first, rise_renamed l (λ f i. h f (inr i)) s.1)
    where
      first : (y : ℕ) → IsIn y (buffers_of (renamed_claim to l)) → to e.0 < y
      first y i =
          let x = from_map (λ (x : Entry). x.0) (renamed_claim to l) y i in
          let f = from_map (renamed_entry to) l x.0 x.1 in
          subst (λ k. to e.0 < k) (sym (x.2 ∙ ap (λ (z : Entry). z.0) f.2))
          (are.rise e.0 f.0.0 (h e (inl refl)) (h f.0 (inr f.1)) (s.0 f.0.0 (into_map (λ (x : Entry). x.0) l f.0 f.1)))

  claim_renamed : (l : Claim) → IsOf bs l → IsClaim J l → IsClaim K (renamed_claim to l)
  claim_renamed l h c = record {
    rises = rise_renamed l h c.rises;
    in_range = λ e i. let f = from_map (renamed_entry to) l e i in
        subst (λ k. k < length K) (sym (ap (λ (z : Entry). z.0) f.2)) (are.there f.0.0 (h f.0 f.1));
  }

  pub legal_renamed : (C : ℕ) (earlier : List Line) (line : Line) → IsOf bs (claim_of line) →
      IsLegal J C earlier line → IsLegal K C (map (renamed_line to) earlier) (renamed_line to line)
  legal_renamed C earlier line h q = record {
    claim = rw (claim_of-renamed to line) (claim_renamed (claim_of line) h q.claim);
    not_empty = rw (claim_of-renamed to line) (λ e. q.not_empty (none_over (renamed_entry to) (claim_of line) e));
    reason = reason_renamed C earlier line h q.reason;
  }

  pub whole_renamed : (l : Claim) → IsOf bs l → IsWhole J l → IsWhole K (renamed_claim to l)
  whole_renamed l h w e i =
      let f = from_map (renamed_entry to) l e i in rw (f.2, are.alike f.0.0 (h f.0 f.1)) (w f.0 f.1)
