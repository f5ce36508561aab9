-- What stands before a line that is refused.
use Rattle.std.proofs.Common.{◌≡◌, ◌∙◌, ◌<◌, ◌≤◌, ◌⊎◌, ◌++◌, ◌∷◌, [], ap, append_assoc, arith, count_by, Err, inl, inr, length, List, map, nat_le, None, not, Ok, Option, option_map, refl, slice_get, Some, subst, suc, sym, take, true, false, Bool, is_some, zero, ℕ}
use Rattle.std.proofs.lemmas.List.{length-map, map_push}
use Rattle.std.specs.Option.{option_map_or, option_or}
use Rattle.dsa_model.specs.Buffer.{alignment_limit, size_limit, when, buffer_limit}
use Rattle.dsa_model.proofs.Faults.{map_none, neither}
use Rattle.trace_import.specs.Faults.{event_fault, holder, is_to, number_fault, pieces_of, place_fault, read_from, trace_of, with_event}
use Rattle.trace_import.specs.Laws.{IsNotLive, IsStillLive, Reaches}
use Rattle.trace_import.specs.Lines.{event_in}
use Rattle.trace_import.specs.Traces.{Alloc, Event, Free, is_alloc}
use Rattle.trace_import.specs.declared.fault.TraceFault.{TraceFault}
use Rattle.trace_import.specs.declared.fault.TraceFault.TheVariants as fault
use Rattle.trace_import.proofs.Held.{alive_then, holder_holds, holder_of_none, holds_after, IsAlive}

-- ---- lines without a fault
-- no line has a fault beside those before it
pub record IsClean (es : List Event) : Type 0 where
  pub good : (k : ℕ) (e : Event) → slice_get es k ≡ Some e → event_fault (take k es) e ≡ None

pub none_clean : IsClean []
none_clean = record { good = λ k e h. absurd cc }

get_front : (es : List Event) (e : Event) (k : ℕ) → k < length es → slice_get (es ++ e ∷ []) k ≡ slice_get es k
get_front [] e k lt = absurd (omega arith)
get_front (x ∷ xs) e zero lt = refl
get_front (x ∷ xs) e (suc k) lt = get_front xs e k (omega arith)

get_last : (es : List Event) (e d : Event) (k : ℕ) → length es ≤ k → slice_get (es ++ e ∷ []) k ≡ Some d →
    (k ≡ length es) × (d ≡ e)
get_last [] e d zero le h = (refl, cc)
get_last [] e d (suc k) le h = absurd cc
get_last (x ∷ xs) e d zero le h = absurd (omega arith)
get_last (x ∷ xs) e d (suc k) le h = let r = get_last xs e d k (omega arith) h in (ap suc r.0, r.1)

take_front : (es : List Event) (e : Event) (k : ℕ) → k ≤ length es → take k (es ++ e ∷ []) ≡ take k es
take_front es e zero le = refl
take_front [] e (suc k) le = absurd (omega arith)
take_front (x ∷ xs) e (suc k) le = ap (λ ys. x ∷ ys) (take_front xs e k (omega arith))

take_whole : (es : List Event) (k : ℕ) → k ≡ length es → take k es ≡ es
take_whole [] zero e = refl
take_whole [] (suc k) e = absurd (omega arith)
take_whole (x ∷ xs) zero e = absurd (omega arith)
take_whole (x ∷ xs) (suc k) e = ap (λ ys. x ∷ ys) (take_whole xs k (omega arith))

pub clean_more : (es : List Event) (e : Event) → IsClean es → event_fault es e ≡ None → IsClean (es ++ e ∷ [])
clean_more es e c n = record { good = λ k d h. go k d h (below k) }
  where
    below : (k : ℕ) → (k < length es) ⊎ (length es ≤ k)
    below k = grind arith

    go : (k : ℕ) (d : Event) → slice_get (es ++ e ∷ []) k ≡ Some d → (k < length es) ⊎ (length es ≤ k) →
        event_fault (take k (es ++ e ∷ [])) d ≡ None
    go k d h (inl lt) =
        ap (λ xs. event_fault xs d) (take_front es e k (omega arith)) ∙ c.good k d (sym (get_front es e k lt) ∙ h)
    go k d h (inr le) =
        let r = get_last es e d k le h in
        ap (λ xs. event_fault xs d) (take_front es e k (let q = r.0 in omega arith) ∙ take_whole es k r.0)
        ∙ ap (event_fault es) r.1 ∙ n

-- ---- one line holds an identifier
kept_in_front : (es : List Event) (k m : ℕ) (id : List ℕ) → k < m → IsAlive es k id → IsAlive (take m es) k id
kept_in_front es k m id lt a = record {
  size = a.size;
  alignment = a.alignment;
  allocates = get_take es m k lt ∙ a.allocates;
  unfreed = λ f l q. a.unfreed f l (in_whole es m f (Free id) q);
}
  where
    get_take : (xs : List Event) (m k : ℕ) → k < m → slice_get (take m xs) k ≡ slice_get xs k
    get_take xs zero k lt = absurd (omega arith)
    get_take [] (suc m) k lt = refl
    get_take (x ∷ xs) (suc m) zero lt = refl
    get_take (x ∷ xs) (suc m) (suc k) lt = get_take xs m k (omega arith)

    in_whole : (xs : List Event) (m f : ℕ) (e : Event) → slice_get (take m xs) f ≡ Some e → slice_get xs f ≡ Some e
    in_whole xs zero f e h = absurd cc
    in_whole [] (suc m) f e h = h
    in_whole (x ∷ xs) (suc m) zero e h = h
    in_whole (x ∷ xs) (suc m) (suc f) e h = in_whole xs m f e h

unheld : (before : List Event) (id : List ℕ) (size alignment : ℕ) →
    event_fault before (Alloc id size alignment) ≡ None → holder before id ≡ None
unheld before id size alignment n =
    let place = (neither (number_fault (length before) (Alloc id size alignment))
    (place_fault before (Alloc id size alignment)) n).1 in
    map_none (fault.StillLive (length before)) (holder before id)
    ((neither (option_map (fault.StillLive (length before)) (holder before id)) _ place).0)

not_before : (es : List Event) (j k : ℕ) (id : List ℕ) → IsClean es → IsAlive es j id → IsAlive es k id → j < k → ⊥
not_before es j k id c a b lt =
    holder_of_none (take k es) id j
    (unheld (take k es) id b.size b.alignment (c.good k (Alloc id b.size b.alignment) b.allocates))
    (kept_in_front es j k id lt a)

pub one_alive : (es : List Event) (j k : ℕ) (id : List ℕ) → IsClean es → IsAlive es j id → IsAlive es k id → j ≡ k
one_alive es j k id c a b = go (cases j k)
  where
    cases : (j k : ℕ) → (j < k) ⊎ ((k < j) ⊎ (j ≡ k))
    cases j k = grind arith

    go : (j < k) ⊎ ((k < j) ⊎ (j ≡ k)) → j ≡ k
    go (inl lt) = absurd (not_before es j k id c a b lt)
    go (inr (inl lt)) = absurd (not_before es k j id c b a lt)
    go (inr (inr e)) = e

-- ---- where reading stops
-- reading comes to a line that has its form, and has this fault beside those before it
record Stops (pieces : List (List ℕ)) (f : TraceFault) : Type 0 where
  before : List Event
  event : Event
  piece : List ℕ
  lines : map event_in (take (length before) pieces) ≡ map Some before
  next : slice_get pieces (length before) ≡ Some piece
  writes : event_in piece ≡ Some event
  faulty : event_fault before event ≡ Some f
  clean : IsClean before

front_is : (done rest : List (List ℕ)) (n : ℕ) → n ≡ length done → take n (done ++ rest) ≡ done
front_is [] rest zero e = refl
front_is [] rest (suc n) e = absurd (omega arith)
front_is (x ∷ xs) rest zero e = absurd (omega arith)
front_is (x ∷ xs) rest (suc n) e = ap (λ ys. x ∷ ys) (front_is xs rest n (omega arith))

next_is : (done rest : List (List ℕ)) (piece : List ℕ) (n : ℕ) → n ≡ length done →
    slice_get (done ++ piece ∷ rest) n ≡ Some piece
next_is [] rest piece zero e = refl
next_is [] rest piece (suc n) e = absurd (omega arith)
next_is (x ∷ xs) rest piece zero e = absurd (omega arith)
next_is (x ∷ xs) rest piece (suc n) e = next_is xs rest piece n (omega arith)

same_count : (done : List (List ℕ)) (seen : List Event) → map event_in done ≡ map Some seen →
    length seen ≡ length done
same_count done seen e =
    sym (length-map seen Some) ∙ sym (ap length e) ∙ length-map done event_in

module _ (f : TraceFault) (formed : (line : ℕ) → f ≡ fault.BadLine line → ⊥) where
  stops : (pieces done : List (List ℕ)) (seen : List Event) → map event_in done ≡ map Some seen → IsClean seen →
      read_from (Ok seen) pieces ≡ Err f → Stops (done ++ pieces) f
  stops [] done seen m c e = absurd cc
  stops ([] ∷ []) done seen m c e = absurd cc
  stops ((x ∷ xs) ∷ []) done seen m c e = absurd (formed (length seen) cc)
  stops (piece ∷ next ∷ pieces) done seen m c e =
      line (event_in piece) refl
      (λ event w n q. subst (λ ps. Stops ps f) (append_assoc done (piece ∷ []) (next ∷ pieces))
      (stops (next ∷ pieces) (done ++ piece ∷ []) (seen ++ event ∷ []) (longer event w)
      (clean_more seen event c n) q)) e
    where
      longer : (event : Event) → event_in piece ≡ Some event →
          map event_in (done ++ piece ∷ []) ≡ map Some (seen ++ event ∷ [])
      longer event w = map_push event_in done piece ∙ ap (λ (os : List (Option Event)). os ++ event_in piece ∷ []) m
          ∙ ap (λ o. map Some seen ++ o ∷ []) w ∙ sym (map_push Some seen event)

      stopped : (g : TraceFault) → read_from (Err g) (next ∷ pieces) ≡ Err f → g ≡ f
      stopped g q = cc

      judged : (event : Event) (o : Option TraceFault) → event_in piece ≡ Some event → event_fault seen event ≡ o →
          ((event : Event) → event_in piece ≡ Some event → event_fault seen event ≡ None →
          read_from (Ok (seen ++ event ∷ [])) (next ∷ pieces) ≡ Err f → Stops (done ++ piece ∷ next ∷ pieces) f) →
          read_from (option_map_or Err o (Ok (seen ++ event ∷ []))) (next ∷ pieces) ≡ Err f →
          Stops (done ++ piece ∷ next ∷ pieces) f
      judged event None w n ih q = ih event w n q
      judged event (Some g) w n ih q = record {
        before = seen;
        event = event;
        piece = piece;
        lines = ap (map event_in) (front_is done (piece ∷ next ∷ pieces) (length seen) (same_count done seen m)) ∙ m;
        next = next_is done (next ∷ pieces) piece (length seen) (same_count done seen m);
        writes = w;
        faulty = n ∙ ap Some (stopped g q);
        clean = c;
      }

      line : (o : Option Event) → event_in piece ≡ o →
          ((event : Event) → event_in piece ≡ Some event → event_fault seen event ≡ None →
          read_from (Ok (seen ++ event ∷ [])) (next ∷ pieces) ≡ Err f → Stops (done ++ piece ∷ next ∷ pieces) f) →
          read_from (with_event seen o) (next ∷ pieces) ≡ Err f → Stops (done ++ piece ∷ next ∷ pieces) f
      line None w ih q = absurd (formed (length seen) (sym (stopped (fault.BadLine (length seen)) q)))
      line (Some event) w ih q = judged event (event_fault seen event) w refl ih q

reached : (bytes : List ℕ) (f : TraceFault) (s : Stops (pieces_of bytes) f) (event : Event) → s.event ≡ event →
    Reaches bytes s.before event
reached bytes f s event e = record {
  piece = s.piece;
  lines = s.lines;
  next = s.next;
  writes = s.writes ∙ ap Some e;
}

where_it_stops : (bytes : List ℕ) (f : TraceFault) → ((line : ℕ) → f ≡ fault.BadLine line → ⊥) →
    trace_of bytes ≡ Err f → Stops (pieces_of bytes) f
unfolding trace_of
where_it_stops bytes f formed e = stops f formed (pieces_of bytes) [] [] refl none_clean e

-- ---- the two faults
still_from : (n line earlier : ℕ) (a b c : Bool) (h : Option ℕ) →
    option_or (option_or (when a (fault.BadSize n)) (option_or (when b (fault.BadAlignment n)) None))
    (option_or (option_map (fault.StillLive n) h) (option_or (when c (fault.TooManyBuffers n)) None))
    ≡ Some (fault.StillLive line earlier) → (n ≡ line) × (h ≡ Some earlier)
still_from n line earlier true b c h e = absurd cc
still_from n line earlier false true c h e = absurd cc
still_from n line earlier false false c (Some m) e = (cc, cc)
still_from n line earlier false false true None e = absurd cc
still_from n line earlier false false false None e = absurd cc

never_still : (n line earlier : ℕ) (b : Bool) → option_or None (when b (fault.NotLive n))
    ≡ Some (fault.StillLive line earlier) → ⊥
never_still n line earlier true e = cc
never_still n line earlier false e = cc

pub still_live_holds : (bytes : List ℕ) (line earlier : ℕ) → trace_of bytes ≡ Err (fault.StillLive line earlier) →
    IsStillLive bytes line earlier
still_live_holds bytes line earlier e =
    go (where_it_stops bytes (fault.StillLive line earlier) (λ l q. cc) e)
  where
    go : Stops (pieces_of bytes) (fault.StillLive line earlier) → IsStillLive bytes line earlier
    go s = by s.event refl s.faulty
      where
        by : (event : Event) → s.event ≡ event → event_fault s.before event ≡ Some (fault.StillLive line earlier) →
            IsStillLive bytes line earlier
        by (Free id) own f =
            absurd (never_still (length s.before) line earlier (not (is_some (holder s.before id))) f)
        by (Alloc id size alignment) own f =
            let r = still_from (length s.before) line earlier (not (is_to size_limit size))
            (not (is_to alignment_limit alignment)) (nat_le buffer_limit (count_by is_alloc s.before))
            (holder s.before id) f in
            record {
              before = s.before;
              count = r.0;
              id = id;
              size = size;
              alignment = alignment;
              reaches = reached bytes (fault.StillLive line earlier) s (Alloc id size alignment) own;
              holds = holds_after s.before earlier id (holder_holds s.before id earlier r.1);
              alone = λ other h. one_alive s.before other earlier id s.clean (alive_then s.before other id h)
                  (holder_holds s.before id earlier r.1);
            }

not_live_from : (n line : ℕ) (h : Option ℕ) → option_or None (when (not (is_some h)) (fault.NotLive n))
    ≡ Some (fault.NotLive line) → (n ≡ line) × (h ≡ None)
not_live_from n line None e = (cc, refl)
not_live_from n line (Some m) e = absurd cc

never_free : (n line : ℕ) (a b c : Bool) (h : Option ℕ) →
    option_or (option_or (when a (fault.BadSize n)) (option_or (when b (fault.BadAlignment n)) None))
    (option_or (option_map (fault.StillLive n) h) (option_or (when c (fault.TooManyBuffers n)) None))
    ≡ Some (fault.NotLive line) → ⊥
never_free n line true b c h e = cc
never_free n line false true c h e = cc
never_free n line false false c (Some m) e = cc
never_free n line false false true None e = cc
never_free n line false false false None e = cc

pub not_live_unheld : (bytes : List ℕ) (line : ℕ) → trace_of bytes ≡ Err (fault.NotLive line) → IsNotLive bytes line
not_live_unheld bytes line e = go (where_it_stops bytes (fault.NotLive line) (λ l q. cc) e)
  where
    go : Stops (pieces_of bytes) (fault.NotLive line) → IsNotLive bytes line
    go s = by s.event refl s.faulty
      where
        by : (event : Event) → s.event ≡ event → event_fault s.before event ≡ Some (fault.NotLive line) →
            IsNotLive bytes line
        by (Alloc id size alignment) own f =
            absurd (never_free (length s.before) line (not (is_to size_limit size))
            (not (is_to alignment_limit alignment)) (nat_le buffer_limit (count_by is_alloc s.before))
            (holder s.before id) f)
        by (Free id) own f =
            let r = not_live_from (length s.before) line (holder s.before id) f in
            record {
              before = s.before;
              count = r.0;
              id = id;
              reaches = reached bytes (fault.NotLive line) s (Free id) own;
              none = λ other h. holder_of_none s.before id other r.1 (alive_then s.before other id h);
            }
