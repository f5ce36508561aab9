-- What a run on the small course leaves of the files and the sink, and what it cannot leave.
use Rattle.std.proofs.Common.{◌≡◌, ◌∙◌, ◌++◌, ◌<◌, ◌⊎◌, ℕ, List, [], ◌∷◌, Option, Some, None, inl, inr, codes, refl, sym, ap, lit<, arith, rules}
use Rattle.std.specs.FinMap.{empty, gets, insert}
use Rattle.dsa_model.specs.Counts.{Rose}
use Rattle.dsa_outside.specs.Held.{FileMap, file_at}
use Rattle.dsa_outside.specs.Seen.{FilesSeen}
use Rattle.dsa_outside.proofs.Lookups.{file_at-with_file}
use Rattle.command_words.specs.declared.role.Role.TheVariants as role
use Rattle.command_words.specs.declared.role.Role.{Role}
use Rattle.run_status.specs.Lines.{line}
use Rattle.run_status.specs.declared.status.Status.TheVariants as status
use Rattle.run_course.specs.Answers.{AreBegun, AreBroken, IsInterrupted, IsSaid, IsUnsaid, Leaves, Tells, as_told, with_writes}
use Rattle.run_course.specs.Course.{Comes, Outcome, Write, says}
use Rattle.run_course.proofs.ExampleFacts.{after, before, comes_to_copies, copied, copy, failed, halfway, log, log_broken, output, reads_none, sink, told}

-- ---- writes, one after the other
-- of two writes of one name the last stays
the_last_stays : file_at (with_writes (Some empty) (output (codes "a") ∷ output (codes "b") ∷ [])) (codes "o")
    ≡ Some (codes "b")
the_last_stays = file_at-with_file (Some (insert empty (codes "o") (codes "a"))) (codes "o") (codes "b") refl

-- where nothing is told of the files, nothing is after writes
nothing_told : with_writes None (output (codes "a") ∷ []) ≡ None
nothing_told = refl

-- ---- what is told
told_of_a_lost_log : as_told (copied (codes "ab")) (Some role.Log) ≡ says (status.WriteFault role.Log)
told_of_a_lost_log = refl

told_of_none : as_told (copied (codes "ab")) None ≡ copied (codes "ab")
told_of_none = refl

-- ---- the first writes
none_made : AreBegun (told before) (told before) (copied (codes "ab")).writes
none_made = record { made = []; rest = (copied (codes "ab")).writes; order = refl; held = refl }

both_made : AreBegun (told before) (told after) (copied (codes "ab")).writes
both_made = record { made = (copied (codes "ab")).writes; rest = []; order = refl; held = refl }

-- the log's file is written, and the output is not
abbrev skipped : FileMap
skipped = insert before (codes "l") (codes "ab")

-- the second write alone is no beginning
not_the_second_alone : AreBegun (told before) (told skipped) (copied (codes "ab")).writes → ⊥
not_the_second_alone h = go h.made h.rest h.order h.held
  where
    has_log : file_at (Some skipped) (codes "l") ≡ Some (codes "ab")
    has_log = file_at-with_file (Some before) (codes "l") (codes "ab") refl

    no_log : (files : FileMap) → files ≡ before → file_at (Some files) (codes "l") ≡ None
    no_log files e = rw e (grind (gets, rules))

    no_log_yet : file_at (Some halfway) (codes "l") ≡ None
    no_log_yet = grind (gets, rules)

    no_output : file_at (Some skipped) (codes "o") ≡ None
    no_output = grind (gets, rules)

    has_output : file_at (Some after) (codes "o") ≡ Some (codes "ab")
    has_output = grind (gets, rules)

    apart : (held now : Option FileMap) (name : List ℕ) (x : List ℕ) → held ≡ now →
        file_at held name ≡ Some x → file_at now name ≡ None → ⊥
    apart held now name x e p q = let same = ap (λ (f : Option FileMap). file_at f name) e in cc

    go : (made rest : List Write) → (copied (codes "ab")).writes ≡ made ++ rest →
        Some skipped ≡ with_writes (Some before) made → ⊥
    go [] rest order held = apart (Some skipped) (Some before) (codes "l") (codes "ab") held has_log
        (no_log before refl)
    go (m ∷ []) rest order held =
        let is : output (codes "ab") ≡ m = cc in
        apart (Some skipped) (Some halfway) (codes "l") (codes "ab") (rw (← is) at held) has_log no_log_yet
    go (m ∷ n ∷ []) rest order held =
        let is : output (codes "ab") ≡ m = cc in
        let too : log (codes "ab") ≡ n = cc in
        apart (Some after) (Some skipped) (codes "o") (codes "ab") (sym (rw (← is, ← too) at held)) has_output no_output
    go (m ∷ n ∷ k ∷ ms) rest order held = absurd cc

-- ---- a write that failed
-- the write of the log comes after that of the output
the_lost_one : (old new : FilesSeen) (h : AreBroken old new (copied (codes "ab")).writes role.Log) →
    (h.made ≡ output (codes "ab") ∷ []) × (h.lost ≡ log (codes "ab"))
the_lost_one old new h = go h.made h.lost h.rest h.order h.its_role
  where
    none : (ms : List Write) (lost : Write) (rest : List Write) → [] ≡ ms ++ (lost ∷ rest) → ⊥
    none [] lost rest e = cc
    none (m ∷ ms) lost rest e = cc

    go : (made : List Write) (lost : Write) (rest : List Write) → (copied (codes "ab")).writes ≡ made ++ (lost ∷ rest) →
        lost.role ≡ role.Log → (made ≡ output (codes "ab") ∷ []) × (lost ≡ log (codes "ab"))
    go [] lost rest order its =
        let is : output (codes "ab") ≡ lost = cc in let r = ap (λ (w : Write). w.role) is in absurd cc
    go (m ∷ []) lost rest order its = (cc, cc)
    go (m ∷ n ∷ ms) lost rest order its = absurd (none ms lost rest cc)

-- the fault is one of its own name
not_by_another_fault : (files : FileMap) →
    AreBroken (told before) (failed files (codes "o")) (copied (codes "ab")).writes role.Log → ⊥
not_by_another_fault files h =
    let is = ap (λ (w : Write). w.name) (the_lost_one (told before) (failed files (codes "o")) h).1 in
    no_rise h.lost.name is h.rose
  where
    no_rise : (name : List ℕ) → name ≡ codes "l" → Rose 0 ((failed before (codes "o")).faults name) → ⊥
    no_rise name is rose = omega (arith, rw is at rose)

-- ---- what is printed
-- a run that says `right` says it by its line
right_is_told : (old new : FilesSeen) (text : List ℕ) → Tells copy old new status.Right text → text ≡ codes "right\n"
right_is_told old new text t = by_lost t.lost t.outcome t.comes t.its_status t.its_text
  where
    by_lost : (lost : Option Role) (o : Outcome) → Comes old new copy o → status.Right ≡ (as_told o lost).status →
        text ≡ (as_told o lost).text → text ≡ codes "right\n"
    by_lost (Some role) o comes is its = absurd cc
    by_lost None o (inl (unreadable, e)) is its = its ∙ ap (λ (o : Outcome). o.text) e ∙ ap line (sym is)
    by_lost None o (inr (bytes, whole, (spoken, e))) is its = its ∙ ap (λ (o : Outcome). o.text) e

-- it cannot print nothing
not_silently : IsSaid copy (told before) (told after) (sink [] 0) (sink [] 0) status.Right → ⊥
not_silently h =
    let e = right_is_told (told before) (told after) h.text h.tells in
    let p = h.printed in
    absurd cc

-- and it prints behind what the sink has
not_before_it : IsSaid copy (told before) (told after) (sink (codes "x") 0) (sink (codes "right\nx") 0) status.Right → ⊥
not_before_it h =
    apart 114 120 (lit< tt) (ap first h.printed)
  where
    first : Option (List ℕ) → ℕ
    first (Some (c ∷ cs)) = c
    first (Some []) = 0
    first None = 0

    apart : (a b : ℕ) → a < b → a ≡ b → ⊥
    apart a b lt e = omega arith

-- a text is not printed in part without a fault of the sink
not_without_a_fault : IsUnsaid copy (told before) (told after) (sink [] 0) (sink (codes "rig") 0) → ⊥
not_without_a_fault h = omega (arith, h.rose)

-- what the sink has stays
not_taken_away : IsUnsaid copy (told before) (told after) (sink (codes "x") 0) (sink [] 1) → ⊥
not_taken_away h = let p = h.prefix in absurd cc

-- ---- runs that were interrupted
-- the write of the log failed
interrupted_at_the_log : IsInterrupted copy (told before) (failed (insert halfway (codes "l") (codes "a")) (codes "l"))
interrupted_at_the_log = record {
  outcome = copied (codes "ab");
  comes = comes_to_copies (failed (insert halfway (codes "l") (codes "a")) (codes "l"));
  files = inr (Some role.Log, log_broken);
}

-- without its file nothing is written
nothing_without_its_file : (new : FilesSeen) → IsInterrupted copy (told empty) new → new.held ≡ Some empty
nothing_without_its_file new h = by_outcome h.outcome h.comes h.files
  where
    none : (made : List Write) (lost : Write) (rest : List Write) → [] ≡ made ++ (lost ∷ rest) → ⊥
    none [] lost rest e = cc
    none (m ∷ made) lost rest e = cc

    all_made : (made rest : List Write) → [] ≡ made ++ rest → with_writes (Some empty) made ≡ Some empty
    all_made [] rest e = refl
    all_made (m ∷ made) rest e = absurd cc

    by_files : AreBegun (told empty) new [] ⊎ ((lost : Option Role) × Leaves (told empty) new [] lost) →
        new.held ≡ Some empty
    by_files (inl begun) = begun.held ∙ all_made begun.made begun.rest begun.order
    by_files (inr (None, held)) = held
    by_files (inr (Some role, broken)) = absurd (none broken.made broken.lost broken.rest broken.order)

    by_outcome : (o : Outcome) → Comes (told empty) new copy o →
        AreBegun (told empty) new o.writes ⊎ ((lost : Option Role) × Leaves (told empty) new o.writes lost) →
        new.held ≡ Some empty
    by_outcome o (inl (unreadable, e)) files = by_files (rw e at files)
    by_outcome o (inr (bytes, whole, ends)) files =
        let is = whole.held refl in let not_there = reads_none in absurd cc
