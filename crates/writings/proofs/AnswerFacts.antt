-- What an answer is and is not: of the two buffers whose least capacity is 4, a layout and a log.
use Rattle.std.proofs.Common.{◌≡◌, ◌∙◌, ℕ, List, [], ◌∷◌, map, Option, Some, None, codes, refl, sym, ap, arith}
use Rattle.dsa_terms.specs.Logs.{Log}
use Rattle.command_words.specs.declared.role.Role.TheVariants as role
use Rattle.run_status.specs.declared.status.Status.{Status}
use Rattle.run_status.specs.declared.status.Status.TheVariants as status
use Rattle.run_course.specs.Course.{Outcome, Write, writes}
use Rattle.writings.specs.Answers.{AllReadBack, Gives, answer_files, layout_files, log_files}
use Rattle.writings.specs.Writings.{ReadsBack}
use Rattle.writings.proofs.ExampleFacts.{below_rows, low_and_log, low_file, names, three_file, three_log, three_reads, to_log, to_output}

-- no layout and no log are no files
no_files : (layout_files (codes "o") below_rows None ≡ []) × (log_files (codes "l") None ≡ [])
no_files = (refl, refl)

-- the layout comes first, and each has its own name
of_their_names : map (λ (w : Write). w.name)
    (answer_files (record { input = codes "a"; output = codes "b"; log = codes "c" }) below_rows (Some (0 ∷ 4 ∷ []))
    (Some three_log)) ≡ codes "b" ∷ codes "c" ∷ []
of_their_names = refl

-- the layout is the output's, and the log is the log's
of_their_roles : map (λ (w : Write). w.role) (answer_files names below_rows (Some (0 ∷ 4 ∷ [])) (Some three_log))
    ≡ role.Output ∷ role.Log ∷ []
of_their_roles = refl

-- a log whose capacity is past its limit does not read back
past_the_limit : (log : Log) → log.capacity ≡ 1152921504606846977 → ReadsBack log → ⊥
past_the_limit log at h = let k = h.kept.capacity_limit in omega (arith, at, k)

so_not_all_read_back : (log : Log) → log.capacity ≡ 1152921504606846977 → AllReadBack (Some log) → ⊥
so_not_all_read_back log at h = past_the_limit log at h

-- ---- one right answer: 4 is the least capacity, by a layout and a log
abbrev Only : Status → Option (List ℕ) → Option Log → Type 0
Only s layout log = (s ≡ status.Least 4) × (layout ≡ Some (1 ∷ 0 ∷ [])) × (log ≡ Some three_log)

abbrev given : Outcome
given = writes (to_output low_file ∷ to_log three_file ∷ []) (status.Least 4)

it_is_given : Gives Only names below_rows given
it_is_given = record {
  status = status.Least 4;
  layout = Some (1 ∷ 0 ∷ []);
  log = Some three_log;
  answer = (refl, refl, refl);
  readable = three_reads;
  written = ap (λ files. writes files (status.Least 4)) (sym low_and_log);
}

-- nothing else is: no file is left out, and they stand in this order
nothing_else : (o : Outcome) → Gives Only names below_rows o → o ≡ given
nothing_else o g = g.written
    ∙ same g.status g.layout g.log g.answer.0 g.answer.1 g.answer.2
    ∙ ap (λ files. writes files (status.Least 4)) low_and_log
  where
    same : (s : Status) (layout : Option (List ℕ)) (log : Option Log) → s ≡ status.Least 4 →
        layout ≡ Some (1 ∷ 0 ∷ []) → log ≡ Some three_log →
        writes (answer_files names below_rows layout log) s
        ≡ writes (answer_files names below_rows (Some (1 ∷ 0 ∷ [])) (Some three_log)) (status.Least 4)
    same s layout log e f g = rw (e, f, g) refl

-- what is no answer is not given, whatever is written
no_answer : (o : Outcome) → Gives (λ s layout log. ⊥) names below_rows o → ⊥
no_answer o g = g.answer
