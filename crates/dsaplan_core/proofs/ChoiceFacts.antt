-- Which answers of `solve`, `least` and `pack` a run gives, on two buffers whose best start ends at 5, and whose lower
-- bound and least capacity are 4.
use Rattle.std.proofs.Common.{◌≡◌, ◌≢◌, ◌∙◌, ℕ, slice_index, List, [], ◌∷◌, Option, None, Some, Ok, codes, refl, sym, ap, subst, inl, inr, lit≤, arith}
use Rattle.std.specs.FinMap.{empty, insert}
use Rattle.dsa_terms.specs.Buffers.{Instance}
use Rattle.dsa_terms.specs.Layouts.{IsLayout}
use Rattle.dsa_terms.specs.Logs.{Log}
use Rattle.dsa_terms.proofs.ExamplePlanFacts.{small_below_plan_at_5}
use Rattle.dsa_terms.proofs.Examples.{small_below}
use Rattle.dsa_outside.specs.Held.{FileMap, file_at}
use Rattle.dsa_outside.specs.Seen.{FilesSeen}
use Rattle.dsa_outside.proofs.Lookups.{file_at-with_file}
use Rattle.csv_instance.specs.Parse.{parse}
use Rattle.csv_instance.specs.Records.{Record, table_of}
use Rattle.planner.proofs.ExampleLeastFacts.{below_log, four_is_open}
use Rattle.planner.proofs.StepFacts.{laid_at_4, refuted_at_3}
use Rattle.command_words.specs.Options.{Word}
use Rattle.command_words.specs.Pairs.{name_in, pairs_of}
use Rattle.command_words.specs.Requests.{Request, request_of}
use Rattle.command_words.specs.declared.verb.Verb.TheVariants as verb
use Rattle.command_words.specs.declared.role.Role.TheVariants as role
use Rattle.run_status.specs.declared.status.Status.{Status}
use Rattle.run_status.specs.declared.status.Status.TheVariants as status
use Rattle.run_course.specs.Answers.{with_writes}
use Rattle.readings.specs.Opens.{IsInput}
use Rattle.writings.specs.Answers.{answer_files}
use Rattle.writings.proofs.ExampleFacts.{below_file, below_rows, file_is_below, log_alone, low_alone, low_and_log, low_file, rows_are_below, start_alone, start_file, three_file, three_log}
use Rattle.deciding.specs.Deciding.{IsPlanWithin, IsProofWithin, IsSolved, IsSought}
use Rattle.deciding.proofs.LeastFacts.{found_4}
use Rattle.dsaplan_core.specs.Choice.{Choice, IsAnswered}
use Rattle.dsaplan_core.specs.Courses.{IsAnswer, names_in}
use Rattle.dsaplan_core.specs.Theorem.{Asked}
use Rattle.dsaplan_core.proofs.WorldFacts.{core_values, pack_values, pack_within, told}

-- ---- the input stands in the file i, and nothing else is there
abbrev pub below_alone : FileMap
below_alone = insert empty (codes "i") below_file

reads_below : file_at (Some below_alone) (codes "i") ≡ Some below_file
reads_below = file_at-with_file (Some empty) (codes "i") below_file refl

pub its_input : IsInput (told below_alone) (codes "i") below_rows small_below
its_input = record {
  bytes = below_file;
  whole = record { held = λ there. reads_below; short = lit≤ tt };
  records = sym file_is_below;
  parsed = rows_are_below;
}

-- it is this table alone
pub only_input : (t : List Record) (I : Instance) → IsInput (told below_alone) (codes "i") t I →
    (t ≡ below_rows) × (I ≡ small_below)
only_input t I h =
    let held : Some below_file ≡ Some h.bytes = sym reads_below ∙ h.whole.held refl in
    let bytes : below_file ≡ h.bytes = cc in
    let table : t ≡ below_rows = h.records ∙ ap table_of (sym bytes) ∙ file_is_below in
    let parsed = sym rows_are_below ∙ ap parse (sym table) ∙ h.parsed in
    (table, cc)

-- ---- what words ask for on it
abbrev pub asking : (words : List Word) (r : Request) → request_of words ≡ Ok r →
    name_in r.pairs role.Input ≡ codes "i" → Asked words (told below_alone)
asking words r asked named = record {
  verb = r.verb;
  pairs = r.pairs;
  table = below_rows;
  instance = small_below;
  words_ask = asked;
  input = rw named its_input;
}

abbrev pub solving : Word → List Word
solving capacity = codes "solve" ∷ core_values capacity

abbrev pub solve_at : Word → Request
solve_at capacity = record { verb = verb.Solve; pairs = pairs_of (core_values capacity) }

abbrev pub seeking : List Word
seeking = codes "least" ∷ pack_values

abbrev pub seek : Request
seek = record { verb = verb.Least; pairs = pairs_of pack_values }

abbrev packing : List Word
packing = codes "pack" ∷ pack_within (codes "5")

-- the request answers of a table and its instance with the status, and these files are written
abbrev AnswersOf : Request → List Record → Instance → FilesSeen → Status → Type 0
AnswersOf r t I new s = (layout : Option (List ℕ)) × (log : Option Log) × IsAnswer r.verb r.pairs I s layout log
    × (new.held ≡ with_writes (Some below_alone) (answer_files (names_in r.pairs) t layout log))

-- an answer is one to what the words ask for, of the two buffers
answers : (words : List Word) (r : Request) (new : FilesSeen) (s : Status) → request_of words ≡ Ok r →
    name_in r.pairs role.Input ≡ codes "i" → IsAnswered words (told below_alone) new s →
    AnswersOf r below_rows small_below new s
answers words r new s asked named h =
    let a = h.0 in
    let q : Request = record { verb = a.verb; pairs = a.pairs } in
    let same : q ≡ r = (let k = a.words_ask in cc) in
    let name : name_in a.pairs role.Input ≡ codes "i" =
    ap (λ (r : Request). name_in r.pairs role.Input) same ∙ named in
    let its = only_input a.table a.instance
    (subst (λ (n : Word). IsInput (told below_alone) n a.table a.instance) name a.input) in
    subst (λ (r : Request). AnswersOf r below_rows small_below new s) same
    (subst (λ (I : Instance). AnswersOf q below_rows I new s) its.1
    (subst (λ (t : List Record). AnswersOf q t a.instance new s) its.0 (h.1, h.2, h.3, h.4)))

-- ---- within 3 bytes nothing fits, and the bound's log is written
proof_at_3 : IsProofWithin small_below 3 None three_log
proof_at_3 = record { refuted = refuted_at_3; by_bound = λ below. below_log; searched = λ le. tt }

abbrev pub refuted_files : FilesSeen
refuted_files = told (insert below_alone (codes "l") three_file)

refutes_3 : Choice (solving (codes "3")) (told below_alone) refuted_files (status.Infeasible 3)
refutes_3 = (
  asking (solving (codes "3")) (solve_at (codes "3")) refl refl,
  None,
  Some three_log,
  (refl, proof_at_3),
  sym (ap (with_writes (Some below_alone)) log_alone),
)

-- ---- the least capacity is 4: its plan and the bound's log at 3 are written
abbrev pub found_files : FilesSeen
found_files = told (insert (insert below_alone (codes "o") low_file) (codes "l") three_file)

finds_4 : Choice seeking (told below_alone) found_files (status.Least 4)
finds_4 = (
  asking seeking seek refl refl,
  Some (1 ∷ 0 ∷ []),
  Some three_log,
  found_4 9 (lit≤ tt),
  sym (ap (with_writes (Some below_alone)) low_and_log),
)

-- one more is not the least, whatever is written
not_sought_at_5 : (layout : Option (List ℕ)) (log : Option Log) →
    IsSought small_below (Some 9) (status.Least 5) layout log → ⊥
not_sought_at_5 None log a = a
not_sought_at_5 (Some offsets) log a = elim a.is_least.1 [
  | inl e ↦ omega (arith, e)
  | inr none ↦ none (1 ∷ 0 ∷ []) laid_at_4
]

finds_no_5 : (new : FilesSeen) → Choice seeking (told below_alone) new (status.Least 5) → ⊥
finds_no_5 new h = let a = answers seeking seek new (status.Least 5) refl refl h in not_sought_at_5 a.0 a.1 a.2

-- ---- within 5 the plan is the best start, and it is written
abbrev pub laid_files : List ℕ → FilesSeen
laid_files bytes = told (insert below_alone (codes "o") bytes)

within_5 : IsPlanWithin small_below 5 None (0 ∷ 4 ∷ [])
within_5 = record { planned = small_below_plan_at_5; layout = four_is_open.layout; searched = λ none. tt }

plans_5 : Choice (solving (codes "5")) (told below_alone) (laid_files start_file) (status.Feasible 5)
plans_5 = (
  asking (solving (codes "5")) (solve_at (codes "5")) refl refl,
  Some (0 ∷ 4 ∷ []),
  None,
  (refl, within_5),
  sym (ap (with_writes (Some below_alone)) start_alone),
)

-- the plan within 4 is a layout within 5 as well, which `pack` may give, and is not the plan there
low_within_5 : IsLayout small_below 5 (1 ∷ 0 ∷ [])
low_within_5 = record {
  count = laid_at_4.count;
  aligned = laid_at_4.aligned;
  above = laid_at_4.above;
  within = λ b lt. let le = laid_at_4.within b lt in omega (arith, le);
  apart = laid_at_4.apart;
}

packs_low : Choice packing (told below_alone) (laid_files low_file) (status.Feasible 5)
packs_low = (
  asking packing (record { verb = verb.Pack; pairs = pairs_of (pack_within (codes "5")) }) refl refl,
  Some (1 ∷ 0 ∷ []),
  None,
  (refl, low_within_5),
  sym (ap (with_writes (Some below_alone)) low_alone),
)

files_differ : low_file ≢ start_file
files_differ e = let d : 49 ≡ 48 = ap (λ (bytes : List ℕ). slice_index bytes 47) e in omega (arith, d)

reads_laid : (bytes : List ℕ) → file_at (laid_files bytes).held (codes "o") ≡ Some bytes
reads_laid bytes = file_at-with_file (Some below_alone) (codes "o") bytes refl

abbrev once_laid : Option (List ℕ) → Option Log → Option FileMap
once_laid layout log =
    with_writes (Some below_alone) (answer_files (names_in (solve_at (codes "5")).pairs) below_rows layout log)

not_solved_low : (layout : Option (List ℕ)) (log : Option Log) →
    IsSolved small_below 5 None (status.Feasible 5) layout log → (laid_files low_file).held ≡ once_laid layout log → ⊥
not_solved_low None log a w = a
not_solved_low (Some offsets) (Some log) a w = a
not_solved_low (Some offsets) None a w =
    let plan : offsets ≡ 0 ∷ 4 ∷ [] = (let e = small_below_plan_at_5 in let f = a.1.planned in cc) in
    let held : (laid_files low_file).held ≡ (laid_files start_file).held =
    w ∙ ap (λ (xs : List ℕ). once_laid (Some xs) None) plan ∙ ap (with_writes (Some below_alone)) start_alone in
    let read : Some low_file ≡ Some start_file =
    sym (reads_laid low_file) ∙ ap (λ (held : Option FileMap). file_at held (codes "o")) held ∙ reads_laid start_file in
    files_differ cc

plans_no_other : Choice (solving (codes "5")) (told below_alone) (laid_files low_file) (status.Feasible 5) → ⊥
plans_no_other h =
    let a = answers (solving (codes "5")) (solve_at (codes "5")) (laid_files low_file) (status.Feasible 5) refl refl h
    in
    not_solved_low a.0 a.1 a.2 a.3
