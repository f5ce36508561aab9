-- A small course, and what a run on it leaves: it reads the file i, and copies its bytes to o and to l.
use Rattle.std.proofs.Common.{◌≡◌, ◌<◌, ℕ, suc, List, length, replicate, [], ◌∷◌, Some, None, inl, inr, cond, codes, refl, ap, lit<, lit≤, arith, rules}
use Rattle.std.proofs.lemmas.List.{length-replicate}
use Rattle.std.specs.FinMap.{empty, gets, insert}
use Rattle.std.specs.Str.{bytes_eq}
use Rattle.dsa_outside.specs.Held.{FileMap, file_at}
use Rattle.dsa_outside.specs.Seen.{FilesSeen, SinkSeen}
use Rattle.dsa_outside.proofs.FileMaps.{remove-insert}
use Rattle.dsa_outside.proofs.Lookups.{file_at-with_file}
use Rattle.command_words.specs.declared.role.Role.TheVariants as role
use Rattle.command_words.specs.Roles.{limit_of}
use Rattle.run_status.specs.declared.status.Status.TheVariants as status
use Rattle.run_course.specs.Answers.{Answers, AreBroken, IsCutShort, Leaves, Tells}
use Rattle.run_course.specs.Complete.{ConcludesOn}
use Rattle.run_course.specs.Course.{Comes, Course, Ends, Outcome, Reads, Write, says, writes}
use Rattle.run_course.proofs.Concluding.{IsServed}

-- ---- the course
abbrev pub output : List ℕ → Write
output bytes = record { role = role.Output; name = codes "o"; bytes = bytes }

abbrev pub log : List ℕ → Write
log bytes = record { role = role.Log; name = codes "l"; bytes = bytes }

abbrev pub copied : List ℕ → Outcome
copied bytes = writes (output bytes ∷ log bytes ∷ []) status.Right

abbrev pub copy : Course
copy = Reads role.Input (codes "i") (λ bytes. Ends (copied bytes))

-- ---- files, and a sink
abbrev pub told : FileMap → FilesSeen
told files = record { held = Some files; faults = λ name. 0 }

abbrev pub failed : FileMap → List ℕ → FilesSeen
failed files name = record { held = Some files; faults = λ other. cond (bytes_eq other name) 1 0 }

abbrev pub holding : List ℕ → FileMap
holding bytes = insert empty (codes "i") bytes

abbrev pub sink : List ℕ → ℕ → SinkSeen
sink content faults = record { content = Some content; faults = faults }

pub reads_i : (bytes : List ℕ) → file_at (Some (holding bytes)) (codes "i") ≡ Some bytes
reads_i bytes = file_at-with_file (Some empty) (codes "i") bytes refl

pub reads_none : file_at (Some empty) (codes "i") ≡ None
reads_none = grind (gets, rules)

-- two bytes are there, and then their copies
abbrev pub before : FileMap
before = holding (codes "ab")

abbrev pub halfway : FileMap
halfway = insert before (codes "o") (codes "ab")

abbrev pub after : FileMap
after = insert halfway (codes "l") (codes "ab")

-- ---- reading
pub comes_to_copies : (new : FilesSeen) → Comes (told before) new copy (copied (codes "ab"))
comes_to_copies new =
    inr (codes "ab", record { held = λ told. reads_i (codes "ab"); short = lit≤ tt }, (tt, refl))

missing : Comes (told empty) (told empty) copy (says (status.ReadFault role.Input))
missing = inl (inl (refl, inr reads_none), refl)

too_long : (bytes : List ℕ) → limit_of role.Input < length bytes →
    Comes (told (holding bytes)) (told empty) copy (says (status.TooLong role.Input))
too_long bytes long = inl (inr (refl, λ told. record { bytes = bytes; held = reads_i bytes; long = long }), refl)

such_bytes : (most : ℕ) → (bytes : List ℕ) × (most < length bytes)
such_bytes most =
    (replicate (suc most) 0, (let e = length-replicate {A = ℕ} (suc most) 0 in omega (arith, e)))

no_other_file : (old new : FilesSeen) → Comes old new copy (says (status.ReadFault role.Log)) → ⊥
no_other_file old new (inl (inl (e, unread), ended)) = absurd cc
no_other_file old new (inl (inr (e, long), ended)) = absurd cc
no_other_file old new (inr (bytes, whole, (spoken, e))) = let k = ap (λ (o : Outcome). o.status) e in absurd cc

served : IsServed (told before) (told before) copy
served = (λ rose. omega (arith, rose), λ bytes. tt)

concludes : ConcludesOn (told before) copy status.Right
concludes = λ file. (copied file.bytes, tt, refl, refl)

-- with no other status, where the file is there
not_concluded_otherwise : ConcludesOn (told before) copy (status.ReadFault role.Input) → ⊥
not_concluded_otherwise h =
    let ends = h (record { bytes = codes "ab"; held = reads_i (codes "ab"); short = lit≤ tt }) in
    let same = ap (λ (o : Outcome). o.status) ends.2 in
    let told = ends.3 in
    cc

-- ---- writing
all_written : Leaves (told before) (told after) (copied (codes "ab")).writes None
all_written = refl

-- the log's file got one byte
pub log_broken : AreBroken (told before) (failed (insert halfway (codes "l") (codes "a")) (codes "l"))
    (copied (codes "ab")).writes role.Log
log_broken = record {
  made = output (codes "ab") ∷ [];
  lost = log (codes "ab");
  rest = [];
  order = refl;
  its_role = refl;
  rose = inl (lit< tt);
  others = ap Some (remove-insert halfway (codes "l") (codes "a"));
}

-- no call failed
not_broken : (files : FileMap) (writes : List Write) → AreBroken (told before) (told files) writes role.Log → ⊥
not_broken files writes h = omega (arith, h.rose)

-- ---- printing
tells_right : Tells copy (told before) (told after) status.Right (codes "right\n")
tells_right = record {
  outcome = copied (codes "ab");
  lost = None;
  comes = comes_to_copies (told after);
  files = refl;
  its_status = refl;
  its_text = refl;
}

answers_right : Answers copy (told before) (told after) (sink (codes "x") 0) (sink (codes "xright\n") 0) status.Right
answers_right = record { text = codes "right\n"; tells = tells_right; printed = refl }

-- the sink takes three bytes, and fails
half_printed : Answers copy (told before) (told after) (sink [] 0) (sink (codes "rig") 1) status.PrintFault
half_printed = record {
  status = status.Right;
  text = codes "right\n";
  tells = tells_right;
  rose = inl (lit< tt);
  taken = 3;
  prefix = refl;
}

-- ---- memory runs out: before all, and between the two writes
before_all : Answers copy (told before) (told before) (sink [] 0) (sink [] 0) status.NoMemory
before_all = record { files = inl refl; silent = refl }

between_writes : Answers copy (told before) (told halfway) (sink [] 0) (sink [] 0) status.NoMemory
between_writes = record {
  files = inr (record {
    outcome = copied (codes "ab");
    comes = comes_to_copies (told halfway);
    files = inl (record {
      made = output (codes "ab") ∷ [];
      rest = log (codes "ab") ∷ [];
      order = refl;
      held = refl;
    });
  });
  silent = refl;
}

-- something was printed
not_silent : IsCutShort copy (told before) (told halfway) (sink [] 0) (sink (codes "r") 0) → ⊥
not_silent h = let e = h.silent in absurd cc
