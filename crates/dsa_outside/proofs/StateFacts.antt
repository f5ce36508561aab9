-- Worked states of files and of a sink in memory.
use Rattle.std.proofs.Common.{◌≡◌, ℕ, true, false, [], ◌∷◌, Some, String, Vec, string_bytes, refl}
use Rattle.std.specs.BTreeMap.{BTreeMap}
use Rattle.std.specs.FinMap.{empty, insert}
use Rattle.std.specs.declared.alloc.Global.{Global}
use Rattle.dsa_outside.specs.Calls.{is_due}
use Rattle.dsa_outside.specs.Held.{file_at, with_text}
use Rattle.dsa_outside.specs.MemoryState.{FilesState, SinkState, file_map}
use Rattle.dsa_outside.proofs.ExampleFacts.{first_is_due, listed, one_file, second_is_not, three_bytes_are_held}

-- ---- files of a map
module _ (m : BTreeMap (String Global) (Vec ℕ Global)) (name : String Global) (bytes : Vec ℕ Global) where
  no_files : m.entries ≡ [] → file_map m ≡ empty
  no_files e = rw e refl

  its_file : m.entries ≡ (name, bytes) ∷ [] → file_map m ≡ insert empty (string_bytes name) bytes.items
  its_file e = rw e refl

-- ---- states
-- one file, and the first call, which is to fail, is the next one
abbrev files : FilesState
files = record { files = one_file; calls = listed 0 0 }

file_is_held : file_at (Some files.files) (105 ∷ []) ≡ Some (1 ∷ 2 ∷ 3 ∷ [])
file_is_held = three_bytes_are_held

read_is_due : is_due files.calls ≡ true
read_is_due = first_is_due

-- two bytes are taken, and the second put, which is not to fail, is the next one
abbrev sink : SinkState
sink = record { content = 7 ∷ 8 ∷ []; calls = listed 1 1 }

bytes_are_taken : with_text (Some sink.content) (9 ∷ []) ≡ Some (7 ∷ 8 ∷ 9 ∷ [])
bytes_are_taken = refl

put_is_not_due : is_due sink.calls ≡ false
put_is_not_due = second_is_not
