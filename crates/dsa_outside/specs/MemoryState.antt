-- What contracts see of files and sinks in memory.
use Rattle.std.specs.Prelude.{ℕ, List, map, string_bytes, refl, String, Vec}
use Rattle.std.specs.BTreeMap.{BTreeMap}
use Rattle.std.specs.declared.alloc.Global.{Global}
use Rattle.std.specs.FinMap as finite
use Rattle.std.specs.Coded.{Coded, code_by, coded×, coded_ℕ, coded_list}
use Rattle.dsa_outside.specs.Held.{FileMap}
use Rattle.dsa_outside.specs.Calls.{CallState}

-- files are stored as their entries
abbrev pub file_map_code : Coded FileMap
file_map_code = finite.code (coded_list coded_ℕ) (coded_list coded_ℕ)

-- the files of a map from texts to bytes
abbrev pub file_map : BTreeMap (String Global) (Vec ℕ Global) → FileMap
file_map m = finite.from_entries (map (λ e. (string_bytes e.0, e.1.items)) m.entries)

-- files in memory: what they hold, and which calls fail
pub record FilesState : Type 0 where
  pub files : FileMap
  pub calls : CallState

-- files in memory are stored as their parts
abbrev pub files_state_code : Coded FilesState
files_state_code =
    code_by (FileMap × (List ℕ × (ℕ × ℕ)))
    (coded× file_map_code (coded× (coded_list coded_ℕ) (coded× coded_ℕ coded_ℕ)))
    (λ s. (s.files, (s.calls.failing, (s.calls.next, s.calls.faults))))
    (λ p. record { files = p.0; calls = record { failing = p.1.0; next = p.1.1.0; faults = p.1.1.1 } })
    (λ _. refl)

-- a sink in memory: the bytes that it has taken, and which puts fail
pub record SinkState : Type 0 where
  pub content : List ℕ
  pub calls : CallState
