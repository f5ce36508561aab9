-- Words of commands, and an input of two buffers that are both live at 4.
use Rattle.std.proofs.Common.{◌≡◌, ◌≢◌, ◌<◌, ◌∙◌, ℕ, slice_index, List, [], ◌∷◌, Some, None, Ok, codes, refl, sym, ap, lit<, lit≤, arith, rules}
use Rattle.std.specs.FinMap.{empty, gets, insert}
use Rattle.dsa_outside.specs.Held.{FileMap, file_at}
use Rattle.dsa_outside.specs.Seen.{FilesSeen}
use Rattle.dsa_outside.proofs.Lookups.{file_at-with_file, file_at-with_other}
use Rattle.csv_instance.specs.Parse.{parse}
use Rattle.csv_instance.specs.Records.{table_of}
use Rattle.csv_instance.proofs.FileFacts.{two, two_file, two_parse, two_reads, two_rows}
use Rattle.command_words.specs.Options.{Word}
use Rattle.command_words.specs.Pairs.{Pair, name_in}
use Rattle.command_words.specs.Requests.{request_of}
use Rattle.command_words.specs.declared.verb.Verb.{Verb}
use Rattle.command_words.specs.declared.role.Role.TheVariants as role
use Rattle.readings.specs.Opens.{IsInput}
use Rattle.dsaplan_core.specs.Theorem.{Asked}

-- ---- words
abbrev pub bounds_values : List Word
bounds_values = codes "--input" ∷ codes "i" ∷ []

abbrev pub classes_values : List Word
classes_values = codes "--input" ∷ codes "i" ∷ codes "--output" ∷ codes "o" ∷ []

abbrev pub core_values : Word → List Word
core_values capacity =
    codes "--capacity" ∷ capacity ∷ codes "--input" ∷ codes "i" ∷ codes "--output" ∷ codes "o" ∷ codes "--log"
    ∷ codes "l" ∷ []

abbrev pub pack_values : List Word
pack_values =
    codes "--input" ∷ codes "i" ∷ codes "--output" ∷ codes "o" ∷ codes "--log" ∷ codes "l" ∷ codes "--steps" ∷ codes "9"
    ∷ []

-- the same with a capacity
abbrev pub pack_within : Word → List Word
pack_within capacity = codes "--capacity" ∷ capacity ∷ pack_values

abbrev pub verify_values : Word → List Word
verify_values capacity =
    codes "--capacity" ∷ capacity ∷ codes "--input" ∷ codes "i" ∷ codes "--layout" ∷ codes "a" ∷ []

abbrev pub trial_values : Word → List Word
trial_values count =
    codes "--seed" ∷ codes "7" ∷ codes "--count" ∷ count ∷ codes "--steps" ∷ codes "5" ∷ []

abbrev pub import_values : List Word
import_values = codes "--trace" ∷ codes "t" ∷ codes "--output" ∷ codes "o" ∷ []

abbrev pub draw_values : List Word
draw_values =
    codes "--input" ∷ codes "i" ∷ codes "--layout" ∷ codes "a" ∷ codes "--output" ∷ codes "o" ∷ []

abbrev pub upgrade_values : List Word
upgrade_values = codes "--input" ∷ codes "i" ∷ codes "--log" ∷ codes "l" ∷ codes "--output" ∷ codes "o" ∷ []

abbrev pub unroll_values : List Word
unroll_values = codes "--period" ∷ codes "10" ∷ codes "--input" ∷ codes "i" ∷ codes "--output" ∷ codes "o" ∷ []

-- ---- files
abbrev pub told : FileMap → FilesSeen
told files = record { held = Some files; faults = λ name. 0 }

-- the input stands in the file i, and nothing else is there
abbrev pub input_alone : FileMap
input_alone = insert empty (codes "i") two_file

-- lists of which the first numbers differ
pub first_differs : (xs ys : List ℕ) → slice_index xs 0 < slice_index ys 0 → xs ≢ ys
first_differs xs ys lt e = omega (arith, lt, ap (λ (zs : List ℕ). slice_index zs 0) e)

pub i_is_not_o : codes "i" ≢ codes "o"
i_is_not_o = first_differs (codes "i") (codes "o") (lit< tt)

pub reads_none : (name : List ℕ) → file_at (Some empty) name ≡ None
reads_none name = grind (gets, rules)

pub reads_input : file_at (Some input_alone) (codes "i") ≡ Some two_file
reads_input = file_at-with_file (Some empty) (codes "i") two_file refl

pub reads_no_output : file_at (Some input_alone) (codes "o") ≡ None
reads_no_output =
    file_at-with_other (Some empty) (codes "i") two_file (codes "o") (λ e. i_is_not_o (sym e)) ∙ reads_none (codes "o")

pub in_parse : parse (table_of two_file) ≡ Ok two
in_parse = ap parse two_reads ∙ two_parse

pub its_input : IsInput (told input_alone) (codes "i") two_rows two
its_input = record {
  bytes = two_file;
  whole = record { held = λ there. reads_input; short = lit≤ tt };
  records = sym two_reads;
  parsed = two_parse;
}

-- the words ask for the command, on this input
abbrev pub asking : (words : List Word) (v : Verb) (pairs : List Pair) →
    request_of words ≡ Ok (record { verb = v; pairs = pairs }) → name_in pairs role.Input ≡ codes "i" →
    Asked words (told input_alone)
asking words v pairs asked named = record {
  verb = v;
  pairs = pairs;
  table = two_rows;
  instance = two;
  words_ask = asked;
  input = rw named its_input;
}
