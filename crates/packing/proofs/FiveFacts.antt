-- Five buffers whose least capacity is 12: how `pack` goes on them from their file on.
use Rattle.std.proofs.Common.{List, [], ◌∷◌, None, Some, codes, refl, sym, ap, lit≤}
use Rattle.std.specs.FinMap.{empty, insert}
use Rattle.dsa_terms.proofs.Examples.{five}
use Rattle.dsa_outside.specs.Seen.{FilesSeen}
use Rattle.dsa_outside.proofs.Lookups.{file_at-with_file}
use Rattle.csv_instance.proofs.FileFacts.{five_file, five_parse, five_reads, five_rows}
use Rattle.packer.proofs.ExampleFacts.{five_laid}
use Rattle.run_status.specs.declared.status.Status.TheVariants.{Feasible}
use Rattle.run_course.specs.Course.{Comes, Concludes, Outcome, Write, writes}
use Rattle.readings.specs.Opens.{IsInput}
use Rattle.readings.proofs.Opening.{with_input}
use Rattle.writings.proofs.ExampleFacts.{at_12, five_alone, laid_file, names, to_output}
use Rattle.packing.specs.Packing.{Packs, pack}

-- ---- the layout within 12
abbrev laid_out : Outcome
laid_out = writes (to_output laid_file ∷ []) (Feasible 12)

packs : Packs (Some 12) 0 names five_rows five laid_out
packs = record {
  status = Feasible 12;
  layout = Some at_12;
  log = None;
  answer = (refl, five_laid);
  readable = tt;
  written = ap (λ (ws : List Write). writes ws (Feasible 12)) (sym five_alone);
}

-- ---- from the file on
abbrev files : FilesSeen
files = record { held = Some (insert empty (codes "i") five_file); faults = λ name. 0 }

its_input : IsInput files (codes "i") five_rows five
its_input = record {
  bytes = five_file;
  whole = record { held = λ told. file_at-with_file (Some empty) (codes "i") five_file refl; short = lit≤ tt };
  records = sym five_reads;
  parsed = five_parse;
}

goes : Comes files files (pack (Some 12) 0 names) laid_out
goes = with_input files files files (codes "i") five_rows five (λ t I. Concludes (Packs (Some 12) 0 names t I))
    (five, its_input) five_parse refl (λ name. lit≤ tt) laid_out (tt, packs)
