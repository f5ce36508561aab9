use Rattle.std.proofs.Common.{◌≡◌, ◌∙◌, List, ℕ, Ok, ap, subst}
use Rattle.command_words.specs.declared.role.Role.TheVariants as role
use Rattle.run_course.specs.Prepares.{write_of}
use Rattle.csv_instance.specs.Parse.{parse}
use Rattle.csv_instance.specs.Records.{table_of}
use Rattle.dsa_model.specs.Chosen.{some_of}
use Rattle.writings.specs.Named.{names_of}
use Rattle.explaining.proofs.Concluding.{explains}
use Rattle.explaining.proofs.explain.explained.Goals as goal

pub returns : goal.returns
returns c =
    let found = rw c.in-Core.is at c.in_ok-find_core.ensures.found in
    let text = rw c.as_slice.ensures.value at c.in_ok-write_rows.ensures.text in
    explains c.args.words.now.capacity (names_of c.args.words.now.names) c.args.table.now c.args.instance.now
    c.in-Core.core.members.items
    c.in-Core.core.log
    (record {
      role = role.Output;
      name = c.args.words.now.names.output.now;
      bytes = c.in_ok-write_rows.field-0.items;
    })
    (write_of c.in_ok-log.log) found.core found.accepted found.capacity
    (subst (λ (xs : List ℕ). parse (table_of xs) ≡ Ok (some_of c.args.instance.now c.in-Core.core.members.items)) text
    (rw c.as_slice.ensures.value at (c.in_ok-write_rows.ensures.parsed c.args.instance.now c.requires.parsed)))
    c.in_ok-log.ensures.readable
    (ap (λ (xs : List ℕ). record { role = role.Output; name = c.args.words.now.names.output.now; bytes = xs }) text)
    c.in_ok-log.ensures.file c.len-members.result c.two_writes.result
    (c.len-members.ensures ∙ c.in-Core.core.members.ok.0) c.two_writes.ensures
