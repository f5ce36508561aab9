use Rattle.std.proofs.Common.{◌∙◌, sym, map, string_bytes}
use Rattle.command_words.specs.Forms.{file_of}
use Rattle.command_words.specs.Pairs.{pairs_of, name_in}
use Rattle.command_words.proofs.NameLemmas.{a_name_again, no_name_again}
use Rattle.command_words.proofs.names.has_same_name.Goals as goal

pub returns-then-has_name : goal.returns-then-has_name
returns-then-has_name c =
    sym (c.loop-used.invariant
    ∙ a_name_again (name_in (pairs_of (map string_bytes c.args.words.now))) file_of
    c.loop-used.rest.now c.in-Some.after.now c.in-Some.used.now c.in-Some.ensures.cases.0
    c.in-Some-file.role (sym c.file.ensures ∙ c.in-Some-file.is)
    (rw (← c.name_in.ensures) (sym c.has_name.ensures ∙ c.if-has_name.true)))

pub loop-used-preserved-else-has_name : goal.loop-used-preserved-else-has_name
loop-used-preserved-else-has_name c =
    c.loop-used.invariant
    ∙ no_name_again (name_in (pairs_of (map string_bytes c.args.words.now))) file_of
    c.loop-used.rest.now c.in-Some.after.now c.in-Some.used.now c.in-Some.ensures.cases.0
    c.in-Some-file.role (sym c.file.ensures ∙ c.in-Some-file.is)
    (rw (← c.name_in.ensures) (sym c.has_name.ensures ∙ c.if-has_name.false))
