use Rattle.std.proofs.Common.{◌≡◌, ◌∙◌, ℕ, Vec, Global, ap, arith}
use Rattle.std.specs.String.{string_bytes}
use Rattle.make_instance.specs.Made.{record_line, made_record, made_text, record_of}
use Rattle.make_instance.specs.declared.row.Row.{Row}
use Rattle.make_instance.proofs.DrawLemmas.{state_first}
use Rattle.make_instance.proofs.Growth.{text_first, text_last, text_more}
use Rattle.make_instance.proofs.ParseLaw.{parsed}
use Rattle.make_instance.proofs.TextLemmas.{text_short}
use Rattle.make_instance.proofs.made.make.Goals as goal

pub loop-number-init : goal.loop-number-init
loop-number-init c = record {
  drawn = c.new-draws.ensures ∙ state_first c.args.seed;
  written = c.in_ok-text.ensures.ok ∙ text_first c.args.seed c.args.count;
}

pub loop-number-preserved : goal.loop-number-preserved
loop-number-preserved c =
    let number = c.loop-number.number in
    let drawn = c.loop-number.invariant.drawn in
    let row = c.next_row-row.ensures.row c.args.seed number drawn in
    let line : c.as_str.result.now ≡ record_line (made_record c.args.seed c.args.count number) =
    c.as_str.ensures.value ∙ c.in_ok-line.ensures ∙ ap (λ (r : Row). record_line (record_of number r)) row in
    record {
      drawn = c.next_row-row.ensures.state c.args.seed number drawn;
      written = c.in_ok-push_str.ensures.bytes
          ∙ text_more c.args.seed c.args.count number (string_bytes c.loop-number.text) c.as_str.result.now
          c.loop-number.invariant.written line;
    }

made : (c : goal.After-into_bytes) → c.into_bytes.result.items ≡ made_text c.args.seed c.args.count
made c = ap (λ (v : Vec ℕ Global). v.items) c.into_bytes.ensures.value
    ∙ text_last c.args.seed c.args.count c.loop-number.number (string_bytes c.loop-number.text) (omega arith)
    c.loop-number.invariant.written

pub returns-clause-value : goal.returns-clause-value
returns-clause-value c = made c

pub returns-clause-short : goal.returns-clause-short
returns-clause-short c = rw (made c) (text_short c.args.seed c.args.count (omega arith))

pub returns-clause-parsed : goal.returns-clause-parsed
returns-clause-parsed c = rw (made c) (parsed c.args.seed c.args.count (omega arith))
