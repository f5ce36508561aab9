use Rattle.std.proofs.Common.{rules, ◌∙◌, sym, ap}
use Rattle.std.specs.List.{list_all}
use Rattle.std.specs.Str.Parse.{digits_value}
use Rattle.log_text.specs.Digits.{is_digit}
use Rattle.log_text.specs.Reading.{fitting}
use Rattle.log_text.proofs.ReadLemmas.{no_number, number_read, parts}
use Rattle.log_text.proofs.cursor.Cursor.number.Goals as goal

pub returns-then-not-are_canonical-clause-none : goal.returns-then-not-are_canonical-clause-none
returns-then-not-are_canonical-clause-none c =
    no_number c.args.self.now c.split_at.result.0.now c.split_at.result.1.now
    (sym c.self.view_is ∙ parts _ _ _ _ c.split_at.ensures.front c.split_at.ensures.back)
    (ap (λ ds. list_all is_digit ds) c.split_at.ensures.front ∙ c.digits_of-front.ensures.digits)
    (rw c.split_at.ensures.back c.digits_of-front.ensures.stops)
    (λ k. let t = c.are_canonical.ensures.1 k in cc)

pub returns-clause-some : goal.returns-clause-some
returns-clause-some c =
    number_read c.args.self.now c.split_at.result.0.now c.split_at.result.1.now _
    (sym c.self.view_is ∙ parts _ _ _ _ c.split_at.ensures.front c.split_at.ensures.back)
    (c.are_canonical.ensures.0 (search rules))
    (rw c.split_at.ensures.back c.digits_of-front.ensures.stops)
    (c.digits_of-front.ensures.value ∙ ap (λ ds. fitting (digits_value 10 ds)) (sym c.split_at.ensures.front))
