use Rattle.std.proofs.Common.{◌∙◌, refl, sym, None, Some}
use Rattle.std.proofs.lemmas.Bool.Decides.{Decides-eqb}
use Rattle.std.proofs.lemmas.Slice.Eq.{strip_prefix_is}
use Rattle.log_text.proofs.cursor.Cursor.take.Goals as goal

pub returns-in-Some : goal.returns-in-Some
returns-in-Some c = sym c.self.view_is ∙ strip_prefix_is Decides-eqb c.self.inside.rest.now c.args.bytes.now
    (Some c.in-Some.rest) c.in-Some.ensures.cases

pub returns-in-None : goal.returns-in-None
returns-in-None c = (
  refl,
  λ r e. strip_prefix_is Decides-eqb c.self.inside.rest.now c.args.bytes.now None
      c.in-None.ensures.cases r (c.self.view_is ∙ e),
)
