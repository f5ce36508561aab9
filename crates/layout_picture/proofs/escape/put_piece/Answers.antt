use Rattle.layout_picture.proofs.Escaping.{within_bytes}
use Rattle.layout_picture.proofs.escape.put_piece.Goals as goal

pub returns-in_ok-put_char-in-Some-clause-within : goal.returns-in_ok-put_char-in-Some-clause-within
returns-in_ok-put_char-in-Some-clause-within c = within_bytes c.args.bytes.now _ c.requires c.decode-found.ensures.size
