use Rattle.c_tokens.proofs.Decoded.{text_is_quoted}
use Rattle.c_tokens.proofs.laws.texts_are_quoted.Goals as goal

pub returns : goal.returns
returns c = text_is_quoted
