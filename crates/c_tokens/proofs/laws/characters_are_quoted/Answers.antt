use Rattle.c_tokens.proofs.Decoded.{character_is_quoted}
use Rattle.c_tokens.proofs.laws.characters_are_quoted.Goals as goal

pub returns : goal.returns
returns c = character_is_quoted
