-- Programs have formed trees.
use Rattle.std.specs.Prelude.{◌≡◌, ℕ, List, Ok}
use Rattle.c_tokens.specs.declared.token.Token.{Token}
use Rattle.c_tokens.specs.Tokens.{tokens_of}
use Rattle.c_tree.specs.declared.tree.Tree.{Tree}
use Rattle.c_tree.specs.Formed.{IsFormed}
use Rattle.c_grammar.specs.Program.{IsProgram}

abbrev pub ProgramsAreFormed : Type 0
ProgramsAreFormed = (file : ℕ) (bytes : List ℕ) (tokens : List Token) (tree : Tree) → tokens_of file bytes ≡ Ok tokens → IsProgram bytes tokens tree → IsFormed tree
