-- What a text of C is to a build: the tree of a program that is accepted, or the fault of the first layer that refuses it.
use Rattle.std.specs.Prelude.{◌≡◌, ℕ, List, Ok, Err}
use Rattle.c_tokens.specs.Places.{place_after}
use Rattle.c_tokens.specs.Tokens.{tokens_of}
use Rattle.c_tokens.specs.declared.token.Token.{Token as TokenOf}
use Rattle.c_tokens.specs.declared.fault.TokenFault.{TokenFault}
use Rattle.c_tokens.specs.declared.fault.TokenFault.TheVariants as token
use Rattle.c_tree.specs.declared.tree.Tree.{Tree}
use Rattle.c_grammar.specs.Lexemes.{lexemes}
use Rattle.c_grammar.specs.Program.{IsProgram}
use Rattle.c_reader.specs.Refusals.{Told}
use Rattle.c_reader.specs.declared.fault.ReadFault.{ReadFault}
use Rattle.c_reader.specs.declared.fault.ReadFault.TheVariants as reading
use Rattle.c_check.specs.Checked.{IsRefusal}
use Rattle.c_check_typing.specs.declared.fault.CheckFault.{CheckFault}
use Rattle.c_check_typing.specs.declared.fault.CheckFault.TheVariants as checking
use Rattle.mx_build.specs.declared.fault.BuildFault.{BuildFault}
use Rattle.mx_build.specs.declared.fault.BuildFault.TheVariants.{Token, Read, Check, OutOfMemory}

-- the text has these tokens, which are a program with this tree
pub record IsTreeOf (file : ℕ) (bytes : List ℕ) (tree : Tree) : Type 0 where
  pub tokens : List TokenOf
  pub cut : tokens_of file bytes ≡ Ok tokens
  pub program : IsProgram bytes tokens tree

-- the tokens of the text are no program, for this fault
pub record HasNoTree (file : ℕ) (bytes : List ℕ) (fault : ReadFault) : Type 0 where
  pub tokens : List TokenOf
  pub cut : tokens_of file bytes ≡ Ok tokens
  pub told : Told (lexemes bytes tokens) (place_after file bytes) fault

-- the tree of the text breaks a rule of C first for this fault, where there is room for so many nodes
pub record BreaksRules (file : ℕ) (bytes : List ℕ) (room : ℕ) (fault : CheckFault) : Type 0 where
  pub tree : Tree
  pub is_tree : IsTreeOf file bytes tree
  pub refusal : IsRefusal tree room fault

-- The text is refused for this fault: by its tokens, else by its grammar, else by the rules of C. Want of memory says nothing of it, and is told in
-- one way alone, whichever layer meets it.
abbrev pub RefusesText : (file : ℕ) → (bytes : List ℕ) → (room : ℕ) → BuildFault → Type 0
RefusesText file bytes room (Token fault) = tokens_of file bytes ≡ Err fault
RefusesText file bytes room (Read fault) = (fault ≡ reading.OutOfMemory → ⊥) × HasNoTree file bytes fault
RefusesText file bytes room (Check fault) = (fault ≡ checking.OutOfMemory → ⊥) × BreaksRules file bytes room fault
RefusesText file bytes room OutOfMemory = Unit {0}

-- ---- the faults of the layers, as faults of a build

abbrev pub of_tokens : TokenFault → BuildFault
of_tokens token.OutOfMemory = OutOfMemory
of_tokens (token.BadByte place) = Token (token.BadByte place)
of_tokens (token.BadNumber place) = Token (token.BadNumber place)
of_tokens (token.LongName place) = Token (token.LongName place)
of_tokens (token.OpenText place) = Token (token.OpenText place)

abbrev pub of_reading : ReadFault → BuildFault
of_reading reading.OutOfMemory = OutOfMemory
of_reading (reading.Expected place) = Read (reading.Expected place)
of_reading (reading.Deep place) = Read (reading.Deep place)

abbrev pub of_checking : CheckFault → BuildFault
of_checking checking.OutOfMemory = OutOfMemory
of_checking (checking.Refused kind place) = Check (checking.Refused kind place)
