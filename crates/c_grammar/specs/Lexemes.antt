-- What the grammar sees of a token: its place, its class and its bytes.
use Rattle.std.specs.Prelude.{ℕ, ◌-◌, Bool, false, ◌||◌, List, [], ◌∷◌, map, take, drop}
use denote.Enum.Bare.{sameb}
use Rattle.mx_base.specs.declared.places.Place.{Place}
use Rattle.c_tokens.specs.contracts.class.Class.{the_type}
use Rattle.c_tokens.specs.declared.class.Class.{Class}
use Rattle.c_tokens.specs.declared.class.Class.TheVariants as k
use Rattle.c_tokens.specs.declared.token.Token.{Token}

pub record Lexeme : Type 0 where
  pub place : Place
  pub class : Class
  pub text : List ℕ

abbrev pub seen : List ℕ → Token → Lexeme
seen bytes t = record { place = t.place; class = t.class; text = take (t.to - t.from) (drop t.from bytes) }

-- the tokens of a text as the grammar sees them
abbrev pub lexemes : List ℕ → List Token → List Lexeme
lexemes bytes = map (seen bytes)

-- `==` on classes
unfoldable pub same : Class → Class → Bool
same = sameb the_type

-- the class of the next token, `End` where there is none
abbrev pub look : List Lexeme → Class
look [] = k.End
look (t ∷ ts) = t.class

-- a class is one of a list
abbrev pub among : Class → List Class → Bool
among c [] = false
among c (d ∷ []) = same c d
among c (d ∷ e ∷ ds) = same c d || among c (e ∷ ds)
