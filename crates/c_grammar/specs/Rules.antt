-- Rules of a grammar as data, and what they relate.
use Rattle.std.specs.Prelude.{◌≡◌, ◌⊎◌, ℕ, ◌-◌, Bool, true, false, List, ◌∷◌, Option}
use Rattle.mx_base.specs.declared.places.Place.{Place}
use Rattle.mx_base.specs.declared.numbers.IntKind.{IntKind}
use Rattle.c_tokens.specs.declared.class.Class.{Class}
use Rattle.c_tokens.specs.declared.class.Class.TheVariants as k
use Rattle.c_tree.specs.declared.tree.Base.{Base}
use Rattle.c_tree.specs.declared.tree.Decl.{Decl}
use Rattle.c_tree.specs.declared.tree.Expr.{Expr}
use Rattle.c_tree.specs.declared.tree.Init.{Init}
use Rattle.c_tree.specs.declared.tree.Stmt.{Stmt}
use Rattle.c_tree.specs.declared.tree.Item.{Item}
use Rattle.c_grammar.specs.declared.parts.Named.{Named}
use Rattle.c_grammar.specs.declared.parts.Operand.{Operand}
use Rattle.c_grammar.specs.declared.parts.Typed.{Typed}
use Rattle.c_grammar.specs.declared.parts.KindName.{KindName}
use Rattle.c_grammar.specs.declared.parts.Declarator.{Declarator}
use Rattle.c_grammar.specs.declared.parts.InitDeclarator.{InitDeclarator}
use Rattle.c_grammar.specs.declared.parts.Level.{Level}
use Rattle.c_grammar.specs.Lexemes.{Lexeme, same, look, among}

-- the names of the rules
pub data N : Type 0 where
  Source External AfterTag AfterName Ending Parameters AfterVoid Parameter MoreParameters : N
  Width MaybeWidth Integer PlainBase ObjectBase AnyBase TypeName : N
  -- at most so many stars
  Stars : ℕ → N
  Member Members Declared MoreDeclared Counts Initialised MoreInitialised MaybeInit Initialiser MoreInitialisers : N
  Block Statements Statement Local Branch Nested Condition IfElse Otherwise WhileDo DoWhile ForDo Returned Simple : N
  MaybeExpression Assignment AssignmentTail Conditional ConditionalTail : N
  -- an operand of a level, operands with operators of the level between them, and what stands after the first of them
  Side Binary BinaryTail : Level → N
  Unary Opened Plain Sized SizedOpened Atom MaybeCall Arguments MoreArguments Part Parts : N

-- What each gives. A rule whose value needs what stands before it gives a function from that.
abbrev pub Of : N → Type 0
Of Source = List Item
Of External = List Item
Of AfterTag = Place → List ℕ → List Item
Of AfterName = Place → Base → ℕ → Named → List Item
Of Ending = Option Stmt
Of Parameters = List Decl
Of AfterVoid = Place → List Decl
Of Parameter = Decl
Of MoreParameters = List Decl
Of Width = (Place × IntKind)
Of MaybeWidth = IntKind
Of Integer = (Place × IntKind)
Of PlainBase = Typed
Of ObjectBase = Typed
Of AnyBase = Typed
Of TypeName = KindName
Of (Stars most) = ℕ
Of Member = List Decl
Of Members = List Decl
Of Declared = Declarator
Of MoreDeclared = List Declarator
Of Counts = List Expr
Of Initialised = InitDeclarator
Of MoreInitialised = List InitDeclarator
Of MaybeInit = Option Init
Of Initialiser = Init
Of MoreInitialisers = List Init
Of Block = Stmt
Of Statements = List Stmt
Of Statement = Stmt
Of Local = (Place × List Stmt)
Of Branch = Stmt
Of Nested = Stmt
Of Condition = Expr
Of IfElse = Stmt
Of Otherwise = Option Stmt
Of WhileDo = Stmt
Of DoWhile = Stmt
Of ForDo = Stmt
Of Returned = Stmt
Of Simple = Stmt
Of MaybeExpression = Option Expr
Of Assignment = Operand
Of AssignmentTail = Operand → Operand
Of Conditional = Operand
Of ConditionalTail = Operand → Operand
Of (Side level) = Operand
Of (Binary level) = Operand
Of (BinaryTail level) = Operand → Operand
Of Unary = Operand
Of Opened = Place → Operand
Of Plain = Operand
Of Sized = Place → Operand
Of SizedOpened = Place → Place → Operand
Of Atom = Operand
Of MaybeCall = Named → Operand
Of Arguments = List Expr
Of MoreArguments = List Expr
Of Part = Operand → Operand
Of Parts = Operand → Operand

pub data Rx : Type 0 → Type 1 where
  -- nothing
  eps : Rx (Unit {0})
  -- nothing, where no `else` comes next
  no_else : Rx (Unit {0})
  -- a token of one of these classes
  tok : {A : Type 0} → (Lexeme → A) → Class → List Class → Rx A
  seq : {A B : Type 0} → Rx A → Rx B → Rx (A × B)
  alt : {A : Type 0} → Rx A → Rx A → Rx A
  map : {A B : Type 0} → (A → B) → Rx A → Rx B
  -- its first token opens a nesting
  nest : {A : Type 0} → Rx A → Rx A
  -- the nestings that open in it end with it, and with `true` one more does
  scope : {A : Type 0} → Bool → Rx A → Rx A
  call : (n : N) → Rx (Of n)

-- how many nestings are left open of those that were open where a scope began
abbrev pub after_scope : Bool → ℕ → ℕ
after_scope false d = d
after_scope true d = d - 1

-- a rule at these tokens has this value and leaves these
abbrev pub Reads_with : ((n : N) → List Lexeme → Of n → List Lexeme → Type 0) → {A : Type 0} → Rx A → List Lexeme → A → List Lexeme → Type 0
Reads_with R eps ts v rest = rest ≡ ts
Reads_with R no_else ts v rest = (rest ≡ ts) × (same (look ts) k.Else ≡ false)
Reads_with R (tok f c cs) ts v rest = (t : Lexeme) × (ts ≡ t ∷ rest) × (among t.class (c ∷ cs) ≡ true) × (f t ≡ v)
Reads_with R (seq r s) ts v rest = (mid : List Lexeme) × Reads_with R r ts v.0 mid × Reads_with R s mid v.1 rest
Reads_with R (alt r s) ts v rest = Reads_with R r ts v rest ⊎ Reads_with R s ts v rest
Reads_with R (map {A} f r) ts v rest = (w : A) × Reads_with R r ts w rest × (f w ≡ v)
Reads_with R (nest r) ts v rest = Reads_with R r ts v rest
Reads_with R (scope f r) ts v rest = Reads_with R r ts v rest
Reads_with R (call n) ts v rest = R n ts v rest
