-- The symbols of a source: its declared globals and functions in the order of their first declarations, each as what the source defines or what it
-- takes from elsewhere, and its text literals as the last.
use Rattle.std.specs.Prelude.{◌≡◌, ℕ, ◌+◌, ◌==◌, Bool, true, false, ◌||◌, if◌then◌else◌, List, [], ◌∷◌, ◌++◌, length, take, map, Option, None, Some, slice_get}
use Rattle.std.specs.Fmt.{decimal}
use Rattle.mx_base.specs.declared.numbers.IntKind.{IntKind}
use Rattle.mx_base.specs.declared.numbers.IntKind.TheVariants.{I8, U8, I16, U16, I32, U32, I64, U64}
use Rattle.c_tree.specs.declared.tree.Tree.{Tree}
use Rattle.c_types.specs.Types.{CType}
use Rattle.c_check_rules.specs.declared.kinds.Outer.{Outer}
use Rattle.c_check_rules.specs.declared.kinds.Outer.TheVariants as o
use Rattle.c_check_rules.specs.declared.names.StructInfo.{StructInfo}
use Rattle.c_check_rules.specs.declared.names.Variable.{Variable}
use Rattle.c_check_rules.specs.declared.names.Function.{Function}
use Rattle.c_check_rules.specs.declared.predeclared.Bind.{Bind}
use Rattle.c_check_rules.specs.declared.predeclared.Bind.TheVariants as b
use Rattle.c_check_rules.specs.Kinds.{outer_of}
use Rattle.c_check_rules.specs.Sizes.{size_in}
use Rattle.c_check_statements.specs.declared.state.State.{State}
use Rattle.c_check_statements.specs.declared.state.Body.{Body}
use Rattle.c_check_statements.specs.Declarations.{text_prefix}
use Rattle.c_check_statements.specs.Placing.{or_nothing}
use Rattle.c_check.specs.declared.symbols.Subject.{Subject}
use Rattle.c_check.specs.declared.symbols.Subject.TheVariants.{Global, Function as OfFunction, Literals}
use Rattle.c_check.specs.declared.symbols.SymbolKind.{SymbolKind}
use Rattle.c_check.specs.declared.symbols.SymbolKind.TheVariants.{Defined, Imported}
use Rattle.c_check.specs.declared.symbols.Symbol.{Symbol}
use Rattle.c_check.specs.Accepted.{after}

-- ---- what is used

abbrev pub is_bound : Subject → Bind → Bool
is_bound (Global n) (b.Global m) = m == n
is_bound (OfFunction n) (b.Fun m) = m == n
is_bound _ _ = false

-- whether a name that is used is bound to it
abbrev pub is_used : (used : List Bind) → Subject → Bool
is_used [] subject = false
is_used (bind ∷ more) subject = is_bound subject bind || is_used more subject

-- ---- what is defined

abbrev pub variable_defined : Option Variable → Bool
variable_defined None = false
variable_defined (Some v) = v.defined

abbrev pub function_defined : Option Function → Bool
function_defined None = false
function_defined (Some f) = f.defined

abbrev pub is_defined : State → Subject → Bool
is_defined state (Global n) = variable_defined (slice_get state.scope.variables n)
is_defined state (OfFunction n) = function_defined (slice_get state.scope.functions n)
is_defined state Literals = true

-- ---- what has a symbol

-- a name that is neither defined nor used in an expression outside of `sizeof` has none
abbrev pub has_symbol : State → Subject → Bool
has_symbol state subject = is_defined state subject || is_used state.notes.used subject

abbrev pub subject_of : Bind → Option Subject
subject_of (b.Global n) = Some (Global n)
subject_of (b.Local n) = None
subject_of (b.Fun n) = Some (OfFunction n)
subject_of (b.Service n) = None
subject_of (b.Builtin n) = None

abbrev pub if_symbol : State → Option Subject → Option Subject
if_symbol state None = None
if_symbol state (Some subject) = if has_symbol state subject then Some subject else None

abbrev pub with_subject : Option Subject → List Subject → List Subject
with_subject None more = more
with_subject (Some subject) more = subject ∷ more

abbrev pub named_from : State → (order : List Bind) → List Subject
named_from state [] = []
named_from state (bind ∷ more) = with_subject (if_symbol state (subject_of bind)) (named_from state more)

-- the literals of a source stand behind one symbol, if there are any
abbrev pub literals_subject : (literals : List ℕ) → List Subject
literals_subject [] = []
literals_subject (byte ∷ more) = Literals ∷ []

-- the globals and functions that have symbols, in the order of their first declarations
abbrev pub named_by : State → List Subject
named_by state = named_from state state.order

unfoldable pub named : Tree → List Subject
named tree = named_by (after tree)

-- what the symbols name: the number of a symbol is its place among them
abbrev pub subjects_by : State → List Subject
subjects_by state = named_by state ++ literals_subject state.notes.literals

-- ---- signatures

abbrev pub integer_letter : IntKind → ℕ
integer_letter I8 = 99
integer_letter U8 = 67
integer_letter I16 = 104
integer_letter U16 = 72
integer_letter I32 = 105
integer_letter U32 = 73
integer_letter I64 = 108
integer_letter U64 = 76

-- the letter of a type: `c` and `C`, `h` and `H`, `i` and `I`, `l` and `L` of the signed and unsigned integers, `p` of a pointer and `v` of nothing;
-- parameters and results have no other type
abbrev pub letter_of : Outer → ℕ
letter_of o.Void = 118
letter_of (o.Int kind) = integer_letter kind
letter_of o.Pointer = 112
letter_of (o.Array count) = 118
letter_of (o.Struct number) = 118

abbrev pub letter : CType → ℕ
letter kind = letter_of (outer_of kind)

-- `f`, the letter of the result, and those of the parameters between `(` and `)`
abbrev pub function_signature : Option Function → List ℕ
function_signature None = []
function_signature (Some f) = 102 ∷ letter f.result ∷ 40 ∷ (map letter f.params ++ 41 ∷ [])

-- `d` and the size
abbrev pub data_signature : (size : ℕ) → List ℕ
data_signature size = 100 ∷ decimal size

abbrev pub variable_signature : List StructInfo → Option Variable → List ℕ
variable_signature structs None = []
variable_signature structs (Some v) = data_signature (or_nothing (size_in structs v.kind))

abbrev pub signature_of : State → Subject → List ℕ
signature_of state (Global n) = variable_signature state.scope.structs (slice_get state.scope.variables n)
signature_of state (OfFunction n) = function_signature (slice_get state.scope.functions n)
signature_of state Literals = data_signature (length state.notes.literals)

-- ---- names

abbrev pub variable_name : Option Variable → List ℕ
variable_name None = []
variable_name (Some v) = v.name

abbrev pub function_name : Option Function → List ℕ
function_name None = []
function_name (Some f) = f.name

-- the name of the first function with a body
abbrev pub first_body : List Function → List Body → List ℕ
first_body functions [] = []
first_body functions (body ∷ more) = function_name (slice_get functions body.number)

abbrev pub name_of : State → Subject → List ℕ
name_of state (Global n) = variable_name (slice_get state.scope.variables n)
name_of state (OfFunction n) = function_name (slice_get state.scope.functions n)
name_of state Literals = text_prefix ++ take 56 (first_body state.scope.functions state.bodies)

-- ---- the symbols of a source

abbrev pub kind_by : (defined : Bool) → SymbolKind
kind_by true = Defined
kind_by false = Imported

abbrev pub symbol_of : State → Subject → Symbol
symbol_of state subject = record { subject = subject; kind = kind_by (is_defined state subject); name = name_of state subject; signature = signature_of state subject }

-- the declared globals and functions in the order of their first declarations, without what is neither defined nor used, and then the literals
abbrev pub symbols_by : State → List Symbol
symbols_by state = map (symbol_of state) (subjects_by state)

abbrev pub symbols : Tree → List Symbol
symbols tree = symbols_by (after tree)

-- ---- the numbers of symbols

abbrev pub is_same : Subject → Subject → Bool
is_same (Global n) (Global m) = n == m
is_same (OfFunction n) (OfFunction m) = n == m
is_same Literals Literals = true
is_same _ _ = false

-- the place of what a symbol names, where the first of these has this place
abbrev pub place_from : (at : ℕ) → Subject → List Subject → Option ℕ
place_from at subject [] = None
place_from at subject (x ∷ more) = if is_same subject x then Some at else place_from (at + 1) subject more

-- the number of the symbol of a global or function, if it has one
abbrev pub number_of : Tree → Subject → Option ℕ
number_of tree subject = place_from 0 subject (named tree)

pub record HasNumber (tree : Tree) (subject : Subject) : Type 0 where
  pub number : ℕ
  pub is : number_of tree subject ≡ Some number

-- ---- small sources

abbrev pub entry : Subject → SymbolKind → (name signature : List ℕ) → Symbol
entry subject kind name signature = record { subject = subject; kind = kind; name = name; signature = signature }
