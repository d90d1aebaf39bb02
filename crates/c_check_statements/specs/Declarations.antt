-- Declarations: the type of a declared name, the rules that it breaks, and what is known after it. A declaration that breaks a rule declares
-- nothing.
use Rattle.std.specs.Prelude.{◌≡◌, ℕ, Bool, true, false, not, ◌&&◌, ◌||◌, if◌then◌else◌, is_some, List, [], ◌∷◌, ◌++◌, length, take, drop, codes, Option, None, Some, Result, Ok, Err, slice_get, slice_set}
use Rattle.std.specs.Str.{bytes_eq}
use Rattle.mx_base.specs.declared.places.Place.{Place}
use Rattle.c_tree.specs.declared.tree.Decl.{Decl}
use Rattle.c_types.specs.Types.{CType}
use Rattle.c_check_rules.specs.declared.predeclared.Bind.{Bind}
use Rattle.c_check_rules.specs.declared.predeclared.Bind.TheVariants as b
use Rattle.c_check_rules.specs.declared.names.Scope.{Scope}
use Rattle.c_check_rules.specs.declared.names.StructInfo.{StructInfo}
use Rattle.c_check_rules.specs.declared.names.Variable.{Variable}
use Rattle.c_check_rules.specs.declared.names.Function.{Function}
use Rattle.c_check_rules.specs.Kinds.{same_kinds}
use Rattle.c_check_rules.specs.Sizes.{is_sized}
use Rattle.c_check_rules.specs.Names.{local_names, numbered, variable_at, function_at}
use Rattle.c_check_rules.specs.Conversions.{is_scalar, is_void}
use Rattle.c_check_rules.specs.Predeclared.{is_predeclared}
use Rattle.c_check_typing.specs.declared.typed.Notes.{Notes}
use Rattle.c_check_typing.specs.declared.fault.CheckKind.{CheckKind}
use Rattle.c_check_typing.specs.declared.fault.CheckKind.TheVariants.{Unknown, Twice, BadCount, NotConst, BadType}
use Rattle.c_check_typing.specs.declared.fault.Broken.{Broken}
use Rattle.c_check_typing.specs.declared.fault.CheckFault.{CheckFault}
use Rattle.c_check_typing.specs.declared.fault.CheckFault.TheVariants.{Refused, OutOfMemory}
use Rattle.c_check_typing.specs.Refusals.{breaks, all_at, FirstIs, broken_at}
use Rattle.c_check_typing.specs.Notes.{with_bind, with_declared}
use Rattle.c_check_typing.specs.Rules.{base_kind, starred}
use Rattle.c_check_statements.specs.declared.counts.Counts.{Counts}
use Rattle.c_check_statements.specs.declared.decls.Use.{Use}
use Rattle.c_check_statements.specs.declared.decls.Use.TheVariants as u
use Rattle.c_check_statements.specs.declared.state.State.{State}
use Rattle.c_check_statements.specs.Counts.{no_counts, is_plain, arrayed, Counted, counted}
use Rattle.c_check_statements.specs.Walks.{Walked, Walk}

-- ---- the type

-- a variable or member needs a size, a parameter is a scalar, and a function gives a scalar or nothing
abbrev pub fits_use : Use → List StructInfo → CType → Bool
fits_use u.Variable structs kind = is_sized structs kind
fits_use u.Parameter structs kind = is_scalar kind
fits_use u.Result structs kind = is_scalar kind || is_void kind

abbrev pub kind_with : Counts → CType → Option CType
kind_with counts plain = if is_plain counts then Some (arrayed counts.values plain) else None

abbrev pub plain_kind : (stars : ℕ) → Option CType → Option CType
plain_kind stars None = None
plain_kind stars (Some base) = Some (starred stars base)

abbrev pub kind_by : Option CType → Option Counts → Option CType
kind_by None counts = None
kind_by (Some plain) None = None
kind_by (Some plain) (Some counts) = kind_with counts plain

-- the type of a declaration without its counts, and with them
abbrev pub plain_of : Scope → Decl → Option CType
plain_of scope d = plain_kind d.stars (base_kind scope d.base)

abbrev pub kind_of : Scope → Decl → Option Counts → Option CType
kind_of scope d counts = kind_by (plain_of scope d) counts

-- ---- the rules

abbrev pub has_out : Option Counts → Bool
has_out None = false
has_out (Some counts) = counts.is_out

abbrev pub has_open : Option Counts → Bool
has_open None = false
has_open (Some counts) = counts.is_open

abbrev pub has_odd : Option Counts → Bool
has_odd None = false
has_odd (Some counts) = counts.is_odd

-- an array whose elements have a size, and which is over the limit itself
abbrev pub is_oversized : List StructInfo → Option CType → Option CType → Bool
is_oversized structs None kind = false
is_oversized structs (Some plain) None = false
is_oversized structs (Some plain) (Some kind) = is_sized structs plain && not (is_sized structs kind)

abbrev pub misfits : Use → List StructInfo → Option CType → Bool
misfits usage structs None = false
misfits usage structs (Some plain) = not (fits_use usage structs plain)

-- what a declaration breaks whose name stands there already, or cannot have this type
abbrev pub decl_kinds : Scope → Use → (twice wrong : Bool) → Decl → Option Counts → List CheckKind
decl_kinds scope usage twice wrong d counts = breaks Unknown (not (is_some (base_kind scope d.base))) ++ (breaks Twice twice
    ++ (breaks BadCount (has_out counts || is_oversized scope.structs (plain_of scope d) (kind_of scope d counts))
    ++ (breaks NotConst (has_open counts)
    ++ breaks BadType (has_odd counts || (misfits usage scope.structs (plain_of scope d) || wrong)))))

-- the same behind counts that make a type
abbrev pub arrays : List ℕ → CType → CType
arrays = arrayed

abbrev pub plain_kinds : Scope → Use → (wrong : Bool) → (plain : CType) → List ℕ → List CheckKind
plain_kinds scope usage wrong plain values = breaks BadCount (is_sized scope.structs plain && not (is_sized scope.structs (arrayed values plain)))
    ++ breaks BadType (not (fits_use usage scope.structs plain) || wrong)

-- ---- what is declared

-- the type, if no rule is broken
abbrev pub accepted : List CheckKind → Option CType → Option CType
accepted [] kind = kind
accepted (k ∷ more) kind = None

-- the type of a declaration that breaks no rule, what is known after it, and the rules that are broken in it
pub record Declared : Type 0 where
  pub kind : Option CType
  pub state : State
  pub broken : List Broken

abbrev pub introduced : (CType → State → State) → Option CType → State → State
introduced introduce None state = state
introduced introduce (Some kind) state = introduce kind state

-- a declaration behind its counts
abbrev pub declared_with : (CType → State → State) → Decl → Option CType → List Broken → List CheckKind → State → Declared
declared_with introduce d kind broken kinds state = record {
  kind = accepted kinds kind;
  state = introduced introduce (accepted kinds kind) state;
  broken = broken ++ all_at d.place kinds;
}

abbrev pub counts_of : State → Decl → Counted
counts_of state d = counted state.scope (Some no_counts) d.counts

abbrev pub after_counts : State → Decl → State
after_counts state d = record state { notes = (counts_of state d).after state.notes }

-- a declaration of this use, whose name stands there already or not by its type, and what it introduces
unfoldable pub declares : Use → (twice : Scope → Option CType → Bool) → (wrong : Bool) → (CType → State → State) → Decl → State → Declared
declares usage twice wrong introduce d state = declared_with introduce d (kind_of state.scope d (counts_of state d).counts) (counts_of state d).broken
    (decl_kinds state.scope usage (twice state.scope (kind_of state.scope d (counts_of state d).counts)) wrong d (counts_of state d).counts) (after_counts state d)

-- what comes after a declaration, by its type
unfoldable pub and_then : Declared → (Option CType → Walk) → Walked
and_then d next = record { state = (next d.kind d.state).state; broken = d.broken ++ (next d.kind d.state).broken }

-- ---- members

abbrev pub member_noted : CType → State → State
member_noted kind state = record state { notes = with_declared kind state.notes }

-- a member, whose name the struct has already or not
abbrev pub member_known : (twice : Bool) → Decl → State → Declared
member_known twice d = declares u.Variable (λ scope kind. twice) false member_noted d

-- ---- parameters and locals

abbrev pub has_name : List ℕ → List (List ℕ) → Bool
has_name name [] = false
has_name name (n ∷ more) = if bytes_eq n name then true else has_name name more

-- a name of the innermost block
abbrev pub stands_here : List ℕ → Scope → Bool
stands_here name scope = has_name name (local_names (drop scope.from scope.locals))

abbrev pub is_here : List ℕ → Scope → Option CType → Bool
is_here name scope kind = stands_here name scope

abbrev pub noted : Bind → CType → Notes → Notes
noted bind kind notes = with_declared kind (with_bind bind notes)

abbrev pub local_number : Scope → ℕ
local_number scope = numbered (length scope.made)

abbrev pub with_local : List ℕ → CType → State → State
with_local name kind state = record state {
  scope = record state.scope { locals = state.scope.locals ++ record { name = name; kind = kind; number = local_number state.scope } ∷ []; made = state.scope.made ++ kind ∷ [] };
  notes = noted (b.Local (local_number state.scope)) kind state.notes;
}

abbrev pub local_declared : Decl → State → Declared
local_declared d = declares u.Variable (is_here d.name) false (with_local d.name) d

abbrev pub parameter_declared : Decl → State → Declared
parameter_declared d = declares u.Parameter (is_here d.name) false (with_local d.name) d

-- ---- global variables

-- `__text_`, with which the name of the literals begins
abbrev pub text_prefix : List ℕ
text_prefix = codes "__text_"

-- a name that no global or function may have: that of a service or builtin, and what begins like the name of the literals
abbrev pub is_reserved : List ℕ → Bool
is_reserved name = is_predeclared name || bytes_eq (take 7 name) text_prefix

abbrev pub same_known : CType → Option CType → Bool
same_known kind None = true
same_known kind (Some other) = same_kinds kind other

-- a variable is declared again as long as it isn't defined, with the same type
abbrev pub blocks_variable : Option Variable → Option CType → Bool
blocks_variable None kind = false
blocks_variable (Some v) kind = v.defined || not (same_known v.kind kind)

abbrev pub variable_in : Scope → Option ℕ → Option Variable
variable_in scope None = None
variable_in scope (Some at) = slice_get scope.variables at

abbrev pub global_twice : List ℕ → Scope → Option CType → Bool
global_twice name scope kind = is_reserved name || (is_some (function_at scope name) || blocks_variable (variable_in scope (variable_at scope name)) kind)

abbrev pub is_main : List ℕ → Bool
is_main name = bytes_eq name (codes "main")

-- the variables with one more, or with what is known of one of them
abbrev pub put_variable : List Variable → Option ℕ → Variable → List Variable
put_variable variables None v = variables ++ v ∷ []
put_variable variables (Some at) v = slice_set variables at v

abbrev pub number_in : (count : ℕ) → Option ℕ → ℕ
number_in count None = numbered count
number_in count (Some at) = numbered at

abbrev pub global_number : List ℕ → Scope → ℕ
global_number name scope = number_in (length scope.variables) (variable_at scope name)

-- the first declaration of a name stands behind those of others
abbrev pub with_first : (known : Option ℕ) → Bind → List Bind → List Bind
with_first None bind order = order ++ bind ∷ []
with_first (Some at) bind order = order

abbrev pub with_variable : List ℕ → (defined : Bool) → CType → State → State
with_variable name defined kind state = record state {
  scope = record state.scope { variables = put_variable state.scope.variables (variable_at state.scope name) record { name = name; kind = kind; defined = defined } };
  notes = noted (b.Global (global_number name state.scope)) kind state.notes;
  global_items = state.global_items ++ global_number name state.scope ∷ [];
  order = with_first (variable_at state.scope name) (b.Global (global_number name state.scope)) state.order;
}

-- a global of the name `main` is BadType
abbrev pub global_declared : (defined : Bool) → Decl → State → Declared
global_declared defined d = declares u.Variable (global_twice d.name) (is_main d.name) (with_variable d.name defined) d

-- ---- functions

-- the types of parameters, as far as their tags are known
abbrev pub kind_and_more : Option CType → Option (List CType) → Option (List CType)
kind_and_more None more = None
kind_and_more (Some kind) None = None
kind_and_more (Some kind) (Some more) = Some (kind ∷ more)

abbrev pub param_kinds : Scope → List Decl → Option (List CType)
param_kinds scope [] = Some []
param_kinds scope (d ∷ more) = kind_and_more (plain_of scope d) (param_kinds scope more)

abbrev pub same_lists : List CType → List CType → Bool
same_lists [] [] = true
same_lists [] (y ∷ ys) = false
same_lists (x ∷ xs) [] = false
same_lists (x ∷ xs) (y ∷ ys) = same_kinds x y && same_lists xs ys

abbrev pub same_params : List CType → Option (List CType) → Bool
same_params known None = false
same_params known (Some kinds) = same_lists known kinds

-- a function is declared again as long as it isn't defined, with the same types
abbrev pub blocks_function : Option Function → Option (List CType) → Option CType → Bool
blocks_function None params result = false
blocks_function (Some f) params result = f.defined || not (same_known f.result result && same_params f.params params)

abbrev pub function_in : Scope → Option ℕ → Option Function
function_in scope None = None
function_in scope (Some at) = slice_get scope.functions at

abbrev pub function_twice : List ℕ → List Decl → Scope → Option CType → Bool
function_twice name params scope result = is_reserved name || (is_some (variable_at scope name) || blocks_function (function_in scope (function_at scope name)) (param_kinds scope params) result)

abbrev pub put_function : List Function → Option ℕ → Function → List Function
put_function functions None f = functions ++ f ∷ []
put_function functions (Some at) f = slice_set functions at f

abbrev pub or_none : Option (List CType) → List CType
or_none None = []
or_none (Some kinds) = kinds

abbrev pub function_number : List ℕ → Scope → ℕ
function_number name scope = number_in (length scope.functions) (function_at scope name)

abbrev pub with_function : List ℕ → List Decl → (defined : Bool) → CType → State → State
with_function name params defined result state = record state {
  scope = record state.scope { functions = put_function state.scope.functions (function_at state.scope name) record { name = name; result = result; params = or_none (param_kinds state.scope params); defined = defined } };
  notes = noted (b.Fun (function_number name state.scope)) result state.notes;
  order = with_first (function_at state.scope name) (b.Fun (function_number name state.scope)) state.order;
}

abbrev pub function_declared : (defined : Bool) → List Decl → Decl → State → Declared
function_declared defined params d = declares u.Result (function_twice d.name params) false (with_function d.name params defined) d

-- ---- what is answered

-- the type of a declaration, or its first broken rule
abbrev pub judged_kind : List CheckKind → Option CType → Place → Result CType CheckFault → Type 0
judged_kind kinds known place (Ok kind) = (kinds ≡ []) × (known ≡ Some kind)
judged_kind kinds known place (Err (Refused kind at)) = FirstIs (all_at place kinds) (broken_at at kind)
judged_kind kinds known place (Err OutOfMemory) = Unit {0}

pub record Judged (kinds : List CheckKind) (known : Option CType) (place : Place) (result : Result CType CheckFault) : Type 0 where
  pub is : judged_kind kinds known place result

abbrev pub declares_kind : Declared → Result CType CheckFault → (new : State) → Type 0
declares_kind d (Ok kind) new = (d.broken ≡ []) × (d.kind ≡ Some kind) × (new ≡ d.state)
declares_kind d (Err (Refused kind at)) new = FirstIs d.broken (broken_at at kind)
declares_kind d (Err OutOfMemory) new = Unit {0}

pub record Declares (d : Declared) (result : Result CType CheckFault) (new : State) : Type 0 where
  pub is : declares_kind d result new
