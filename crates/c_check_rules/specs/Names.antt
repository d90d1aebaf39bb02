-- What a name stands for: the innermost visible local, else a global variable or function, else a service or builtin.
use Rattle.std.specs.Prelude.{ℕ, min, List, map, Option, None, Some, slice_get}
use Rattle.c_types.specs.Types.{CType}
use Rattle.c_check_rules.specs.declared.names.Scope.{Scope}
use Rattle.c_check_rules.specs.declared.names.Member.{Member}
use Rattle.c_check_rules.specs.declared.names.StructInfo.{StructInfo}
use Rattle.c_check_rules.specs.declared.names.Variable.{Variable}
use Rattle.c_check_rules.specs.declared.names.Function.{Function}
use Rattle.c_check_rules.specs.declared.names.Local.{Local}
use Rattle.c_check_rules.specs.declared.predeclared.Bind.TheVariants as b
use Rattle.c_check_rules.specs.declared.predeclared.Found.{Found}
use Rattle.c_check_rules.specs.declared.predeclared.Found.TheVariants as f
use Rattle.c_check_rules.specs.Predeclared.{predeclared}
pub use Rattle.c_check_rules.specs.Named.{last_at}

abbrev pub tags : List StructInfo → List (List ℕ)
tags = map (λ x. x.tag)

abbrev pub member_names : List Member → List (List ℕ)
member_names = map (λ x. x.name)

abbrev pub variable_names : List Variable → List (List ℕ)
variable_names = map (λ x. x.name)

abbrev pub function_names : List Function → List (List ℕ)
function_names = map (λ x. x.name)

abbrev pub local_names : List Local → List (List ℕ)
local_names = map (λ x. x.name)

abbrev pub tag_at : Scope → List ℕ → Option ℕ
tag_at scope name = last_at name (tags scope.structs) 0 None

abbrev pub variable_at : Scope → List ℕ → Option ℕ
variable_at scope name = last_at name (variable_names scope.variables) 0 None

abbrev pub function_at : Scope → List ℕ → Option ℕ
function_at scope name = last_at name (function_names scope.functions) 0 None

abbrev pub local_at : Scope → List ℕ → Option ℕ
local_at scope name = last_at name (local_names scope.locals) 0 None

-- numbers have 32 bits
abbrev pub numbered : ℕ → ℕ
numbered n = min n 4294967295

abbrev pub local_found : Option Local → Found
local_found None = f.Missing
local_found (Some x) = f.Variable (b.Local x.number) x.kind

abbrev pub variable_found : ℕ → Option Variable → Found
variable_found at None = f.Missing
variable_found at (Some x) = f.Variable (b.Global (numbered at)) x.kind

abbrev pub function_found : ℕ → Option Function → Found
function_found at None = f.Missing
function_found at (Some x) = f.Callable (b.Fun (numbered at)) x.result x.params

abbrev pub among_functions : Scope → List ℕ → Option ℕ → Found
among_functions scope name None = predeclared name
among_functions scope name (Some at) = function_found at (slice_get scope.functions at)

abbrev pub among_variables : Scope → List ℕ → Option ℕ → Found
among_variables scope name None = among_functions scope name (function_at scope name)
among_variables scope name (Some at) = variable_found at (slice_get scope.variables at)

abbrev pub among_locals : Scope → List ℕ → Option ℕ → Found
among_locals scope name None = among_variables scope name (variable_at scope name)
among_locals scope name (Some at) = local_found (slice_get scope.locals at)

unfoldable pub found_in : Scope → List ℕ → Found
found_in scope name = among_locals scope name (local_at scope name)

abbrev pub member_kind : Option Member → Option CType
member_kind None = None
member_kind (Some x) = Some x.kind

abbrev pub member_of : List Member → Option ℕ → Option CType
member_of members None = None
member_of members (Some at) = member_kind (slice_get members at)

abbrev pub last_member : List Member → List ℕ → Option ℕ
last_member members name = last_at name (member_names members) 0 None

-- the type of the member of a name
abbrev pub member_named : List Member → List ℕ → Option CType
member_named members name = member_of members (last_member members name)
