-- Statements: the rules that each breaks by itself, behind those of its parts, and what is known after it.
use Rattle.std.specs.Prelude.{nat_lt, Bool, true, false, not, ◌&&◌, List, [], length, take, Option, None, Some}
use Rattle.mx_base.specs.declared.places.Place.{Place}
use Rattle.c_tree.specs.declared.tree.Decl.{Decl}
use Rattle.c_tree.specs.declared.tree.Expr.{Expr}
use Rattle.c_tree.specs.declared.tree.Init.{Init}
use Rattle.c_tree.specs.declared.tree.Stmt.{Stmt, fold-Stmt}
use Rattle.c_tree.specs.declared.tree.StmtKind.{StmtKind-F}
use Rattle.c_tree.specs.declared.tree.StmtKind.TheOpen as s
use Rattle.c_types.specs.Types.{CType}
use Rattle.c_check_rules.specs.declared.names.StructInfo.{StructInfo}
use Rattle.c_check_rules.specs.Sizes.{scalars_in}
use Rattle.c_check_rules.specs.Conversions.{is_scalar, is_void, converts}
use Rattle.c_check_typing.specs.declared.typed.Typed.{Typed}
use Rattle.c_check_typing.specs.declared.fault.CheckKind.{CheckKind}
use Rattle.c_check_typing.specs.declared.fault.CheckKind.TheVariants.{BadType, LargeCopy}
use Rattle.c_check_typing.specs.Refusals.{breaks}
use Rattle.c_check_typing.specs.Rules.{decayed}
use Rattle.c_check_statements.specs.declared.initialisers.Filled.TheVariants as f
use Rattle.c_check_statements.specs.declared.state.State.{State}
use Rattle.c_check_statements.specs.Declarations.{local_declared, and_then}
use Rattle.c_check_statements.specs.Initialisers.{maybe_fills}
use Rattle.c_check_statements.specs.Walks.{Walk, stay, ◌then◌, maybe, walk_all, at_node, inside, seen_in, reads, maybe_reads}

-- ---- conditions, `return` and initialised locals

-- a condition is a scalar
abbrev pub test_kinds : Option Typed → List CheckKind
test_kinds None = []
test_kinds (Some t) = breaks BadType (not (is_scalar (decayed t.kind)))

abbrev pub seen_test : State → Option Expr → Option Typed
seen_test state None = None
seen_test state (Some x) = (seen_in state x).typed

-- `return` has a value exactly where the function has a result that isn't `void`, and the value converts to it; where that result isn't known, or
-- nothing is known of the value, no rule is judged
abbrev pub none_returned : Option CType → List CheckKind
none_returned None = []
none_returned (Some result) = breaks BadType (not (is_void result))

abbrev pub value_returned : Option CType → Typed → List CheckKind
value_returned None t = []
value_returned (Some result) t = breaks BadType (not (converts result (decayed t.kind) t.is_zero))

abbrev pub return_kinds : Option CType → Option Expr → Option Typed → List CheckKind
return_kinds result None t = none_returned result
return_kinds result (Some x) None = []
return_kinds result (Some x) (Some t) = value_returned result t

-- an array or struct of more than 64 scalars is not initialised
abbrev pub is_large : List StructInfo → CType → Bool
is_large structs kind = not (is_scalar kind) && nat_lt 64 (scalars_in structs kind)

abbrev pub local_kinds : List StructInfo → Option Init → Option CType → List CheckKind
local_kinds structs None kind = []
local_kinds structs (Some x) None = []
local_kinds structs (Some x) (Some kind) = breaks LargeCopy (is_large structs kind)

abbrev pub local_judged : Option Init → Option CType → Place → Walk
local_judged init kind place state = at_node place (local_kinds state.scope.structs init kind) state

-- a local is known before its initialiser
abbrev pub local : Decl → Option Init → Place → Walk
local d init place state = and_then (local_declared d state) (λ kind. maybe_fills init f.Local kind then local_judged init kind place)

-- ---- blocks and loops

-- the names of a block are gone behind it; those of a function's body stand beside the parameters
abbrev pub enter_block : State → State
enter_block state = record state { scope = record state.scope { from = length state.scope.locals } }

abbrev pub leave_block : (old new : State) → State
leave_block old new = record new { scope = record new.scope { locals = take (length old.scope.locals) new.scope.locals; from = old.scope.from } }

abbrev pub enter_body : State → State
enter_body state = record state { scope = record state.scope { at_body = false } }

abbrev pub block_by : (at_body : Bool) → Walk → Walk
block_by true all state = all (enter_body state)
block_by false all state = inside enter_block all leave_block state

abbrev pub block : Walk → Walk
block all state = block_by state.scope.at_body all state

abbrev pub enter_loop : State → State
enter_loop state = record state { scope = record state.scope { in_loop = true } }

abbrev pub leave_loop : (old new : State) → State
leave_loop old new = record new { scope = record new.scope { in_loop = old.scope.in_loop } }

abbrev pub looped : Walk → Walk
looped body = inside enter_loop body leave_loop

-- `break` and `continue` stand in a loop
abbrev pub jump_kinds : State → List CheckKind
jump_kinds state = breaks BadType (not state.scope.in_loop)

abbrev pub jump : Place → Walk
jump place state = at_node place (jump_kinds state) state

-- ---- statements

abbrev pub if_walk : Expr → Walk → Walk → Place → Walk
if_walk test a other place state = (reads test then (a then (other then at_node place (test_kinds (seen_in state test).typed)))) state

abbrev pub while_walk : Expr → Walk → Place → Walk
while_walk test body place state = (reads test then (looped body then at_node place (test_kinds (seen_in state test).typed))) state

-- the condition of `do` comes behind its body
abbrev pub tested : Expr → Place → Walk
tested test place state = (reads test then at_node place (test_kinds (seen_in state test).typed)) state

-- a `for` behind its first part
abbrev pub for_rest : Option Expr → Option Expr → Walk → Place → Walk
for_rest test next body place state = (maybe_reads test then (maybe_reads next then (looped body then at_node place (test_kinds (seen_test state test))))) state

abbrev pub return_judged : Option Expr → Option Typed → Place → Walk
return_judged value t place state = at_node place (return_kinds state.scope.result value t) state

abbrev pub return_walk : Option Expr → Place → Walk
return_walk value place state = (maybe_reads value then return_judged value (seen_test state value) place) state

abbrev pub stmt_step : StmtKind-F (Place → Walk) Walk → Place → Walk
stmt_step (s.Value value) place = maybe_reads value
stmt_step (s.Local d init) place = local d init place
stmt_step (s.If test a other) place = if_walk test a (maybe other) place
stmt_step (s.While test body) place = while_walk test body place
stmt_step (s.DoWhile body test) place = looped body then tested test place
stmt_step (s.For first test next body) place = maybe_reads first then for_rest test next body place
stmt_step s.Break place = jump place
stmt_step s.Continue place = jump place
stmt_step (s.Return value) place = return_walk value place
stmt_step (s.Block all) place = block (walk_all all)

abbrev pub statement : Stmt → Walk
statement = fold-Stmt (Place → Walk) Walk stmt_step (λ x. x.kind x.place)

abbrev pub maybe_statement : Option Stmt → Walk
maybe_statement None = stay
maybe_statement (Some x) = statement x
