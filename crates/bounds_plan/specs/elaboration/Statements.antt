-- What a statement of the tree is in the core tree.
use Rattle.std.specs.Prelude.{ℕ, ◌+◌, Option, None, Some, List, [], ◌∷◌, map}
use Rattle.c_tree.specs.declared.tree.Decl.{Decl}
use Rattle.c_tree.specs.declared.tree.Expr.{Expr}
use Rattle.c_tree.specs.declared.tree.Init.{Init}
use Rattle.c_tree.specs.declared.tree.Stmt.{Stmt, fold-Stmt}
use Rattle.c_tree.specs.declared.tree.StmtKind.{StmtKind-F}
use Rattle.c_tree.specs.declared.tree.StmtKind.TheOpen as s
use Rattle.bounds_plan.specs.meaning.Core.{NumberExpr, Word, Null, Effect, Nothing, Statement, Skip, Do, Then, If, While, DoWhile, For, Break, Continue, Return, ReturnNumber, ReturnPtr}
use Rattle.bounds_plan.specs.elaboration.Types.{Value, Numeric, Address, number_in, given}
use Rattle.bounds_plan.specs.elaboration.Source.{Reached, Around, declared_at, bind_at, past_declaration, local_number}
use Rattle.bounds_plan.specs.elaboration.Places.{Lvalue, InMemory, variable_of}
use Rattle.bounds_plan.specs.elaboration.Expressions.{Reading, find_all}
use Rattle.bounds_plan.specs.elaboration.Initialisers.{Filling}

-- a statement, and how far the tree was gone through after it
pub record Stated : Type 0 where
  pub statement : Statement
  pub after : Reached

abbrev pub Stating : Type 0
Stating = Around → Reached → Stated

abbrev pub stated : Statement → Reached → Stated
stated statement after = record { statement = statement; after = after }

abbrev pub in_order : List Effect → Statement
in_order [] = Skip
in_order (e ∷ more) = Then (Do e) (in_order more)

-- ---- parts that may be missing

-- what an expression does, and after it
pub record Done : Type 0 where
  pub effect : Effect
  pub after : Reached

abbrev pub done_by : Option Reading → Around → Reached → Done
done_by None around r = record { effect = Nothing; after = r }
done_by (Some x) around r = let f = x around r in record { effect = f.effect; after = f.after }

-- a condition; a `for` without one goes on for ever
pub record Tested : Type 0 where
  pub test : NumberExpr
  pub after : Reached

abbrev pub tested_by : Option Reading → Around → Reached → Tested
tested_by None around r = record { test = Word 1; after = r }
tested_by (Some x) around r = let f = x around r in record { test = number_in f.value; after = f.after }

abbrev pub other_by : Option Stating → Around → Reached → Stated
other_by None around r = stated Skip r
other_by (Some x) around r = x around r

abbrev pub maybe : {A B : Type 0} → (A → B) → Option A → Option B
maybe f None = None
maybe f (Some x) = Some (f x)

-- ---- declarations and `return`

-- the counts of a declaration are gone through; they are constants
abbrev pub past_counts : (Expr → Reading) → Decl → Around → Reached → Reached
past_counts read d around r = (find_all (map read d.counts) around r).after

-- a local by its number; what is declared in a body is one
abbrev pub local_of : Around → Option ℕ → Lvalue
local_of around None = InMemory Null
local_of around (Some number) = variable_of around.structs around.variables around.stands 0 number

-- a local is initialised where its declaration stands, each time that it is come by; without an initialiser nothing happens
abbrev pub declared : Option Filling → Around → Reached → Stated
declared None around r = stated Skip (past_declaration r)
declared (Some init) around r = let x = init around (declared_at around r) (local_of around (local_number (bind_at around r))) 0 (past_declaration r) in
    stated (in_order x.effects) x.after

abbrev pub return_of : Value → Statement
return_of (Numeric e) = ReturnNumber e
return_of (Address p) = ReturnPtr p

-- what is returned is converted to the type of the function's result
abbrev pub returned_by : Option Reading → Around → Reached → Stated
returned_by None around r = stated Return r
returned_by (Some x) around r = let f = x around r in stated (return_of (given around.result f.type f.value)) f.after

-- ---- statements, by what is found of their expressions and initialisers

abbrev pub all_stated : List Stating → Stating
all_stated [] around r = stated Skip r
all_stated (x ∷ more) around r = let first = x around r in let rest = all_stated more around first.after in stated (Then first.statement rest.statement) rest.after

abbrev pub stmt_step : (Expr → Reading) → (Init → Filling) → StmtKind-F Stating Stating → Stating
stmt_step read fill (s.Value value) around r = let x = done_by (maybe read value) around r in stated (Do x.effect) x.after
stmt_step read fill (s.Local d init) around r = declared (maybe fill init) around (past_counts read d around r)
stmt_step read fill (s.If test a other) around r = let c = read test around r in let x = a around c.after in let y = other_by other around x.after in
    stated (If (number_in c.value) x.statement y.statement) y.after
stmt_step read fill (s.While test body) around r = let c = read test around r in let x = body around c.after in stated (While (number_in c.value) x.statement) x.after
stmt_step read fill (s.DoWhile body test) around r = let x = body around r in let c = read test around x.after in stated (DoWhile x.statement (number_in c.value)) c.after
stmt_step read fill (s.For first test next body) around r = let f = done_by (maybe read first) around r in let c = tested_by (maybe read test) around f.after in
    let n = done_by (maybe read next) around c.after in let x = body around n.after in stated (Then (Do f.effect) (For c.test n.effect x.statement)) x.after
stmt_step read fill s.Break around r = stated Break r
stmt_step read fill s.Continue around r = stated Continue r
stmt_step read fill (s.Return value) around r = returned_by (maybe read value) around r
stmt_step read fill (s.Block all) around r = all_stated all around r

abbrev pub statement_by : (Expr → Reading) → (Init → Filling) → Stmt → Stating
statement_by read fill = fold-Stmt Stating Stating (stmt_step read fill) (λ x. x.kind)

-- ---- how many variables a statement declares

abbrev pub total : List ℕ → ℕ
total [] = 0
total (n ∷ ns) = n + total ns

abbrev pub any : Option ℕ → ℕ
any None = 0
any (Some n) = n

abbrev pub declares : StmtKind-F ℕ ℕ → ℕ
declares (s.Value value) = 0
declares (s.Local d init) = 1
declares (s.If test a other) = a + any other
declares (s.While test body) = body
declares (s.DoWhile body test) = body
declares (s.For first test next body) = body
declares s.Break = 0
declares s.Continue = 0
declares (s.Return value) = 0
declares (s.Block all) = total all

abbrev pub declarations : Stmt → ℕ
declarations = fold-Stmt ℕ ℕ declares (λ x. x.kind)
