-- What a statement is elaborated to by its form.
use Rattle.std.proofs.Common.{◌≡◌, Option, None, Some, List, map, ap, ◌∙◌, rules}
use Rattle.mx_base.specs.declared.places.Place.{Place}
use Rattle.c_tree.specs.declared.tree.Decl.{Decl}
use Rattle.c_tree.specs.declared.tree.Expr.{Expr}
use Rattle.c_tree.specs.declared.tree.Init.{Init}
use Rattle.c_tree.specs.declared.tree.Stmt.{Stmt, the_lemmas}
use Rattle.c_tree.specs.declared.tree.StmtKind.{StmtKind}
use Rattle.c_tree.specs.declared.tree.StmtKind.TheVariants as v
use Rattle.bounds_plan.specs.meaning.Core.{Skip, Do, Then, If, While, DoWhile, For, Break, Continue}
use Rattle.bounds_plan.specs.elaboration.Types.{number_in}
use Rattle.bounds_plan.specs.elaboration.Source.{Reached, Around}
use Rattle.bounds_plan.specs.elaboration.Expressions.{expression}
use Rattle.bounds_plan.specs.elaboration.Initialisers.{initialiser}
use Rattle.bounds_plan.specs.elaboration.Statements.{Stated, stated, maybe, done_by, tested_by, declared, past_counts, returned_by, all_stated}
use Rattle.c_emit_statements.specs.Bodies.{statement}

whole : Place → StmtKind → Around → Reached → Stated
whole p k around r = statement (record { place = p; kind = k }) around r

by_kind : (e : Stmt) (k : StmtKind) (around : Around) (r : Reached) (f : Stated) → e.kind ≡ k → whole e.place k around r ≡ f → statement e around r ≡ f
unfolding whole
by_kind e k around r f is h = ap (λ (z : StmtKind). whole e.place z around r) is ∙ h

value_at : (p : Place) (value : Option Expr) (around : Around) (r : Reached) → let x = done_by (maybe expression value) around r in whole p (v.Value value) around r ≡ stated (Do x.effect) x.after
unfolding whole
value_at p value around r = search (rules, the_lemmas)

local_at : (p : Place) (d : Decl) (init : Option Init) (around : Around) (r : Reached) → whole p (v.Local d init) around r ≡ declared (maybe (initialiser expression) init) around (past_counts expression d around r)
unfolding whole
local_at p d init around r = search (rules, the_lemmas)

alone_at : (p : Place) (test : Expr) (a : Stmt) (around : Around) (r : Reached) → let c = expression test around r in let x = statement a around c.after in
    whole p (v.If test a None) around r ≡ stated (If (number_in c.value) x.statement Skip) x.after
unfolding whole
alone_at p test a around r = search (rules, the_lemmas)

else_by : (p : Place) (k : StmtKind) (test : Expr) (a b : Stmt) (other : Option Stmt) (around : Around) (r : Reached) → k ≡ v.If test a other → other ≡ Some b → let c = expression test around r in let x = statement a around c.after in
    let y = statement b around x.after in whole p k around r ≡ stated (If (number_in c.value) x.statement y.statement) y.after
unfolding whole
else_by p k test a b other around r is some = search (rules, the_lemmas)

while_at : (p : Place) (test : Expr) (body : Stmt) (around : Around) (r : Reached) → let c = expression test around r in let x = statement body around c.after in
    whole p (v.While test body) around r ≡ stated (While (number_in c.value) x.statement) x.after
unfolding whole
while_at p test body around r = search (rules, the_lemmas)

do_at : (p : Place) (body : Stmt) (test : Expr) (around : Around) (r : Reached) → let x = statement body around r in let c = expression test around x.after in
    whole p (v.DoWhile body test) around r ≡ stated (DoWhile x.statement (number_in c.value)) c.after
unfolding whole
do_at p body test around r = search (rules, the_lemmas)

for_at : (p : Place) (first test next : Option Expr) (body : Stmt) (around : Around) (r : Reached) → let f = done_by (maybe expression first) around r in let c = tested_by (maybe expression test) around f.after in
    let n = done_by (maybe expression next) around c.after in let x = statement body around n.after in
    whole p (v.For first test next body) around r ≡ stated (Then (Do f.effect) (For c.test n.effect x.statement)) x.after
unfolding whole
for_at p first test next body around r = search (rules, the_lemmas)

break_at : (p : Place) (around : Around) (r : Reached) → whole p v.Break around r ≡ stated Break r
unfolding whole
break_at p around r = search (rules, the_lemmas)

continue_at : (p : Place) (around : Around) (r : Reached) → whole p v.Continue around r ≡ stated Continue r
unfolding whole
continue_at p around r = search (rules, the_lemmas)

return_at : (p : Place) (value : Option Expr) (around : Around) (r : Reached) → whole p (v.Return value) around r ≡ returned_by (maybe expression value) around r
unfolding whole
return_at p value around r = search (rules, the_lemmas)

block_at : (p : Place) (all : List Stmt) (around : Around) (r : Reached) → whole p (v.Block all) around r ≡ all_stated (map statement all) around r
unfolding whole
block_at p all around r = search (rules, the_lemmas)

pub is_value : (e : Stmt) (value : Option Expr) (around : Around) (r : Reached) → e.kind ≡ v.Value value → let x = done_by (maybe expression value) around r in statement e around r ≡ stated (Do x.effect) x.after
is_value e value around r is = by_kind e (v.Value value) around r _ is (value_at e.place value around r)

pub is_local : (e : Stmt) (d : Decl) (init : Option Init) (around : Around) (r : Reached) → e.kind ≡ v.Local d init → statement e around r ≡ declared (maybe (initialiser expression) init) around (past_counts expression d around r)
is_local e d init around r is = by_kind e (v.Local d init) around r _ is (local_at e.place d init around r)

pub is_alone : (e : Stmt) (test : Expr) (a : Stmt) (around : Around) (r : Reached) → e.kind ≡ v.If test a None → let c = expression test around r in let x = statement a around c.after in
    statement e around r ≡ stated (If (number_in c.value) x.statement Skip) x.after
is_alone e test a around r is = by_kind e (v.If test a None) around r _ is (alone_at e.place test a around r)

pub is_else : (e : Stmt) (test : Expr) (a b : Stmt) (other : Option Stmt) (around : Around) (r : Reached) → e.kind ≡ v.If test a other → other ≡ Some b → let c = expression test around r in let x = statement a around c.after in
    let y = statement b around x.after in statement e around r ≡ stated (If (number_in c.value) x.statement y.statement) y.after
unfolding whole
is_else e test a b other around r is some = else_by e.place e.kind test a b other around r is some

pub is_while : (e : Stmt) (test : Expr) (body : Stmt) (around : Around) (r : Reached) → e.kind ≡ v.While test body → let c = expression test around r in let x = statement body around c.after in
    statement e around r ≡ stated (While (number_in c.value) x.statement) x.after
is_while e test body around r is = by_kind e (v.While test body) around r _ is (while_at e.place test body around r)

pub is_do : (e : Stmt) (body : Stmt) (test : Expr) (around : Around) (r : Reached) → e.kind ≡ v.DoWhile body test → let x = statement body around r in let c = expression test around x.after in
    statement e around r ≡ stated (DoWhile x.statement (number_in c.value)) c.after
is_do e body test around r is = by_kind e (v.DoWhile body test) around r _ is (do_at e.place body test around r)

pub is_for : (e : Stmt) (first test next : Option Expr) (body : Stmt) (around : Around) (r : Reached) → e.kind ≡ v.For first test next body
    → let f = done_by (maybe expression first) around r in let c = tested_by (maybe expression test) around f.after in let n = done_by (maybe expression next) around c.after in let x = statement body around n.after in
    statement e around r ≡ stated (Then (Do f.effect) (For c.test n.effect x.statement)) x.after
is_for e first test next body around r is = by_kind e (v.For first test next body) around r _ is (for_at e.place first test next body around r)

pub is_break : (e : Stmt) (around : Around) (r : Reached) → e.kind ≡ v.Break → statement e around r ≡ stated Break r
is_break e around r is = by_kind e v.Break around r _ is (break_at e.place around r)

pub is_continue : (e : Stmt) (around : Around) (r : Reached) → e.kind ≡ v.Continue → statement e around r ≡ stated Continue r
is_continue e around r is = by_kind e v.Continue around r _ is (continue_at e.place around r)

pub is_return : (e : Stmt) (value : Option Expr) (around : Around) (r : Reached) → e.kind ≡ v.Return value → statement e around r ≡ returned_by (maybe expression value) around r
is_return e value around r is = by_kind e (v.Return value) around r _ is (return_at e.place value around r)

pub is_block : (e : Stmt) (all : List Stmt) (around : Around) (r : Reached) → e.kind ≡ v.Block all → statement e around r ≡ all_stated (map statement all) around r
is_block e all around r is = by_kind e (v.Block all) around r _ is (block_at e.place all around r)
