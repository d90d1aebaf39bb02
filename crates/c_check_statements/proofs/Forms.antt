-- The walk through each form of statement and initialiser, by the walks through its parts.
use Rattle.std.proofs.Common.{ℕ, ◌≡◌, ◌∙◌, ap, subst, sym, rules, List, map, length}
use Rattle.std.specs.Option.{option_map}
use Rattle.std.proofs.lemmas.List.{length-map}
use Rattle.std.specs.Prelude.{Option, Result}
use Rattle.mx_base.specs.declared.places.Place.{Place}
use Rattle.c_tree.specs.declared.tree.Decl.{Decl}
use Rattle.c_tree.specs.declared.tree.Expr.{Expr}
use Rattle.c_tree.specs.declared.tree.Init.{Init}
use Rattle.c_tree.specs.declared.tree.Init as i
use Rattle.c_tree.specs.declared.tree.InitKind.{InitKind}
use Rattle.c_tree.specs.declared.tree.InitKind.TheVariants as j
use Rattle.c_tree.specs.declared.tree.Stmt.{Stmt}
use Rattle.c_tree.specs.declared.tree.Stmt as t
use Rattle.c_tree.specs.declared.tree.StmtKind.{StmtKind}
use Rattle.c_tree.specs.declared.tree.StmtKind.TheVariants as v
use Rattle.c_types.specs.Types.{CType}
use Rattle.c_check_typing.specs.declared.fault.CheckFault.{CheckFault}
use Rattle.c_check_statements.specs.declared.initialisers.Filled.{Filled}
use Rattle.c_check_statements.specs.declared.state.State.{State}
use Rattle.c_check_statements.specs.Walks.{Walked, Walks, ◌then◌, maybe, walk_all, maybe_reads}
use Rattle.c_check_statements.specs.Initialisers.{one, parts, many_judged, fills}
use Rattle.c_check_statements.specs.Statements.{statement, local, if_walk, while_walk, looped, tested, for_rest, jump, return_walk, block}

pub walks_by : {w z : Walked} {new : State} {r : Result (Unit {0}) CheckFault} → z ≡ w → Walks w r new → Walks z r new
walks_by {new = new} {r = r} e h = subst (λ (x : Walked). Walks x r new) (sym e) h

abbrev at : Place → StmtKind → Stmt
at place kind = record { place = place; kind = kind }

of_form : (x : Stmt) (k : StmtKind) (s : State) → x.kind ≡ k → statement x s ≡ statement (at x.place k) s
of_form x k s e = ap (λ (z : StmtKind). statement (at x.place z) s) e

value_at : (p : Place) (x : Option Expr) (s : State) → statement (at p (v.Value x)) s ≡ maybe_reads x s
value_at p x s = search (rules, t.the_lemmas)

pub value_form : (z : Stmt) (x : Option Expr) (s : State) → z.kind ≡ v.Value x → statement z s ≡ maybe_reads x s
value_form z x s e = of_form z (v.Value x) s e ∙ value_at z.place x s

local_at : (p : Place) (d : Decl) (x : Option Init) (s : State) → statement (at p (v.Local d x)) s ≡ local d x p s
local_at p d x s = search (rules, t.the_lemmas)

pub local_form : (z : Stmt) (d : Decl) (x : Option Init) (s : State) → z.kind ≡ v.Local d x → statement z s ≡ local d x z.place s
local_form z d x s e = of_form z (v.Local d x) s e ∙ local_at z.place d x s

if_at : (p : Place) (x : Expr) (a : Stmt) (b : Option Stmt) (s : State) → statement (at p (v.If x a b)) s ≡ if_walk x (statement a) (maybe (option_map statement b)) p s
if_at p x a b s = search (rules, t.the_lemmas)

pub if_form : (z : Stmt) (x : Expr) (a c : Stmt) (b : Option Stmt) (s : State) → z.kind ≡ v.If x a b → c ≡ a
    → statement z s ≡ if_walk x (statement c) (maybe (option_map statement b)) z.place s
if_form z x a c b s e f = of_form z (v.If x a b) s e ∙ if_at z.place x a b s ∙ ap (λ (y : Stmt). if_walk x (statement y) (maybe (option_map statement b)) z.place s) (sym f)

while_at : (p : Place) (x : Expr) (a : Stmt) (s : State) → statement (at p (v.While x a)) s ≡ while_walk x (statement a) p s
while_at p x a s = search (rules, t.the_lemmas)

pub while_form : (z : Stmt) (x : Expr) (a c : Stmt) (s : State) → z.kind ≡ v.While x a → c ≡ a → statement z s ≡ while_walk x (statement c) z.place s
while_form z x a c s e f = of_form z (v.While x a) s e ∙ while_at z.place x a s ∙ ap (λ (y : Stmt). while_walk x (statement y) z.place s) (sym f)

do_at : (p : Place) (a : Stmt) (x : Expr) (s : State) → statement (at p (v.DoWhile a x)) s ≡ (looped (statement a) then tested x p) s
do_at p a x s = search (rules, t.the_lemmas)

pub do_form : (z : Stmt) (a c : Stmt) (x : Expr) (s : State) → z.kind ≡ v.DoWhile a x → c ≡ a → statement z s ≡ (looped (statement c) then tested x z.place) s
do_form z a c x s e f = of_form z (v.DoWhile a x) s e ∙ do_at z.place a x s ∙ ap (λ (y : Stmt). (looped (statement y) then tested x z.place) s) (sym f)

for_at : (p : Place) (x y n : Option Expr) (a : Stmt) (s : State) → statement (at p (v.For x y n a)) s ≡ (maybe_reads x then for_rest y n (statement a) p) s
for_at p x y n a s = search (rules, t.the_lemmas)

pub for_form : (z : Stmt) (x y n : Option Expr) (a c : Stmt) (s : State) → z.kind ≡ v.For x y n a → c ≡ a → statement z s ≡ (maybe_reads x then for_rest y n (statement c) z.place) s
for_form z x y n a c s e f = of_form z (v.For x y n a) s e ∙ for_at z.place x y n a s ∙ ap (λ (b : Stmt). (maybe_reads x then for_rest y n (statement b) z.place) s) (sym f)

break_at : (p : Place) (s : State) → statement (at p v.Break) s ≡ jump p s
break_at p s = search (rules, t.the_lemmas)

pub break_form : (z : Stmt) (s : State) → z.kind ≡ v.Break → statement z s ≡ jump z.place s
break_form z s e = of_form z v.Break s e ∙ break_at z.place s

continue_at : (p : Place) (s : State) → statement (at p v.Continue) s ≡ jump p s
continue_at p s = search (rules, t.the_lemmas)

pub continue_form : (z : Stmt) (s : State) → z.kind ≡ v.Continue → statement z s ≡ jump z.place s
continue_form z s e = of_form z v.Continue s e ∙ continue_at z.place s

return_at : (p : Place) (x : Option Expr) (s : State) → statement (at p (v.Return x)) s ≡ return_walk x p s
return_at p x s = search (rules, t.the_lemmas)

pub return_form : (z : Stmt) (x : Option Expr) (s : State) → z.kind ≡ v.Return x → statement z s ≡ return_walk x z.place s
return_form z x s e = of_form z (v.Return x) s e ∙ return_at z.place x s

block_at : (p : Place) (all : List Stmt) (s : State) → statement (at p (v.Block all)) s ≡ block (walk_all (map statement all)) s
block_at p all s = search (rules, t.the_lemmas)

pub block_form : (z : Stmt) (all l : List Stmt) (s : State) → z.kind ≡ v.Block all → l ≡ all → statement z s ≡ block (walk_all (map statement l)) s
block_form z all l s e f = of_form z (v.Block all) s e ∙ block_at z.place all s ∙ ap (λ (y : List Stmt). block (walk_all (map statement y)) s) (sym f)

-- ---- initialisers

abbrev init_at : Place → InitKind → Init
init_at place kind = record { place = place; kind = kind }

of_init : (x : Init) (k : InitKind) (f : Filled) (target : Option CType) (s : State) → x.kind ≡ k → fills x f target s ≡ fills (init_at x.place k) f target s
of_init x k f target s e = ap (λ (z : InitKind). fills (init_at x.place z) f target s) e

one_at : (p : Place) (x : Expr) (f : Filled) (target : Option CType) (s : State) → fills (init_at p (j.One x)) f target s ≡ one f target p x s
one_at p x f target s = search (rules, i.the_lemmas)

pub one_form : (z : Init) (x : Expr) (f : Filled) (target : Option CType) (s : State) → z.kind ≡ j.One x → fills z f target s ≡ one f target z.place x s
one_form z x f target s e = of_init z (j.One x) f target s e ∙ one_at z.place x f target s

many_at : (p : Place) (all : List Init) (f : Filled) (target : Option CType) (s : State)
    → fills (init_at p (j.Many all)) f target s ≡ (parts f target 0 (map fills all) then many_judged target (length (map fills all)) p) s
many_at p all f target s = search (rules, i.the_lemmas)

pub many_form : (z : Init) (all l : List Init) (f : Filled) (target : Option CType) (s : State) → z.kind ≡ j.Many all → l ≡ all
    → fills z f target s ≡ (parts f target 0 (map fills l) then many_judged target (length l) z.place) s
many_form z all l f target s e g = of_init z (j.Many all) f target s e ∙ many_at z.place all f target s
    ∙ ap (λ (n : ℕ). (parts f target 0 (map fills all) then many_judged target n z.place) s) (length-map all fills)
    ∙ ap (λ (y : List Init). (parts f target 0 (map fills y) then many_judged target (length y) z.place) s) (sym g)
