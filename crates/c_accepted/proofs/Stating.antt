-- The elaboration goes through a statement without broken rules as the checker does.
use Rattle.std.proofs.Common.{◌≡◌, ℕ, ◌+◌, refl, sym, ap, ◌∙◌, subst, Bool, true, false, List, [], ◌∷◌, ◌++◌, map, arith}
use Rattle.std.specs.Prelude.{Option, None, Some}
use Rattle.mx_base.specs.declared.places.Place.{Place}
use Rattle.c_tree.specs.declared.tree.Decl.{Decl}
use Rattle.c_tree.specs.declared.tree.Expr.{Expr}
use Rattle.c_tree.specs.declared.tree.Init.{Init}
use Rattle.c_tree.specs.declared.tree.Stmt.{Stmt, Stmt-F, fold-Stmt}
use Rattle.c_tree.specs.declared.tree.StmtKind.{StmtKind-F}
use Rattle.c_tree.specs.declared.tree.StmtKind.TheFolds as sf
use Rattle.c_tree.specs.declared.tree.StmtKind.TheOpen as s
use Rattle.c_types.specs.Types.{CType}
use Rattle.c_check_rules.specs.declared.names.Variable.{Variable}
use Rattle.c_check_rules.specs.declared.predeclared.Bind.TheVariants as b
use Rattle.c_check_statements.specs.declared.decls.Use.TheVariants as u
use Rattle.c_check_statements.specs.declared.initialisers.Filled.TheVariants as f
use Rattle.c_check_statements.specs.declared.state.State.{State}
use Rattle.c_check_statements.specs.Declarations.{Declared, with_local, local_number as number_of, is_here, local_declared, counts_of, after_counts, and_then}
use Rattle.c_check_statements.specs.Initialisers.{maybe_fills}
use Rattle.c_check_statements.specs.Statements.{local_judged, local, enter_block, enter_body, block_by, enter_loop, looped, jump, if_walk, while_walk, tested, for_rest, return_walk, stmt_step as check_step, statement}
use Rattle.c_check_statements.specs.Walks.{Walk, stay, ◌then◌, walk_all, at_node, inside, seen_in, reads, maybe_reads}
use Rattle.bounds_plan.specs.meaning.Core.{Null, Statement, Skip, Do, Then, If, While, DoWhile, For, Break, Continue}
use Rattle.bounds_plan.specs.laws.Laws.{OfEffect, OfCopies}
use Rattle.bounds_plan.specs.laws.Roots.{Names, NamesEffect, NamesStatement}
use Rattle.bounds_plan.specs.elaboration.Types.{Value, Numeric, Address, number_in, given}
use Rattle.bounds_plan.specs.elaboration.Places.{InMemory}
use Rattle.bounds_plan.specs.elaboration.Source.{Reached, Around, declared_at, bind_at, past_declaration, local_number}
use Rattle.bounds_plan.specs.elaboration.Expressions.{expression}
use Rattle.bounds_plan.specs.elaboration.Initialisers.{initialiser}
use Rattle.bounds_plan.specs.elaboration.Statements.{Stating, stated, in_order, maybe, done_by, tested_by, past_counts, local_of, declared, return_of, returned_by, all_stated, stmt_step, statement_by, total, declares as counts, declarations}
use Rattle.c_tree.proofs.Inductions.{StmtA, StmtB, bare_stmts, every_stmts, stmts_fused}
use Rattle.c_accepted.specs.Alike.{IsSmall, meanings_of, IsAt, Front}
use Rattle.c_accepted.specs.Wholes.{IsWhole}
use Rattle.c_accepted.proofs.Closing.{given_names}
use Rattle.c_accepted.proofs.ClosingBodies.{in_order_names, number_of_names, return_names}
use Rattle.c_accepted.proofs.Sizing.{KnownBy, known_on, Whole, WholePlace, variable_named}
use Rattle.c_accepted.proofs.SizingNodes.{expressions_whole}
use Rattle.c_accepted.proofs.Empty.{first_empty, second_empty}
use Rattle.c_accepted.proofs.Going.{front_then, Goes}
use Rattle.c_accepted.proofs.Gives.{AreSmall}
use Rattle.c_accepted.proofs.Copies.{initialisers_small}
use Rattle.c_accepted.proofs.Declaring.{declares_well, declared_more, front_declared, at_declared, type_stands}
use Rattle.c_accepted.proofs.Filling.{initialisers_alike}
use Rattle.c_accepted.proofs.Moving.{Grows, grows_then, Knows, Moves, moves_not, moves_then, knows_on, moves_as, past_broken, past_front, read_alike, reads_move, maybe_reads_done, maybe_reads_tested}

-- each global is named whole
abbrev pub WholeStatement : List Variable → Around → Statement → Type 0
WholeStatement variables around = NamesStatement (IsWhole variables around.structs around.layout) (λ offset size. Unit {0}) (λ x. Unit {0})

abbrev pub StateB : Type 0
StateB = Walk × Stating × ℕ

-- both go through it alike, no struct is copied that is larger than may be, and each global is named whole
pub record StatedAlike (around : Around) (old new : State) (b : StateB) : Type 0 where
  pub moves : Moves around old new b.2 (λ r. (b.1 around r).after)
  pub copies : AreSmall around.structs → (r : Reached) → Front (meanings_of new.notes) around.meanings → IsAt r (meanings_of old.notes) → OfCopies IsSmall (b.1 around r).statement
  pub names : (variables : List Variable) → KnownBy variables old.scope.variables → (r : Reached) → Front (meanings_of new.notes) around.meanings → IsAt r (meanings_of old.notes) → WholeStatement variables around (b.1 around r).statement

abbrev pub StateAlike : StateB → Type 0
StateAlike b = (state : State) (around : Around) → Knows around state → (b.0 state).broken ≡ [] → StatedAlike around state (b.0 state).state b

-- ---- parts

abbrev pub front_before : (around : Around) (old new : State) (count : ℕ) → Grows old new count → Front (meanings_of new.notes) around.meanings → Front (meanings_of old.notes) around.meanings
front_before around old new count g f = front_then (meanings_of old.notes) (meanings_of new.notes) around.meanings g.on f

pub done_small : (o : Option Expr) (state : State) (around : Around) → (maybe_reads o state).broken ≡ [] → AreSmall around.structs → (r : Reached) → Front (meanings_of (maybe_reads o state).state.notes) around.meanings → IsAt r (meanings_of state.notes)
    → OfEffect IsSmall (done_by (maybe expression o) around r).effect
done_small None state around h small r w at = tt
done_small (Some x) state around h small r w at = (read_alike x state h).copies state.notes around r (past_front (seen_in state x) state around.meanings w) at small

pub read_whole : (x : Expr) (state : State) (around : Around) → (reads x state).broken ≡ [] → (variables : List Variable) → KnownBy variables state.scope.variables → (r : Reached) → Front (meanings_of (reads x state).state.notes) around.meanings → IsAt r (meanings_of state.notes)
    → Whole variables around (expression x around r)
read_whole x state around h variables k r w at = expressions_whole x false state.scope (past_broken (seen_in state x) state h) variables k state.notes around r (past_front (seen_in state x) state around.meanings w) at

pub test_whole : (x : Expr) (state : State) (around : Around) → (reads x state).broken ≡ [] → (variables : List Variable) → KnownBy variables state.scope.variables → (r : Reached) → Front (meanings_of (reads x state).state.notes) around.meanings → IsAt r (meanings_of state.notes)
    → Names (IsWhole variables around.structs around.layout) (λ offset size. Unit {0}) (λ x. Unit {0}) (number_in (expression x around r).value)
test_whole x state around h variables k r w at = number_of_names _ _ _ (expression x around r).value (read_whole x state around h variables k r w at).value

pub tested_whole : (o : Option Expr) (state : State) (around : Around) → (maybe_reads o state).broken ≡ [] → (variables : List Variable) → KnownBy variables state.scope.variables → (r : Reached) → Front (meanings_of (maybe_reads o state).state.notes) around.meanings → IsAt r (meanings_of state.notes)
    → Names (IsWhole variables around.structs around.layout) (λ offset size. Unit {0}) (λ x. Unit {0}) (tested_by (maybe expression o) around r).test
tested_whole None state around h variables k r w at = tt
tested_whole (Some x) state around h variables k r w at = test_whole x state around h variables k r w at

pub done_whole : (o : Option Expr) (state : State) (around : Around) → (maybe_reads o state).broken ≡ [] → (variables : List Variable) → KnownBy variables state.scope.variables → (r : Reached) → Front (meanings_of (maybe_reads o state).state.notes) around.meanings → IsAt r (meanings_of state.notes)
    → NamesEffect (IsWhole variables around.structs around.layout) (λ offset size. Unit {0}) (λ x. Unit {0}) (done_by (maybe expression o) around r).effect
done_whole None state around h variables k r w at = tt
done_whole (Some x) state around h variables k r w at = (read_whole x state around h variables k r w at).effect

pub local_whole : (variables : List Variable) (around : Around) (o : Option ℕ) → WholePlace variables around (local_of around o)
local_whole variables around None = tt
local_whole variables around (Some number) = variable_named (IsWhole variables around.structs around.layout) around.structs around.variables around.stands 0 number

abbrev pub nothing_stated : Stating
nothing_stated around r = stated Skip r

pub stay_alike : StateAlike (stay, nothing_stated, 0)
stay_alike state around knows h = record { moves = moves_not around state; copies = λ small r w at. tt; names = λ variables k r w at. tt }

pub value_alike : (value : Option Expr) → StateAlike (maybe_reads value, (λ around r. let x = done_by (maybe expression value) around r in stated (Do x.effect) x.after), 0)
value_alike value state around knows h = record { moves = maybe_reads_done around value state h; copies = λ small r w at. done_small value state around h small r w at; names = done_whole value state around h }

-- ---- declarations

pub after_declared : (declared : Declared) (next : Option CType → Walk) (kind : CType) (state : State) → declared.kind ≡ Some kind → declared.state ≡ state → (and_then declared next).state ≡ (next (Some kind) state).state
unfolding and_then
after_declared declared next kind state p q = λ i. (next (p i) (q i)).state

pub none_after : (declared : Declared) (next : Option CType → Walk) (kind : CType) (state : State) → declared.kind ≡ Some kind → declared.state ≡ state → (and_then declared next).broken ≡ [] → (next (Some kind) state).broken ≡ []
unfolding and_then
none_after declared next kind state p q h = sym (λ i. (next (p i) (q i)).broken) ∙ second_empty declared.broken _ h

pub none_in : (declared : Declared) (next : Option CType → Walk) → (and_then declared next).broken ≡ [] → declared.broken ≡ []
unfolding and_then
none_in declared next h = first_empty declared.broken _ h

-- a local or parameter is declared
abbrev pub local_moves : (around : Around) (d : Decl) (state : State) (kind : CType) → Goes (counts_of state d).after (past_counts expression d)
    → Moves around state (with_local d.name kind (after_counts state d)) 1 (λ r. past_declaration (past_counts expression d around r))
local_moves around d state kind go = let mid = after_counts state d in let m = meanings_of mid.notes in let bind = b.Local (number_of state.scope) in record {
  grows = record {
    on = front_then (meanings_of state.notes) m (declared_more bind kind m) (go.on state.notes) (front_declared bind kind m);
    structs = refl;
    functions = refl;
    variables = refl;
    types = kind ∷ [];
    many = refl;
    made = refl;
    declared = ap (λ ds. ds ++ (kind ∷ [])) (go.still state.notes);
  };
  at = λ r w h. at_declared bind kind m (past_counts expression d around r) (go.at state.notes around r (front_then m (declared_more bind kind m) around.meanings (front_declared bind kind m) w) h);
}

pub local_type : (around : Around) (d : Decl) (state : State) (kind : CType) → Goes (counts_of state d).after (past_counts expression d) → (r : Reached) → Front (meanings_of (with_local d.name kind (after_counts state d)).notes) around.meanings → IsAt r (meanings_of state.notes)
    → declared_at around (past_counts expression d around r) ≡ kind
local_type around d state kind go r w h = let m = meanings_of (after_counts state d).notes in let bind = b.Local (number_of state.scope) in
    type_stands bind kind m around (past_counts expression d around r) w (go.at state.notes around r (front_then m (declared_more bind kind m) around.meanings (front_declared bind kind m) w) h)

abbrev pub local_rest : Option Init → Place → Option CType → Walk
local_rest init place kind = maybe_fills init f.Local kind then local_judged init kind place

abbrev pub local_stated : Decl → Option Init → Stating
local_stated d init around r = declared (maybe (initialiser expression) init) around (past_counts expression d around r)

pub local_behind : (d : Decl) (init : Option Init) (place : Place) (state : State) (around : Around) → Knows around state → (kind : CType) → Goes (counts_of state d).after (past_counts expression d)
    → (local_rest init place (Some kind) (with_local d.name kind (after_counts state d))).broken ≡ []
    → StatedAlike around state (local_rest init place (Some kind) (with_local d.name kind (after_counts state d))).state (local d init place, local_stated d init, 1)
unfolding ◌then◌ at_node
local_behind d None place state around knows kind go h = record { moves = local_moves around d state kind go; copies = λ small r w at. tt; names = λ variables k r w at. tt }
local_behind d (Some x) place state around knows kind go h =
    let mid = with_local d.name kind (after_counts state d) in let first = local_moves around d state kind go in
    let fill = (initialisers_alike x).moves f.Local kind mid around (knows_on around state mid 1 knows first.grows) in
    let none = first_empty (maybe_fills (Some x) f.Local (Some kind) mid).broken _ h in
    let new = (maybe_fills (Some x) f.Local (Some kind) mid).state in let any = fill (InMemory Null) 0 none in record {
      moves = record {
        grows = grows_then state mid new 1 0 first.grows any.grows;
        at = λ r w h. let here = past_counts expression d around r in let l = local_of around (local_number (bind_at around here)) in let w1 = front_before around mid new 0 any.grows w in
            subst (λ t. IsAt (initialiser expression x around t l 0 (past_declaration here)).after (meanings_of new.notes)) (sym (local_type around d state kind go r w1 h)) ((fill l 0 none).at (past_declaration here) w (first.at r w1 h));
      };
      copies = λ small r w at. initialisers_small x around small _ _ 0 _;
      names = λ variables k r w at. let here = past_counts expression d around r in let o = local_number (bind_at around here) in let l = local_of around o in let w1 = front_before around mid new 0 any.grows w in
          subst (λ t. WholeStatement variables around (in_order (initialiser expression x around t l 0 (past_declaration here)).effects)) (sym (local_type around d state kind go r w1 at))
          (in_order_names _ _ _ _ ((initialisers_alike x).names f.Local kind mid around (knows_on around state mid 1 knows first.grows) l 0 none variables (known_on variables _ _ first.grows.variables k) (local_whole variables around o) (past_declaration here) w (first.at r w1 at)));
    }

pub local_alike : (d : Decl) (init : Option Init) (place : Place) → StateAlike (local d init place, local_stated d init, 1)
local_alike d init place state around knows h =
    let known = declares_well u.Variable (is_here d.name) false (with_local d.name) d state (none_in (local_declared d state) (local_rest init place) h) in
    subst (λ new. StatedAlike around state new (local d init place, local_stated d init, 1)) (sym (after_declared (local_declared d state) (local_rest init place) known.kind _ known.is known.next))
    (local_behind d init place state around knows known.kind known.goes (none_after (local_declared d state) (local_rest init place) known.kind _ known.is known.next h))

-- ---- blocks and loops

pub looped_alike : (b : StateB) → StateAlike b → StateAlike (looped b.0, b.1, b.2)
unfolding inside
looped_alike b x state around knows h = let m = x (enter_loop state) around knows h in let g = m.moves.grows in record {
  moves = record { grows = record { on = g.on; structs = g.structs; functions = g.functions; variables = g.variables; types = g.types; many = g.many; made = g.made; declared = g.declared }; at = λ r w a. m.moves.at r w a };
  copies = λ small r w a. m.copies small r w a;
  names = λ variables k r w a. m.names variables k r w a;
}

pub block_alike : (at_body : Bool) (b : StateB) → StateAlike b → StateAlike (block_by at_body b.0, b.1, b.2)
unfolding inside
block_alike true b x state around knows h = let m = x (enter_body state) around knows h in let g = m.moves.grows in record {
  moves = record { grows = record { on = g.on; structs = g.structs; functions = g.functions; variables = g.variables; types = g.types; many = g.many; made = g.made; declared = g.declared }; at = λ r w a. m.moves.at r w a };
  copies = λ small r w a. m.copies small r w a;
  names = λ variables k r w a. m.names variables k r w a;
}
block_alike false b x state around knows h = let m = x (enter_block state) around knows h in let g = m.moves.grows in record {
  moves = record { grows = record { on = g.on; structs = g.structs; functions = g.functions; variables = g.variables; types = g.types; many = g.many; made = g.made; declared = g.declared }; at = λ r w a. m.moves.at r w a };
  copies = λ small r w a. m.copies small r w a;
  names = λ variables k r w a. m.names variables k r w a;
}

-- ---- statements with parts

abbrev pub if_stated : Expr → Stating → Stating → Stating
if_stated test a other around r = let c = expression test around r in let x = a around c.after in let y = other around x.after in stated (If (number_in c.value) x.statement y.statement) y.after

pub if_alike : (test : Expr) (a other : StateB) (place : Place) → StateAlike a → StateAlike other → StateAlike (if_walk test a.0 other.0 place, if_stated test a.1 other.1, a.2 + other.2)
unfolding ◌then◌ at_node
if_alike test a other place x y state around knows h =
    let s1 = (reads test state).state in let s2 = (a.0 s1).state in let s3 = (other.0 s2).state in
    let h1 = second_empty (reads test state).broken _ h in let h2 = second_empty (a.0 s1).broken _ h1 in
    let m0 = reads_move around test state (first_empty (reads test state).broken _ h) in let k1 = knows_on around state s1 0 knows m0.grows in
    let m1 = x s1 around k1 (first_empty (a.0 s1).broken _ h1) in let k2 = knows_on around s1 s2 a.2 k1 m1.moves.grows in
    let m2 = y s2 around k2 (first_empty (other.0 s2).broken _ h2) in record {
      moves = moves_as around state s3 (0 + (a.2 + other.2)) (a.2 + other.2) _ (omega arith) (moves_then around state s1 s3 0 (a.2 + other.2) _ _ m0 (moves_then around s1 s2 s3 a.2 other.2 _ _ m1.moves m2.moves));
      copies = λ small r w at. let r1 = (expression test around r).after in let w2 = front_before around s2 s3 other.2 m2.moves.grows w in let w1 = front_before around s1 s2 a.2 m1.moves.grows w2 in
          (m1.copies small r1 w2 (m0.at r w1 at), m2.copies small (a.1 around r1).after w (m1.moves.at r1 w2 (m0.at r w1 at)));
      names = λ variables k r w at. let r1 = (expression test around r).after in let w2 = front_before around s2 s3 other.2 m2.moves.grows w in let w1 = front_before around s1 s2 a.2 m1.moves.grows w2 in
          let j1 = known_on variables _ _ m0.grows.variables k in let j2 = known_on variables _ _ m1.moves.grows.variables j1 in let a1 = m0.at r w1 at in
          (test_whole test state around (first_empty (reads test state).broken _ h) variables k r w1 at, m1.names variables j1 r1 w2 a1, m2.names variables j2 (a.1 around r1).after w (m1.moves.at r1 w2 a1));
    }

abbrev pub while_stated : Expr → Stating → Stating
while_stated test body around r = let c = expression test around r in let x = body around c.after in stated (While (number_in c.value) x.statement) x.after

pub while_alike : (test : Expr) (body : StateB) (place : Place) → StateAlike body → StateAlike (while_walk test body.0 place, while_stated test body.1, body.2)
unfolding ◌then◌ at_node
while_alike test body place x state around knows h =
    let s1 = (reads test state).state in let s2 = (looped body.0 s1).state in let h1 = second_empty (reads test state).broken _ h in
    let m0 = reads_move around test state (first_empty (reads test state).broken _ h) in let k1 = knows_on around state s1 0 knows m0.grows in
    let m1 = looped_alike body x s1 around k1 (first_empty (looped body.0 s1).broken _ h1) in record {
      moves = moves_as around state s2 (0 + body.2) body.2 _ (omega arith) (moves_then around state s1 s2 0 body.2 _ _ m0 m1.moves);
      copies = λ small r w at. let r1 = (expression test around r).after in m1.copies small r1 w (m0.at r (front_before around s1 s2 body.2 m1.moves.grows w) at);
      names = λ variables k r w at. let w1 = front_before around s1 s2 body.2 m1.moves.grows w in
          (test_whole test state around (first_empty (reads test state).broken _ h) variables k r w1 at, m1.names variables (known_on variables _ _ m0.grows.variables k) (expression test around r).after w (m0.at r w1 at));
    }

abbrev pub do_stated : Stating → Expr → Stating
do_stated body test around r = let x = body around r in let c = expression test around x.after in stated (DoWhile x.statement (number_in c.value)) c.after

pub do_alike : (body : StateB) (test : Expr) (place : Place) → StateAlike body → StateAlike (looped body.0 then tested test place, do_stated body.1 test, body.2)
unfolding ◌then◌ at_node
do_alike body test place x state around knows h =
    let s1 = (looped body.0 state).state in let s2 = (reads test s1).state in let h1 = second_empty (looped body.0 state).broken _ h in
    let m0 = looped_alike body x state around knows (first_empty (looped body.0 state).broken _ h) in
    let m1 = reads_move around test s1 (first_empty (reads test s1).broken _ h1) in record {
      moves = moves_as around state s2 (body.2 + 0) body.2 _ (omega arith) (moves_then around state s1 s2 body.2 0 _ _ m0.moves m1);
      copies = λ small r w at. m0.copies small r (front_before around s1 s2 0 m1.grows w) at;
      names = λ variables k r w at. let w1 = front_before around s1 s2 0 m1.grows w in
          (m0.names variables k r w1 at, test_whole test s1 around (first_empty (reads test s1).broken _ h1) variables (known_on variables _ _ m0.moves.grows.variables k) (body.1 around r).after w (m0.moves.at r w1 at));
    }

abbrev pub for_stated : Option Expr → Option Expr → Option Expr → Stating → Stating
for_stated first test next body around r = let f = done_by (maybe expression first) around r in let c = tested_by (maybe expression test) around f.after in
    let n = done_by (maybe expression next) around c.after in let x = body around n.after in stated (Then (Do f.effect) (For c.test n.effect x.statement)) x.after

pub for_alike : (first test next : Option Expr) (body : StateB) (place : Place) → StateAlike body → StateAlike (maybe_reads first then for_rest test next body.0 place, for_stated first test next body.1, body.2)
unfolding ◌then◌ at_node
for_alike first test next body place x state around knows h =
    let s1 = (maybe_reads first state).state in let s2 = (maybe_reads test s1).state in let s3 = (maybe_reads next s2).state in let s4 = (looped body.0 s3).state in
    let n0 = first_empty (maybe_reads first state).broken _ h in let h1 = second_empty (maybe_reads first state).broken _ h in
    let n1 = first_empty (maybe_reads test s1).broken _ h1 in let h2 = second_empty (maybe_reads test s1).broken _ h1 in
    let n2 = first_empty (maybe_reads next s2).broken _ h2 in let h3 = second_empty (maybe_reads next s2).broken _ h2 in
    let m0 = maybe_reads_done around first state n0 in let k1 = knows_on around state s1 0 knows m0.grows in
    let m1 = maybe_reads_tested around test s1 n1 in let k2 = knows_on around s1 s2 0 k1 m1.grows in
    let m2 = maybe_reads_done around next s2 n2 in let k3 = knows_on around s2 s3 0 k2 m2.grows in
    let m3 = looped_alike body x s3 around k3 (first_empty (looped body.0 s3).broken _ h3) in record {
      moves = moves_as around state s4 (0 + (0 + (0 + body.2))) body.2 _ (omega arith)
          (moves_then around state s1 s4 0 (0 + (0 + body.2)) _ _ m0 (moves_then around s1 s2 s4 0 (0 + body.2) _ _ m1 (moves_then around s2 s3 s4 0 body.2 _ _ m2 m3.moves)));
      copies = λ small r w at.
          let w3 = front_before around s3 s4 body.2 m3.moves.grows w in let w2 = front_before around s2 s3 0 m2.grows w3 in let w1 = front_before around s1 s2 0 m1.grows w2 in
          let r1 = (done_by (maybe expression first) around r).after in let r2 = (tested_by (maybe expression test) around r1).after in let r3 = (done_by (maybe expression next) around r2).after in
          let a1 = m0.at r w1 at in let a2 = m1.at r1 w2 a1 in
          (done_small first state around n0 small r w1 at, (done_small next s2 around n2 small r2 w3 a2, m3.copies small r3 w (m2.at r2 w3 a2)));
      names = λ variables k r w at.
          let w3 = front_before around s3 s4 body.2 m3.moves.grows w in let w2 = front_before around s2 s3 0 m2.grows w3 in let w1 = front_before around s1 s2 0 m1.grows w2 in
          let r1 = (done_by (maybe expression first) around r).after in let r2 = (tested_by (maybe expression test) around r1).after in let r3 = (done_by (maybe expression next) around r2).after in
          let a1 = m0.at r w1 at in let a2 = m1.at r1 w2 a1 in
          let j1 = known_on variables _ _ m0.grows.variables k in let j2 = known_on variables _ _ m1.grows.variables j1 in let j3 = known_on variables _ _ m2.grows.variables j2 in
          (done_whole first state around n0 variables k r w1 at, (tested_whole test s1 around n1 variables j1 r1 w2 a1, done_whole next s2 around n2 variables j2 r2 w3 a2, m3.names variables j3 r3 w (m2.at r2 w3 a2)));
    }

pub returned_small : (v : Value) → OfCopies IsSmall (return_of v)
returned_small (Numeric e) = tt
returned_small (Address p) = tt

pub return_alike : (value : Option Expr) (place : Place) → StateAlike (return_walk value place, returned_by (maybe expression value), 0)
unfolding ◌then◌ at_node
return_alike None place state around knows h = record { moves = moves_not around state; copies = λ small r w at. tt; names = λ variables k r w at. tt }
return_alike (Some x) place state around knows h = record {
  moves = reads_move around x state (first_empty (reads x state).broken _ h);
  copies = λ small r w at. returned_small (given around.result (expression x around r).type (expression x around r).value);
  names = λ variables k r w at. return_names _ _ _ (given around.result (expression x around r).type (expression x around r).value)
      (given_names _ _ _ around.result (expression x around r).type (expression x around r).value (read_whole x state around (first_empty (reads x state).broken _ h) variables k r w at).value);
}

pub jump_alike : (place : Place) (statement : Statement) → OfCopies IsSmall statement → ((variables : List Variable) (around : Around) → WholeStatement variables around statement) → StateAlike (jump place, (λ around r. stated statement r), 0)
unfolding at_node
jump_alike place statement c n state around knows h = record { moves = moves_not around state; copies = λ small r w at. c; names = λ variables k r w at. n variables around }

-- ---- statements

abbrev pub StateA : Type 0
StateA = (Place → Walk) × Stating × ℕ

abbrev pub states : StmtKind-F Stating Stating → Stating
states = stmt_step expression (initialiser expression)

abbrev pub state_both : StmtKind-F StateA StateB → StateA
state_both y = (check_step (sf.map-StmtKind StateA StateB (Place → Walk) Walk (λ a. a.0) (λ b. b.0) y), states (sf.map-StmtKind StateA StateB Stating Stating (λ a. a.1) (λ b. b.1) y), counts (sf.map-StmtKind StateA StateB ℕ ℕ (λ a. a.2) (λ b. b.2) y))

abbrev pub state_struct : Stmt-F StateA StateB → StateB
state_struct x = (x.kind.0 x.place, x.kind.1, x.kind.2)

abbrev pub StateAlikeAt : StateA → Type 0
StateAlikeAt a = (place : Place) → StateAlike (a.0 place, a.1, a.2)

abbrev pub PartsA : Type 0
PartsA = StmtA StateA StateB state_both state_struct StateAlikeAt StateAlike

abbrev pub PartsB : Type 0
PartsB = StmtB StateA StateB state_both state_struct StateAlikeAt StateAlike

abbrev pub parts : List PartsB → List StateB
parts all = map (λ y. y.0) all

pub all_alike : (all : List PartsB) → StateAlike (walk_all (map (λ b. b.0) (parts all)), all_stated (map (λ b. b.1) (parts all)), total (map (λ b. b.2) (parts all)))
unfolding ◌then◌
all_alike [] state around knows h = record { moves = moves_not around state; copies = λ small r w at. tt; names = λ variables k r w at. tt }
all_alike (x ∷ more) state around knows h = let s1 = (x.0.0 state).state in let n = total (map (λ b. b.2) (parts more)) in
    let m0 = x.1 state around knows (first_empty (x.0.0 state).broken _ h) in
    let m1 = all_alike more s1 around (knows_on around state s1 x.0.2 knows m0.moves.grows) (second_empty (x.0.0 state).broken _ h) in let s2 = (walk_all (map (λ b. b.0) (parts more)) s1).state in record {
      moves = moves_then around state s1 s2 x.0.2 n _ _ m0.moves m1.moves;
      copies = λ small r w at. let w1 = front_before around s1 s2 n m1.moves.grows w in (m0.copies small r w1 at, m1.copies small (x.0.1 around r).after w (m0.moves.at r w1 at));
      names = λ variables k r w at. let w1 = front_before around s1 s2 n m1.moves.grows w in
          (m0.names variables k r w1 at, m1.names variables (known_on variables _ _ m0.moves.grows.variables k) (x.0.1 around r).after w (m0.moves.at r w1 at));
    }

pub every_state : (y : StmtKind-F PartsA PartsB) → StateAlikeAt (state_both (bare_stmts StateA StateB state_both state_struct StateAlikeAt StateAlike y))
every_state (s.Value value) place = value_alike value
every_state (s.Local d init) place = local_alike d init place
every_state (s.If test a None) place = if_alike test a.0 (stay, nothing_stated, 0) place a.1 stay_alike
every_state (s.If test a (Some b)) place = if_alike test a.0 b.0 place a.1 b.1
every_state (s.While test body) place = while_alike test body.0 place body.1
every_state (s.DoWhile body test) place = do_alike body.0 test place body.1
every_state (s.For first test next body) place = for_alike first test next body.0 place body.1
every_state s.Break place = jump_alike place Break tt (λ variables around. tt)
every_state s.Continue place = jump_alike place Continue tt (λ variables around. tt)
every_state (s.Return value) place = return_alike value place
every_state (s.Block all) place = λ state around knows h. let m = block_alike state.scope.at_body (walk_all (map (λ b. b.0) (parts all)), all_stated (map (λ b. b.1) (parts all)), total (map (λ b. b.2) (parts all))) (all_alike all) state around knows h in record { moves = m.moves; copies = m.copies; names = m.names }

abbrev pub stated_both : Stmt → StateB
stated_both = fold-Stmt StateA StateB state_both state_struct

pub checks_same : (x : Stmt) → (stated_both x).0 ≡ statement x
checks_same x = stmts_fused StateA StateB (Place → Walk) Walk state_both state_struct check_step (λ x. x.kind x.place) (λ a. a.0) (λ b. b.0) (λ y. refl) (λ y. refl) x

pub states_same : (x : Stmt) → (stated_both x).1 ≡ statement_by expression (initialiser expression) x
states_same x = stmts_fused StateA StateB Stating Stating state_both state_struct states (λ x. x.kind) (λ a. a.1) (λ b. b.1) (λ y. refl) (λ y. refl) x

pub counts_same : (x : Stmt) → (stated_both x).2 ≡ declarations x
counts_same x = stmts_fused StateA StateB ℕ ℕ state_both state_struct counts (λ x. x.kind) (λ a. a.2) (λ b. b.2) (λ y. refl) (λ y. refl) x

pub statements_alike : (x : Stmt) → StateAlike (statement x, statement_by expression (initialiser expression) x, declarations x)
statements_alike x = subst (λ check. StateAlike (check, statement_by expression (initialiser expression) x, declarations x)) (checks_same x)
    (subst (λ state. StateAlike ((stated_both x).0, state, declarations x)) (states_same x) (subst (λ n. StateAlike ((stated_both x).0, (stated_both x).1, n)) (counts_same x)
    (every_stmts StateA StateB state_both state_struct StateAlikeAt StateAlike every_state (λ y. y.kind.1 y.place) x)))
