-- A statement without broken rules is within the limits of code.
use Rattle.std.proofs.Common.{◌≡◌, ℕ, ◌+◌, ◌^◌, ◌<◌, ◌≤◌, refl, sym, ap, ◌∙◌, subst, Bool, true, false, ◌&&◌, not, List, [], ◌∷◌, map, length, arith}
use Rattle.std.specs.Prelude.{Option, None, Some}
use Rattle.std.specs.List.{list_all}
use Rattle.fat_ir.specs.Step.{Located}
use Rattle.mx_base.specs.declared.places.Place.{Place}
use Rattle.c_tree.specs.declared.tree.Decl.{Decl}
use Rattle.c_tree.specs.declared.tree.Expr.{Expr}
use Rattle.c_tree.specs.declared.tree.Init.{Init}
use Rattle.c_tree.specs.declared.tree.Stmt.{Stmt, Stmt-F, fold-Stmt}
use Rattle.c_tree.specs.declared.tree.StmtKind.{StmtKind-F}
use Rattle.c_tree.specs.declared.tree.StmtKind.TheFolds as sf
use Rattle.c_tree.specs.declared.tree.StmtKind.TheOpen as s
use Rattle.c_tree.specs.Formed as formed
use Rattle.c_types.specs.Types.{CType}
use Rattle.c_check_statements.specs.declared.decls.Use.TheVariants as u
use Rattle.c_check_statements.specs.declared.initialisers.Filled.TheVariants as f
use Rattle.c_check_statements.specs.declared.state.State.{State}
use Rattle.c_check_statements.specs.Declarations.{with_local, is_here, local_declared, counts_of, after_counts}
use Rattle.c_check_statements.specs.Initialisers.{maybe_fills}
use Rattle.c_check_statements.specs.Statements.{local, enter_block, enter_body, block_by, enter_loop, looped, jump, if_walk, while_walk, tested, for_rest, return_walk, statement}
use Rattle.c_check_statements.specs.Walks.{stay, ◌then◌, walk_all, at_node, inside, seen_in, reads, maybe_reads}
use Rattle.bounds_plan.specs.laws.Laws.{most_bytes}
use Rattle.bounds_plan.specs.meaning.Core.{Statement, Do, Break, Continue}
use Rattle.bounds_plan.specs.elaboration.Types.{sort_of, size_in, number_in}
use Rattle.bounds_plan.specs.elaboration.Source.{Meanings, Reached, Around, bind_at, past_declaration, local_number}
use Rattle.bounds_plan.specs.elaboration.Expressions.{expression}
use Rattle.bounds_plan.specs.elaboration.Initialisers.{initialiser}
use Rattle.bounds_plan.specs.elaboration.Statements.{stated, in_order, maybe, done_by, tested_by, past_counts, local_of, returned_by, all_stated, total, statement_by, declarations}
use Rattle.c_tree.proofs.Inductions.{StmtA, StmtB, bare_stmts, bare_stmts_struct, every_stmts, stmts_fused}
use Rattle.c_check.specs.Standing.{structs_seen}
use Rattle.c_accepted.specs.Alike.{meanings_of, signatures_seen, IsAt, Front}
use Rattle.c_accepted.proofs.Empty.{first_empty, second_empty}
use Rattle.c_accepted.proofs.Going.{front_itself, front_then, Goes}
use Rattle.c_accepted.proofs.Heads.{both_true}
use Rattle.c_accepted.proofs.Declaring.{declares_well}
use Rattle.c_accepted.proofs.Filling.{initialisers_alike}
use Rattle.c_accepted.proofs.Moving.{Grows, Knows, knows_on, past_broken, past_front, reads_move, maybe_reads_done, maybe_reads_tested}
use Rattle.c_accepted.proofs.Stating.{StateA, StateB, StateAlike, StateAlikeAt, PartsB, state_both, state_struct, every_state, all_alike, stay_alike, looped_alike, stated_both, checks_same, states_same, counts_same, nothing_stated, after_declared, none_after, none_in, local_moves, local_type, local_rest, local_stated, if_stated, while_stated, do_stated, for_stated}
use Rattle.asked_steps.specs.Trees.{Within, EffectWithin, StatementWithin}
use Rattle.accepted_trees.specs.Limits.{TypeWithin, MeaningsWithin, AroundWithin, gives_pointer}
use Rattle.accepted_trees.proofs.Sizes.{size_small}
use Rattle.accepted_trees.proofs.Closing.{number_within}
use Rattle.accepted_trees.proofs.ClosingBodies.{in_order_within, returned_within}
use Rattle.accepted_trees.proofs.Expressions.{FoundIn, PlaceIn, Surrounds, noted_within, variable_within, expressions_within}
use Rattle.accepted_trees.proofs.Initialisers.{surrounds_on, initialisers_within}

-- ---- the two folds beside whether the tree is formed

abbrev FormedA : Type 0
FormedA = StateA × formed.Seen

abbrev FormedB : Type 0
FormedB = StateB × formed.Seen

abbrev step_formed : StmtKind-F FormedA FormedB → FormedA
step_formed y = (state_both (sf.map-StmtKind FormedA FormedB StateA StateB (λ a. a.0) (λ b. b.0) y), formed.stmt_step (sf.map-StmtKind FormedA FormedB formed.Seen formed.Seen (λ a. a.1) (λ b. b.1) y))

abbrev struct_formed : Stmt-F FormedA FormedB → FormedB
struct_formed x = ((x.kind.0.0 x.place, x.kind.0.1, x.kind.0.2), record x.kind.1 { formed = formed.stands x.place && x.kind.1.formed })

front_before : (m : Meanings) (old new : State) (count : ℕ) → Grows old new count → Front (meanings_of new.notes) m → Front (meanings_of old.notes) m
front_before m old new count g w = front_then (meanings_of old.notes) (meanings_of new.notes) m g.on w

module _ (located : ℕ → Located) (pointer : Bool) (returns : ℕ → Bool) (takes : ℕ → List (ℕ × Option ℕ) → Bool) where
  abbrev Around_in : Meanings → State → Around → Type 0
  Around_in m state around = Surrounds located pointer returns takes m state.scope around

  behind : (m : Meanings) (old new : State) (around : Around) (count : ℕ) → Grows old new count → Around_in m old around → Around_in m new around
  behind m old new around count g k = surrounds_on located pointer returns takes m old.scope new.scope around g.functions k

  abbrev pub StatesWithin : StateB → Type 0
  StatesWithin b = (state : State) (around : Around) → Knows around state → (b.0 state).broken ≡ [] → (m : Meanings) → Around_in m state around → pointer ≡ gives_pointer (sort_of around.result)
      → (r : Reached) → Front (meanings_of (b.0 state).state.notes) m → IsAt r (meanings_of state.notes) → StatementWithin located pointer returns takes (b.1 around r).statement

  -- ---- parts

  read_in : (x : Expr) (state : State) (around : Around) → formed.formed_expr x ≡ true → (reads x state).broken ≡ [] → (m : Meanings) → Around_in m state around → (r : Reached) → Front (meanings_of (reads x state).state.notes) m → IsAt r (meanings_of state.notes)
      → FoundIn located pointer returns takes around.structs (expression x around r)
  read_in x state around is h m k r w at = expressions_within located pointer returns takes x is false state.scope (past_broken (seen_in state x) state h) m around k state.notes r (past_front (seen_in state x) state m w) at

  test_in : (x : Expr) (state : State) (around : Around) → formed.formed_expr x ≡ true → (reads x state).broken ≡ [] → (m : Meanings) → Around_in m state around → (r : Reached) → Front (meanings_of (reads x state).state.notes) m → IsAt r (meanings_of state.notes)
      → Within located pointer returns takes (number_in (expression x around r).value)
  test_in x state around is h m k r w at = number_within located pointer returns takes (expression x around r).value (read_in x state around is h m k r w at).value

  for_ever : 1 < 2 ^ 64
  for_ever = omega arith

  tested_in : (o : Option Expr) (state : State) (around : Around) → formed.maybe_expr o ≡ true → (maybe_reads o state).broken ≡ [] → (m : Meanings) → Around_in m state around → (r : Reached) → Front (meanings_of (maybe_reads o state).state.notes) m → IsAt r (meanings_of state.notes)
      → Within located pointer returns takes (tested_by (maybe expression o) around r).test
  tested_in None state around is h m k r w at = for_ever
  tested_in (Some x) state around is h m k r w at = test_in x state around is h m k r w at

  done_in : (o : Option Expr) (state : State) (around : Around) → formed.maybe_expr o ≡ true → (maybe_reads o state).broken ≡ [] → (m : Meanings) → Around_in m state around → (r : Reached) → Front (meanings_of (maybe_reads o state).state.notes) m → IsAt r (meanings_of state.notes)
      → EffectWithin located pointer returns takes (done_by (maybe expression o) around r).effect
  done_in None state around is h m k r w at = tt
  done_in (Some x) state around is h m k r w at = (read_in x state around is h m k r w at).effect

  local_in : (around : Around) (o : Option ℕ) → AroundWithin located returns takes around → PlaceIn located pointer returns takes (local_of around o)
  local_in around None k = tt
  local_in around (Some number) k = variable_within located pointer returns takes around.structs around.variables around.stands 0 number k.variables k.stands

  stay_in : StatesWithin (stay, nothing_stated, 0)
  stay_in state around knows h m k p r w at = tt

  value_in : (value : Option Expr) → formed.maybe_expr value ≡ true → StatesWithin (maybe_reads value, (λ around r. let x = done_by (maybe expression value) around r in stated (Do x.effect) x.after), 0)
  value_in value is state around knows h m k p r w at = done_in value state around is h m k r w at

  -- ---- declarations

  declared_in : (d : Decl) (init : Option Init) (place : Place) (state : State) (around : Around) → formed.maybe_init init ≡ true → Knows around state → (kind : CType) → Goes (counts_of state d).after (past_counts expression d)
      → (local_rest init place (Some kind) (with_local d.name kind (after_counts state d))).broken ≡ [] → (m : Meanings) → Around_in m state around
      → (r : Reached) → Front (meanings_of (local_rest init place (Some kind) (with_local d.name kind (after_counts state d))).state.notes) m → IsAt r (meanings_of state.notes) → StatementWithin located pointer returns takes (local_stated d init around r).statement
  unfolding ◌then◌ at_node
  declared_in d None place state around is knows kind go h m k r w at = tt
  declared_in d (Some x) place state around is knows kind go h m k r w at =
      let mid = with_local d.name kind (after_counts state d) in let first = local_moves around d state kind go in
      let knows1 = knows_on around state mid 1 knows first.grows in
      let none = first_empty (maybe_fills (Some x) f.Local (Some kind) mid).broken _ h in
      let new = (maybe_fills (Some x) f.Local (Some kind) mid).state in
      let here = past_counts expression d around r in let o = local_number (bind_at around here) in let l = local_of around o in
      let place_in = local_in around o k.within in
      let any = (initialisers_alike x).moves f.Local kind mid around knows1 l 0 none in
      let w1 = front_before m mid new 0 any.grows w in let w2 = front_then _ _ _ w1 k.front in
      let there = first.at r w2 at in
      let same = local_type around d state kind go r w2 at in
      let type = subst (TypeWithin around.structs) same
      (noted_within around.structs (meanings_of mid.notes).declared m.declared around.meanings.declared here.declaration w1.declared.more w1.declared.is k.front.declared.more k.front.declared.is k.types.declared there.declaration) in
      let small = size_small around.structs kind type in let room : 0 + size_in around.structs kind ≤ most_bytes = omega (arith, small) in
      subst (λ t. StatementWithin located pointer returns takes (in_order (initialiser expression x around t l 0 (past_declaration here)).effects)) (sym same)
      (in_order_within located pointer returns takes _ (initialisers_within located pointer returns takes x is f.Local kind mid around knows1 l 0 none m (behind m state mid around 1 first.grows k) place_in type
      room (past_declaration here) w there))

  declaration_in : (d : Decl) (init : Option Init) (place : Place) → formed.maybe_init init ≡ true → StatesWithin (local d init place, local_stated d init, 1)
  declaration_in d init place is state around knows h m k p r w at =
      let known = declares_well u.Variable (is_here d.name) false (with_local d.name) d state (none_in (local_declared d state) (local_rest init place) h) in
      declared_in d init place state around is knows known.kind known.goes (none_after (local_declared d state) (local_rest init place) known.kind _ known.is known.next h) m k r
      (subst (λ (st : State). Front (meanings_of st.notes) m) (after_declared (local_declared d state) (local_rest init place) known.kind _ known.is known.next) w) at

  -- ---- blocks and loops

  looped_in : (b : StateB) → StatesWithin b → StatesWithin (looped b.0, b.1, b.2)
  unfolding inside
  looped_in b x state around knows h m k p r w at = x (enter_loop state) around knows h m (surrounds_on located pointer returns takes m state.scope (enter_loop state).scope around refl k) p r w at

  block_in : (at_body : Bool) (b : StateB) → StatesWithin b → StatesWithin (block_by at_body b.0, b.1, b.2)
  unfolding inside
  block_in true b x state around knows h m k p r w at = x (enter_body state) around knows h m (surrounds_on located pointer returns takes m state.scope (enter_body state).scope around refl k) p r w at
  block_in false b x state around knows h m k p r w at = x (enter_block state) around knows h m (surrounds_on located pointer returns takes m state.scope (enter_block state).scope around refl k) p r w at

  -- ---- statements with parts

  if_in : (test : Expr) (a other : StateB) (place : Place) → formed.formed_expr test ≡ true → StateAlike a → StateAlike other → StatesWithin a → StatesWithin other → StatesWithin (if_walk test a.0 other.0 place, if_stated test a.1 other.1, a.2 + other.2)
  unfolding ◌then◌ at_node
  if_in test a other place is x y xs ys state around knows h m k p r w at =
      let s1 = (reads test state).state in let s2 = (a.0 s1).state in let s3 = (other.0 s2).state in
      let h0 = first_empty (reads test state).broken _ h in let h1 = second_empty (reads test state).broken _ h in let h2 = second_empty (a.0 s1).broken _ h1 in
      let m0 = reads_move around test state h0 in let k1 = knows_on around state s1 0 knows m0.grows in
      let ha = first_empty (a.0 s1).broken _ h1 in let hb = first_empty (other.0 s2).broken _ h2 in
      let m1 = x s1 around k1 ha in let k2 = knows_on around s1 s2 a.2 k1 m1.moves.grows in let m2 = y s2 around k2 hb in
      let w2 = front_before m s2 s3 other.2 m2.moves.grows w in let w1 = front_before m s1 s2 a.2 m1.moves.grows w2 in
      let j1 = behind m state s1 around 0 m0.grows k in let j2 = behind m s1 s2 around a.2 m1.moves.grows j1 in
      let r1 = (expression test around r).after in let a1 = m0.at r (front_then _ _ _ w1 k.front) at in let a2 = m1.moves.at r1 (front_then _ _ _ w2 k.front) a1 in
      (test_in test state around is h0 m k r w1 at, xs s1 around k1 ha m j1 p r1 w2 a1, ys s2 around k2 hb m j2 p (a.1 around r1).after w a2)

  while_in : (test : Expr) (body : StateB) (place : Place) → formed.formed_expr test ≡ true → StateAlike body → StatesWithin body → StatesWithin (while_walk test body.0 place, while_stated test body.1, body.2)
  unfolding ◌then◌ at_node
  while_in test body place is x xs state around knows h m k p r w at =
      let s1 = (reads test state).state in let s2 = (looped body.0 s1).state in let h0 = first_empty (reads test state).broken _ h in let h1 = second_empty (reads test state).broken _ h in
      let m0 = reads_move around test state h0 in let k1 = knows_on around state s1 0 knows m0.grows in let hb = first_empty (looped body.0 s1).broken _ h1 in
      let m1 = looped_alike body x s1 around k1 hb in let w1 = front_before m s1 s2 body.2 m1.moves.grows w in
      (test_in test state around is h0 m k r w1 at, looped_in body xs s1 around k1 hb m (behind m state s1 around 0 m0.grows k) p (expression test around r).after w (m0.at r (front_then _ _ _ w1 k.front) at))

  do_in : (body : StateB) (test : Expr) (place : Place) → formed.formed_expr test ≡ true → StateAlike body → StatesWithin body → StatesWithin (looped body.0 then tested test place, do_stated body.1 test, body.2)
  unfolding ◌then◌ at_node
  do_in body test place is x xs state around knows h m k p r w at =
      let s1 = (looped body.0 state).state in let s2 = (reads test s1).state in let h0 = first_empty (looped body.0 state).broken _ h in let h1 = second_empty (looped body.0 state).broken _ h in
      let m0 = looped_alike body x state around knows h0 in let ht = first_empty (reads test s1).broken _ h1 in
      let m1 = reads_move around test s1 ht in let w1 = front_before m s1 s2 0 m1.grows w in (
        looped_in body xs state around knows h0 m k p r w1 at,
        test_in test s1 around is ht m (behind m state s1 around body.2 m0.moves.grows k) (body.1 around r).after w (m0.moves.at r (front_then _ _ _ w1 k.front) at),
      )

  for_in : (first test next : Option Expr) (body : StateB) (place : Place) → formed.maybe_expr first ≡ true → formed.maybe_expr test ≡ true → formed.maybe_expr next ≡ true → StateAlike body → StatesWithin body
      → StatesWithin (maybe_reads first then for_rest test next body.0 place, for_stated first test next body.1, body.2)
  unfolding ◌then◌ at_node
  for_in first test next body place i0 i1 i2 x xs state around knows h m k p r w at =
      let s1 = (maybe_reads first state).state in let s2 = (maybe_reads test s1).state in let s3 = (maybe_reads next s2).state in let s4 = (looped body.0 s3).state in
      let n0 = first_empty (maybe_reads first state).broken _ h in let h1 = second_empty (maybe_reads first state).broken _ h in
      let n1 = first_empty (maybe_reads test s1).broken _ h1 in let h2 = second_empty (maybe_reads test s1).broken _ h1 in
      let n2 = first_empty (maybe_reads next s2).broken _ h2 in let h3 = second_empty (maybe_reads next s2).broken _ h2 in
      let m0 = maybe_reads_done around first state n0 in let k1 = knows_on around state s1 0 knows m0.grows in
      let m1 = maybe_reads_tested around test s1 n1 in let k2 = knows_on around s1 s2 0 k1 m1.grows in
      let m2 = maybe_reads_done around next s2 n2 in let k3 = knows_on around s2 s3 0 k2 m2.grows in let hb = first_empty (looped body.0 s3).broken _ h3 in
      let m3 = looped_alike body x s3 around k3 hb in
      let w3 = front_before m s3 s4 body.2 m3.moves.grows w in let w2 = front_before m s2 s3 0 m2.grows w3 in let w1 = front_before m s1 s2 0 m1.grows w2 in
      let r1 = (done_by (maybe expression first) around r).after in let r2 = (tested_by (maybe expression test) around r1).after in let r3 = (done_by (maybe expression next) around r2).after in
      let a1 = m0.at r (front_then _ _ _ w1 k.front) at in let a2 = m1.at r1 (front_then _ _ _ w2 k.front) a1 in let a3 = m2.at r2 (front_then _ _ _ w3 k.front) a2 in
      let j1 = behind m state s1 around 0 m0.grows k in let j2 = behind m s1 s2 around 0 m1.grows j1 in let j3 = behind m s2 s3 around 0 m2.grows j2 in
      (done_in first state around i0 n0 m k r w1 at, (tested_in test s1 around i1 n1 m j1 r1 w2 a1, done_in next s2 around i2 n2 m j2 r2 w3 a2, looped_in body xs s3 around k3 hb m j3 p r3 w a3))

  return_in : (value : Option Expr) (place : Place) → formed.maybe_expr value ≡ true → StatesWithin (return_walk value place, returned_by (maybe expression value), 0)
  unfolding ◌then◌ at_node
  return_in None place is state around knows h m k p r w at = tt
  return_in (Some x) place is state around knows h m k p r w at = let v = expression x around r in
      returned_within located pointer returns takes around.result v.type v.value p (read_in x state around is (first_empty (reads x state).broken _ h) m k r w at).value

  jump_in : (place : Place) (statement : Statement) → StatementWithin located pointer returns takes statement → StatesWithin (jump place, (λ around r. stated statement r), 0)
  unfolding at_node
  jump_in place statement c state around knows h m k p r w at = c

  -- ---- statements

  abbrev Good : FormedB → Type 0
  Good b = StateAlike b.0 × (b.1.formed ≡ true → StatesWithin b.0)

  abbrev GoodAt : FormedA → Type 0
  GoodAt a = (place : Place) → StateAlike (a.0.0 place, a.0.1, a.0.2) × (a.1.formed ≡ true → StatesWithin (a.0.0 place, a.0.1, a.0.2))

  abbrev GoodA : Type 0
  GoodA = StmtA FormedA FormedB step_formed struct_formed GoodAt Good

  abbrev GoodB : Type 0
  GoodB = StmtB FormedA FormedB step_formed struct_formed GoodAt Good

  abbrev bare : StmtKind-F GoodA GoodB → StmtKind-F FormedA FormedB
  bare = bare_stmts FormedA FormedB step_formed struct_formed GoodAt Good

  abbrev weak : GoodB → PartsB
  weak y = (y.0.0, y.1.0)

  abbrev pairs : List GoodB → List StateB
  pairs all = map (λ b. b.0) (map (λ y. y.0) all)

  abbrev seens : List GoodB → List formed.Seen
  seens all = map (λ b. b.1) (map (λ y. y.0) all)

  weak_same : (all : List GoodB) → map (λ y. y.0) (map weak all) ≡ pairs all
  weak_same [] = refl
  weak_same (a ∷ more) = ap (λ bs. a.0.0 ∷ bs) (weak_same more)

  abbrev joined : List StateB → StateB
  joined bs = (walk_all (map (λ b. b.0) bs), all_stated (map (λ b. b.1) bs), total (map (λ b. b.2) bs))

  joined_alike : (all : List GoodB) → StateAlike (joined (pairs all))
  joined_alike all = subst (λ bs. StateAlike (joined bs)) (weak_same all) (all_alike (map weak all))

  all_in : (all : List GoodB) → list_all (λ (x : formed.Seen). x.formed) (seens all) ≡ true → StatesWithin (joined (pairs all))
  unfolding ◌then◌
  all_in [] is state around knows h m k p r w at = tt
  all_in (x ∷ more) is state around knows h m k p r w at = let s1 = (x.0.0.0 state).state in let n = total (map (λ b. b.2) (pairs more)) in
      let both = both_true x.0.1.formed (list_all (λ (y : formed.Seen). y.formed) (seens more)) is in
      let h0 = first_empty (x.0.0.0 state).broken _ h in let h1 = second_empty (x.0.0.0 state).broken _ h in
      let m0 = x.1.0 state around knows h0 in let k1 = knows_on around state s1 x.0.0.2 knows m0.moves.grows in
      let m1 = joined_alike more s1 around k1 h1 in let s2 = (walk_all (map (λ b. b.0) (pairs more)) s1).state in
      let w1 = front_before m s1 s2 n m1.moves.grows w in
      (x.1.1 both.0 state around knows h0 m k p r w1 at, all_in more both.1 s1 around k1 h1 m (behind m state s1 around x.0.0.2 m0.moves.grows k) p (x.0.0.1 around r).after w (m0.moves.at r (front_then _ _ _ w1 k.front) at))

  alike_step : (y : StmtKind-F GoodA GoodB) (place : Place) → StateAlike ((step_formed (bare y)).0.0 place, (step_formed (bare y)).0.1, (step_formed (bare y)).0.2)
  alike_step (s.Value value) = every_state (s.Value value)
  alike_step (s.Local d init) = every_state (s.Local d init)
  alike_step (s.If test a None) = every_state (s.If test (weak a) None)
  alike_step (s.If test a (Some b)) = every_state (s.If test (weak a) (Some (weak b)))
  alike_step (s.While test body) = every_state (s.While test (weak body))
  alike_step (s.DoWhile body test) = every_state (s.DoWhile (weak body) test)
  alike_step (s.For first test next body) = every_state (s.For first test next (weak body))
  alike_step s.Break = every_state s.Break
  alike_step s.Continue = every_state s.Continue
  alike_step (s.Return value) = every_state (s.Return value)
  alike_step (s.Block all) = subst (λ bs. StateAlikeAt (state_both (s.Block bs))) (weak_same all) (every_state (s.Block (map weak all)))

  within_step : (y : StmtKind-F GoodA GoodB) (place : Place) → (step_formed (bare y)).1.formed ≡ true → StatesWithin ((step_formed (bare y)).0.0 place, (step_formed (bare y)).0.1, (step_formed (bare y)).0.2)
  within_step (s.Value value) place is = value_in value is
  within_step (s.Local d init) place is = declaration_in d init place (both_true (formed.formed_decl d) (formed.maybe_init init) is).1
  within_step (s.If test a None) place is = let q = both_true (formed.formed_expr test && formed.is_branch a.0.1) true is in let t = both_true (formed.formed_expr test) (formed.is_branch a.0.1) q.0 in
      if_in test a.0.0 (stay, nothing_stated, 0) place t.0 a.1.0 stay_alike (a.1.1 (both_true a.0.1.formed (not a.0.1.declares) t.1).0) stay_in
  within_step (s.If test a (Some b)) place is = let q = both_true (formed.formed_expr test && formed.is_branch a.0.1) (formed.is_branch b.0.1) is in let t = both_true (formed.formed_expr test) (formed.is_branch a.0.1) q.0 in
      if_in test a.0.0 b.0.0 place t.0 a.1.0 b.1.0 (a.1.1 (both_true a.0.1.formed (not a.0.1.declares) t.1).0) (b.1.1 (both_true b.0.1.formed (not b.0.1.declares) q.1).0)
  within_step (s.While test body) place is = let t = both_true (formed.formed_expr test) (formed.is_branch body.0.1) is in
      while_in test body.0.0 place t.0 body.1.0 (body.1.1 (both_true body.0.1.formed (not body.0.1.declares) t.1).0)
  within_step (s.DoWhile body test) place is = let t = both_true (formed.is_branch body.0.1) (formed.formed_expr test) is in
      do_in body.0.0 test place t.1 body.1.0 (body.1.1 (both_true body.0.1.formed (not body.0.1.declares) t.0).0)
  within_step (s.For first test next body) place is =
      let q = both_true (formed.maybe_expr first && formed.maybe_expr test && formed.maybe_expr next) (formed.is_branch body.0.1) is in
      let t = both_true (formed.maybe_expr first && formed.maybe_expr test) (formed.maybe_expr next) q.0 in let v = both_true (formed.maybe_expr first) (formed.maybe_expr test) t.0 in
      for_in first test next body.0.0 place v.0 v.1 t.1 body.1.0 (body.1.1 (both_true body.0.1.formed (not body.0.1.declares) q.1).0)
  within_step s.Break place is = jump_in place Break tt
  within_step s.Continue place is = jump_in place Continue tt
  within_step (s.Return value) place is = return_in value place is
  within_step (s.Block all) place is = λ state around knows h m k p r w at. block_in state.scope.at_body (joined (pairs all)) (all_in all is) state around knows h m k p r w at

  abbrev formed_both : Stmt → FormedB
  formed_both = fold-Stmt FormedA FormedB step_formed struct_formed

  boths_same : (x : Stmt) → (formed_both x).0 ≡ stated_both x
  boths_same x = stmts_fused FormedA FormedB StateA StateB step_formed struct_formed state_both state_struct (λ a. a.0) (λ b. b.0) (λ y. refl) (λ y. refl) x

  seens_same : (x : Stmt) → (formed_both x).1 ≡ formed.seen_stmt x
  seens_same x = stmts_fused FormedA FormedB formed.Seen formed.Seen step_formed struct_formed formed.stmt_step (λ x. record x.kind { formed = formed.stands x.place && x.kind.formed }) (λ a. a.1) (λ b. b.1) (λ y. refl) (λ y. refl) x

  good_step : (y : StmtKind-F GoodA GoodB) → GoodAt (step_formed (bare y))
  good_step y place = (alike_step y place, within_step y place)

  good_struct : (y : Stmt-F GoodA GoodB) → Good (struct_formed (bare_stmts_struct FormedA FormedB step_formed struct_formed GoodAt Good y))
  good_struct y = let h = y.kind.1 y.place in (h.0, λ is. h.1 (both_true (formed.stands y.place) y.kind.0.1.formed is).1)

  pub statements_within : (x : Stmt) → formed.formed_stmt x ≡ true → StatesWithin (statement x, statement_by expression (initialiser expression) x, declarations x)
  statements_within x is = subst (λ check. StatesWithin (check, statement_by expression (initialiser expression) x, declarations x)) (checks_same x)
      (subst (λ state. StatesWithin ((stated_both x).0, state, declarations x)) (states_same x) (subst (λ n. StatesWithin ((stated_both x).0, (stated_both x).1, n)) (counts_same x)
      (subst StatesWithin (boths_same x) ((every_stmts FormedA FormedB step_formed struct_formed GoodAt Good good_step good_struct x).1 (ap (λ (y : formed.Seen). y.formed) (seens_same x) ∙ is)))))

  pub bodies_within : (x : Stmt) (state : State) → formed.formed_stmt x ≡ true → (statement x state).broken ≡ [] → length state.scope.functions ≤ 4294967295 → (around : Around) (r : Reached)
      → Front (meanings_of (statement x state).state.notes) around.meanings → IsAt r (meanings_of state.notes) → MeaningsWithin around.structs (meanings_of (statement x state).state.notes) → around.structs ≡ structs_seen state.scope.structs
      → around.signatures ≡ signatures_seen state.scope.functions → AroundWithin located returns takes around → pointer ≡ gives_pointer (sort_of around.result)
      → StatementWithin located pointer returns takes (statement_by expression (initialiser expression) x around r).statement
  bodies_within x state is h few around r w at types structs same within p = let m = meanings_of (statement x state).state.notes in
      statements_within x is state around structs h m record { front = w; types = types; within = within; few = few; signatures = same } p r (front_itself m) at
