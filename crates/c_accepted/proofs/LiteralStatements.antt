-- The same of statements.
use Rattle.std.proofs.Common.{◌≡◌, ℕ, ◌+◌, refl, subst, List, [], ◌∷◌, ◌++◌, map, length}
use Rattle.std.specs.Prelude.{Option, None, Some}
use Rattle.c_tree.specs.declared.tree.Expr.{Expr}
use Rattle.c_tree.specs.declared.tree.Init.{Init}
use Rattle.c_tree.specs.declared.tree.Stmt.{Stmt}
use Rattle.c_tree.specs.declared.tree.StmtKind.{StmtKind-F}
use Rattle.c_tree.specs.declared.tree.StmtKind.TheOpen as s
use Rattle.c_tree.proofs.Inductions.{StmtA, StmtB, bare_stmts, every_stmts, stmts_fused}
use Rattle.bounds_plan.specs.laws.Roots.{Names, NamesEffect, NamesStatement}
use Rattle.bounds_plan.specs.elaboration.Types.{number_in, given}
use Rattle.bounds_plan.specs.elaboration.Source.{Reached, Around, declared_at, bind_at, local_number, past_declaration}
use Rattle.bounds_plan.specs.elaboration.Expressions.{expression}
use Rattle.bounds_plan.specs.elaboration.Initialisers.{initialiser}
use Rattle.bounds_plan.specs.elaboration.Statements.{Stating, done_by, tested_by, maybe, past_counts, local_of, declared, returned_by, all_stated, stmt_step, statement_by}
use Rattle.c_accepted.specs.Literals.{text_sizes, IsWholeText}
use Rattle.c_accepted.specs.SourceLiterals.{maybe_sizes, counts_sizes, declared_sizes, Listed, all_sizes, listed_step, listed}
use Rattle.c_accepted.proofs.Sizing.{variable_named}
use Rattle.c_accepted.proofs.Closing.{given_names}
use Rattle.c_accepted.proofs.ClosingBodies.{in_order_names, number_of_names, return_names}
use Rattle.c_accepted.proofs.Literals.{Stand, first_stand}
use Rattle.c_accepted.proofs.LiteralBodies.{nothing, counted, then_stand, PlaceNamed, expression_counts, expression_names, counts_counted, initialisers_sized}

module _ (T : ℕ → ℕ → Type 0) where
  abbrev ListCounts : Listed → Type 0
  ListCounts b = (around : Around) (r : Reached) → (b.1 around r).after.literal ≡ r.literal + length (b.0 around r)

  abbrev ListNames : Listed → Type 0
  ListNames b = (around : Around) (r : Reached) → Stand T r.literal (b.0 around r) → NamesStatement (IsWholeText T around.layout) (λ offset size. Unit {0}) (λ x. Unit {0}) (b.1 around r).statement

  abbrev pub AreListed : Listed → Type 0
  AreListed b = ListCounts b × ListNames b

  abbrev GoodA : Type 0
  GoodA = StmtA Listed Listed listed_step (λ x. x.kind) AreListed AreListed

  abbrev GoodB : Type 0
  GoodB = StmtB Listed Listed listed_step (λ x. x.kind) AreListed AreListed

  abbrev bare : StmtKind-F GoodA GoodB → StmtKind-F Listed Listed
  bare = bare_stmts Listed Listed listed_step (λ x. x.kind) AreListed AreListed

  -- ---- counts

  done_counts : (o : Option Expr) (around : Around) (r : Reached) → (done_by (maybe expression o) around r).after.literal ≡ r.literal + length (maybe_sizes o)
  done_counts None around r = nothing r.literal
  done_counts (Some x) around r = expression_counts T x around r

  tested_counts : (o : Option Expr) (around : Around) (r : Reached) → (tested_by (maybe expression o) around r).after.literal ≡ r.literal + length (maybe_sizes o)
  tested_counts None around r = nothing r.literal
  tested_counts (Some x) around r = expression_counts T x around r

  returned_counts : (o : Option Expr) (around : Around) (r : Reached) → (returned_by (maybe expression o) around r).after.literal ≡ r.literal + length (maybe_sizes o)
  returned_counts None around r = nothing r.literal
  returned_counts (Some x) around r = expression_counts T x around r

  declared_counts : (o : Option Init) (around : Around) (r : Reached) → (declared (maybe (initialiser expression) o) around r).after.literal ≡ r.literal + length (declared_sizes o around r)
  declared_counts None around r = nothing r.literal
  declared_counts (Some x) around r = (initialisers_sized T x).0 around (declared_at around r) (local_of around (local_number (bind_at around r))) 0 (past_declaration r)

  all_counts : (all : List GoodB) (around : Around) (r : Reached) → (all_stated (map (λ b. b.1) (map (λ y. y.0) all)) around r).after.literal ≡ r.literal + length (all_sizes (map (λ y. y.0) all) around r)
  all_counts [] around r = nothing r.literal
  all_counts (x ∷ more) around r = let one = (x.0.1 around r).after in counted r.literal one.literal _ (x.0.0 around r) (all_sizes (map (λ y. y.0) more) around one) (x.1.0 around r) (all_counts more around one)

  counts_step : (y : StmtKind-F GoodA GoodB) → ListCounts (listed_step (bare y))
  counts_step (s.Value value) around r = done_counts value around r
  counts_step (s.Local d init) around r = let here = past_counts expression d around r in counted r.literal here.literal _ (counts_sizes d.counts) (declared_sizes init around here) (counts_counted T d.counts around r) (declared_counts init around here)
  counts_step (s.If test a None) around r = let c = (expression test around r).after in
      counted r.literal c.literal _ (text_sizes test) (a.0.0 around c ++ []) (expression_counts T test around r) (counted c.literal (a.0.1 around c).after.literal _ (a.0.0 around c) [] (a.1.0 around c) (nothing _))
  counts_step (s.If test a (Some b)) around r = let c = (expression test around r).after in let x = (a.0.1 around c).after in
      counted r.literal c.literal _ (text_sizes test) (a.0.0 around c ++ b.0.0 around x) (expression_counts T test around r) (counted c.literal x.literal _ (a.0.0 around c) (b.0.0 around x) (a.1.0 around c) (b.1.0 around x))
  counts_step (s.While test body) around r = let c = (expression test around r).after in counted r.literal c.literal _ (text_sizes test) (body.0.0 around c) (expression_counts T test around r) (body.1.0 around c)
  counts_step (s.DoWhile body test) around r = let x = (body.0.1 around r).after in counted r.literal x.literal _ (body.0.0 around r) (text_sizes test) (body.1.0 around r) (expression_counts T test around x)
  counts_step (s.For first test next body) around r = let f = (done_by (maybe expression first) around r).after in let c = (tested_by (maybe expression test) around f).after in let n = (done_by (maybe expression next) around c).after in
      counted r.literal f.literal _ (maybe_sizes first) (maybe_sizes test ++ (maybe_sizes next ++ body.0.0 around n)) (done_counts first around r)
      (counted f.literal c.literal _ (maybe_sizes test) (maybe_sizes next ++ body.0.0 around n) (tested_counts test around f) (counted c.literal n.literal _ (maybe_sizes next) (body.0.0 around n) (done_counts next around c) (body.1.0 around n)))
  counts_step s.Break around r = nothing r.literal
  counts_step s.Continue around r = nothing r.literal
  counts_step (s.Return value) around r = returned_counts value around r
  counts_step (s.Block all) around r = all_counts all around r

  -- ---- names

  done_named : (o : Option Expr) (around : Around) (r : Reached) → Stand T r.literal (maybe_sizes o) → NamesEffect (IsWholeText T around.layout) (λ offset size. Unit {0}) (λ x. Unit {0}) (done_by (maybe expression o) around r).effect
  done_named None around r h = tt
  done_named (Some x) around r h = (expression_names T x around r h).effect

  condition_named : (x : Expr) (around : Around) (r : Reached) → Stand T r.literal (text_sizes x) → Names (IsWholeText T around.layout) (λ offset size. Unit {0}) (λ x. Unit {0}) (number_in (expression x around r).value)
  condition_named x around r h = number_of_names _ _ _ (expression x around r).value (expression_names T x around r h).value

  tested_named : (o : Option Expr) (around : Around) (r : Reached) → Stand T r.literal (maybe_sizes o) → Names (IsWholeText T around.layout) (λ offset size. Unit {0}) (λ x. Unit {0}) (tested_by (maybe expression o) around r).test
  tested_named None around r h = tt
  tested_named (Some x) around r h = condition_named x around r h

  local_named : (around : Around) (o : Option ℕ) → PlaceNamed T around (local_of around o)
  local_named around None = tt
  local_named around (Some number) = variable_named (IsWholeText T around.layout) around.structs around.variables around.stands 0 number

  declared_named : (o : Option Init) (around : Around) (r : Reached) → Stand T r.literal (declared_sizes o around r) → NamesStatement (IsWholeText T around.layout) (λ offset size. Unit {0}) (λ x. Unit {0}) (declared (maybe (initialiser expression) o) around r).statement
  declared_named None around r h = tt
  declared_named (Some x) around r h = let l = local_of around (local_number (bind_at around r)) in
      in_order_names _ _ _ _ ((initialisers_sized T x).1 around (declared_at around r) l (local_named around (local_number (bind_at around r))) 0 (past_declaration r) h)

  returned_named : (o : Option Expr) (around : Around) (r : Reached) → Stand T r.literal (maybe_sizes o) → NamesStatement (IsWholeText T around.layout) (λ offset size. Unit {0}) (λ x. Unit {0}) (returned_by (maybe expression o) around r).statement
  returned_named None around r h = tt
  returned_named (Some x) around r h = let f = expression x around r in return_names _ _ _ (given around.result f.type f.value) (given_names _ _ _ around.result f.type f.value (expression_names T x around r h).value)

  all_named : (all : List GoodB) (around : Around) (r : Reached) → Stand T r.literal (all_sizes (map (λ y. y.0) all) around r)
      → NamesStatement (IsWholeText T around.layout) (λ offset size. Unit {0}) (λ x. Unit {0}) (all_stated (map (λ b. b.1) (map (λ y. y.0) all)) around r).statement
  all_named [] around r h = tt
  all_named (x ∷ more) around r h = let one = (x.0.1 around r).after in let xs = x.0.0 around r in let ys = all_sizes (map (λ y. y.0) more) around one in
      (x.1.1 around r (first_stand T r.literal xs ys h), all_named more around one (then_stand T r.literal one.literal xs ys (x.1.0 around r) h))

  names_step : (y : StmtKind-F GoodA GoodB) → ListNames (listed_step (bare y))
  names_step (s.Value value) around r h = done_named value around r h
  names_step (s.Local d init) around r h = let here = past_counts expression d around r in declared_named init around here (then_stand T r.literal here.literal (counts_sizes d.counts) (declared_sizes init around here) (counts_counted T d.counts around r) h)
  names_step (s.If test a None) around r h = let c = (expression test around r).after in let ys = a.0.0 around c ++ [] in let others = then_stand T r.literal c.literal (text_sizes test) ys (expression_counts T test around r) h in
      (condition_named test around r (first_stand T r.literal (text_sizes test) ys h), a.1.1 around c (first_stand T c.literal (a.0.0 around c) [] others), tt)
  names_step (s.If test a (Some b)) around r h = let c = (expression test around r).after in let x = (a.0.1 around c).after in let xs = a.0.0 around c in let ys = b.0.0 around x in
      let others = then_stand T r.literal c.literal (text_sizes test) (xs ++ ys) (expression_counts T test around r) h in
      (condition_named test around r (first_stand T r.literal (text_sizes test) (xs ++ ys) h), a.1.1 around c (first_stand T c.literal xs ys others), b.1.1 around x (then_stand T c.literal x.literal xs ys (a.1.0 around c) others))
  names_step (s.While test body) around r h = let c = (expression test around r).after in let ys = body.0.0 around c in
      (condition_named test around r (first_stand T r.literal (text_sizes test) ys h), body.1.1 around c (then_stand T r.literal c.literal (text_sizes test) ys (expression_counts T test around r) h))
  names_step (s.DoWhile body test) around r h = let x = (body.0.1 around r).after in let xs = body.0.0 around r in
      (body.1.1 around r (first_stand T r.literal xs (text_sizes test) h), condition_named test around x (then_stand T r.literal x.literal xs (text_sizes test) (body.1.0 around r) h))
  names_step (s.For first test next body) around r h = let f = (done_by (maybe expression first) around r).after in let c = (tested_by (maybe expression test) around f).after in let n = (done_by (maybe expression next) around c).after in
      let zs = body.0.0 around n in let ys = maybe_sizes next ++ zs in let xs = maybe_sizes test ++ ys in
      let hf = then_stand T r.literal f.literal (maybe_sizes first) xs (done_counts first around r) h in
      let hc = then_stand T f.literal c.literal (maybe_sizes test) ys (tested_counts test around f) hf in
      let hn = then_stand T c.literal n.literal (maybe_sizes next) zs (done_counts next around c) hc in
      (done_named first around r (first_stand T r.literal (maybe_sizes first) xs h), (tested_named test around f (first_stand T f.literal (maybe_sizes test) ys hf), done_named next around c (first_stand T c.literal (maybe_sizes next) zs hc), body.1.1 around n hn))
  names_step s.Break around r h = tt
  names_step s.Continue around r h = tt
  names_step (s.Return value) around r h = returned_named value around r h
  names_step (s.Block all) around r h = all_named all around r h

  -- ---- statements

  listed_good : (y : StmtKind-F GoodA GoodB) → AreListed (listed_step (bare y))
  listed_good y = (counts_step y, names_step y)

  states_same : (x : Stmt) → (listed x).1 ≡ statement_by expression (initialiser expression) x
  states_same x = stmts_fused Listed Listed Stating Stating listed_step (λ x. x.kind) (stmt_step expression (initialiser expression)) (λ x. x.kind) (λ a. a.1) (λ b. b.1) (λ y. refl) (λ y. refl) x

  pub statements_sized : (x : Stmt) → AreListed ((listed x).0, statement_by expression (initialiser expression) x)
  statements_sized x = subst (λ state. AreListed ((listed x).0, state)) (states_same x) (every_stmts Listed Listed listed_step (λ x. x.kind) AreListed AreListed listed_good (λ y. y.kind.1) x)
