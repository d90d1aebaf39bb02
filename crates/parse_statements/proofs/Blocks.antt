-- Rules whose parts functions read by themselves, and the statements of a block.
use Rattle.std.proofs.Common.{◌≡◌, ℕ, ◌+◌, Bool, true, false, ◌||◌, if◌then◌else◌, List, [], ◌∷◌, ◌++◌, map, Ok, Err, Option, Some, None, refl, sym, ◌∙◌, ap}
use Rattle.mx_base.specs.declared.places.Place.{Place}
use Rattle.c_tokens.specs.declared.class.Class.TheVariants as k
use Rattle.c_tree.specs.declared.tree.Decl.{Decl}
use Rattle.c_tree.specs.declared.tree.Expr.{Expr}
use Rattle.c_tree.specs.declared.tree.Init.{Init}
use Rattle.c_tree.specs.declared.tree.InitKind.TheVariants as i
use Rattle.c_tree.specs.declared.tree.Stmt.{Stmt}
use Rattle.c_tree.specs.declared.tree.StmtKind.TheVariants as s
use Rattle.c_grammar.specs.declared.parts.Declarator.{Declarator}
use Rattle.c_grammar.specs.declared.parts.InitDeclarator.{InitDeclarator}
use Rattle.c_grammar.specs.declared.parts.Typed.{Typed}
use Rattle.c_grammar.specs.Lexemes.{Lexeme, same, look, among}
use Rattle.c_grammar.specs.Nodes as made
use Rattle.c_grammar.specs.Rules as n
use Rattle.c_grammar.specs.Reading.{Out, Halt, unfit, too_deep, and_then, deeper, take_tok, parse, steps, steps_of, steps_with, limit, base_begins, expression_begins, statement_begins}
use Rattle.c_grammar.proofs.Steps.{parse_steps, fragment, then_ok, then_done}
use Rattle.parse_expressions.specs.At.{At}
use Rattle.parse_expressions.specs.declared.fault.Fault.{Fault}
use Rattle.parse_expressions.specs.declared.fault.Fault.TheVariants.{Unexpected, Deep, OutOfMemory}
use Rattle.parse_expressions.specs.Gives.{Gives, through}
use Rattle.parse_expressions.specs.Fragments.{whole}
use Rattle.parse_statements.specs.Pieces.{initialisers, head, local_within, statement_within, broken, continued, entry}
use Rattle.parse_statements.specs.Names.{decls_after, locals_after}
use Rattle.parse_statements.proofs.Lists.{decls_begin, locals_begin}
use Rattle.parse_statements.proofs.Joined.{from_none, push_more, push_stop, append_more, append_stop, append_none}

-- ---- rules whose parts functions read by themselves

if_first : {A : Type 0} (b : Bool) (x y z : A) → x ≡ y → (if b then x else z) ≡ (if b then y else z)
if_first b x y z e = ap (λ w. if b then w else z) e

if_second : {A : Type 0} (b : Bool) (x y z : A) → x ≡ y → (if b then z else x) ≡ (if b then z else y)
if_second b x y z e = ap (λ w. if b then z else w) e

then_through : {A B C : Type 0} (f : A → B) (o : Out A) (g : B → List Lexeme → ℕ → Out C) → and_then (through f o) g ≡ and_then o (λ a mid d. g (f a) mid d)
then_through f (Ok p) g = refl
then_through f (Err at) g = refl

abbrev braces : ℕ → List Lexeme → Out Init
braces d ts =
    deeper (same (look ts) k.OpenBrace) (limit d) ts (and_then (take_tok made.place_of k.OpenBrace [] (d + 1) ts) (λ place mid d1.
    and_then (steps_of initialisers d1 mid) (λ all mid d2.
    and_then (take_tok made.place_of k.CloseBrace [] d2 mid) (λ _ rest d3. Ok (record { place = place; kind = i.Many all }, rest, d)))))

pub step_initialiser : (d : ℕ) (ts : List Lexeme) → parse limit n.Initialiser d ts ≡ (if same (look ts) k.OpenBrace then braces d ts else and_then (steps_of whole d ts) (λ a rest d'. Ok (made.one_init a, rest, d')))
step_initialiser d ts =
    parse_steps n.Initialiser d ts
    ∙ if_second (same (look ts) k.OpenBrace) _ _ _ (sym (fragment whole d ts (λ a rest d'. Ok (made.one_init a, rest, d'))))
    ∙ if_first (same (look ts) k.OpenBrace) _ _ _ (ap (deeper (same (look ts) k.OpenBrace) (limit d) ts) (then_ok (take_tok made.place_of k.OpenBrace [] (d + 1) ts) _ _ (λ place mid d1.
    sym (fragment initialisers d1 mid (λ all mid d2. and_then (take_tok made.place_of k.CloseBrace [] d2 mid) (λ _ rest d3. Ok (record { place = place; kind = i.Many all }, rest, d)))))))

pub step_member : (d : ℕ) (ts : List Lexeme) → parse limit n.Member d ts ≡
    and_then (parse limit n.AnyBase d ts) (λ typed mid d1. and_then (parse limit n.Declared d1 mid) (λ first mid d2.
    and_then (decls_after typed.base (made.decl_from typed.start typed.base first ∷ []) d2 mid) (λ all mid d3. and_then (take_tok made.place_of k.Semicolon [] d3 mid) (λ _ rest d4. Ok (all, rest, d4)))))
step_member d ts =
    parse_steps n.Member d ts ∙ then_ok (parse limit n.AnyBase d ts) _ _ (λ typed mid d1. then_ok (parse limit n.Declared d1 mid) _ _ (λ first mid d2.
    sym (then_through (λ more. made.decls_of typed first more) (parse limit n.MoreDeclared d2 mid) (λ all mid d3. and_then (take_tok made.place_of k.Semicolon [] d3 mid) (λ _ rest d4. Ok (all, rest, d4))))
    ∙ ap (λ o. and_then o (λ all mid d3. and_then (take_tok made.place_of k.Semicolon [] d3 mid) (λ _ rest d4. Ok (all, rest, d4)))) (decls_begin typed first d2 mid)))

pub step_local : (d : ℕ) (ts : List Lexeme) → parse limit n.Local d ts ≡
    and_then (parse limit n.AnyBase d ts) (λ typed mid d1. and_then (parse limit n.Initialised d1 mid) (λ first mid d2.
    and_then (locals_after typed.base (made.stmt typed.start (s.Local (made.decl_from typed.start typed.base first.declarator) first.init) ∷ []) d2 mid) (λ all mid d3. and_then (take_tok made.place_of k.Semicolon [] d3 mid) (λ _ rest d4. Ok ((typed.start, all), rest, d4)))))
step_local d ts =
    parse_steps n.Local d ts ∙ then_ok (parse limit n.AnyBase d ts) _ _ (λ typed mid d1. then_ok (parse limit n.Initialised d1 mid) _ _ (λ first mid d2.
    sym (then_through (λ more. made.locals_of typed first more) (parse limit n.MoreInitialised d2 mid) (λ all mid d3. and_then (take_tok made.place_of k.Semicolon [] d3 mid) (λ _ rest d4. Ok ((typed.start, all), rest, d4))))
    ∙ ap (λ o. and_then o (λ all mid d3. and_then (take_tok made.place_of k.Semicolon [] d3 mid) (λ _ rest d4. Ok ((typed.start, all), rest, d4)))) (locals_begin typed first d2 mid)))

pub step_simple : (d : ℕ) (ts : List Lexeme) → parse limit n.Simple d ts ≡ (if same (look ts) k.Semicolon then and_then (take_tok made.place_of k.Semicolon [] d ts) (λ place rest d'. Ok (made.stmt place (s.Value None), rest, d'))
    else and_then (steps_of whole d ts) (λ a mid d1. and_then (take_tok made.place_of k.Semicolon [] d1 mid) (λ _ rest d2. Ok (made.value_of a, rest, d2))))
step_simple d ts = parse_steps n.Simple d ts ∙ if_second (same (look ts) k.Semicolon) _ _ _ (sym (fragment whole d ts (λ a mid d1. and_then (take_tok made.place_of k.Semicolon [] d1 mid) (λ _ rest d2. Ok (made.value_of a, rest, d2)))))

pub step_maybe_expression : (d : ℕ) (ts : List Lexeme) → parse limit n.MaybeExpression d ts ≡ (if among (look ts) expression_begins then and_then (steps_of whole d ts) (λ a rest d1. Ok (Some a.tree, rest, d1)) else Ok (None, ts, d))
step_maybe_expression d ts = parse_steps n.MaybeExpression d ts ∙ if_first (among (look ts) expression_begins) _ _ _ (sym (fragment whole d ts (λ a rest d1. Ok (Some a.tree, rest, d1))))

pub step_for_do : (d : ℕ) (ts : List Lexeme) → parse limit n.ForDo d ts ≡
    and_then (take_tok made.place_of k.For [] d ts) (λ place mid d1. and_then (steps_of head d1 mid) (λ h mid d2. and_then (parse limit n.Nested d2 mid) (λ body rest d3. Ok (made.stmt place (s.For h.first h.test h.next body), rest, d3))))
step_for_do d ts =
    parse_steps n.ForDo d ts ∙ then_ok (take_tok made.place_of k.For [] d ts) _ _ (λ place mid d1.
    sym (fragment head d1 mid (λ h mid d2. and_then (parse limit n.Nested d2 mid) (λ body rest d3. Ok (made.stmt place (s.For h.first h.test h.next body), rest, d3)))))

-- ---- the statements of a block

-- what reading statements gives where some were read before
unfoldable pub stmts_after : List Stmt → ℕ → List Lexeme → Out (List Stmt)
stmts_after xs d ts = through (λ more. xs ++ more) (parse limit n.Statements d ts)

pub stmts_begin : (d : ℕ) (ts : List Lexeme) → parse limit n.Statements d ts ≡ stmts_after [] d ts
unfolding stmts_after
stmts_begin d ts = from_none (parse limit n.Statements d ts)

local_turn : (d : ℕ) (ts : List Lexeme) → among (look ts) base_begins ≡ true → parse limit n.Statements d ts ≡ and_then (steps_of local_within d ts) (λ a mid d'. through (λ more. a ++ more) (parse limit n.Statements d' mid))
local_turn d ts e =
    let q : parse limit n.Statements d ts ≡ steps_with limit (parse limit) local_within d ts (λ a mid d'. through (λ more. a ++ more) (parse limit n.Statements d' mid)) = parse_steps n.Statements d ts ∙ rw e refl in
    q ∙ sym (fragment local_within d ts (λ a mid d'. through (λ more. a ++ more) (parse limit n.Statements d' mid)))

stmt_turn : (d : ℕ) (ts : List Lexeme) → among (look ts) base_begins ≡ false → among (look ts) statement_begins ≡ true → parse limit n.Statements d ts ≡ and_then (steps_of statement_within d ts) (λ a mid d'. through (λ more. a ∷ more) (parse limit n.Statements d' mid))
stmt_turn d ts e h =
    let q : parse limit n.Statements d ts ≡ steps_with limit (parse limit) statement_within d ts (λ a mid d'. through (λ more. a ∷ more) (parse limit n.Statements d' mid)) = parse_steps n.Statements d ts ∙ rw (e, h) refl in
    q ∙ sym (fragment statement_within d ts (λ a mid d'. through (λ more. a ∷ more) (parse limit n.Statements d' mid)))

listed : (o : Out Stmt) (m : ℕ → List Lexeme → Out (List Stmt)) → and_then o (λ a mid d'. through (λ more. a ∷ more) (m d' mid)) ≡ and_then (and_then o (λ a rest d'. Ok (a ∷ [], rest, d'))) (λ a mid d'. through (λ more. a ++ more) (m d' mid))
listed (Ok p) m = refl
listed (Err at) m = refl

entry_turn : (b : Bool) (d : ℕ) (ts : List Lexeme) → among (look ts) base_begins ≡ b → (b || among (look ts) statement_begins) ≡ true → parse limit n.Statements d ts ≡ and_then (entry d ts) (λ a mid d'. through (λ more. a ++ more) (parse limit n.Statements d' mid))
unfolding entry
entry_turn true d ts e h =
    let q : entry d ts ≡ steps_of local_within d ts = rw e refl in
    local_turn d ts e ∙ ap (λ o. and_then o (λ a mid d'. through (λ more. a ++ more) (parse limit n.Statements d' mid))) (sym q)
entry_turn false d ts e h =
    let q : entry d ts ≡ and_then (steps_of statement_within d ts) (λ a rest d'. Ok (a ∷ [], rest, d')) = rw e refl in
    stmt_turn d ts e h ∙ listed (steps_of statement_within d ts) (parse limit n.Statements) ∙ ap (λ o. and_then o (λ a mid d'. through (λ more. a ++ more) (parse limit n.Statements d' mid))) (sym q)

pub stmts_more : (xs : List Stmt) (d d' : ℕ) (ts mid : List Lexeme) (a : List Stmt) → (among (look ts) base_begins || among (look ts) statement_begins) ≡ true → entry d ts ≡ Ok (a, mid, d') → stmts_after xs d ts ≡ stmts_after (xs ++ a) d' mid
unfolding stmts_after
stmts_more xs d d' ts mid a e h = append_more {A = List Stmt} {B = Stmt} (λ a. a) xs (parse limit n.Statements d ts) (entry d ts) (parse limit n.Statements) a mid d' (entry_turn (among (look ts) base_begins) d ts refl e) h

pub stmts_stop : (xs : List Stmt) (d : ℕ) (ts : List Lexeme) (at : Halt) → (among (look ts) base_begins || among (look ts) statement_begins) ≡ true → entry d ts ≡ Err at → stmts_after xs d ts ≡ Err at
unfolding stmts_after
stmts_stop xs d ts at e h = append_stop {A = List Stmt} {B = Stmt} (λ a. a) xs (parse limit n.Statements d ts) (entry d ts) (parse limit n.Statements) at (entry_turn (among (look ts) base_begins) d ts refl e) h

neither_left : (a b : Bool) → (a || b) ≡ false → a ≡ false
neither_left false b e = refl
neither_left true b e = e

neither_right : (a b : Bool) → (a || b) ≡ false → b ≡ false
neither_right false b e = e
neither_right true b e = absurd (cc)

stmts_end : (d : ℕ) (ts : List Lexeme) → among (look ts) base_begins ≡ false → among (look ts) statement_begins ≡ false → parse limit n.Statements d ts ≡ Ok ([], ts, d)
stmts_end d ts e h = parse_steps n.Statements d ts ∙ rw (e, h) refl

pub stmts_none : (xs : List Stmt) (d : ℕ) (ts : List Lexeme) → (among (look ts) base_begins || among (look ts) statement_begins) ≡ false → stmts_after xs d ts ≡ Ok (xs, ts, d)
unfolding stmts_after
stmts_none xs d ts e = append_none xs (parse limit n.Statements d ts) ts d (stmts_end d ts (neither_left _ _ e) (neither_right _ _ e))

-- where a part stops, the whole stops there
pub stop_gives : {A B : Type 0} (o : Out A) (part : Out B) (f : Fault) (at : At) → Gives part (Err f) at → ((h : Halt) → part ≡ Err h → o ≡ Err h) → Gives o (Err f) at
stop_gives o part Unexpected at g k = k (unfit at.left) g
stop_gives o part Deep at g k = k (too_deep at.left) g
stop_gives o part OutOfMemory at g k = tt
