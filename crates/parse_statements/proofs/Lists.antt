-- What reading gives of each list, where some of it was read before.
use Rattle.std.proofs.Common.{◌≡◌, ℕ, Bool, true, false, List, [], ◌∷◌, ◌++◌, map, Ok, Err, refl, sym, ◌∙◌, ap}
use Rattle.mx_base.specs.declared.places.Place.{Place}
use Rattle.c_tokens.specs.declared.class.Class.TheVariants as k
use Rattle.c_tree.specs.declared.tree.Base.{Base}
use Rattle.c_tree.specs.declared.tree.Decl.{Decl}
use Rattle.c_tree.specs.declared.tree.Expr.{Expr}
use Rattle.c_tree.specs.declared.tree.Init.{Init}
use Rattle.c_tree.specs.declared.tree.Item.{Item}
use Rattle.c_tree.specs.declared.tree.ItemKind.TheVariants as it
use Rattle.c_tree.specs.declared.tree.Stmt.{Stmt}
use Rattle.c_tree.specs.declared.tree.StmtKind.TheVariants as s
use Rattle.c_grammar.specs.declared.parts.Declarator.{Declarator}
use Rattle.c_grammar.specs.declared.parts.InitDeclarator.{InitDeclarator}
use Rattle.c_grammar.specs.declared.parts.Typed.{Typed}
use Rattle.c_grammar.specs.Lexemes.{Lexeme, same, look, among}
use Rattle.c_grammar.specs.Nodes as made
use Rattle.c_grammar.specs.Rules as n
use Rattle.c_grammar.specs.Reading.{Out, Halt, and_then, take_tok, parse, steps_of, steps_with, limit, base_begins, begins}
use Rattle.c_grammar.proofs.Steps.{parse_steps, fragment}
use Rattle.parse_expressions.specs.Gives.{through}
use Rattle.parse_statements.specs.Names.{later_decl, later_global, later_local, decls_after, globals_after, locals_after}
use Rattle.parse_statements.specs.Pieces.{count, initialisers, members, local_within, statement_within}
use Rattle.parse_statements.proofs.Joined.{from_none, push_more, push_stop, push_none, append_more, append_stop, append_none}

-- an item after a comma
abbrev pub after_comma : {A : Type 0} → (ℕ → List Lexeme → Out A) → ℕ → List Lexeme → Out A
after_comma r d ts = and_then (take_tok made.place_of k.Comma [] d ts) (λ _ mid d1. r d1 mid)

pub comma_read : {A : Type 0} (r : ℕ → List Lexeme → Out A) (d d1 d2 : ℕ) (ts mid rest : List Lexeme) (p : Place) (a : A) → take_tok made.place_of k.Comma [] d ts ≡ Ok (p, mid, d1) → r d1 mid ≡ Ok (a, rest, d2) → after_comma r d ts ≡ Ok (a, rest, d2)
comma_read r d d1 d2 ts mid rest p a t e = ap (λ z. and_then z (λ _ mid d1. r d1 mid)) t ∙ e

pub comma_fails : {A : Type 0} (r : ℕ → List Lexeme → Out A) (d d1 : ℕ) (ts mid : List Lexeme) (p : Place) (at : Halt) → take_tok made.place_of k.Comma [] d ts ≡ Ok (p, mid, d1) → r d1 mid ≡ Err at → after_comma r d ts ≡ Err at
comma_fails r d d1 ts mid p at t e = ap (λ z. and_then z (λ _ mid d1. r d1 mid)) t ∙ e

pub comma_wants : {A : Type 0} (r : ℕ → List Lexeme → Out A) (d : ℕ) (ts : List Lexeme) (at : Halt) → take_tok made.place_of k.Comma [] d ts ≡ Err at → after_comma r d ts ≡ Err at
comma_wants r d ts at t = ap (λ z. and_then z (λ _ mid d1. r d1 mid)) t

pub comma_then : {A B : Type 0} (r : ℕ → List Lexeme → Out A) (d : ℕ) (ts : List Lexeme) (f : A → List Lexeme → ℕ → Out B) → and_then (take_tok made.place_of k.Comma [] d ts) (λ _ mid d1. and_then (r d1 mid) f) ≡ and_then (after_comma r d ts) f
comma_then {A} {B} r d ts f = through_take (take_tok made.place_of k.Comma [] d ts)
  where
    through_take : (o : Out Place) → and_then o (λ _ mid d1. and_then (r d1 mid) f) ≡ and_then (and_then o (λ _ mid d1. r d1 mid)) f
    through_take (Ok p) = refl
    through_take (Err at) = refl

-- ---- decls

decls_turn : (d : ℕ) (ts : List Lexeme) → same (look ts) k.Comma ≡ true → parse limit n.MoreDeclared d ts ≡ and_then (after_comma (parse limit n.Declared) d ts) (λ a mid d'. through (λ more. a ∷ more) (parse limit n.MoreDeclared d' mid))
decls_turn d ts e =
    let q : parse limit n.MoreDeclared d ts ≡ and_then (take_tok made.place_of k.Comma [] d ts) (λ _ mid d1. and_then (parse limit n.Declared d1 mid) (λ a mid d'. through (λ more. a ∷ more) (parse limit n.MoreDeclared d' mid))) = parse_steps n.MoreDeclared d ts ∙ rw e refl in
    q ∙ comma_then (parse limit n.Declared) d ts (λ a mid d'. through (λ more. a ∷ more) (parse limit n.MoreDeclared d' mid))

decls_end : (d : ℕ) (ts : List Lexeme) → same (look ts) k.Comma ≡ false → parse limit n.MoreDeclared d ts ≡ Ok ([], ts, d)
decls_end d ts e = parse_steps n.MoreDeclared d ts ∙ rw e refl

pub decls_begin : (typed : Typed) (first : Declarator) (d : ℕ) (ts : List Lexeme) → through (λ more. made.decls_of typed first more) (parse limit n.MoreDeclared d ts) ≡ decls_after typed.base (made.decl_from typed.start typed.base first ∷ []) d ts
unfolding decls_after later_decl
decls_begin typed first d ts = refl

pub decls_more : (base : Base) (xs : List Decl) (d d1 d2 : ℕ) (ts mid rest : List Lexeme) (p : Place) (a : Declarator) → same (look ts) k.Comma ≡ true → take_tok made.place_of k.Comma [] d ts ≡ Ok (p, mid, d1) → parse limit n.Declared d1 mid ≡ Ok (a, rest, d2)
    → decls_after base xs d ts ≡ decls_after base (xs ++ later_decl base a ∷ []) d2 rest
unfolding decls_after
decls_more base xs d d1 d2 ts mid rest p a e t h =
    push_more {A = Declarator} {B = Decl} (λ a. later_decl base a) (λ more. map (later_decl base) more) (λ a more. refl) xs (parse limit n.MoreDeclared d ts) (after_comma (parse limit n.Declared) d ts) (parse limit n.MoreDeclared) a rest d2 (decls_turn d ts e) (comma_read (parse limit n.Declared) d d1 d2 ts mid rest p a t h)

pub decls_stop : (base : Base) (xs : List Decl) (d d1 : ℕ) (ts mid : List Lexeme) (p : Place) (at : Halt) → same (look ts) k.Comma ≡ true → take_tok made.place_of k.Comma [] d ts ≡ Ok (p, mid, d1) → parse limit n.Declared d1 mid ≡ Err at → decls_after base xs d ts ≡ Err at
unfolding decls_after
decls_stop base xs d d1 ts mid p at e t h =
    push_stop {A = Declarator} {B = Decl} (λ more. map (later_decl base) more) xs (parse limit n.MoreDeclared d ts) (after_comma (parse limit n.Declared) d ts) (parse limit n.MoreDeclared) at (decls_turn d ts e) (comma_fails (parse limit n.Declared) d d1 ts mid p at t h)

pub decls_comma_stop : (base : Base) (xs : List Decl) (d : ℕ) (ts : List Lexeme) (at : Halt) → same (look ts) k.Comma ≡ true → take_tok made.place_of k.Comma [] d ts ≡ Err at → decls_after base xs d ts ≡ Err at
unfolding decls_after
decls_comma_stop base xs d ts at e t =
    push_stop {A = Declarator} {B = Decl} (λ more. map (later_decl base) more) xs (parse limit n.MoreDeclared d ts) (after_comma (parse limit n.Declared) d ts) (parse limit n.MoreDeclared) at (decls_turn d ts e) (comma_wants (parse limit n.Declared) d ts at t)

pub decls_none : (base : Base) (xs : List Decl) (d : ℕ) (ts : List Lexeme) → same (look ts) k.Comma ≡ false → decls_after base xs d ts ≡ Ok (xs, ts, d)
unfolding decls_after
decls_none base xs d ts e = push_none {A = Declarator} {B = Decl} (λ more. map (later_decl base) more) xs (parse limit n.MoreDeclared d ts) ts d (decls_end d ts e) refl

-- ---- globals

globals_turn : (d : ℕ) (ts : List Lexeme) → same (look ts) k.Comma ≡ true → parse limit n.MoreInitialised d ts ≡ and_then (after_comma (parse limit n.Initialised) d ts) (λ a mid d'. through (λ more. a ∷ more) (parse limit n.MoreInitialised d' mid))
globals_turn d ts e =
    let q : parse limit n.MoreInitialised d ts ≡ and_then (take_tok made.place_of k.Comma [] d ts) (λ _ mid d1. and_then (parse limit n.Initialised d1 mid) (λ a mid d'. through (λ more. a ∷ more) (parse limit n.MoreInitialised d' mid))) = parse_steps n.MoreInitialised d ts ∙ rw e refl in
    q ∙ comma_then (parse limit n.Initialised) d ts (λ a mid d'. through (λ more. a ∷ more) (parse limit n.MoreInitialised d' mid))

globals_end : (d : ℕ) (ts : List Lexeme) → same (look ts) k.Comma ≡ false → parse limit n.MoreInitialised d ts ≡ Ok ([], ts, d)
globals_end d ts e = parse_steps n.MoreInitialised d ts ∙ rw e refl

pub globals_begin : (start : Place) (external : Bool) (typed : Typed) (first : InitDeclarator) (d : ℕ) (ts : List Lexeme) → through (λ more. made.globals_of start external typed first more) (parse limit n.MoreInitialised d ts) ≡ globals_after external typed.base (made.item start (it.Var external (made.decl_from typed.start typed.base first.declarator) first.init) ∷ []) d ts
unfolding globals_after later_global
globals_begin start external typed first d ts = refl

pub globals_more : (external : Bool) (base : Base) (xs : List Item) (d d1 d2 : ℕ) (ts mid rest : List Lexeme) (p : Place) (a : InitDeclarator) → same (look ts) k.Comma ≡ true → take_tok made.place_of k.Comma [] d ts ≡ Ok (p, mid, d1) → parse limit n.Initialised d1 mid ≡ Ok (a, rest, d2)
    → globals_after external base xs d ts ≡ globals_after external base (xs ++ later_global external base a ∷ []) d2 rest
unfolding globals_after
globals_more external base xs d d1 d2 ts mid rest p a e t h =
    push_more {A = InitDeclarator} {B = Item} (λ a. later_global external base a) (λ more. map (later_global external base) more) (λ a more. refl) xs (parse limit n.MoreInitialised d ts) (after_comma (parse limit n.Initialised) d ts) (parse limit n.MoreInitialised) a rest d2 (globals_turn d ts e) (comma_read (parse limit n.Initialised) d d1 d2 ts mid rest p a t h)

pub globals_stop : (external : Bool) (base : Base) (xs : List Item) (d d1 : ℕ) (ts mid : List Lexeme) (p : Place) (at : Halt) → same (look ts) k.Comma ≡ true → take_tok made.place_of k.Comma [] d ts ≡ Ok (p, mid, d1) → parse limit n.Initialised d1 mid ≡ Err at → globals_after external base xs d ts ≡ Err at
unfolding globals_after
globals_stop external base xs d d1 ts mid p at e t h =
    push_stop {A = InitDeclarator} {B = Item} (λ more. map (later_global external base) more) xs (parse limit n.MoreInitialised d ts) (after_comma (parse limit n.Initialised) d ts) (parse limit n.MoreInitialised) at (globals_turn d ts e) (comma_fails (parse limit n.Initialised) d d1 ts mid p at t h)

pub globals_comma_stop : (external : Bool) (base : Base) (xs : List Item) (d : ℕ) (ts : List Lexeme) (at : Halt) → same (look ts) k.Comma ≡ true → take_tok made.place_of k.Comma [] d ts ≡ Err at → globals_after external base xs d ts ≡ Err at
unfolding globals_after
globals_comma_stop external base xs d ts at e t =
    push_stop {A = InitDeclarator} {B = Item} (λ more. map (later_global external base) more) xs (parse limit n.MoreInitialised d ts) (after_comma (parse limit n.Initialised) d ts) (parse limit n.MoreInitialised) at (globals_turn d ts e) (comma_wants (parse limit n.Initialised) d ts at t)

pub globals_none : (external : Bool) (base : Base) (xs : List Item) (d : ℕ) (ts : List Lexeme) → same (look ts) k.Comma ≡ false → globals_after external base xs d ts ≡ Ok (xs, ts, d)
unfolding globals_after
globals_none external base xs d ts e = push_none {A = InitDeclarator} {B = Item} (λ more. map (later_global external base) more) xs (parse limit n.MoreInitialised d ts) ts d (globals_end d ts e) refl

-- ---- locals

locals_turn : (d : ℕ) (ts : List Lexeme) → same (look ts) k.Comma ≡ true → parse limit n.MoreInitialised d ts ≡ and_then (after_comma (parse limit n.Initialised) d ts) (λ a mid d'. through (λ more. a ∷ more) (parse limit n.MoreInitialised d' mid))
locals_turn d ts e =
    let q : parse limit n.MoreInitialised d ts ≡ and_then (take_tok made.place_of k.Comma [] d ts) (λ _ mid d1. and_then (parse limit n.Initialised d1 mid) (λ a mid d'. through (λ more. a ∷ more) (parse limit n.MoreInitialised d' mid))) = parse_steps n.MoreInitialised d ts ∙ rw e refl in
    q ∙ comma_then (parse limit n.Initialised) d ts (λ a mid d'. through (λ more. a ∷ more) (parse limit n.MoreInitialised d' mid))

locals_end : (d : ℕ) (ts : List Lexeme) → same (look ts) k.Comma ≡ false → parse limit n.MoreInitialised d ts ≡ Ok ([], ts, d)
locals_end d ts e = parse_steps n.MoreInitialised d ts ∙ rw e refl

pub locals_begin : (typed : Typed) (first : InitDeclarator) (d : ℕ) (ts : List Lexeme) → through (λ more. made.locals_of typed first more) (parse limit n.MoreInitialised d ts) ≡ locals_after typed.base (made.stmt typed.start (s.Local (made.decl_from typed.start typed.base first.declarator) first.init) ∷ []) d ts
unfolding locals_after later_local
locals_begin typed first d ts = refl

pub locals_more : (base : Base) (xs : List Stmt) (d d1 d2 : ℕ) (ts mid rest : List Lexeme) (p : Place) (a : InitDeclarator) → same (look ts) k.Comma ≡ true → take_tok made.place_of k.Comma [] d ts ≡ Ok (p, mid, d1) → parse limit n.Initialised d1 mid ≡ Ok (a, rest, d2)
    → locals_after base xs d ts ≡ locals_after base (xs ++ later_local base a ∷ []) d2 rest
unfolding locals_after
locals_more base xs d d1 d2 ts mid rest p a e t h =
    push_more {A = InitDeclarator} {B = Stmt} (λ a. later_local base a) (λ more. map (later_local base) more) (λ a more. refl) xs (parse limit n.MoreInitialised d ts) (after_comma (parse limit n.Initialised) d ts) (parse limit n.MoreInitialised) a rest d2 (locals_turn d ts e) (comma_read (parse limit n.Initialised) d d1 d2 ts mid rest p a t h)

pub locals_stop : (base : Base) (xs : List Stmt) (d d1 : ℕ) (ts mid : List Lexeme) (p : Place) (at : Halt) → same (look ts) k.Comma ≡ true → take_tok made.place_of k.Comma [] d ts ≡ Ok (p, mid, d1) → parse limit n.Initialised d1 mid ≡ Err at → locals_after base xs d ts ≡ Err at
unfolding locals_after
locals_stop base xs d d1 ts mid p at e t h =
    push_stop {A = InitDeclarator} {B = Stmt} (λ more. map (later_local base) more) xs (parse limit n.MoreInitialised d ts) (after_comma (parse limit n.Initialised) d ts) (parse limit n.MoreInitialised) at (locals_turn d ts e) (comma_fails (parse limit n.Initialised) d d1 ts mid p at t h)

pub locals_comma_stop : (base : Base) (xs : List Stmt) (d : ℕ) (ts : List Lexeme) (at : Halt) → same (look ts) k.Comma ≡ true → take_tok made.place_of k.Comma [] d ts ≡ Err at → locals_after base xs d ts ≡ Err at
unfolding locals_after
locals_comma_stop base xs d ts at e t =
    push_stop {A = InitDeclarator} {B = Stmt} (λ more. map (later_local base) more) xs (parse limit n.MoreInitialised d ts) (after_comma (parse limit n.Initialised) d ts) (parse limit n.MoreInitialised) at (locals_turn d ts e) (comma_wants (parse limit n.Initialised) d ts at t)

pub locals_none : (base : Base) (xs : List Stmt) (d : ℕ) (ts : List Lexeme) → same (look ts) k.Comma ≡ false → locals_after base xs d ts ≡ Ok (xs, ts, d)
unfolding locals_after
locals_none base xs d ts e = push_none {A = InitDeclarator} {B = Stmt} (λ more. map (later_local base) more) xs (parse limit n.MoreInitialised d ts) ts d (locals_end d ts e) refl

-- ---- inits

inits_turn : (d : ℕ) (ts : List Lexeme) → same (look ts) k.Comma ≡ true → parse limit n.MoreInitialisers d ts ≡ and_then (after_comma (parse limit n.Initialiser) d ts) (λ a mid d'. through (λ more. a ∷ more) (parse limit n.MoreInitialisers d' mid))
inits_turn d ts e =
    let q : parse limit n.MoreInitialisers d ts ≡ and_then (take_tok made.place_of k.Comma [] d ts) (λ _ mid d1. and_then (parse limit n.Initialiser d1 mid) (λ a mid d'. through (λ more. a ∷ more) (parse limit n.MoreInitialisers d' mid))) = parse_steps n.MoreInitialisers d ts ∙ rw e refl in
    q ∙ comma_then (parse limit n.Initialiser) d ts (λ a mid d'. through (λ more. a ∷ more) (parse limit n.MoreInitialisers d' mid))

inits_end : (d : ℕ) (ts : List Lexeme) → same (look ts) k.Comma ≡ false → parse limit n.MoreInitialisers d ts ≡ Ok ([], ts, d)
inits_end d ts e = parse_steps n.MoreInitialisers d ts ∙ rw e refl

unfoldable pub inits_after : List Init → ℕ → List Lexeme → Out (List Init)
inits_after xs d ts = through (λ more. xs ++ more) (parse limit n.MoreInitialisers d ts)

inits_whole : (d : ℕ) (ts : List Lexeme) → steps_of initialisers d ts ≡ and_then (parse limit n.Initialiser d ts) (λ a mid d'. through (λ more. a ∷ more) (parse limit n.MoreInitialisers d' mid))
inits_whole d ts = refl

pub inits_begin : (d d' : ℕ) (ts mid : List Lexeme) (a : Init) → parse limit n.Initialiser d ts ≡ Ok (a, mid, d') → steps_of initialisers d ts ≡ inits_after (a ∷ []) d' mid
unfolding inits_after
inits_begin d d' ts mid a h = inits_whole d ts ∙ ap (λ o. and_then o (λ a mid d'. through (λ more. a ∷ more) (parse limit n.MoreInitialisers d' mid))) h

pub inits_begin_stop : (d : ℕ) (ts : List Lexeme) (at : Halt) → parse limit n.Initialiser d ts ≡ Err at → steps_of initialisers d ts ≡ Err at
inits_begin_stop d ts at h = inits_whole d ts ∙ ap (λ o. and_then o (λ a mid d'. through (λ more. a ∷ more) (parse limit n.MoreInitialisers d' mid))) h

pub inits_more : (xs : List Init) (d d1 d2 : ℕ) (ts mid rest : List Lexeme) (p : Place) (a : Init) → same (look ts) k.Comma ≡ true → take_tok made.place_of k.Comma [] d ts ≡ Ok (p, mid, d1) → parse limit n.Initialiser d1 mid ≡ Ok (a, rest, d2)
    → inits_after xs d ts ≡ inits_after (xs ++ a ∷ []) d2 rest
unfolding inits_after
inits_more xs d d1 d2 ts mid rest p a e t h =
    push_more {A = Init} {B = Init} (λ a. a) (λ more. more) (λ a more. refl) xs (parse limit n.MoreInitialisers d ts) (after_comma (parse limit n.Initialiser) d ts) (parse limit n.MoreInitialisers) a rest d2 (inits_turn d ts e) (comma_read (parse limit n.Initialiser) d d1 d2 ts mid rest p a t h)

pub inits_stop : (xs : List Init) (d d1 : ℕ) (ts mid : List Lexeme) (p : Place) (at : Halt) → same (look ts) k.Comma ≡ true → take_tok made.place_of k.Comma [] d ts ≡ Ok (p, mid, d1) → parse limit n.Initialiser d1 mid ≡ Err at → inits_after xs d ts ≡ Err at
unfolding inits_after
inits_stop xs d d1 ts mid p at e t h =
    push_stop {A = Init} {B = Init} (λ more. more) xs (parse limit n.MoreInitialisers d ts) (after_comma (parse limit n.Initialiser) d ts) (parse limit n.MoreInitialisers) at (inits_turn d ts e) (comma_fails (parse limit n.Initialiser) d d1 ts mid p at t h)

pub inits_comma_stop : (xs : List Init) (d : ℕ) (ts : List Lexeme) (at : Halt) → same (look ts) k.Comma ≡ true → take_tok made.place_of k.Comma [] d ts ≡ Err at → inits_after xs d ts ≡ Err at
unfolding inits_after
inits_comma_stop xs d ts at e t =
    push_stop {A = Init} {B = Init} (λ more. more) xs (parse limit n.MoreInitialisers d ts) (after_comma (parse limit n.Initialiser) d ts) (parse limit n.MoreInitialisers) at (inits_turn d ts e) (comma_wants (parse limit n.Initialiser) d ts at t)

pub inits_none : (xs : List Init) (d : ℕ) (ts : List Lexeme) → same (look ts) k.Comma ≡ false → inits_after xs d ts ≡ Ok (xs, ts, d)
unfolding inits_after
inits_none xs d ts e = push_none {A = Init} {B = Init} (λ more. more) xs (parse limit n.MoreInitialisers d ts) ts d (inits_end d ts e) refl

-- ---- counts

counts_turn : (d : ℕ) (ts : List Lexeme) → same (look ts) k.OpenBracket ≡ true → parse limit n.Counts d ts ≡ and_then (steps_of count d ts) (λ a mid d'. through (λ more. a ∷ more) (parse limit n.Counts d' mid))
counts_turn d ts e =
    let q : parse limit n.Counts d ts ≡ steps_with limit (parse limit) count d ts (λ a mid d'. through (λ more. a ∷ more) (parse limit n.Counts d' mid)) = parse_steps n.Counts d ts ∙ rw e refl in
    q ∙ sym (fragment count d ts (λ a mid d'. through (λ more. a ∷ more) (parse limit n.Counts d' mid)))

unfoldable pub counts_after : List Expr → ℕ → List Lexeme → Out (List Expr)
counts_after xs d ts = through (λ more. xs ++ more) (parse limit n.Counts d ts)

pub counts_begin : (d : ℕ) (ts : List Lexeme) → parse limit n.Counts d ts ≡ counts_after [] d ts
unfolding counts_after
counts_begin d ts = from_none (parse limit n.Counts d ts)

pub counts_more : (xs : List Expr) (d d' : ℕ) (ts mid : List Lexeme) (a : Expr) → same (look ts) k.OpenBracket ≡ true → steps_of count d ts ≡ Ok (a, mid, d') → counts_after xs d ts ≡ counts_after (xs ++ a ∷ []) d' mid
unfolding counts_after
counts_more xs d d' ts mid a e h = push_more {A = Expr} {B = Expr} (λ a. a) (λ more. more) (λ a more. refl) xs (parse limit n.Counts d ts) (steps_of count d ts) (parse limit n.Counts) a mid d' (counts_turn d ts e) h

pub counts_stop : (xs : List Expr) (d : ℕ) (ts : List Lexeme) (at : Halt) → same (look ts) k.OpenBracket ≡ true → steps_of count d ts ≡ Err at → counts_after xs d ts ≡ Err at
unfolding counts_after
counts_stop xs d ts at e h = push_stop {A = Expr} {B = Expr} (λ more. more) xs (parse limit n.Counts d ts) (steps_of count d ts) (parse limit n.Counts) at (counts_turn d ts e) h

counts_end : (d : ℕ) (ts : List Lexeme) → same (look ts) k.OpenBracket ≡ false → parse limit n.Counts d ts ≡ Ok ([], ts, d)
counts_end d ts e = parse_steps n.Counts d ts ∙ rw e refl

pub counts_none : (xs : List Expr) (d : ℕ) (ts : List Lexeme) → same (look ts) k.OpenBracket ≡ false → counts_after xs d ts ≡ Ok (xs, ts, d)
unfolding counts_after
counts_none xs d ts e = push_none {A = Expr} {B = Expr} (λ more. more) xs (parse limit n.Counts d ts) ts d (counts_end d ts e) refl

-- ---- members

members_turn : (d : ℕ) (ts : List Lexeme) → among (look ts) base_begins ≡ true → parse limit n.Members d ts ≡ and_then (parse limit n.Member d ts) (λ a mid d'. through (λ more. a ++ more) (parse limit n.Members d' mid))
members_turn d ts e = parse_steps n.Members d ts ∙ rw e refl

unfoldable pub members_after : List Decl → ℕ → List Lexeme → Out (List Decl)
members_after xs d ts = through (λ more. xs ++ more) (parse limit n.Members d ts)

members_whole : (d : ℕ) (ts : List Lexeme) → steps_of members d ts ≡ and_then (parse limit n.Member d ts) (λ a mid d'. through (λ more. a ++ more) (parse limit n.Members d' mid))
members_whole d ts = refl

pub members_begin : (d d' : ℕ) (ts mid : List Lexeme) (a : List Decl) → parse limit n.Member d ts ≡ Ok (a, mid, d') → steps_of members d ts ≡ members_after a d' mid
unfolding members_after
members_begin d d' ts mid a h = members_whole d ts ∙ ap (λ o. and_then o (λ a mid d'. through (λ more. a ++ more) (parse limit n.Members d' mid))) h

pub members_begin_stop : (d : ℕ) (ts : List Lexeme) (at : Halt) → parse limit n.Member d ts ≡ Err at → steps_of members d ts ≡ Err at
members_begin_stop d ts at h = members_whole d ts ∙ ap (λ o. and_then o (λ a mid d'. through (λ more. a ++ more) (parse limit n.Members d' mid))) h

pub members_more : (xs : List Decl) (d d' : ℕ) (ts mid : List Lexeme) (a : List Decl) → among (look ts) base_begins ≡ true → parse limit n.Member d ts ≡ Ok (a, mid, d') → members_after xs d ts ≡ members_after (xs ++ a) d' mid
unfolding members_after
members_more xs d d' ts mid a e h = append_more {A = List Decl} {B = Decl} (λ a. a) xs (parse limit n.Members d ts) (parse limit n.Member d ts) (parse limit n.Members) a mid d' (members_turn d ts e) h

pub members_stop : (xs : List Decl) (d : ℕ) (ts : List Lexeme) (at : Halt) → among (look ts) base_begins ≡ true → parse limit n.Member d ts ≡ Err at → members_after xs d ts ≡ Err at
unfolding members_after
members_stop xs d ts at e h = append_stop {A = List Decl} {B = Decl} (λ a. a) xs (parse limit n.Members d ts) (parse limit n.Member d ts) (parse limit n.Members) at (members_turn d ts e) h

members_end : (d : ℕ) (ts : List Lexeme) → among (look ts) base_begins ≡ false → parse limit n.Members d ts ≡ Ok ([], ts, d)
members_end d ts e = parse_steps n.Members d ts ∙ rw e refl

pub members_none : (xs : List Decl) (d : ℕ) (ts : List Lexeme) → among (look ts) base_begins ≡ false → members_after xs d ts ≡ Ok (xs, ts, d)
unfolding members_after
members_none xs d ts e = append_none xs (parse limit n.Members d ts) ts d (members_end d ts e)
