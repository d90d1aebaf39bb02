-- The rules of what stands at the outermost level, as equations of what reading them gives.
use Rattle.std.proofs.Common.{◌≡◌, ℕ, ◌+◌, Bool, true, false, if◌then◌else◌, List, [], ◌∷◌, ◌++◌, Ok, Err, Option, Some, None, refl, sym, ◌∙◌, ap}
use Rattle.mx_base.specs.declared.places.Place.{Place}
use Rattle.c_tokens.specs.declared.class.Class.TheVariants as k
use Rattle.c_tree.specs.declared.tree.Base.{Base}
use Rattle.c_tree.specs.declared.tree.Base.TheVariants as b
use Rattle.c_tree.specs.declared.tree.Decl.{Decl}
use Rattle.c_tree.specs.declared.tree.Expr.{Expr}
use Rattle.c_tree.specs.declared.tree.Init.{Init}
use Rattle.c_tree.specs.declared.tree.Item.{Item}
use Rattle.c_tree.specs.declared.tree.Stmt.{Stmt}
use Rattle.c_grammar.specs.declared.parts.InitDeclarator.{InitDeclarator}
use Rattle.c_grammar.specs.declared.parts.Named.{Named}
use Rattle.c_grammar.specs.declared.parts.Typed.{Typed}
use Rattle.c_grammar.specs.Lexemes.{Lexeme, same, look, among}
use Rattle.c_grammar.specs.Nodes as made
use Rattle.c_grammar.specs.Rules as n
use Rattle.c_grammar.specs.Reading.{Out, Halt, and_then, take_tok, parse, steps, steps_of, steps_with, limit, begins}
use Rattle.c_grammar.proofs.Steps.{parse_steps, fragment, then_ok, then_done}
use Rattle.parse_expressions.specs.Gives.{through}
use Rattle.c_reader.specs.Pieces.{named_parameter, named_parameters, enclosed_parameters, function, braced_members, ended_members, named_item, globals, external}
use Rattle.parse_statements.proofs.Lists.{globals_begin, after_comma, comma_read, comma_fails, comma_wants, comma_then}
use Rattle.parse_statements.proofs.Joined.{from_none, push_more, push_stop, push_none, append_more, append_stop, append_none}

if_first : {A : Type 0} (b : Bool) (x y z : A) → x ≡ y → (if b then x else z) ≡ (if b then y else z)
if_first b x y z e = ap (λ w. if b then w else z) e

if_second : {A : Type 0} (b : Bool) (x y z : A) → x ≡ y → (if b then z else x) ≡ (if b then z else y)
if_second b x y z e = ap (λ w. if b then z else w) e

then_through : {A B C : Type 0} (f : A → B) (o : Out A) (g : B → List Lexeme → ℕ → Out C) → and_then (through f o) g ≡ and_then o (λ a mid d. g (f a) mid d)
then_through f (Ok p) g = refl
then_through f (Err at) g = refl

then_push : {A B C : Type 0} (f : B → C) (o : Out A) (g : A → List Lexeme → ℕ → Out B) → through f (and_then o g) ≡ and_then o (λ a mid d. through f (g a mid d))
then_push f (Ok p) g = refl
then_push f (Err at) g = refl

through_twice : {A B C : Type 0} (f : B → C) (g : A → B) (o : Out A) → through f (through g o) ≡ through (λ a. f (g a)) o
through_twice f g (Ok p) = refl
through_twice f g (Err at) = refl

through_if : {A B : Type 0} (f : A → B) (b : Bool) (o o' : Out A) → through f (if b then o else o') ≡ (if b then through f o else through f o')
through_if f true o o' = refl
through_if f false o o' = refl

last_push : {A B C : Type 0} (f : B → C) (g : A → B) (o : Out A) (t : ℕ → List Lexeme → Out Place) → through f (and_then o (λ a mid d. and_then (t d mid) (λ _ rest e. Ok (g a, rest, e)))) ≡ and_then (through (λ a. f (g a)) o) (λ all mid d. and_then (t d mid) (λ _ rest e. Ok (all, rest, e)))
last_push f g (Err at) t = refl
last_push f g (Ok p) t = through_twice f (λ _. g p.0) (t p.2 p.1)

-- ---- parameters

pub step_parameter : (d : ℕ) (ts : List Lexeme) → parse limit n.Parameter d ts ≡ and_then (parse limit n.AnyBase d ts) (λ typed mid d1. and_then (steps_of (named_parameter typed) d1 mid) (λ v rest d2. Ok (v, rest, d2)))
step_parameter d ts = parse_steps n.Parameter d ts ∙ then_ok (parse limit n.AnyBase d ts) _ _ (λ typed mid d1. sym (fragment (named_parameter typed) d1 mid (λ v rest d2. Ok (v, rest, d2))))

pub step_after_void : (d : ℕ) (ts : List Lexeme) → parse limit n.AfterVoid d ts ≡ steps n.AfterVoid d ts
step_after_void d ts = parse_steps n.AfterVoid d ts

pub step_parameters : (d : ℕ) (ts : List Lexeme) → parse limit n.Parameters d ts ≡ (if same (look ts) k.Void then and_then (take_tok made.place_of k.Void [] d ts) (λ start mid d1. and_then (parse limit n.AfterVoid d1 mid) (λ f rest d2. Ok (f start, rest, d2)))
    else and_then (parse limit n.ObjectBase d ts) (λ typed mid d1. and_then (steps_of (named_parameters typed) d1 mid) (λ v rest d2. Ok (v, rest, d2))))
step_parameters d ts = parse_steps n.Parameters d ts ∙ if_second (same (look ts) k.Void) _ _ _ (then_ok (parse limit n.ObjectBase d ts) _ _ (λ typed mid d1. sym (fragment (named_parameters typed) d1 mid (λ v rest d2. Ok (v, rest, d2)))))

params_turn : (d : ℕ) (ts : List Lexeme) → same (look ts) k.Comma ≡ true → parse limit n.MoreParameters d ts ≡ and_then (after_comma (parse limit n.Parameter) d ts) (λ a mid d'. through (λ more. a ∷ more) (parse limit n.MoreParameters d' mid))
params_turn d ts e =
    let q : parse limit n.MoreParameters d ts ≡ and_then (take_tok made.place_of k.Comma [] d ts) (λ _ mid d1. and_then (parse limit n.Parameter d1 mid) (λ a mid d'. through (λ more. a ∷ more) (parse limit n.MoreParameters d' mid))) = parse_steps n.MoreParameters d ts ∙ rw e refl in
    q ∙ comma_then (parse limit n.Parameter) d ts (λ a mid d'. through (λ more. a ∷ more) (parse limit n.MoreParameters d' mid))

params_end : (d : ℕ) (ts : List Lexeme) → same (look ts) k.Comma ≡ false → parse limit n.MoreParameters d ts ≡ Ok ([], ts, d)
params_end d ts e = parse_steps n.MoreParameters d ts ∙ rw e refl

-- what reading parameters gives where some were read before
unfoldable pub params_after : List Decl → ℕ → List Lexeme → Out (List Decl)
params_after xs d ts = through (λ more. xs ++ more) (parse limit n.MoreParameters d ts)

params_whole : (typed : Typed) (d : ℕ) (ts : List Lexeme) → steps_of (named_parameters typed) d ts ≡ and_then (steps_of (named_parameter typed) d ts) (λ a mid d'. through (λ more. a ∷ more) (parse limit n.MoreParameters d' mid))
params_whole typed d ts = sym (fragment (named_parameter typed) d ts (λ a mid d'. through (λ more. a ∷ more) (parse limit n.MoreParameters d' mid)))

pub params_begin : (typed : Typed) (d d' : ℕ) (ts mid : List Lexeme) (a : Decl) → steps_of (named_parameter typed) d ts ≡ Ok (a, mid, d') → steps_of (named_parameters typed) d ts ≡ params_after (a ∷ []) d' mid
unfolding params_after
params_begin typed d d' ts mid a h = params_whole typed d ts ∙ ap (λ o. and_then o (λ a mid d'. through (λ more. a ∷ more) (parse limit n.MoreParameters d' mid))) h

pub params_begin_stop : (typed : Typed) (d : ℕ) (ts : List Lexeme) (at : Halt) → steps_of (named_parameter typed) d ts ≡ Err at → steps_of (named_parameters typed) d ts ≡ Err at
params_begin_stop typed d ts at h = params_whole typed d ts ∙ ap (λ o. and_then o (λ a mid d'. through (λ more. a ∷ more) (parse limit n.MoreParameters d' mid))) h

pub params_more : (xs : List Decl) (d d1 d2 : ℕ) (ts mid rest : List Lexeme) (p : Place) (a : Decl) → same (look ts) k.Comma ≡ true → take_tok made.place_of k.Comma [] d ts ≡ Ok (p, mid, d1) → parse limit n.Parameter d1 mid ≡ Ok (a, rest, d2)
    → params_after xs d ts ≡ params_after (xs ++ a ∷ []) d2 rest
unfolding params_after
params_more xs d d1 d2 ts mid rest p a e t h =
    push_more {A = Decl} {B = Decl} (λ a. a) (λ more. more) (λ a more. refl) xs (parse limit n.MoreParameters d ts) (after_comma (parse limit n.Parameter) d ts) (parse limit n.MoreParameters) a rest d2 (params_turn d ts e) (comma_read (parse limit n.Parameter) d d1 d2 ts mid rest p a t h)

pub params_stop : (xs : List Decl) (d d1 : ℕ) (ts mid : List Lexeme) (p : Place) (at : Halt) → same (look ts) k.Comma ≡ true → take_tok made.place_of k.Comma [] d ts ≡ Ok (p, mid, d1) → parse limit n.Parameter d1 mid ≡ Err at → params_after xs d ts ≡ Err at
unfolding params_after
params_stop xs d d1 ts mid p at e t h = push_stop {A = Decl} {B = Decl} (λ more. more) xs (parse limit n.MoreParameters d ts) (after_comma (parse limit n.Parameter) d ts) (parse limit n.MoreParameters) at (params_turn d ts e) (comma_fails (parse limit n.Parameter) d d1 ts mid p at t h)

pub params_comma_stop : (xs : List Decl) (d : ℕ) (ts : List Lexeme) (at : Halt) → same (look ts) k.Comma ≡ true → take_tok made.place_of k.Comma [] d ts ≡ Err at → params_after xs d ts ≡ Err at
unfolding params_after
params_comma_stop xs d ts at e t = push_stop {A = Decl} {B = Decl} (λ more. more) xs (parse limit n.MoreParameters d ts) (after_comma (parse limit n.Parameter) d ts) (parse limit n.MoreParameters) at (params_turn d ts e) (comma_wants (parse limit n.Parameter) d ts at t)

pub params_none : (xs : List Decl) (d : ℕ) (ts : List Lexeme) → same (look ts) k.Comma ≡ false → params_after xs d ts ≡ Ok (xs, ts, d)
unfolding params_after
params_none xs d ts e = push_none {A = Decl} {B = Decl} (λ more. more) xs (parse limit n.MoreParameters d ts) ts d (params_end d ts e) refl

-- ---- items

pub step_ending : (d : ℕ) (ts : List Lexeme) → parse limit n.Ending d ts ≡ steps n.Ending d ts
step_ending d ts = parse_steps n.Ending d ts

-- a function's parameters and body
pub step_function : (d : ℕ) (ts : List Lexeme) → steps_of function d ts ≡ and_then (steps_of enclosed_parameters d ts) (λ params mid d1. and_then (parse limit n.Ending d1 mid) (λ body rest d2. Ok ((params, body), rest, d2)))
step_function d ts = sym (fragment enclosed_parameters d ts (λ params mid d1. and_then (parse limit n.Ending d1 mid) (λ body rest d2. Ok ((params, body), rest, d2))))

pub step_after_name : (d : ℕ) (ts : List Lexeme) (typed : Typed) (stars : ℕ) (name : Named) → through (λ f. f typed.start typed.base stars name) (parse limit n.AfterName d ts)
    ≡ (if same (look ts) k.OpenParen then through (λ p. made.function_item typed.start typed.base stars name p.0 p.1) (steps_of function d ts) else globals typed stars name d ts)
step_after_name d ts typed stars name =
    let choose : (Place → Base → ℕ → Named → List Item) → List Item = λ f. f typed.start typed.base stars name in
    let made_of : (List Decl × Option Stmt) → Place → Base → ℕ → Named → List Item = λ p. λ start base stars name. made.function_item start base stars name p.0 p.1 in
    let rest_of : List Expr → Option Init → List InitDeclarator → Place → Base → ℕ → Named → List Item = λ counts init more. λ start base stars name. made.globals_of start false (made.typed_at start base) (made.initialised start stars name counts init) more in
    ap (through choose) (parse_steps n.AfterName d ts)
    ∙ through_if choose (same (look ts) k.OpenParen) _ _
    ∙ if_first (same (look ts) k.OpenParen) _ _ _ (ap (through choose) (sym (fragment function d ts (λ p rest e. Ok (made_of p, rest, e)))) ∙ through_twice choose made_of (steps_of function d ts))
    ∙ if_second (same (look ts) k.OpenParen) _ _ _ (then_push choose (parse limit n.Counts d ts) (λ counts mid d1. and_then (parse limit n.MaybeInit d1 mid) (λ init mid d2. and_then (parse limit n.MoreInitialised d2 mid) (λ more mid d3. and_then (take_tok made.place_of k.Semicolon [] d3 mid) (λ _ rest d4. Ok (rest_of counts init more, rest, d4)))))
    ∙ then_ok (parse limit n.Counts d ts) _ _ (λ counts mid d1. then_push choose (parse limit n.MaybeInit d1 mid) (λ init mid d2. and_then (parse limit n.MoreInitialised d2 mid) (λ more mid d3. and_then (take_tok made.place_of k.Semicolon [] d3 mid) (λ _ rest d4. Ok (rest_of counts init more, rest, d4))))
    ∙ then_ok (parse limit n.MaybeInit d1 mid) _ _ (λ init mid d2. last_push choose (rest_of counts init) (parse limit n.MoreInitialised d2 mid) (take_tok made.place_of k.Semicolon [])
    ∙ ap (λ o. and_then o (λ all mid d3. and_then (take_tok made.place_of k.Semicolon [] d3 mid) (λ _ rest d4. Ok (all, rest, d4)))) (globals_begin typed.start false typed (made.initialised typed.start stars name counts init) d2 mid))))

pub step_after_tag : (d : ℕ) (ts : List Lexeme) (start : Place) (tag : Named) → through (λ f. f start tag.name) (parse limit n.AfterTag d ts)
    ≡ (if same (look ts) k.OpenBrace then through (λ all. made.struct_item start tag.name all) (steps_of ended_members d ts) else steps_of (named_item (made.typed_at start (b.Struct tag.name))) d ts)
step_after_tag d ts start tag =
    let choose : (Place → List ℕ → List Item) → List Item = λ f. f start tag.name in
    let made_of : List Decl → Place → List ℕ → List Item = λ all. λ start tag. made.struct_item start tag all in
    let named_of : ℕ → Named → (Place → Base → ℕ → Named → List Item) → Place → List ℕ → List Item = λ stars name f. λ start tag. f start (b.Struct tag) stars name in
    ap (through choose) (parse_steps n.AfterTag d ts)
    ∙ through_if choose (same (look ts) k.OpenBrace) _ _
    ∙ if_first (same (look ts) k.OpenBrace) _ _ _ (ap (through choose) (sym (fragment ended_members d ts (λ all rest e. Ok (made_of all, rest, e)))) ∙ through_twice choose made_of (steps_of ended_members d ts))
    ∙ if_second (same (look ts) k.OpenBrace) _ _ _ (then_push choose (parse limit (n.Stars 255) d ts) (λ stars mid d1. and_then (take_tok made.named_of k.Name [] d1 mid) (λ name mid d2. and_then (parse limit n.AfterName d2 mid) (λ f rest d3. Ok (named_of stars name f, rest, d3))))
    ∙ then_ok (parse limit (n.Stars 255) d ts) _ _ (λ stars mid d1. then_push choose (take_tok made.named_of k.Name [] d1 mid) (λ name mid d2. and_then (parse limit n.AfterName d2 mid) (λ f rest d3. Ok (named_of stars name f, rest, d3)))
    ∙ then_ok (take_tok made.named_of k.Name [] d1 mid) _ _ (λ name mid d2. through_twice choose (named_of stars name) (parse limit n.AfterName d2 mid))))

pub name_function : (d : ℕ) (ts : List Lexeme) (typed : Typed) (stars : ℕ) (name : Named) → same (look ts) k.OpenParen ≡ true → through (λ f. f typed.start typed.base stars name) (parse limit n.AfterName d ts) ≡ through (λ p. made.function_item typed.start typed.base stars name p.0 p.1) (steps_of function d ts)
name_function d ts typed stars name e = step_after_name d ts typed stars name ∙ rw e refl

pub name_globals : (d : ℕ) (ts : List Lexeme) (typed : Typed) (stars : ℕ) (name : Named) → same (look ts) k.OpenParen ≡ false → through (λ f. f typed.start typed.base stars name) (parse limit n.AfterName d ts) ≡ globals typed stars name d ts
name_globals d ts typed stars name e = step_after_name d ts typed stars name ∙ rw e refl

pub tag_members : (d : ℕ) (ts : List Lexeme) (start : Place) (tag : Named) → same (look ts) k.OpenBrace ≡ true → through (λ f. f start tag.name) (parse limit n.AfterTag d ts) ≡ through (λ all. made.struct_item start tag.name all) (steps_of ended_members d ts)
tag_members d ts start tag e = step_after_tag d ts start tag ∙ rw e refl

pub tag_item : (d : ℕ) (ts : List Lexeme) (start : Place) (tag : Named) → same (look ts) k.OpenBrace ≡ false → through (λ f. f start tag.name) (parse limit n.AfterTag d ts) ≡ steps_of (named_item (made.typed_at start (b.Struct tag.name))) d ts
tag_item d ts start tag e = step_after_tag d ts start tag ∙ rw e refl

-- the members of a struct and `;`
pub step_ended : (d : ℕ) (ts : List Lexeme) → steps_of ended_members d ts ≡ and_then (steps_of braced_members d ts) (λ all mid d1. and_then (take_tok made.place_of k.Semicolon [] d1 mid) (λ _ rest d2. Ok (all, rest, d2)))
step_ended d ts = sym (fragment braced_members d ts (λ all mid d1. and_then (take_tok made.place_of k.Semicolon [] d1 mid) (λ _ rest d2. Ok (all, rest, d2))))

pub step_external : (d : ℕ) (ts : List Lexeme) → parse limit n.External d ts ≡ (if same (look ts) k.Extern then external d ts
    else (if same (look ts) k.Struct then and_then (take_tok made.place_of k.Struct [] d ts) (λ start mid d1. and_then (take_tok made.named_of k.Name [] d1 mid) (λ tag mid d2. and_then (parse limit n.AfterTag d2 mid) (λ f rest d3. Ok (f start tag.name, rest, d3))))
    else and_then (parse limit n.PlainBase d ts) (λ typed mid d1. and_then (steps_of (named_item typed) d1 mid) (λ v rest d2. Ok (v, rest, d2)))))
step_external d ts =
    parse_steps n.External d ts
    ∙ if_first (same (look ts) k.Extern) _ _ _ (then_ok (take_tok made.place_of k.Extern [] d ts) _ _ (λ start mid d1. then_ok (parse limit n.AnyBase d1 mid) _ _ (λ typed mid d2. then_ok (parse limit n.Initialised d2 mid) _ _ (λ first mid d3.
    sym (then_through (λ more. made.globals_of start true typed first more) (parse limit n.MoreInitialised d3 mid) (λ all mid d4. and_then (take_tok made.place_of k.Semicolon [] d4 mid) (λ _ rest d5. Ok (all, rest, d5))))
    ∙ ap (λ o. and_then o (λ all mid d4. and_then (take_tok made.place_of k.Semicolon [] d4 mid) (λ _ rest d5. Ok (all, rest, d5)))) (globals_begin start true typed first d3 mid)))))
    ∙ if_second (same (look ts) k.Extern) _ _ _ (if_second (same (look ts) k.Struct) _ _ _ (then_ok (parse limit n.PlainBase d ts) _ _ (λ typed mid d1. sym (fragment (named_item typed) d1 mid (λ v rest d2. Ok (v, rest, d2))))))

-- what reading items gives where some were read before
unfoldable pub items_after : List Item → ℕ → List Lexeme → Out (List Item)
items_after xs d ts = through (λ more. xs ++ more) (parse limit n.Source d ts)

pub items_begin : (d : ℕ) (ts : List Lexeme) → parse limit n.Source d ts ≡ items_after [] d ts
unfolding items_after
items_begin d ts = from_none (parse limit n.Source d ts)

items_turn : (d : ℕ) (ts : List Lexeme) → among (look ts) (begins n.External) ≡ true → parse limit n.Source d ts ≡ and_then (parse limit n.External d ts) (λ a mid d'. through (λ more. a ++ more) (parse limit n.Source d' mid))
items_turn d ts e = parse_steps n.Source d ts ∙ rw e refl

items_end : (d : ℕ) (ts : List Lexeme) → among (look ts) (begins n.External) ≡ false → parse limit n.Source d ts ≡ Ok ([], ts, d)
items_end d ts e = parse_steps n.Source d ts ∙ rw e refl

pub items_more : (xs : List Item) (d d' : ℕ) (ts mid : List Lexeme) (a : List Item) → among (look ts) (begins n.External) ≡ true → parse limit n.External d ts ≡ Ok (a, mid, d') → items_after xs d ts ≡ items_after (xs ++ a) d' mid
unfolding items_after
items_more xs d d' ts mid a e h = append_more {A = List Item} {B = Item} (λ a. a) xs (parse limit n.Source d ts) (parse limit n.External d ts) (parse limit n.Source) a mid d' (items_turn d ts e) h

pub items_stop : (xs : List Item) (d : ℕ) (ts : List Lexeme) (at : Halt) → among (look ts) (begins n.External) ≡ true → parse limit n.External d ts ≡ Err at → items_after xs d ts ≡ Err at
unfolding items_after
items_stop xs d ts at e h = append_stop {A = List Item} {B = Item} (λ a. a) xs (parse limit n.Source d ts) (parse limit n.External d ts) (parse limit n.Source) at (items_turn d ts e) h

pub items_none : (xs : List Item) (d : ℕ) (ts : List Lexeme) → among (look ts) (begins n.External) ≡ false → items_after xs d ts ≡ Ok (xs, ts, d)
unfolding items_after
items_none xs d ts e = append_none xs (parse limit n.Source d ts) ts d (items_end d ts e)
