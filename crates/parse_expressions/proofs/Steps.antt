-- Each rule of the grammar as an equation of what reading it gives.
use Rattle.std.proofs.Common.{◌≡◌, ℕ, zero, suc, ◌+◌, ◌-◌, ◌<◌, ◌≤◌, zero-add, Bool, true, false, if◌then◌else◌, List, [], ◌∷◌, ◌++◌, length, Ok, Err, refl, sym, ◌∙◌, ap, arith, append_assoc, append-nil}
use Rattle.mx_base.specs.declared.places.Place.{Place}
use Rattle.c_tokens.specs.declared.class.Class.{Class}
use Rattle.c_tokens.specs.declared.class.Class.TheVariants as k
use Rattle.c_tree.specs.declared.tree.Expr.{Expr}
use Rattle.c_grammar.specs.Lexemes.{Lexeme, same, look, among}
use Rattle.c_grammar.specs.Nodes as made
use Rattle.c_grammar.specs.Rules as n
use Rattle.c_grammar.specs.declared.parts.Operand.{Operand}
use Rattle.c_grammar.specs.Reading.{Out, Halt, and_then, deeper, take_tok, parse, steps, steps_of, steps_with, limit, unfit, begins, base_begins, expression_begins}
use Rattle.c_grammar.proofs.Steps.{parse_steps, fragment, then_done, then_ok}
use Rattle.parse_expressions.specs.Fragments.{inside, type_inside, named, whole}
use Rattle.parse_expressions.specs.Gives.{through}

pub step_width : (d : ℕ) (ts : List Lexeme) → parse limit n.Width d ts ≡ steps n.Width d ts
step_width d ts = parse_steps n.Width d ts

pub step_maybe_width : (d : ℕ) (ts : List Lexeme) → parse limit n.MaybeWidth d ts ≡ steps n.MaybeWidth d ts
step_maybe_width d ts = parse_steps n.MaybeWidth d ts

pub step_integer : (d : ℕ) (ts : List Lexeme) → parse limit n.Integer d ts ≡ steps n.Integer d ts
step_integer d ts = parse_steps n.Integer d ts

pub step_plain_base : (d : ℕ) (ts : List Lexeme) → parse limit n.PlainBase d ts ≡ steps n.PlainBase d ts
step_plain_base d ts = parse_steps n.PlainBase d ts

pub step_object_base : (d : ℕ) (ts : List Lexeme) → parse limit n.ObjectBase d ts ≡ steps n.ObjectBase d ts
step_object_base d ts = parse_steps n.ObjectBase d ts

pub step_any_base : (d : ℕ) (ts : List Lexeme) → parse limit n.AnyBase d ts ≡ steps n.AnyBase d ts
step_any_base d ts = parse_steps n.AnyBase d ts

pub step_type_name : (d : ℕ) (ts : List Lexeme) → parse limit n.TypeName d ts ≡ steps n.TypeName d ts
step_type_name d ts = parse_steps n.TypeName d ts

pub step_assignment : (d : ℕ) (ts : List Lexeme) → parse limit n.Assignment d ts ≡ steps n.Assignment d ts
step_assignment d ts = parse_steps n.Assignment d ts

pub step_assignment_tail : (d : ℕ) (ts : List Lexeme) → parse limit n.AssignmentTail d ts ≡ steps n.AssignmentTail d ts
step_assignment_tail d ts = parse_steps n.AssignmentTail d ts

pub step_conditional : (d : ℕ) (ts : List Lexeme) → parse limit n.Conditional d ts ≡ steps n.Conditional d ts
step_conditional d ts = parse_steps n.Conditional d ts

pub step_conditional_tail : (d : ℕ) (ts : List Lexeme) → parse limit n.ConditionalTail d ts ≡ steps n.ConditionalTail d ts
step_conditional_tail d ts = parse_steps n.ConditionalTail d ts

pub step_unary : (d : ℕ) (ts : List Lexeme) → parse limit n.Unary d ts ≡ steps n.Unary d ts
step_unary d ts = parse_steps n.Unary d ts

pub step_plain : (d : ℕ) (ts : List Lexeme) → parse limit n.Plain d ts ≡ steps n.Plain d ts
step_plain d ts = parse_steps n.Plain d ts

pub step_sized : (d : ℕ) (ts : List Lexeme) → parse limit n.Sized d ts ≡ steps n.Sized d ts
step_sized d ts = parse_steps n.Sized d ts

pub step_maybe_call : (d : ℕ) (ts : List Lexeme) → parse limit n.MaybeCall d ts ≡ steps n.MaybeCall d ts
step_maybe_call d ts = parse_steps n.MaybeCall d ts

-- ---- rules with parts that functions read by themselves

if_first : {A : Type 0} (b : Bool) (x y z : A) → x ≡ y → (if b then x else z) ≡ (if b then y else z)
if_first b x y z e = ap (λ w. if b then w else z) e

if_second : {A : Type 0} (b : Bool) (x y z : A) → x ≡ y → (if b then z else x) ≡ (if b then z else y)
if_second b x y z e = ap (λ w. if b then z else w) e

abbrev opened_steps : ℕ → List Lexeme → Out (Place → Operand)
opened_steps d ts =
    if among (look ts) base_begins
    then and_then (parse limit n.TypeName d ts) (λ kind mid d1. and_then (take_tok made.place_of k.CloseParen [] d1 mid) (λ _ mid d2. and_then (parse limit n.Unary d2 mid) (λ a rest d3. Ok ((λ start. made.cast_at start kind a), rest, d3))))
    else and_then (steps_of inside d ts) (λ a mid d1. and_then (parse limit n.Parts d1 mid) (λ f rest d2. Ok ((λ start. f (made.enclosed start a)), rest, d2)))

pub step_opened : (d : ℕ) (ts : List Lexeme) → parse limit n.Opened d ts ≡ opened_steps d ts
step_opened d ts = parse_steps n.Opened d ts ∙ if_second (among (look ts) base_begins) _ _ _ (sym (fragment inside d ts (λ a mid d1. and_then (parse limit n.Parts d1 mid) (λ f rest d2. Ok ((λ start. f (made.enclosed start a)), rest, d2)))))

abbrev sized_opened_steps : ℕ → List Lexeme → Out (Place → Place → Operand)
sized_opened_steps d ts =
    if among (look ts) base_begins
    then and_then (steps_of type_inside d ts) (λ kind mid d1. Ok ((λ start inner. made.size_of_kind start kind), mid, d1))
    else and_then (steps_of inside d ts) (λ a mid d1. and_then (parse limit n.Parts d1 mid) (λ f rest d2. Ok ((λ start inner. made.size_of_value start (f (made.enclosed inner a))), rest, d2)))

pub step_sized_opened : (d : ℕ) (ts : List Lexeme) → parse limit n.SizedOpened d ts ≡ sized_opened_steps d ts
step_sized_opened d ts =
    parse_steps n.SizedOpened d ts
    ∙ if_second (among (look ts) base_begins) _ _ _ (sym (fragment inside d ts (λ a mid d1. and_then (parse limit n.Parts d1 mid) (λ f rest d2. Ok ((λ start inner. made.size_of_value start (f (made.enclosed inner a))), rest, d2)))))
    ∙ if_first (among (look ts) base_begins) _ _ _ (sym (fragment type_inside d ts (λ kind mid d1. Ok ((λ start inner. made.size_of_kind start kind), mid, d1))))

abbrev atom_steps : ℕ → List Lexeme → Out Operand
atom_steps d ts =
    if same (look ts) k.Number then take_tok made.number_at k.Number [] d ts
    else (if same (look ts) k.Character then take_tok made.character_at k.Character [] d ts
    else (if same (look ts) k.Text then take_tok made.text_at k.Text [] d ts
    else steps_of named d ts))

pub step_atom : (d : ℕ) (ts : List Lexeme) → parse limit n.Atom d ts ≡ atom_steps d ts
step_atom d ts =
    parse_steps n.Atom d ts
    ∙ if_first (same (look ts) k.Number) _ _ _ (sym (then_done (take_tok made.number_at k.Number [] d ts)))
    ∙ if_second (same (look ts) k.Number) _ _ _ (if_first (same (look ts) k.Character) _ _ _ (sym (then_done (take_tok made.character_at k.Character [] d ts)))
    ∙ if_second (same (look ts) k.Character) _ _ _ (if_first (same (look ts) k.Text) _ _ _ (sym (then_done (take_tok made.text_at k.Text [] d ts)))))

abbrev indexing : ℕ → List Lexeme → Out (Operand → Operand)
indexing d ts =
    deeper (same (look ts) k.OpenBracket) (limit d) ts (and_then (take_tok made.place_of k.OpenBracket [] (d + 1) ts) (λ _ mid d1.
    and_then (steps_of whole d1 mid) (λ at mid d2.
    and_then (take_tok made.place_of k.CloseBracket [] d2 mid) (λ _ rest d3. Ok ((λ left. made.indexed left at), rest, d3)))))

pub step_part : (d : ℕ) (ts : List Lexeme) → parse limit n.Part d ts ≡ (if same (look ts) k.OpenBracket then indexing d ts
    else (if same (look ts) k.Dot then deeper (same (look ts) k.Dot) (limit d) ts (and_then (take_tok made.place_of k.Dot [] (d + 1) ts) (λ _ mid d1. and_then (take_tok made.named_of k.Name [] d1 mid) (λ name rest d2. Ok ((λ left. made.member left name), rest, d2))))
    else (if same (look ts) k.Arrow then deeper (same (look ts) k.Arrow) (limit d) ts (and_then (take_tok made.place_of k.Arrow [] (d + 1) ts) (λ _ mid d1. and_then (take_tok made.named_of k.Name [] d1 mid) (λ name rest d2. Ok ((λ left. made.pointed left name), rest, d2))))
    else (if same (look ts) k.PlusPlus then deeper (same (look ts) k.PlusPlus) (limit d) ts (and_then (take_tok made.place_of k.PlusPlus [] (d + 1) ts) (λ _ rest d1. Ok ((λ left. made.stepped true left), rest, d1)))
    else deeper (same (look ts) k.MinusMinus) (limit d) ts (and_then (take_tok made.place_of k.MinusMinus [] (d + 1) ts) (λ _ rest d1. Ok ((λ left. made.stepped false left), rest, d1)))))))
step_part d ts =
    parse_steps n.Part d ts
    ∙ if_first (same (look ts) k.OpenBracket) _ _ _ (ap (deeper (same (look ts) k.OpenBracket) (limit d) ts) (then_ok (take_tok made.place_of k.OpenBracket [] (d + 1) ts) _ _ (λ _ mid d1. sym (fragment whole d1 mid (λ at mid d2. and_then (take_tok made.place_of k.CloseBracket [] d2 mid) (λ _ rest d3. Ok ((λ left. made.indexed left at), rest, d3)))))))

-- ---- parts after an operand

-- what is read after an operand
unfoldable pub parts_after : Operand → ℕ → List Lexeme → Out Operand
parts_after left d ts = through (λ f. f left) (parse limit n.Parts d ts)

pub parts_begin : (left : Operand) (d : ℕ) (ts : List Lexeme) → through (λ f. f left) (parse limit n.Parts d ts) ≡ parts_after left d ts
unfolding parts_after
parts_begin left d ts = refl

parts_then : (left : Operand) (o : Out (Operand → Operand)) → through (λ (f : Operand → Operand). f left) (and_then o (λ g mid d'. and_then (parse limit n.Parts d' mid) (λ f rest d''. Ok ((λ left. f (g left)), rest, d''))))
    ≡ and_then (through (λ (f : Operand → Operand). f left) o) (λ v mid d'. through (λ (f : Operand → Operand). f v) (parse limit n.Parts d' mid))
parts_then left (Err at) = refl
parts_then left (Ok p) = last left p.0 (parse limit n.Parts p.2 p.1)
  where
    last : (left : Operand) (g : Operand → Operand) (o : Out (Operand → Operand)) → through (λ (f : Operand → Operand). f left) (and_then o (λ f rest d''. Ok ((λ left. f (g left)), rest, d''))) ≡ through (λ (f : Operand → Operand). f (g left)) o
    last left g (Ok p) = refl
    last left g (Err at) = refl

parts_turn : (left : Operand) (d : ℕ) (ts : List Lexeme) → among (look ts) (begins n.Part) ≡ true → through (λ (f : Operand → Operand). f left) (parse limit n.Parts d ts) ≡ and_then (through (λ (f : Operand → Operand). f left) (parse limit n.Part d ts)) (λ v mid d'. through (λ (f : Operand → Operand). f v) (parse limit n.Parts d' mid))
parts_turn left d ts e =
    let q : parse limit n.Parts d ts ≡ and_then (parse limit n.Part d ts) (λ g mid d'. and_then (parse limit n.Parts d' mid) (λ f rest d''. Ok ((λ left. f (g left)), rest, d''))) = parse_steps n.Parts d ts ∙ rw e refl in
    ap (through (λ (f : Operand → Operand). f left)) q ∙ parts_then left (parse limit n.Part d ts)

pub parts_more : (left v : Operand) (d d' : ℕ) (ts mid : List Lexeme) → among (look ts) (begins n.Part) ≡ true → through (λ (f : Operand → Operand). f left) (parse limit n.Part d ts) ≡ Ok (v, mid, d') → parts_after left d ts ≡ parts_after v d' mid
unfolding parts_after
parts_more left v d d' ts mid e h = parts_turn left d ts e ∙ ap (λ o. and_then o (λ v mid d'. through (λ (f : Operand → Operand). f v) (parse limit n.Parts d' mid))) h

pub parts_stop : (left : Operand) (d : ℕ) (ts : List Lexeme) (at : Halt) → among (look ts) (begins n.Part) ≡ true → through (λ (f : Operand → Operand). f left) (parse limit n.Part d ts) ≡ Err at → parts_after left d ts ≡ Err at
unfolding parts_after
parts_stop left d ts at e h = parts_turn left d ts e ∙ ap (λ o. and_then o (λ v mid d'. through (λ (f : Operand → Operand). f v) (parse limit n.Parts d' mid))) h

pub parts_none : (left : Operand) (d : ℕ) (ts : List Lexeme) → among (look ts) (begins n.Part) ≡ false → parts_after left d ts ≡ Ok (left, ts, d)
unfolding parts_after
parts_none left d ts e =
    let q : parse limit n.Parts d ts ≡ Ok ((λ left. left), ts, d) = parse_steps n.Parts d ts ∙ rw e refl in
    ap (through (λ (f : Operand → Operand). f left)) q

-- ---- arguments

-- what is read after the first arguments
unfoldable pub args_after : List Expr → ℕ → List Lexeme → Out (List Expr)
args_after args d ts = through (λ more. args ++ more) (parse limit n.MoreArguments d ts)

argument : ℕ → List Lexeme → (List Expr) → Out (List Expr)
argument d ts args = and_then (steps_of whole d ts) (λ a mid d'. through (λ more. args ++ (a.tree ∷ more)) (parse limit n.MoreArguments d' mid))

args_then : (args : List Expr) (o : Out Operand) → through (λ more. args ++ more) (and_then o (λ a mid d'. and_then (parse limit n.MoreArguments d' mid) (λ more rest d''. Ok (a.tree ∷ more, rest, d''))))
    ≡ and_then o (λ a mid d'. through (λ more. args ++ (a.tree ∷ more)) (parse limit n.MoreArguments d' mid))
args_then args (Err at) = refl
args_then args (Ok p) = last args p.0.tree (parse limit n.MoreArguments p.2 p.1)
  where
    last : (args : List Expr) (a : Expr) (o : Out (List Expr)) → through (λ more. args ++ more) (and_then o (λ more rest d''. Ok (a ∷ more, rest, d''))) ≡ through (λ more. args ++ (a ∷ more)) o
    last args a (Ok p) = refl
    last args a (Err at) = refl

args_joined : (args : List Expr) (a : Expr) (o : Out (List Expr)) → through (λ more. args ++ (a ∷ more)) o ≡ through (λ more. (args ++ a ∷ []) ++ more) o
args_joined args a (Ok p) = ap (λ z. Ok (z, p.1, p.2)) (sym (append_assoc args (a ∷ []) p.0))
args_joined args a (Err at) = refl

args_whole : (o : Out (List Expr)) → through (λ more. [] ++ more) o ≡ o
args_whole (Ok p) = refl
args_whole (Err at) = refl

first_argument : (d : ℕ) (ts : List Lexeme) → among (look ts) expression_begins ≡ true → parse limit n.Arguments d ts ≡ argument d ts []
unfolding argument
first_argument d ts e =
    let q : parse limit n.Arguments d ts ≡ steps_with limit (parse limit) whole d ts (λ a mid d'. and_then (parse limit n.MoreArguments d' mid) (λ more rest d''. Ok (a.tree ∷ more, rest, d''))) = parse_steps n.Arguments d ts ∙ rw e refl in
    q ∙ sym (fragment whole d ts (λ a mid d'. and_then (parse limit n.MoreArguments d' mid) (λ more rest d''. Ok (a.tree ∷ more, rest, d''))))
    ∙ sym (args_whole (and_then (steps_of whole d ts) (λ a mid d'. and_then (parse limit n.MoreArguments d' mid) (λ more rest d''. Ok (a.tree ∷ more, rest, d''))))) ∙ args_then [] (steps_of whole d ts)

pub args_begin : (d d' : ℕ) (ts mid : List Lexeme) (a : Operand) → among (look ts) expression_begins ≡ true → steps_of whole d ts ≡ Ok (a, mid, d') → parse limit n.Arguments d ts ≡ args_after (a.tree ∷ []) d' mid
unfolding args_after argument
args_begin d d' ts mid a e h = first_argument d ts e ∙ ap (λ o. and_then o (λ a mid d'. through (λ more. [] ++ (a.tree ∷ more)) (parse limit n.MoreArguments d' mid))) h

pub args_begin_stop : (d : ℕ) (ts : List Lexeme) (at : Halt) → among (look ts) expression_begins ≡ true → steps_of whole d ts ≡ Err at → parse limit n.Arguments d ts ≡ Err at
unfolding argument
args_begin_stop d ts at e h = first_argument d ts e ∙ ap (λ o. and_then o (λ a mid d'. through (λ more. [] ++ (a.tree ∷ more)) (parse limit n.MoreArguments d' mid))) h

pub args_empty : (d : ℕ) (ts : List Lexeme) → among (look ts) expression_begins ≡ false → parse limit n.Arguments d ts ≡ Ok ([], ts, d)
args_empty d ts e = parse_steps n.Arguments d ts ∙ rw e refl

next_argument : (args : List Expr) (d d' : ℕ) (ts mid : List Lexeme) (p : Place) → same (look ts) k.Comma ≡ true → take_tok made.place_of k.Comma [] d ts ≡ Ok (p, mid, d') → through (λ more. args ++ more) (parse limit n.MoreArguments d ts) ≡ argument d' mid args
unfolding argument
next_argument args d d' ts mid p e t =
    let q : parse limit n.MoreArguments d ts ≡ steps_with limit (parse limit) whole d' mid (λ a mid d'. and_then (parse limit n.MoreArguments d' mid) (λ more rest d''. Ok (a.tree ∷ more, rest, d''))) = parse_steps n.MoreArguments d ts ∙ rw (e, t) refl in
    ap (through (λ more. args ++ more)) (q ∙ sym (fragment whole d' mid (λ a mid d'. and_then (parse limit n.MoreArguments d' mid) (λ more rest d''. Ok (a.tree ∷ more, rest, d'')))))
    ∙ args_then args (steps_of whole d' mid)

pub args_more : (args : List Expr) (d d' d'' : ℕ) (ts mid rest : List Lexeme) (p : Place) (a : Operand) → same (look ts) k.Comma ≡ true → take_tok made.place_of k.Comma [] d ts ≡ Ok (p, mid, d') → steps_of whole d' mid ≡ Ok (a, rest, d'')
    → args_after args d ts ≡ args_after (args ++ a.tree ∷ []) d'' rest
unfolding args_after argument
args_more args d d' d'' ts mid rest p a e t h =
    next_argument args d d' ts mid p e t
    ∙ ap (λ o. and_then o (λ a mid d'. through (λ more. args ++ (a.tree ∷ more)) (parse limit n.MoreArguments d' mid))) h
    ∙ args_joined args a.tree (parse limit n.MoreArguments d'' rest)

pub args_more_stop : (args : List Expr) (d d' : ℕ) (ts mid : List Lexeme) (p : Place) (at : Halt) → same (look ts) k.Comma ≡ true → take_tok made.place_of k.Comma [] d ts ≡ Ok (p, mid, d') → steps_of whole d' mid ≡ Err at
    → args_after args d ts ≡ Err at
unfolding args_after argument
args_more_stop args d d' ts mid p at e t h =
    next_argument args d d' ts mid p e t
    ∙ ap (λ o. and_then o (λ a mid d'. through (λ more. args ++ (a.tree ∷ more)) (parse limit n.MoreArguments d' mid))) h

pub args_comma_stop : (args : List Expr) (d : ℕ) (ts : List Lexeme) (at : Halt) → same (look ts) k.Comma ≡ true → take_tok made.place_of k.Comma [] d ts ≡ Err at → args_after args d ts ≡ Err at
unfolding args_after
args_comma_stop args d ts at e t =
    let q : parse limit n.MoreArguments d ts ≡ Err at = parse_steps n.MoreArguments d ts ∙ rw (e, t) refl in
    ap (through (λ more. args ++ more)) q

pub args_none : (args : List Expr) (d : ℕ) (ts : List Lexeme) → same (look ts) k.Comma ≡ false → args_after args d ts ≡ Ok (args, ts, d)
unfolding args_after
args_none args d ts e =
    let q : parse limit n.MoreArguments d ts ≡ Ok ([], ts, d) = parse_steps n.MoreArguments d ts ∙ rw e refl in
    ap (through (λ more. args ++ more)) q ∙ ap (λ z. Ok (z, ts, d)) (append-nil args)

-- ---- tokens

-- a token that is of none of these classes
pub misfit : {A : Type 0} (f : Lexeme → A) (c : Class) (cs : List Class) (d : ℕ) (ts : List Lexeme) → among (look ts) (c ∷ cs) ≡ false → take_tok f c cs d ts ≡ Err (unfit ts)
unfolding take_tok
misfit f c cs d [] e = refl
misfit f c cs d (t ∷ ts) e = rw e refl

-- ---- stars

through_same : {A B : Type 0} (f g : A → B) (o : Out A) → ((v : A) → f v ≡ g v) → through f o ≡ through g o
through_same f g (Ok p) h = ap (λ v. Ok (v, p.1, p.2)) (h p.0)
through_same f g (Err at) h = refl

through_twice : {A B C : Type 0} (f : B → C) (g : A → B) (o : Out A) → through f (through g o) ≡ through (λ v. f (g v)) o
through_twice f g (Ok p) = refl
through_twice f g (Err at) = refl

star_step : (most d : ℕ) (ts : List Lexeme) → parse limit (n.Stars (suc most)) d ts ≡ steps (n.Stars (suc most)) d ts
star_step most d ts = parse_steps (n.Stars (suc most)) d ts

star_first : (most d : ℕ) (ts mid : List Lexeme) (p : Place) (d' : ℕ) → same (look ts) k.Star ≡ true → take_tok made.place_of k.Star [] d ts ≡ Ok (p, mid, d')
    → parse limit (n.Stars (suc most)) d ts ≡ through (λ more. more + 1) (parse limit (n.Stars most) d' mid)
star_first most d ts mid p d' s t = star_step most d ts ∙ rw (s, t) refl

more_read : (read : ℕ) (o : Out ℕ) → through (λ more. more + read) (through (λ more. more + 1) o) ≡ through (λ more. more + (read + 1)) o
more_read read o = through_twice (λ more. more + read) (λ more. more + 1) o ∙ through_same (λ v. v + 1 + read) (λ v. v + (read + 1)) o (λ v. omega arith)

none_more : (most d : ℕ) (ts : List Lexeme) → same (look ts) k.Star ≡ false → parse limit (n.Stars most) d ts ≡ Ok (0, ts, d)
none_more zero d ts s = parse_steps (n.Stars zero) d ts
none_more (suc most) d ts s = star_step most d ts ∙ rw s refl

-- what reading stars gives where so many are read
unfoldable pub stars_after : ℕ → ℕ → ℕ → List Lexeme → Out ℕ
stars_after most read d ts = through (λ more. more + read) (parse limit (n.Stars (most - read)) d ts)

pub star_begin : (most d : ℕ) (ts : List Lexeme) → parse limit (n.Stars most) d ts ≡ stars_after most 0 d ts
unfolding stars_after
star_begin most d ts =
    let e : most ≡ most - 0 = omega arith in
    sym (whole (parse limit (n.Stars most) d ts)) ∙ ap (λ z. through (λ more. more + 0) (parse limit (n.Stars z) d ts)) e
  where
    whole : (o : Out ℕ) → through (λ more. more + 0) o ≡ o
    whole (Ok p) = let e : p.0 + 0 ≡ p.0 = omega arith in ap (λ z. Ok (z, p.1, p.2)) e
    whole (Err at) = refl

-- one star more
pub star_more : (most read d : ℕ) (ts mid : List Lexeme) (p : Place) (d' : ℕ) → read < most → same (look ts) k.Star ≡ true → take_tok made.place_of k.Star [] d ts ≡ Ok (p, mid, d')
    → stars_after most read d ts ≡ stars_after most (read + 1) d' mid
unfolding stars_after
star_more most read d ts mid p d' h s t =
    let e : most - read ≡ suc (most - (read + 1)) = omega arith in
    ap (λ z. through (λ more. more + read) (parse limit (n.Stars z) d ts)) e
    ∙ ap (through (λ more. more + read)) (star_first (most - (read + 1)) d ts mid p d' s t)
    ∙ more_read read (parse limit (n.Stars (most - (read + 1))) d' mid)

star_stop : (most d : ℕ) (ts : List Lexeme) (at : Halt) → same (look ts) k.Star ≡ true → take_tok made.place_of k.Star [] d ts ≡ Err at → parse limit (n.Stars (suc most)) d ts ≡ Err at
star_stop most d ts at s t = star_step most d ts ∙ rw (s, t) refl

pub star_stops : (most read d : ℕ) (ts : List Lexeme) (at : Halt) → read < most → same (look ts) k.Star ≡ true → take_tok made.place_of k.Star [] d ts ≡ Err at → stars_after most read d ts ≡ Err at
unfolding stars_after
star_stops most read d ts at h s t =
    let e : most - read ≡ suc (most - (read + 1)) = omega arith in
    ap (λ z. through (λ more. more + read) (parse limit (n.Stars z) d ts)) e
    ∙ ap (through (λ more. more + read)) (star_stop (most - (read + 1)) d ts at s t)

-- no star more
pub star_none : (most read d : ℕ) (ts : List Lexeme) → same (look ts) k.Star ≡ false → stars_after most read d ts ≡ Ok (read, ts, d)
unfolding stars_after
star_none most read d ts s = ap (through (λ more. more + read)) (none_more (most - read) d ts s) ∙ ap (λ z. Ok (z, ts, d)) (zero-add read)

-- no star more is allowed
pub star_last : (most read d : ℕ) (ts : List Lexeme) → most ≤ read → stars_after most read d ts ≡ Ok (read, ts, d)
unfolding stars_after
star_last most read d ts h =
    let e : most - read ≡ 0 = omega arith in
    ap (λ z. through (λ more. more + read) (parse limit (n.Stars z) d ts)) e
    ∙ ap (through (λ more. more + read)) (parse_steps (n.Stars zero) d ts) ∙ ap (λ z. Ok (z, ts, d)) (zero-add read)
