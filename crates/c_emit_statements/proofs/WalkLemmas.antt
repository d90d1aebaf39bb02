-- The whole of a statement, from what was put down one after another.
use Rattle.std.proofs.Common.{◌≡◌, ℕ, ◌+◌, Bool, false, Option, None, Some, List, [], ◌∷◌, ◌++◌, map, refl, sym, ap, ◌∙◌, arith}
use Rattle.std.proofs.lemmas.List.{append-nil, append_assoc}
use Rattle.c_tree.specs.declared.tree.Decl.{Decl}
use Rattle.c_tree.specs.declared.tree.Expr.{Expr}
use Rattle.c_tree.specs.declared.tree.Init.{Init}
use Rattle.c_tree.specs.declared.tree.Stmt.{Stmt}
use Rattle.c_tree.specs.declared.tree.StmtKind.TheVariants as v
use Rattle.fat_ir.specs.declared.step.FatStep.{FatStep}
use Rattle.fat_ir.specs.declared.step.FatStep.TheVariants as w
use Rattle.bounds_plan.specs.meaning.Core.{NumberExpr, Word, Effect, Nothing, Statement, Skip, Do, Then, If, While, DoWhile, For, Break, Continue, Return}
use Rattle.bounds_plan.specs.steps.Code.{labels, code, labels_of, code_of}
use Rattle.bounds_plan.specs.elaboration.Types.{Value, Numeric, Address, number_in, sort_of, given, kind_of}
use Rattle.bounds_plan.specs.elaboration.Source.{Reached, Around, declared_at, bind_at, past_declaration, local_number}
use Rattle.bounds_plan.specs.elaboration.Places.{Lvalue}
use Rattle.c_types.specs.Types.{CType}
use Rattle.c_check_rules.specs.declared.predeclared.Bind.{Bind}
use Rattle.bounds_plan.specs.elaboration.Expressions.{Found, expression}
use Rattle.bounds_plan.specs.elaboration.Initialisers.{Filling, initialiser}
use Rattle.bounds_plan.specs.elaboration.Statements.{Stated, Done, Tested, in_order, maybe, done_by, tested_by, declared, past_counts, local_of, returned_by, all_stated, return_of}
use Rattle.steps_facts.specs.declared.seen.Sorted.{Sorted}
use Rattle.steps_facts.specs.Seen.{sorted, is_number}
use Rattle.steps_pieces.specs.Wanted.{code_value, labels_value, code_given, labels_given, given_number}
use Rattle.steps_pieces.specs.Own.{word_own, crossing}
use Rattle.steps_pieces.specs.Put.{Put, added, skipped, goes, went, went_given}
use Rattle.steps_filling.specs.Effects.{went_effect, went_effects}
use Rattle.c_look.proofs.Values.{given_is_number}
use Rattle.c_emit.proofs.Goes.{both, next, own, same_goes}
use Rattle.c_emit.proofs.Codes.{number_code, number_labels, given_code, given_labels}
use Rattle.c_emit_statements.proofs.StatementForms.{is_value, is_local, is_alone, is_else, is_while, is_do, is_for, is_break, is_continue, is_return, is_block}
use Rattle.c_emit_statements.specs.Bodies.{statement, went_statement, went_returned, went_declared, went_number, label, parting, turning, turning_if, giving}

-- ---- parts

pub number_went : (f : Found) (d : ℕ) (s : Put) → went_number (number_in f.value) d s ≡ went false f d s
unfolding went_number went
number_went f d s = same_goes (λ l. code (number_in f.value) d l) (λ l. code_value f.value d l) (labels (number_in f.value)) (labels_value f.value) s (number_code f.value d s.label) (number_labels f.value)

pub skip_went : (d lb lc : ℕ) (s : Put) → went_statement Skip d lb lc s ≡ s
unfolding went_statement
skip_went d lb lc s = both _ _ _ _ (append-nil s.steps) (omega arith)

pub effect_went : (e : Effect) (d lb lc : ℕ) (s : Put) → went_statement (Do e) d lb lc s ≡ went_effect e d s
unfolding went_statement went_effect
effect_went e d lb lc s = refl

pub then_went : (a b : Statement) (d lb lc : ℕ) (s : Put) → went_statement (Then a b) d lb lc s ≡ went_statement b d lb lc (went_statement a d lb lc s)
unfolding went_statement
then_went a b d lb lc s = next (λ l. code_of a d l lb lc) (λ l. code_of b d l lb lc) (labels_of a) (labels_of b) s

pub effects_went : (es : List Effect) (d lb lc : ℕ) (s : Put) → went_statement (in_order es) d lb lc s ≡ went_effects es d s
effects_went [] d lb lc s = skip_went d lb lc s
effects_went (e ∷ more) d lb lc s = then_went (Do e) (in_order more) d lb lc s ∙ ap (λ (z : Put). went_statement (in_order more) d lb lc z) (effect_went e d lb lc s) ∙ effects_went more d lb lc (went_effect e d s)

-- ---- forms

chain5 : (s0 A B C D E : List FatStep) → ((((s0 ++ A) ++ B) ++ C) ++ D) ++ E ≡ s0 ++ (A ++ (B ++ (C ++ (D ++ E))))
chain5 s0 A B C D E = simp append_assoc refl

chain6 : (s0 A B C D E F : List FatStep) → (((((s0 ++ A) ++ B) ++ C) ++ D) ++ E) ++ F ≡ s0 ++ (A ++ (B ++ (C ++ (D ++ (E ++ F)))))
chain6 s0 A B C D E F = simp append_assoc refl

chain7 : (s0 A B C D E F G : List FatStep) → ((((((s0 ++ A) ++ B) ++ C) ++ D) ++ E) ++ F) ++ G ≡ s0 ++ (A ++ (B ++ (C ++ (D ++ (E ++ (F ++ G))))))
chain7 s0 A B C D E F G = simp append_assoc refl

pub if_form : (test : NumberExpr) (x y : Statement) (d lb lc : ℕ) (s : Put) → let l = s.label in went_statement (If test x y) d lb lc s
    ≡ added (label (l + 1)) (went_statement x d lb lc (added (crossing l (l + 1)) (went_statement y d lb lc (added (w.JumpIf d l ∷ []) (went_number test d (skipped 2 s))))))
unfolding went_statement went_number added skipped
if_form test x y d lb lc s = both _ _ _ _ (sym (chain6 s.steps _ _ _ _ _ _)) (omega arith)

pub while_form : (test : NumberExpr) (x : Statement) (d lb lc : ℕ) (s : Put) → let l = s.label in went_statement (While test x) d lb lc s
    ≡ added (turning l (l + 1)) (went_statement x d (l + 1) l (added (parting (l + 2) (l + 1) d) (went_number test d (added (label l) (skipped 3 s)))))
unfolding went_statement went_number added skipped
while_form test x d lb lc s = both _ _ _ _ (sym (chain5 s.steps _ _ _ _ _)) (omega arith)

-- the steps of the condition are put aside, from the label on that is free then
pub do_form : (x : Statement) (test : NumberExpr) (d lb lc : ℕ) (s aside : Put) → let l = s.label in aside ≡ went_number test d (record { steps = []; label = l + 3 })
    → went_statement (DoWhile x test) d lb lc s
    ≡ added (turning_if l (l + 1) d) (added aside.steps (added (label (l + 2)) (went_statement x d (l + 1) (l + 2) (added (label l) (record { steps = s.steps; label = aside.label })))))
unfolding went_statement went_number added
do_form x test d lb lc s aside h = let l = s.label in
    both _ _ _ _ (sym (chain5 s.steps _ _ _ _ _)) (omega arith)
    ∙ ap (λ (z : Put). added (turning_if l (l + 1) d) (added z.steps (added (label (l + 2)) (went_statement x d (l + 1) (l + 2) (added (label l) (record { steps = s.steps; label = z.label })))))) (sym h)

pub for_form : (test : NumberExpr) (step : Effect) (x : Statement) (d lb lc : ℕ) (s : Put) → let l = s.label in went_statement (For test step x) d lb lc s
    ≡ added (turning l (l + 1)) (went_effect step d (added (label (l + 3)) (went_statement x d (l + 1) (l + 3) (added (parting (l + 2) (l + 1) d) (went_number test d (added (label l) (skipped 4 s)))))))
unfolding went_statement went_effect went_number added skipped
for_form test step x d lb lc s = both _ _ _ _ (sym (chain7 s.steps _ _ _ _ _ _ _)) (omega arith)

pub break_form : (d lb lc : ℕ) (s : Put) → went_statement Break d lb lc s ≡ added (w.Jump lb ∷ []) s
unfolding went_statement added
break_form d lb lc s = both _ _ _ _ refl (omega arith)

pub continue_form : (d lb lc : ℕ) (s : Put) → went_statement Continue d lb lc s ≡ added (w.Jump lc ∷ []) s
unfolding went_statement added
continue_form d lb lc s = both _ _ _ _ refl (omega arith)

pub return_form : (d lb lc : ℕ) (s : Put) → went_statement Return d lb lc s ≡ added (w.Give None None ∷ []) s
unfolding went_statement added
return_form d lb lc s = both _ _ _ _ refl (omega arith)

value_given : (v : Value) (d lb lc : ℕ) (s : Put) → went_statement (return_of v) d lb lc s ≡ added (giving (is_number v) d) (goes (λ l. code_value v d l) (labels_value v) s)
unfolding went_statement added
value_given (Numeric e) d lb lc s = both _ _ _ _ (sym (append_assoc s.steps (code_value (Numeric e) d s.label) _)) refl
value_given (Address p) d lb lc s = both _ _ _ _ (sym (append_assoc s.steps (code_value (Address p) d s.label) _)) refl

pub given_form : (around : Around) (f : Found) (d lb lc : ℕ) (s : Put) → let k = sorted (sort_of around.result) in
    went_statement (return_of (given around.result f.type f.value)) d lb lc s ≡ added (giving (given_number k (is_number f.value)) d) (went_given k f d s)
unfolding went_given
given_form around f d lb lc s = let k = sort_of around.result in let v = given around.result f.type f.value in
    value_given v d lb lc s ∙ ap (λ (n : Bool). added (giving n d) (goes (λ l. code_value v d l) (labels_value v) s)) (given_is_number k f.type f.value)
    ∙ ap (λ (z : Put). added (giving (given_number (sorted k) (is_number f.value)) d) z) (same_goes (λ l. code_value v d l) (λ l. code_given (sorted k) (kind_of f.type) f.value d l) (labels_value v) (labels_given (sorted k) f.value) s (given_code k f.type f.value d s.label) (given_labels k f.type f.value))

-- ---- what a statement is elaborated to stands for it

pub for_it : (e : Stmt) (around : Around) (r : Reached) (f : Stated) (d lb lc : ℕ) (t0 t : Put) → statement e around r ≡ f → t ≡ went_statement f.statement d lb lc t0 → t ≡ went_statement (statement e around r).statement d lb lc t0
for_it e around r f d lb lc t0 t same h = h ∙ ap (λ (z : Stated). went_statement z.statement d lb lc t0) (sym same)

pub so_far : (e : Stmt) (around : Around) (r q : Reached) (f : Stated) → statement e around r ≡ f → q ≡ f.after → q ≡ (statement e around r).after
so_far e around r q f same h = h ∙ ap (λ (z : Stated). z.after) (sym same)

pub value_walk : (e : Stmt) (value : Option Expr) (around : Around) (r : Reached) (d lb lc : ℕ) (t0 t1 : Put) → e.kind ≡ v.Value value → t1 ≡ went_effect (done_by (maybe expression value) around r).effect d t0
    → t1 ≡ went_statement (statement e around r).statement d lb lc t0
value_walk e value around r d lb lc t0 t1 is h = for_it e around r _ d lb lc t0 t1 (is_value e value around r is) (h ∙ sym (effect_went (done_by (maybe expression value) around r).effect d lb lc t0))

-- a declaration goes to no label
declared_by : (init : Option Filling) (around : Around) (r : Reached) (d lb lc : ℕ) (s : Put) → went_statement (declared init around r).statement d lb lc s ≡ went_statement (declared init around r).statement d 0 0 s
declared_by None around r d lb lc s = skip_went d lb lc s ∙ sym (skip_went d 0 0 s)
declared_by (Some init) around r d lb lc s = effects_went _ d lb lc s ∙ sym (effects_went _ d 0 0 s)

pub local_walk : (e : Stmt) (decl : Decl) (init : Option Init) (around : Around) (r : Reached) (d lb lc : ℕ) (t0 t1 : Put) → e.kind ≡ v.Local decl init
    → t1 ≡ went_declared (declared (maybe (initialiser expression) init) around (past_counts expression decl around r)).statement d t0 → t1 ≡ went_statement (statement e around r).statement d lb lc t0
local_walk e decl init around r d lb lc t0 t1 is h = for_it e around r _ d lb lc t0 t1 (is_local e decl init around r is)
    (h ∙ sym (declared_by (maybe (initialiser expression) init) around (past_counts expression decl around r) d lb lc t0))

pub alone_walk : (e : Stmt) (test : Expr) (a : Stmt) (around : Around) (r x : Reached) (d lb lc first : ℕ) (t0 t1 t2 t3 t4 t5 t6 : Put) → e.kind ≡ v.If test a None → x ≡ (expression test around r).after → first ≡ t0.label
    → t1 ≡ skipped 2 t0 → t2 ≡ went_number (number_in (expression test around r).value) d t1 → t3 ≡ added (w.JumpIf d first ∷ []) t2 → t4 ≡ added (crossing first (first + 1)) t3
    → t5 ≡ went_statement (statement a around x).statement d lb lc t4 → t6 ≡ added (label (first + 1)) t5 → t6 ≡ went_statement (statement e around r).statement d lb lc t0
alone_walk e test a around r x d lb lc first t0 t1 t2 t3 t4 t5 t6 is hx hl h1 h2 h3 h4 h5 h6 = let c = expression test around r in let T = number_in c.value in
    let G : Reached → ℕ → Put = λ q l. added (label (l + 1)) (went_statement (statement a around q).statement d lb lc (added (crossing l (l + 1)) (added (w.JumpIf d l ∷ []) (went_number T d (skipped 2 t0))))) in
    for_it e around r _ d lb lc t0 t6 (is_alone e test a around r is)
    (h6 ∙ ap (λ (z : Put). added (label (first + 1)) z) (h5 ∙ ap (λ (z : Put). went_statement (statement a around x).statement d lb lc z) (h4 ∙ ap (λ (z : Put). added (crossing first (first + 1)) z)
    (h3 ∙ ap (λ (z : Put). added (w.JumpIf d first ∷ []) z) (h2 ∙ ap (λ (z : Put). went_number T d z) h1))))
    ∙ ap (λ (q : Reached). G q first) hx ∙ ap (λ (l : ℕ). G c.after l) hl
    ∙ ap (λ (z : Put). added (label (t0.label + 1)) (went_statement (statement a around c.after).statement d lb lc (added (crossing t0.label (t0.label + 1)) z))) (sym (skip_went d lb lc _))
    ∙ sym (if_form T (statement a around c.after).statement Skip d lb lc t0))

pub else_walk : (e : Stmt) (test : Expr) (a b : Stmt) (other : Option Stmt) (around : Around) (r x y : Reached) (d lb lc first : ℕ) (t0 t1 t2 t3 t4 t5 t6 t7 : Put) → e.kind ≡ v.If test a other → other ≡ Some b → x ≡ (expression test around r).after → y ≡ (statement a around x).after
    → first ≡ t0.label → t1 ≡ skipped 2 t0 → t2 ≡ went_number (number_in (expression test around r).value) d t1 → t3 ≡ added (w.JumpIf d first ∷ []) t2 → t4 ≡ went_statement (statement b around y).statement d lb lc t3
    → t5 ≡ added (crossing first (first + 1)) t4 → t6 ≡ went_statement (statement a around x).statement d lb lc t5 → t7 ≡ added (label (first + 1)) t6 → t7 ≡ went_statement (statement e around r).statement d lb lc t0
else_walk e test a b other around r x y d lb lc first t0 t1 t2 t3 t4 t5 t6 t7 is some hx hy hl h1 h2 h3 h4 h5 h6 h7 = let c = expression test around r in let T = number_in c.value in
    let G : Reached → Reached → ℕ → Put = λ q p l. added (label (l + 1)) (went_statement (statement a around q).statement d lb lc (added (crossing l (l + 1)) (went_statement (statement b around p).statement d lb lc (added (w.JumpIf d l ∷ []) (went_number T d (skipped 2 t0)))))) in
    for_it e around r _ d lb lc t0 t7 (is_else e test a b other around r is some)
    (h7 ∙ ap (λ (z : Put). added (label (first + 1)) z) (h6 ∙ ap (λ (z : Put). went_statement (statement a around x).statement d lb lc z) (h5 ∙ ap (λ (z : Put). added (crossing first (first + 1)) z)
    (h4 ∙ ap (λ (z : Put). went_statement (statement b around y).statement d lb lc z) (h3 ∙ ap (λ (z : Put). added (w.JumpIf d first ∷ []) z) (h2 ∙ ap (λ (z : Put). went_number T d z) h1)))))
    ∙ ap (λ (p : Reached). G x p first) hy ∙ ap (λ (q : Reached). G q (statement a around q).after first) hx ∙ ap (λ (l : ℕ). G c.after (statement a around c.after).after l) hl
    ∙ sym (if_form T (statement a around c.after).statement (statement b around (statement a around c.after).after).statement d lb lc t0))

pub while_walk : (e : Stmt) (test : Expr) (body : Stmt) (around : Around) (r x : Reached) (d lb lc l : ℕ) (t0 t1 t2 t3 t4 t5 t6 : Put) → e.kind ≡ v.While test body → x ≡ (expression test around r).after → l ≡ t0.label
    → t1 ≡ skipped 3 t0 → t2 ≡ added (label l) t1 → t3 ≡ went_number (number_in (expression test around r).value) d t2 → t4 ≡ added (parting (l + 2) (l + 1) d) t3
    → t5 ≡ went_statement (statement body around x).statement d (l + 1) l t4 → t6 ≡ added (turning l (l + 1)) t5 → t6 ≡ went_statement (statement e around r).statement d lb lc t0
while_walk e test body around r x d lb lc l t0 t1 t2 t3 t4 t5 t6 is hx hl h1 h2 h3 h4 h5 h6 = let c = expression test around r in let T = number_in c.value in
    let G : Reached → ℕ → Put = λ q n. added (turning n (n + 1)) (went_statement (statement body around q).statement d (n + 1) n (added (parting (n + 2) (n + 1) d) (went_number T d (added (label n) (skipped 3 t0))))) in
    for_it e around r _ d lb lc t0 t6 (is_while e test body around r is)
    (h6 ∙ ap (λ (z : Put). added (turning l (l + 1)) z) (h5 ∙ ap (λ (z : Put). went_statement (statement body around x).statement d (l + 1) l z) (h4 ∙ ap (λ (z : Put). added (parting (l + 2) (l + 1) d) z)
    (h3 ∙ ap (λ (z : Put). went_number T d z) (h2 ∙ ap (λ (z : Put). added (label l) z) h1))))
    ∙ ap (λ (q : Reached). G q l) hx ∙ ap (λ (n : ℕ). G c.after n) hl ∙ sym (while_form T (statement body around c.after).statement d lb lc t0))

-- the condition is put aside
aside_went : (T : NumberExpr) (d l : ℕ) (a0 a1 : Put) → a0 ≡ record { steps = []; label = l } → a1 ≡ went_number T d a0 → a1 ≡ went_number T d (record { steps = []; label = l })
aside_went T d l a0 a1 h g = g ∙ ap (λ (z : Put). went_number T d z) h

pub do_walk : (e : Stmt) (body : Stmt) (test : Expr) (around : Around) (r y : Reached) (d lb lc l : ℕ) (t0 t1 a0 a1 t2 t3 t4 t5 t6 t7 : Put) → e.kind ≡ v.DoWhile body test → y ≡ (statement body around r).after → l ≡ t0.label
    → t1 ≡ skipped 3 t0 → a0 ≡ record { steps = []; label = t1.label } → a1 ≡ went_number (number_in (expression test around y).value) d a0 → t2 ≡ record { steps = t1.steps; label = a1.label } → t3 ≡ added (label l) t2
    → t4 ≡ went_statement (statement body around r).statement d (l + 1) (l + 2) t3 → t5 ≡ added (label (l + 2)) t4 → t6 ≡ added a1.steps t5 → t7 ≡ added (turning_if l (l + 1) d) t6
    → t7 ≡ went_statement (statement e around r).statement d lb lc t0
unfolding skipped
do_walk e body test around r y d lb lc l t0 t1 a0 a1 t2 t3 t4 t5 t6 t7 is hy hl h1 g0 g1 h2 h3 h4 h5 h6 h7 = let x = statement body around r in let T : Reached → NumberExpr = λ q. number_in (expression test around q).value in
    let G : ℕ → Put → Put = λ n z. added (turning_if n (n + 1) d) (added a1.steps (added (label (n + 2)) (went_statement x.statement d (n + 1) (n + 2) (added (label n) z)))) in
    for_it e around r _ d lb lc t0 t7 (is_do e body test around r is)
    (h7 ∙ ap (λ (z : Put). added (turning_if l (l + 1) d) z) (h6 ∙ ap (λ (z : Put). added a1.steps z) (h5 ∙ ap (λ (z : Put). added (label (l + 2)) z) (h4 ∙ ap (λ (z : Put). went_statement x.statement d (l + 1) (l + 2) z)
    (h3 ∙ ap (λ (z : Put). added (label l) z) (h2 ∙ ap (λ (z : Put). record { steps = z.steps; label = a1.label }) h1)))))
    ∙ ap (λ (n : ℕ). G n (record { steps = t0.steps; label = a1.label })) hl
    ∙ sym (do_form x.statement (T x.after) d lb lc t0 a1 (aside_went (T x.after) d (t0.label + 3) a0 a1 (g0 ∙ ap (λ (z : Put). record { steps = []; label = z.label }) h1) (g1 ∙ ap (λ (q : Reached). went_number (T q) d a0) hy))))

pub for_walk : (e : Stmt) (first test step : Option Expr) (body : Stmt) (around : Around) (r f t n : Reached) (d lb lc l : ℕ) (t0 t1 t2 t3 t4 t5 t6 t7 t8 t9 : Put) → e.kind ≡ v.For first test step body
    → f ≡ (done_by (maybe expression first) around r).after → t ≡ (tested_by (maybe expression test) around f).after → n ≡ (done_by (maybe expression step) around t).after
    → t1 ≡ went_effect (done_by (maybe expression first) around r).effect d t0 → l ≡ t1.label → t2 ≡ skipped 4 t1 → t3 ≡ added (label l) t2 → t4 ≡ went_number (tested_by (maybe expression test) around f).test d t3
    → t5 ≡ added (parting (l + 2) (l + 1) d) t4 → t6 ≡ went_statement (statement body around n).statement d (l + 1) (l + 3) t5 → t7 ≡ added (label (l + 3)) t6 → t8 ≡ went_effect (done_by (maybe expression step) around t).effect d t7
    → t9 ≡ added (turning l (l + 1)) t8 → t9 ≡ went_statement (statement e around r).statement d lb lc t0
for_walk e first test step body around r f t n d lb lc l t0 t1 t2 t3 t4 t5 t6 t7 t8 t9 is hf ht hn h1 hl h2 h3 h4 h5 h6 h7 h8 h9 =
    let F = done_by (maybe expression first) around r in let C : Reached → Tested = λ q. tested_by (maybe expression test) around q in let N : Reached → Done = λ q. done_by (maybe expression step) around q in
    let X : Reached → Stated = λ q. statement body around q in
    let G : Reached → Reached → Reached → ℕ → Put → Put = λ f t n k z. added (turning k (k + 1)) (went_effect (N t).effect d (added (label (k + 3)) (went_statement (X n).statement d (k + 1) (k + 3)
    (added (parting (k + 2) (k + 1) d) (went_number (C f).test d (added (label k) (skipped 4 z))))))) in
    for_it e around r _ d lb lc t0 t9 (is_for e first test step body around r is)
    (h9 ∙ ap (λ (z : Put). added (turning l (l + 1)) z) (h8 ∙ ap (λ (z : Put). went_effect (N t).effect d z) (h7 ∙ ap (λ (z : Put). added (label (l + 3)) z) (h6 ∙ ap (λ (z : Put). went_statement (X n).statement d (l + 1) (l + 3) z)
    (h5 ∙ ap (λ (z : Put). added (parting (l + 2) (l + 1) d) z) (h4 ∙ ap (λ (z : Put). went_number (C f).test d z) (h3 ∙ ap (λ (z : Put). added (label l) z) h2))))))
    ∙ ap (λ (q : Reached). G f t q l t1) hn ∙ ap (λ (q : Reached). G f q (N q).after l t1) ht ∙ ap (λ (q : Reached). G q (C q).after (N (C q).after).after l t1) hf
    ∙ ap (λ (k : ℕ). G F.after (C F.after).after (N (C F.after).after).after k t1) hl ∙ ap (λ (z : Put). G F.after (C F.after).after (N (C F.after).after).after z.label z) h1
    ∙ sym (for_form (C F.after).test (N (C F.after).after).effect (X (N (C F.after).after).after).statement d lb lc (went_effect F.effect d t0))
    ∙ ap (λ (z : Put). went_statement (For (C F.after).test (N (C F.after).after).effect (X (N (C F.after).after).after).statement) d lb lc z) (sym (effect_went F.effect d lb lc t0))
    ∙ sym (then_went (Do F.effect) (For (C F.after).test (N (C F.after).after).effect (X (N (C F.after).after).after).statement) d lb lc t0))

pub for_goes : (e : Stmt) (first test step : Option Expr) (body : Stmt) (around : Around) (r f t n q : Reached) → e.kind ≡ v.For first test step body
    → f ≡ (done_by (maybe expression first) around r).after → t ≡ (tested_by (maybe expression test) around f).after → n ≡ (done_by (maybe expression step) around t).after → q ≡ (statement body around n).after
    → q ≡ (statement e around r).after
for_goes e first test step body around r f t n q is hf ht hn h = so_far e around r q _ (is_for e first test step body around r is)
    (h ∙ ap (λ (z : Reached). (statement body around z).after) (hn ∙ ap (λ (z : Reached). (done_by (maybe expression step) around z).after) (ht ∙ ap (λ (z : Reached). (tested_by (maybe expression test) around z).after) hf)))

-- how far a condition goes that may be missing
pub tested_goes : (test : Option Expr) (around : Around) (r : Reached) → (done_by (maybe expression test) around r).after ≡ (tested_by (maybe expression test) around r).after
tested_goes None around r = refl
tested_goes (Some e) around r = refl

pub break_walk : (e : Stmt) (around : Around) (r : Reached) (d lb lc : ℕ) (t0 t1 : Put) → e.kind ≡ v.Break → t1 ≡ added (w.Jump lb ∷ []) t0 → t1 ≡ went_statement (statement e around r).statement d lb lc t0
break_walk e around r d lb lc t0 t1 is h = for_it e around r _ d lb lc t0 t1 (is_break e around r is) (h ∙ sym (break_form d lb lc t0))

pub continue_walk : (e : Stmt) (around : Around) (r : Reached) (d lb lc : ℕ) (t0 t1 : Put) → e.kind ≡ v.Continue → t1 ≡ added (w.Jump lc ∷ []) t0 → t1 ≡ went_statement (statement e around r).statement d lb lc t0
continue_walk e around r d lb lc t0 t1 is h = for_it e around r _ d lb lc t0 t1 (is_continue e around r is) (h ∙ sym (continue_form d lb lc t0))

-- nor does a `return`
returned_by_value : (v : Value) (d lb lc : ℕ) (s : Put) → went_statement (return_of v) d lb lc s ≡ went_statement (return_of v) d 0 0 s
unfolding went_statement
returned_by_value (Numeric e) d lb lc s = refl
returned_by_value (Address p) d lb lc s = refl

returned_to : (value : Option Expr) (around : Around) (r : Reached) (d lb lc : ℕ) (s : Put) → went_statement (returned_by (maybe expression value) around r).statement d lb lc s ≡ went_statement (returned_by (maybe expression value) around r).statement d 0 0 s
returned_to None around r d lb lc s = return_form d lb lc s ∙ sym (return_form d 0 0 s)
returned_to (Some e) around r d lb lc s = returned_by_value _ d lb lc s

pub return_walk : (e : Stmt) (value : Option Expr) (around : Around) (r : Reached) (d lb lc : ℕ) (t0 t1 : Put) → e.kind ≡ v.Return value → t1 ≡ went_returned (returned_by (maybe expression value) around r).statement d t0
    → t1 ≡ went_statement (statement e around r).statement d lb lc t0
return_walk e value around r d lb lc t0 t1 is h = for_it e around r _ d lb lc t0 t1 (is_return e value around r is) (h ∙ sym (returned_to value around r d lb lc t0))

pub block_walk : (e : Stmt) (all : List Stmt) (around : Around) (r : Reached) (d lb lc : ℕ) (t0 t1 : Put) → e.kind ≡ v.Block all → t1 ≡ went_statement (all_stated (map statement all) around r).statement d lb lc t0
    → t1 ≡ went_statement (statement e around r).statement d lb lc t0
block_walk e all around r d lb lc t0 t1 is h = for_it e around r _ d lb lc t0 t1 (is_block e all around r is) h

-- ---- statements one after another

pub one_more : (all : List Stmt) (x : Stmt) (more : List Stmt) (around : Around) (r q : Reached) (d lb lc : ℕ) (t0 t1 : Put) → all ≡ x ∷ more → q ≡ (statement x around r).after → t1 ≡ went_statement (statement x around r).statement d lb lc t0
    → went_statement (all_stated (map statement more) around q).statement d lb lc t1 ≡ went_statement (all_stated (map statement all) around r).statement d lb lc t0
one_more all x more around r q d lb lc t0 t1 is hq h = let f = statement x around r in
    ap (λ (z : Put). went_statement (all_stated (map statement more) around q).statement d lb lc z) h ∙ ap (λ (z : Reached). went_statement (all_stated (map statement more) around z).statement d lb lc (went_statement f.statement d lb lc t0)) hq
    ∙ sym (then_went f.statement (all_stated (map statement more) around f.after).statement d lb lc t0)
    ∙ ap (λ (z : List Stmt). went_statement (all_stated (map statement z) around r).statement d lb lc t0) (sym is)

pub one_further : (all : List Stmt) (x : Stmt) (more : List Stmt) (around : Around) (r q : Reached) → all ≡ x ∷ more → q ≡ (statement x around r).after
    → (all_stated (map statement more) around q).after ≡ (all_stated (map statement all) around r).after
one_further all x more around r q is hq = ap (λ (z : Reached). (all_stated (map statement more) around z).after) hq ∙ ap (λ (z : List Stmt). (all_stated (map statement z) around r).after) (sym is)

pub all_done : (all : List Stmt) (around : Around) (r : Reached) (d lb lc : ℕ) (t e : Put) → all ≡ [] → went_statement (all_stated (map statement all) around r).statement d lb lc t ≡ e → t ≡ e
all_done all around r d lb lc t e is h = sym (skip_went d lb lc t) ∙ ap (λ (z : List Stmt). went_statement (all_stated (map statement z) around r).statement d lb lc t) (sym is) ∙ h

-- ---- declarations and `return`, by what may be missing

pub no_local : (init : Option Init) (around : Around) (q : Reached) (d : ℕ) (s : Put) → init ≡ None → s ≡ went_declared (declared (maybe (initialiser expression) init) around q).statement d s
no_local init around q d s is = sym (skip_went d 0 0 s) ∙ ap (λ (z : Option Init). went_declared (declared (maybe (initialiser expression) z) around q).statement d s) (sym is)

pub local_filled : (init : Option Init) (x : Init) (around : Around) (at q p : Reached) (bind : Bind) (t : CType) (lv : Lvalue) (d : ℕ) (s0 s1 : Put) → init ≡ Some x → at ≡ q → t ≡ declared_at around at → p ≡ past_declaration at → bind ≡ bind_at around at
    → lv ≡ local_of around (local_number bind) → s1 ≡ went_effects (initialiser expression x around t lv 0 p).effects d s0 → s1 ≡ went_declared (declared (maybe (initialiser expression) init) around q).statement d s0
local_filled init x around at q p bind t lv d s0 s1 is hq ht hp hb hl h = let E : CType → Lvalue → Reached → Put = λ t lv p. went_effects (initialiser expression x around t lv 0 p).effects d s0 in
    h ∙ ap (λ (z : CType). E z lv p) ht ∙ ap (λ (z : Lvalue). E (declared_at around at) z p) (hl ∙ ap (λ (z : Bind). local_of around (local_number z)) hb)
    ∙ ap (λ (z : Reached). E (declared_at around at) (local_of around (local_number (bind_at around at))) z) hp
    ∙ ap (λ (z : Reached). E (declared_at around z) (local_of around (local_number (bind_at around z))) (past_declaration z)) hq
    ∙ sym (effects_went (initialiser expression x around (declared_at around q) (local_of around (local_number (bind_at around q))) 0 (past_declaration q)).effects d 0 0 s0)
    ∙ ap (λ (z : Option Init). went_declared (declared (maybe (initialiser expression) z) around q).statement d s0) (sym is)

pub nothing_returned : (value : Option Expr) (around : Around) (r : Reached) (d : ℕ) (s0 s1 : Put) → value ≡ None → s1 ≡ added (w.Give None None ∷ []) s0 → s1 ≡ went_returned (returned_by (maybe expression value) around r).statement d s0
nothing_returned value around r d s0 s1 is h = h ∙ sym (return_form d 0 0 s0) ∙ ap (λ (z : Option Expr). went_returned (returned_by (maybe expression z) around r).statement d s0) (sym is)

pub value_returned : (value : Option Expr) (e : Expr) (around : Around) (r : Reached) (k : Sorted) (number given_number_is : Bool) (d : ℕ) (s0 s1 s2 : Put) → value ≡ Some e → k ≡ sorted (sort_of around.result)
    → number ≡ is_number (expression e around r).value → given_number_is ≡ given_number k number → s1 ≡ went_given k (expression e around r) d s0 → s2 ≡ added (giving given_number_is d) s1
    → s2 ≡ went_returned (returned_by (maybe expression value) around r).statement d s0
value_returned value e around r k number b d s0 s1 s2 is hk hn hb h1 h2 = let f = expression e around r in let G : Sorted → Bool → Put = λ k n. added (giving (given_number k n) d) (went_given k f d s0) in
    h2 ∙ ap (λ (n : Bool). added (giving n d) s1) hb ∙ ap (λ (z : Put). added (giving (given_number k number) d) z) h1 ∙ ap (λ (n : Bool). G k n) hn ∙ ap (λ (z : Sorted). G z (is_number f.value)) hk
    ∙ sym (given_form around f d 0 0 s0) ∙ ap (λ (z : Option Expr). went_returned (returned_by (maybe expression z) around r).statement d s0) (sym is)

-- nothing was put aside so far
pub fresh : (x : List FatStep) (l : ℕ) → x ≡ [] → ◌≡◌ {A = Put} (record { steps = x; label = l }) (record { steps = []; label = l })
fresh x l h = both x [] l l h refl

nothing_went : (d : ℕ) (s : Put) → went_effect Nothing d s ≡ s
unfolding went_effect
nothing_went d s = both _ _ _ _ (append-nil s.steps) (omega arith)

pub nothing_done : (value : Option Expr) (around : Around) (r : Reached) (d : ℕ) (s : Put) → value ≡ None → s ≡ went_effect (done_by (maybe expression value) around r).effect d s
nothing_done value around r d s is = sym (nothing_went d s) ∙ ap (λ (z : Option Expr). went_effect (done_by (maybe expression z) around r).effect d s) (sym is)

word_went : (d : ℕ) (s : Put) → went_number (Word 1) d s ≡ added (word_own 1 false d) s
unfolding went_number word_own
word_went d s = own (w.Const d 1 ∷ []) s

pub nothing_tested : (test : Option Expr) (around : Around) (r : Reached) (d : ℕ) (s0 s1 : Put) → test ≡ None → s1 ≡ added (word_own 1 false d) s0 → s1 ≡ went_number (tested_by (maybe expression test) around r).test d s0
nothing_tested test around r d s0 s1 is h = h ∙ sym (word_went d s0) ∙ ap (λ (z : Option Expr). went_number (tested_by (maybe expression z) around r).test d s0) (sym is)
