-- Which expressions are texts, and how a text fills an array.
use Rattle.std.proofs.Common.{◌≡◌, ℕ, zero, suc, ◌+◌, ◌-◌, Bool, Option, None, Some, List, [], ◌∷◌, refl, sym, ap, ◌∙◌, arith}
use Rattle.mx_base.specs.declared.numbers.IntKind.{IntKind}
use Rattle.mx_base.specs.declared.places.Place.{Place}
use Rattle.mx_base.specs.declared.operators.Arithmetic.{Arithmetic}
use Rattle.c_tree.specs.declared.operators.UnaryOp.{UnaryOp}
use Rattle.c_tree.specs.declared.operators.UnaryOp.TheVariants as u
use Rattle.c_tree.specs.declared.operators.BinaryOp.{BinaryOp}
use Rattle.c_tree.specs.declared.tree.Base.{Base}
use Rattle.c_tree.specs.declared.tree.Expr.{Expr}
use Rattle.c_tree.specs.declared.tree.ExprKind.TheVariants as v
use Rattle.c_types.specs.Types.{CType}
use Rattle.c_check_rules.specs.declared.predeclared.Bind.{Bind}
use Rattle.c_check_rules.specs.declared.predeclared.Bind.TheVariants.{Global, Local, Fun, Service, Builtin}
use Rattle.bounds_plan.specs.elaboration.Source.{Reached, Around}
use Rattle.bounds_plan.specs.elaboration.Expressions.{Found, named, unary, assign_by, expression}
use Rattle.bounds_plan.specs.elaboration.Initialisers.{bytes_of, text_filled}
use Rattle.steps_facts.specs.declared.knows.Standing.{Standing}
use Rattle.steps_facts.specs.Around.{standing_at}
use Rattle.steps_pieces.specs.Put.{Put}
use Rattle.steps_filling.specs.Effects.{went_effect, went_effects}
use Rattle.steps_filling.specs.Parts.{number_filled}
use Rattle.c_look.proofs.Expressions.{is_number, is_text, is_name, is_unary, is_binary, is_assign, is_step, is_cond, is_call, is_index, is_member, is_arrow, is_cast, is_size, is_sizeof}
use Rattle.c_emit_initialisers.specs.Texts.{HasText, first_word, behind_first}

bytes : Found → List ℕ
bytes f = bytes_of f.text

-- ---- by form

pub text_number : (e : Expr) (n : ℕ) (k : IntKind) → e.kind ≡ v.Number n k → HasText e []
text_number e n k is around r = ap (λ (z : Found). bytes_of z.text) (is_number e n k around r is)

pub text_text : (e : Expr) (all : List ℕ) → e.kind ≡ v.Text all → HasText e all
text_text e all is around r = ap (λ (z : Found). bytes_of z.text) (is_text e all around r is)

named_text : (around : Around) (t : CType) (b : Bind) (p : Place) (r : Reached) → bytes_of (named around t b p r).text ≡ []
named_text around t (Global n) p r = refl
named_text around t (Local n) p r = refl
named_text around t (Fun n) p r = refl
named_text around t (Service n) p r = refl
named_text around t (Builtin n) p r = refl

pub text_name : (e : Expr) (name : List ℕ) → e.kind ≡ v.Var name → HasText e []
text_name e name is around r = ap (λ (z : Found). bytes_of z.text) (is_name e name around r is) ∙ named_text around _ _ e.place _

unary_text : (op : UnaryOp) (t : CType) (a : Found) (p : Place) (r : Reached) → bytes_of (unary op t a p r).text ≡ []
unary_text u.Neg t a p r = refl
unary_text u.BitNot t a p r = refl
unary_text u.Not t a p r = refl
unary_text u.Deref t a p r = refl
unary_text u.AddressOf t a p r = refl

pub text_unary : (e : Expr) (op : UnaryOp) (a : Expr) → e.kind ≡ v.Unary op a → HasText e []
text_unary e op a is around r = ap (λ (z : Found). bytes_of z.text) (is_unary e op a around r is) ∙ unary_text op _ (expression a around r) e.place _

pub text_binary : (e : Expr) (op : BinaryOp) (a b : Expr) → e.kind ≡ v.Binary op a b → HasText e []
text_binary e op a b is around r = ap (λ (z : Found). bytes_of z.text) (is_binary e op a b around r is)

assign_text : (op : Option Arithmetic) (around : Around) (a b : Found) (p : Place) (r : Reached) → bytes_of (assign_by op around a b p r).text ≡ []
assign_text None around a b p r = refl
assign_text (Some op) around a b p r = refl

pub text_assign : (e : Expr) (op : Option Arithmetic) (a b : Expr) → e.kind ≡ v.Assign op a b → HasText e []
text_assign e op a b is around r = ap (λ (z : Found). bytes_of z.text) (is_assign e op a b around r is) ∙ assign_text op around _ _ e.place _

pub text_step : (e : Expr) (up before : Bool) (a : Expr) → e.kind ≡ v.StepBy up before a → HasText e []
text_step e up before a is around r = ap (λ (z : Found). bytes_of z.text) (is_step e up before a around r is)

pub text_cond : (e c a b : Expr) → e.kind ≡ v.Cond c a b → HasText e []
text_cond e c a b is around r = ap (λ (z : Found). bytes_of z.text) (is_cond e c a b around r is)

pub text_call : (e : Expr) (name : List ℕ) (es : List Expr) → e.kind ≡ v.Call name es → HasText e []
text_call e name es is around r = ap (λ (z : Found). bytes_of z.text) (is_call e name es around r is)

pub text_index : (e a i : Expr) → e.kind ≡ v.Index a i → HasText e []
text_index e a i is around r = ap (λ (z : Found). bytes_of z.text) (is_index e a i around r is)

pub text_member : (e a : Expr) (name : List ℕ) → e.kind ≡ v.Member a name → HasText e []
text_member e a name is around r = ap (λ (z : Found). bytes_of z.text) (is_member e a name around r is)

pub text_arrow : (e a : Expr) (name : List ℕ) → e.kind ≡ v.Arrow a name → HasText e []
text_arrow e a name is around r = ap (λ (z : Found). bytes_of z.text) (is_arrow e a name around r is)

pub text_cast : (e : Expr) (base : Base) (stars : ℕ) (a : Expr) → e.kind ≡ v.Cast base stars a → HasText e []
text_cast e base stars a is around r = ap (λ (z : Found). bytes_of z.text) (is_cast e base stars a around r is)

pub text_size : (e : Expr) (base : Base) (stars : ℕ) → e.kind ≡ v.SizeOfKind base stars → HasText e []
text_size e base stars is around r = ap (λ (z : Found). bytes_of z.text) (is_size e base stars around r is)

pub text_sizeof : (e a : Expr) → e.kind ≡ v.SizeOfValue a → HasText e []
text_sizeof e a is around r = ap (λ (z : Found). bytes_of z.text) (is_sizeof e a around r is)

-- ---- one byte more

text_one : (place : Place) (kind : IntKind) (n : ℕ) (at : Standing) (offset step : ℕ) (all : List ℕ)
    → text_filled place kind (suc n) (standing_at at) offset step all ≡ number_filled kind at offset place (first_word kind all) ∷ text_filled place kind n (standing_at at) (offset + step) step (behind_first all)
text_one place kind n at offset step [] = refl
text_one place kind n at offset step (b ∷ more) = refl

one_less : (n m : ℕ) → (n ≡ 0 → ⊥) → m ≡ n - 1 → n ≡ suc m
one_less zero m ne h = absurd (ne refl)
one_less (suc n) m ne h = omega arith

pub text_on : (place : Place) (kind : IntKind) (left less : ℕ) (at : Standing) (to far step : ℕ) (rest more : List ℕ) (word d : ℕ) (s0 s1 : Put) → (left ≡ 0 → ⊥) → less ≡ left - 1 → far ≡ to + step → more ≡ behind_first rest
    → word ≡ first_word kind rest → s1 ≡ went_effect (number_filled kind at to place word) d s0
    → went_effects (text_filled place kind less (standing_at at) far step more) d s1 ≡ went_effects (text_filled place kind left (standing_at at) to step rest) d s0
text_on place kind left less at to far step rest more word d s0 s1 ne hl hf hm hw h =
    ap (λ (z : Put). went_effects (text_filled place kind less (standing_at at) far step more) d z) (h ∙ ap (λ (z : ℕ). went_effect (number_filled kind at to place z) d s0) hw)
    ∙ ap (λ (z : ℕ). went_effects (text_filled place kind less (standing_at at) z step more) d (went_effect (number_filled kind at to place (first_word kind rest)) d s0)) hf
    ∙ ap (λ (z : List ℕ). went_effects (text_filled place kind less (standing_at at) (to + step) step z) d (went_effect (number_filled kind at to place (first_word kind rest)) d s0)) hm
    ∙ sym (ap (λ (z : ℕ). went_effects (text_filled place kind z (standing_at at) to step rest) d s0) (one_less left less ne hl) ∙ ap (λ es. went_effects es d s0) (text_one place kind less at to step rest))

pub text_end : (place : Place) (kind : IntKind) (left : ℕ) (at : Standing) (to step : ℕ) (rest : List ℕ) (d : ℕ) (s t : Put) → left ≡ 0 → went_effects (text_filled place kind left (standing_at at) to step rest) d s ≡ t → s ≡ t
text_end place kind left at to step rest d s t hl h = sym (ap (λ (z : ℕ). went_effects (text_filled place kind z (standing_at at) to step rest) d s) hl) ∙ h
