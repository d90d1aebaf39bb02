-- The rules that read from left to right relate what the grammar as it is written relates.
use Rattle.std.proofs.Common.{◌≡◌, inl, inr, ℕ, zero, suc, false, List, [], ◌∷◌, ◌++◌, refl, sym, ◌∙◌, ap, subst}
use Rattle.c_tokens.specs.declared.class.Class.TheVariants as k
use Rattle.mx_base.specs.declared.places.Place.{Place}
use Rattle.c_tree.specs.declared.tree.Base.TheVariants as b
use Rattle.c_tree.specs.declared.tree.Base.{Base}
use Rattle.c_tree.specs.declared.tree.Decl.{Decl}
use Rattle.c_tree.specs.declared.tree.Item.{Item}
use Rattle.mx_base.specs.declared.numbers.IntKind.{IntKind}
use Rattle.mx_base.specs.declared.numbers.IntKind.TheVariants.{I32}
use Rattle.c_grammar.specs.declared.parts.Mark.{Mark}
use Rattle.c_grammar.specs.declared.parts.Named.{Named}
use Rattle.c_grammar.specs.declared.parts.Operand.{Operand}
use Rattle.c_grammar.specs.declared.parts.Typed.{Typed}
use Rattle.c_grammar.specs.declared.parts.Level.{Level}
use Rattle.c_grammar.specs.declared.parts.Level.TheVariants as l
use Rattle.c_grammar.specs.Lexemes.{Lexeme}
use Rattle.c_grammar.specs.Rules as n
use Rattle.c_grammar.specs.Rules.{N, Of, Rx, seq, alt, map, nest, call, Reads_with}
use Rattle.c_grammar.specs.Grammar.{rule, ◌~◌, ◌=>◌, ◌or◌, Reads, Reads_within, mark, name, one_of, closing, first_of, others_of, other_prefixes, other_assigners}
use Rattle.c_grammar.specs.Nodes as made
use Rattle.c_grammar.specs.WrittenLaws as law
use Rattle.c_grammar.proofs.Relation.{opens, closes}

abbrev name_token : Rx Named
name_token = name

same_rest : {A : Type 0} (r : Rx A) (ts : List Lexeme) (v w : A) (mid rest : List Lexeme) → Reads_with Reads r ts v mid → rest ≡ mid → v ≡ w → Reads_with Reads r ts w rest
same_rest r ts v w mid rest x e f = subst (λ z. Reads_with Reads r ts z rest) f (subst (λ z. Reads_with Reads r ts v z) (sym e) x)

-- ---- assignments

abbrev assignment : Rx Operand
assignment = (call n.Conditional ~ nest (one_of k.Assign other_assigners) ~ call n.Assignment => (λ p. made.assigned p.1.0 p.0 p.1.1)) or call n.Conditional

assignment_tail : (ts : List Lexeme) (v a : Operand) (f : Operand → Operand) (mid rest : List Lexeme) → Reads n.Conditional ts a mid → f a ≡ v → Reads_with Reads (rule n.AssignmentTail) mid f rest → Reads_with Reads assignment ts v rest
assignment_tail ts v a f mid rest x e (inl y) = inl ((a, (y.0.0, y.0.1)), (mid, x, (y.1.0, y.1.1, y.1.2)), ap (λ z. z a) y.2 ∙ e)
assignment_tail ts v a f mid rest x e (inr y) = inr (same_rest (call n.Conditional) ts a v mid rest x y.1 (ap (λ z. z a) y.2 ∙ e))

to_assignment : (ts : List Lexeme) (v : Operand) (rest : List Lexeme) → Reads n.Assignment ts v rest → Reads_with Reads assignment ts v rest
to_assignment ts v rest x =
    let y = opens n.Assignment ts v rest x in
    assignment_tail ts v y.0.0 y.0.1 y.1.0 rest y.1.1 y.2 (opens n.AssignmentTail y.1.0 y.0.1 rest y.1.2)

from_assignment : (ts : List Lexeme) (v : Operand) (rest : List Lexeme) → Reads_with Reads assignment ts v rest → Reads n.Assignment ts v rest
from_assignment ts v rest (inl x) = closes n.Assignment ts v rest ((x.0.0, λ left. made.assigned x.0.1.0 left x.0.1.1), (x.1.0, x.1.1, closes n.AssignmentTail x.1.0 (λ left. made.assigned x.0.1.0 left x.0.1.1) rest (inl ((x.0.1.0, x.0.1.1), (x.1.2.0, x.1.2.1, x.1.2.2), refl))), x.2)
from_assignment ts v rest (inr x) = closes n.Assignment ts v rest ((v, λ left. left), (rest, x, closes n.AssignmentTail rest (λ left. left) rest (inr (tt, refl, refl))), refl)

pub assignment_as_written : law.AssignmentAsWritten
assignment_as_written ts v rest = (to_assignment ts v rest, from_assignment ts v rest)

-- ---- conditional expressions

abbrev conditional : Rx Operand
conditional = (call (n.Binary l.Either) ~ nest (mark k.Question) ~ call n.Assignment ~ mark k.Colon ~ call n.Conditional => (λ p. made.chosen p.0 p.1.1.0 p.1.1.1.1)) or call (n.Binary l.Either)

conditional_tail : (ts : List Lexeme) (v a : Operand) (f : Operand → Operand) (mid rest : List Lexeme) → Reads (n.Binary l.Either) ts a mid → f a ≡ v → Reads_with Reads (rule n.ConditionalTail) mid f rest → Reads_with Reads conditional ts v rest
conditional_tail ts v a f mid rest x e (inl y) = inl ((a, y.0), (mid, x, y.1), ap (λ z. z a) y.2 ∙ e)
conditional_tail ts v a f mid rest x e (inr y) = inr (same_rest (call (n.Binary l.Either)) ts a v mid rest x y.1 (ap (λ z. z a) y.2 ∙ e))

to_conditional : (ts : List Lexeme) (v : Operand) (rest : List Lexeme) → Reads n.Conditional ts v rest → Reads_with Reads conditional ts v rest
to_conditional ts v rest x =
    let y = opens n.Conditional ts v rest x in
    conditional_tail ts v y.0.0 y.0.1 y.1.0 rest y.1.1 y.2 (opens n.ConditionalTail y.1.0 y.0.1 rest y.1.2)

from_conditional : (ts : List Lexeme) (v : Operand) (rest : List Lexeme) → Reads_with Reads conditional ts v rest → Reads n.Conditional ts v rest
from_conditional ts v rest (inl x) = closes n.Conditional ts v rest ((x.0.0, λ test. made.chosen test x.0.1.1.0 x.0.1.1.1.1), (x.1.0, x.1.1, closes n.ConditionalTail x.1.0 (λ test. made.chosen test x.0.1.1.0 x.0.1.1.1.1) rest (inl (x.0.1, x.1.2, refl))), x.2)
from_conditional ts v rest (inr x) = closes n.Conditional ts v rest ((v, λ test. test), (rest, x, closes n.ConditionalTail rest (λ test. test) rest (inr (tt, refl, refl))), refl)

pub conditional_as_written : law.ConditionalAsWritten
conditional_as_written ts v rest = (to_conditional ts v rest, from_conditional ts v rest)

-- ---- the levels of operators

module _ (m : Level) where
  abbrev operator : Rx Mark
  operator = nest (one_of (first_of m) (others_of m))

  abbrev binary : Rx Operand
  binary = (call (n.Binary m) ~ operator ~ call (n.Side m) => (λ p. made.joined p.1.0 p.0 p.1.1)) or call (n.Side m)

  -- an expression of the level so far, and what stands after it
  alone : (ts : List Lexeme) (a : Operand) (rest : List Lexeme) → Reads (n.Side m) ts a rest → Reads (n.Binary m) ts a rest
  alone ts a rest x = closes (n.Binary m) ts a rest ((a, λ left. left), (rest, x, closes (n.BinaryTail m) rest (λ left. left) rest (inr (tt, refl, refl))), refl)

  -- one operator and operand more at the end of a tail
  longer : (h : ℕ) (ts mid mid2 rest : List Lexeme) (f : Operand → Operand) (op : Mark) (c : Operand) → Reads_within h (n.BinaryTail m) ts f mid → Reads_with Reads operator mid op mid2 → Reads (n.Side m) mid2 c rest → Reads (n.BinaryTail m) ts (λ left. made.joined op (f left) c) rest
  longer zero ts mid mid2 rest f op c x o y = absurd x
  longer (suc h) ts mid mid2 rest f op c (inl x) o y =
      let g : Reads (n.BinaryTail m) x.1.2.0 (λ left. made.joined op (x.0.1.1 left) c) rest = longer h x.1.2.0 mid mid2 rest x.0.1.1 op c x.1.2.2 o y in
      closes (n.BinaryTail m) ts (λ left. made.joined op (f left) c) rest (inl ((x.0.0, (x.0.1.0, λ left. made.joined op (x.0.1.1 left) c)), (x.1.0, x.1.1, (x.1.2.0, side h x.1.0 x.0.1.0 x.1.2.0 x.1.2.1, g)), ap (λ z. λ (left : Operand). made.joined op (z left) c) x.2))
    where
      side : (h : ℕ) (us : List Lexeme) (v : Operand) (end : List Lexeme) → Reads_within h (n.Side m) us v end → Reads (n.Side m) us v end
      side h us v end z = record { height = h; reads = z }
  longer (suc h) ts mid mid2 rest f op c (inr x) o y =
      closes (n.BinaryTail m) ts (λ left. made.joined op (f left) c) rest (inl ((op, (c, λ left. left)), (mid2, subst (λ z. Reads_with Reads operator z op mid2) x.1 o, (rest, y, closes (n.BinaryTail m) rest (λ left. left) rest (inr (tt, refl, refl)))), ap (λ z. λ (left : Operand). made.joined op (z left) c) x.2))

  from_binary : (ts : List Lexeme) (v : Operand) (rest : List Lexeme) → Reads_with Reads binary ts v rest → Reads (n.Binary m) ts v rest
  from_binary ts v rest (inr x) = alone ts v rest x
  from_binary ts v rest (inl x) =
      let y = opens (n.Binary m) ts x.0.0 x.1.0 x.1.1 in
      let t : Reads (n.BinaryTail m) y.1.0 y.0.1 x.1.0 = y.1.2 in
      let g = longer t.height y.1.0 x.1.0 x.1.2.0 rest y.0.1 x.0.1.0 x.0.1.1 t.reads x.1.2.1 x.1.2.2 in
      closes (n.Binary m) ts v rest ((y.0.0, λ left. made.joined x.0.1.0 (y.0.1 left) x.0.1.1), (y.1.0, y.1.1, g), ap (λ z. made.joined x.0.1.0 z x.0.1.1) y.2 ∙ x.2)

  -- what an expression so far and a tail after it relate is an expression that ends with an operator and an operand, or the expression so far
  onward : (h : ℕ) (start ts rest : List Lexeme) (a : Operand) (f : Operand → Operand) → Reads_with Reads binary start a ts → Reads_within h (n.BinaryTail m) ts f rest → Reads_with Reads binary start (f a) rest
  onward zero start ts rest a f x y = absurd y
  onward (suc h) start ts rest a f x (inr y) = same_rest binary start a (f a) ts rest x y.1 (ap (λ z. z a) y.2)
  onward (suc h) start ts rest a f x (inl y) =
      let w : Reads_with Reads binary start (made.joined y.0.0 a y.0.1.0) y.1.2.0 = inl ((a, (y.0.0, y.0.1.0)), (ts, from_binary start a ts x, (y.1.0, y.1.1, record { height = h; reads = y.1.2.1 })), refl) in
      subst (λ z. Reads_with Reads binary start z rest) (ap (λ z. z a) y.2) (onward h start y.1.2.0 rest (made.joined y.0.0 a y.0.1.0) y.0.1.1 w y.1.2.2)

  to_binary : (ts : List Lexeme) (v : Operand) (rest : List Lexeme) → Reads (n.Binary m) ts v rest → Reads_with Reads binary ts v rest
  to_binary ts v rest x =
      let y = opens (n.Binary m) ts v rest x in
      let t : Reads (n.BinaryTail m) y.1.0 y.0.1 rest = y.1.2 in
      subst (λ z. Reads_with Reads binary ts z rest) y.2 (onward t.height ts y.1.0 rest y.0.0 y.0.1 (inr y.1.1) t.reads)

pub binary_as_written : law.BinaryAsWritten
binary_as_written m ts v rest = (to_binary m ts v rest, from_binary m ts v rest)

-- ---- parameters

abbrev parameters : Rx (List Decl)
parameters = (mark k.Void => (λ _. [])) or (call n.Parameter ~ call n.MoreParameters => (λ p. p.0 ∷ p.1))

void_base : (ts : List Lexeme) (p : Place) (rest : List Lexeme) → Reads_with Reads (mark k.Void) ts p rest → Reads n.AnyBase ts (made.typed_at p b.Void) rest
void_base ts p rest x = closes n.AnyBase ts (made.typed_at p b.Void) rest (inl (p, x, refl))

object_base : (ts : List Lexeme) (t : Typed) (rest : List Lexeme) → Reads n.ObjectBase ts t rest → Reads n.AnyBase ts t rest
object_base ts t rest x = closes n.AnyBase ts t rest (inr x)

after_void : (ts : List Lexeme) (v : List Decl) (p : Place) (f : Place → List Decl) (mid rest : List Lexeme) → Reads_with Reads (mark k.Void) ts p mid → f p ≡ v → Reads_with Reads (rule n.AfterVoid) mid f rest → Reads_with Reads parameters ts v rest
after_void ts v p f mid rest x e (inr y) = inl (p, same_rest (mark k.Void) ts p p mid rest x y.1 refl, ap (λ z. z p) y.2 ∙ e)
after_void ts v p f mid rest x e (inl y) = inr ((made.parameter p b.Void y.0.0 y.0.1.0, y.0.1.1), (y.1.2.0, closes n.Parameter ts (made.parameter p b.Void y.0.0 y.0.1.0) y.1.2.0 ((made.typed_at p b.Void, (y.0.0, y.0.1.0)), (mid, void_base ts p mid x, (y.1.0, y.1.1, y.1.2.1)), refl), y.1.2.2), ap (λ z. z p) y.2 ∙ e)

to_parameters_open : (ts : List Lexeme) (v : List Decl) (rest : List Lexeme) → Reads_with Reads (rule n.Parameters) ts v rest → Reads_with Reads parameters ts v rest
to_parameters_open ts v rest (inl x) = after_void ts v x.0.0 x.0.1 x.1.0 rest x.1.1 x.2 (opens n.AfterVoid x.1.0 x.0.1 rest x.1.2)
to_parameters_open ts v rest (inr x) = inr ((made.parameter x.0.0.start x.0.0.base x.0.1.0 x.0.1.1.0, x.0.1.1.1), (x.1.2.2.0, closes n.Parameter ts (made.parameter x.0.0.start x.0.0.base x.0.1.0 x.0.1.1.0) x.1.2.2.0 ((x.0.0, (x.0.1.0, x.0.1.1.0)), (x.1.0, object_base ts x.0.0 x.1.0 x.1.1, (x.1.2.0, x.1.2.1, x.1.2.2.1)), refl), x.1.2.2.2), x.2)

from_first : (ts : List Lexeme) (v : List Decl) (t : Typed) (stars : ℕ) (q : Named) (more : List Decl) (m1 m2 m3 rest : List Lexeme) → Reads_with Reads (rule n.AnyBase) ts t m1 → Reads (n.Stars 255) m1 stars m2 → Reads_with Reads name_token m2 q m3 → Reads n.MoreParameters m3 more rest → made.parameter t.start t.base stars q ∷ more ≡ v → Reads n.Parameters ts v rest
from_first ts v t stars name more m1 m2 m3 rest (inr x) s q r e = closes n.Parameters ts v rest (inr ((t, (stars, (name, more))), (m1, x, (m2, s, (m3, q, r))), e))
from_first ts v t stars name more m1 m2 m3 rest (inl x) s q r e =
    let f : Place → List Decl = λ start. made.parameter start b.Void stars name ∷ more in
    closes n.Parameters ts v rest (inl ((x.0, f), (m1, x.1, closes n.AfterVoid m1 f rest (inl ((stars, (name, more)), (m2, s, (m3, q, r)), refl))), ap (λ z. made.parameter z.start z.base stars name ∷ more) x.2 ∙ e))

from_parameters : (ts : List Lexeme) (v : List Decl) (rest : List Lexeme) → Reads_with Reads parameters ts v rest → Reads n.Parameters ts v rest
from_parameters ts v rest (inl x) = closes n.Parameters ts v rest (inl ((x.0, λ start. []), (rest, x.1, closes n.AfterVoid rest (λ start. []) rest (inr (tt, refl, refl))), x.2))
from_parameters ts v rest (inr x) =
    let y = opens n.Parameter ts x.0.0 x.1.0 x.1.1 in
    from_first ts v y.0.0 y.0.1.0 y.0.1.1 x.0.1 y.1.0 y.1.2.0 x.1.0 rest (opens n.AnyBase ts y.0.0 y.1.0 y.1.1) y.1.2.1 y.1.2.2 x.1.2 (ap (λ z. z ∷ x.0.1) y.2 ∙ x.2)

pub parameters_as_written : law.ParametersAsWritten
parameters_as_written ts v rest = (λ x. to_parameters_open ts v rest (opens n.Parameters ts v rest x), from_parameters ts v rest)

-- ---- bases

abbrev base : Rx Typed
base = (mark k.Void => (λ place. made.typed_at place b.Void)) or (mark k.Signed ~ call n.Width => (λ p. made.typed_at p.0 (b.Int p.1.1))) or (mark k.Unsigned ~ call n.Width => (λ p. made.typed_at p.0 (b.Int (made.unsigned_of p.1.1)))) or (call n.Width => (λ p. made.typed_at p.0 (b.Int p.1))) or (mark k.Unsigned => (λ place. made.typed_at place (b.Int (made.unsigned_of I32)))) or (mark k.Struct ~ name => (λ p. made.typed_at p.0 (b.Struct p.1.name)))

to_unsigned : (ts : List Lexeme) (t : Typed) (p : Place) (kind : IntKind) (mid rest : List Lexeme) → Reads_with Reads (mark k.Unsigned) ts p mid → made.typed_at p (b.Int kind) ≡ t → Reads_with Reads (rule n.MaybeWidth) mid kind rest → Reads_with Reads base ts t rest
to_unsigned ts t p kind mid rest x e (inl y) = inr (inr (inl ((p, y.0), (mid, x, y.1), ap (λ z. made.typed_at p (b.Int z)) y.2 ∙ e)))
to_unsigned ts t p kind mid rest x e (inr y) = inr (inr (inr (inr (inl (p, same_rest (mark k.Unsigned) ts p p mid rest x y.1 refl, ap (λ z. made.typed_at p (b.Int z)) y.2 ∙ e)))))

to_integer : (ts : List Lexeme) (t : Typed) (i : Place × IntKind) (rest : List Lexeme) → made.typed_at i.0 (b.Int i.1) ≡ t → Reads_with Reads (rule n.Integer) ts i rest → Reads_with Reads base ts t rest
to_integer ts t i rest e (inl x) = inr (inl (x.0, x.1, ap (λ z. made.typed_at z.0 (b.Int z.1)) x.2 ∙ e))
to_integer ts t i rest e (inr (inl x)) = to_unsigned ts t x.0.0 x.0.1 x.1.0 rest x.1.1 (ap (λ z. made.typed_at z.0 (b.Int z.1)) x.2 ∙ e) (opens n.MaybeWidth x.1.0 x.0.1 rest x.1.2)
to_integer ts t i rest e (inr (inr x)) = inr (inr (inr (inl (i, x, e))))

to_object : (ts : List Lexeme) (t : Typed) (rest : List Lexeme) → Reads_with Reads (rule n.ObjectBase) ts t rest → Reads_with Reads base ts t rest
to_object ts t rest (inl x) = inr (inr (inr (inr (inr x))))
to_object ts t rest (inr x) = to_integer ts t x.0 rest x.2 (opens n.Integer ts x.0 rest x.1)

to_base : (ts : List Lexeme) (t : Typed) (rest : List Lexeme) → Reads_with Reads (rule n.AnyBase) ts t rest → Reads_with Reads base ts t rest
to_base ts t rest (inl x) = inl x
to_base ts t rest (inr x) = to_object ts t rest (opens n.ObjectBase ts t rest x)

integer_base : (ts : List Lexeme) (t : Typed) (i : Place × IntKind) (rest : List Lexeme) → Reads_with Reads (rule n.Integer) ts i rest → made.typed_at i.0 (b.Int i.1) ≡ t → Reads n.AnyBase ts t rest
integer_base ts t i rest x e = closes n.AnyBase ts t rest (inr (closes n.ObjectBase ts t rest (inr (i, closes n.Integer ts i rest x, e))))

from_base : (ts : List Lexeme) (t : Typed) (rest : List Lexeme) → Reads_with Reads base ts t rest → Reads n.AnyBase ts t rest
from_base ts t rest (inl x) = closes n.AnyBase ts t rest (inl x)
from_base ts t rest (inr (inl x)) = integer_base ts t (x.0.0, x.0.1.1) rest (inl (x.0, x.1, refl)) x.2
from_base ts t rest (inr (inr (inl x))) = integer_base ts t (x.0.0, made.unsigned_of x.0.1.1) rest (inr (inl ((x.0.0, made.unsigned_of x.0.1.1), (x.1.0, x.1.1, closes n.MaybeWidth x.1.0 (made.unsigned_of x.0.1.1) rest (inl (x.0.1, x.1.2, refl))), refl))) x.2
from_base ts t rest (inr (inr (inr (inl x)))) = integer_base ts t x.0 rest (inr (inr x.1)) x.2
from_base ts t rest (inr (inr (inr (inr (inl x))))) = integer_base ts t (x.0, made.unsigned_of I32) rest (inr (inl ((x.0, made.unsigned_of I32), (rest, x.1, closes n.MaybeWidth rest (made.unsigned_of I32) rest (inr (tt, refl, refl))), refl))) x.2
from_base ts t rest (inr (inr (inr (inr (inr x))))) = closes n.AnyBase ts t rest (inr (closes n.ObjectBase ts t rest (inl x)))

pub base_as_written : law.BaseAsWritten
base_as_written ts t rest = (λ x. to_base ts t rest (opens n.AnyBase ts t rest x), from_base ts t rest)

-- ---- unary expressions

abbrev unary : Rx Operand
unary = (nest (one_of k.Minus other_prefixes) ~ call n.Unary => (λ p. made.prefixed p.0 p.1)) or (nest (mark k.OpenParen) ~ call n.TypeName ~ mark k.CloseParen ~ call n.Unary => (λ p. made.cast_at p.0 p.1.0 p.1.1.1)) or (nest (mark k.SizeOf) ~ nest (mark k.OpenParen) ~ closing (call n.TypeName ~ mark k.CloseParen) => (λ p. made.size_of_kind p.0 p.1.1.0)) or (nest (mark k.SizeOf) ~ (call n.Plain or (law.enclosed ~ call n.Parts => (λ p. p.1 p.0))) => (λ p. made.size_of_value p.0 p.1)) or law.postfix

to_opened : (ts : List Lexeme) (v : Operand) (p : Place) (f : Place → Operand) (mid rest : List Lexeme) → Reads_with Reads (mark k.OpenParen) ts p mid → f p ≡ v → Reads_with Reads (rule n.Opened) mid f rest → Reads_with Reads unary ts v rest
to_opened ts v p f mid rest x e (inl y) = inr (inl ((p, y.0), (mid, x, y.1), ap (λ z. z p) y.2 ∙ e))
to_opened ts v p f mid rest x e (inr y) = inr (inr (inr (inr ((made.enclosed p y.0.0.0, y.0.1), (y.1.0, inr ((p, y.0.0), (mid, x, y.1.1), refl), y.1.2), ap (λ z. z p) y.2 ∙ e))))

to_sized_opened : (ts : List Lexeme) (v : Operand) (p o : Place) (g : Place → Place → Operand) (m1 m2 rest : List Lexeme) → Reads_with Reads (mark k.SizeOf) ts p m1 → Reads_with Reads (mark k.OpenParen) m1 o m2 → g p o ≡ v → Reads_with Reads (rule n.SizedOpened) m2 g rest → Reads_with Reads unary ts v rest
to_sized_opened ts v p o g m1 m2 rest x y e (inl z) = inr (inr (inl ((p, (o, z.0)), (m1, x, (m2, y, z.1)), ap (λ h. h p o) z.2 ∙ e)))
to_sized_opened ts v p o g m1 m2 rest x y e (inr z) = inr (inr (inr (inl ((p, z.0.1 (made.enclosed o z.0.0.0)), (m1, x, inr ((made.enclosed o z.0.0.0, z.0.1), (z.1.0, ((o, z.0.0), (m2, y, z.1.1), refl), z.1.2), refl)), ap (λ h. h p o) z.2 ∙ e))))

to_sized : (ts : List Lexeme) (v : Operand) (p : Place) (f : Place → Operand) (mid rest : List Lexeme) → Reads_with Reads (mark k.SizeOf) ts p mid → f p ≡ v → Reads_with Reads (rule n.Sized) mid f rest → Reads_with Reads unary ts v rest
to_sized ts v p f mid rest x e (inl y) = to_sized_opened ts v p y.0.0 y.0.1 mid y.1.0 rest x y.1.1 (ap (λ z. z p) y.2 ∙ e) (opens n.SizedOpened y.1.0 y.0.1 rest y.1.2)
to_sized ts v p f mid rest x e (inr y) = inr (inr (inr (inl ((p, y.0), (mid, x, inl y.1), ap (λ z. z p) y.2 ∙ e))))

to_plain : (ts : List Lexeme) (v : Operand) (rest : List Lexeme) → Reads_with Reads (rule n.Plain) ts v rest → Reads_with Reads unary ts v rest
to_plain ts v rest (inl x) = inl x
to_plain ts v rest (inr (inl x)) = to_sized ts v x.0.0 x.0.1 x.1.0 rest x.1.1 x.2 (opens n.Sized x.1.0 x.0.1 rest x.1.2)
to_plain ts v rest (inr (inr x)) = inr (inr (inr (inr (x.0, (x.1.0, inl x.1.1, x.1.2), x.2))))

to_unary : (ts : List Lexeme) (v : Operand) (rest : List Lexeme) → Reads_with Reads (rule n.Unary) ts v rest → Reads_with Reads unary ts v rest
to_unary ts v rest (inl x) = to_opened ts v x.0.0 x.0.1 x.1.0 rest x.1.1 x.2 (opens n.Opened x.1.0 x.0.1 rest x.1.2)
to_unary ts v rest (inr x) = to_plain ts v rest (opens n.Plain ts v rest x)

plain_unary : (ts : List Lexeme) (v : Operand) (rest : List Lexeme) → Reads_with Reads (rule n.Plain) ts v rest → Reads n.Unary ts v rest
plain_unary ts v rest x = closes n.Unary ts v rest (inr (closes n.Plain ts v rest x))

from_sized : (ts : List Lexeme) (v a : Operand) (p : Place) (mid rest : List Lexeme) → Reads_with Reads (mark k.SizeOf) ts p mid → made.size_of_value p a ≡ v → Reads_with Reads (call n.Plain or (law.enclosed ~ call n.Parts => (λ q. q.1 q.0))) mid a rest → Reads n.Unary ts v rest
from_sized ts v a p mid rest x e (inl y) =
    let f : Place → Operand = λ start. made.size_of_value start a in
    plain_unary ts v rest (inr (inl ((p, f), (mid, x, closes n.Sized mid f rest (inr (a, y, refl))), e)))
from_sized ts v a p mid rest x e (inr y) =
    let c = y.1.1 in
    let g : Place → Place → Operand = λ start inner. made.size_of_value start (y.0.1 (made.enclosed inner c.0.1.0)) in
    let f : Place → Operand = λ start. g start c.0.0 in
    plain_unary ts v rest (inr (inl ((p, f), (mid, x, closes n.Sized mid f rest (inl ((c.0.0, g), (c.1.0, c.1.1, closes n.SizedOpened c.1.0 g rest (inr ((c.0.1, y.0.1), (y.1.0, c.1.2, y.1.2), refl))), refl))), ap (λ z. made.size_of_value p (y.0.1 z)) c.2 ∙ ap (made.size_of_value p) y.2 ∙ e)))

from_postfix : (ts : List Lexeme) (v a : Operand) (g : Operand → Operand) (mid rest : List Lexeme) → g a ≡ v → Reads n.Parts mid g rest → Reads_with Reads (call n.Atom or law.enclosed) ts a mid → Reads n.Unary ts v rest
from_postfix ts v a g mid rest e y (inl x) = plain_unary ts v rest (inr (inr ((a, g), (mid, x, y), e)))
from_postfix ts v a g mid rest e y (inr x) =
    let f : Place → Operand = λ start. g (made.enclosed start x.0.1.0) in
    closes n.Unary ts v rest (inl ((x.0.0, f), (x.1.0, x.1.1, closes n.Opened x.1.0 f rest (inr ((x.0.1, g), (mid, x.1.2, y), refl))), ap g x.2 ∙ e))

from_unary : (ts : List Lexeme) (v : Operand) (rest : List Lexeme) → Reads_with Reads unary ts v rest → Reads n.Unary ts v rest
from_unary ts v rest (inl x) = plain_unary ts v rest (inl x)
from_unary ts v rest (inr (inl x)) =
    let f : Place → Operand = λ start. made.cast_at start x.0.1.0 x.0.1.1.1 in
    closes n.Unary ts v rest (inl ((x.0.0, f), (x.1.0, x.1.1, closes n.Opened x.1.0 f rest (inl (x.0.1, x.1.2, refl))), x.2))
from_unary ts v rest (inr (inr (inl x))) =
    let g : Place → Place → Operand = λ start inner. made.size_of_kind start x.0.1.1.0 in
    let f : Place → Operand = λ start. g start x.0.1.0 in
    plain_unary ts v rest (inr (inl ((x.0.0, f), (x.1.0, x.1.1, closes n.Sized x.1.0 f rest (inl ((x.0.1.0, g), (x.1.2.0, x.1.2.1, closes n.SizedOpened x.1.2.0 g rest (inl (x.0.1.1, x.1.2.2, refl))), refl))), x.2)))
from_unary ts v rest (inr (inr (inr (inl x)))) = from_sized ts v x.0.1 x.0.0 x.1.0 rest x.1.1 x.2 x.1.2
from_unary ts v rest (inr (inr (inr (inr x)))) = from_postfix ts v x.0.0 x.0.1 x.1.0 rest x.2 x.1.2 x.1.1

pub unary_as_written : law.UnaryAsWritten
unary_as_written ts v rest = (λ x. to_unary ts v rest (opens n.Unary ts v rest x), from_unary ts v rest)

-- ---- what stands at the outermost level

abbrev external : Rx (List Item)
external = law.struct_item or law.external_declaration or law.global_declaration or law.function

plain_base : (ts : List Lexeme) (t : Typed) (rest : List Lexeme) → Reads_with Reads (rule n.PlainBase) ts t rest → Reads n.AnyBase ts t rest
plain_base ts t rest (inl x) = closes n.AnyBase ts t rest (inl x)
plain_base ts t rest (inr x) = object_base ts t rest (closes n.ObjectBase ts t rest (inr x))

to_after_name : (ts : List Lexeme) (v : List Item) (t : Typed) (stars : ℕ) (q : Named) (g : Place → Base → ℕ → Named → List Item) (m1 m2 m3 rest : List Lexeme) → Reads n.AnyBase ts t m1 → Reads (n.Stars 255) m1 stars m2 → Reads_with Reads name_token m2 q m3 → g t.start t.base stars q ≡ v → Reads_with Reads (rule n.AfterName) m3 g rest → Reads_with Reads external ts v rest
to_after_name ts v t stars q g m1 m2 m3 rest x s y e (inl z) = inr (inr (inr ((t, (stars, (q, z.0))), (m1, x, (m2, s, (m3, y, z.1))), ap (λ h. h t.start t.base stars q) z.2 ∙ e)))
to_after_name ts v t stars q g m1 m2 m3 rest x s y e (inr z) = inr (inr (inl ((t, (stars, (q, z.0))), (m1, x, (m2, s, (m3, y, z.1))), ap (λ h. h t.start t.base stars q) z.2 ∙ e)))

struct_base : (ts : List Lexeme) (p : Place) (q : Named) (m1 rest : List Lexeme) → Reads_with Reads (mark k.Struct) ts p m1 → Reads_with Reads name_token m1 q rest → Reads n.AnyBase ts (made.typed_at p (b.Struct q.name)) rest
struct_base ts p q m1 rest x y = object_base ts _ rest (closes n.ObjectBase ts (made.typed_at p (b.Struct q.name)) rest (inl ((p, q), (m1, x, y), refl)))

to_after_tag : (ts : List Lexeme) (v : List Item) (p : Place) (q : Named) (f : Place → List ℕ → List Item) (m1 m2 rest : List Lexeme) → Reads_with Reads (mark k.Struct) ts p m1 → Reads_with Reads name_token m1 q m2 → f p q.name ≡ v → Reads_with Reads (rule n.AfterTag) m2 f rest → Reads_with Reads external ts v rest
to_after_tag ts v p q f m1 m2 rest x y e (inl z) = inl ((p, (q, z.0)), (m1, x, (m2, y, z.1)), ap (λ h. h p q.name) z.2 ∙ e)
to_after_tag ts v p q f m1 m2 rest x y e (inr z) = to_after_name ts v (made.typed_at p (b.Struct q.name)) z.0.0 z.0.1.0 z.0.1.1 m2 z.1.0 z.1.2.0 rest (struct_base ts p q m1 m2 x y) z.1.1 z.1.2.1 (ap (λ h. h p q.name) z.2 ∙ e) (opens n.AfterName z.1.2.0 z.0.1.1 rest z.1.2.2)

to_external : (ts : List Lexeme) (v : List Item) (rest : List Lexeme) → Reads_with Reads (rule n.External) ts v rest → Reads_with Reads external ts v rest
to_external ts v rest (inl x) = inr (inl x)
to_external ts v rest (inr (inl x)) = to_after_tag ts v x.0.0 x.0.1.0 x.0.1.1 x.1.0 x.1.2.0 rest x.1.1 x.1.2.1 x.2 (opens n.AfterTag x.1.2.0 x.0.1.1 rest x.1.2.2)
to_external ts v rest (inr (inr x)) = to_after_name ts v x.0.0 x.0.1.0 x.0.1.1.0 x.0.1.1.1 x.1.0 x.1.2.0 x.1.2.2.0 rest (plain_base ts x.0.0 x.1.0 (opens n.PlainBase ts x.0.0 x.1.0 x.1.1)) x.1.2.1 x.1.2.2.1 x.2 (opens n.AfterName x.1.2.2.0 x.0.1.1.1 rest x.1.2.2.2)

module _ (v : List Item) (stars : ℕ) (q : Named) (g : Place → Base → ℕ → Named → List Item) (m1 m2 m3 rest : List Lexeme) (s : Reads (n.Stars 255) m1 stars m2) (y : Reads_with Reads name_token m2 q m3) (a : Reads n.AfterName m3 g rest) where
  from_plain : (ts : List Lexeme) (t : Typed) → g t.start t.base stars q ≡ v → Reads_with Reads (rule n.PlainBase) ts t m1 → Reads n.External ts v rest
  from_plain ts t e x = closes n.External ts v rest (inr (inr ((t, (stars, (q, g))), (m1, closes n.PlainBase ts t m1 x, (m2, s, (m3, y, a))), e)))

  from_object : (ts : List Lexeme) (t : Typed) → g t.start t.base stars q ≡ v → Reads_with Reads (rule n.ObjectBase) ts t m1 → Reads n.External ts v rest
  from_object ts t e (inr x) = from_plain ts t e (inr x)
  from_object ts t e (inl x) =
      let f : Place → List ℕ → List Item = λ start tag. g start (b.Struct tag) stars q in
      closes n.External ts v rest (inr (inl ((x.0.0, (x.0.1, f)), (x.1.0, x.1.1, (m1, x.1.2, closes n.AfterTag m1 f rest (inr ((stars, (q, g)), (m2, s, (m3, y, a)), refl)))), ap (λ z. g z.start z.base stars q) x.2 ∙ e)))

  from_any : (ts : List Lexeme) (t : Typed) → g t.start t.base stars q ≡ v → Reads_with Reads (rule n.AnyBase) ts t m1 → Reads n.External ts v rest
  from_any ts t e (inl x) = from_plain ts t e (inl x)
  from_any ts t e (inr x) = from_object ts t e (opens n.ObjectBase ts t m1 x)

from_external : (ts : List Lexeme) (v : List Item) (rest : List Lexeme) → Reads_with Reads external ts v rest → Reads n.External ts v rest
from_external ts v rest (inl x) =
    let f : Place → List ℕ → List Item = λ start tag. made.struct_item start tag (x.0.1.1.0.1.0 ++ x.0.1.1.0.1.1) in
    closes n.External ts v rest (inr (inl ((x.0.0, (x.0.1.0, f)), (x.1.0, x.1.1, (x.1.2.0, x.1.2.1, closes n.AfterTag x.1.2.0 f rest (inl (x.0.1.1, x.1.2.2, refl)))), x.2)))
from_external ts v rest (inr (inl x)) = closes n.External ts v rest (inl x)
from_external ts v rest (inr (inr (inl x))) =
    let w = x.0.1.1.1 in
    let g : Place → Base → ℕ → Named → List Item = λ start base stars q. made.globals_of start false (made.typed_at start base) (made.initialised start stars q w.0 w.1.0) w.1.1.0 in
    from_any v x.0.1.0 x.0.1.1.0 g x.1.0 x.1.2.0 x.1.2.2.0 rest x.1.2.1 x.1.2.2.1 (closes n.AfterName x.1.2.2.0 g rest (inr (w, x.1.2.2.2, refl))) ts x.0.0 x.2 (opens n.AnyBase ts x.0.0 x.1.0 x.1.1)
from_external ts v rest (inr (inr (inr x))) =
    let w = x.0.1.1.1 in
    let g : Place → Base → ℕ → Named → List Item = λ start base stars q. made.function_item start base stars q w.0.1 w.1 in
    from_any v x.0.1.0 x.0.1.1.0 g x.1.0 x.1.2.0 x.1.2.2.0 rest x.1.2.1 x.1.2.2.1 (closes n.AfterName x.1.2.2.0 g rest (inl (w, x.1.2.2.2, refl))) ts x.0.0 x.2 (opens n.AnyBase ts x.0.0 x.1.0 x.1.1)

pub external_as_written : law.ExternalAsWritten
external_as_written ts v rest = (λ x. to_external ts v rest (opens n.External ts v rest x), from_external ts v rest)
