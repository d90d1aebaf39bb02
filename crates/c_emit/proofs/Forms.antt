-- The steps of forms whose parts are values: those of the parts, with own steps between and behind them.
use Rattle.std.proofs.Common.{◌≡◌, ℕ, zero, suc, ◌+◌, Bool, true, false, true≢false, Some, List, [], ◌∷◌, ◌++◌, length, refl, sym, ap, ◌∙◌, arith}
use Rattle.std.proofs.lemmas.List.{append-nil, append_assoc}
use Rattle.std.specs.Prelude.{slice_index_or}
use Rattle.mx_base.specs.declared.numbers.IntKind.{IntKind}
use Rattle.mx_base.specs.declared.places.Place.{Place}
use Rattle.mx_base.specs.declared.operators.Arithmetic.{Arithmetic}
use Rattle.mx_base.specs.declared.operators.Arithmetic.TheVariants.{Mul, Sub, BitXor}
use Rattle.mx_base.specs.declared.operators.Comparison.{Comparison}
use Rattle.mx_base.specs.declared.operators.Comparison.TheVariants.{Equal}
use Rattle.c_types.specs.Types.{CType, StructType}
use Rattle.c_check_rules.specs.declared.predeclared.Bind.{Bind}
use Rattle.c_check_rules.specs.declared.predeclared.Bind.TheVariants.{Global, Local, Fun, Service, Builtin}
use Rattle.fat_ir.specs.declared.step.FatStep.{FatStep}
use Rattle.fat_ir.specs.declared.step.FatStep.TheVariants as s
use Rattle.mx_base.specs.declared.numbers.IntKind.TheVariants.{I64}
use Rattle.bounds_plan.specs.meaning.Core.{NumberExpr, Word, Operate, And, Or, PointerExpr, ChoosePtr, Function, Object}
use Rattle.bounds_plan.specs.steps.Code.{labels, labels_ptr, code, code_ptr}
use Rattle.bounds_plan.specs.elaboration.Types.{Value, Numeric, Address, Sort, ANumber, APointer, AWhole, NoValue, sort_of, kind_of, size_in, step_in, number_in, pointer_in, promoted, common, done_in, converted, right_operand, wanted_pointer, cast_as, cast_to}
use Rattle.bounds_plan.specs.elaboration.Places.{Lvalue, NumberVariable, PointerVariable, InMemory, address_in, variable_of, variable_at, private_values_of}
use Rattle.bounds_plan.specs.elaboration.Source.{Stand, Private, Frame, Reached, Around, literal_at}
use Rattle.bounds_plan.specs.elaboration.Expressions.{Found, no_place, literal, named, symbol_of, negative, inverse, is_zero, minus_one, arithmetic, compared, calculated, chosen_as, unary, binary}
use Rattle.steps_facts.specs.declared.seen.Sorted.{Sorted}
use Rattle.steps_facts.specs.declared.seen.Sorted.TheVariants as o
use Rattle.steps_facts.specs.declared.seen.Spot.TheVariants as sp
use Rattle.steps_facts.specs.Seen.{sorted, kind_in, facts_of, is_number, spot_of, seen_in}
use Rattle.c_tree.specs.declared.operators.UnaryOp.{UnaryOp}
use Rattle.c_tree.specs.declared.operators.UnaryOp.TheVariants as u
use Rattle.c_tree.specs.declared.operators.Logical.TheVariants as logic
use Rattle.c_tree.specs.declared.operators.BinaryOp.{BinaryOp}
use Rattle.c_tree.specs.declared.operators.BinaryOp.TheVariants as j
use Rattle.steps_pieces.specs.Operators.{takes_place, joint_labels, second_at}
use Rattle.steps_pieces.specs.Wanted.{code_value, labels_value, code_lvalue, labels_lvalue, code_wanted, labels_wanted, ending, addressing, extending, read_unless, code_pointer, labels_pointer, code_given, labels_given, null_at}
use Rattle.steps_pieces.specs.Own.{word_own, text_own, name_steps, name_own, hidden, with_word, single_steps, single_own, cast_steps, cast_own, right_extending, if_numbers, calculating, comparing, between, behind, joint_between, joint_behind, choice_of, crossing, choice_end, converting}
use Rattle.steps_pieces.specs.Put.{Put, added, skipped, went, went_given}
use Rattle.c_emit.proofs.Goes.{went_as, given_as, zero_on, own, one, two_from, three_from}
use Rattle.c_emit.proofs.Codes.{kind_by, ended, ended_labels, read, read_labels, number_code, number_labels, address_code, address_labels, converted_code, converted_labels, right_code, right_labels, number_given, number_given_labels, pointer_code, pointer_labels}

-- ---- numbers, texts and names

pub word_form : (w : Bool) (n : ℕ) (t : CType) (p : Place) (r : Reached) (d : ℕ) (s : Put) → went w (no_place t (Numeric (Word n)) p r) d s ≡ added (word_own n w d) s
unfolding went word_own
word_form w n t p r d s = went_as w (no_place t (Numeric (Word n)) p r) d (λ l. word_own n w d) 0 s (ended w t (Numeric (Word n)) p r d s.label) (ended_labels w t (Numeric (Word n)) p r) ∙ own (word_own n w d) s

text_code : (w : Bool) (around : Around) (t : CType) (p : Place) (bytes : List ℕ) (r : Reached) (d l : ℕ) → code_wanted w (literal around t p bytes r) d l ≡ s.Place d (d + 1) (Some around.layout.texts) (literal_at around r) (length bytes + 1) ∷ []
text_code true around t p bytes r d l = refl
text_code false around t p bytes r d l = refl

text_labels : (w : Bool) (around : Around) (t : CType) (p : Place) (bytes : List ℕ) (r : Reached) → labels_wanted w (literal around t p bytes r) ≡ 0
text_labels true around t p bytes r = refl
text_labels false around t p bytes r = refl

pub text_form : (w : Bool) (around : Around) (t : CType) (p : Place) (bytes : List ℕ) (r : Reached) (d : ℕ) (s : Put) → went w (literal around t p bytes r) d s ≡ added (text_own around.layout.texts (literal_at around r) (length bytes + 1) d) s
unfolding went text_own
text_form w around t p bytes r d s = went_as w (literal around t p bytes r) d (λ l. text_own around.layout.texts (literal_at around r) (length bytes + 1) d) 0 s (text_code w around t p bytes r d s.label) (text_labels w around t p bytes r)
    ∙ own (text_own around.layout.texts (literal_at around r) (length bytes + 1) d) s

at_code : (k : Sort) (st : Stand) (x size d l : ℕ) → code_lvalue (variable_at k st x size) d l ≡ code_lvalue (variable_at k st x size) d 0
at_code (ANumber kind) Private x size d l = refl
at_code APointer Private x size d l = refl
at_code AWhole Private x size d l = refl
at_code NoValue Private x size d l = refl
at_code (ANumber kind) (Frame offset) x size d l = refl
at_code APointer (Frame offset) x size d l = refl
at_code AWhole (Frame offset) x size d l = refl
at_code NoValue (Frame offset) x size d l = refl

at_labels : (k : Sort) (st : Stand) (x size : ℕ) → labels_lvalue (variable_at k st x size) ≡ 0
at_labels (ANumber kind) Private x size = refl
at_labels APointer Private x size = refl
at_labels AWhole Private x size = refl
at_labels NoValue Private x size = refl
at_labels (ANumber kind) (Frame offset) x size = refl
at_labels APointer (Frame offset) x size = refl
at_labels AWhole (Frame offset) x size = refl
at_labels NoValue (Frame offset) x size = refl

-- a variable names no label
variable_code : (structs : List StructType) (ts : List CType) (ss : List Stand) (x n d l : ℕ) → code_lvalue (variable_of structs ts ss x n) d l ≡ code_lvalue (variable_of structs ts ss x n) d 0
variable_code structs [] ss x n d l = refl
variable_code structs (t ∷ ts) [] x n d l = refl
variable_code structs (t ∷ ts) (st ∷ ss) x zero d l = at_code (sort_of t) st x (size_in structs t) d l
variable_code structs (t ∷ ts) (st ∷ ss) x (suc n) d l = variable_code structs ts ss (x + length (private_values_of (sort_of t) st)) n d l

variable_labels : (structs : List StructType) (ts : List CType) (ss : List Stand) (x n : ℕ) → labels_lvalue (variable_of structs ts ss x n) ≡ 0
variable_labels structs [] ss x n = refl
variable_labels structs (t ∷ ts) [] x n = refl
variable_labels structs (t ∷ ts) (st ∷ ss) x zero = at_labels (sort_of t) st x (size_in structs t)
variable_labels structs (t ∷ ts) (st ∷ ss) x (suc n) = variable_labels structs ts ss (x + length (private_values_of (sort_of t) st)) n

named_code : (w : Bool) (around : Around) (t : CType) (b : Bind) (q : Place) (r : Reached) (d l : ℕ) → code_wanted w (named around t b q r) d l ≡ name_steps around b (facts_of around.structs t) w q d
named_code w around t (Global number) q r d l = read w t (InMemory (Object (slice_index_or around.layout.globals number 0) 0 (size_in around.structs t))) q r d l
named_code w around t (Local number) q r d l = let lv = variable_of around.structs around.variables around.stands 0 number in
    read w t lv q r d l ∙ ap (λ (c : List FatStep). c ++ read_unless w (spot_of lv) (sorted (sort_of t)) q d) (variable_code around.structs around.variables around.stands 0 number d l)
named_code w around t (Fun number) q r d l = ended w t (Address (Function (symbol_of around number))) q r d l
named_code w around t (Service service) q r d l = ended w t (Numeric (Word 0)) q r d l
named_code w around t (Builtin builtin) q r d l = ended w t (Numeric (Word 0)) q r d l

named_labels : (w : Bool) (around : Around) (t : CType) (b : Bind) (q : Place) (r : Reached) → labels_wanted w (named around t b q r) ≡ 0
named_labels w around t (Global number) q r = read_labels w t (InMemory (Object (slice_index_or around.layout.globals number 0) 0 (size_in around.structs t))) q r
named_labels w around t (Local number) q r = read_labels w t (variable_of around.structs around.variables around.stands 0 number) q r ∙ variable_labels around.structs around.variables around.stands 0 number
named_labels w around t (Fun number) q r = ended_labels w t (Address (Function (symbol_of around number))) q r
named_labels w around t (Service service) q r = ended_labels w t (Numeric (Word 0)) q r
named_labels w around t (Builtin builtin) q r = ended_labels w t (Numeric (Word 0)) q r

pub name_form : (w : Bool) (around : Around) (t : CType) (b : Bind) (q : Place) (r : Reached) (d : ℕ) (s : Put) → went w (named around t b q r) d s ≡ added (name_own around b (facts_of around.structs t) w q d) s
unfolding went name_own
name_form w around t b q r d s = went_as w (named around t b q r) d (λ l. name_own around b (facts_of around.structs t) w q d) 0 s (named_code w around t b q r d s.label) (named_labels w around t b q r) ∙ own (name_own around b (facts_of around.structs t) w q d) s

-- ---- one operand

word_code : (op : Arithmetic) (k : IntKind) (x : Value) (n d l : ℕ) → code (Operate op (promoted k) (converted k (promoted k) (number_in x)) (Word n)) d l ≡ code_value x d l ++ with_word op k n d
word_code op k x n d l = ap (λ (c : List FatStep). c ++ (s.Const (d + 2) n ∷ s.Arith d op (promoted k) d (d + 2) ∷ [])) (number_given k (promoted k) x d l)
    ∙ append_assoc (code_value x d l) (extending k (promoted k) d) _

-- a pointer that is no place
pointer_ended : (w : Bool) (t : CType) (q : PointerExpr) (p : Place) (r : Reached) (d l : ℕ) → code_wanted w (no_place t (Address q) p r) d l ≡ code_ptr q d l
pointer_ended true t q p r d l = refl
pointer_ended false t q p r d l = refl

address_of : (lv : Lvalue) (d l : ℕ) → code_ptr (address_in lv) d l ≡ code_lvalue lv d l ++ hidden (spot_of lv) d
address_of (NumberVariable x) d l = refl
address_of (PointerVariable x) d l = refl
address_of (InMemory q) d l = sym (append-nil (code_ptr q d l))

address_of_labels : (lv : Lvalue) → labels_ptr (address_in lv) ≡ labels_lvalue lv
address_of_labels (NumberVariable x) = refl
address_of_labels (PointerVariable x) = refl
address_of_labels (InMemory q) = refl

single_code : (structs : List StructType) (op : UnaryOp) (w : Bool) (t : CType) (a : Found) (p : Place) (r : Reached) (d l : ℕ)
    → code_wanted w (unary op t a p r) d l ≡ code_wanted (takes_place op) a d l ++ single_steps op (seen_in structs a) (sorted (sort_of t)) w p d
single_code structs u.Neg w t a p r d l = ended w t (Numeric (negative a)) p r d l
    ∙ ap (λ (c : List FatStep). c ++ ending w true d) (word_code Mul (kind_of a.type) a.value minus_one d l)
    ∙ append_assoc (code_value a.value d l) _ _
    ∙ ap (λ (k : IntKind). code_value a.value d l ++ (with_word Mul k minus_one d ++ ending w true d)) (kind_by a.type)
single_code structs u.BitNot w t a p r d l = ended w t (Numeric (inverse a)) p r d l
    ∙ ap (λ (c : List FatStep). c ++ ending w true d) (word_code BitXor (kind_of a.type) a.value minus_one d l)
    ∙ append_assoc (code_value a.value d l) _ _
    ∙ ap (λ (k : IntKind). code_value a.value d l ++ (with_word BitXor k minus_one d ++ ending w true d)) (kind_by a.type)
single_code structs u.Not w t a p r d l = ended w t (Numeric (is_zero a)) p r d l
    ∙ ap (λ (c : List FatStep). (c ++ (s.Const (d + 2) 0 ∷ s.Compare d Equal (kind_of a.type) d (d + 2) ∷ [])) ++ ending w true d) (number_code a.value d l)
    ∙ append_assoc (code_value a.value d l) _ _
    ∙ ap (λ (k : IntKind). code_value a.value d l ++ ((s.Const (d + 2) 0 ∷ s.Compare d Equal k d (d + 2) ∷ []) ++ ending w true d)) (kind_by a.type)
single_code structs u.Deref w t a p r d l = read w t (InMemory (pointer_in a.value)) p r d l
    ∙ ap (λ (c : List FatStep). c ++ read_unless w sp.Memory (sorted (sort_of t)) p d) (address_code a.value d l)
    ∙ append_assoc (code_value a.value d l) (addressing (is_number a.value) d) _
single_code structs u.AddressOf w t a p r d l = pointer_ended w t (address_in a.lvalue) p r d l ∙ address_of a.lvalue d l

single_labels : (op : UnaryOp) (w : Bool) (t : CType) (a : Found) (p : Place) (r : Reached) → labels_wanted w (unary op t a p r) ≡ labels_wanted (takes_place op) a
single_labels u.Neg w t a p r = ended_labels w t (Numeric (negative a)) p r ∙ ap (λ (n : ℕ). n + 0) (number_given_labels (kind_of a.type) (promoted (kind_of a.type)) a.value) ∙ zero_on (labels_value a.value)
single_labels u.BitNot w t a p r = ended_labels w t (Numeric (inverse a)) p r ∙ ap (λ (n : ℕ). n + 0) (number_given_labels (kind_of a.type) (promoted (kind_of a.type)) a.value) ∙ zero_on (labels_value a.value)
single_labels u.Not w t a p r = ended_labels w t (Numeric (is_zero a)) p r ∙ ap (λ (n : ℕ). n + 0) (number_labels a.value) ∙ zero_on (labels_value a.value)
single_labels u.Deref w t a p r = read_labels w t (InMemory (pointer_in a.value)) p r ∙ address_labels a.value
single_labels u.AddressOf w t a p r = ended_labels w t (Address (address_in a.lvalue)) p r ∙ address_of_labels a.lvalue

pub single_form : (structs : List StructType) (op : UnaryOp) (w : Bool) (t : CType) (a : Found) (p : Place) (r : Reached) (d : ℕ) (s : Put)
    → went w (unary op t a p r) d s ≡ added (single_own op (seen_in structs a) (sorted (sort_of t)) w p d) (went (takes_place op) a d s)
unfolding went single_own
single_form structs op w t a p r d s = went_as w (unary op t a p r) d (λ l. code_wanted (takes_place op) a d l ++ single_steps op (seen_in structs a) (sorted (sort_of t)) w p d) (labels_wanted (takes_place op) a) s
    (single_code structs op w t a p r d s.label) (single_labels op w t a p r)
    ∙ one (λ l. code_wanted (takes_place op) a d l) (labels_wanted (takes_place op) a) _ s

cast_code : (structs : List StructType) (k : Sort) (w : Bool) (t : CType) (a : Found) (p : Place) (r : Reached) (d l : ℕ)
    → code_wanted w (no_place t (cast_as k a.type a.value) p r) d l ≡ code_value a.value d l ++ cast_steps (seen_in structs a) (sorted k) w d
cast_code structs (ANumber kind) w t a p r d l = ended w t (cast_as (ANumber kind) a.type a.value) p r d l
    ∙ ap (λ (c : List FatStep). c ++ ending w true d) (number_given (kind_of a.type) kind a.value d l)
    ∙ append_assoc (code_value a.value d l) _ _
    ∙ ap (λ (k : IntKind). code_value a.value d l ++ (extending k kind d ++ ending w true d)) (kind_by a.type)
cast_code structs APointer w t a p r d l = pointer_ended w t (pointer_in a.value) p r d l ∙ address_code a.value d l
cast_code structs AWhole w t a p r d l = ended w t a.value p r d l
cast_code structs NoValue w t a p r d l = ended w t a.value p r d l

cast_labels : (k : Sort) (w : Bool) (t : CType) (a : Found) (p : Place) (r : Reached) → labels_wanted w (no_place t (cast_as k a.type a.value) p r) ≡ labels_value a.value
cast_labels (ANumber kind) w t a p r = ended_labels w t (cast_as (ANumber kind) a.type a.value) p r ∙ number_given_labels (kind_of a.type) kind a.value
cast_labels APointer w t a p r = ended_labels w t (Address (pointer_in a.value)) p r ∙ address_labels a.value
cast_labels AWhole w t a p r = ended_labels w t a.value p r
cast_labels NoValue w t a p r = ended_labels w t a.value p r

pub cast_form : (structs : List StructType) (w : Bool) (t : CType) (a : Found) (p : Place) (r : Reached) (d : ℕ) (s : Put)
    → went w (no_place t (cast_to t a.type a.value) p r) d s ≡ added (cast_own (seen_in structs a) (sorted (sort_of t)) w d) (went false a d s)
unfolding went cast_own
cast_form structs w t a p r d s = went_as w (no_place t (cast_to t a.type a.value) p r) d (λ l. code_value a.value d l ++ cast_steps (seen_in structs a) (sorted (sort_of t)) w d) (labels_value a.value) s
    (cast_code structs (sort_of t) w t a p r d s.label) (cast_labels (sort_of t) w t a p r)
    ∙ one (λ l. code_value a.value d l) (labels_value a.value) _ s

-- ---- two operands

calculated_code : (op : Arithmetic) (ka kb : IntKind) (a b : NumberExpr) (d l : ℕ)
    → code (calculated op ka kb a b) d l ≡ code a d l ++ (extending ka (done_in op ka kb) d ++ (code b (d + 2) (l + labels a) ++ (right_extending op kb (done_in op ka kb) (d + 2) ++ (s.Arith d op (done_in op ka kb) d (d + 2) ∷ []))))
calculated_code op ka kb a b d l = let k = done_in op ka kb in
    ap (λ (c : List FatStep). c ++ (code (right_operand op kb k b) (d + 2) (l + labels (converted ka k a)) ++ (s.Arith d op k d (d + 2) ∷ []))) (converted_code ka k a d l)
    ∙ append_assoc (code a d l) (extending ka k d) _
    ∙ ap (λ (m : ℕ). code a d l ++ (extending ka k d ++ (code (right_operand op kb k b) (d + 2) (l + m) ++ (s.Arith d op k d (d + 2) ∷ [])))) (converted_labels ka k a)
    ∙ ap (λ (c : List FatStep). code a d l ++ (extending ka k d ++ (c ++ (s.Arith d op k d (d + 2) ∷ [])))) (right_code op kb k b (d + 2) (l + labels a))
    ∙ ap (λ (c : List FatStep). code a d l ++ (extending ka k d ++ c)) (append_assoc (code b (d + 2) (l + labels a)) (right_extending op kb k (d + 2)) _)

arithmetic_code : (structs : List StructType) (op : Arithmetic) (t v : CType) (x y : Value) (d l : ℕ)
    → code_value (arithmetic structs op t v x y) d l
    ≡ code_value x d l ++ (if_numbers (is_number x) (is_number y) (extending (kind_of t) (done_in op (kind_of t) (kind_of v)) d) ++ (code_value y (d + 2) (l + labels_value x)
    ++ calculating (is_number x) (is_number y) op (kind_of t) (kind_of v) (step_in structs t) (step_in structs v) d))
arithmetic_code structs op t v (Numeric a) (Numeric b) d l = calculated_code op (kind_of t) (kind_of v) a b d l
arithmetic_code structs op t v (Address p) (Numeric i) d l = refl
arithmetic_code structs op t v (Numeric i) (Address p) d l = refl
arithmetic_code structs op t v (Address p) (Address q) d l =
    append_assoc (code_ptr p d l) (code_ptr q (d + 2) (l + labels_ptr p) ++ (s.Arith d Sub I64 d (d + 2) ∷ [])) _
    ∙ ap (λ (c : List FatStep). code_ptr p d l ++ c) (append_assoc (code_ptr q (d + 2) (l + labels_ptr p)) (s.Arith d Sub I64 d (d + 2) ∷ []) _)

arithmetic_labels : (structs : List StructType) (op : Arithmetic) (t v : CType) (x y : Value) → labels_value (arithmetic structs op t v x y) ≡ labels_value x + labels_value y
arithmetic_labels structs op t v (Numeric a) (Numeric b) = let k = done_in op (kind_of t) (kind_of v) in
    ap (λ (m : ℕ). m + labels (right_operand op (kind_of v) k b)) (converted_labels (kind_of t) k a) ∙ ap (λ (m : ℕ). labels a + m) (right_labels op (kind_of v) k b)
arithmetic_labels structs op t v (Address p) (Numeric i) = refl
arithmetic_labels structs op t v (Numeric i) (Address p) = refl
arithmetic_labels structs op t v (Address p) (Address q) = zero_on (labels_ptr p + labels_ptr q)

compared_code : (op : Comparison) (ka kb : IntKind) (x y : Value) (d l : ℕ)
    → code (compared op ka kb x y) d l ≡ code_value x d l ++ (if_numbers (is_number x) (is_number y) (extending ka (common ka kb) d) ++ (code_value y (d + 2) (l + labels_value x) ++ comparing (is_number x) (is_number y) op ka kb d))
compared_code op ka kb (Numeric a) (Numeric b) d l = let k = common ka kb in
    ap (λ (c : List FatStep). c ++ (code (converted kb k b) (d + 2) (l + labels (converted ka k a)) ++ (s.Compare d op k d (d + 2) ∷ []))) (converted_code ka k a d l)
    ∙ append_assoc (code a d l) (extending ka k d) _
    ∙ ap (λ (m : ℕ). code a d l ++ (extending ka k d ++ (code (converted kb k b) (d + 2) (l + m) ++ (s.Compare d op k d (d + 2) ∷ [])))) (converted_labels ka k a)
    ∙ ap (λ (c : List FatStep). code a d l ++ (extending ka k d ++ (c ++ (s.Compare d op k d (d + 2) ∷ [])))) (converted_code kb k b (d + 2) (l + labels a))
    ∙ ap (λ (c : List FatStep). code a d l ++ (extending ka k d ++ c)) (append_assoc (code b (d + 2) (l + labels a)) (extending kb k (d + 2)) _)
compared_code op ka kb (Address p) (Numeric b) d l = refl
compared_code op ka kb (Numeric a) (Address q) d l = refl
compared_code op ka kb (Address p) (Address q) d l = refl

compared_labels : (op : Comparison) (ka kb : IntKind) (x y : Value) → labels (compared op ka kb x y) ≡ labels_value x + labels_value y
compared_labels op ka kb (Numeric a) (Numeric b) = let k = common ka kb in
    ap (λ (m : ℕ). m + labels (converted kb k b)) (converted_labels ka k a) ∙ ap (λ (m : ℕ). labels a + m) (converted_labels kb k b)
compared_labels op ka kb (Address p) (Numeric b) = refl
compared_labels op ka kb (Numeric a) (Address q) = refl
compared_labels op ka kb (Address p) (Address q) = refl

and_code : (x y : Value) (d l : ℕ) → code (And (number_in x) (number_in y)) d l ≡ code_value x d (l + 3) ++ ((s.JumpIf d l ∷ s.Jump (l + 1) ∷ s.Label l ∷ []) ++ (code_value y d (l + 3 + labels_value x)
    ++ (s.JumpIf d (l + 2) ∷ s.Jump (l + 1) ∷ s.Label (l + 2) ∷ s.Const d 1 ∷ s.Label (l + 1) ∷ [])))
and_code (Numeric a) (Numeric b) d l = refl
and_code (Numeric a) (Address q) d l = refl
and_code (Address p) (Numeric b) d l = refl
and_code (Address p) (Address q) d l = refl

or_code : (x y : Value) (d l : ℕ) → code (Or (number_in x) (number_in y)) d l ≡ code_value x d (l + 2) ++ ((s.JumpIf d l ∷ []) ++ (code_value y d (l + 2 + labels_value x)
    ++ (s.JumpIf d l ∷ s.Jump (l + 1) ∷ s.Label l ∷ s.Const d 1 ∷ s.Label (l + 1) ∷ [])))
or_code (Numeric a) (Numeric b) d l = refl
or_code (Numeric a) (Address q) d l = refl
or_code (Address p) (Numeric b) d l = refl
or_code (Address p) (Address q) d l = refl

and_labels : (x y : Value) → labels (And (number_in x) (number_in y)) ≡ 3 + labels_value x + labels_value y
and_labels (Numeric a) (Numeric b) = refl
and_labels (Numeric a) (Address q) = refl
and_labels (Address p) (Numeric b) = refl
and_labels (Address p) (Address q) = refl

or_labels : (x y : Value) → labels (Or (number_in x) (number_in y)) ≡ 2 + labels_value x + labels_value y
or_labels (Numeric a) (Numeric b) = refl
or_labels (Numeric a) (Address q) = refl
or_labels (Address p) (Numeric b) = refl
or_labels (Address p) (Address q) = refl

-- two operands from the label m on
plain : (x y : Value) (X Y : List FatStep) (d m : ℕ) → List FatStep
plain x y X Y d m = code_value x d m ++ (X ++ (code_value y (d + 2) (m + labels_value x) ++ Y))

binary_code : (joint : BinaryOp) (around : Around) (a b : Found) (d l : ℕ)
    → code_value (binary joint around a b) d l ≡ code_value a.value d (l + joint_labels joint) ++ (between joint (seen_in around.structs a) (seen_in around.structs b) l d
    ++ (code_value b.value (second_at joint d) (l + joint_labels joint + labels_value a.value) ++ behind joint (seen_in around.structs a) (seen_in around.structs b) l d))
unfolding plain
binary_code (j.Arithmetic op) around a b d l = let x = seen_in around.structs a in let y = seen_in around.structs b in
    arithmetic_code around.structs op a.type b.type a.value b.value d l
    ∙ ap (λ (k : IntKind). plain a.value b.value (if_numbers x.number y.number (extending k (done_in op k (kind_of b.type)) d)) (calculating x.number y.number op k (kind_of b.type) x.facts.step y.facts.step d) d l) (kind_by a.type)
    ∙ ap (λ (k : IntKind). plain a.value b.value (if_numbers x.number y.number (extending (kind_in x.facts.sort) (done_in op (kind_in x.facts.sort) k) d)) (calculating x.number y.number op (kind_in x.facts.sort) k x.facts.step y.facts.step d) d l) (kind_by b.type)
    ∙ ap (λ (m : ℕ). plain a.value b.value (between (j.Arithmetic op) x y l d) (behind (j.Arithmetic op) x y l d) d m) (sym (zero_on l))
binary_code (j.Comparison op) around a b d l = let x = seen_in around.structs a in let y = seen_in around.structs b in
    compared_code op (kind_of a.type) (kind_of b.type) a.value b.value d l
    ∙ ap (λ (k : IntKind). plain a.value b.value (if_numbers x.number y.number (extending k (common k (kind_of b.type)) d)) (comparing x.number y.number op k (kind_of b.type) d) d l) (kind_by a.type)
    ∙ ap (λ (k : IntKind). plain a.value b.value (if_numbers x.number y.number (extending (kind_in x.facts.sort) (common (kind_in x.facts.sort) k) d)) (comparing x.number y.number op (kind_in x.facts.sort) k d) d l) (kind_by b.type)
    ∙ ap (λ (m : ℕ). plain a.value b.value (between (j.Comparison op) x y l d) (behind (j.Comparison op) x y l d) d m) (sym (zero_on l))
binary_code (j.Logical logic.And) around a b d l = and_code a.value b.value d l
binary_code (j.Logical logic.Or) around a b d l = or_code a.value b.value d l

plus_zero : (n m : ℕ) → n + m ≡ 0 + n + m
plus_zero n m = omega arith

binary_labels : (joint : BinaryOp) (around : Around) (a b : Found) → labels_value (binary joint around a b) ≡ joint_labels joint + labels_value a.value + labels_value b.value
binary_labels (j.Arithmetic op) around a b = arithmetic_labels around.structs op a.type b.type a.value b.value ∙ plus_zero (labels_value a.value) (labels_value b.value)
binary_labels (j.Comparison op) around a b = compared_labels op (kind_of a.type) (kind_of b.type) a.value b.value ∙ plus_zero (labels_value a.value) (labels_value b.value)
binary_labels (j.Logical logic.And) around a b = and_labels a.value b.value
binary_labels (j.Logical logic.Or) around a b = or_labels a.value b.value

regroup : (A X B Y E : List FatStep) → (A ++ (X ++ (B ++ Y))) ++ E ≡ A ++ (X ++ (B ++ (Y ++ E)))
regroup A X B Y E = simp append_assoc refl

pub joint_form : (joint : BinaryOp) (around : Around) (w : Bool) (t : CType) (a b : Found) (p : Place) (r : Reached) (d : ℕ) (s : Put) → let x = seen_in around.structs a in let y = seen_in around.structs b in
    went w (no_place t (binary joint around a b) p r) d s
    ≡ added (joint_behind joint x y s.label w (is_number (binary joint around a b)) d) (went false b (second_at joint d) (added (joint_between joint x y s.label d) (went false a d (skipped (joint_labels joint) s))))
unfolding went joint_between joint_behind
joint_form joint around w t a b p r d s = let x = seen_in around.structs a in let y = seen_in around.structs b in let k = joint_labels joint in
    let X = between joint x y s.label d in
    let Y = behind joint x y s.label d in
    let E = ending w (is_number (binary joint around a b)) d in
    went_as w (no_place t (binary joint around a b) p r) d (λ l. code_value a.value d (l + k) ++ (X ++ (code_value b.value (second_at joint d) (l + k + labels_value a.value) ++ (Y ++ E)))) (k + labels_value a.value + labels_value b.value) s
    (ended w t (binary joint around a b) p r d s.label ∙ ap (λ (c : List FatStep). c ++ E) (binary_code joint around a b d s.label) ∙ regroup _ X _ Y E)
    (ended_labels w t (binary joint around a b) p r ∙ binary_labels joint around a b)
    ∙ two_from k (λ l. code_value a.value d l) (λ l. code_value b.value (second_at joint d) l) (labels_value a.value) (labels_value b.value) X (Y ++ E) s

-- ---- `?:`

shape : (test : List FatStep) (n m : ℕ) (other one : ℕ → List FatStep) (d l : ℕ) → List FatStep
shape test n m other one d l = test ++ (s.JumpIf d l ∷ (other (l + 2 + n) ++ (crossing l (l + 1) ++ (one (l + 2 + n + m) ++ (s.Label (l + 1) ∷ [])))))

same_shape : (test test' : List FatStep) (n n' m m' : ℕ) (other other' one one' : ℕ → List FatStep) (d l : ℕ) → test ≡ test' → n ≡ n' → m ≡ m' → ((x : ℕ) → other x ≡ other' x) → ((x : ℕ) → one x ≡ one' x)
    → shape test n m other one d l ≡ shape test' n' m' other' one' d l
unfolding shape
same_shape test test' n n' m m' other other' one one' d l e g h j k =
    ap (λ (x : List FatStep). x ++ (s.JumpIf d l ∷ (other (l + 2 + n) ++ (crossing l (l + 1) ++ (one (l + 2 + n + m) ++ (s.Label (l + 1) ∷ [])))))) e
    ∙ ap (λ (x : ℕ). test' ++ (s.JumpIf d l ∷ (other (l + 2 + x) ++ (crossing l (l + 1) ++ (one (l + 2 + x + m) ++ (s.Label (l + 1) ∷ [])))))) g
    ∙ ap (λ (x : ℕ). test' ++ (s.JumpIf d l ∷ (other (l + 2 + n') ++ (crossing l (l + 1) ++ (one (l + 2 + n' + x) ++ (s.Label (l + 1) ∷ [])))))) h
    ∙ ap (λ (x : List FatStep). test' ++ (s.JumpIf d l ∷ (x ++ (crossing l (l + 1) ++ (one (l + 2 + n' + m') ++ (s.Label (l + 1) ∷ [])))))) (j (l + 2 + n'))
    ∙ ap (λ (x : List FatStep). test' ++ (s.JumpIf d l ∷ (other' (l + 2 + n') ++ (crossing l (l + 1) ++ (x ++ (s.Label (l + 1) ∷ [])))))) (k (l + 2 + n' + m'))

choosing : Sorted → (c a b : Found) → (d l : ℕ) → List FatStep
choosing sort c a b d l = code_value c.value d (l + 2) ++ (s.JumpIf d l ∷ (code_given sort (kind_of b.type) b.value d (l + 2 + labels_value c.value)
    ++ (crossing l (l + 1) ++ (code_given sort (kind_of a.type) a.value d (l + 2 + labels_value c.value + labels_given sort b.value) ++ (s.Label (l + 1) ∷ [])))))

chosen_pointers : (c a b : Found) (d l : ℕ) → code_ptr (ChoosePtr (number_in c.value) (wanted_pointer a.value) (wanted_pointer b.value)) d l ≡ choosing o.Pointer c a b d l
unfolding shape choosing
chosen_pointers c a b d l = same_shape (code (number_in c.value) d (l + 2)) (code_value c.value d (l + 2)) (labels (number_in c.value)) (labels_value c.value) (labels_ptr (wanted_pointer b.value)) (labels_pointer b.value)
    (λ x. code_ptr (wanted_pointer b.value) d x) (λ x. code_pointer b.value d x) (λ x. code_ptr (wanted_pointer a.value) d x) (λ x. code_pointer a.value d x) d l
    (number_code c.value d (l + 2)) (number_labels c.value) (pointer_labels b.value) (λ x. pointer_code b.value d x) (λ x. pointer_code a.value d x)

chosen_code : (k : Sort) (c a b : Found) (d l : ℕ) → code_value (chosen_as k c a b) d l ≡ choosing (choice_of (sorted k)) c a b d l
unfolding shape choosing
chosen_code (ANumber kind) c a b d l = same_shape (code (number_in c.value) d (l + 2)) (code_value c.value d (l + 2)) (labels (number_in c.value)) (labels_value c.value)
    (labels (converted (kind_of b.type) kind (number_in b.value))) (labels_value b.value)
    (λ x. code (converted (kind_of b.type) kind (number_in b.value)) d x) (λ x. code_value b.value d x ++ extending (kind_of b.type) kind d)
    (λ x. code (converted (kind_of a.type) kind (number_in a.value)) d x) (λ x. code_value a.value d x ++ extending (kind_of a.type) kind d) d l
    (number_code c.value d (l + 2)) (number_labels c.value) (number_given_labels (kind_of b.type) kind b.value)
    (λ x. number_given (kind_of b.type) kind b.value d x) (λ x. number_given (kind_of a.type) kind a.value d x)
chosen_code APointer c a b d l = chosen_pointers c a b d l
chosen_code AWhole c a b d l = chosen_pointers c a b d l
chosen_code NoValue c a b d l = chosen_pointers c a b d l

three : (a a' b b' c c' : ℕ) → a ≡ a' → b ≡ b' → c ≡ c' → 2 + a + b + c ≡ 2 + a' + c' + b'
three a a' b b' c c' e g h = ap (λ (x : ℕ). 2 + x + b + c) e ∙ ap (λ (x : ℕ). 2 + a' + x + c) g ∙ ap (λ (x : ℕ). 2 + a' + b' + x) h ∙ omega arith

chosen_labels : (k : Sort) (c a b : Found) → labels_value (chosen_as k c a b) ≡ 2 + labels_value c.value + labels_given (choice_of (sorted k)) b.value + labels_given (choice_of (sorted k)) a.value
chosen_labels (ANumber kind) c a b = three _ _ _ _ _ _ (number_labels c.value) (number_given_labels (kind_of a.type) kind a.value) (number_given_labels (kind_of b.type) kind b.value)
chosen_labels APointer c a b = three _ _ _ _ _ _ (number_labels c.value) (pointer_labels a.value) (pointer_labels b.value)
chosen_labels AWhole c a b = three _ _ _ _ _ _ (number_labels c.value) (pointer_labels a.value) (pointer_labels b.value)
chosen_labels NoValue c a b = three _ _ _ _ _ _ (number_labels c.value) (pointer_labels a.value) (pointer_labels b.value)

regroup3 : (C J B X A Y E : List FatStep) → (C ++ (J ++ (B ++ (X ++ (A ++ Y))))) ++ E ≡ C ++ (J ++ (B ++ (X ++ (A ++ (Y ++ E)))))
regroup3 C J B X A Y E = simp append_assoc refl

pub choice_form : (w : Bool) (t : CType) (c a b : Found) (p : Place) (r : Reached) (d : ℕ) (st : Put) → let k = choice_of (sorted (sort_of t)) in
    went w (no_place t (chosen_as (sort_of t) c a b) p r) d st
    ≡ added (choice_end (st.label + 1) w (is_number (chosen_as (sort_of t) c a b)) d) (went_given k a d (added (crossing st.label (st.label + 1)) (went_given k b d (added (s.JumpIf d st.label ∷ []) (went false c d (skipped 2 st))))))
unfolding went went_given choice_end choosing
choice_form w t c a b p r d st = let k = choice_of (sorted (sort_of t)) in
    let J = s.JumpIf d st.label ∷ [] in
    let X = crossing st.label (st.label + 1) in
    let Y = s.Label (st.label + 1) ∷ [] in
    let E = ending w (is_number (chosen_as (sort_of t) c a b)) d in
    went_as w (no_place t (chosen_as (sort_of t) c a b) p r) d (λ l. code_value c.value d (l + 2) ++ (J ++ (code_given k (kind_of b.type) b.value d (l + 2 + labels_value c.value) ++ (X ++ (code_given k (kind_of a.type) a.value d (l + 2 + labels_value c.value + labels_given k b.value) ++ (Y ++ E))))))
    (2 + labels_value c.value + labels_given k b.value + labels_given k a.value) st
    (ended w t (chosen_as (sort_of t) c a b) p r d st.label ∙ ap (λ (z : List FatStep). z ++ E) (chosen_code (sort_of t) c a b d st.label) ∙ regroup3 _ J _ X _ Y E)
    (ended_labels w t (chosen_as (sort_of t) c a b) p r ∙ chosen_labels (sort_of t) c a b)
    ∙ three_from 2 (λ l. code_value c.value d l) (λ l. code_given k (kind_of b.type) b.value d l) (λ l. code_given k (kind_of a.type) a.value d l) (labels_value c.value) (labels_given k b.value) (labels_given k a.value) J X (Y ++ E) st

-- ---- a value where one of a sort is wanted

pub given_number_form : (structs : List StructType) (kind : IntKind) (f : Found) (d : ℕ) (s : Put) → went_given (o.Number kind) f d s ≡ added (converting (seen_in structs f) kind d) (went false f d s)
unfolding went went_given converting
given_number_form structs kind f d s = given_as (o.Number kind) f d (λ l. code_value f.value d l ++ extending (kind_in (sorted (sort_of f.type))) kind d) (labels_value f.value) s
    (ap (λ (k : IntKind). code_value f.value d s.label ++ extending k kind d) (kind_by f.type)) refl
    ∙ one (λ l. code_value f.value d l) (labels_value f.value) _ s

null_code : (x : Value) (d l : ℕ) → is_number x ≡ true → code_pointer x d l ≡ null_at d
null_code (Numeric e) d l h = refl
null_code (Address q) d l h = absurd (true≢false (sym h))

null_labels : (x : Value) → is_number x ≡ true → labels_pointer x ≡ 0
null_labels (Numeric e) h = refl
null_labels (Address q) h = absurd (true≢false (sym h))

pub given_null_form : (f : Found) (d : ℕ) (s : Put) → is_number f.value ≡ true → went_given o.Pointer f d s ≡ added (null_at d) s
unfolding went_given
given_null_form f d s h = given_as o.Pointer f d (λ l. null_at d) 0 s (null_code f.value d s.label h) (null_labels f.value h) ∙ own (null_at d) s

same_code : (x : Value) (d l : ℕ) → is_number x ≡ false → code_pointer x d l ≡ code_value x d l
same_code (Numeric e) d l h = absurd (true≢false h)
same_code (Address q) d l h = refl

same_labels : (x : Value) → is_number x ≡ false → labels_pointer x ≡ labels_value x
same_labels (Numeric e) h = absurd (true≢false h)
same_labels (Address q) h = refl

pub given_pointer_form : (f : Found) (d : ℕ) (s : Put) → is_number f.value ≡ false → went_given o.Pointer f d s ≡ went false f d s
unfolding went went_given
given_pointer_form f d s h = given_as o.Pointer f d (λ l. code_value f.value d l) (labels_value f.value) s (same_code f.value d s.label h) (same_labels f.value h)

pub given_whole_form : (f : Found) (d : ℕ) (s : Put) → went_given o.Whole f d s ≡ went false f d s
unfolding went went_given
given_whole_form f d s = refl

pub given_nothing_form : (f : Found) (d : ℕ) (s : Put) → went_given o.Nothing f d s ≡ went false f d s
unfolding went went_given
given_nothing_form f d s = refl
