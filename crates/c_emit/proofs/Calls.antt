-- Calls: the steps of the arguments, and then the call.
use Rattle.std.proofs.Common.{◌≡◌, ℕ, ◌+◌, Bool, true≢false, Option, None, Some, List, [], ◌∷◌, ◌++◌, map, refl, sym, ap, ◌∙◌, arith}
use Rattle.std.proofs.lemmas.List.{append-nil, append_assoc}
use Rattle.std.specs.Prelude.{slice_get, is_some}
use Rattle.mx_base.specs.declared.numbers.IntKind.{IntKind}
use Rattle.mx_base.specs.declared.numbers.IntKind.TheVariants.{I32, I64, U64}
use Rattle.mx_base.specs.declared.places.Place.{Place}
use Rattle.mx_base.specs.declared.services.CService.{CService}
use Rattle.mx_base.specs.declared.services.CService.TheVariants as in_c
use Rattle.c_types.specs.Types.{CType, Void, Int, Pointer}
use Rattle.c_tree.specs.declared.tree.Expr.{Expr}
use Rattle.c_check_rules.specs.declared.predeclared.Builtin.{Builtin}
use Rattle.c_check_rules.specs.declared.predeclared.Builtin.TheVariants as i
use Rattle.c_check_rules.specs.declared.predeclared.Bind.{Bind}
use Rattle.c_check_rules.specs.declared.predeclared.Bind.TheVariants.{Global, Local, Fun, Service, Builtin as BuiltinOf}
use Rattle.fat_ir.specs.declared.step.FatStep.{FatStep}
use Rattle.fat_ir.specs.declared.step.FatStep.TheVariants as s
use Rattle.bounds_plan.specs.meaning.Core.{Arguments}
use Rattle.bounds_plan.specs.steps.Code.{labels, labels_ptr, labels_all, code, code_ptr, codes, arguments_at}
use Rattle.bounds_plan.specs.elaboration.Types.{Value, Numeric, Address, Sort, ANumber, APointer, AWhole, NoValue, sort_of, kind_of, given_as}
use Rattle.bounds_plan.specs.elaboration.Source.{Reached, Around, Signature}
use Rattle.bounds_plan.specs.elaboration.Expressions.{Found, no_place, expression, find_all, with_argument, arguments_for, called_as, served, built_in, function_called, called, nothing_found, number_of_argument, pointer_of_argument, symbol_of}
use Rattle.steps_facts.specs.declared.seen.Sorted.{Sorted}
use Rattle.steps_facts.specs.Seen.{sorted, is_number}
use Rattle.steps_facts.specs.Around.{sorts_of, parameters_of}
use Rattle.steps_pieces.specs.Wanted.{code_value, labels_value, ending, given_number, code_given, labels_given}
use Rattle.steps_pieces.specs.Own.{bounds_for, standing_of, place_of, takes, service_takes, builtin_takes, service_labels, call_labels, service_steps, builtin_steps, call_steps, call_own}
use Rattle.steps_pieces.specs.Put.{Put, added, skipped, goes, went, went_given, went_all}
use Rattle.c_look.proofs.Values.{given_is_number}
use Rattle.c_emit.specs.Argued.{places_of}
use Rattle.c_emit.proofs.Goes.{same_goes, went_as, both, zero_on, one_from, next}
use Rattle.c_emit.proofs.Codes.{ended, ended_labels, given_code, given_labels}

-- ---- arguments

with_code : (x : Value) (rest : Arguments) (d l : ℕ) → codes (with_argument x rest) d l ≡ code_value x d l ++ codes rest (d + 2) (l + labels_value x)
with_code (Numeric e) rest d l = refl
with_code (Address p) rest d l = refl

with_labels : (x : Value) (rest : Arguments) → labels_all (with_argument x rest) ≡ labels_value x + labels_all rest
with_labels (Numeric e) rest = refl
with_labels (Address p) rest = refl

with_place : (x : Value) (rest : Arguments) (d : ℕ) → arguments_at (with_argument x rest) d ≡ standing_of (is_number x) d ∷ arguments_at rest (d + 2)
with_place (Numeric e) rest d = refl
with_place (Address p) rest d = refl

-- all arguments
passed : Arguments → (d : ℕ) → Put → Put
passed args d s = goes (λ l. codes args d l) (labels_all args) s

nothing_passed : (s : Put) → record { steps = s.steps ++ []; label = s.label + 0 } ≡ s
nothing_passed s = both _ _ _ _ (append-nil s.steps) (zero_on s.label)

one_passed : (t : CType) (f : Found) (rest : Arguments) (d : ℕ) (s : Put) → passed (with_argument (given_as (sort_of t) f.type f.value) rest) d s ≡ passed rest (d + 2) (went_given (sorted (sort_of t)) f d s)
unfolding passed went_given
one_passed t f rest d s = let x = given_as (sort_of t) f.type f.value in
    same_goes (λ l. codes (with_argument x rest) d l) (λ l. code_value x d l ++ codes rest (d + 2) (l + labels_value x)) (labels_all (with_argument x rest)) (labels_value x + labels_all rest) s (with_code x rest d s.label) (with_labels x rest)
    ∙ next (λ l. code_value x d l) (λ l. codes rest (d + 2) l) (labels_value x) (labels_all rest) s
    ∙ ap (λ (z : Put). goes (λ l. codes rest (d + 2) l) (labels_all rest) z) (same_goes (λ l. code_value x d l) (λ l. code_given (sorted (sort_of t)) (kind_of f.type) f.value d l) (labels_value x) (labels_given (sorted (sort_of t)) f.value) s (given_code (sort_of t) f.type f.value d s.label) (given_labels (sort_of t) f.type f.value))

all_passed : (ts : List CType) (es : List Expr) (around : Around) (r : Reached) (d : ℕ) (s : Put) → passed (arguments_for ts (find_all (map expression es) around r).all) d s ≡ went_all (sorts_of ts) es around r d s
unfolding passed
all_passed [] es around r d s = nothing_passed s
all_passed (t ∷ ts) [] around r d s = one_passed t nothing_found (arguments_for ts []) d s ∙ all_passed ts [] around r (d + 2) (went_given (sorted (sort_of t)) nothing_found d s)
all_passed (t ∷ ts) (e ∷ es) around r d s = let f = expression e around r in
    one_passed t f (arguments_for ts (find_all (map expression es) around f.after).all) d s ∙ all_passed ts es around f.after (d + 2) (went_given (sorted (sort_of t)) f d s)

one_place : (t : CType) (f : Found) (rest : Arguments) (more : List (ℕ × Option ℕ)) (d : ℕ) → arguments_at rest (d + 2) ≡ more
    → arguments_at (with_argument (given_as (sort_of t) f.type f.value) rest) d ≡ place_of (sorted (sort_of t)) (is_number f.value) d ∷ more
one_place t f rest more d h = with_place (given_as (sort_of t) f.type f.value) rest d ∙ ap (λ (n : Bool). standing_of n d ∷ arguments_at rest (d + 2)) (given_is_number (sort_of t) f.type f.value)
    ∙ ap (λ (c : List (ℕ × Option ℕ)). standing_of (given_number (sorted (sort_of t)) (is_number f.value)) d ∷ c) h

all_places : (ts : List CType) (es : List Expr) (around : Around) (r : Reached) (d : ℕ) → arguments_at (arguments_for ts (find_all (map expression es) around r).all) d ≡ places_of (sorts_of ts) es around r d
all_places [] es around r d = refl
all_places (t ∷ ts) [] around r d = one_place t nothing_found (arguments_for ts []) _ d (all_places ts [] around r (d + 2))
all_places (t ∷ ts) (e ∷ es) around r d = let f = expression e around r in one_place t f (arguments_for ts (find_all (map expression es) around f.after).all) _ d (all_places ts es around f.after (d + 2))

-- ---- the types of the parameters of what is called

service_types : CService → List CType
service_types in_c.Print = Int I64 ∷ []
service_types in_c.Put = Int I32 ∷ []
service_types in_c.Get = []
service_types in_c.Alloc = Int U64 ∷ []
service_types in_c.Free = Pointer Void ∷ []
service_types in_c.Exit = Int I32 ∷ []

builtin_types : Builtin → List CType
builtin_types i.SetBounds = Pointer Void ∷ Int U64 ∷ []
builtin_types i.NarrowBounds = Pointer Void ∷ Pointer Void ∷ Int U64 ∷ []
builtin_types i.CopyBounds = Pointer Void ∷ Pointer Void ∷ []
builtin_types i.InitBounds = Pointer Void ∷ []
builtin_types i.LowerBound = Pointer Void ∷ []
builtin_types i.UpperBound = Pointer Void ∷ []

function_types : Option Signature → List CType
function_types None = []
function_types (Some g) = g.parameters

call_types : Around → Bind → List CType
call_types around (Global number) = []
call_types around (Local number) = []
call_types around (Fun number) = function_types (slice_get around.signatures number)
call_types around (Service service) = service_types service
call_types around (BuiltinOf builtin) = builtin_types builtin

some_or : {A : Type 0} → A → Option A → A
some_or x None = x
some_or x (Some y) = y

some_same : {A : Type 0} (x y : A) → Some x ≡ Some y → x ≡ y
unfolding some_or
some_same {A = A} x y h = ap (λ (z : Option A). some_or x z) h

none_is_none : {A : Type 0} (x : A) {B : Type 0} → Some x ≡ None → B
none_is_none x h = absurd (true≢false (ap (λ z. is_some z) h))

service_sorts : (c : CService) → service_takes c ≡ sorts_of (service_types c)
unfolding service_types
service_sorts in_c.Print = refl
service_sorts in_c.Put = refl
service_sorts in_c.Get = refl
service_sorts in_c.Alloc = refl
service_sorts in_c.Free = refl
service_sorts in_c.Exit = refl

builtin_sorts : (b : Builtin) → builtin_takes b ≡ sorts_of (builtin_types b)
unfolding builtin_types
builtin_sorts i.SetBounds = refl
builtin_sorts i.NarrowBounds = refl
builtin_sorts i.CopyBounds = refl
builtin_sorts i.InitBounds = refl
builtin_sorts i.LowerBound = refl
builtin_sorts i.UpperBound = refl

function_sorts : (g : Option Signature) (ts : List Sorted) → Some ts ≡ parameters_of g → ts ≡ sorts_of (function_types g)
unfolding function_types
function_sorts None ts h = none_is_none ts h
function_sorts (Some g) ts h = some_same ts (sorts_of g.parameters) h

call_sorts : (around : Around) (b : Bind) (ts : List Sorted) → Some ts ≡ takes around b → ts ≡ sorts_of (call_types around b)
unfolding call_types
call_sorts around (Global number) ts h = none_is_none ts h
call_sorts around (Local number) ts h = none_is_none ts h
call_sorts around (Fun number) ts h = function_sorts (slice_get around.signatures number) ts h
call_sorts around (Service service) ts h = some_same ts _ h ∙ service_sorts service
call_sorts around (BuiltinOf builtin) ts h = some_same ts _ h ∙ builtin_sorts builtin

-- ---- services

number_passed : (k : IntKind) (all : List Found) (d l : ℕ) → code (number_of_argument k 0 all) d l ≡ codes (arguments_for (Int k ∷ []) all) d l
number_passed k [] d l = sym (append-nil _)
number_passed k (a ∷ more) d l = sym (append-nil _)

number_labels : (k : IntKind) (all : List Found) → labels (number_of_argument k 0 all) ≡ labels_all (arguments_for (Int k ∷ []) all)
number_labels k [] = sym (zero_on _)
number_labels k (a ∷ more) = sym (zero_on _)

pointer_passed : (all : List Found) (d l : ℕ) → code_ptr (pointer_of_argument 0 all) d l ≡ codes (arguments_for (Pointer Void ∷ []) all) d l
pointer_passed [] d l = sym (append-nil _)
pointer_passed (a ∷ more) d l = sym (append-nil _)

pointer_labels : (all : List Found) → labels_ptr (pointer_of_argument 0 all) ≡ labels_all (arguments_for (Pointer Void ∷ []) all)
pointer_labels [] = sym (zero_on _)
pointer_labels (a ∷ more) = sym (zero_on _)

-- arguments and the steps behind them
behind : (ts : List CType) (all : List Found) (X : List FatStep) (d l : ℕ) → List FatStep
behind ts all X d l = codes (arguments_for ts all) d l ++ X

service_code : (c : CService) (all : List Found) (d l : ℕ) → code_value (served c all) d l ≡ behind (service_types c) all (service_steps c l d) d (l + service_labels c)
unfolding service_types behind
service_code in_c.Print all d l = ap (λ (z : List FatStep). z ++ service_steps in_c.Print l d) (number_passed I64 all d l) ∙ ap (λ (m : ℕ). behind (Int I64 ∷ []) all (service_steps in_c.Print l d) d m) (sym (zero_on l))
service_code in_c.Put all d l = ap (λ (z : List FatStep). z ++ service_steps in_c.Put l d) (number_passed I32 all d l) ∙ ap (λ (m : ℕ). behind (Int I32 ∷ []) all (service_steps in_c.Put l d) d m) (sym (zero_on l))
service_code in_c.Get all d l = refl
service_code in_c.Alloc all d l = ap (λ (z : List FatStep). z ++ service_steps in_c.Alloc l d) (number_passed U64 all d (l + 1))
service_code in_c.Free all d l = ap (λ (z : List FatStep). z ++ service_steps in_c.Free l d) (pointer_passed all d l) ∙ ap (λ (m : ℕ). behind (Pointer Void ∷ []) all (service_steps in_c.Free l d) d m) (sym (zero_on l))
service_code in_c.Exit all d l = ap (λ (z : List FatStep). z ++ service_steps in_c.Exit l d) (number_passed I32 all d l) ∙ ap (λ (m : ℕ). behind (Int I32 ∷ []) all (service_steps in_c.Exit l d) d m) (sym (zero_on l))

zero_and : (n : ℕ) → n ≡ 0 + n
zero_and n = omega arith

service_labelled : (c : CService) (all : List Found) → labels_value (served c all) ≡ service_labels c + labels_all (arguments_for (service_types c) all)
unfolding service_types
service_labelled in_c.Print all = number_labels I64 all ∙ zero_and _
service_labelled in_c.Put all = number_labels I32 all ∙ zero_and _
service_labelled in_c.Get all = refl
service_labelled in_c.Alloc all = ap (λ (n : ℕ). 1 + n) (number_labels U64 all)
service_labelled in_c.Free all = pointer_labels all ∙ zero_and _
service_labelled in_c.Exit all = number_labels I32 all ∙ zero_and _

-- ---- builtins

two_numbers : (k : IntKind) (all : List Found) (d l : ℕ) → codes (arguments_for (Pointer Void ∷ Int k ∷ []) all) d l
    ≡ code_ptr (pointer_of_argument 0 all) d l ++ (code (number_of_argument k 1 all) (d + 2) (l + labels_ptr (pointer_of_argument 0 all)) ++ [])
two_numbers k [] d l = refl
two_numbers k (a ∷ []) d l = refl
two_numbers k (a ∷ b ∷ more) d l = refl

two_pointers : (all : List Found) (d l : ℕ) → codes (arguments_for (Pointer Void ∷ Pointer Void ∷ []) all) d l
    ≡ code_ptr (pointer_of_argument 0 all) d l ++ (code_ptr (pointer_of_argument 1 all) (d + 2) (l + labels_ptr (pointer_of_argument 0 all)) ++ [])
two_pointers [] d l = refl
two_pointers (a ∷ []) d l = refl
two_pointers (a ∷ b ∷ more) d l = refl

three_passed : (k : IntKind) (all : List Found) (d l : ℕ) → codes (arguments_for (Pointer Void ∷ Pointer Void ∷ Int k ∷ []) all) d l
    ≡ code_ptr (pointer_of_argument 0 all) d l ++ (code_ptr (pointer_of_argument 1 all) (d + 2) (l + labels_ptr (pointer_of_argument 0 all))
    ++ (code (number_of_argument k 2 all) (d + 2 + 2) (l + labels_ptr (pointer_of_argument 0 all) + labels_ptr (pointer_of_argument 1 all)) ++ []))
three_passed k [] d l = refl
three_passed k (a ∷ []) d l = refl
three_passed k (a ∷ b ∷ []) d l = refl
three_passed k (a ∷ b ∷ c ∷ more) d l = refl

two_numbers_labels : (k : IntKind) (all : List Found) → labels_all (arguments_for (Pointer Void ∷ Int k ∷ []) all) ≡ labels_ptr (pointer_of_argument 0 all) + (labels (number_of_argument k 1 all) + 0)
two_numbers_labels k [] = refl
two_numbers_labels k (a ∷ []) = refl
two_numbers_labels k (a ∷ b ∷ more) = refl

two_pointers_labels : (all : List Found) → labels_all (arguments_for (Pointer Void ∷ Pointer Void ∷ []) all) ≡ labels_ptr (pointer_of_argument 0 all) + (labels_ptr (pointer_of_argument 1 all) + 0)
two_pointers_labels [] = refl
two_pointers_labels (a ∷ []) = refl
two_pointers_labels (a ∷ b ∷ more) = refl

three_labels : (k : IntKind) (all : List Found) → labels_all (arguments_for (Pointer Void ∷ Pointer Void ∷ Int k ∷ []) all)
    ≡ labels_ptr (pointer_of_argument 0 all) + (labels_ptr (pointer_of_argument 1 all) + (labels (number_of_argument k 2 all) + 0))
three_labels k [] = refl
three_labels k (a ∷ []) = refl
three_labels k (a ∷ b ∷ []) = refl
three_labels k (a ∷ b ∷ c ∷ more) = refl

after_two : (A B X : List FatStep) → A ++ (B ++ X) ≡ (A ++ (B ++ [])) ++ X
after_two A B X = sym (append_assoc A (B ++ []) X ∙ ap (λ (z : List FatStep). A ++ z) (append_assoc B [] X))

after_three : (A B C X : List FatStep) → A ++ (B ++ (C ++ X)) ≡ (A ++ (B ++ (C ++ []))) ++ X
after_three A B C X = ap (λ (z : List FatStep). A ++ z) (after_two B C X) ∙ sym (append_assoc A (B ++ (C ++ [])) X)

four_on : (d : ℕ) → d + 4 ≡ d + 2 + 2
four_on d = omega arith

builtin_code : (b : Builtin) (all : List Found) (d l : ℕ) → code_ptr (built_in b all) d l ≡ behind (builtin_types b) all (builtin_steps b d) d l
unfolding builtin_types behind
builtin_code i.SetBounds all d l = after_two _ _ (builtin_steps i.SetBounds d) ∙ ap (λ (z : List FatStep). z ++ builtin_steps i.SetBounds d) (sym (two_numbers U64 all d l))
builtin_code i.NarrowBounds all d l = let A = code_ptr (pointer_of_argument 0 all) d l in let B = code_ptr (pointer_of_argument 1 all) (d + 2) (l + labels_ptr (pointer_of_argument 0 all)) in
    let X = builtin_steps i.NarrowBounds d in
    ap (λ (m : ℕ). A ++ (B ++ (code (number_of_argument U64 2 all) m (l + labels_ptr (pointer_of_argument 0 all) + labels_ptr (pointer_of_argument 1 all)) ++ X))) (four_on d)
    ∙ after_three A B _ X ∙ ap (λ (z : List FatStep). z ++ X) (sym (three_passed U64 all d l))
builtin_code i.CopyBounds all d l = after_two _ _ (builtin_steps i.CopyBounds d) ∙ ap (λ (z : List FatStep). z ++ builtin_steps i.CopyBounds d) (sym (two_pointers all d l))
builtin_code i.InitBounds all d l = ap (λ (z : List FatStep). z ++ builtin_steps i.InitBounds d) (pointer_passed all d l)
builtin_code i.LowerBound all d l = ap (λ (z : List FatStep). z ++ builtin_steps i.LowerBound d) (pointer_passed all d l)
builtin_code i.UpperBound all d l = ap (λ (z : List FatStep). z ++ builtin_steps i.UpperBound d) (pointer_passed all d l)

last_of_two : (n m : ℕ) → n + m ≡ n + (m + 0)
last_of_two n m = omega arith

last_of_three : (n m k : ℕ) → n + m + k ≡ n + (m + (k + 0))
last_of_three n m k = omega arith

builtin_labelled : (b : Builtin) (all : List Found) → labels_ptr (built_in b all) ≡ labels_all (arguments_for (builtin_types b) all)
unfolding builtin_types
builtin_labelled i.SetBounds all = last_of_two (labels_ptr (pointer_of_argument 0 all)) (labels (number_of_argument U64 1 all)) ∙ sym (two_numbers_labels U64 all)
builtin_labelled i.NarrowBounds all = last_of_three (labels_ptr (pointer_of_argument 0 all)) (labels_ptr (pointer_of_argument 1 all)) (labels (number_of_argument U64 2 all)) ∙ sym (three_labels U64 all)
builtin_labelled i.CopyBounds all = last_of_two (labels_ptr (pointer_of_argument 0 all)) (labels_ptr (pointer_of_argument 1 all)) ∙ sym (two_pointers_labels all)
builtin_labelled i.InitBounds all = pointer_labels all
builtin_labelled i.LowerBound all = pointer_labels all
builtin_labelled i.UpperBound all = pointer_labels all

-- ---- the call

as_code : (k : Sort) (symbol : ℕ) (args : Arguments) (d l : ℕ) → code_value (called_as k symbol args) d l ≡ codes args d l ++ (s.Call symbol (arguments_at args d) (Some d) (bounds_for (sorted k) d) ∷ [])
as_code (ANumber kind) symbol args d l = refl
as_code APointer symbol args d l = refl
as_code AWhole symbol args d l = refl
as_code NoValue symbol args d l = refl

as_labels : (k : Sort) (symbol : ℕ) (args : Arguments) → labels_value (called_as k symbol args) ≡ labels_all args
as_labels (ANumber kind) symbol args = refl
as_labels APointer symbol args = refl
as_labels AWhole symbol args = refl
as_labels NoValue symbol args = refl

function_code : (g : Option Signature) (ts : List Sorted) (around : Around) (t : CType) (number : ℕ) (all : List Found) (d l : ℕ) → Some ts ≡ parameters_of g → let args = arguments_for (function_types g) all in
    code_value (function_called around t number g all) d l ≡ codes args d (l + 0) ++ (s.Call (symbol_of around number) (arguments_at args d) (Some d) (bounds_for (sorted (sort_of t)) d) ∷ [])
unfolding function_types
function_code None ts around t number all d l h = none_is_none ts h
function_code (Some g) ts around t number all d l h = let args = arguments_for g.parameters all in
    as_code (sort_of t) (symbol_of around number) args d l ∙ ap (λ (m : ℕ). codes args d m ++ (s.Call (symbol_of around number) (arguments_at args d) (Some d) (bounds_for (sorted (sort_of t)) d) ∷ [])) (sym (zero_on l))

function_labels : (g : Option Signature) (ts : List Sorted) (around : Around) (t : CType) (number : ℕ) (all : List Found) → Some ts ≡ parameters_of g
    → labels_value (function_called around t number g all) ≡ 0 + labels_all (arguments_for (function_types g) all)
unfolding function_types
function_labels None ts around t number all h = none_is_none ts h
function_labels (Some g) ts around t number all h = as_labels (sort_of t) (symbol_of around number) (arguments_for g.parameters all) ∙ zero_and _

call_code : (around : Around) (t : CType) (b : Bind) (ts : List Sorted) (all : List Found) (d l : ℕ) → Some ts ≡ takes around b → let args = arguments_for (call_types around b) all in
    code_value (called around t b all) d l ≡ codes args d (l + call_labels b) ++ call_steps around b (arguments_at args d) (sorted (sort_of t)) l d
unfolding call_types behind
call_code around t (Global number) ts all d l h = none_is_none ts h
call_code around t (Local number) ts all d l h = none_is_none ts h
call_code around t (Fun number) ts all d l h = function_code (slice_get around.signatures number) ts around t number all d l h
call_code around t (Service service) ts all d l h = service_code service all d l
call_code around t (BuiltinOf builtin) ts all d l h = builtin_code builtin all d l ∙ ap (λ (m : ℕ). behind (builtin_types builtin) all (builtin_steps builtin d) d m) (sym (zero_on l))

call_labelled : (around : Around) (t : CType) (b : Bind) (ts : List Sorted) (all : List Found) → Some ts ≡ takes around b → labels_value (called around t b all) ≡ call_labels b + labels_all (arguments_for (call_types around b) all)
unfolding call_types
call_labelled around t (Global number) ts all h = none_is_none ts h
call_labelled around t (Local number) ts all h = none_is_none ts h
call_labelled around t (Fun number) ts all h = function_labels (slice_get around.signatures number) ts around t number all h
call_labelled around t (Service service) ts all h = service_labelled service all
call_labelled around t (BuiltinOf builtin) ts all h = builtin_labelled builtin all ∙ zero_and _

pub call_form : (around : Around) (w : Bool) (t : CType) (b : Bind) (ts : List Sorted) (es : List Expr) (r : Reached) (p : Place) (q : Reached) (d : ℕ) (s : Put) → Some ts ≡ takes around b → let all = (find_all (map expression es) around r).all in
    went w (no_place t (called around t b all) p q) d s
    ≡ added (call_own around b (places_of ts es around r d) (sorted (sort_of t)) s.label w (is_number (called around t b all)) d) (went_all ts es around r d (skipped (call_labels b) s))
unfolding went call_own passed
call_form around w t b ts es r p q d s h = let all = (find_all (map expression es) around r).all in
    let args = arguments_for (call_types around b) all in
    let k = call_labels b in
    let S = sorted (sort_of t) in
    let E = ending w (is_number (called around t b all)) d in
    let X = call_steps around b (arguments_at args d) S s.label d ++ E in
    went_as w (no_place t (called around t b (find_all (map expression es) around r).all) p q) d (λ l. codes args d (l + k) ++ X) (k + labels_all args) s
    (ended w t (called around t b all) p q d s.label ∙ ap (λ (c : List FatStep). c ++ E) (call_code around t b ts all d s.label h) ∙ append_assoc (codes args d (s.label + k)) _ E)
    (ended_labels w t (called around t b all) p q ∙ call_labelled around t b ts all h)
    ∙ one_from k (λ l. codes args d l) (labels_all args) X s
    ∙ ap (λ (z : Put). added X z) (all_passed (call_types around b) es around r d (skipped k s))
    ∙ ap (λ (z : List (ℕ × Option ℕ)). added (call_steps around b z S s.label d ++ E) (went_all (sorts_of (call_types around b)) es around r d (skipped k s))) (all_places (call_types around b) es around r d)
    ∙ ap (λ (z : List Sorted). added (call_steps around b (places_of z es around r d) S s.label d ++ E) (went_all z es around r d (skipped k s))) (sym (call_sorts around b ts h))
