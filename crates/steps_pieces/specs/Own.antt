-- The steps that the forms of expressions have of their own, by what is known of their parts.
use Rattle.std.specs.Prelude.{ℕ, ◌+◌, Bool, true, false, not, Option, None, Some, List, [], ◌∷◌, ◌++◌, slice_index_or}
use Rattle.mx_base.specs.declared.numbers.IntKind.{IntKind}
use Rattle.mx_base.specs.declared.numbers.IntKind.TheVariants.{I32, I64, U64}
use Rattle.mx_base.specs.declared.places.Place.{Place}
use Rattle.mx_base.specs.declared.operators.Arithmetic.{Arithmetic}
use Rattle.mx_base.specs.declared.operators.Arithmetic.TheVariants.{Mul, Div, Add, Sub, BitXor}
use Rattle.mx_base.specs.declared.operators.Comparison.{Comparison}
use Rattle.mx_base.specs.declared.operators.Comparison.TheVariants.{Equal}
use Rattle.mx_base.specs.declared.services.CService.{CService}
use Rattle.mx_base.specs.declared.services.CService.TheVariants as in_c
use Rattle.mx_base.specs.Numbers.{size_of}
use Rattle.narrowing.specs.declared.member.Rule.{Rule}
use Rattle.narrowing.specs.declared.member.Rule.TheVariants.{Keep, Meet}
use Rattle.c_tree.specs.declared.operators.UnaryOp.{UnaryOp}
use Rattle.c_tree.specs.declared.operators.UnaryOp.TheVariants as u
use Rattle.c_tree.specs.declared.operators.Logical.TheVariants as logic
use Rattle.c_tree.specs.declared.operators.BinaryOp.{BinaryOp}
use Rattle.c_tree.specs.declared.operators.BinaryOp.TheVariants as j
use Rattle.c_check_rules.specs.declared.predeclared.Builtin.{Builtin}
use Rattle.c_check_rules.specs.declared.predeclared.Builtin.TheVariants as i
use Rattle.c_check_rules.specs.Operators.{shifts, takes_away}
use Rattle.c_check_rules.specs.declared.predeclared.Bind.{Bind}
use Rattle.c_check_rules.specs.declared.predeclared.Bind.TheVariants.{Global, Local, Fun, Service, Builtin as BuiltinOf}
use Rattle.fat_ir.specs.declared.step.FatStep.{FatStep}
use Rattle.fat_ir.specs.declared.step.FatStep.TheVariants as s
use Rattle.bounds_plan.specs.steps.Code.{scaled, plus_or_minus, ruled, offset_by, full, before_or_after}
use Rattle.bounds_plan.specs.elaboration.Types.{promoted, common, done_in}
use Rattle.bounds_plan.specs.elaboration.Places.{Lvalue, variable_of}
use Rattle.bounds_plan.specs.elaboration.Source.{Around}
use Rattle.bounds_plan.specs.elaboration.Expressions.{minus_one, symbol_of}
use Rattle.steps_facts.specs.declared.seen.Sorted.{Sorted}
use Rattle.steps_facts.specs.declared.seen.Sorted.TheVariants as o
use Rattle.steps_facts.specs.declared.seen.Spot.{Spot}
use Rattle.steps_facts.specs.declared.seen.Spot.TheVariants as p
use Rattle.steps_facts.specs.declared.seen.Facts.{Facts}
use Rattle.steps_facts.specs.Seen.{SeenOf, kind_in, spot_of}
use Rattle.steps_facts.specs.Around.{parameters_at}
use Rattle.steps_pieces.specs.Operators.{step_operator}
use Rattle.steps_pieces.specs.Wanted.{code_lvalue, extending, addressing, ending, read_unless, reads_number, given_number, null_at}

abbrev pub unless : Bool → List FatStep → List FatStep
unless true steps = []
unless false steps = steps

-- ---- numbers, texts and names

unfoldable pub word_own : (n : ℕ) → (w : Bool) → (d : ℕ) → List FatStep
word_own n w d = s.Const d n ∷ ending w true d

unfoldable pub text_own : (symbol offset size : ℕ) → (d : ℕ) → List FatStep
text_own symbol offset size d = s.Place d (d + 1) (Some symbol) offset size ∷ []

abbrev pub local_steps : Lvalue → Sorted → (w : Bool) → Place → (d : ℕ) → List FatStep
local_steps lv sort w place d = code_lvalue lv d 0 ++ read_unless w (spot_of lv) sort place d

abbrev pub name_steps : Around → Bind → Facts → (w : Bool) → Place → (d : ℕ) → List FatStep
name_steps around (Global number) facts w place d =
    (s.Place d (d + 1) (Some (slice_index_or around.layout.globals number 0)) 0 facts.size ∷ [])
    ++ read_unless w p.Memory facts.sort place d
name_steps around (Local number) facts w place d =
    local_steps (variable_of around.structs around.variables around.stands 0 number) facts.sort w place d
name_steps around (Fun number) facts w place d = (s.Place d (d + 1) (Some (symbol_of around number)) 0 1 ∷ []) ++ ending w false d
name_steps around (Service service) facts w place d = (s.Const d 0 ∷ []) ++ ending w true d
name_steps around (BuiltinOf builtin) facts w place d = (s.Const d 0 ∷ []) ++ ending w true d

unfoldable pub name_own : Around → Bind → Facts → (w : Bool) → Place → (d : ℕ) → List FatStep
name_own around bind facts w place d = name_steps around bind facts w place d

-- ---- one operand

-- a private variable has no address
abbrev pub hidden : Spot → (d : ℕ) → List FatStep
hidden (p.Number x) d = null_at d
hidden (p.Pointer x) d = null_at d
hidden p.Memory d = []

-- an operator on the promoted operand and a number
abbrev pub with_word : Arithmetic → IntKind → (n : ℕ) → (d : ℕ) → List FatStep
with_word op kind n d = extending kind (promoted kind) d ++ (s.Const (d + 2) n ∷ s.Arith d op (promoted kind) d (d + 2) ∷ [])

abbrev pub single_steps : UnaryOp → SeenOf → Sorted → (w : Bool) → Place → (d : ℕ) → List FatStep
single_steps u.Neg x sort w place d = with_word Mul (kind_in x.facts.sort) minus_one d ++ ending w true d
single_steps u.BitNot x sort w place d = with_word BitXor (kind_in x.facts.sort) minus_one d ++ ending w true d
single_steps u.Not x sort w place d = (s.Const (d + 2) 0 ∷ s.Compare d Equal (kind_in x.facts.sort) d (d + 2) ∷ []) ++ ending w true d
single_steps u.Deref x sort w place d = addressing x.number d ++ read_unless w p.Memory sort place d
single_steps u.AddressOf x sort w place d = hidden x.spot d

unfoldable pub single_own : UnaryOp → SeenOf → Sorted → (w : Bool) → Place → (d : ℕ) → List FatStep
single_own op x sort w place d = single_steps op x sort w place d

-- a cast to a type of a sort
abbrev pub cast_steps : SeenOf → Sorted → (w : Bool) → (d : ℕ) → List FatStep
cast_steps x (o.Number kind) w d = extending (kind_in x.facts.sort) kind d ++ ending w true d
cast_steps x o.Pointer w d = addressing x.number d
cast_steps x o.Whole w d = ending w x.number d
cast_steps x o.Nothing w d = ending w x.number d

unfoldable pub cast_own : SeenOf → Sorted → (w : Bool) → (d : ℕ) → List FatStep
cast_own x sort w d = cast_steps x sort w d

-- ---- two operands, of which the left one is in d, and the right one goes to d + 2; but that of `&&` or `||` goes to d, with labels
-- from l on

-- the right operand of a shift stays as it is
abbrev pub right_extending : Arithmetic → (from to : IntKind) → (d : ℕ) → List FatStep
right_extending op from to d = unless (shifts op) (extending from to d)

-- a left operand is converted before the right one is evaluated, where both are numbers
abbrev pub if_numbers : (a b : Bool) → List FatStep → List FatStep
if_numbers true true steps = steps
if_numbers true false steps = []
if_numbers false b steps = []

abbrev pub calculating : (a b : Bool) → Arithmetic → (a_kind b_kind : IntKind) → (a_step b_step : ℕ) → (d : ℕ) → List FatStep
calculating true true op ka kb sa sb d = right_extending op kb (done_in op ka kb) (d + 2)
    ++ (s.Arith d op (done_in op ka kb) d (d + 2) ∷ [])
calculating false true op ka kb sa sb d = scaled sa (d + 2) (d + 4) ++ (s.Arith d (plus_or_minus (takes_away op)) U64 d (d + 2) ∷ [])
calculating true false op ka kb sa sb d = scaled sb d (d + 4) ++ (s.Arith d Add U64 (d + 2) d ∷ s.Copy (d + 1) (d + 2 + 1) ∷ [])
calculating false false op ka kb sa sb d = s.Arith d Sub I64 d (d + 2) ∷ s.Const (d + 2) sa ∷ s.Arith d Div I64 d (d + 2) ∷ []

abbrev pub comparing : (a b : Bool) → Comparison → (a_kind b_kind : IntKind) → (d : ℕ) → List FatStep
comparing true true op ka kb d = extending kb (common ka kb) (d + 2) ++ (s.Compare d op (common ka kb) d (d + 2) ∷ [])
comparing true false op ka kb d = s.Compare d op U64 d (d + 2) ∷ []
comparing false b op ka kb d = s.Compare d op U64 d (d + 2) ∷ []

-- on at the label `on` if d is not 0, and else at `end`
abbrev pub parting : (on end d : ℕ) → List FatStep
parting on end d = s.JumpIf d on ∷ s.Jump end ∷ s.Label on ∷ []

-- the same, and 1 into d before `end`
abbrev pub deciding : (on end d : ℕ) → List FatStep
deciding on end d = s.JumpIf d on ∷ s.Jump end ∷ s.Label on ∷ s.Const d 1 ∷ s.Label end ∷ []

abbrev pub between : BinaryOp → (a b : SeenOf) → (l d : ℕ) → List FatStep
between (j.Arithmetic op) a b l d =
    if_numbers a.number b.number (extending (kind_in a.facts.sort) (done_in op (kind_in a.facts.sort) (kind_in b.facts.sort)) d)
between (j.Comparison op) a b l d =
    if_numbers a.number b.number (extending (kind_in a.facts.sort) (common (kind_in a.facts.sort) (kind_in b.facts.sort)) d)
between (j.Logical logic.And) a b l d = parting l (l + 1) d
between (j.Logical logic.Or) a b l d = s.JumpIf d l ∷ []

abbrev pub behind : BinaryOp → (a b : SeenOf) → (l d : ℕ) → List FatStep
behind (j.Arithmetic op) a b l d =
    calculating a.number b.number op (kind_in a.facts.sort) (kind_in b.facts.sort) a.facts.step b.facts.step d
behind (j.Comparison op) a b l d = comparing a.number b.number op (kind_in a.facts.sort) (kind_in b.facts.sort) d
behind (j.Logical logic.And) a b l d = deciding (l + 2) (l + 1) d
behind (j.Logical logic.Or) a b l d = deciding l (l + 1) d

unfoldable pub joint_between : BinaryOp → (a b : SeenOf) → (l d : ℕ) → List FatStep
joint_between joint a b l d = between joint a b l d

unfoldable pub joint_behind : BinaryOp → (a b : SeenOf) → (l : ℕ) → (w number : Bool) → (d : ℕ) → List FatStep
joint_behind joint a b l w number d = behind joint a b l d ++ ending w number d

-- ---- `?:`

-- it gives numbers of a type, or pointers
abbrev pub choice_of : Sorted → Sorted
choice_of (o.Number kind) = o.Number kind
choice_of o.Pointer = o.Pointer
choice_of o.Whole = o.Pointer
choice_of o.Nothing = o.Pointer

-- to `end` from here, and on from `on`
abbrev pub crossing : (on end : ℕ) → List FatStep
crossing on end = s.Jump end ∷ s.Label on ∷ []

unfoldable pub choice_end : (end : ℕ) → (w number : Bool) → (d : ℕ) → List FatStep
choice_end end w number d = s.Label end ∷ ending w number d

-- ---- assignments

-- whether an assignment leaves a place as it is: that of an array or a struct is no value
abbrev pub is_copied : Spot → Sorted → Bool
is_copied (p.Number x) sort = false
is_copied (p.Pointer x) sort = false
is_copied p.Memory (o.Number kind) = false
is_copied p.Memory o.Pointer = false
is_copied p.Memory o.Whole = true
is_copied p.Memory o.Nothing = true

-- where the value for a place goes: a place in memory has its address in d
abbrev pub value_at : Spot → (d : ℕ) → ℕ
value_at (p.Number x) d = d
value_at (p.Pointer x) d = d
value_at p.Memory d = d + 2

-- the sort of value that is wanted for `=`; an operator takes any
abbrev pub assigned_sort : Option Arithmetic → Sorted → Sorted
assigned_sort None sort = sort
assigned_sort (Some op) sort = o.Nothing

-- what is in d + 2 is written at the address in d, and is then in d
abbrev pub writing : Sorted → Place → (d : ℕ) → List FatStep
writing (o.Number kind) place d = s.Judge d (size_of kind) (d + 1) true place ∷ s.Store d (d + 2) kind ∷ s.Copy d (d + 2) ∷ []
writing o.Pointer place d = s.Judge d 8 (d + 1) true place ∷ s.StorePtr d (d + 2) (d + 2 + 1) ∷ s.Copy d (d + 2)
    ∷ s.Copy (d + 1) (d + 2 + 1) ∷ []
writing o.Whole place d = []
writing o.Nothing place d = []

abbrev pub storing : Spot → Sorted → (number : Bool) → Place → (d : ℕ) → List FatStep
storing (p.Number x) sort number place d = s.Copy x d ∷ []
storing (p.Pointer x) sort number place d = addressing number d ++ (s.Copy x d ∷ s.Copy (x + 1) (d + 1) ∷ [])
storing p.Memory sort number place d = writing sort place d

-- a number in a private variable, a pointer there, and both in memory, are changed by an operator and a number of the type `from`
abbrev pub changing_number : (x : ℕ) → (kind : IntKind) → Arithmetic → (from : IntKind) → (old : Bool) → (d : ℕ) → List FatStep
changing_number x kind op from old d = right_extending op from (done_in op kind from) d
    ++ (s.Copy (d + 2) x ∷ s.Arith d op (done_in op kind from) (d + 2) d ∷ s.Extend d d kind ∷ s.Copy x d
    ∷ s.Copy d (before_or_after old (d + 2) d) ∷ [])

abbrev pub advancing : (x : ℕ) → (minus : Bool) → (size : ℕ) → (old : Bool) → (d : ℕ) → List FatStep
advancing x minus size old d = scaled size d (d + 2)
    ++ (s.Copy (d + 2) x ∷ s.Arith d (plus_or_minus minus) U64 (d + 2) d ∷ s.Copy x d ∷ s.Copy d (before_or_after old (d + 2) d)
    ∷ s.Copy (d + 1) (x + 1) ∷ [])

abbrev pub number_read : (place : Place) → (kind : IntKind) → Arithmetic → (common : IntKind) → (d : ℕ) → List FatStep
number_read place kind op common d = s.Judge d (size_of kind) (d + 1) false place ∷ s.Load d (d + 4) kind
    ∷ s.Arith (d + 2) op common (d + 4) (d + 2) ∷ s.Extend (d + 2) (d + 2) kind ∷ []

abbrev pub number_written : (place : Place) → (kind : IntKind) → (old : Bool) → (d : ℕ) → List FatStep
number_written place kind old d = s.Judge d (size_of kind) (d + 1) true place ∷ s.Store d (d + 2) kind
    ∷ s.Copy d (before_or_after old (d + 4) (d + 2)) ∷ []

abbrev pub changing_number_at : (place : Place) → (kind : IntKind) → Arithmetic → (from : IntKind) → (old : Bool) → (d : ℕ) → List FatStep
changing_number_at place kind op from old d = right_extending op from (done_in op kind from) (d + 2)
    ++ (number_read place kind op (done_in op kind from) d ++ number_written place kind old d)

abbrev pub advancing_at : (place : Place) → (minus : Bool) → (size : ℕ) → (old : Bool) → (d : ℕ) → List FatStep
advancing_at place minus size old d = scaled size (d + 2) (d + 4)
    ++ (s.Judge d 8 (d + 1) false place ∷ s.LoadPtr d (d + 4) (d + 4 + 1) ∷ s.Arith (d + 2) (plus_or_minus minus) U64 (d + 4) (d + 2)
    ∷ s.Judge d 8 (d + 1) true place ∷ s.StorePtr d (d + 2) (d + 4 + 1) ∷ s.Copy d (before_or_after old (d + 4) (d + 2))
    ∷ s.Copy (d + 1) (d + 4 + 1) ∷ [])

abbrev pub changing_at : Sorted → Place → Arithmetic → (from : IntKind) → (size : ℕ) → (old : Bool) → (d : ℕ) → List FatStep
changing_at (o.Number kind) place op from size old d = changing_number_at place kind op from old d
changing_at o.Pointer place op from size old d = advancing_at place (takes_away op) size old d
changing_at o.Whole place op from size old d = []
changing_at o.Nothing place op from size old d = []

abbrev pub changing : Spot → Sorted → Place → Arithmetic → (from : IntKind) → (size : ℕ) → (old : Bool) → (d : ℕ) → List FatStep
changing (p.Number x) sort place op from size old d = changing_number x (kind_in sort) op from old d
changing (p.Pointer x) sort place op from size old d = advancing x (takes_away op) size old d
changing p.Memory sort place op from size old d = changing_at sort place op from size old d

-- x becomes the value y, or what an operator makes of both
abbrev pub assigned_steps : Option Arithmetic → (x y : SeenOf) → (d : ℕ) → List FatStep
assigned_steps None x y d = storing x.spot x.facts.sort (given_number x.facts.sort y.number) x.place d
assigned_steps (Some op) x y d = changing x.spot x.facts.sort x.place op (kind_in y.facts.sort) x.facts.step false d

unfoldable pub assigned_own : Option Arithmetic → (x y : SeenOf) → (w : Bool) → (d : ℕ) → List FatStep
assigned_own op x y w d = assigned_steps op x y d ++ ending w (reads_number x.spot x.facts.sort) d

-- `++` and `--`: the number 1, and the change
abbrev pub one_for : Spot → Sorted → (d : ℕ) → List FatStep
one_for spot sort d = unless (is_copied spot sort) (s.Const (value_at spot d) 1 ∷ [])

unfoldable pub stepped_own : (up before : Bool) → SeenOf → (w : Bool) → (d : ℕ) → List FatStep
stepped_own up before x w d = one_for x.spot x.facts.sort d
    ++ (changing x.spot x.facts.sort x.place (step_operator up) I32 x.facts.step (not before) d
    ++ ending w (reads_number x.spot x.facts.sort) d)

-- ---- elements and members

abbrev pub part_ruled : Rule → (d : ℕ) → List FatStep
part_ruled Keep d = []
part_ruled (Meet offset size) d = ruled (Meet offset size) d ++ offset_by 0 d d (d + 2)

-- the element of a number in d + 2 behind the pointer in d
unfoldable pub element_own : Rule → Facts → (w : Bool) → Place → (d : ℕ) → List FatStep
element_own rule facts w place d = (scaled facts.size (d + 2) (d + 4) ++ (s.Arith d Add U64 d (d + 2) ∷ [])) ++ (part_ruled rule d
    ++ read_unless w p.Memory facts.sort place d)

-- the member at an offset of the struct whose address is in d
unfoldable pub member_own : (number : Bool) → (offset : ℕ) → Rule → Sorted → (w : Bool) → Place → (d : ℕ) → List FatStep
member_own number offset rule sort w place d = addressing number d ++ ((ruled rule d ++ offset_by offset d d (d + 2))
    ++ read_unless w p.Memory sort place d)

-- ---- a value where one of a sort is wanted

unfoldable pub converting : SeenOf → IntKind → (d : ℕ) → List FatStep
converting x kind d = extending (kind_in x.facts.sort) kind d

-- ---- calls

abbrev pub bounds_for : Sorted → (d : ℕ) → Option ℕ
bounds_for (o.Number kind) d = None
bounds_for o.Pointer d = Some (d + 1)
bounds_for o.Whole d = None
bounds_for o.Nothing d = None

-- where an argument stands
abbrev pub standing_of : (number : Bool) → (d : ℕ) → ℕ × Option ℕ
standing_of true d = (d, None)
standing_of false d = (d, Some (d + 1))

abbrev pub place_of : Sorted → (number : Bool) → (d : ℕ) → ℕ × Option ℕ
place_of to number d = standing_of (given_number to number) d

-- the sorts of the arguments of a service, of a builtin, and of what a name means
abbrev pub service_takes : CService → List Sorted
service_takes in_c.Print = o.Number I64 ∷ []
service_takes in_c.Put = o.Number I32 ∷ []
service_takes in_c.Get = []
service_takes in_c.Alloc = o.Number U64 ∷ []
service_takes in_c.Free = o.Pointer ∷ []
service_takes in_c.Exit = o.Number I32 ∷ []

abbrev pub builtin_takes : Builtin → List Sorted
builtin_takes i.SetBounds = o.Pointer ∷ o.Number U64 ∷ []
builtin_takes i.NarrowBounds = o.Pointer ∷ o.Pointer ∷ o.Number U64 ∷ []
builtin_takes i.CopyBounds = o.Pointer ∷ o.Pointer ∷ []
builtin_takes i.InitBounds = o.Pointer ∷ []
builtin_takes i.LowerBound = o.Pointer ∷ []
builtin_takes i.UpperBound = o.Pointer ∷ []

abbrev pub takes : Around → Bind → Option (List Sorted)
takes around (Global number) = None
takes around (Local number) = None
takes around (Fun number) = parameters_at around number
takes around (Service service) = Some (service_takes service)
takes around (BuiltinOf builtin) = Some (builtin_takes builtin)

-- `alloc` takes a label before its argument
abbrev pub service_labels : CService → ℕ
service_labels in_c.Print = 0
service_labels in_c.Put = 0
service_labels in_c.Get = 0
service_labels in_c.Alloc = 1
service_labels in_c.Free = 0
service_labels in_c.Exit = 0

abbrev pub call_labels : Bind → ℕ
call_labels (Global number) = 0
call_labels (Local number) = 0
call_labels (Fun number) = 0
call_labels (Service service) = service_labels service
call_labels (BuiltinOf builtin) = 0

abbrev pub service_steps : CService → (l d : ℕ) → List FatStep
service_steps in_c.Print l d = s.Service in_c.Print (Some d) (Some d) ∷ []
service_steps in_c.Put l d = s.Service in_c.Put (Some d) (Some d) ∷ []
service_steps in_c.Get l d = s.Service in_c.Get None (Some d) ∷ []
service_steps in_c.Alloc l d = s.Service in_c.Alloc (Some d) (Some (d + 2)) ∷ s.JumpIf (d + 2) l ∷ s.Const d 0 ∷ s.Label l
    ∷ s.Make (d + 1) (d + 2) d ∷ s.Copy d (d + 2) ∷ []
service_steps in_c.Free l d = s.Service in_c.Free (Some d) (Some d) ∷ []
service_steps in_c.Exit l d = s.Service in_c.Exit (Some d) (Some d) ∷ []

abbrev pub builtin_steps : Builtin → (d : ℕ) → List FatStep
builtin_steps i.SetBounds d = s.Make (d + 1) d (d + 2) ∷ []
builtin_steps i.NarrowBounds d = s.Make (d + 1) d (d + 4) ∷ s.Meet (d + 1) (d + 2 + 1) (d + 1) ∷ []
builtin_steps i.CopyBounds d = s.Copy (d + 1) (d + 2 + 1) ∷ []
builtin_steps i.InitBounds d = full (d + 1) (d + 2)
builtin_steps i.LowerBound d = s.Bound d (d + 1) false ∷ []
builtin_steps i.UpperBound d = s.Bound d (d + 1) true ∷ []

-- a call of what a name means, whose arguments stand there and whose result is of a sort; a variable is not called
abbrev pub call_steps : Around → Bind → List (ℕ × Option ℕ) → Sorted → (l d : ℕ) → List FatStep
call_steps around (Global number) places sort l d = []
call_steps around (Local number) places sort l d = []
call_steps around (Fun number) places sort l d = s.Call (symbol_of around number) places (Some d) (bounds_for sort d) ∷ []
call_steps around (Service service) places sort l d = service_steps service l d
call_steps around (BuiltinOf builtin) places sort l d = builtin_steps builtin d

unfoldable pub call_own : Around → Bind → List (ℕ × Option ℕ) → Sorted → (l : ℕ) → (w number : Bool) → (d : ℕ) → List FatStep
call_own around bind places sort l w number d = call_steps around bind places sort l d ++ ending w number d
