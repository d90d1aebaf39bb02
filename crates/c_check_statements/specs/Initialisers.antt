-- Initialisers by the type that they fill. A scalar takes an expression that converts to it; an array of `char` takes a text that fits with or
-- without its end byte; an array or struct takes a list in braces of at most its parts; and a local struct takes one of the same struct. Of a
-- global an integer takes a constant, whose word in the integer's type is noted, and a pointer the number 0.
use Rattle.std.specs.Prelude.{ℕ, ◌+◌, nat_le, nat_lt, Bool, true, false, not, ◌&&◌, if◌then◌else◌, List, [], ◌∷◌, ◌++◌, length, slice_get, Option, None, Some}
use Rattle.mx_base.specs.declared.places.Place.{Place}
use Rattle.mx_base.specs.declared.numbers.IntKind.TheVariants.{I8, U8, I16, U16, I32, U32, I64, U64}
use Rattle.c_tree.specs.declared.tree.Expr.{Expr}
use Rattle.c_tree.specs.declared.tree.Init.{Init, fold-Init}
use Rattle.c_tree.specs.declared.tree.InitKind.{InitKind-F}
use Rattle.c_tree.specs.declared.tree.InitKind.TheOpen as i
use Rattle.c_types.specs.Types.{CType}
use Rattle.c_check_rules.specs.declared.kinds.Outer.{Outer}
use Rattle.c_check_rules.specs.declared.kinds.Outer.TheVariants as o
use Rattle.c_check_rules.specs.declared.names.StructInfo.{StructInfo}
use Rattle.c_check_rules.specs.declared.names.Member.{Member}
use Rattle.c_check_rules.specs.declared.constants.Constant.{Constant}
use Rattle.c_check_rules.specs.declared.constants.Constant.TheVariants as c
use Rattle.c_check_rules.specs.Kinds.{outer_of, inner_of}
use Rattle.c_check_rules.specs.Constants.{cast_constant}
use Rattle.c_check_rules.specs.Names.{member_kind}
use Rattle.c_check_rules.specs.Conversions.{converts, fits_struct, is_integer_form}
use Rattle.c_check_typing.specs.declared.typed.Typed.{Typed}
use Rattle.c_check_typing.specs.declared.typed.Notes.{Notes}
use Rattle.c_check_typing.specs.declared.fault.CheckKind.{CheckKind}
use Rattle.c_check_typing.specs.declared.fault.CheckKind.TheVariants.{NotConst, NotPlace, BadType}
use Rattle.c_check_typing.specs.Refusals.{breaks}
use Rattle.c_check_typing.specs.Notes.{Seen, unevaluated, first_evaluated, with_constant}
use Rattle.c_check_typing.specs.Rules.{decayed, is_no_source, members_in}
use Rattle.c_check_statements.specs.declared.initialisers.Filled.{Filled}
use Rattle.c_check_statements.specs.declared.initialisers.Filled.TheVariants as f
use Rattle.c_check_statements.specs.Counts.{open_constant}
use Rattle.c_check_statements.specs.Walks.{Walk, stay, ◌then◌, at_node, seen_in, past}

-- what is filled: a global, a local, or a part of a local in braces (`declared.initialisers.Filled`), and its type, if it is known
abbrev pub Filling : Type 0
Filling = Filled → (target : Option CType) → Walk

-- ---- one expression

-- an array of `char`
abbrev pub is_char : Outer → Bool
is_char o.Void = false
is_char (o.Int I8) = true
is_char (o.Int U8) = false
is_char (o.Int I16) = false
is_char (o.Int U16) = false
is_char (o.Int I32) = false
is_char (o.Int U32) = false
is_char (o.Int I64) = false
is_char (o.Int U64) = false
is_char o.Pointer = false
is_char (o.Array n) = false
is_char (o.Struct n) = false

-- a text of so many bytes, without its end byte, in an array of so many
abbrev pub text_fits : (count : ℕ) → Option ℕ → Bool
text_fits count None = false
text_fits count (Some bytes) = nat_le bytes count

abbrev pub fills_form : Outer → CType → Option ℕ → Bool
fills_form o.Void kind text = false
fills_form (o.Int k) kind text = false
fills_form o.Pointer kind text = false
fills_form (o.Array count) kind text = is_char (outer_of (inner_of kind)) && text_fits count text
fills_form (o.Struct n) kind text = false

-- whether a text fills an array of `char`
abbrev pub fills_text : CType → Option ℕ → Bool
fills_text kind text = fills_form (outer_of kind) kind text

abbrev pub is_global : Filled → Bool
is_global f.Global = true
is_global f.Local = false
is_global f.Part = false

-- a global integer takes a constant
abbrev pub needs_constant : Filled → Outer → Bool
needs_constant filled form = is_global filled && is_integer_form form

abbrev pub takes_scalar : CType → Typed → Bool
takes_scalar kind t = converts kind (decayed t.kind) t.is_zero

-- a scalar takes what converts to it, a global pointer the number 0 alone, a local struct the same struct, and an array a text
abbrev pub takes_form : Filled → Outer → CType → Typed → Bool
takes_form filled o.Void kind t = false
takes_form filled (o.Int k) kind t = takes_scalar kind t
takes_form f.Global o.Pointer kind t = t.is_zero
takes_form f.Local o.Pointer kind t = takes_scalar kind t
takes_form f.Part o.Pointer kind t = takes_scalar kind t
takes_form filled (o.Array n) kind t = fills_text kind t.text
takes_form f.Global (o.Struct n) kind t = false
takes_form f.Local (o.Struct n) kind t = fits_struct kind t.kind
takes_form f.Part (o.Struct n) kind t = false

abbrev pub value_kinds : Filled → CType → Typed → List CheckKind
value_kinds filled kind t = breaks NotConst (needs_constant filled (outer_of kind) && open_constant t.constant) ++ (breaks NotPlace (is_no_source t)
    ++ breaks BadType (not (takes_form filled (outer_of kind) kind t)))

abbrev pub known_kinds : Filled → (target : Option CType) → Typed → List CheckKind
known_kinds filled None t = breaks NotPlace (is_no_source t)
known_kinds filled (Some kind) t = value_kinds filled kind t

-- where nothing is known of the value, no rule is judged; where there is nothing that it fills, or the type of that isn't known, only that a struct
-- is a place
abbrev pub one_kinds : Filled → (target : Option CType) → Option Typed → List CheckKind
one_kinds filled target None = []
one_kinds filled target (Some t) = known_kinds filled target t

abbrev pub text_of : Option Typed → Option ℕ
text_of None = None
text_of (Some t) = t.text

abbrev pub fills_known : Option CType → (text : Option ℕ) → Bool
fills_known None text = false
fills_known (Some kind) text = fills_text kind text

abbrev pub fills_target : Option CType → Option Typed → Bool
fills_target target t = fills_known target (text_of t)

-- a text that fills an array of `char` is no literal
abbrev pub filling : (fills : Bool) → Seen → Seen
filling true x = unevaluated x
filling false x = x

-- so only the literals before it stay, of this many bytes, and what was used before it
abbrev pub kept_texts : (fills : Bool) → (literals used : ℕ) → Notes → Notes
kept_texts true literals used notes = first_evaluated literals used notes
kept_texts false literals used notes = notes

-- ---- the words of globals

abbrev pub word_of : Constant → Option ℕ
word_of (c.Value word) = Some word
word_of c.Stops = None
word_of c.No = None

-- a global's integer begins with the word of its constant in its own type
abbrev pub first_word : Filled → Outer → Constant → Option ℕ
first_word filled form constant = if needs_constant filled form then word_of (cast_constant form constant) else None

abbrev pub one_word : Filled → (target : Option CType) → Option Typed → Option ℕ
one_word filled None t = None
one_word filled (Some kind) None = None
one_word filled (Some kind) (Some t) = first_word filled (outer_of kind) t.constant

unfoldable pub notes_word : Option ℕ → Walk
notes_word word state = record { state = record state { notes = with_constant word state.notes }; broken = [] }

-- ---- a list in braces

-- a struct's members
abbrev pub struct_members : List StructInfo → ℕ → List Member
struct_members structs n = members_in (slice_get structs n)

abbrev pub member_at : List StructInfo → ℕ → (at : ℕ) → Option CType
member_at structs n at = member_kind (slice_get (struct_members structs n) at)

abbrev pub element_at : (count : ℕ) → CType → (at : ℕ) → Option CType
element_at count kind at = if nat_lt at count then Some (inner_of kind) else None

-- the type of the part of this place; None where the type has no such part
abbrev pub part_form : List StructInfo → Outer → CType → (at : ℕ) → Option CType
part_form structs o.Void kind at = None
part_form structs (o.Int k) kind at = None
part_form structs o.Pointer kind at = None
part_form structs (o.Array count) kind at = element_at count kind at
part_form structs (o.Struct n) kind at = member_at structs n at

abbrev pub part_of : List StructInfo → Option CType → (at : ℕ) → Option CType
part_of structs None at = None
part_of structs (Some kind) at = part_form structs (outer_of kind) kind at

-- a scalar takes no braces, and an array or struct no more parts than it has
abbrev pub is_crowded : List StructInfo → Outer → (count : ℕ) → Bool
is_crowded structs o.Void count = true
is_crowded structs (o.Int k) count = true
is_crowded structs o.Pointer count = true
is_crowded structs (o.Array n) count = nat_lt n count
is_crowded structs (o.Struct n) count = nat_lt (length (struct_members structs n)) count

abbrev pub many_kinds : List StructInfo → Option CType → (count : ℕ) → List CheckKind
many_kinds structs None count = []
many_kinds structs (Some kind) count = breaks BadType (is_crowded structs (outer_of kind) count)

abbrev pub part : Filled → Filled
part f.Global = f.Global
part f.Local = f.Part
part f.Part = f.Part

-- the parts of a list in braces, the first of which has this place
abbrev pub part_walk : Filled → Option CType → (at : ℕ) → Filling → Walk
part_walk filled target at x state = x (part filled) (part_of state.scope.structs target at) state

abbrev pub parts : Filled → Option CType → (at : ℕ) → List Filling → Walk
parts filled target at [] = stay
parts filled target at (x ∷ more) = part_walk filled target at x then parts filled target (at + 1) more

abbrev pub many_judged : Option CType → (count : ℕ) → Place → Walk
many_judged target count place state = at_node place (many_kinds state.scope.structs target count) state

-- ---- initialisers

abbrev pub filling_walk : Option CType → Expr → Walk
filling_walk target x state = past (filling (fills_target target (seen_in state x).typed) (seen_in state x)) state

abbrev pub one : Filled → Option CType → Place → Expr → Walk
one filled target place x state = (filling_walk target x
    then (at_node place (one_kinds filled target (seen_in state x).typed) then notes_word (one_word filled target (seen_in state x).typed))) state

abbrev pub init_step : InitKind-F (Place → Filling) Filling → Place → Filling
init_step (i.One x) place filled target state = one filled target place x state
init_step (i.Many all) place filled target state = (parts filled target 0 all then many_judged target (length all) place) state

abbrev pub fills : Init → Filling
fills = fold-Init (Place → Filling) Filling init_step (λ x. x.kind x.place)

abbrev pub maybe_fills : Option Init → Filling
maybe_fills None filled target = stay
maybe_fills (Some x) filled target = fills x filled target
