-- Why objects have no image.
use Rattle.std.specs.Prelude.{ℕ, ◌+◌, ◌-◌, Bool, false, not, ◌&&◌, ◌||◌, ◌==◌, nat_lt, if◌then◌else◌, Option, None, Some, Result, Ok, Err, List, [], ◌∷◌, ◌++◌, length, slice_index, count_by, sum_by}
use Rattle.std.specs.List.{flat_map}
use Rattle.std.specs.Option.{unwrap_or}
use Rattle.std.specs.Str.{bytes_eq}
use Rattle.obj_file.specs.declared.object.Object.{Object}
use Rattle.obj_file.specs.declared.object.Fix.{Fix}
use Rattle.obj_file.specs.declared.image.Image.{Image}
use Rattle.obj_linker.specs.declared.fault.LinkFault.{LinkFault}
use Rattle.obj_linker.specs.declared.fault.LinkFault.TheVariants.{Twice, Missing, Clash, NoMain, ManyFunctions, CodeLarge, LegacyLarge, GlobalsLarge, ImageLarge, FarFix}
use Rattle.obj_linker.specs.declared.parts.SymbolId.{SymbolId}
use Rattle.obj_linker.specs.declared.parts.Ends.{Ends}
use Rattle.obj_linker.specs.declared.plan.Plan.{Plan}
use Rattle.obj_linker.specs.Symbols.{numbered, symbol_at, name_at, sig_at, is_some_text, is_c_function, definitions_in, imports_in, Named, find, with_name, definitions, signed_imports}
use Rattle.obj_linker.specs.Placement.{starts, ends_of, code_end, plan_of}
use Rattle.obj_linker.specs.Fixing.{fix_value, fits}
use Rattle.obj_linker.specs.Image.{Gates, main_name, has_file, image_of}

-- ---- names

abbrev pub fault_if_found : Option SymbolId → List ℕ → List LinkFault
fault_if_found None name = []
fault_if_found (Some found) name = Twice name ∷ []

-- definitions of a name that was defined before, where these names were
abbrev pub repeated : List Object → Named → List SymbolId → List LinkFault
repeated os before [] = []
repeated os before (id ∷ ids) = fault_if_found (find (name_at os id) before) (name_at os id) ++ repeated os (with_name os before id) ids

abbrev pub twice : List Object → List LinkFault
twice os = repeated os [] (definitions_in os)

-- the signature that imports are held to: the definition's, or where that has none, that of the first import that has one
abbrev pub held_to : List Object → Named → (definition : SymbolId) → SymbolId
held_to os imports id = if is_some_text (sig_at os id) then id else unwrap_or (find (name_at os id) imports) id

-- a signature of data, `d` and so on, for code, or one of a function, `f` and so on, for data
abbrev pub is_of_other_part : (part : ℕ) → List ℕ → Bool
is_of_other_part part sig = (part == 1 && (slice_index sig 0 == 100)) || (part == 2 && (slice_index sig 0 == 102))

abbrev pub clashes : (import held : List ℕ) → (part : ℕ) → Bool
clashes sig held part = is_some_text sig && (not (bytes_eq sig held) || is_of_other_part part sig)

abbrev pub import_faults : List Object → Named → SymbolId → Option SymbolId → List LinkFault
import_faults os imports id None = Missing (name_at os id) ∷ []
import_faults os imports id (Some definition) =
    if clashes (sig_at os id) (sig_at os (held_to os imports definition)) (symbol_at os definition).part then Clash (name_at os id) ∷ [] else []

abbrev pub faults_of_imports : List Object → Named → Named → List LinkFault
faults_of_imports os defined imports = flat_map (λ id. import_faults os imports id (find (name_at os id) defined)) (imports_in os)

-- `fi()`, of a function without parameters that gives an int
abbrev pub main_sig : List ℕ
main_sig = 102 ∷ 105 ∷ 40 ∷ 41 ∷ []

abbrev pub is_main : List Object → Option SymbolId → Bool
is_main os None = false
is_main os (Some id) = is_c_function os id && bytes_eq (sig_at os id) main_sig

abbrev pub no_main : List Object → Named → List LinkFault
no_main os defined = if is_main os (find main_name defined) then [] else NoMain ∷ []

-- ---- sizes

-- a number that is over its limit
abbrev pub over : (limit n : ℕ) → (ℕ → LinkFault) → List LinkFault
over limit n fault = if nat_lt limit n then fault n ∷ [] else []

-- parts that are not empty, of which each is a segment
abbrev pub parts_of : Object → ℕ
parts_of o = (if length o.code == 0 then 0 else 1) + (if length o.stored == 0 then 0 else 1)

abbrev pub count_of_segments : List Object → Plan → ℕ
count_of_segments os plan = 2 + length plan.functions + length plan.stubs + sum_by parts_of os

abbrev pub count_of_places : List Object → ℕ
count_of_places os = sum_by (λ o. if has_file o then length o.places else 0) os

abbrev pub too_large : List Object → Plan → Ends → List LinkFault
too_large os plan ends =
    over 65_536 (length plan.functions) ManyFunctions
    ++ over 251_658_240 (code_end (length plan.stubs) ends.code plan.stubs_at - starts.code) CodeLarge
    ++ over 16_777_216 (ends.legacy - starts.legacy) LegacyLarge
    ++ over 16_777_216 (ends.stored - starts.stored) GlobalsLarge
    ++ over 262_144 (count_of_segments os plan) ImageLarge
    ++ over 65_536 (count_by has_file os) ImageLarge
    ++ over 1_048_576 (count_of_places os) ImageLarge

-- ---- values that do not fit

abbrev pub far_fix : List Object → Plan → (object : ℕ) → Object → (fix : ℕ) → Fix → List LinkFault
far_fix os plan object o fix f = if fits f.form (fix_value os plan object o f) then [] else FarFix object fix ∷ []

abbrev pub far_fixes : List Object → Plan → List LinkFault
far_fixes os plan = numbered (λ object o. numbered (far_fix os plan object o) 0 o.fixes) 0 os

-- ---- the link

abbrev pub faults_of_names : List Object → List LinkFault
faults_of_names os = twice os ++ faults_of_imports os (definitions os) (signed_imports os) ++ no_main os (definitions os)

abbrev pub faults_of_sizes : List Object → List LinkFault
faults_of_sizes os = too_large os (plan_of os) (ends_of os) ++ far_fixes os (plan_of os)

-- all faults, in order
abbrev pub faults : List Object → List LinkFault
faults os = faults_of_names os ++ faults_of_sizes os

abbrev pub unless : Image → List LinkFault → Result Image LinkFault
unless image [] = Ok image
unless image (fault ∷ later) = Err fault

-- the image of objects, or the first fault
abbrev pub linked : Gates → List Object → Result Image LinkFault
linked g os = unless (image_of g os) (faults os)
