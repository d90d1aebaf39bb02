-- The services and builtins, which every source knows.
use Rattle.std.specs.Prelude.{ℕ, Bool, ◌||◌, if◌then◌else◌, is_some, List, [], ◌∷◌, map, Option, None, Some, codes}
use Rattle.std.specs.Str.{bytes_eq}
use Rattle.mx_base.specs.declared.numbers.IntKind.TheVariants.{I32, I64, U64}
use Rattle.mx_base.specs.declared.services.CService.{CService}
use Rattle.mx_base.specs.declared.services.CService.TheVariants as in_c
use Rattle.c_types.specs.Types.{CType, Void, Int, Pointer}
use Rattle.c_check_rules.specs.declared.predeclared.Bind.{Bind}
use Rattle.c_check_rules.specs.declared.predeclared.Bind.TheVariants as b
use Rattle.c_check_rules.specs.declared.predeclared.Builtin.{Builtin}
use Rattle.c_check_rules.specs.declared.predeclared.Builtin.TheVariants as i
use Rattle.c_check_rules.specs.declared.predeclared.Simple.{Simple}
use Rattle.c_check_rules.specs.declared.predeclared.Simple.TheVariants as s
use Rattle.c_check_rules.specs.declared.predeclared.Found.{Found}
use Rattle.c_check_rules.specs.declared.predeclared.Found.TheVariants as f

-- the service of this name
abbrev pub service_named : List ℕ → Option CService
service_named name = if bytes_eq name (codes "print") then Some in_c.Print
    else if bytes_eq name (codes "put") then Some in_c.Put
    else if bytes_eq name (codes "get") then Some in_c.Get
    else if bytes_eq name (codes "alloc") then Some in_c.Alloc
    else if bytes_eq name (codes "free") then Some in_c.Free
    else if bytes_eq name (codes "exit") then Some in_c.Exit
    else None

-- the builtin of this name
abbrev pub builtin_named : List ℕ → Option Builtin
builtin_named name = if bytes_eq name (codes "__builtin___bnd_set_ptr_bounds") then Some i.SetBounds
    else if bytes_eq name (codes "__builtin___bnd_narrow_ptr_bounds") then Some i.NarrowBounds
    else if bytes_eq name (codes "__builtin___bnd_copy_ptr_bounds") then Some i.CopyBounds
    else if bytes_eq name (codes "__builtin___bnd_init_ptr_bounds") then Some i.InitBounds
    else if bytes_eq name (codes "__builtin___bnd_get_ptr_lbound") then Some i.LowerBound
    else if bytes_eq name (codes "__builtin___bnd_get_ptr_ubound") then Some i.UpperBound
    else None

abbrev pub is_predeclared : List ℕ → Bool
is_predeclared name = is_some (service_named name) || is_some (builtin_named name)

abbrev pub simple_type : Simple → CType
simple_type s.Void = Void
simple_type s.Int = Int I32
simple_type s.Long = Int I64
simple_type s.UnsignedLong = Int U64
simple_type s.Pointer = Pointer Void

abbrev pub callable : Bind → Simple → List Simple → Found
callable bind gives takes = f.Callable bind (simple_type gives) (map simple_type takes)

-- `void print(long)`, `void put(int)`, `int get(void)`, `void *alloc(unsigned long)`, `int free(void *)`, `void exit(int)`
abbrev pub service : CService → Found
service in_c.Print = callable (b.Service in_c.Print) s.Void (s.Long ∷ [])
service in_c.Put = callable (b.Service in_c.Put) s.Void (s.Int ∷ [])
service in_c.Get = callable (b.Service in_c.Get) s.Int []
service in_c.Alloc = callable (b.Service in_c.Alloc) s.Pointer (s.UnsignedLong ∷ [])
service in_c.Free = callable (b.Service in_c.Free) s.Int (s.Pointer ∷ [])
service in_c.Exit = callable (b.Service in_c.Exit) s.Void (s.Int ∷ [])

-- the six builtins take and give `void *`, but for the count of bytes, an `unsigned long`, that comes last in the first two
abbrev pub builtin : Builtin → Found
builtin i.SetBounds = callable (b.Builtin i.SetBounds) s.Pointer (s.Pointer ∷ s.UnsignedLong ∷ [])
builtin i.NarrowBounds = callable (b.Builtin i.NarrowBounds) s.Pointer (s.Pointer ∷ s.Pointer ∷ s.UnsignedLong ∷ [])
builtin i.CopyBounds = callable (b.Builtin i.CopyBounds) s.Pointer (s.Pointer ∷ s.Pointer ∷ [])
builtin i.InitBounds = callable (b.Builtin i.InitBounds) s.Pointer (s.Pointer ∷ [])
builtin i.LowerBound = callable (b.Builtin i.LowerBound) s.Pointer (s.Pointer ∷ [])
builtin i.UpperBound = callable (b.Builtin i.UpperBound) s.Pointer (s.Pointer ∷ [])

abbrev pub predeclared_by : Option CService → Option Builtin → Found
predeclared_by (Some p) q = service p
predeclared_by None (Some q) = builtin q
predeclared_by None None = f.Missing

abbrev pub predeclared : List ℕ → Found
predeclared name = predeclared_by (service_named name) (builtin_named name)
