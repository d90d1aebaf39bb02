-- Small programs as steps, to see what the definitions make of them.
use Rattle.std.specs.Prelude.{ℕ, Bool, true, false, if◌then◌else◌, ◌==◌, ◌+◌, ◌-◌, ◌*◌, Option, None, Some, List, [], ◌∷◌, ◌++◌}
use Rattle.mx_base.specs.declared.limits.Bounds.{Bounds}
use Rattle.mx_base.specs.declared.numbers.IntKind.TheVariants.{I8, I32, I64, U64}
use Rattle.mx_base.specs.declared.operators.Arithmetic.TheVariants.{Add, Sub, Div}
use Rattle.mx_base.specs.declared.operators.Comparison.TheVariants.{Equal}
use Rattle.mx_base.specs.declared.places.Place.{Place as PlaceOf}
use Rattle.mx_base.specs.declared.services.CService.TheVariants as in_c
use Rattle.mx_base.specs.StopOfC.{StopOfC}
use Rattle.mx_base.specs.Memory.{no_bytes}
use Rattle.mx_base.specs.World.{Access, world_at_start}
use Rattle.fat_ir.specs.declared.program.FatFun.{FatFun}
use Rattle.fat_ir.specs.declared.step.FatStep.{FatStep}
use Rattle.fat_ir.specs.declared.step.FatStep.TheVariants.{Const, Copy, Arith, Compare, Place, Make, Meet, Bound, Judge, Load, Store, LoadPtr, StorePtr, Label, Jump, JumpIf, Call, Service, Give}
use Rattle.fat_ir.specs.Calls.{Outcome, Comes, Stops, Stuck, Callee}
use Rattle.fat_ir.specs.Step.{ObjectAt}
use Rattle.fat_ir.specs.Functions.{Parameter, Linked, OfC, calls, exited}

-- ---- what is told of a run that stopped

pub record Told : Type 0 where
  pub stop : StopOfC
  pub out : List ℕ
  pub turns : ℕ
  pub accesses : List Access

-- nothing is told of a run that got stuck
abbrev pub told : Outcome → Option Told
told (Comes v w) = None
told (Stops why w) = Some record { stop = why; out = w.guest.out; turns = w.turns; accesses = w.accesses }
told Stuck = None

abbrev pub ends : StopOfC → (out : List ℕ) → (turns : ℕ) → List Access → Option Told
ends stop out turns accesses = Some record { stop = stop; out = out; turns = turns; accesses = accesses }

abbrev pub read : (at size : ℕ) → Access
read at size = record { write = false; at = at; size = size }

abbrev pub written : (at size : ℕ) → Access
written at size = record { write = true; at = at; size = size }

abbrev pub pair : (lb ub : ℕ) → Bounds
pair lb ub = record { lb = lb; ub = ub }

-- ---- one unit whose symbols are places in its list of functions, and 16 bytes of data for each

abbrev pub fun : (name private temps : ℕ) → List Bool → List FatStep → FatFun
fun name private temps bounds steps = record { name = name; private = private; arrived = 0; temps = temps; bounds = bounds; frame = 0; steps = steps }

abbrev pub with_frame : ℕ → FatFun → FatFun
with_frame frame f = record f { frame = frame }

abbrev pub linked : FatFun → List Parameter → Linked
linked f parameters = record { fun = f; parameters = parameters; targets = λ s. OfC s; located = λ s. ObjectAt (0x2000_0000 + 16 * s) }

-- nothing outside of the program can be called
abbrev pub nothing_outside : Callee → Callee
nothing_outside own = λ g args w. Stuck

abbrev pub run_alone : FatFun → (turns : ℕ) → Option Told
run_alone f turns = told (exited (calls (λ n. linked f []) nothing_outside 4096 0 [] (world_at_start no_bytes [] turns)))

abbrev pub at : (line col : ℕ) → PlaceOf
at line col = record { file = 0; line = line; col = col }

-- numbers and bounds in turn
abbrev pub in_turn : List Bool
in_turn = false ∷ true ∷ false ∷ true ∷ false ∷ true ∷ []

-- ---- char a[4];
-- int main(void){ a[i]=1; put(a[i]); return 0; }

abbrev pub element : (i : ℕ) → List FatStep
element i =
    Place 0 1 (Some 0) 0 4
    ∷ Const 2 i
    ∷ Arith 0 Add U64 0 2
    ∷ []

abbrev pub writes_element : (i : ℕ) → FatFun
writes_element i = fun 0 0 4 in_turn (element i ++ (
    Const 2 1
    ∷ Judge 0 1 1 true (at 2 17)
    ∷ Store 0 2 I8
    ∷ []) ++ element i ++ (
    Judge 0 1 1 false (at 2 29)
    ∷ Load 0 0 I8
    ∷ Service in_c.Put (Some 0) None
    ∷ Const 0 0
    ∷ Give (Some 0) None
    ∷ []))

-- ---- char a[4];
-- int main(void){ return *(int *)(a+1); }

abbrev pub reads_past_end : FatFun
reads_past_end = fun 0 0 4 in_turn (element 1 ++ (
    Judge 0 4 1 false (at 2 24)
    ∷ Load 0 0 I32
    ∷ Give (Some 0) None
    ∷ []))

-- ---- int main(void){ int i; for(i=0;;i++) print(i); }

abbrev pub counts : FatFun
counts = fun 0 1 2 (false ∷ false ∷ true ∷ []) (
    Const 0 0
    ∷ Label 0
    ∷ Service in_c.Print (Some 0) None
    ∷ Const 1 1
    ∷ Arith 0 Add I32 0 1
    ∷ Jump 0
    ∷ [])

-- ---- int main(void){ print(1/0); return 0; }

abbrev pub divides_by_0 : FatFun
divides_by_0 = fun 0 0 3 in_turn (
    Const 0 1
    ∷ Const 2 0
    ∷ Arith 0 Div I32 0 2
    ∷ Service in_c.Print (Some 0) None
    ∷ Const 0 0
    ∷ Give (Some 0) None
    ∷ [])

-- ---- char a[4]; char *g;
-- int main(void){ g = a; g[4] = 1; return 0; }, with the lowest byte of g raised by one before g[4] where `spoils` is true

abbrev pub spoiled : List FatStep
spoiled =
    Load 0 2 I8
    ∷ Const 4 1
    ∷ Arith 2 Add I32 2 4
    ∷ Store 0 2 I8
    ∷ []

abbrev pub keeps_pointer : (spoils : Bool) → FatFun
keeps_pointer spoils = fun 0 0 6 in_turn ((
    Place 0 1 (Some 1) 0 8
    ∷ Place 2 3 (Some 0) 0 4
    ∷ Judge 0 8 1 true (at 2 17)
    ∷ StorePtr 0 2 3
    ∷ []) ++ (if spoils then spoiled else []) ++ (
    LoadPtr 0 2 3
    ∷ Const 4 4
    ∷ Arith 2 Add U64 2 4
    ∷ Const 4 1
    ∷ Judge 2 1 3 true (at 4 1)
    ∷ Store 2 4 I8
    ∷ Const 0 0
    ∷ Give (Some 0) None
    ∷ []))

-- ---- int main(void){ char *p = alloc(8); print(free(p)); print(free(p)); print(get()); return 0; }

abbrev pub frees_twice : FatFun
frees_twice = fun 0 2 2 in_turn (
    Const 2 8
    ∷ Service in_c.Alloc (Some 2) (Some 0)
    ∷ Make 1 0 2
    ∷ Service in_c.Free (Some 0) (Some 2)
    ∷ Service in_c.Print (Some 2) None
    ∷ Service in_c.Free (Some 0) (Some 2)
    ∷ Service in_c.Print (Some 2) None
    ∷ Service in_c.Get None (Some 2)
    ∷ Service in_c.Print (Some 2) None
    ∷ Const 2 0
    ∷ Give (Some 2) None
    ∷ [])

-- ---- struct S { int a; int b[2]; int c; }; struct S s;
-- int main(void){ print((long)__builtin___bnd_get_ptr_lbound(&s.b)); print((long)__builtin___bnd_get_ptr_ubound(&s.b)); return 0; }

abbrev pub narrows : FatFun
narrows = fun 0 0 4 in_turn (
    Place 0 1 (Some 0) 0 16
    ∷ Const 2 4
    ∷ Arith 0 Add U64 0 2
    ∷ Const 2 8
    ∷ Make 3 0 2
    ∷ Meet 1 1 3
    ∷ Bound 0 1 false
    ∷ Service in_c.Print (Some 0) None
    ∷ Bound 0 1 true
    ∷ Service in_c.Print (Some 0) None
    ∷ Const 0 0
    ∷ Give (Some 0) None
    ∷ [])

-- ---- char *p = (char *)A; of 8 bytes read without bounds

abbrev pub reads_at : (address : ℕ) → FatFun
reads_at address = fun 0 0 4 in_turn (
    Const 0 address
    ∷ Const 2 0
    ∷ Make 1 2 2
    ∷ Judge 0 8 1 false (at 1 75)
    ∷ Load 0 2 I64
    ∷ Give (Some 2) None
    ∷ [])

-- ---- int f(int n){ if(n==0) return 0; return f(n-1); }
-- int main(void){ return f(N); }

abbrev pub descends : FatFun
descends = fun 0 1 3 (false ∷ false ∷ true ∷ false ∷ []) (
    Const 1 0
    ∷ Compare 1 Equal I32 0 1
    ∷ JumpIf 1 0
    ∷ Copy 1 0
    ∷ Const 3 1
    ∷ Arith 1 Sub I32 1 3
    ∷ Call 0 ((1, None) ∷ []) (Some 1) None
    ∷ Give (Some 1) None
    ∷ Label 0
    ∷ Const 1 0
    ∷ Give (Some 1) None
    ∷ [])

abbrev pub calls_with : (n : ℕ) → FatFun
calls_with n = fun 1 0 2 in_turn (
    Const 0 n
    ∷ Call 0 ((0, None) ∷ []) (Some 0) None
    ∷ Give (Some 0) None
    ∷ [])

abbrev pub descent : (n f : ℕ) → Linked
descent n f = if f == 0 then linked descends (record { private = true; pointer = false } ∷ []) else linked (calls_with n) []

-- the run where `depth` calls may be entered
abbrev pub run_descent : (n depth turns : ℕ) → Option Told
run_descent n depth turns = told (exited (calls (descent n) nothing_outside depth 1 [] (world_at_start no_bytes [] turns)))

-- ---- int main(void){ char a[N]; a[N-1]=1; return 0; }

abbrev pub fills_frame : (n : ℕ) → FatFun
fills_frame n = with_frame n (fun 0 0 4 in_turn (
    Place 0 1 None 0 n
    ∷ Const 2 (n - 1)
    ∷ Arith 0 Add U64 0 2
    ∷ Const 2 1
    ∷ Judge 0 1 1 true (at 1 31)
    ∷ Store 0 2 I8
    ∷ Const 0 0
    ∷ Give (Some 0) None
    ∷ []))

-- ---- int f(int n){ return *&n; }
-- int main(void){ return f(N); }

abbrev pub reads_parameter : FatFun
reads_parameter = record (with_frame 16 (fun 0 0 3 (false ∷ false ∷ true ∷ []) (
    Place 1 2 None 0 4
    ∷ Store 1 0 I32
    ∷ Place 1 2 None 0 4
    ∷ Judge 1 4 2 false (at 1 19)
    ∷ Load 1 1 I32
    ∷ Give (Some 1) None
    ∷ []))) { arrived = 1 }

abbrev pub reading : (n f : ℕ) → Linked
reading n f = if f == 0 then linked reads_parameter (record { private = false; pointer = false } ∷ []) else linked (calls_with n) []

abbrev pub run_reading : (n turns : ℕ) → Option Told
run_reading n turns = told (exited (calls (reading n) nothing_outside 4096 1 [] (world_at_start no_bytes [] turns)))

-- ---- a temporary that was written before a way back, and is read after it

abbrev pub reads_over_way_back : FatFun
reads_over_way_back = fun 0 1 2 in_turn (
    Label 0
    ∷ Copy 2 0
    ∷ JumpIf 2 1
    ∷ Const 0 1
    ∷ Const 1 7
    ∷ Jump 0
    ∷ Label 1
    ∷ Give (Some 1) None
    ∷ [])
