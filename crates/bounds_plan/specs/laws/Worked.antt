-- Small programs as core trees, to see what the definitions make of them.
use Rattle.std.specs.Prelude.{ℕ, Bool, true, false, if◌then◌else◌, ◌==◌, Option, None, Some, List, [], ◌∷◌}
use Rattle.mx_base.specs.declared.services.CService.TheVariants as in_c
use Rattle.mx_base.specs.declared.limits.Bounds.{Bounds}
use Rattle.mx_base.specs.declared.numbers.IntKind.TheVariants.{I8, I32, I64}
use Rattle.mx_base.specs.declared.places.Place.{Place}
use Rattle.mx_base.specs.declared.settings.Flags.{Flags}
use Rattle.mx_base.specs.declared.operators.Arithmetic.TheVariants.{Add, Sub, Div}
use Rattle.mx_base.specs.declared.operators.Comparison.TheVariants.{Less, Equal}
use Rattle.mx_base.specs.StopOfC.{StopOfC}
use Rattle.mx_base.specs.Memory.{no_bytes}
use Rattle.mx_base.specs.World.{Access, world_at_start, Log, empty_log}
use Rattle.narrowing.specs.Member.{member_rule}
use Rattle.fat_ir.specs.Step.{ObjectAt}
use Rattle.fat_ir.specs.Calls.{Outcome, Comes as ComesBack, Stops as StopsAt, Stuck, Callee}
use Rattle.fat_ir.specs.Functions.{OfC, Outside, Linked as FatLinked, calls as steps_calls, exited as exited_steps}
use Rattle.bounds_plan.specs.steps.Code.{fat_function, fat_parameters}
use Rattle.bounds_plan.specs.meaning.Core.{NumberExpr, Word, Variable, Assign, Operate, Compare, Convert, AsNumber, Load, Store, Update, Call, Serve, Ask, PointerExpr, FromInteger, Object, VariablePtr, AssignPtr, Member, Element, ElementAfter, InFrame, LoadPtr, StorePtr, Alloc, InitBounds, BoundOf, NoMore, WithNumber, OfNumber, OfPointer, CopyStruct, Statement, Skip, Do, Then, If, DoWhile, For, Continue, ReturnNumber}
use Rattle.bounds_plan.specs.meaning.Expressions.{Answer, Comes, Stops, CalleeOfC}
use Rattle.bounds_plan.specs.meaning.Functions.{Private, Framed, FunctionOfC, Linked, calls, exited}
use Rattle.bounds_plan.specs.meaning.Outside.{lends, lends_by_steps}

-- ---- what is told of a run that stopped: the megabytes whose bounds were asked for too

pub record Told : Type 0 where
  pub stop : StopOfC
  pub out : List ℕ
  pub turns : ℕ
  pub accesses : List Access
  pub touched : List ℕ

abbrev pub told : Answer → Option Told
told (Comes v w log) = None
told (Stops why w log) = Some record { stop = why; out = w.guest.out; turns = w.turns; accesses = w.accesses; touched = w.store.touched }

abbrev pub ends : StopOfC → (out : List ℕ) → (turns : ℕ) → List Access → (touched : List ℕ) → Option Told
ends stop out turns accesses touched = Some record { stop = stop; out = out; turns = turns; accesses = accesses; touched = touched }

abbrev pub read : (at size : ℕ) → Access
read at size = record { write = false; at = at; size = size }

abbrev pub written : (at size : ℕ) → Access
written at size = record { write = true; at = at; size = size }

abbrev pub pair : (lb ub : ℕ) → Bounds
pair lb ub = record { lb = lb; ub = ub }

abbrev pub at : (line col : ℕ) → Place
at line col = record { file = 0; line = line; col = col }

-- ---- flags

-- narrowing as it is without further flags, and none
abbrev pub narrowing : Flags
narrowing = record { narrow = true; first_own = false; innermost = false; flexible = false }

abbrev pub not_narrowing : Flags
not_narrowing = record narrowing { narrow = false }

-- every flag but narrowing
abbrev pub other_flags_alone : Flags
other_flags_alone = record { narrow = false; first_own = true; innermost = true; flexible = true }

-- ---- one unit: its functions have the symbols from 0 on, and its objects stand where these symbols say

-- a function without parameters whose private variables have these values
abbrev pub function : List Bool → Statement → FunctionOfC
function privates body = record { parameters = []; privates = privates; variables = []; frame = 0; body = body }

-- a pointer and a number
abbrev pub pointer_and_number : List Bool
pointer_and_number = false ∷ true ∷ false ∷ []

abbrev pub linked : (ℕ → ℕ) → FunctionOfC → Linked
linked address f = record { fun = f; targets = λ s. OfC s; located = λ s. ObjectAt (address s) }

-- nothing outside of the program is called
abbrev pub nothing_outside : CalleeOfC → CalleeOfC
nothing_outside own = own

-- the objects' bounds are made before the program starts
abbrev pub log_with : List Bounds → Log
log_with made = record empty_log { made = made }

abbrev pub run_alone : (ℕ → ℕ) → List Bounds → Statement → (turns : ℕ) → Option Told
run_alone address made body turns = told (exited (calls (λ n. linked address (function pointer_and_number body)) nothing_outside 4096 0 [] (world_at_start no_bytes [] turns) (log_with made)))

-- ---- the same of the steps that a function is compiled to

abbrev pub told_of_steps : Outcome → Option Told
told_of_steps (ComesBack v w) = None
told_of_steps (StopsAt why w) = Some record { stop = why; out = w.guest.out; turns = w.turns; accesses = w.accesses; touched = w.store.touched }
told_of_steps Stuck = None

abbrev pub compiled : Linked → FatLinked
compiled l = record { fun = fat_function 0 l.fun; parameters = fat_parameters l.fun.parameters; targets = l.targets; located = l.located }

abbrev pub no_steps_outside : Callee → Callee
no_steps_outside own = own

abbrev pub run_steps : (ℕ → ℕ) → Statement → (turns : ℕ) → Option Told
run_steps address body turns = told_of_steps (exited_steps (steps_calls (λ n. compiled (linked address (function pointer_and_number body))) no_steps_outside 4096 0 [] (world_at_start no_bytes [] turns)))

abbrev pub in_order : List Statement → Statement
in_order [] = Skip
in_order (s ∷ rest) = Then s (in_order rest)

abbrev pub does : NumberExpr → Statement
does e = Do (OfNumber e)

abbrev pub does_ptr : PointerExpr → Statement
does_ptr e = Do (OfPointer e)

abbrev pub print : NumberExpr → Statement
print e = does (Serve in_c.Print (Convert I64 e))

abbrev pub ends_with_0 : Statement
ends_with_0 = ReturnNumber (Word 0)

-- the first object of a unit
abbrev pub first_object : ℕ → ℕ
first_object s = 0x2000_0000

-- ---- int main(void){ print(7); return 0; }

abbrev pub prints_7 : Statement
prints_7 = in_order (print (Word 7) ∷ ends_with_0 ∷ [])

-- ---- char a[4];
-- int main(void){ a[I]=1; put(a[I]); return 0; }

abbrev pub array : PointerExpr
array = Object 0 0 4

abbrev pub writes_element : (i : ℕ) → Statement
writes_element i = in_order (
    does (Store I8 (at 2 17) (Element false 1 array (Word i)) (Convert I8 (Word 1)))
    ∷ does (Serve in_c.Put (Load I8 (at 2 29) (Element false 1 array (Word i))))
    ∷ ends_with_0
    ∷ [])

-- ---- char a[4];
-- int main(void){ return *(int *)(a+1); }

abbrev pub reads_past_end : Statement
reads_past_end = ReturnNumber (Load I32 (at 2 24) (Element false 1 array (Word 1)))

-- ---- int main(void){ char *p = alloc(9); int i;
-- for(i=0;i<10;i++){ p[i]=i; print(p[i]); } return 0; }, p being values 0 and 1, and i value 2

abbrev pub fills_block : Statement
fills_block = in_order (
    does_ptr (AssignPtr 0 (Alloc (Word 9)))
    ∷ does (Assign 2 (Word 0))
    ∷ For (Compare Less I32 (Variable 2) (Word 10)) (OfNumber (Update 2 I32 Add I32 (Word 1) true)) (in_order (
    does (Store I8 (at 2 20) (Element false 1 (VariablePtr 0) (Variable 2)) (Convert I8 (Variable 2)))
    ∷ print (Load I8 (at 2 34) (Element false 1 (VariablePtr 0) (Variable 2)))
    ∷ []))
    ∷ ends_with_0
    ∷ [])

-- ---- char a[4]; char *g;
-- int main(void){ char *c = (char *)&g; g = a; c[0] = c[0] + 1;
-- c[0] = c[0] - 1;
-- g[4] = 1; return 0; }, without its third line where `spoils` is true, and c being values 0 and 1

abbrev pub array_and_pointer : ℕ → ℕ
array_and_pointer s = if s == 0 then 0x2000_0000 else 0x2000_0008

abbrev pub changes_byte : (up : Bool) → Statement
changes_byte up = does (Store I8 (at 2 46) (Element false 1 (VariablePtr 0) (Word 0)) (Convert I8 (Operate (if up then Add else Sub) I32 (Load I8 (at 2 53) (Element false 1 (VariablePtr 0) (Word 0))) (Word 1))))

abbrev pub keeps_pointer : (spoils : Bool) → Statement
keeps_pointer spoils = in_order (
    does_ptr (AssignPtr 0 (Object 1 0 8))
    ∷ does_ptr (StorePtr (at 2 39) (Object 1 0 8) array)
    ∷ changes_byte true
    ∷ (if spoils then Skip else changes_byte false)
    ∷ does (Store I8 (at 4 1) (Element false 1 (LoadPtr (at 4 1) (Object 1 0 8)) (Word 4)) (Convert I8 (Word 1)))
    ∷ ends_with_0
    ∷ [])

-- ---- char a[4];
-- int main(void){ char **p = alloc(2097152); p[0]=a; p[1]=a; p[131072]=a; return 0; }

abbrev pub spreads_pointers : Statement
spreads_pointers = in_order (
    does_ptr (AssignPtr 0 (Alloc (Word 2097152)))
    ∷ does_ptr (StorePtr (at 2 45) (Element false 8 (VariablePtr 0) (Word 0)) array)
    ∷ does_ptr (StorePtr (at 2 53) (Element false 8 (VariablePtr 0) (Word 1)) array)
    ∷ does_ptr (StorePtr (at 2 61) (Element false 8 (VariablePtr 0) (Word 131072)) array)
    ∷ ends_with_0
    ∷ [])

-- ---- int main(void){ long *p = __builtin___bnd_init_ptr_bounds((void *)-1); print(*p); return 0; }

abbrev pub reads_last_byte : Statement
reads_last_byte = in_order (
    does_ptr (AssignPtr 0 (InitBounds (FromInteger (Convert I64 (Operate Sub I32 (Word 0) (Word 1))))))
    ∷ print (Load I64 (at 1 80) (VariablePtr 0))
    ∷ ends_with_0
    ∷ [])

-- ---- struct S { int a; int b[2]; int c; }; struct S s;
-- int main(void){ print((long)__builtin___bnd_get_ptr_lbound(&s.a)); the same of ubound, and both of &s.b; return 0; }

abbrev pub prints_bounds : PointerExpr → Statement
prints_bounds p = Then (print (AsNumber (BoundOf false p))) (print (AsNumber (BoundOf true p)))

abbrev pub prints_members : Flags → Statement
prints_members flags = in_order (
    prints_bounds (Member 0 (member_rule flags true false 0 4) (Object 0 0 16))
    ∷ prints_bounds (Member 4 (member_rule flags false false 4 8) (Object 0 0 16))
    ∷ ends_with_0
    ∷ [])

-- ---- struct P { char *x; char *y; };
-- char a[4]; char b[2]; struct P s; struct P t;
-- int main(void){ s.x = a; s.y = b; t = s; t.x[3] = 1;
-- t.y[2] = 1; return 0; }

abbrev pub pairs_of_pointers : ℕ → ℕ
pairs_of_pointers s = if s == 0 then 0x2000_0000 else if s == 1 then 0x2000_0004 else if s == 2 then 0x2000_0008 else 0x2000_0018

abbrev pub field : (struct offset : ℕ) → (first : Bool) → PointerExpr
field struct offset first = Member offset (member_rule narrowing first false offset 8) (Object struct 0 16)

abbrev pub copies_pointers : Statement
copies_pointers = in_order (
    does_ptr (StorePtr (at 3 17) (field 2 0 true) array)
    ∷ does_ptr (StorePtr (at 3 26) (field 2 8 false) (Object 1 0 2))
    ∷ Do (CopyStruct 16 (record { offset = 0; kind = None } ∷ record { offset = 8; kind = None } ∷ []) (at 3 35) (Object 3 0 16) (at 3 39) (Object 2 0 16))
    ∷ does (Store I8 (at 3 42) (Element false 1 (LoadPtr (at 3 42) (field 3 0 true)) (Word 3)) (Convert I8 (Word 1)))
    ∷ does (Store I8 (at 4 1) (Element false 1 (LoadPtr (at 4 1) (field 3 8 false)) (Word 2)) (Convert I8 (Word 1)))
    ∷ ends_with_0
    ∷ [])

-- ---- int main(void){ int i; for(i=0;;i++) print(i); }

abbrev pub counts : Statement
counts = Then (does (Assign 0 (Word 0))) (For (Word 1) (OfNumber (Update 0 I32 Add I32 (Word 1) true)) (print (Variable 0)))

-- ---- int f(int n){ if(n==0) return 0; return f(n-1); }
-- int main(void){ return f(N); }, where `depth` calls may be entered

abbrev pub descends : FunctionOfC
descends = record {
  parameters = Private 0 (Some I32) ∷ [];
  privates = false ∷ [];
  variables = [];
  frame = 0;
  body = Then (If (Compare Equal I32 (Variable 0) (Word 0)) ends_with_0 Skip) (ReturnNumber (Call 0 (WithNumber (Operate Sub I32 (Variable 0) (Word 1)) NoMore)));
}

abbrev pub descent : (n f : ℕ) → Linked
descent n f = linked first_object (if f == 0 then descends else function [] (ReturnNumber (Call 0 (WithNumber (Word n) NoMore))))

abbrev pub run_descent : (n depth turns : ℕ) → Option Told
run_descent n depth turns = told (exited (calls (descent n) nothing_outside depth 1 [] (world_at_start no_bytes [] turns) empty_log))

abbrev pub run_descent_steps : (n depth turns : ℕ) → Option Told
run_descent_steps n depth turns = told_of_steps (exited_steps (steps_calls (λ f. compiled (descent n f)) no_steps_outside depth 1 [] (world_at_start no_bytes [] turns)))

-- ---- int main(void){ print(1/0); return 0; }

abbrev pub divides_by_0 : Statement
divides_by_0 = in_order (print (Operate Div I32 (Word 1) (Word 0)) ∷ ends_with_0 ∷ [])

-- ---- int main(void){ char *p = alloc(8); print(free(p)); print(free(p)); print(get()); return 0; }

abbrev pub frees_twice : Statement
frees_twice = in_order (
    does_ptr (AssignPtr 0 (Alloc (Word 8)))
    ∷ print (Serve in_c.Free (AsNumber (VariablePtr 0)))
    ∷ print (Serve in_c.Free (AsNumber (VariablePtr 0)))
    ∷ print (Ask in_c.Get)
    ∷ ends_with_0
    ∷ [])

-- ---- int main(void){ int i; i=0; do { i++; if(i==2) continue; print(i); } while(i<3); return 0; }, i being value 2

abbrev pub skips_2 : Statement
skips_2 = in_order (
    does (Assign 2 (Word 0))
    ∷ DoWhile (in_order (
    does (Update 2 I32 Add I32 (Word 1) true)
    ∷ If (Compare Equal I32 (Variable 2) (Word 2)) Continue Skip
    ∷ print (Variable 2)
    ∷ [])) (Compare Less I32 (Variable 2) (Word 3))
    ∷ ends_with_0
    ∷ [])

-- ---- int f(int n){ return *&n; }
-- int main(void){ return f(N); }

abbrev pub reads_parameter : FunctionOfC
reads_parameter = record {
  parameters = Framed 0 (Some I32) ∷ [];
  privates = [];
  variables = record { offset = 0; size = 4 } ∷ [];
  frame = 16;
  body = ReturnNumber (Load I32 (at 1 19) (InFrame 0 4));
}

abbrev pub reading : (n f : ℕ) → Linked
reading n f = linked first_object (if f == 0 then reads_parameter else function [] (ReturnNumber (Call 0 (WithNumber (Word n) NoMore))))

abbrev pub run_reading : (n turns : ℕ) → Option Told
run_reading n turns = told (exited (calls (reading n) nothing_outside 4096 1 [] (world_at_start no_bytes [] turns) empty_log))

abbrev pub run_reading_steps : (n turns : ℕ) → Option Told
run_reading_steps n turns = told_of_steps (exited_steps (steps_calls (λ f. compiled (reading n f)) no_steps_outside 4096 1 [] (world_at_start no_bytes [] turns)))

-- ---- void lend(void); void f(char *p){ p[N]=1; }
-- int main(void){ lend(); return 0; }, where lend is outside: it keeps bounds for a pointer to 4 bytes, and calls f with it

abbrev pub writes_lent : (n : ℕ) → FunctionOfC
writes_lent n = record {
  parameters = Private 0 None ∷ [];
  privates = false ∷ true ∷ [];
  variables = [];
  frame = 0;
  body = does (Store I8 (at 1 39) (Element false 1 (VariablePtr 0) (Word n)) (Convert I8 (Word 1)));
}

abbrev pub borrowing : (n f : ℕ) → Linked
borrowing n f = record (linked first_object (if f == 0 then writes_lent n else function [] (Then (does (Call 2 NoMore)) ends_with_0))) { targets = λ s. if s == 2 then Outside 0 else OfC s }

abbrev pub run_borrowing : (n turns : ℕ) → Option Told
run_borrowing n turns = told (exited (calls (borrowing n) (lends 0x2000_0010 0x2000_0000 (pair 0x2000_0000 0x2000_0003)) 4096 1 [] (world_at_start no_bytes [] turns) empty_log))

abbrev pub run_borrowing_steps : (n turns : ℕ) → Option Told
run_borrowing_steps n turns = told_of_steps (exited_steps (steps_calls (λ f. compiled (borrowing n f)) (lends_by_steps 0x2000_0010 0x2000_0000 (pair 0x2000_0000 0x2000_0003)) 4096 1 [] (world_at_start no_bytes [] turns)))

-- ---- char a[4];
-- int main(void){ int i; *((i=1)+(a+i))=7; put(a[2]); return 0; }, i being value 2

abbrev pub adds_in_order : Statement
adds_in_order = in_order (
    does (Store I8 (at 2 24) (ElementAfter 1 (Assign 2 (Word 1)) (Element false 1 array (Variable 2))) (Convert I8 (Word 7)))
    ∷ does (Serve in_c.Put (Load I8 (at 2 46) (Element false 1 array (Word 2))))
    ∷ ends_with_0
    ∷ [])
