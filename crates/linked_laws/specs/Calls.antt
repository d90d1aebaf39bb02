-- Where the fix-ups of linked objects lead.
use Rattle.std.specs.Prelude.{◌≡◌, ◌<◌, ℕ, List, length}
use Rattle.obj_file.specs.declared.object.Object.{Object}
use Rattle.obj_file.specs.declared.object.Fix.{Fix}
use Rattle.obj_linker.specs.declared.parts.SymbolId.{SymbolId}
use Rattle.obj_linker.specs.Fixing.{meant_by, target}
use Rattle.obj_linker.specs.Placement.{outer_at, plan_of}
use Rattle.obj_linker.specs.Symbols.{name_at, symbol_id}
use Rattle.linked_laws.specs.Linkage.{called_at, function_at, inner_of, stub_of}

-- the name of a fix-up's symbol, in the object of a number
abbrev pub name_of : List Object → ℕ → Fix → List ℕ
name_of os k f = name_at os (symbol_id k f.symbol)

-- to the inner entry of the C function of a number, which is that of a definition
pub record LeadsToFunction (os : List Object) (k : ℕ) (o : Object) (f : Fix) (definition : SymbolId) (n : ℕ) : Type 0 where
  pub few : n < length (plan_of os).functions
  pub is : function_at os n ≡ definition
  pub leads : target os (plan_of os) k o f ≡ inner_of os n

-- to its outer entry
pub record LeadsToOuter (os : List Object) (k : ℕ) (o : Object) (f : Fix) (definition : SymbolId) (n : ℕ) : Type 0 where
  pub few : n < length (plan_of os).functions
  pub is : function_at os n ≡ definition
  pub leads : target os (plan_of os) k o f ≡ outer_at n

-- to the stub of a number, which leads to the legacy function of a definition
pub record LeadsToStub (os : List Object) (k : ℕ) (o : Object) (f : Fix) (definition : SymbolId) (n : ℕ) : Type 0 where
  pub few : n < length (plan_of os).stubs
  pub is : meant_by os (plan_of os) (called_at os n) ≡ definition
  pub leads : target os (plan_of os) k o f ≡ stub_of os n
