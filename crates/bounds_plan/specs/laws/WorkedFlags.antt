-- Programs whose bounds the flags decide, and programs that leave bounds, as syntax trees.
use Rattle.std.specs.Prelude.{ℕ, ◌+◌, true, false, None, Some, List, [], ◌∷◌, ◌++◌, codes}
use Rattle.mx_base.specs.declared.numbers.IntKind.TheVariants.{I8, I32, I64}
use Rattle.c_tree.specs.declared.operators.UnaryOp.TheVariants as u
use Rattle.mx_base.specs.declared.operators.Arithmetic.TheVariants as a
use Rattle.mx_base.specs.declared.services.CService.TheVariants as in_c
use Rattle.c_check_rules.specs.declared.predeclared.Builtin.TheVariants as on_bounds
use Rattle.c_tree.specs.declared.tree.ItemKind.TheVariants as k
use Rattle.c_tree.specs.declared.tree.Base.TheVariants as b
use Rattle.c_tree.specs.declared.tree.Expr.{Expr}
use Rattle.c_tree.specs.declared.tree.ExprKind.TheVariants as e
use Rattle.c_tree.specs.declared.tree.Item.{Item}
use Rattle.c_tree.specs.declared.tree.StmtKind.TheVariants as s
use Rattle.c_types.specs.Types.{Void, Int, Pointer, Array, Struct}
use Rattle.c_check_rules.specs.declared.predeclared.Bind.TheVariants.{Global, Fun, Service, Builtin}
use Rattle.bounds_plan.specs.elaboration.Source.{SourceLayout}
use Rattle.bounds_plan.specs.laws.WorkedSources.{Source, expr, stmt, decl, item}

-- int main(void){ .. return 0; } on the second line, by its first statement, an expression, and the column of its second one
abbrev pub main_does : Expr → (col : ℕ) → Item
main_does x col = item 2 1 (k.Fun (decl 2 1 (b.Int I32) 0 (codes "main") []) [] (Some (stmt 2 15 (s.Block (
    stmt 2 17 (s.Value (Some x))
    ∷ stmt 2 col (s.Return (Some (expr 2 (col + 7) (e.Number 0 I32))))
    ∷ [])))))

-- print((long)F(P)); where F is the builtin of this name
abbrev pub print_bound : (name : List ℕ) → Expr → Expr
print_bound name p = expr 2 17 (e.Call (codes "print") (expr 2 23 (e.Cast (b.Int I64) 0 (expr 2 29 (e.Call name (p ∷ [])))) ∷ []))

-- the layout of a source without frames and literals, whose one function is the symbol behind its globals
abbrev pub one_global : SourceLayout
one_global = record { globals = 0 ∷ []; functions = 1 ∷ []; texts = 2; literals = []; frames = record { size = 0; stands = [] } ∷ [] }

abbrev pub two_globals : SourceLayout
two_globals = record { globals = 0 ∷ 1 ∷ []; functions = 2 ∷ []; texts = 3; literals = []; frames = record { size = 0; stands = [] } ∷ [] }

-- ---- bounds that flags decide

-- struct T { int n; int v[2]; }; struct T t;
-- int main(void){ print((long)__builtin___bnd_get_ptr_lbound(&t.v)); return 0; }
abbrev pub trailing_array : Source
trailing_array = record {
  tree = record {
    items = item 1 1 (k.Struct (codes "T") (decl 1 12 (b.Int I32) 0 (codes "n") [] ∷ decl 1 19 (b.Int I32) 0 (codes "v") (expr 1 25 (e.Number 2 I32) ∷ []) ∷ []))
        ∷ item 1 32 (k.Var false (decl 1 32 (b.Struct (codes "T")) 0 (codes "t") []) None)
        ∷ main_does (print_bound (codes "__builtin___bnd_get_ptr_lbound") (expr 2 60 (e.Unary u.AddressOf (expr 2 61 (e.Member (expr 2 61 (e.Var (codes "t"))) (codes "v")))))) 68
        ∷ [];
  };
  meanings = record {
    kinds = Int I32 ∷ Struct 0 ∷ Array (Int I32) 2 ∷ Pointer (Array (Int I32) 2) ∷ Pointer Void ∷ Int I64 ∷ Void ∷ Int I32 ∷ [];
    binds = Global 0 ∷ Fun 0 ∷ Global 0 ∷ Builtin on_bounds.LowerBound ∷ Service in_c.Print ∷ [];
    declared = Int I32 ∷ Array (Int I32) 2 ∷ Struct 0 ∷ Int I32 ∷ [];
  };
  layout = one_global;
  literals = [];
}

-- int a[2][3];
abbrev pub two_rows : Item
two_rows = item 1 1 (k.Var false (decl 1 1 (b.Int I32) 0 (codes "a") (expr 1 7 (e.Number 2 I32) ∷ expr 1 10 (e.Number 3 I32) ∷ [])) None)

-- int a[2][3];
-- int main(void){ print((long)__builtin___bnd_get_ptr_ubound(&a[0][0])); return 0; }
abbrev pub nested_array : Source
nested_array = record {
  tree = record {
    items = two_rows
        ∷ main_does (print_bound (codes "__builtin___bnd_get_ptr_ubound") (expr 2 60 (e.Unary u.AddressOf (expr 2 61 (e.Index (expr 2 61 (e.Index (expr 2 61 (e.Var (codes "a"))) (expr 2 63 (e.Number 0 I32)))) (expr 2 66 (e.Number 0 I32))))))) 72
        ∷ [];
  };
  meanings = record {
    kinds = Int I32 ∷ Int I32 ∷ Array (Array (Int I32) 3) 2 ∷ Int I32 ∷ Array (Int I32) 3 ∷ Int I32 ∷ Int I32 ∷ Pointer (Int I32) ∷ Pointer Void ∷ Int I64 ∷ Void ∷ Int I32 ∷ [];
    binds = Global 0 ∷ Fun 0 ∷ Global 0 ∷ Builtin on_bounds.UpperBound ∷ Service in_c.Print ∷ [];
    declared = Array (Array (Int I32) 3) 2 ∷ Int I32 ∷ [];
  };
  layout = one_global;
  literals = [];
}

-- int a[2][3];
-- int main(void){ print((long)__builtin___bnd_get_ptr_ubound(&(*a)[0])); return 0; }
abbrev pub row_pointed_to : Source
row_pointed_to = record {
  tree = record {
    items = two_rows
        ∷ main_does (print_bound (codes "__builtin___bnd_get_ptr_ubound") (expr 2 60 (e.Unary u.AddressOf (expr 2 61 (e.Index (expr 2 62 (e.Unary u.Deref (expr 2 63 (e.Var (codes "a"))))) (expr 2 66 (e.Number 0 I32))))))) 72
        ∷ [];
  };
  meanings = record {
    kinds = Int I32 ∷ Int I32 ∷ Array (Array (Int I32) 3) 2 ∷ Array (Int I32) 3 ∷ Int I32 ∷ Int I32 ∷ Pointer (Int I32) ∷ Pointer Void ∷ Int I64 ∷ Void ∷ Int I32 ∷ [];
    binds = Global 0 ∷ Fun 0 ∷ Global 0 ∷ Builtin on_bounds.UpperBound ∷ Service in_c.Print ∷ [];
    declared = Array (Array (Int I32) 3) 2 ∷ Int I32 ∷ [];
  };
  layout = one_global;
  literals = [];
}

-- ---- accesses that leave bounds

-- char a[4];
abbrev pub four_bytes : Item
four_bytes = item 1 1 (k.Var false (decl 1 1 (b.Int I8) 0 (codes "a") (expr 1 8 (e.Number 4 I32) ∷ [])) None)

-- char a[4];
-- int main(void){ ++(a[4]); return 0; }
abbrev pub steps_element_4 : Source
steps_element_4 = record {
  tree = record {
    items = four_bytes
        ∷ main_does (expr 2 17 (e.StepBy true true (expr 2 20 (e.Index (expr 2 20 (e.Var (codes "a"))) (expr 2 22 (e.Number 4 I32)))))) 27
        ∷ [];
  };
  meanings = record {
    kinds = Int I32 ∷ Array (Int I8) 4 ∷ Int I32 ∷ Int I8 ∷ Int I8 ∷ Int I32 ∷ [];
    binds = Global 0 ∷ Fun 0 ∷ Global 0 ∷ [];
    declared = Array (Int I8) 4 ∷ Int I32 ∷ [];
  };
  layout = one_global;
  literals = [];
}

-- char a[4];
-- int main(void){ (a[4]) += 1; return 0; }
abbrev pub adds_to_element_4 : Source
adds_to_element_4 = record {
  tree = record {
    items = four_bytes
        ∷ main_does (expr 2 17 (e.Assign (Some a.Add) (expr 2 18 (e.Index (expr 2 18 (e.Var (codes "a"))) (expr 2 20 (e.Number 4 I32)))) (expr 2 27 (e.Number 1 I32)))) 30
        ∷ [];
  };
  meanings = record {
    kinds = Int I32 ∷ Array (Int I8) 4 ∷ Int I32 ∷ Int I8 ∷ Int I32 ∷ Int I8 ∷ Int I32 ∷ [];
    binds = Global 0 ∷ Fun 0 ∷ Global 0 ∷ [];
    declared = Array (Int I8) 4 ∷ Int I32 ∷ [];
  };
  layout = one_global;
  literals = [];
}

-- struct S { int n; int m; }; struct S s; char c[4];
abbrev pub struct_and_bytes : List Item
struct_and_bytes =
    item 1 1 (k.Struct (codes "S") (decl 1 12 (b.Int I32) 0 (codes "n") [] ∷ decl 1 19 (b.Int I32) 0 (codes "m") [] ∷ []))
    ∷ item 1 29 (k.Var false (decl 1 29 (b.Struct (codes "S")) 0 (codes "s") []) None)
    ∷ item 1 41 (k.Var false (decl 1 41 (b.Int I8) 0 (codes "c") (expr 1 48 (e.Number 4 I32) ∷ [])) None)
    ∷ []

-- struct S { int n; int m; }; struct S s; char c[4];
-- int main(void){ s = *(struct S *)c; return 0; }
abbrev pub copies_from_bytes : Source
copies_from_bytes = record {
  tree = record {
    items = struct_and_bytes ++ (
        main_does (expr 2 17 (e.Assign None (expr 2 17 (e.Var (codes "s"))) (expr 2 21 (e.Unary u.Deref (expr 2 22 (e.Cast (b.Struct (codes "S")) 1 (expr 2 34 (e.Var (codes "c"))))))))) 37
        ∷ []);
  };
  meanings = record {
    kinds = Int I32 ∷ Struct 0 ∷ Array (Int I8) 4 ∷ Pointer (Struct 0) ∷ Struct 0 ∷ Struct 0 ∷ Int I32 ∷ [];
    binds = Global 0 ∷ Global 1 ∷ Fun 0 ∷ Global 0 ∷ Global 1 ∷ [];
    declared = Int I32 ∷ Int I32 ∷ Struct 0 ∷ Array (Int I8) 4 ∷ Int I32 ∷ [];
  };
  layout = two_globals;
  literals = [];
}

-- struct S { int n; int m; }; struct S s; char c[4];
-- int main(void){ *(struct S *)c = s; return 0; }
abbrev pub copies_to_bytes : Source
copies_to_bytes = record {
  tree = record {
    items = struct_and_bytes ++ (
        main_does (expr 2 17 (e.Assign None (expr 2 17 (e.Unary u.Deref (expr 2 18 (e.Cast (b.Struct (codes "S")) 1 (expr 2 30 (e.Var (codes "c"))))))) (expr 2 34 (e.Var (codes "s"))))) 37
        ∷ []);
  };
  meanings = record {
    kinds = Int I32 ∷ Array (Int I8) 4 ∷ Pointer (Struct 0) ∷ Struct 0 ∷ Struct 0 ∷ Struct 0 ∷ Int I32 ∷ [];
    binds = Global 0 ∷ Global 1 ∷ Fun 0 ∷ Global 1 ∷ Global 0 ∷ [];
    declared = Int I32 ∷ Int I32 ∷ Struct 0 ∷ Array (Int I8) 4 ∷ Int I32 ∷ [];
  };
  layout = two_globals;
  literals = [];
}
