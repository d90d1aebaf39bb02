-- Small programs as syntax trees, each with the types and meanings of its nodes and the layout of its data.
use Rattle.std.specs.Prelude.{ℕ, true, false, None, Some, List, [], ◌∷◌, codes}
use Rattle.mx_base.specs.declared.numbers.IntKind.TheVariants.{I8, I32, I64}
use Rattle.c_tree.specs.declared.operators.UnaryOp.TheVariants as u
use Rattle.c_tree.specs.declared.operators.BinaryOp.TheVariants as o
use Rattle.mx_base.specs.declared.operators.Arithmetic.TheVariants as a
use Rattle.mx_base.specs.declared.operators.Comparison.TheVariants as c
use Rattle.mx_base.specs.declared.services.CService.TheVariants as in_c
use Rattle.c_check_rules.specs.declared.predeclared.Builtin.TheVariants as on_bounds
use Rattle.c_tree.specs.declared.tree.Tree.{Tree}
use Rattle.c_tree.specs.declared.tree.Item.{Item}
use Rattle.c_tree.specs.declared.tree.ItemKind.{ItemKind}
use Rattle.c_tree.specs.declared.tree.ItemKind.TheVariants as k
use Rattle.c_tree.specs.declared.tree.Decl.{Decl}
use Rattle.c_tree.specs.declared.tree.Base.{Base}
use Rattle.c_tree.specs.declared.tree.Base.TheVariants as b
use Rattle.c_tree.specs.declared.tree.Expr.{Expr}
use Rattle.c_tree.specs.declared.tree.ExprKind.{ExprKind}
use Rattle.c_tree.specs.declared.tree.ExprKind.TheVariants as e
use Rattle.c_tree.specs.declared.tree.Init.{Init}
use Rattle.c_tree.specs.declared.tree.InitKind.{InitKind}
use Rattle.c_tree.specs.declared.tree.InitKind.TheVariants as i
use Rattle.c_tree.specs.declared.tree.Stmt.{Stmt}
use Rattle.c_tree.specs.declared.tree.StmtKind.{StmtKind}
use Rattle.c_tree.specs.declared.tree.StmtKind.TheVariants as s
use Rattle.c_types.specs.Types.{Void, Int, Pointer, Array, Struct}
use Rattle.c_check_rules.specs.declared.predeclared.Bind.TheVariants.{Global, Local, Fun, Service, Builtin}
use Rattle.bounds_plan.specs.elaboration.Source.{Private, SourceLayout, Meanings}

-- a source: its tree, the types and meanings of its nodes, where its data stands, and the bytes of its literals
pub record Source : Type 0 where
  pub tree : Tree
  pub meanings : Meanings
  pub layout : SourceLayout
  pub literals : List ℕ

-- ---- nodes by their line and column: an expression, an initialiser, a statement, a declaration and an item
abbrev pub expr : (line col : ℕ) → ExprKind → Expr
expr line col kind = record { place = record { file = 0; line = line; col = col }; kind = kind }

abbrev pub init : (line col : ℕ) → InitKind → Init
init line col kind = record { place = record { file = 0; line = line; col = col }; kind = kind }

abbrev pub stmt : (line col : ℕ) → StmtKind → Stmt
stmt line col kind = record { place = record { file = 0; line = line; col = col }; kind = kind }

abbrev pub decl : (line col : ℕ) → Base → (stars : ℕ) → List ℕ → List Expr → Decl
decl line col base stars name counts = record { place = record { file = 0; line = line; col = col }; base = base; stars = stars; name = name; counts = counts }

abbrev pub item : (line col : ℕ) → ItemKind → Item
item line col kind = record { place = record { file = 0; line = line; col = col }; kind = kind }

-- ---- programs

-- int main(void){ print(7); return 0; }
abbrev pub prints_7 : Source
prints_7 = record {
  tree = record {
    items = item 1 1 (k.Fun (decl 1 1 (b.Int I32) 0 (codes "main") ([])) ([]) (Some (stmt 1 15 (s.Block (stmt 1 17 (s.Value (Some (expr 1 17 (e.Call (codes "print") (expr 1 23 (e.Number 7 I32) ∷ []))))) ∷ stmt 1 27 (s.Return (Some (expr 1 34 (e.Number 0 I32)))) ∷ [])))))
        ∷ [];
  };
  meanings = record {
    kinds = Int I32 ∷ Void ∷ Int I32 ∷ [];
    binds = Fun 0 ∷ Service in_c.Print ∷ [];
    declared = Int I32 ∷ [];
  };
  layout = record { globals = []; functions = 0 ∷ []; texts = 1; literals = []; frames = record { size = 0; stands = [] } ∷ [] };
  literals = [];
}

-- char a[4];
-- int main(void){ a[3]=1; put(a[3]); return 0; }
abbrev pub writes_element_3 : Source
writes_element_3 = record {
  tree = record {
    items = item 1 1 (k.Var false (decl 1 1 (b.Int I8) 0 (codes "a") (expr 1 8 (e.Number 4 I32) ∷ [])) None)
        ∷ item 2 1 (k.Fun (decl 2 1 (b.Int I32) 0 (codes "main") ([])) ([]) (Some (stmt 2 15 (s.Block (stmt 2 17 (s.Value (Some (expr 2 17 (e.Assign None (expr 2 17 (e.Index (expr 2 17 (e.Var (codes "a"))) (expr 2 19 (e.Number 3 I32)))) (expr 2 22 (e.Number 1 I32)))))) ∷ stmt 2 25 (s.Value (Some (expr 2 25 (e.Call (codes "put") (expr 2 29 (e.Index (expr 2 29 (e.Var (codes "a"))) (expr 2 31 (e.Number 3 I32))) ∷ []))))) ∷ stmt 2 36 (s.Return (Some (expr 2 43 (e.Number 0 I32)))) ∷ [])))))
        ∷ [];
  };
  meanings = record {
    kinds = Int I32 ∷ Array (Int I8) 4 ∷ Int I32 ∷ Int I8 ∷ Int I32 ∷ Int I8 ∷ Array (Int I8) 4 ∷ Int I32 ∷ Int I8 ∷ Void ∷ Int I32 ∷ [];
    binds = Global 0 ∷ Fun 0 ∷ Global 0 ∷ Global 0 ∷ Service in_c.Put ∷ [];
    declared = Array (Int I8) 4 ∷ Int I32 ∷ [];
  };
  layout = record { globals = 0 ∷ []; functions = 1 ∷ []; texts = 2; literals = []; frames = record { size = 0; stands = [] } ∷ [] };
  literals = [];
}

-- char a[4];
-- int main(void){ a[4]=1; return 0; }
abbrev pub writes_element_4 : Source
writes_element_4 = record {
  tree = record {
    items = item 1 1 (k.Var false (decl 1 1 (b.Int I8) 0 (codes "a") (expr 1 8 (e.Number 4 I32) ∷ [])) None)
        ∷ item 2 1 (k.Fun (decl 2 1 (b.Int I32) 0 (codes "main") ([])) ([]) (Some (stmt 2 15 (s.Block (stmt 2 17 (s.Value (Some (expr 2 17 (e.Assign None (expr 2 17 (e.Index (expr 2 17 (e.Var (codes "a"))) (expr 2 19 (e.Number 4 I32)))) (expr 2 22 (e.Number 1 I32)))))) ∷ stmt 2 25 (s.Return (Some (expr 2 32 (e.Number 0 I32)))) ∷ [])))))
        ∷ [];
  };
  meanings = record {
    kinds = Int I32 ∷ Array (Int I8) 4 ∷ Int I32 ∷ Int I8 ∷ Int I32 ∷ Int I8 ∷ Int I32 ∷ [];
    binds = Global 0 ∷ Fun 0 ∷ Global 0 ∷ [];
    declared = Array (Int I8) 4 ∷ Int I32 ∷ [];
  };
  layout = record { globals = 0 ∷ []; functions = 1 ∷ []; texts = 2; literals = []; frames = record { size = 0; stands = [] } ∷ [] };
  literals = [];
}

-- char a[4];
-- int main(void){ return *(int *)(a+1); }
abbrev pub reads_past_end : Source
reads_past_end = record {
  tree = record {
    items = item 1 1 (k.Var false (decl 1 1 (b.Int I8) 0 (codes "a") (expr 1 8 (e.Number 4 I32) ∷ [])) None)
        ∷ item 2 1 (k.Fun (decl 2 1 (b.Int I32) 0 (codes "main") ([])) ([]) (Some (stmt 2 15 (s.Block (stmt 2 17 (s.Return (Some (expr 2 24 (e.Unary u.Deref (expr 2 25 (e.Cast (b.Int I32) 1 (expr 2 33 (e.Binary (o.Arithmetic a.Add) (expr 2 33 (e.Var (codes "a"))) (expr 2 35 (e.Number 1 I32)))))))))) ∷ [])))))
        ∷ [];
  };
  meanings = record {
    kinds = Int I32 ∷ Array (Int I8) 4 ∷ Int I32 ∷ Pointer (Int I8) ∷ Pointer (Int I32) ∷ Int I32 ∷ [];
    binds = Global 0 ∷ Fun 0 ∷ Global 0 ∷ [];
    declared = Array (Int I8) 4 ∷ Int I32 ∷ [];
  };
  layout = record { globals = 0 ∷ []; functions = 1 ∷ []; texts = 2; literals = []; frames = record { size = 0; stands = [] } ∷ [] };
  literals = [];
}

-- int main(void){ char *p = alloc(9); int i;
-- for(i=0;i<10;i++){ p[i]=i; print(p[i]); } return 0; }
abbrev pub fills_block : Source
fills_block = record {
  tree = record {
    items = item 1 1 (k.Fun (decl 1 1 (b.Int I32) 0 (codes "main") ([])) ([]) (Some (stmt 1 15 (s.Block (stmt 1 17 (s.Local (decl 1 17 (b.Int I8) 1 (codes "p") ([])) (Some (init 1 27 (i.One (expr 1 27 (e.Call (codes "alloc") (expr 1 33 (e.Number 9 I32) ∷ []))))))) ∷ stmt 1 37 (s.Local (decl 1 37 (b.Int I32) 0 (codes "i") ([])) None) ∷ stmt 2 1 (s.For (Some (expr 2 5 (e.Assign None (expr 2 5 (e.Var (codes "i"))) (expr 2 7 (e.Number 0 I32))))) (Some (expr 2 9 (e.Binary (o.Comparison c.Less) (expr 2 9 (e.Var (codes "i"))) (expr 2 11 (e.Number 10 I32))))) (Some (expr 2 14 (e.StepBy true false (expr 2 14 (e.Var (codes "i")))))) (stmt 2 18 (s.Block (stmt 2 20 (s.Value (Some (expr 2 20 (e.Assign None (expr 2 20 (e.Index (expr 2 20 (e.Var (codes "p"))) (expr 2 22 (e.Var (codes "i"))))) (expr 2 25 (e.Var (codes "i"))))))) ∷ stmt 2 28 (s.Value (Some (expr 2 28 (e.Call (codes "print") (expr 2 34 (e.Index (expr 2 34 (e.Var (codes "p"))) (expr 2 36 (e.Var (codes "i")))) ∷ []))))) ∷ [])))) ∷ stmt 2 43 (s.Return (Some (expr 2 50 (e.Number 0 I32)))) ∷ [])))))
        ∷ [];
  };
  meanings = record {
    kinds = Int I32 ∷ Pointer Void ∷ Int I32 ∷ Int I32 ∷ Int I32 ∷ Int I32 ∷ Int I32 ∷ Int I32 ∷ Int I32 ∷ Int I32 ∷ Pointer (Int I8) ∷ Int I32 ∷ Int I8 ∷ Int I32 ∷ Int I8 ∷ Pointer (Int I8) ∷ Int I32 ∷ Int I8 ∷ Void ∷ Int I32 ∷ [];
    binds = Fun 0 ∷ Local 0 ∷ Service in_c.Alloc ∷ Local 1 ∷ Local 1 ∷ Local 1 ∷ Local 1 ∷ Local 0 ∷ Local 1 ∷ Local 1 ∷ Local 0 ∷ Local 1 ∷ Service in_c.Print ∷ [];
    declared = Int I32 ∷ Pointer (Int I8) ∷ Int I32 ∷ [];
  };
  layout = record { globals = []; functions = 0 ∷ []; texts = 1; literals = []; frames = record { size = 0; stands = Private ∷ Private ∷ [] } ∷ [] };
  literals = [];
}

-- char a[4]; char *g;
-- int main(void){ char *c = (char *)&g; g = a; c[0] = c[0] + 1;
-- c[0] = c[0] - 1;
-- g[4] = 1; return 0; }
abbrev pub keeps_pointer : Source
keeps_pointer = record {
  tree = record {
    items = item 1 1 (k.Var false (decl 1 1 (b.Int I8) 0 (codes "a") (expr 1 8 (e.Number 4 I32) ∷ [])) None)
        ∷ item 1 12 (k.Var false (decl 1 12 (b.Int I8) 1 (codes "g") ([])) None)
        ∷ item 2 1 (k.Fun (decl 2 1 (b.Int I32) 0 (codes "main") ([])) ([]) (Some (stmt 2 15 (s.Block (stmt 2 17 (s.Local (decl 2 17 (b.Int I8) 1 (codes "c") ([])) (Some (init 2 27 (i.One (expr 2 27 (e.Cast (b.Int I8) 1 (expr 2 35 (e.Unary u.AddressOf (expr 2 36 (e.Var (codes "g"))))))))))) ∷ stmt 2 39 (s.Value (Some (expr 2 39 (e.Assign None (expr 2 39 (e.Var (codes "g"))) (expr 2 43 (e.Var (codes "a"))))))) ∷ stmt 2 46 (s.Value (Some (expr 2 46 (e.Assign None (expr 2 46 (e.Index (expr 2 46 (e.Var (codes "c"))) (expr 2 48 (e.Number 0 I32)))) (expr 2 53 (e.Binary (o.Arithmetic a.Add) (expr 2 53 (e.Index (expr 2 53 (e.Var (codes "c"))) (expr 2 55 (e.Number 0 I32)))) (expr 2 60 (e.Number 1 I32)))))))) ∷ stmt 3 1 (s.Value (Some (expr 3 1 (e.Assign None (expr 3 1 (e.Index (expr 3 1 (e.Var (codes "c"))) (expr 3 3 (e.Number 0 I32)))) (expr 3 8 (e.Binary (o.Arithmetic a.Sub) (expr 3 8 (e.Index (expr 3 8 (e.Var (codes "c"))) (expr 3 10 (e.Number 0 I32)))) (expr 3 15 (e.Number 1 I32)))))))) ∷ stmt 4 1 (s.Value (Some (expr 4 1 (e.Assign None (expr 4 1 (e.Index (expr 4 1 (e.Var (codes "g"))) (expr 4 3 (e.Number 4 I32)))) (expr 4 8 (e.Number 1 I32)))))) ∷ stmt 4 11 (s.Return (Some (expr 4 18 (e.Number 0 I32)))) ∷ [])))))
        ∷ [];
  };
  meanings = record {
    kinds = Int I32 ∷ Pointer (Int I8) ∷ Pointer (Pointer (Int I8)) ∷ Pointer (Int I8) ∷ Pointer (Int I8) ∷ Array (Int I8) 4 ∷ Pointer (Int I8) ∷ Pointer (Int I8) ∷ Int I32 ∷ Int I8 ∷ Pointer (Int I8) ∷ Int I32 ∷ Int I8 ∷ Int I32 ∷ Int I32 ∷ Int I8 ∷ Pointer (Int I8) ∷ Int I32 ∷ Int I8 ∷ Pointer (Int I8) ∷ Int I32 ∷ Int I8 ∷ Int I32 ∷ Int I32 ∷ Int I8 ∷ Pointer (Int I8) ∷ Int I32 ∷ Int I8 ∷ Int I32 ∷ Int I8 ∷ Int I32 ∷ [];
    binds = Global 0 ∷ Global 1 ∷ Fun 0 ∷ Local 0 ∷ Global 1 ∷ Global 1 ∷ Global 0 ∷ Local 0 ∷ Local 0 ∷ Local 0 ∷ Local 0 ∷ Global 1 ∷ [];
    declared = Array (Int I8) 4 ∷ Pointer (Int I8) ∷ Int I32 ∷ Pointer (Int I8) ∷ [];
  };
  layout = record { globals = 0 ∷ 1 ∷ []; functions = 2 ∷ []; texts = 3; literals = []; frames = record { size = 0; stands = Private ∷ [] } ∷ [] };
  literals = [];
}

-- char a[4]; char *g;
-- int main(void){ char *c = (char *)&g; g = a; c[0] = c[0] + 1;
-- g[4] = 1; return 0; }
abbrev pub spoils_pointer : Source
spoils_pointer = record {
  tree = record {
    items = item 1 1 (k.Var false (decl 1 1 (b.Int I8) 0 (codes "a") (expr 1 8 (e.Number 4 I32) ∷ [])) None)
        ∷ item 1 12 (k.Var false (decl 1 12 (b.Int I8) 1 (codes "g") ([])) None)
        ∷ item 2 1 (k.Fun (decl 2 1 (b.Int I32) 0 (codes "main") ([])) ([]) (Some (stmt 2 15 (s.Block (stmt 2 17 (s.Local (decl 2 17 (b.Int I8) 1 (codes "c") ([])) (Some (init 2 27 (i.One (expr 2 27 (e.Cast (b.Int I8) 1 (expr 2 35 (e.Unary u.AddressOf (expr 2 36 (e.Var (codes "g"))))))))))) ∷ stmt 2 39 (s.Value (Some (expr 2 39 (e.Assign None (expr 2 39 (e.Var (codes "g"))) (expr 2 43 (e.Var (codes "a"))))))) ∷ stmt 2 46 (s.Value (Some (expr 2 46 (e.Assign None (expr 2 46 (e.Index (expr 2 46 (e.Var (codes "c"))) (expr 2 48 (e.Number 0 I32)))) (expr 2 53 (e.Binary (o.Arithmetic a.Add) (expr 2 53 (e.Index (expr 2 53 (e.Var (codes "c"))) (expr 2 55 (e.Number 0 I32)))) (expr 2 60 (e.Number 1 I32)))))))) ∷ stmt 3 1 (s.Value (Some (expr 3 1 (e.Assign None (expr 3 1 (e.Index (expr 3 1 (e.Var (codes "g"))) (expr 3 3 (e.Number 4 I32)))) (expr 3 8 (e.Number 1 I32)))))) ∷ stmt 3 11 (s.Return (Some (expr 3 18 (e.Number 0 I32)))) ∷ [])))))
        ∷ [];
  };
  meanings = record {
    kinds = Int I32 ∷ Pointer (Int I8) ∷ Pointer (Pointer (Int I8)) ∷ Pointer (Int I8) ∷ Pointer (Int I8) ∷ Array (Int I8) 4 ∷ Pointer (Int I8) ∷ Pointer (Int I8) ∷ Int I32 ∷ Int I8 ∷ Pointer (Int I8) ∷ Int I32 ∷ Int I8 ∷ Int I32 ∷ Int I32 ∷ Int I8 ∷ Pointer (Int I8) ∷ Int I32 ∷ Int I8 ∷ Int I32 ∷ Int I8 ∷ Int I32 ∷ [];
    binds = Global 0 ∷ Global 1 ∷ Fun 0 ∷ Local 0 ∷ Global 1 ∷ Global 1 ∷ Global 0 ∷ Local 0 ∷ Local 0 ∷ Global 1 ∷ [];
    declared = Array (Int I8) 4 ∷ Pointer (Int I8) ∷ Int I32 ∷ Pointer (Int I8) ∷ [];
  };
  layout = record { globals = 0 ∷ 1 ∷ []; functions = 2 ∷ []; texts = 3; literals = []; frames = record { size = 0; stands = Private ∷ [] } ∷ [] };
  literals = [];
}

-- char a[4];
-- int main(void){ char **p = alloc(2097152); p[0]=a; p[1]=a; p[131072]=a; return 0; }
abbrev pub spreads_pointers : Source
spreads_pointers = record {
  tree = record {
    items = item 1 1 (k.Var false (decl 1 1 (b.Int I8) 0 (codes "a") (expr 1 8 (e.Number 4 I32) ∷ [])) None)
        ∷ item 2 1 (k.Fun (decl 2 1 (b.Int I32) 0 (codes "main") ([])) ([]) (Some (stmt 2 15 (s.Block (stmt 2 17 (s.Local (decl 2 17 (b.Int I8) 2 (codes "p") ([])) (Some (init 2 28 (i.One (expr 2 28 (e.Call (codes "alloc") (expr 2 34 (e.Number 2097152 I32) ∷ []))))))) ∷ stmt 2 44 (s.Value (Some (expr 2 44 (e.Assign None (expr 2 44 (e.Index (expr 2 44 (e.Var (codes "p"))) (expr 2 46 (e.Number 0 I32)))) (expr 2 49 (e.Var (codes "a"))))))) ∷ stmt 2 52 (s.Value (Some (expr 2 52 (e.Assign None (expr 2 52 (e.Index (expr 2 52 (e.Var (codes "p"))) (expr 2 54 (e.Number 1 I32)))) (expr 2 57 (e.Var (codes "a"))))))) ∷ stmt 2 60 (s.Value (Some (expr 2 60 (e.Assign None (expr 2 60 (e.Index (expr 2 60 (e.Var (codes "p"))) (expr 2 62 (e.Number 131072 I32)))) (expr 2 70 (e.Var (codes "a"))))))) ∷ stmt 2 73 (s.Return (Some (expr 2 80 (e.Number 0 I32)))) ∷ [])))))
        ∷ [];
  };
  meanings = record {
    kinds = Int I32 ∷ Int I32 ∷ Pointer Void ∷ Pointer (Pointer (Int I8)) ∷ Int I32 ∷ Pointer (Int I8) ∷ Array (Int I8) 4 ∷ Pointer (Int I8) ∷ Pointer (Pointer (Int I8)) ∷ Int I32 ∷ Pointer (Int I8) ∷ Array (Int I8) 4 ∷ Pointer (Int I8) ∷ Pointer (Pointer (Int I8)) ∷ Int I32 ∷ Pointer (Int I8) ∷ Array (Int I8) 4 ∷ Pointer (Int I8) ∷ Int I32 ∷ [];
    binds = Global 0 ∷ Fun 0 ∷ Local 0 ∷ Service in_c.Alloc ∷ Local 0 ∷ Global 0 ∷ Local 0 ∷ Global 0 ∷ Local 0 ∷ Global 0 ∷ [];
    declared = Array (Int I8) 4 ∷ Int I32 ∷ Pointer (Pointer (Int I8)) ∷ [];
  };
  layout = record { globals = 0 ∷ []; functions = 1 ∷ []; texts = 2; literals = []; frames = record { size = 0; stands = Private ∷ [] } ∷ [] };
  literals = [];
}

-- int main(void){ long *p = __builtin___bnd_init_ptr_bounds((void *)-1); print(*p); return 0; }
abbrev pub reads_last_byte : Source
reads_last_byte = record {
  tree = record {
    items = item 1 1 (k.Fun (decl 1 1 (b.Int I32) 0 (codes "main") ([])) ([]) (Some (stmt 1 15 (s.Block (stmt 1 17 (s.Local (decl 1 17 (b.Int I64) 1 (codes "p") ([])) (Some (init 1 27 (i.One (expr 1 27 (e.Call (codes "__builtin___bnd_init_ptr_bounds") (expr 1 59 (e.Cast b.Void 1 (expr 1 67 (e.Unary u.Neg (expr 1 68 (e.Number 1 I32))))) ∷ []))))))) ∷ stmt 1 72 (s.Value (Some (expr 1 72 (e.Call (codes "print") (expr 1 78 (e.Unary u.Deref (expr 1 79 (e.Var (codes "p")))) ∷ []))))) ∷ stmt 1 83 (s.Return (Some (expr 1 90 (e.Number 0 I32)))) ∷ [])))))
        ∷ [];
  };
  meanings = record {
    kinds = Int I32 ∷ Int I32 ∷ Pointer Void ∷ Pointer Void ∷ Pointer (Int I64) ∷ Int I64 ∷ Void ∷ Int I32 ∷ [];
    binds = Fun 0 ∷ Local 0 ∷ Builtin on_bounds.InitBounds ∷ Local 0 ∷ Service in_c.Print ∷ [];
    declared = Int I32 ∷ Pointer (Int I64) ∷ [];
  };
  layout = record { globals = []; functions = 0 ∷ []; texts = 1; literals = []; frames = record { size = 0; stands = Private ∷ [] } ∷ [] };
  literals = [];
}

-- struct S { int a; int b[2]; int c; }; struct S s;
-- int main(void){ print((long)__builtin___bnd_get_ptr_lbound(&s.a)); print((long)__builtin___bnd_get_ptr_ubound(&s.a)); print((long)__builtin___bnd_get_ptr_lbound(&s.b)); print((long)__builtin___bnd_get_ptr_ubound(&s.b)); return 0; }
abbrev pub prints_members : Source
prints_members = record {
  tree = record {
    items = item 1 1 (k.Struct (codes "S") (decl 1 12 (b.Int I32) 0 (codes "a") ([]) ∷ decl 1 19 (b.Int I32) 0 (codes "b") (expr 1 25 (e.Number 2 I32) ∷ []) ∷ decl 1 29 (b.Int I32) 0 (codes "c") ([]) ∷ []))
        ∷ item 1 39 (k.Var false (decl 1 39 (b.Struct (codes "S")) 0 (codes "s") ([])) None)
        ∷ item 2 1 (k.Fun (decl 2 1 (b.Int I32) 0 (codes "main") ([])) ([]) (Some (stmt 2 15 (s.Block (stmt 2 17 (s.Value (Some (expr 2 17 (e.Call (codes "print") (expr 2 23 (e.Cast (b.Int I64) 0 (expr 2 29 (e.Call (codes "__builtin___bnd_get_ptr_lbound") (expr 2 60 (e.Unary u.AddressOf (expr 2 61 (e.Member (expr 2 61 (e.Var (codes "s"))) (codes "a")))) ∷ [])))) ∷ []))))) ∷ stmt 2 68 (s.Value (Some (expr 2 68 (e.Call (codes "print") (expr 2 74 (e.Cast (b.Int I64) 0 (expr 2 80 (e.Call (codes "__builtin___bnd_get_ptr_ubound") (expr 2 111 (e.Unary u.AddressOf (expr 2 112 (e.Member (expr 2 112 (e.Var (codes "s"))) (codes "a")))) ∷ [])))) ∷ []))))) ∷ stmt 2 119 (s.Value (Some (expr 2 119 (e.Call (codes "print") (expr 2 125 (e.Cast (b.Int I64) 0 (expr 2 131 (e.Call (codes "__builtin___bnd_get_ptr_lbound") (expr 2 162 (e.Unary u.AddressOf (expr 2 163 (e.Member (expr 2 163 (e.Var (codes "s"))) (codes "b")))) ∷ [])))) ∷ []))))) ∷ stmt 2 170 (s.Value (Some (expr 2 170 (e.Call (codes "print") (expr 2 176 (e.Cast (b.Int I64) 0 (expr 2 182 (e.Call (codes "__builtin___bnd_get_ptr_ubound") (expr 2 213 (e.Unary u.AddressOf (expr 2 214 (e.Member (expr 2 214 (e.Var (codes "s"))) (codes "b")))) ∷ [])))) ∷ []))))) ∷ stmt 2 221 (s.Return (Some (expr 2 228 (e.Number 0 I32)))) ∷ [])))))
        ∷ [];
  };
  meanings = record {
    kinds = Int I32 ∷ Struct 0 ∷ Int I32 ∷ Pointer (Int I32) ∷ Pointer Void ∷ Int I64 ∷ Void ∷ Struct 0 ∷ Int I32 ∷ Pointer (Int I32) ∷ Pointer Void ∷ Int I64 ∷ Void ∷ Struct 0 ∷ Array (Int I32) 2 ∷ Pointer (Array (Int I32) 2) ∷ Pointer Void ∷ Int I64 ∷ Void ∷ Struct 0 ∷ Array (Int I32) 2 ∷ Pointer (Array (Int I32) 2) ∷ Pointer Void ∷ Int I64 ∷ Void ∷ Int I32 ∷ [];
    binds = Global 0 ∷ Fun 0 ∷ Global 0 ∷ Builtin on_bounds.LowerBound ∷ Service in_c.Print ∷ Global 0 ∷ Builtin on_bounds.UpperBound ∷ Service in_c.Print ∷ Global 0 ∷ Builtin on_bounds.LowerBound ∷ Service in_c.Print ∷ Global 0 ∷ Builtin on_bounds.UpperBound ∷ Service in_c.Print ∷ [];
    declared = Int I32 ∷ Array (Int I32) 2 ∷ Int I32 ∷ Struct 0 ∷ Int I32 ∷ [];
  };
  layout = record { globals = 0 ∷ []; functions = 1 ∷ []; texts = 2; literals = []; frames = record { size = 0; stands = [] } ∷ [] };
  literals = [];
}

-- struct P { char *x; char *y; };
-- char a[4]; char b[2]; struct P s; struct P t;
-- int main(void){ s.x = a; s.y = b; t = s; t.x[3] = 1;
-- t.y[2] = 1; return 0; }
abbrev pub copies_pointers : Source
copies_pointers = record {
  tree = record {
    items = item 1 1 (k.Struct (codes "P") (decl 1 12 (b.Int I8) 1 (codes "x") ([]) ∷ decl 1 21 (b.Int I8) 1 (codes "y") ([]) ∷ []))
        ∷ item 2 1 (k.Var false (decl 2 1 (b.Int I8) 0 (codes "a") (expr 2 8 (e.Number 4 I32) ∷ [])) None)
        ∷ item 2 12 (k.Var false (decl 2 12 (b.Int I8) 0 (codes "b") (expr 2 19 (e.Number 2 I32) ∷ [])) None)
        ∷ item 2 23 (k.Var false (decl 2 23 (b.Struct (codes "P")) 0 (codes "s") ([])) None)
        ∷ item 2 35 (k.Var false (decl 2 35 (b.Struct (codes "P")) 0 (codes "t") ([])) None)
        ∷ item 3 1 (k.Fun (decl 3 1 (b.Int I32) 0 (codes "main") ([])) ([]) (Some (stmt 3 15 (s.Block (stmt 3 17 (s.Value (Some (expr 3 17 (e.Assign None (expr 3 17 (e.Member (expr 3 17 (e.Var (codes "s"))) (codes "x"))) (expr 3 23 (e.Var (codes "a"))))))) ∷ stmt 3 26 (s.Value (Some (expr 3 26 (e.Assign None (expr 3 26 (e.Member (expr 3 26 (e.Var (codes "s"))) (codes "y"))) (expr 3 32 (e.Var (codes "b"))))))) ∷ stmt 3 35 (s.Value (Some (expr 3 35 (e.Assign None (expr 3 35 (e.Var (codes "t"))) (expr 3 39 (e.Var (codes "s"))))))) ∷ stmt 3 42 (s.Value (Some (expr 3 42 (e.Assign None (expr 3 42 (e.Index (expr 3 42 (e.Member (expr 3 42 (e.Var (codes "t"))) (codes "x"))) (expr 3 46 (e.Number 3 I32)))) (expr 3 51 (e.Number 1 I32)))))) ∷ stmt 4 1 (s.Value (Some (expr 4 1 (e.Assign None (expr 4 1 (e.Index (expr 4 1 (e.Member (expr 4 1 (e.Var (codes "t"))) (codes "y"))) (expr 4 5 (e.Number 2 I32)))) (expr 4 10 (e.Number 1 I32)))))) ∷ stmt 4 13 (s.Return (Some (expr 4 20 (e.Number 0 I32)))) ∷ [])))))
        ∷ [];
  };
  meanings = record {
    kinds = Int I32 ∷ Int I32 ∷ Struct 0 ∷ Pointer (Int I8) ∷ Array (Int I8) 4 ∷ Pointer (Int I8) ∷ Struct 0 ∷ Pointer (Int I8) ∷ Array (Int I8) 2 ∷ Pointer (Int I8) ∷ Struct 0 ∷ Struct 0 ∷ Struct 0 ∷ Struct 0 ∷ Pointer (Int I8) ∷ Int I32 ∷ Int I8 ∷ Int I32 ∷ Int I8 ∷ Struct 0 ∷ Pointer (Int I8) ∷ Int I32 ∷ Int I8 ∷ Int I32 ∷ Int I8 ∷ Int I32 ∷ [];
    binds = Global 0 ∷ Global 1 ∷ Global 2 ∷ Global 3 ∷ Fun 0 ∷ Global 2 ∷ Global 0 ∷ Global 2 ∷ Global 1 ∷ Global 3 ∷ Global 2 ∷ Global 3 ∷ Global 3 ∷ [];
    declared = Pointer (Int I8) ∷ Pointer (Int I8) ∷ Array (Int I8) 4 ∷ Array (Int I8) 2 ∷ Struct 0 ∷ Struct 0 ∷ Int I32 ∷ [];
  };
  layout = record { globals = 0 ∷ 1 ∷ 2 ∷ 3 ∷ []; functions = 4 ∷ []; texts = 5; literals = []; frames = record { size = 0; stands = [] } ∷ [] };
  literals = [];
}

-- int main(void){ int i; for(i=0;;i++) print(i); }
abbrev pub counts : Source
counts = record {
  tree = record {
    items = item 1 1 (k.Fun (decl 1 1 (b.Int I32) 0 (codes "main") ([])) ([]) (Some (stmt 1 15 (s.Block (stmt 1 17 (s.Local (decl 1 17 (b.Int I32) 0 (codes "i") ([])) None) ∷ stmt 1 24 (s.For (Some (expr 1 28 (e.Assign None (expr 1 28 (e.Var (codes "i"))) (expr 1 30 (e.Number 0 I32))))) None (Some (expr 1 33 (e.StepBy true false (expr 1 33 (e.Var (codes "i")))))) (stmt 1 38 (s.Value (Some (expr 1 38 (e.Call (codes "print") (expr 1 44 (e.Var (codes "i")) ∷ []))))))) ∷ [])))))
        ∷ [];
  };
  meanings = record {
    kinds = Int I32 ∷ Int I32 ∷ Int I32 ∷ Int I32 ∷ Int I32 ∷ Int I32 ∷ Void ∷ [];
    binds = Fun 0 ∷ Local 0 ∷ Local 0 ∷ Local 0 ∷ Local 0 ∷ Service in_c.Print ∷ [];
    declared = Int I32 ∷ Int I32 ∷ [];
  };
  layout = record { globals = []; functions = 0 ∷ []; texts = 1; literals = []; frames = record { size = 0; stands = Private ∷ [] } ∷ [] };
  literals = [];
}

-- int f(int n){ if(n==0) return 0; return f(n-1); } int main(void){ return f(2); }
abbrev pub descends_2 : Source
descends_2 = record {
  tree = record {
    items = item 1 1 (k.Fun (decl 1 1 (b.Int I32) 0 (codes "f") ([])) (decl 1 7 (b.Int I32) 0 (codes "n") ([]) ∷ []) (Some (stmt 1 13 (s.Block (stmt 1 15 (s.If (expr 1 18 (e.Binary (o.Comparison c.Equal) (expr 1 18 (e.Var (codes "n"))) (expr 1 21 (e.Number 0 I32)))) (stmt 1 24 (s.Return (Some (expr 1 31 (e.Number 0 I32))))) None) ∷ stmt 1 34 (s.Return (Some (expr 1 41 (e.Call (codes "f") (expr 1 43 (e.Binary (o.Arithmetic a.Sub) (expr 1 43 (e.Var (codes "n"))) (expr 1 45 (e.Number 1 I32))) ∷ []))))) ∷ [])))))
        ∷ item 1 51 (k.Fun (decl 1 51 (b.Int I32) 0 (codes "main") ([])) ([]) (Some (stmt 1 65 (s.Block (stmt 1 67 (s.Return (Some (expr 1 74 (e.Call (codes "f") (expr 1 76 (e.Number 2 I32) ∷ []))))) ∷ [])))))
        ∷ [];
  };
  meanings = record {
    kinds = Int I32 ∷ Int I32 ∷ Int I32 ∷ Int I32 ∷ Int I32 ∷ Int I32 ∷ Int I32 ∷ Int I32 ∷ Int I32 ∷ Int I32 ∷ [];
    binds = Fun 0 ∷ Local 0 ∷ Local 0 ∷ Local 0 ∷ Fun 0 ∷ Fun 1 ∷ Fun 0 ∷ [];
    declared = Int I32 ∷ Int I32 ∷ Int I32 ∷ [];
  };
  layout = record { globals = []; functions = 0 ∷ 1 ∷ []; texts = 2; literals = []; frames = record { size = 0; stands = Private ∷ [] } ∷ record { size = 0; stands = [] } ∷ [] };
  literals = [];
}

-- int f(int n){ if(n==0) return 0; return f(n-1); } int main(void){ return f(1); }
abbrev pub descends_1 : Source
descends_1 = record {
  tree = record {
    items = item 1 1 (k.Fun (decl 1 1 (b.Int I32) 0 (codes "f") ([])) (decl 1 7 (b.Int I32) 0 (codes "n") ([]) ∷ []) (Some (stmt 1 13 (s.Block (stmt 1 15 (s.If (expr 1 18 (e.Binary (o.Comparison c.Equal) (expr 1 18 (e.Var (codes "n"))) (expr 1 21 (e.Number 0 I32)))) (stmt 1 24 (s.Return (Some (expr 1 31 (e.Number 0 I32))))) None) ∷ stmt 1 34 (s.Return (Some (expr 1 41 (e.Call (codes "f") (expr 1 43 (e.Binary (o.Arithmetic a.Sub) (expr 1 43 (e.Var (codes "n"))) (expr 1 45 (e.Number 1 I32))) ∷ []))))) ∷ [])))))
        ∷ item 1 51 (k.Fun (decl 1 51 (b.Int I32) 0 (codes "main") ([])) ([]) (Some (stmt 1 65 (s.Block (stmt 1 67 (s.Return (Some (expr 1 74 (e.Call (codes "f") (expr 1 76 (e.Number 1 I32) ∷ []))))) ∷ [])))))
        ∷ [];
  };
  meanings = record {
    kinds = Int I32 ∷ Int I32 ∷ Int I32 ∷ Int I32 ∷ Int I32 ∷ Int I32 ∷ Int I32 ∷ Int I32 ∷ Int I32 ∷ Int I32 ∷ [];
    binds = Fun 0 ∷ Local 0 ∷ Local 0 ∷ Local 0 ∷ Fun 0 ∷ Fun 1 ∷ Fun 0 ∷ [];
    declared = Int I32 ∷ Int I32 ∷ Int I32 ∷ [];
  };
  layout = record { globals = []; functions = 0 ∷ 1 ∷ []; texts = 2; literals = []; frames = record { size = 0; stands = Private ∷ [] } ∷ record { size = 0; stands = [] } ∷ [] };
  literals = [];
}

-- int main(void){ print(1/0); return 0; }
abbrev pub divides_by_0 : Source
divides_by_0 = record {
  tree = record {
    items = item 1 1 (k.Fun (decl 1 1 (b.Int I32) 0 (codes "main") ([])) ([]) (Some (stmt 1 15 (s.Block (stmt 1 17 (s.Value (Some (expr 1 17 (e.Call (codes "print") (expr 1 23 (e.Binary (o.Arithmetic a.Div) (expr 1 23 (e.Number 1 I32)) (expr 1 25 (e.Number 0 I32))) ∷ []))))) ∷ stmt 1 29 (s.Return (Some (expr 1 36 (e.Number 0 I32)))) ∷ [])))))
        ∷ [];
  };
  meanings = record {
    kinds = Int I32 ∷ Int I32 ∷ Int I32 ∷ Void ∷ Int I32 ∷ [];
    binds = Fun 0 ∷ Service in_c.Print ∷ [];
    declared = Int I32 ∷ [];
  };
  layout = record { globals = []; functions = 0 ∷ []; texts = 1; literals = []; frames = record { size = 0; stands = [] } ∷ [] };
  literals = [];
}

-- int main(void){ char *p = alloc(8); print(free(p)); print(free(p)); print(get()); return 0; }
abbrev pub frees_twice : Source
frees_twice = record {
  tree = record {
    items = item 1 1 (k.Fun (decl 1 1 (b.Int I32) 0 (codes "main") ([])) ([]) (Some (stmt 1 15 (s.Block (stmt 1 17 (s.Local (decl 1 17 (b.Int I8) 1 (codes "p") ([])) (Some (init 1 27 (i.One (expr 1 27 (e.Call (codes "alloc") (expr 1 33 (e.Number 8 I32) ∷ []))))))) ∷ stmt 1 37 (s.Value (Some (expr 1 37 (e.Call (codes "print") (expr 1 43 (e.Call (codes "free") (expr 1 48 (e.Var (codes "p")) ∷ [])) ∷ []))))) ∷ stmt 1 53 (s.Value (Some (expr 1 53 (e.Call (codes "print") (expr 1 59 (e.Call (codes "free") (expr 1 64 (e.Var (codes "p")) ∷ [])) ∷ []))))) ∷ stmt 1 69 (s.Value (Some (expr 1 69 (e.Call (codes "print") (expr 1 75 (e.Call (codes "get") ([])) ∷ []))))) ∷ stmt 1 83 (s.Return (Some (expr 1 90 (e.Number 0 I32)))) ∷ [])))))
        ∷ [];
  };
  meanings = record {
    kinds = Int I32 ∷ Pointer Void ∷ Pointer (Int I8) ∷ Int I32 ∷ Void ∷ Pointer (Int I8) ∷ Int I32 ∷ Void ∷ Int I32 ∷ Void ∷ Int I32 ∷ [];
    binds = Fun 0 ∷ Local 0 ∷ Service in_c.Alloc ∷ Local 0 ∷ Service in_c.Free ∷ Service in_c.Print ∷ Local 0 ∷ Service in_c.Free ∷ Service in_c.Print ∷ Service in_c.Get ∷ Service in_c.Print ∷ [];
    declared = Int I32 ∷ Pointer (Int I8) ∷ [];
  };
  layout = record { globals = []; functions = 0 ∷ []; texts = 1; literals = []; frames = record { size = 0; stands = Private ∷ [] } ∷ [] };
  literals = [];
}
